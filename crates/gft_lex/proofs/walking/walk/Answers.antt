use Rattle.std.proofs.Common.{◌≡◌, ◌∙◌, ℕ, ◌+◌, List, [], ◌++◌, length, take, drop, sym, ap, subst, arith, Vec, Global}
use Rattle.std.proofs.lemmas.Bool.{eqb-true, eqb-false}
use Rattle.std.proofs.lemmas.List.{nil_from_length, length-take-le, length-drop}
use Rattle.gft_core.specs.declared.place.Place.{Place}
use Rattle.gft_syntax.specs.declared.token.SourceToken.{SourceToken}
use Rattle.gft_model.specs.Refusals.{ByPlace, IsFirst}
use Rattle.gft_model.specs.Source.{first_place}
use Rattle.gft_lex.specs.Later.{IsLater, IsWalked}
use Rattle.gft_lex.specs.Steps.{step_of, place_past, HasRoom, token_of}
use Rattle.gft_lex.proofs.Outcomes.{Passes}
use Rattle.gft_lex.proofs.Places.{past_moved, past_room}
use Rattle.gft_lex.proofs.Walks.{Stands, at_first, stepped, walked, met_passes, refused_first, on_stop, first_of_all, less}
use Rattle.gft_lex.proofs.walking.walk.Goals as goal
use Rattle.gft_lex.proofs.walking.walk.Goals.{In-Ok}

pub returns-then-is_empty-clause-ok : goal.returns-then-is_empty-clause-ok
returns-then-is_empty-clause-ok c =
    let text = c.args.letters.now in
    let none = nil_from_length text (eqb-true (length text) 0 (sym c.if-is_empty.ensures)) in
    subst (IsWalked c.args.file text) (sym c.new-tokens.ensures.items)
    (walked c.args.file text [] (first_place c.args.file) text (at_first c.args.file text c.requires.letters) none)

pub returns-in-Err-clause-err : goal.returns-in-Err-clause-err
returns-in-Err-clause-err c =
    let i = c.lexemes.invariant in
    let p = c.lexemes.place in
    let cs = c.lexemes.rest.now in
    let all = IsLater (first_place c.args.file) c.args.letters.now in
    on_stop (Vec SourceToken Global) c.in-Err.stop (step_of p cs) (IsFirst (ByPlace all)) c.in-Err.ensures
    (λ r e. first_of_all (IsLater p cs) all i.stands.behind i.stands.ahead r (refused_first p cs r i.stands.letters i.some e))

passes : (c : In-Ok) → Passes c.lexemes.place c.lexemes.rest.now c.in-Ok.met
passes c =
    let i = c.lexemes.invariant in
    met_passes c.lexemes.place c.lexemes.rest.now c.in-Ok.met i.stands.letters i.some c.in-Ok.ensures

pub split_at-requires : goal.split_at-requires
split_at-requires c = (passes c).most

pub returns-then-is_empty-2-clause-ok : goal.returns-then-is_empty-2-clause-ok
returns-then-is_empty-2-clause-ok c =
    let a = passes (goal.at.returns-then-is_empty-2-clause-ok c).In-Ok in
    let text = c.args.letters.now in
    let ts = c.lexemes.tokens.items in
    let p = c.lexemes.place in
    let cs = c.lexemes.rest.now in
    let m = c.in-Ok.met in
    let left : drop m.length cs ≡ []
    = sym c.split_at.ensures.back
    ∙ nil_from_length c.split_at.result.1.now (eqb-true (length c.split_at.result.1.now) 0 (sym c.if-is_empty-2.ensures)) in
    subst (IsWalked c.args.file text) (sym c.in_ok-add_token.ensures)
    (walked c.args.file text (ts ++ token_of p m.form) _ (drop m.length cs)
    (stepped c.args.file text ts p cs m c.lexemes.invariant.stands a) left)

pub lexemes-smaller : goal.lexemes-smaller
lexemes-smaller c =
    let a = passes (goal.at.lexemes-smaller c).In-Ok in
    let l = less c.lexemes.place c.lexemes.rest.now c.in-Ok.met a in
    let e = ap length c.split_at.ensures.back in
    omega (arith, l, e)

pub lexemes-preserved : goal.lexemes-preserved
lexemes-preserved c =
    let a = passes (goal.at.lexemes-preserved c).In-Ok in
    let file = c.args.file in
    let text = c.args.letters.now in
    let ts = c.lexemes.tokens.items in
    let p = c.lexemes.place in
    let cs = c.lexemes.rest.now in
    let m = c.in-Ok.met in
    let back = c.split_at.ensures.back in
    let front = c.split_at.ensures.front in
    let at = c.place_past-place.ensures ∙ ap (place_past p) front in
    let more = eqb-false (length c.split_at.result.1.now) 0 (sym c.if-is_empty-2.ensures) in
    let size = length-take-le m.length cs a.most in
    let rest = length-drop m.length cs in
    let left = ap length back in
    let most = a.most in
    let lines = c.lexemes.invariant.room.lines in
    let columns = c.lexemes.invariant.room.columns in
    let room : HasRoom (length (take m.length cs) + length (drop m.length cs)) p
    = record { lines = omega (arith, lines, size, rest, most); columns = omega (arith, columns, size, rest, most) } in
    let S : List SourceToken → Place → List ℕ → Type 0 = λ ts p cs. Stands file text ts p cs in
    record {
      stands = subst (λ ts. S ts c.place_past-place.result c.split_at.result.1.now) (sym c.in_ok-add_token.ensures)
          (subst (λ p. S (ts ++ token_of c.lexemes.place m.form) p c.split_at.result.1.now) (sym (at ∙ past_moved m.length p cs))
          (subst (S (ts ++ token_of p m.form) _) (sym back) (stepped file text ts p cs m c.lexemes.invariant.stands a)));
      some = omega (arith, more);
      room = subst (λ p. HasRoom (length c.split_at.result.1.now) p) (sym at)
          (subst (λ n. HasRoom n (place_past p (take m.length cs))) (sym left)
          (past_room (take m.length cs) (length (drop m.length cs)) p room));
    }
