-- Worked examples of what is typed: the category of E and the lincat of EEng; and a lincat of a category that E lacks, which is
-- refused where it is written and ignored where it is inherited.
use Rattle.std.proofs.Common.{◌≡◌, ap, sym, ◌∙◌, refl, ℕ, true, false, Bool, List, [], ◌∷◌, Option, Some, None, subst, arith}
use Rattle.std.specs.Prelude.{codes, bytes_eq, Contains, slice_get}
use Rattle.gft_core.specs.declared.place.Place.{Place}
use Rattle.gft_rules.specs.declared.rule.Rule.{Rule}
use Rattle.gft_rules.specs.declared.rule.Rule.TheVariants as R
use Rattle.gft_syntax.specs.declared.flat.FlatJudgement.{FlatJudgement}
use Rattle.gft_syntax.specs.declared.judgement.Judgement.{Judgement}
use Rattle.gft_syntax.specs.declared.judgement.Judgement.TheVariants as J
use Rattle.gft_syntax.specs.declared.judgement.Keyword.{Keyword}
use Rattle.gft_syntax.specs.declared.module.Header.TheVariants.{Instance, Concrete}
use Rattle.gft_syntax.specs.declared.module.Inherited.TheVariants.{Whole}
use Rattle.gft_syntax.specs.declared.module.Module.{Module}
use Rattle.gft_syntax.specs.declared.module.Rest.TheVariants.{Inherits}
use Rattle.gft_syntax.specs.declared.pattern.Pattern.{Pattern}
use Rattle.gft_syntax.specs.declared.reference.PlacedName.{PlacedName}
use Rattle.gft_syntax.specs.declared.term.Term.{Term}
use Rattle.gft_model.specs.Flats.{IsEntry, IsOf, AreMeanings, whole_of}
use Rattle.gft_model.specs.JudgementOrder.{HasNew, HasTyped, Ignored}
use Rattle.gft_model.specs.Modules.{Is, Has, declares, is_given, inherits, keeps, instantiates, HasNameable, Means, own_name, at_home, from_opened, for_bare, for_qualified, own, own_text, Declared, Writes, functor_of, header_mentions, inherited_of, inherited_name, judgements_of, opened_of, sort_of}
use Rattle.gft_model.specs.NameFaults
use Rattle.gft_model.specs.Refusals.{Moment}
use Rattle.gft_model.specs.Resolution.{Locals, Names, resolved_judgement}
use Rattle.gft_model.proofs.AcceptedHeaderExamples.{only, had, written}
use Rattle.gft_model.proofs.AcceptedNamesExamples.{one_of, none_of, named, abstract_e, lincat_of, concrete_of, e_eng, mods, is_of_e}

-- nothing means anything
abbrev pub no_names : Names
no_names = record { means = λ q x. None; is_constructor = λ x. false }

module _ (mods : List Module) (M : List ℕ) (m : Module) (j : Judgement) (rest : m.rest ≡ only j)
    (no_instance : (n i : PlacedName) → m.header ≡ Instance n i → ⊥) (is : Is mods M m) where
  opens_none : {k : Module} {o : _} → Is mods M k → Contains (opened_of k) o → ⊥
  opens_none {k} {o} e c =
      let same : k ≡ m = cc in
      let there = subst (λ l. Contains (opened_of l) o) same c in
      none_of (subst (λ r. Contains (opened_of (record { header = m.header; rest = r })) o) rest there)

  -- a name in a judgement means what the module itself has
  pub means_own : {q : Option (List ℕ)} {x : List ℕ} {d : Declared} → Means mods (own M 0) q x d →
      (q ≡ None) × HasNameable mods M x d
  means_own (own_name k (at_home h)) = (refl, h)
  means_own (own_name k (from_opened e (for_bare c n h))) = absurd (opens_none e c)
  means_own (own_name k (from_opened e (for_qualified c q h))) = absurd (opens_none e c)

  -- linearizations are named by nothing
  pub means_nothing : {k : Keyword} {q : Option (List ℕ)} {x : List ℕ} {d : Declared} → sort_of j ≡ Some k →
      Means mods (own M 0) q x d → ⊥
  means_nothing {k} {d = d} s a =
      let h = (means_own a).1 in
      let there = (had mods M m j rest no_instance is h.has).1 in
      let text = written mods M m j rest no_instance is (subst (λ c. Writes mods c h.text) there h.writes) in
      let wrong : Some k ≡ None = sym s ∙ ap sort_of (sym text) ∙ h.nameable in cc

  pub no_meanings : {k : Keyword} → sort_of j ≡ Some k → AreMeanings mods (own M 0) no_names
  no_meanings s = record {
    of_names = λ q x w. (λ h. cc, λ h. absurd (means_nothing s h.means));
    of_constructors = λ x. (λ h. cc, λ h. absurd (means_nothing s h.2));
  }

-- the judgement of EEng under its whole name
abbrev pub lincat_entry : FlatJudgement
lincat_entry =
    record {
      whole = whole_of (codes "S") (own (codes "EEng") 0);
      judgement =
          resolved_judgement no_names (lincat_of (codes "S"));
    }

pub is_entry : IsEntry mods (codes "S") (own (codes "EEng") 0) (lincat_of (codes "S")) lincat_entry
is_entry = record {
  names = no_names;
  meanings = no_meanings mods (codes "EEng") e_eng (lincat_of (codes "S")) refl (λ n i e. cc) refl refl;
  whole = refl;
  judgement = refl;
}

-- E has S, so the lincat is not ignored
not_ignored : ¬ (Ignored mods (header_mentions e_eng.header) (codes "S") (lincat_of (codes "S")))
not_ignored (s, A, c, n) = n (subst (λ (B : PlacedName). IsOf mods B.name (codes "S") (lincat_of (codes "S"))) (one_of c) is_of_e)

pub lincat_is_typed : HasNew mods (header_mentions e_eng.header) (codes "EEng") (3 ∷ 0 ∷ 0 ∷ []) lincat_entry
lincat_is_typed = (
  2,
  0 ∷ 0 ∷ [],
  refl,
  record {
    name = codes "S";
    declared = own (codes "EEng") 0;
    judgement = lincat_of (codes "S");
    has = declares 0 refl refl (0, omega arith, refl);
    turn_is = refl;
    writes = own_text 0 refl refl;
    taken = not_ignored;
    entry = is_entry;
  },
)

-- concrete EEng of E = {lincat T = {s : Str} ;}, and concrete EUs of E = EEng, which inherits it
abbrev t_eng : Module
t_eng = concrete_of (codes "T")

abbrev e_us : Module
e_us = record {
  header = Concrete (named 2 10 (codes "EUs")) (named 2 17 (codes "E"));
  rest = Inherits (Whole (named 2 21 (codes "EEng")) ∷ []);
}

abbrev mods_of_t : List Module
mods_of_t = abstract_e 1 ∷ t_eng ∷ e_us ∷ []

-- E has no T
not_of_e : IsOf mods_of_t (codes "E") (codes "T") (lincat_of (codes "T")) → ⊥
not_of_e (k, d, i, s, h, w, p) =
    let c = (had mods_of_t (codes "E") (abstract_e 1) (J.Cat (named 1 19 (codes "S")) []) refl (λ n i e. cc) refl h).0 in
    let wrong : true ≡ false = ap (λ x. bytes_eq x (codes "S")) (one_of c) in cc

-- so the lincat is refused in EEng
pub t_is_unknown : (is_constructor : List ℕ → Bool) →
    NameFaults.BreaksNames mods_of_t t_eng is_constructor R.Unknown (named 0 30 (codes "T")) []
t_is_unknown is_constructor =
    NameFaults.abstract_lacks {j = lincat_of (codes "T")} {A = named 0 18 (codes "E")}
    (0, omega arith, refl) (0, omega arith, refl) (λ e. cc) (0, omega arith, refl) not_of_e

-- in EUs it is there, and ignored
pub t_is_inherited : Has mods_of_t (codes "EUs") (codes "T") (own (codes "EEng") 0)
t_is_inherited =
    is_given refl (inherits {h = Whole (named 2 21 (codes "EEng"))} (0, omega arith, refl) refl (declares 0 refl refl
    (0, omega arith, refl)))

pub t_is_ignored : Ignored mods_of_t (header_mentions e_us.header) (codes "T") (lincat_of (codes "T"))
t_is_ignored = (λ e. cc, named 2 17 (codes "E"), (0, omega arith, refl), not_of_e)

is_e_us : {m : Module} → Is mods_of_t (codes "EUs") m → m ≡ e_us
is_e_us {m} e = let same : Some e_us ≡ Some m = e in cc

had_in_e_us : {x : List ℕ} {d : Declared} → Has mods_of_t (codes "EUs") x d → Has mods_of_t (codes "EEng") x d
had_in_e_us (declares k {j = j} e g c) =
    let wrong : None ≡ Some j = subst (λ m. slice_get (judgements_of m) k ≡ Some j) (is_e_us e) g in cc
had_in_e_us (is_given e (inherits {x = x} {h = h} {d = d} c l a)) =
    let there = one_of (subst (λ m. Contains (inherited_of m.rest) h) (is_e_us e) c) in
    subst (λ i. Has mods_of_t (inherited_name i) x d) (sym there) a
had_in_e_us (is_given e (keeps f h w u o)) = let same = ap (λ m. m.header) (is_e_us e) in cc
had_in_e_us (is_given e (instantiates f l h)) = let same = ap (λ m. functor_of m.rest) (is_e_us e) in cc

pub nothing_is_typed : (at : Moment) (e : FlatJudgement) → ¬ (HasTyped mods_of_t (header_mentions e_us.header) (codes "EUs") at e)
nothing_is_typed at e h =
    let there =
    had mods_of_t (codes "EEng") t_eng (lincat_of (codes "T")) refl (λ n i f. cc) refl (had_in_e_us h.has) in
    let text : h.judgement ≡ lincat_of (codes "T") =
    written mods_of_t (codes "EEng") t_eng (lincat_of (codes "T")) refl (λ n i f. cc) refl
    (subst (λ d. Writes mods_of_t d h.judgement) there.1 h.writes) in
    let ignored =
    subst (λ x. Ignored mods_of_t (header_mentions e_us.header) x (lincat_of (codes "T"))) (one_of there.0) t_is_ignored in
    h.taken (subst (Ignored mods_of_t (header_mentions e_us.header) h.name) (sym text) ignored)

-- and nothing is broken in the names of EUs itself
module _ (is_constructor : List ℕ → Bool) where
  within_none : {xs : Locals} {b : Bool} {e : Term} → NameFaults.Within mods_of_t e_us is_constructor xs b e → ⊥
  within_none (NameFaults.in_judgement c d) = none_of c
  within_none (NameFaults.in_term w n c) = within_none w

  uses_none : {q : Option (List ℕ)} {n : PlacedName} → NameFaults.Uses mods_of_t e_us is_constructor q n → ⊥
  uses_none (NameFaults.alone w h l) = within_none w
  uses_none (NameFaults.in_brackets w h) = within_none w
  uses_none (NameFaults.of_elements c) = none_of c
  uses_none (NameFaults.before_dot (xs, b, e, q, w, h, i, l) o) = within_none w
  uses_none (NameFaults.after_dot (xs, b, e, q, w, h, i, l) o) = within_none w

  no_pattern : {xs : Locals} {p : Pattern} → NameFaults.HasPattern mods_of_t e_us is_constructor xs p → ⊥
  no_pattern (b, e, c, w, d, i) = within_none w

  in_pattern_none : {xs : Locals} {b : Bool} {q : Option (List ℕ)} {x : List ℕ} {p : Place} →
      NameFaults.InPattern mods_of_t e_us is_constructor xs b q x p → ⊥
  in_pattern_none (NameFaults.bare h e) = no_pattern h
  in_pattern_none (NameFaults.head h e) = no_pattern h

  pub no_name_broken_in_heir : (rule : Rule) (n : PlacedName) (ms : List PlacedName) →
      ¬ (NameFaults.BreaksNames mods_of_t e_us is_constructor rule n ms)
  no_name_broken_in_heir rule n ms (NameFaults.means_nothing u s b) = uses_none u
  no_name_broken_in_heir rule n ms (NameFaults.no_constructor i m) = in_pattern_none i
  no_name_broken_in_heir rule n ms (NameFaults.variable_as_type a w h l) = within_none w
  no_name_broken_in_heir rule n ms (NameFaults.word_alone w h c) = within_none w
  no_name_broken_in_heir rule n ms (NameFaults.abstract_lacks c d s a i) = none_of c
  no_name_broken_in_heir rule n ms (NameFaults.ambiguous_use u c) = uses_none u
  no_name_broken_in_heir rule n ms (NameFaults.ambiguous_constructor i m c) = in_pattern_none i
  no_name_broken_in_heir rule n ms (NameFaults.bound_twice b a h e c) = no_pattern h
  no_name_broken_in_heir rule n ms (NameFaults.bound_on_one_side h e c d f g) = no_pattern h
  no_name_broken_in_heir rule n ms (NameFaults.bound_in_star h e c) = no_pattern h
