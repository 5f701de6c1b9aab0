-- What is spelled is read: a descent gives each part that tokens spell, where the rest does not go on with
-- it. So there is one such part, and one such rest.
use Rattle.std.proofs.Common.{◌≡◌, ap, sym, ◌∙◌, subst, refl, ◌∷◌, false, not, ◌&&◌, ◌||◌, Some, None}
use Rattle.gft_syntax.specs.declared.pattern.Pattern.{roll-Pattern}
use Rattle.gft_syntax.specs.declared.pattern.Pattern.TheOpen as P
use Rattle.gft_syntax.specs.declared.reference.Reference.TheVariants.{Written}
use Rattle.gft_syntax.specs.declared.term.Term.TheOpen as T
use Rattle.gft_syntax.specs.declared.token.Symbol.TheVariants as S
use Rattle.gft_model.proofs.GrammarRules as G
use Rattle.gft_model.proofs.GrammarRules.{Tokens, Is, IsNamed, FirstAt, Spells, Part, Meaning, Level, term, pattern, exp, exp1, exp2, exp3, exp4, exp5, exp6, patt, patt1, patt2, patt3, patt4, local, branch, field, alternative, context, constructor, name, bind, placed_name, category_name, inherited, opened, substitution, listed, semicolons, many}
use Rattle.gft_model.proofs.ReadingTokens.{first, Gives, gives-once, now, down, goes, passes, sees, names, starts, continues, stays, allowed, decided}
use Rattle.gft_model.proofs.FirstTokens.{is_sign, is_key, table_key, case_key, variants_key, begins_pattern, projection_goes_on, application_goes_on, term_goes_on, star_goes_on, goes_on, Stops, binds_on, names_ahead, is_binding, no_fields_ahead, opens_list}
use Rattle.gft_model.proofs.Descent.{read, project, apply, select, sequence, alternate, descend, read_more, read_items, read_many, read_type, read_context, read_head, read_argument, read_table, read_operand, read_locals, read_term, read_constructor}
use Rattle.gft_model.proofs.Beginnings.{or-right, excludes, begun-first, quiet-first, first-quiet, quieter, begun}
use Rattle.gft_model.proofs.Lookahead.{unbound, not_open, binds-ahead, branches-ahead, over-ahead, locals-ahead}
use Rattle.gft_model.proofs.Claims.{Claim, Fits, arguments-stop, branches-fit, closes-list, fields-fit, first-of-many, halts, item-stops, locals-fit, no-dot, no-dot-pattern, no-star, not-begun, not-closing, not-semicolon, one_place, opens-not, operand-read, pattern_is, place_is, placed_pattern, placed_term, quiet-all, read-name, read-one, reads, same-sign, stops-local, term_is, terms-fit, unrestricted, up-to-exp, up-to-exp1, up-to-exp2, up-to-exp3, up-to-exp4, up-to-patt, up-to-patt1, up-to-patt2, up-to-patt3, up_to}

pub complete : {g : Part} {ts rest : Tokens} {a : Meaning g} → Spells g ts a rest → Claim g ts a rest
complete (G.one {g = g} {s = s} d) = λ fits stop. read-one g s d (complete d) fits stop
complete (G.more {g = g} {s = s} {us = us} {t = t} {a = a} d h e) = λ fits stop.
    down _ (goes _ (reads g d (complete d) fits.0 (halts g h fits.1))
    (continues _ _ h (decided (λ n b. read_more (descend n (read (listed s g)) us) a t us b) (same-sign s)
    (goes _ (complete e fits stop) (now refl)))))
complete (G.empty {g = g} {ts = ts}) = λ fits stop. down _ (decided (λ n b. read_items (descend n) g ts b) stop (now refl))
complete (G.last {g = g} {ts = ts} {rest = rest} {a = a} d) = λ fits stop.
    down _ (decided (λ n b. read_items (descend n) g ts b) (not-closing g ts fits (begun d))
    (goes _ (reads g d (complete d) fits.0 (item-stops g rest fits stop))
    (stays _ _ (is_sign S.Semicolon) (not-semicolon rest g stop)
    (λ n t us f h. ap (read_more (descend n (read (semicolons g)) us) a t us) h))))
complete (G.next {g = g} {ts = ts} d h e) = λ fits stop.
    down _ (decided (λ n b. read_items (descend n) g ts b) (not-closing g ts fits (begun d))
    (goes _ (reads g d (complete d) fits.0 (halts g h fits.2))
    (continues _ _ h (goes _ (complete e fits stop) (now refl)))))
complete (G.none {g = g} {ts = ts}) = λ fits stop.
    down _ (decided (λ n b. read_many (descend n) g ts b) (not-begun g ts fits.1 stop) (now refl))
complete (G.some {g = g} {ts = ts} {us = us} d e) = λ fits stop.
    down _ (decided (λ n b. read_many (descend n) g ts b) (begun d)
    (goes _ (reads g d (complete d) fits.0 (quiet-all (goes_on g) us fits.2)) (goes _ (complete e fits stop) (now refl))))
complete (G.a_name h) = λ fits stop. down _ (names _ h (now refl))
complete (G.a_variable h) = λ fits stop. down _ (sees _ h (now refl))
complete (G.no_variable h) = λ fits stop. down _ (sees _ h (now refl))
complete (G.a_placed_name h) = λ fits stop. down _ (names _ h (now refl))
complete (G.category_alone h) = λ fits stop. down _ (sees _ h (now refl))
complete (G.category_of_lists {r = r} h i j) = λ fits stop. down _ (sees _ h (names _ i (passes _ r _ j refl (now refl))))
complete (G.infix_term {ts = ts} {rest = rest} {e = e} {p = p} G.alternatives d h f i k) = λ fits stop.
    operand-read ts p (e, rest) i (begun d) (unbound d)
    (goes _ (reads (term exp1) d (complete d) tt (halts (term exp1) h refl))
    (continues _ _ h (goes _ (reads (term exp) f (complete f) tt stop) (now (up_to rest (term_is k))))))
complete (G.infix_term {ts = ts} {rest = rest} {t = t} {e = e} {p = p} G.table_type d h f i k) = λ fits stop.
    let c2 = up-to-exp2 d (complete d) in
    let d2 = G.tighter_term G.below_exp2 d in
    let d1 = G.tighter_term G.below_exp1 d2 in
    operand-read ts p (e, rest) i (begun d1) (unbound d1)
    (goes _ (reads (term exp1) d1 (up-to-exp1 d2 c2) tt (halts (term exp1) h refl))
    (continues _ _ h (goes _ (reads (term exp3) d (complete d) tt (halts (term exp3) h refl))
    (passes _ t _ h refl (goes _ (reads (term exp) f (complete f) tt stop) (now (up_to rest (term_is k))))))))
complete (G.infix_term {ts = ts} {rest = rest} {t = t} {e = e} {p = p} G.function_type d h f i k) = λ fits stop.
    let c3 = up-to-exp3 d (complete d) in
    let d3 = G.tighter_term G.below_exp3 d in
    let d2 = G.tighter_term G.below_exp2 d3 in
    let d1 = G.tighter_term G.below_exp1 d2 in
    operand-read ts p (e, rest) i (begun d1) (unbound d1)
    (goes _ (reads (term exp1) d1 (up-to-exp1 d2 (up-to-exp2 d3 c3)) tt (halts (term exp1) h refl))
    (continues _ _ h (goes _ (reads (term exp4) d (complete d) tt (halts (term exp4) h refl))
    (passes _ t _ h refl (goes _ (reads (term exp) f (complete f) tt stop) (now (up_to rest (term_is k))))))))
complete (G.infix_term {ts = ts} {rest = rest} G.append d h f i k) = λ fits stop.
    down _ (starts ts _ i (goes _ (reads (term exp2) d (complete d) tt (halts (term exp2) h refl))
    (continues _ _ h (goes _ (reads (term exp1) f (complete f) tt stop) (now (up_to rest (term_is k)))))))
complete (G.infix_term {ts = ts} {rest = rest} G.glue d h f i k) = λ fits stop.
    down _ (starts ts _ i (goes _ (reads (term exp3) d (complete d) tt (halts (term exp3) h refl))
    (continues _ _ h (goes _ (reads (term exp2) f (complete f) tt stop) (now (up_to rest (term_is k)))))))
complete (G.infix_term {ts = ts} {rest = rest} {a = a} {b = b} G.selection d h f i k) = λ p j stop out g.
    complete d p j (halts (term exp4) h refl) out
    (down _ (continues _ _ h (goes _ (reads (term exp4) f (complete f) tt stop)
    (subst (λ x. Gives (λ n. descend n (select x p) rest) out) (sym (placed_term (T.Select a b) k (one_place ts i j))) g))))
complete (G.infix_term {ts = ts} {rest = rest} {a = a} {b = b} G.extension d h f i k) = λ p j stop out g.
    complete d p j (halts (term exp4) h refl) out
    (down _ (continues _ _ h (goes _ (reads (term exp4) f (complete f) tt stop)
    (subst (λ x. Gives (λ n. descend n (select x p) rest) out) (sym (placed_term (T.Extend a b) k (one_place ts i j))) g))))
complete (G.infix_term {ts = ts} {rest = rest} {a = a} {b = b} G.pair d h f i k) = λ p j stop out g.
    complete d p j (halts (term exp4) h refl) out
    (down _ (continues _ _ h (goes _ (reads (term exp4) f (complete f) tt stop)
    (subst (λ x. Gives (λ n. descend n (select x p) rest) out) (sym (placed_term (T.Pair a b) k (one_place ts i j))) g))))
complete (G.tighter_term G.below_exp d) = up-to-exp d (complete d)
complete (G.tighter_term G.below_exp1 d) = up-to-exp1 d (complete d)
complete (G.tighter_term G.below_exp2 d) = up-to-exp2 d (complete d)
complete (G.tighter_term G.below_exp3 d) = up-to-exp3 d (complete d)
complete (G.tighter_term G.below_exp4 d) = up-to-exp4 d (complete d)
complete (G.tighter_term {ts = ts} {rest = rest} G.below_exp5 d) = λ p f out g.
    down _ (starts ts _ f (goes _ (reads (term exp6) d (complete d) tt (quiet-all _ rest (λ x. refl))) g))
complete (G.lambda {ts = ts} {rest = rest} {t = t} {u = u} G.of_function h d i f k) = λ fits stop.
    down _ (starts (t ∷ ts) _ refl (decided (λ n b. read_term (descend n) t.place (t ∷ ts) b) (not_open t ts h refl)
    (sees _ h (goes _ (complete d (tt, refl) (halts (listed S.Comma bind) i refl)) (passes _ u _ i refl
    (goes _ (reads (term exp) f (complete f) tt stop) (now (up_to rest (term_is k)))))))))
complete (G.lambda {ts = ts} {rest = rest} {t = t} {u = u} G.of_table h d i f k) = λ fits stop.
    down _ (starts (t ∷ ts) _ refl (decided (λ n b. read_term (descend n) t.place (t ∷ ts) b) (not_open t ts h refl)
    (sees _ h (goes _ (complete d (tt, refl) (halts (listed S.Comma bind) i refl)) (passes _ u _ i refl
    (goes _ (reads (term exp) f (complete f) tt stop) (now (up_to rest (term_is k)))))))))
complete (G.arrow_from {ts = ts} {rest = rest} {t = t} {c = c} {d = q} {u = u} h d i f j l g k) = λ fits stop.
    let bound = ap (λ x. is_sign S.LeftParenthesis x && is_binding ts) h ∙ binds-ahead d (ap binds_on i) in
    down _ (starts (t ∷ ts) _ refl (decided (λ n b. read_term (descend n) t.place (t ∷ ts) b) bound
    (passes _ t _ h refl (goes _ (complete d (tt, refl) (halts (listed S.Comma bind) i refl)) (passes _ c _ i refl
    (goes _ (reads (term exp) f (complete f) tt (halts (term exp) j refl)) (passes _ q _ j refl (passes _ u _ l refl
    (goes _ (reads (term exp) g (complete g) tt stop) (now (up_to rest (term_is k))))))))))))
complete (G.let_in {ts = ts} {rest = rest} {t = t} {u = u} h d i j f k) = λ fits stop.
    down _ (starts (t ∷ ts) _ refl (decided (λ n b. read_term (descend n) t.place (t ∷ ts) b) (not_open t ts h refl)
    (sees _ h (decided (λ n b. read_locals (descend n) t.place ts b) (locals-ahead d i)
    (goes _ (complete d locals-fit (closes-list local i refl)) (passes _ u _ i refl (allowed _ _ j
    (goes _ (reads (term exp) f (complete f) tt stop) (now (up_to rest (term_is k)))))))))))
complete (G.let_braces {ts = ts} {rest = rest} {t = t} {l = l} {r = r} {u = u} h i d j m n f k) = λ fits stop.
    down _ (starts (t ∷ l ∷ ts) _ refl (decided (λ n b. read_term (descend n) t.place (t ∷ l ∷ ts) b) (not_open t (l ∷ ts) h refl)
    (sees _ h (decided (λ n b. read_locals (descend n) t.place (l ∷ ts) b) (ap (is_sign S.LeftBrace) i)
    (passes _ l _ i refl (goes _ (complete d locals-fit (closes-list local j refl)) (passes _ r _ j refl (passes _ u _ m refl (allowed _ _ n
    (goes _ (reads (term exp) f (complete f) tt stop) (now (up_to rest (term_is k)))))))))))))
complete (G.where_locals {ts = ts} {rest = rest} {t = t} {l = l} {r = r} {e = e} {p = p} d h i f j m q k) = λ fits stop.
    let c2 = up-to-exp2 d (complete d) in
    let d2 = G.tighter_term G.below_exp2 d in
    let d1 = G.tighter_term G.below_exp1 d2 in
    operand-read ts p (e, rest) q (begun d1) (unbound d1)
    (goes _ (reads (term exp1) d1 (up-to-exp1 d2 c2) tt (halts (term exp1) h refl))
    (continues _ _ h (goes _ (reads (term exp3) d (complete d) tt (halts (term exp3) h refl))
    (passes _ t _ h refl (passes _ l _ i refl (goes _ (complete f locals-fit (closes-list local j refl)) (passes _ r _ j refl
    (allowed _ _ m (now (up_to rest (term_is k)))))))))))
complete (G.table {ts = ts} {rest = rest} {t = t} {l = l} {r = r} {cs = cs} h i d j k) = λ p f stop out g.
    let opens = first-quiet opens_list rest (quieter application_goes_on opens_list opens-not rest stop) in
    let branches = ap (λ x. is_sign S.LeftBrace x && not (names_ahead ts || no_fields_ahead ts)) i ∙ ap not (branches-ahead d j opens) in
    down _ (starts (t ∷ l ∷ ts) _ f (goes _ (decided (λ n b. read_operand (descend n) p (t ∷ l ∷ ts) b) (ap (is_key table_key) h)
    (passes _ t _ h refl (decided (λ n b. read_table (descend n) p (l ∷ ts) b) branches (passes _ l _ i refl
    (goes _ (complete d branches-fit (closes-list branch j refl)) (passes _ r _ j refl
    (now (up_to rest (placed_term (T.TableOf None cs) k (place_is t (l ∷ ts) f)))))))))) g))
complete (G.table_over {ts = ts} {rest = rest} {t = t} {l = l} {r = r} {a = a} {cs = cs} h d i f j k) = λ p q stop out g.
    down _ (starts (t ∷ ts) _ q (goes _ (decided (λ n b. read_operand (descend n) p (t ∷ ts) b) (ap (is_key table_key) h)
    (passes _ t _ h refl (decided (λ n b. read_table (descend n) p ts b) (over-ahead d (ap opens_list i))
    (goes _ (reads (term exp6) d (complete d) tt refl) (sees _ i (goes _ (complete f branches-fit (closes-list branch j refl)) (passes _ r _ j refl
    (now (up_to rest (placed_term (T.TableOf (Some a) cs) k (place_is t ts q))))))))))) g))
complete (G.table_list {ts = ts} {rest = rest} {t = t} {l = l} {r = r} {a = a} {es = es} h d i f j k) = λ p q stop out g.
    down _ (starts (t ∷ ts) _ q (goes _ (decided (λ n b. read_operand (descend n) p (t ∷ ts) b) (ap (is_key table_key) h)
    (passes _ t _ h refl (decided (λ n b. read_table (descend n) p ts b) (over-ahead d (ap opens_list i))
    (goes _ (reads (term exp6) d (complete d) tt refl) (sees _ i (goes _ (complete f terms-fit (closes-list (term exp) j refl)) (passes _ r _ j refl
    (now (up_to rest (placed_term (T.TableList a es) k (place_is t ts q))))))))))) g))
complete (G.application {ts = ts} {us = us} {rest = rest} {f = f} {a = a} d i j k) = λ p q stop out g.
    complete d p q (quiet-first projection_goes_on us (excludes (term exp5) projection_goes_on no-dot us (begun i))) out
    (down _ (decided (λ n b. read_argument (descend n) f p us b) (begun-first (term exp5) us refl (begun i))
    (goes _ (reads (term exp5) i (complete i) tt stop)
    (subst (λ x. Gives (λ n. descend n (apply x p) rest) out) (sym (placed_term (T.App f a) k (one_place ts j q))) g))))
complete (G.case_of {ts = ts} {rest = rest} {t = t} {o = o} {l = l} {r = r} {a = a} {cs = cs} h d i j f m k) = λ p q stop out g.
    down _ (starts (t ∷ ts) _ q (goes _
    (decided (λ n b. read_head (descend n) p (t ∷ ts) b (first (is_key variants_key) (t ∷ ts))) (ap (is_key case_key) h)
    (passes _ t _ h refl (goes _ (reads (term exp) d (complete d) tt (halts (term exp) i refl)) (passes _ o _ i refl (passes _ l _ j refl
    (goes _ (complete f branches-fit (closes-list branch m refl)) (passes _ r _ m refl
    (now (up_to rest (placed_term (T.CaseOf a cs) k (place_is t ts q))))))))))) g))
complete (G.variants {ts = ts} {rest = rest} {t = t} {l = l} {r = r} {es = es} h i d j k) = λ p q stop out g.
    down _ (starts (t ∷ l ∷ ts) _ q (goes _
    (decided (λ n b. read_head (descend n) p (t ∷ l ∷ ts) b (first (is_key variants_key) (t ∷ l ∷ ts))) (ap (is_key case_key) h)
    (decided (λ n b. read_head (descend n) p (t ∷ l ∷ ts) false b) (ap (is_key variants_key) h)
    (passes _ t _ h refl (passes _ l _ i refl (goes _ (complete d terms-fit (closes-list (term exp) j refl)) (passes _ r _ j refl
    (now (up_to rest (placed_term (T.Variants es) k (place_is t (l ∷ ts) q)))))))))) g))
complete (G.projection {ts = ts} {rest = rest} {a = a} {x = x} d h i f k) = λ p q out g.
    complete d p q out (down _ (continues _ _ h (names _ i
    (subst (λ y. Gives (λ n. descend n (project y p) rest) out) (sym (placed_term (T.Proj a x) k (one_place ts f q))) g))))
complete (G.variable {ts = ts} h k) = λ fits stop. down _ (sees _ h (now (up_to ts (term_is k))))
complete (G.literal {ts = ts} h k) = λ fits stop. down _ (sees _ h.1 (now (up_to ts (term_is k))))
complete (G.literal_in_brackets {ts = ts} {r = r} h i j k) = λ fits stop.
    down _ (sees _ h (sees _ i.1 (passes _ r _ j refl (now (up_to ts (term_is k))))))
complete (G.number {ts = ts} h k) = λ fits stop. down _ (sees _ h.1 (now (up_to ts (term_is k))))
complete (G.no_words {ts = ts} h i k) = λ fits stop. down _ (sees _ h (sees _ i (now (up_to ts (term_is k)))))
complete (G.list_category {ts = ts} {r = r} h i j k) = λ fits stop.
    down _ (sees _ h (sees _ i (passes _ r _ j refl (now (up_to ts (term_is k))))))
complete (G.sort {ts = ts} G.strings h k) = λ fits stop. down _ (sees _ h (now (up_to ts (term_is k))))
complete (G.sort {ts = ts} G.types h k) = λ fits stop. down _ (sees _ h (now (up_to ts (term_is k))))
complete (G.sort {ts = ts} G.parameter_types h k) = λ fits stop. down _ (sees _ h (now (up_to ts (term_is k))))
complete (G.sort {ts = ts} G.numbers h k) = λ fits stop. down _ (sees _ h (now (up_to ts (term_is k))))
complete (G.sort {ts = ts} G.predefined h k) = λ fits stop. down _ (sees _ h (now (up_to ts (term_is k))))
complete (G.fields {rest = rest} {u = u} h d i j k) = λ fits stop.
    down _ (sees _ h (goes _ (complete d locals-fit (closes-list local i refl)) (passes _ u _ i refl (allowed _ _ j (now (up_to rest (term_is k)))))))
complete (G.tuple {rest = rest} h d i k) = λ fits stop.
    down _ (sees _ h (goes _ (complete d (tt, refl) (halts (listed S.Comma (term exp)) i refl)) (sees _ i (now (up_to rest (term_is k))))))
complete (G.typed {rest = rest} {u = u} h d i f j k) = λ fits stop.
    down _ (sees _ h (goes _ (read-one (term exp) S.Comma d (complete d) (tt, refl) (halts (listed S.Comma (term exp)) i refl)) (sees _ i
    (goes _ (reads (term exp) f (complete f) tt (halts (term exp) j refl)) (passes _ u _ j refl (now (up_to rest (term_is k))))))))
complete (G.in_parentheses {u = u} h d i) = λ fits stop.
    down _ (sees _ h (goes _ (reads (term exp) d (complete d) tt (halts (term exp) i refl)) (passes _ u _ i refl (now refl))))
complete (G.local_value {rest = rest} d h f) = λ fits stop.
    down _ (goes _ (complete d (tt, refl) (halts (listed S.Comma name) h refl)) (sees _ h
    (goes _ (reads (term exp) f (complete f) tt (stops-local rest stop)) (now refl))))
complete (G.local_type {rest = rest} {xs = xs} {a = a} d h f) = λ fits stop.
    down _ (goes _ (complete d (tt, refl) (halts (listed S.Comma name) h refl)) (sees _ h
    (goes _ (reads (term exp) f (complete f) tt (stops-local rest stop))
    (stays _ _ (is_sign S.Equals) (quieter (goes_on local) (is_sign S.Equals) (λ x e. or-right (term_goes_on exp x) _ e) rest stop)
    (λ n t us x e. ap (read_type (descend n) xs a t us) e)))))
complete (G.typed_local {rest = rest} d h f i g) = λ fits stop.
    down _ (goes _ (complete d (tt, refl) (halts (listed S.Comma name) h refl)) (sees _ h
    (goes _ (reads (term exp) f (complete f) tt (halts (term exp) i refl)) (continues _ _ i
    (goes _ (reads (term exp) g (complete g) tt (stops-local rest stop)) (now refl))))))
complete (G.a_branch {t = t} d h f) = λ fits stop.
    down _ (goes _ (reads (pattern patt) d (complete d) tt (halts (pattern patt) h refl)) (passes _ t _ h refl
    (goes _ (reads (term exp) f (complete f) tt stop) (now refl))))
complete (G.an_alternative {t = t} {u = u} d h f i g) = λ fits stop.
    down _ (goes _ (complete d (tt, refl) (halts (listed S.Comma name) h refl)) (passes _ t _ h refl
    (goes _ (reads (term exp) f (complete f) tt (halts (term exp) i refl)) (passes _ u _ i refl
    (goes _ (reads (term exp) g (complete g) tt stop) (now refl))))))
complete (G.with_variables {ts = ts} {t = t} {c = c} {d = q} h d i f j) = λ fits stop.
    let bound = ap (λ x. is_sign S.LeftParenthesis x && is_binding ts) h ∙ binds-ahead d (ap binds_on i) in
    down _ (decided (λ n b. read_context (descend n) (t ∷ ts) b) bound
    (passes _ t _ h refl (goes _ (complete d (tt, refl) (halts (listed S.Comma bind) i refl)) (passes _ c _ i refl
    (goes _ (reads (term exp) f (complete f) tt (halts (term exp) j refl)) (passes _ q _ j refl (now refl)))))))
complete (G.without_variables {ts = ts} {rest = rest} d) = λ fits stop.
    down _ (decided (λ n b. read_context (descend n) ts b) (unbound d)
    (goes _ (reads (term exp6) d (complete d) tt (quiet-all _ rest (λ x. refl))) (now refl)))
complete (G.a_constructor h d) = λ fits stop.
    down _ (names _ h (goes _ (complete d (tt, refl, λ x. refl) stop) (now refl)))
complete (G.infix_pattern {ts = ts} {rest = rest} {p = a} {q = b} G.either d h f i k) = λ p j stop out g.
    complete d p j (halts (pattern patt1) h refl) out
    (down _ (continues _ _ h (goes _ (reads (pattern patt1) f (complete f) tt stop)
    (subst (λ x. Gives (λ n. descend n (alternate x p) rest) out) (sym (placed_pattern (P.Or a b) k (one_place ts i j))) g))))
complete (G.infix_pattern {ts = ts} {rest = rest} {p = a} {q = b} G.in_sequence d h f i k) = λ p j stop out g.
    complete d p j (halts (pattern patt2) h refl) out
    (down _ (continues _ _ h (goes _ (reads (pattern patt2) f (complete f) tt stop)
    (subst (λ x. Gives (λ n. descend n (sequence x p) rest) out) (sym (placed_pattern (P.Seq a b) k (one_place ts i j))) g))))
complete (G.tighter_pattern G.below_patt d) = up-to-patt d (complete d)
complete (G.tighter_pattern G.below_patt1 d) = up-to-patt1 d (complete d)
complete (G.tighter_pattern G.below_patt2 d) = up-to-patt2 d (complete d)
complete (G.tighter_pattern G.below_patt3 d) = up-to-patt3 d (complete d)
complete (G.constructor_with {ts = ts} {rest = rest} {t = t} {x = x} h d k) = λ fits stop.
    let b = first-of-many d in
    let q = roll-Pattern (P.Name (Written x) t.place) in
    down _ (starts (t ∷ ts) _ refl
    (goes _ (read-name t ts h (quiet-first star_goes_on ts (excludes (pattern patt4) star_goes_on no-star ts b)))
    (decided (λ n c. read_constructor (descend n) t.place (t ∷ ts) q ts c (first begins_pattern ts))
    (excludes (pattern patt4) (is_sign S.Dot) no-dot-pattern ts b)
    (decided (λ n c. read_constructor (descend n) t.place (t ∷ ts) q ts false c) (begun-first (pattern patt4) ts refl b)
    (names _ h (goes _ (complete d (tt, refl, λ y. refl) (arguments-stop rest stop)) (now (up_to rest (pattern_is k)))))))))
complete (G.constructor_of {ts = ts} {rest = rest} {t = t} {d = d} {u = u} {Q = Q} h i j f k) = λ fits stop.
    let q = roll-Pattern (P.Name (Written Q) t.place) in
    down _ (starts (t ∷ d ∷ u ∷ ts) _ refl (goes _ (read-name t (d ∷ u ∷ ts) h (halts (pattern patt3) i refl))
    (decided (λ n c. read_constructor (descend n) t.place (t ∷ d ∷ u ∷ ts) q (d ∷ u ∷ ts) c (first begins_pattern (d ∷ u ∷ ts))) (ap (is_sign S.Dot) i)
    (names _ h (passes _ d _ i refl (names _ j (goes _ (complete f (tt, refl, λ y. refl) (arguments-stop rest stop)) (now (up_to rest (pattern_is k))))))))))
complete (G.star {ts = ts} {rest = rest} d h f k) = λ fits stop.
    down _ (starts ts _ f (goes _ (reads (pattern patt4) d (complete d) tt refl) (continues _ _ h (now (up_to rest (pattern_is k))))))
complete (G.as_pattern {ts = ts} {rest = rest} {t = t} {u = u} h i d k) = λ fits stop.
    down _ (starts (t ∷ u ∷ ts) _ refl (goes _ (down _ (sees _ h (now refl))) (continues _ _ i (names _ h (passes _ u _ i refl
    (goes _ (reads (pattern patt4) d (complete d) tt (quiet-all _ rest (λ x. refl))) (now (up_to rest (pattern_is k)))))))))
complete (G.anything {ts = ts} h k) = λ fits stop. down _ (sees _ h (now (up_to ts (pattern_is k))))
complete (G.character {ts = ts} h k) = λ fits stop. down _ (sees _ h (now (up_to ts (pattern_is k))))
complete (G.named_pattern {ts = ts} h k) = λ fits stop. down _ (sees _ h (now (up_to ts (pattern_is k))))
complete (G.text_pattern {ts = ts} h k) = λ fits stop. down _ (sees _ h.1 (now (up_to ts (pattern_is k))))
complete (G.number_pattern {ts = ts} h k) = λ fits stop. down _ (sees _ h.1 (now (up_to ts (pattern_is k))))
complete (G.record_pattern {rest = rest} {u = u} h d i j k) = λ fits stop.
    down _ (sees _ h (goes _ (complete d fields-fit (closes-list field i refl)) (passes _ u _ i refl (allowed _ _ j (now (up_to rest (pattern_is k)))))))
complete (G.tuple_pattern {rest = rest} {u = u} h d i k) = λ fits stop.
    down _ (sees _ h (goes _ (complete d (tt, refl) (halts (listed S.Comma (pattern patt)) i refl)) (passes _ u _ i refl (now (up_to rest (pattern_is k))))))
complete (G.pattern_in_parentheses {u = u} h d i) = λ fits stop.
    down _ (sees _ h (goes _ (reads (pattern patt) d (complete d) tt (halts (pattern patt) i refl)) (passes _ u _ i refl (now refl))))
complete (G.a_field {t = t} d h f) = λ fits stop.
    down _ (goes _ (complete d (tt, refl) (halts (listed S.Comma name) h refl)) (passes _ t _ h refl
    (goes _ (reads (pattern patt) f (complete f) tt stop) (now refl))))
complete (G.whole {t = t} {x = x} h) = λ fits stop.
    down _ (names _ h (stays _ _ (goes_on inherited) stop (λ n u us f e. unrestricted (descend n) (G.placed x t) u us f e)))
complete (G.only {r = r} h i d j) = λ fits stop.
    down _ (names _ h (continues _ _ i (goes _ (complete d (tt, refl) (halts (listed S.Comma placed_name) j refl)) (passes _ r _ j refl (now refl)))))
complete (G.except {l = l} {r = r} h i j d k) = λ fits stop.
    down _ (names _ h (continues _ _ i (passes _ l _ j refl (goes _ (complete d (tt, refl) (halts (listed S.Comma placed_name) k refl)) (passes _ r _ k refl (now refl))))))
complete (G.plainly h) = λ fits stop. down _ (sees _ h (now refl))
complete (G.by_alias {e = e} {r = r} h i j k l) = λ fits stop.
    down _ (sees _ h (names _ i (passes _ e _ j refl (names _ k (passes _ r _ l refl (now refl))))))
complete (G.instance_of {l = l} {e = e} {r = r} h i j k m) = λ fits stop.
    down _ (passes _ l _ h refl (names _ i (passes _ e _ j refl (names _ k (passes _ r _ m refl (now refl))))))

-- tokens spell at most one part with a rest that does not go on with it, and up to one rest
pub one_reading : (g : Part) (ts : Tokens) {rest others : Tokens} {a b : Meaning g} → Fits g →
    Spells g ts a rest → Stops g rest → Spells g ts b others → Stops g others → ◌≡◌ {A = Meaning g × Tokens} (a, rest) (b, others)
one_reading g ts fits d stop e halt = gives-once (reads g d (complete d) fits stop) (reads g e (complete e) fits halt)
