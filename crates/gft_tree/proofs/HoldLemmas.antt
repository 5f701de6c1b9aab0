-- What the tokens before a place are, and how they go on to a tree.
use Rattle.std.proofs.Common.{◌≡◌, ℕ, List, [], ◌∷◌, ◌++◌, ap, sym, ◌∙◌, subst, refl, Option, None, Some, IfSome, append_assoc, append-nil}
use Rattle.std.specs.Prelude.{encode_utf8_all, unwrap_or}
use Rattle.gft_core.specs.declared.tree.Tree.{Tree}
use Rattle.gft_core.specs.declared.tree.Tree.TheVariants as tree
use Rattle.gft_tree.specs.declared.level.Level.{Level}
use Rattle.gft_tree.specs.declared.level.Level.TheVariants.{Empty, Call}
use Rattle.gft_tree.specs.declared.level.Gap.{Gap}
use Rattle.gft_tree.specs.declared.level.Gap.TheVariants.{Begun, Whole}
use Rattle.gft_tree.specs.Lexemes.{Lexeme, Word, Number, Quoted, Query, Open, Close}
use Rattle.gft_tree.specs.Grammar.{IsTree, IsAtom, AreAtoms, application, atom, name, number, string, hole, parentheses, none, more}
use Rattle.gft_tree.specs.Reading.{tree_of, with_atom, with_name}
use Rattle.gft_tree.proofs.TokenLemmas.{Stop, gap, asked, fed, fed_close}

-- the tokens of a level
abbrev pub AtLevel : List Lexeme → Level → Type 0
AtLevel ts Empty = ts ≡ []
AtLevel ts (Call f args) = (w : List ℕ) × (us : List Lexeme) × (ts ≡ Word w ∷ us) × (f ≡ encode_utf8_all w) × AreAtoms us args

abbrev pub AtGap : List Lexeme → Gap → Type 0
AtGap ts (Begun l) = AtLevel ts l
AtGap ts (Whole t) = IsAtom ts t

-- the tokens up to the innermost parenthesis that is open
abbrev pub Outer : List Lexeme → List Level → Type 0
Outer ts [] = ts ≡ []
Outer ts (l ∷ outer) = (us vs : List Lexeme) × (ts ≡ us ++ (vs ++ Open ∷ [])) × Outer us outer × AtLevel vs l

-- the tokens before a place between two tokens
abbrev pub Holds : List Lexeme → List Level → Stop → Type 0
Holds ts outer (gap g) = (us vs : List Lexeme) × (ts ≡ us ++ vs) × Outer us outer × AtGap vs g
Holds ts outer (asked l) = (us vs : List Lexeme) × (ts ≡ us ++ (vs ++ Query ∷ [])) × Outer us outer × AtLevel vs l

-- one more atom
one_more : {ts us : List Lexeme} {args : List Tree} {t : Tree} → AreAtoms ts args → IsAtom us t → AreAtoms (ts ++ us) (args ++ t ∷ [])
one_more {ts} {us} {args} {t} none a = let P : List Lexeme → Type 0 = λ x. AreAtoms x (t ∷ []) in subst P (append-nil us) (more a none)
one_more {ts} {us} {args} {t} (more {tokens = vs} {others = ws} {t = u} {ts = all_of} b all) a =
    let P : List Lexeme → Type 0 = λ x. AreAtoms x (u ∷ (all_of ++ t ∷ [])) in
    subst P (sym (append_assoc vs ws us)) (more b (one_more all a))

pub level_more : (ts us : List Lexeme) (l : Level) (t : Tree) → AtLevel ts l → IsAtom us t → AtGap (ts ++ us) (with_atom l t)
level_more ts us Empty t e a = let P : List Lexeme → Type 0 = λ x. IsAtom (x ++ us) t in subst P (sym e) a
level_more ts us (Call f args) t h a = (h.0, h.1 ++ us, ap (λ x. x ++ us) h.2, h.3, one_more h.4 a)

level_name : (ts : List Lexeme) (l : Level) (w : List ℕ) → AtLevel ts l → AtGap (ts ++ Word w ∷ []) (with_name l (encode_utf8_all w))
level_name ts Empty w e = (w, [], ap (λ x. x ++ Word w ∷ []) e, refl, none)
level_name ts (Call f args) w h = (h.0, h.1 ++ Word w ∷ [], ap (λ x. x ++ Word w ∷ []) h.2, h.3, one_more h.4 (name w))

-- the tokens of a tree
pub tree_at : (ts : List Lexeme) (g : Gap) (t : Tree) → AtGap ts g → tree_of g ≡ Some t → IsTree ts t
tree_at ts (Begun Empty) t h e = absurd (cc e)
tree_at ts (Begun (Call f args)) t h e =
    let P : List Lexeme → Type 0 = λ x. IsTree x t in
    let Q : List ℕ → Type 0 = λ x. IsTree (Word h.0 ∷ h.1) (tree.App x args) in
    let R : Tree → Type 0 = λ x. IsTree (Word h.0 ∷ h.1) x in
    subst P (sym h.2) (subst R (ap (λ o. unwrap_or o t) e) (subst Q (sym h.3) (application h.0 h.4)))
tree_at ts (Whole s) t h e =
    let R : Tree → Type 0 = λ x. IsTree ts x in
    subst R (ap (λ o. unwrap_or o t) e) (atom h)

around : (us vs ws : List Lexeme) (us' vs' : List Lexeme) → us ≡ us' ++ (vs' ++ Open ∷ []) → (us ++ vs) ++ (Close ∷ ws) ≡ (us' ++ (vs' ++ Open ∷ (vs ++ Close ∷ []))) ++ ws
around us vs ws us' vs' e =
    ap (λ x. (x ++ vs) ++ (Close ∷ ws)) e
    ∙ append_assoc (us' ++ (vs' ++ Open ∷ [])) vs (Close ∷ ws)
    ∙ append_assoc us' (vs' ++ Open ∷ []) (vs ++ (Close ∷ ws))
    ∙ ap (λ x. us' ++ x) (append_assoc vs' (Open ∷ []) (vs ++ (Close ∷ ws))
    ∙ ap (λ x. vs' ++ (Open ∷ x)) (sym (append_assoc vs (Close ∷ []) ws))
    ∙ sym (append_assoc vs' (Open ∷ (vs ++ Close ∷ [])) ws))
    ∙ sym (append_assoc us' (vs' ++ Open ∷ (vs ++ Close ∷ [])) ws)

close_holds : (us vs : List Lexeme) (outer : List Level) (o : Option Tree) → Outer us outer → ((t : Tree) → o ≡ Some t → IsTree vs t)
    → IfSome (fed_close outer o) (λ q. Holds ((us ++ vs) ++ Close ∷ []) q.0 q.1)
close_holds us vs [] None o h = tt
close_holds us vs (l ∷ outer) None o h = tt
close_holds us vs [] (Some t) o h = tt
close_holds us vs (l ∷ outer) (Some t) o h =
    (o.0, o.1 ++ Open ∷ (vs ++ Close ∷ []), around us vs [] o.0 o.1 o.2 ∙ append-nil _, o.3, level_more o.1 _ l t o.4 (parentheses (h t refl)))

closing : (ts : List Lexeme) (outer : List Level) (g : Gap) → Holds ts outer (gap g) → IfSome (fed_close outer (tree_of g)) (λ q. Holds (ts ++ Close ∷ []) q.0 q.1)
closing ts outer g h =
    let P : List Lexeme → Type 0 = λ x. IfSome (fed_close outer (tree_of g)) (λ q. Holds (x ++ Close ∷ []) q.0 q.1) in
    subst P (sym h.2) (close_holds h.0 h.1 outer (tree_of g) h.3 (λ t e. tree_at h.1 g t h.4 e))

-- a token more
pub fed_holds : (ts : List Lexeme) (outer : List Level) (stop : Stop) (t : Lexeme) → Holds ts outer stop
    → IfSome (fed outer stop t) (λ q. Holds (ts ++ t ∷ []) q.0 q.1)
fed_holds ts outer (gap (Begun l)) (Word w) h = (h.0, h.1 ++ Word w ∷ [], ap (λ x. x ++ Word w ∷ []) h.2 ∙ append_assoc h.0 h.1 _, h.3, level_name h.1 l w h.4)
fed_holds ts outer (gap (Begun l)) (Number ds) h = (h.0, h.1 ++ Number ds ∷ [], ap (λ x. x ++ Number ds ∷ []) h.2 ∙ append_assoc h.0 h.1 _, h.3, level_more h.1 _ l _ h.4 (number ds))
fed_holds ts outer (gap (Begun l)) (Quoted w) h = (h.0, h.1 ++ Quoted w ∷ [], ap (λ x. x ++ Quoted w ∷ []) h.2 ∙ append_assoc h.0 h.1 _, h.3, level_more h.1 _ l _ h.4 (string w))
fed_holds ts outer (gap (Begun l)) Query h = (h.0, h.1, ap (λ x. x ++ Query ∷ []) h.2 ∙ append_assoc h.0 h.1 _, h.3, h.4)
fed_holds ts outer (gap (Begun l)) Open h = (ts ++ Open ∷ [], [], sym (append-nil _), (h.0, h.1, ap (λ x. x ++ Open ∷ []) h.2 ∙ append_assoc h.0 h.1 _, h.3, h.4), refl)
fed_holds ts outer (gap (Begun l)) Close h = closing ts outer (Begun l) h
fed_holds ts outer (gap (Whole s)) (Word w) h = tt
fed_holds ts outer (gap (Whole s)) (Number ds) h = tt
fed_holds ts outer (gap (Whole s)) (Quoted w) h = tt
fed_holds ts outer (gap (Whole s)) Query h = tt
fed_holds ts outer (gap (Whole s)) Open h = tt
fed_holds ts outer (gap (Whole s)) Close h = closing ts outer (Whole s) h
fed_holds ts outer (asked l) (Word w) h = tt
fed_holds ts outer (asked l) (Number ds) h =
    (h.0, (h.1 ++ Query ∷ Number ds ∷ []), ap (λ x. x ++ Number ds ∷ []) h.2 ∙ append_assoc h.0 (h.1 ++ Query ∷ []) _ ∙ ap (λ x. h.0 ++ x) (append_assoc h.1 (Query ∷ []) _), h.3, level_more h.1 _ l _ h.4 (hole ds))
fed_holds ts outer (asked l) (Quoted w) h = tt
fed_holds ts outer (asked l) Query h = tt
fed_holds ts outer (asked l) Open h = tt
fed_holds ts outer (asked l) Close h = tt

-- as many closing parentheses as are open
abbrev pub closers : List Level → List Lexeme
closers [] = []
closers (l ∷ outer) = Close ∷ closers outer

-- tokens that make a tree of what stands there
abbrev pub completion : List Level → Stop → List Lexeme
completion outer (gap (Begun Empty)) = Word (97 ∷ []) ∷ closers outer
completion outer (gap (Begun (Call f ts))) = closers outer
completion outer (gap (Whole t)) = closers outer
completion outer (asked l) = Number (49 ∷ []) ∷ closers outer

tree_with_atom : (ts : List Lexeme) (l : Level) (t : Tree) → AtGap ts (with_atom l t) → (s : Tree) × IsTree ts s
tree_with_atom ts Empty t h = (t, atom h)
tree_with_atom ts (Call f args) t h = (_, tree_at ts (Begun (Call f (args ++ t ∷ []))) _ h refl)

close_all : (outer : List Level) (us vs : List Lexeme) (t : Tree) → Outer us outer → IsTree vs t → (s : Tree) × IsTree ((us ++ vs) ++ closers outer) s
close_all [] us vs t e h =
    let P : List Lexeme → Type 0 = λ x. IsTree x t in
    (t, subst P (sym (append-nil (us ++ vs))) (subst P (ap (λ x. x ++ vs) (sym e)) h))
close_all (l ∷ outer) us vs t o h =
    let inside = o.1 ++ Open ∷ (vs ++ Close ∷ []) in
    let next = tree_with_atom inside l t (level_more o.1 _ l t o.4 (parentheses h)) in
    let all = close_all outer o.0 inside next.0 o.3 next.1 in
    let P : List Lexeme → Type 0 = λ x. IsTree x all.0 in
    (all.0, subst P (sym (around us vs (closers outer) o.0 o.1 o.2)) all.1)

done_at : (ts us vs : List Lexeme) (outer : List Level) (t : Tree) → ts ≡ us ++ vs → Outer us outer → IsTree vs t → (s : Tree) × IsTree (ts ++ closers outer) s
done_at ts us vs outer t e o h =
    let all = close_all outer us vs t o h in
    let P : List Lexeme → Type 0 = λ x. IsTree (x ++ closers outer) all.0 in
    (all.0, subst P (sym e) all.1)

-- each place goes on to a tree
pub completes : (ts : List Lexeme) (outer : List Level) (stop : Stop) → Holds ts outer stop → (s : Tree) × IsTree (ts ++ completion outer stop) s
completes ts outer (gap (Begun Empty)) h =
    let new = fed_holds ts outer (gap (Begun Empty)) (Word (97 ∷ [])) h in
    let all = done_at (ts ++ Word (97 ∷ []) ∷ []) new.0 new.1 outer _ new.2 new.3 (tree_at new.1 (Begun (Call (encode_utf8_all (97 ∷ [])) [])) _ new.4 refl) in
    let P : List Lexeme → Type 0 = λ x. IsTree x all.0 in
    (all.0, subst P (append_assoc ts (Word (97 ∷ []) ∷ []) (closers outer)) all.1)
completes ts outer (gap (Begun (Call f args))) h = done_at ts h.0 h.1 outer _ h.2 h.3 (tree_at h.1 (Begun (Call f args)) _ h.4 refl)
completes ts outer (gap (Whole t)) h = done_at ts h.0 h.1 outer t h.2 h.3 (atom h.4)
completes ts outer (asked l) h =
    let new = fed_holds ts outer (asked l) (Number (49 ∷ [])) h in
    let next = tree_with_atom new.1 l _ new.4 in
    let all = done_at (ts ++ Number (49 ∷ []) ∷ []) new.0 new.1 outer next.0 new.2 new.3 next.1 in
    let P : List Lexeme → Type 0 = λ x. IsTree x all.0 in
    (all.0, subst P (append_assoc ts (Number (49 ∷ []) ∷ []) (closers outer)) all.1)
