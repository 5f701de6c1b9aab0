-- The tokens of a tree, one after another.
use Rattle.std.proofs.Common.{◌≡◌, ℕ, List, [], ◌∷◌, ◌++◌, ap, sym, ◌∙◌, refl, Some, append_assoc, append-nil}
use Rattle.std.specs.Prelude.{encode_utf8_all}
use Rattle.gft_core.specs.declared.tree.Tree.{Tree}
use Rattle.gft_core.specs.declared.tree.Tree.TheVariants as tree
use Rattle.gft_tree.specs.declared.level.Level.{Level}
use Rattle.gft_tree.specs.declared.level.Level.TheVariants.{Empty, Call}
use Rattle.gft_tree.specs.declared.level.Gap.{Gap}
use Rattle.gft_tree.specs.declared.level.Gap.TheVariants.{Begun, Whole}
use Rattle.gft_tree.specs.Lexemes.{Lexeme, Close}
use Rattle.gft_tree.specs.Grammar.{IsTree, IsAtom, AreAtoms, application, atom, name, number, string, hole, parentheses, none, more}
use Rattle.gft_tree.specs.Reading.{tree_of, with_atom, with_name}
use Rattle.gft_tree.proofs.TokenLemmas.{gap, fed, fed_close}
use Rattle.gft_tree.proofs.CutLemmas.{fed_some, fed_all, fed_all-append}

-- the level has one more atom
abbrev pub Has : Level → Tree → Gap → Type 0
Has Empty t g = tree_of g ≡ Some t
Has (Call f ts) t g = g ≡ Begun (Call f (ts ++ t ∷ []))

has_atom : (l : Level) (t : Tree) → Has l t (with_atom l t)
has_atom Empty t = refl
has_atom (Call f ts) t = refl

has_name : (l : Level) (f : List ℕ) → Has l (tree.App f []) (with_name l f)
has_name Empty f = refl
has_name (Call g ts) f = refl

-- the tokens lead from one place to another
abbrev Goes : List Lexeme → List Level → Gap → List Level → Gap → Type 0
Goes ts outer g after h = fed_all (Some (outer, gap g)) ts ≡ Some (after, gap h)

-- a closing parenthesis
close_of : (outer : List Level) (l : Level) (g : Gap) (t : Tree) → tree_of g ≡ Some t → fed (l ∷ outer) (gap g) Close ≡ Some (outer, gap (with_atom l t))
close_of outer l (Begun k) t e = ap (fed_close (l ∷ outer)) e
close_of outer l (Whole s) t e = ap (fed_close (l ∷ outer)) e

mutual
  -- a tree in parentheses, or alone
  pub over_tree : {ts : List Lexeme} {t : Tree} → IsTree ts t → (outer : List Level)
      → (g : Gap) × (tree_of g ≡ Some t) × (fed_all (Some (outer, gap (Begun Empty))) ts ≡ Some (outer, gap g))
  over_tree (application f {tokens = ts} {arguments = args} all) outer =
      (Begun (Call (encode_utf8_all f) args), refl, over_atoms all outer (encode_utf8_all f) [])
  over_tree (atom {tokens = ts} {t} a) outer = over_atom a outer Empty

  pub over_atom : {ts : List Lexeme} {t : Tree} → IsAtom ts t → (outer : List Level) (l : Level)
      → (g : Gap) × Has l t g × (fed_all (Some (outer, gap (Begun l))) ts ≡ Some (outer, gap g))
  over_atom (name f) outer l = (with_name l (encode_utf8_all f), has_name l (encode_utf8_all f), refl)
  over_atom (number ds) outer l = (with_atom l _, has_atom l _, refl)
  over_atom (string w) outer l = (with_atom l _, has_atom l _, refl)
  over_atom (hole ds) outer l = (with_atom l _, has_atom l _, refl)
  over_atom (parentheses {tokens = ts} {t} inner) outer l =
      let in_it = over_tree inner (l ∷ outer) in (
        with_atom l t,
        has_atom l t,
        fed_all-append (Some (l ∷ outer, gap (Begun Empty))) ts (Close ∷ [])
            ∙ ap (λ o. fed_some o Close) in_it.2
            ∙ close_of outer l in_it.0 t in_it.1,
      )

  pub over_atoms : {ts : List Lexeme} {args : List Tree} → AreAtoms ts args → (outer : List Level) (f : List ℕ) (before : List Tree)
      → fed_all (Some (outer, gap (Begun (Call f before)))) ts ≡ Some (outer, gap (Begun (Call f (before ++ args))))
  over_atoms none outer f before = ap (λ ts. Some (outer, gap (Begun (Call f ts)))) (sym (append-nil before))
  over_atoms (more {tokens = ts} {others = us} {t} {ts = args} a all) outer f before =
      let one = over_atom a outer (Call f before) in
      fed_all-append (Some (outer, gap (Begun (Call f before)))) ts us
      ∙ ap (λ o. fed_all o us) (one.2 ∙ ap (λ g. Some (outer, gap g)) one.1)
      ∙ over_atoms all outer f (before ++ t ∷ [])
      ∙ ap (λ ts. Some (outer, gap (Begun (Call f ts)))) (append_assoc before (t ∷ []) args)
