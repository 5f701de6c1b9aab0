-- Worked examples of bracketed strings as texts.
use Rattle.std.proofs.Common.{◌≡◌, ap, ◌∙◌, ℕ, List, [], ◌∷◌, Some, None, Option, false}
use Rattle.std.specs.Prelude.{codes}
use Rattle.std.specs.Fmt.{digits}
use Rattle.gft_core.specs.declared.tree.Tree.{Tree, App, Int, out-Tree}
use Rattle.gft_core.specs.declared.tree.Tree.TheOpen.{Tree-F}
use Rattle.gft_core.specs.declared.tree.Tree.TheVariants.{outs-App, outs-Int}
use Rattle.gft_model.specs.BracketText.{head_of, head_at, bracket_text}
use Rattle.gft_model.specs.Brackets.{grammar, integer, word, opens, closes}
use Rattle.gft_model.specs.Trees.{Printed, printed, text_of, subtree_of, child_at}
use Rattle.gft_model.proofs.Layers.{by_layers-Int}

-- `Age 7`
abbrev age : Tree
age = App (codes "Age") (Int 7 ∷ [])

at_root : head_at age [] ≡ codes "Age"
at_root = ap (head_of age) (outs-App (codes "Age") _)

written : printed (Int 7) ≡ (codes "7", false)
unfolding digits
written = simp by_layers-Int

seven : text_of (Int 7) ≡ codes "7"
seven = ap (λ (w : Printed). w.0) written

head_in : Option Tree → List ℕ
head_in o = elim o [ None ↦ [] | Some u ↦ head_of u (out-Tree u) ]

at_seven : head_at age (1 ∷ []) ≡ codes "7"
unfolding head_in
at_seven = ap (λ (l : Tree-F Tree). head_in (subtree_of (child_at l 1) [])) (outs-App (codes "Age") _)
    ∙ ap (head_of (Int 7)) (outs-Int 7) ∙ seven

pub age_is_written : bracket_text age (opens [] ∷ word grammar (codes "age") ∷ opens (1 ∷ []) ∷ word integer (codes "7") ∷ closes ∷ closes ∷ [])
    ≡ codes "(Age age (7 7))"
age_is_written = simp (at_root, at_seven)

-- a bracket that holds nothing is written too
pub empty_is_written : bracket_text age (opens [] ∷ closes ∷ []) ≡ codes "(Age)"
empty_is_written = simp at_root
