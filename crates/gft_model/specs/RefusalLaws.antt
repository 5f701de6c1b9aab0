-- The statements of the laws over refusals.
use Rattle.std.specs.Prelude.{◌≡◌, ◌↔◌, ℕ, List}
use Rattle.gft_io.specs.Outside.{Files}
use Rattle.gft_rules.specs.declared.refusal.Refusal.{Refusal}
use Rattle.gft_model.specs.Import.{BreaksImport}
use Rattle.gft_model.specs.Refusals.{IsFirst}
use Rattle.gft_model.specs.Source.{Tokens}
use Rattle.gft_model.specs.TokenFaults.{BreaksTokens}
use Rattle.gft_syntax.specs.declared.token.SourceToken.{SourceToken}

-- an import has at most one first refusal
abbrev pub FirstRefusalIsUnique : Type 0
FirstRefusalIsUnique =
    (files : Files) (names : List (List ℕ)) (r s : Refusal) →
    IsFirst (BreaksImport files names) r → IsFirst (BreaksImport files names) s → r ≡ s

-- a file has tokens exactly where nothing is broken in its characters
abbrev pub TokensAreUnbroken : Type 0
TokensAreUnbroken =
    (file : ℕ) (bytes : List ℕ) →
    ((ts : List SourceToken) × Tokens file bytes ts) ↔ ((r : Refusal) → ¬ (BreaksTokens file bytes r))
