-- Where a text has faults.
use Rattle.std.specs.Prelude.{◌≡◌, ℕ, ◌<◌, true, false, ◌⊎◌, List, ◌∷◌, ◌++◌, length, encode_utf8_all}
use Rattle.gft_core.specs.Names.{continues_name}
use Rattle.gft_core.specs.declared.tree.Tree.{Tree}
use Rattle.gft_tree.specs.declared.error.TreeErr.{TreeErr}
use Rattle.gft_tree.specs.declared.error.TreeErr.TheVariants.{Syntax, TooDeep, BadLiteral, NoMemory}
use Rattle.gft_tree.specs.Lexemes.{Lexeme, Word, Number, Quoted, Query, Open, Close, Cut, spelled, is_lexeme, ends_before, stops}
use Rattle.gft_tree.specs.Spelling.{HasShape, Spells, outside, after_all, fits}

-- how many bytes the characters take
abbrev pub bytes : List ℕ → ℕ
bytes cs = length (encode_utf8_all cs)

-- some text that begins so is spelled like a tree
abbrev pub GoesOn : List ℕ → Type 0
GoesOn before = (more : List ℕ) × (t : Tree) × HasShape (before ++ more) t

-- the fault of a token that does not fit where it stands
abbrev pub misfit_of : Lexeme → ℕ → TreeErr
misfit_of (Word w) at = BadLiteral at
misfit_of (Number ds) at = BadLiteral at
misfit_of (Quoted w) at = BadLiteral at
misfit_of Query at = BadLiteral at
misfit_of Open at = TooDeep at
misfit_of Close at = BadLiteral at

-- the faults of a text, with their places
pub data HasFault (text : List ℕ) : TreeErr → Type 0 where
  -- a text that agrees up to here may go on to a tree, and none that agrees through this character does
  stuck : (before : List ℕ) (c : ℕ) (rest : List ℕ) → text ≡ before ++ c ∷ rest → GoesOn before
      → ((other : List ℕ) (t : Tree) → HasShape (before ++ c ∷ other) t → ⊥) → HasFault text (Syntax (bytes before))
  -- the text ends too early
  ended : GoesOn text → ((t : Tree) → HasShape text t → ⊥) → HasFault text (Syntax (bytes text))
  -- the single underscore is no name
  underscore : (before : List ℕ) (tokens : List Lexeme) (rest : List ℕ) → text ≡ before ++ 95 ∷ rest
      → Cut before tokens (95 ∷ rest) → stops continues_name rest ≡ true → HasFault text (Syntax (bytes before))
  -- a token does not fit where it stands
  misfit : (before : List ℕ) (tokens : List Lexeme) (t : Lexeme) (rest : List ℕ) → text ≡ before ++ (spelled t ++ rest)
      → Cut before tokens (spelled t ++ rest) → is_lexeme t ≡ true → ends_before t rest ≡ true
      → fits (after_all outside tokens) t ≡ false → HasFault text (misfit_of t (bytes before))

-- the place of a fault
abbrev pub place_of : TreeErr → ℕ
place_of (Syntax at) = at
place_of (TooDeep at) = at
place_of (BadLiteral at) = at
place_of NoMemory = 0

abbrev pub IsSyntax : TreeErr → Type 0
IsSyntax (Syntax at) = Unit {0}
IsSyntax (TooDeep at) = ⊥
IsSyntax (BadLiteral at) = ⊥
IsSyntax NoMemory = ⊥

-- one fault comes before another: by its place, and at one place a `Syntax` does
abbrev pub Precedes : TreeErr → TreeErr → Type 0
Precedes e f = (place_of e < place_of f) ⊎ ((place_of e ≡ place_of f) × (IsSyntax e ⊎ (e ≡ f)))

-- the text spells this tree and no other, and has no fault
pub record IsRead (text : List ℕ) (t : Tree) : Type 0 where
  pub spelled : Spells text t
  pub only : (other : Tree) → Spells text other → other ≡ t
  pub faultless : (f : TreeErr) → HasFault text f → ⊥

-- the text has this fault, which is its first, and spells no tree
pub record IsRefused (text : List ℕ) (e : TreeErr) : Type 0 where
  pub fault : HasFault text e
  pub first : (f : TreeErr) → HasFault text f → Precedes e f
  pub unread : (t : Tree) → Spells text t → ⊥

-- what a reading answers; want of memory says nothing of the text
abbrev pub AnswersErr : List ℕ → TreeErr → Type 0
AnswersErr text (Syntax at) = IsRefused text (Syntax at)
AnswersErr text (TooDeep at) = IsRefused text (TooDeep at)
AnswersErr text (BadLiteral at) = IsRefused text (BadLiteral at)
AnswersErr text NoMemory = Unit {0}
