-- The grammar of trees over tokens.
use Rattle.std.specs.Prelude.{ℕ, List, [], ◌∷◌, ◌++◌, encode_utf8_all}
use Rattle.std.specs.Str.Parse.{digits_value}
use Rattle.gft_core.specs.declared.tree.Tree.{Tree}
use Rattle.gft_core.specs.declared.tree.Tree.TheVariants as tree
use Rattle.gft_tree.specs.Lexemes.{Lexeme, Word, Number, Quoted, Query, Open, Close}

mutual
  -- the tokens of a tree: a function with its arguments, or an atom
  pub data IsTree : List Lexeme → Tree → Type 0 where
    application : (name : List ℕ) {tokens : List Lexeme} {arguments : List Tree}
        → AreAtoms tokens arguments → IsTree (Word name ∷ tokens) (tree.App (encode_utf8_all name) arguments)
    atom : {tokens : List Lexeme} {t : Tree} → IsAtom tokens t → IsTree tokens t

  -- the tokens of an atom: a name, a number, a string, a hole, or a tree in parentheses
  pub data IsAtom : List Lexeme → Tree → Type 0 where
    name : (name : List ℕ) → IsAtom (Word name ∷ []) (tree.App (encode_utf8_all name) [])
    number : (digits : List ℕ) → IsAtom (Number digits ∷ []) (tree.Int (digits_value 10 digits))
    string : (text : List ℕ) → IsAtom (Quoted text ∷ []) (tree.Str (encode_utf8_all text))
    hole : (digits : List ℕ) → IsAtom (Query ∷ Number digits ∷ []) (tree.Hole (digits_value 10 digits))
    parentheses : {tokens : List Lexeme} {t : Tree} → IsTree tokens t → IsAtom (Open ∷ (tokens ++ Close ∷ [])) t

  -- the tokens of atoms, one after another
  pub data AreAtoms : List Lexeme → List Tree → Type 0 where
    none : AreAtoms [] []
    more : {tokens others : List Lexeme} {t : Tree} {ts : List Tree}
        → IsAtom tokens t → AreAtoms others ts → AreAtoms (tokens ++ others) (t ∷ ts)
