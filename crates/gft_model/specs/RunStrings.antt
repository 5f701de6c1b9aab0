-- The strings of a tree in a language that is given by productions.
use Rattle.std.specs.Prelude.{◌≡◌, ◌<◌, ◌^◌, ℕ, suc, List, [], ◌∷◌, ◌++◌, codes, Contains, Some, slice_get}
use Rattle.std.specs.Fmt.{decimal}
use Rattle.gft_core.specs.Words.{IsWord}
use Rattle.gft_core.specs.declared.symbol.Sym.{Sym}
use Rattle.gft_core.specs.declared.tree.Tree.{Tree}
use Rattle.gft_pmcfg.specs.declared.signature.Fun.{Fun}
use Rattle.gft_pmcfg.specs.declared.signature.Abstract.{Abstract}
use Rattle.gft_pmcfg.specs.declared.concrete.Prod.{Prod}
use Rattle.gft_pmcfg.specs.declared.concrete.Concrete.{Concrete}
use Rattle.gft_model.specs.Trees.{IsApplication, IsInteger, IsString, IsHole}
use Rattle.gft_model.specs.Brackets.{grammar, integer, text, Piece, word, erased}
use Rattle.gft_model.specs.Runs.{Strings, IsRef, IsOf, applied, filled, word_at}

-- the token of a hole
abbrev pub token_of : ℕ → List ℕ
token_of k = codes "?" ++ decimal k

mutual
  -- the tree at the position p has these components in the case of the nonterminal; the one component of the argument of a def
  -- is the token of the hole
  pub data HasValue (a : Abstract) (c : Concrete) : List ℕ → Tree → ℕ → Strings → Type 0 where
    hole : {p t k n seqs : _} → IsHole t k → k < 2 ^ 32 → Contains c.defs (record { result = n; seqs = seqs }) →
        HasValue a c p t n (applied p (((word grammar (token_of k) ∷ []) ∷ []) ∷ []) seqs)
    hole_of_literals : {p t k n : _} → IsHole t k → k < 2 ^ 32 → n < 2 → HasValue a c p t n (word_at p grammar (token_of k))
    number : {p t n : _} → IsInteger t n → n < 2 ^ 128 → HasValue a c p t 0 (word_at p integer (decimal n))
    string : {p t w : _} → IsString t w → IsWord w → HasValue a c p t 1 (word_at p text w)
    application : {p t : _} {f : Fun} {ts : _} {prod : Prod} {args : _} → IsApplication t f.name ts → Contains c.prods prod →
        slice_get a.funs prod.fun ≡ Some f → HaveValues a c p 0 ts prod.args args →
        HasValue a c p t prod.result (applied p args prod.seqs)

  -- so have its arguments from number i + 1 on, in the cases of their nonterminals
  pub data HaveValues (a : Abstract) (c : Concrete) : List ℕ → ℕ → List Tree → List ℕ → List Strings → Type 0 where
    none : {p i : _} → HaveValues a c p i [] [] []
    more : {p i n t ts ns v vs : _} → HasValue a c (p ++ suc i ∷ []) t n v → HaveValues a c p (suc i) ts ns vs →
        HaveValues a c p i (t ∷ ts) (n ∷ ns) (v ∷ vs)

-- b is a bracketed string of the tree; the category is that of a tree that is one hole, and is not looked
-- at for another tree
pub record IsBracketedString (a : Abstract) (c : Concrete) (cat : ℕ) (t : Tree)
    (b : List Piece) : Type 0 where
  pub nonterminal : ℕ
  pub components : Strings
  pub value : HasValue a c [] t nonterminal components
  pub category : (k : ℕ) → IsHole t k → IsOf c.infos cat nonterminal
  pub seq : List Sym
  pub ref : IsRef c nonterminal seq
  pub string : b ≡ filled (components ∷ []) seq

-- the words are a string of the tree
abbrev pub IsStringOf : Abstract → Concrete → ℕ → Tree → List (List ℕ) → Type 0
IsStringOf a c cat t words = (b : List Piece) × IsBracketedString a c cat t b × (erased b ≡ words)
