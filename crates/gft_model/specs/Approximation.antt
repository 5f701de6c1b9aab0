-- The context-free approximation of a language for one category.
use Rattle.std.specs.Prelude.{◌≡◌, ◌↔◌, ◌<◌, ◌≤◌, ◌^◌, ◌-◌, ℕ, zero, suc, List, [], ◌∷◌, ◌++◌, map, flat_map, codes, decimal, length, All, AllPairs, Contains, Some, slice_get, slice_index_or}
use Rattle.std.specs.Option.{option_map_or}
use Rattle.gft_core.specs.Words.{IsWord}
use Rattle.gft_core.specs.declared.symbol.Sym.{Sym}
use Rattle.gft_core.specs.declared.symbol.Sym.TheVariants.{Tok, Arg}
use Rattle.gft_pmcfg.specs.Nonterminals.{category_of}
use Rattle.gft_pmcfg.specs.declared.concrete.Concrete.{Concrete}
use Rattle.gft_pmcfg.specs.declared.concrete.Info.{Info}
use Rattle.gft_pmcfg.specs.declared.concrete.Prod.{Prod}
use Rattle.gft_pmcfg.specs.declared.signature.Abstract.{Abstract}
use Rattle.gft_tree.specs.Trees.{quoted}
use Rattle.gft_model.specs.Listing.{IsBefore}
use Rattle.gft_model.specs.Runs.{IsInhabited, IsOf, IsRef, used}
use Rattle.gft_model.specs.States.{category_name}

-- a left side: the start, or a component of a nonterminal
pub data CfName : Type 0 where
  start : CfName
  part : ℕ → ℕ → CfName

-- a symbol of a right side: a word, a component of a nonterminal, or any literal of its class
pub data CfSymbol : Type 0 where
  word : List ℕ → CfSymbol
  part_of : ℕ → ℕ → CfSymbol
  any_int any_string : CfSymbol

pub record CfRule : Type 0 where
  pub left : CfName
  pub right : List CfSymbol

-- a component of a nonterminal; those of Int and String are their classes
abbrev pub component_symbol : ℕ → ℕ → CfSymbol
component_symbol zero l = any_int
component_symbol (suc zero) l = any_string
component_symbol (suc (suc n)) l = part_of (suc (suc n)) l

-- a sequence over arguments of these nonterminals
abbrev pub symbol_of : List ℕ → Sym → CfSymbol
symbol_of args (Tok w) = word w
symbol_of args (Arg i l) = component_symbol (slice_index_or args i 0) l

abbrev pub symbols_of : List ℕ → List Sym → List CfSymbol
symbols_of args seq = map (symbol_of args) seq

-- the rules: those of the components of each production of a closed tree, and those of the refs of the category of which
-- there is a closed tree
pub data IsRule (c : Concrete) (cat : ℕ) : CfRule → Type 0 where
  of_production : {prod : Prod} {l seq : _} → Contains c.prods prod → All (IsInhabited c) prod.args →
      slice_get prod.seqs l ≡ Some seq →
      IsRule c cat (record { left = part prod.result l; right = symbols_of prod.args seq })
  of_ref : {n seq : _} → IsOf c.infos cat n → IsInhabited c n → IsRef c n seq →
      IsRule c cat (record { left = start; right = symbols_of (n ∷ []) seq })

mutual
  -- the symbol derives the words; a class derives its literals, and what rules of its category derive
  pub data Derives (c : Concrete) (cat : ℕ) : CfSymbol → List (List ℕ) → Type 0 where
    itself : {w : _} → Derives c cat (word w) (w ∷ [])
    by_rule : {n l right ws : _} → IsRule c cat (record { left = part n l; right = right }) → DeriveAll c cat right ws →
        Derives c cat (part_of n l) ws
    integer : {n : _} → n < 2 ^ 128 → Derives c cat any_int (decimal n ∷ [])
    text : {w : _} → IsWord w → Derives c cat any_string (w ∷ [])
    of_int : {ws : _} → Derives c cat (part_of 0 0) ws → Derives c cat any_int ws
    of_string : {ws : _} → Derives c cat (part_of 1 0) ws → Derives c cat any_string ws

  -- so do the symbols, one after the other
  pub data DeriveAll (c : Concrete) (cat : ℕ) : List CfSymbol → List (List ℕ) → Type 0 where
    none : DeriveAll c cat [] []
    more : {s ss ws vs : _} → Derives c cat s ws → DeriveAll c cat ss vs → DeriveAll c cat (s ∷ ss) (ws ++ vs)

-- the rules derive the words from the start
pub data IsDerived (c : Concrete) (cat : ℕ) (words : List (List ℕ)) : Type 0 where
  from_start : {right : _} → IsRule c cat (record { left = start; right = right }) → DeriveAll c cat right words →
      IsDerived c cat words

-- a sequence uses each argument once at most
abbrev pub UsesOnce : List Sym → Type 0
UsesOnce seq = (i : ℕ) → length (used i seq) ≤ 1

-- the language is plain for the category: no dimension is over one, and nothing is copied
pub record IsPlain (c : Concrete) (cat : ℕ) : Type 0 where
  pub dimensions : All (λ (i : Info). i.dim ≤ 1) c.infos
  pub productions : All (λ (p : Prod). All UsesOnce p.seqs) c.prods
  pub refs : (n : ℕ) (seq : List Sym) → IsOf c.infos cat n → IsRef c n seq → UsesOnce seq

-- the text of a component: its category, its case and its number
abbrev pub part_text : Abstract → Concrete → ℕ → ℕ → List ℕ
part_text a c n l =
    let C = category_of c.infos n in
    let first = option_map_or (λ (i : Info). i.first) (slice_get c.infos C) 0 in
    category_name a C ++ codes "." ++ decimal (n - first) ++ codes "." ++ decimal l

abbrev pub name_text : Abstract → Concrete → ℕ → CfName → List ℕ
name_text a c cat start = category_name a cat
name_text a c cat (part n l) = part_text a c n l

abbrev pub symbol_text : Abstract → Concrete → CfSymbol → List ℕ
symbol_text a c (word w) = quoted w
symbol_text a c (part_of n l) = part_text a c n l
symbol_text a c any_int = codes "<Int>"
symbol_text a c any_string = codes "<String>"

-- the line of a rule
abbrev pub rule_line : Abstract → Concrete → ℕ → CfRule → List ℕ
rule_line a c cat r = name_text a c cat r.left ++ codes " ->" ++ flat_map (λ s. 32 ∷ symbol_text a c s) r.right

-- exactly the lines of the rules, each once, in byte order
pub record AreRuleLines (a : Abstract) (c : Concrete) (cat : ℕ) (lines : List (List ℕ)) : Type 0 where
  pub all : (line : List ℕ) → Contains lines line ↔ ((r : CfRule) × IsRule c cat r × (rule_line a c cat r ≡ line))
  pub in_order : AllPairs IsBefore lines
