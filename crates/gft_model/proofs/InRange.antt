-- Fields that fit the table of the portable file are those of a grammar in range.
use Rattle.std.specs.Prelude.{◌≡◌, ◌<◌, ℕ, zero, suc, ◌+◌, nat_lt, nat_le, Bool, true, false, List, [], ◌∷◌, ◌++◌, length, map, bytes_eq, Option, Some, None, slice_get, slice_index_or}
use Rattle.std.specs.Cmp.Derive.{both_true}
use Rattle.std.specs.List.{list_all}
use Rattle.std.specs.Option.{option_map_or}
use Rattle.std.proofs.Common.{refl, sym, ap, ◌∙◌, subst, arith}
use Rattle.std.proofs.Math.Bool.{or-true}
use Rattle.std.proofs.lemmas.Bool.{ltb-true, leb-true, le-leb, eq-eqb, and_parts}
use Rattle.std.proofs.lemmas.List.{length-map}
use Rattle.std.proofs.lemmas.List.Folds.{list_all-map}
use Rattle.std.proofs.lemmas.Option.{slice_get-get_or}
use Rattle.std.proofs.lemmas.Slice.Eq.{bytes_eq-Decides}
use Rattle.gft_core.specs.declared.symbol.Sym.{Sym}
use Rattle.gft_core.specs.declared.symbol.Sym.TheVariants.{Tok, Arg}
use Rattle.gft_core.specs.declared.tree.Tree.{Tree, App, out-Tree, fold-Tree}
use Rattle.gft_pmcfg.specs.declared.signature.AType.{AType}
use Rattle.gft_pmcfg.specs.declared.signature.Cat.{Cat}
use Rattle.gft_pmcfg.specs.declared.signature.Fun.{Fun}
use Rattle.gft_pmcfg.specs.declared.signature.Abstract.{Abstract}
use Rattle.gft_pmcfg.specs.declared.concrete.Info.{Info}
use Rattle.gft_pmcfg.specs.declared.concrete.Prod.{Prod}
use Rattle.gft_pmcfg.specs.declared.concrete.Def.{Def}
use Rattle.gft_pmcfg.specs.declared.concrete.Ref.{Ref}
use Rattle.gft_pmcfg.specs.declared.concrete.Concrete.{Concrete}
use Rattle.gft_pmcfg.specs.Nonterminals.{dimension_of}
use Rattle.gft_pmcfg.specs.Ranges.{is_of, has_function, index_step, is_index, is_type, are_types, is_category, is_function, are_categories, is_abstract, are_infos, is_symbol, are_sequences, are_of, fits, is_production, is_def, is_ref, is_concrete, is_in_range}
use Rattle.gft_model.specs.Fields.{Form, Fits}
use Rattle.gft_model.specs.FileForms.{times, ascending, parts, untagged, term, most_levels, type_form, types, category, function, literal_categories, listed, numbered_abstract, symbol, sequence, infos, literal_infos, nonterminals, production, def_form, ref_form, concrete, file}
use Rattle.gft_model.specs.Numbering.{named_step, changed_type, names_of, numbered, named}
use Rattle.gft_model.specs.Skeleton.{categories_of}
use Rattle.gft_model.proofs.Layers.{by_layers-App, by_layers-Int, by_layers-Str, by_layers-Hole}
use Rattle.gft_model.proofs.NumberedTerms.{category_changed, function_changed, names_stay}
use Rattle.gft_model.proofs.SoundFile.{count_of}

-- lists of values that fit
all_times : {A : Type 0} (f : Form A) (p : A → Bool) → ((x : A) → Fits f x → p x ≡ true) → (n : ℕ) (xs : List A)
    → Fits (times f n) xs → list_all p xs ≡ true
all_times f p one zero xs h = ap (list_all p) (sym h)
all_times f p one (suc n) [] h = absurd h
all_times f p one (suc n) (x ∷ xs) h = both_true (one x h.0) (all_times f p one n xs h.1)

all_ascending : {A : Type 0} (key : A → List ℕ) (f : Form A) (p : A → Bool) → ((x : A) → Fits f x → p x ≡ true)
    → (before : Option (List ℕ)) (n : ℕ) (xs : List A) → Fits (ascending key f before n) xs → list_all p xs ≡ true
all_ascending key f p one before zero xs h = ap (list_all p) (sym h)
all_ascending key f p one before (suc n) [] h = absurd h
all_ascending key f p one before (suc n) (x ∷ xs) h =
    both_true (one x h.0.0) (all_ascending key f p one (Some (key x)) n xs h.1)

-- a function has its name
has_at : (fs : List Fun) (k : ℕ) → k < length fs → has_function fs (slice_index_or (names_of fs) k []) ≡ true
has_at [] k b = absurd (omega (arith, b))
has_at (f ∷ fs) zero b = let same = (bytes_eq-Decides f.name f.name).1 refl in rw same refl
has_at (f ∷ fs) (suc k) b =
    let name = slice_index_or (names_of fs) k [] in
    rw (has_at fs k (omega (arith, b))) (or-true (bytes_eq f.name name))

-- terms, over functions of these names
module _ (fs : List Fun) (names : List (List ℕ)) (are : names_of fs ≡ names) where
  abbrev term_named : Tree → Tree
  term_named t = fold-Tree Tree (named_step names) t

  index_App : (n k : ℕ) (ts : List Tree) → k < length names → list_all (λ t. is_index fs n (term_named t)) ts ≡ true
      → is_index fs n (term_named (App (k ∷ []) ts)) ≡ true
  index_App n k ts b all =
      let bound : k < length fs = omega (arith, b, ap length are, length-map fs (λ (f : Fun). f.name)) in
      let has = ap (λ ns. has_function fs (slice_index_or ns k [])) (sym are) ∙ has_at fs k bound in
      ap (is_index fs n) (by_layers-App (named_step names) (k ∷ []) ts)
      ∙ by_layers-App (index_step fs n) (slice_index_or names k []) (map term_named ts)
      ∙ both_true has (list_all-map (λ b. b) (is_index fs n) (map term_named ts)
      ∙ list_all-map (is_index fs n) term_named ts ∙ all)

  index_untagged : (n tag : ℕ) (inner : Form Tree) → ((t : Tree) → Fits inner t → is_index fs n (term_named t) ≡ true)
      → (t : Tree) → Fits (untagged (length names) n inner tag) t → is_index fs n (term_named t) ≡ true
  index_untagged n zero inner one t h =
      ap (λ u. is_index fs n (term_named u)) (sym h.1.1)
      ∙ index_App n _ _ (ltb-true _ _ h.0.1) (all_times inner (λ u. is_index fs n (term_named u)) one _ _ h.1.0.1)
  index_untagged n (suc zero) inner one t h =
      let k = (parts (out-Tree t)).number in
      let bound : k < n = ltb-true k n h.0.1 in
      ap (λ u. is_index fs n (term_named u)) (sym h.1) ∙ ap (is_index fs n) (by_layers-Hole (named_step names) k)
      ∙ by_layers-Hole (index_step fs n) (suc k)
      ∙ both_true (le-leb 1 (suc k) (omega arith)) (le-leb (suc k) n (omega (arith, bound)))
  index_untagged n (suc (suc zero)) inner one t h =
      ap (λ u. is_index fs n (term_named u)) (sym h.1) ∙ ap (is_index fs n) (by_layers-Int (named_step names) _)
      ∙ by_layers-Int (index_step fs n) _
  index_untagged n (suc (suc (suc m))) inner one t h =
      ap (λ u. is_index fs n (term_named u)) (sym h.1) ∙ ap (is_index fs n) (by_layers-Str (named_step names) _)
      ∙ by_layers-Str (index_step fs n) _

  index_named : (n levels : ℕ) (t : Tree) → Fits (term (length names) n levels) t → is_index fs n (term_named t) ≡ true
  index_named n zero t h = absurd (never h.0.1) where
    never : false ≡ true → ⊥
    never e = cc
  index_named n (suc levels) t h = index_untagged n (parts (out-Tree t)).tag (term (length names) n levels)
      (index_named n levels) t h.1

-- types of an abstract syntax with these functions and so many categories
module _ (a : Abstract) (names : List (List ℕ)) (are : names_of a.funs ≡ names) (size : ℕ) (sized : length a.cats ≡ size) where
  type_named : (n : ℕ) (t : AType) → Fits (type_form size (length names) n) t → is_type a n (changed_type (named_step names) t)
      ≡ true
  type_named n t h = both_true (ap (nat_lt t.cat) sized ∙ h.0.1)
      (list_all-map (is_index a.funs n) (fold-Tree Tree (named_step names)) t.args
      ∙ all_times _ (λ u. is_index a.funs n (fold-Tree Tree (named_step names) u))
      (index_named a.funs names are n most_levels) _ _ h.1.0.1)

  types_named : (n count : ℕ) (ts : List AType) → Fits (types size (length names) n count) ts
      → are_types a n (map (changed_type (named_step names)) ts) ≡ true
  types_named n zero ts h = ap (λ us. are_types a n (map (changed_type (named_step names)) us)) (sym h)
  types_named n (suc count) [] h = absurd h
  types_named n (suc count) (t ∷ ts) h = both_true (type_named n t h.0)
      (ap (λ m. are_types a m (map (changed_type (named_step names)) ts)) (omega arith) ∙ types_named (suc n) count ts h.1)

  category_named : (c : Cat) → Fits (category size (length names)) c → is_category a (category_changed (named_step names) c)
      ≡ true
  category_named c h = types_named 0 _ c.context h.1.0.1

  function_named : (f : Fun) → Fits (function size (length names)) f → is_function a (function_changed (named_step names) f)
      ≡ true
  function_named f h = both_true (types_named 0 _ f.args h.1.0.1)
      (ap (λ n. is_type a n (changed_type (named_step names) f.result)) (length-map f.args (changed_type (named_step names)))
      ∙ type_named (length f.args) f.result h.1.1.0)

-- an abstract syntax by numbers, with its names
abstract_named : (b : Abstract) → Fits numbered_abstract b → is_abstract (named b) ≡ true
abstract_named b h =
    let names = names_of b.funs in
    let stay : names_of (named b).funs ≡ names = names_stay (named_step names) b.funs in
    let count : length b.funs ≡ length names = sym (length-map b.funs (λ (f : Fun). f.name)) in
    let whole : literal_categories ++ listed b.cats ≡ b.cats = ap (λ (x : Abstract). x.cats) h.1.1.1.1.1.1 in
    let size : length (named b).cats ≡ length (listed b.cats) + 2
    = length-map b.cats (category_changed (named_step names)) ∙ ap length (sym whole) ∙ omega arith in
    let cs = subst (λ n. Fits (ascending (λ (c : Cat). c.name) (category (length (listed b.cats) + 2) n) None
    (length (listed b.cats))) (listed b.cats)) count h.1.1.1.1.0 in
    let gs = subst (λ n. Fits (ascending (λ (f : Fun). f.name) (function (length (listed b.cats) + 2) n) None
    (length b.funs)) b.funs) count h.1.1.1.1.1.0 in
    let few : nat_le (length (map (category_changed (named_step names)) (listed b.cats))) 16384 ≡ true
    = ap (λ n. nat_le n 16384) (length-map (listed b.cats) (category_changed (named_step names))) ∙ h.1.1.0.1 in
    let categories : are_categories (named b).cats ≡ true
    = ap (λ (xs : List Cat). are_categories (map (category_changed (named_step names)) xs)) (sym whole) ∙ both_true refl few in
    let start : nat_lt (named b).start (length (named b).cats) ≡ true
    = ap (nat_lt b.start) size ∙ h.1.1.0.0.1 in
    let each : list_all (is_category (named b)) (named b).cats ≡ true
    = ap (λ (xs : List Cat). list_all (is_category (named b)) (map (category_changed (named_step names)) xs)) (sym whole)
    ∙ list_all-map (is_category (named b)) (category_changed (named_step names)) (listed b.cats)
    ∙ all_ascending _ _ _ (category_named (named b) names stay _ size) None _ _ cs in
    let functions : list_all (is_function (named b)) (named b).funs ≡ true
    = list_all-map (is_function (named b)) (function_changed (named_step names)) b.funs
    ∙ all_ascending _ _ _ (function_named (named b) names stay _ size) None _ _ gs in
    both_true (both_true (both_true categories start) each) functions

-- symbols and sequences
symbol_fits : (dims : List ℕ) (s : Sym) → Fits (symbol dims) s → is_symbol dims s ≡ true
symbol_fits dims (Tok w) h = refl
symbol_fits dims (Arg i l) h =
    let bound = ltb-true i (length dims) h.1.0.1 in
    ap (λ o. option_map_or (λ dim. nat_lt l dim) o false) (slice_get-get_or dims i 0 bound) ∙ h.1.1.0.1

sequence_fits : (dims : List ℕ) (seq : List Sym) → Fits (sequence dims) seq → list_all (is_symbol dims) seq ≡ true
sequence_fits dims seq h = all_times (symbol dims) (is_symbol dims) (symbol_fits dims) _ seq h.1

sequences_fit : (dims : List ℕ) (dim : ℕ) (seqs : List (List Sym)) → Fits (times (sequence dims) dim) seqs
    → are_sequences dims dim seqs ≡ true
sequences_fit dims dim seqs h = both_true (eq-eqb _ _ (count_of (sequence dims) dim seqs h))
    (all_times (sequence dims) (list_all (is_symbol dims)) (sequence_fits dims) dim seqs h)

-- what is at most 65,536 is at most 1,048,576
within_more : (n : ℕ) → nat_le n 65536 ≡ true → nat_le n 1048576 ≡ true
within_more n h = le-leb n 1048576 (omega (arith, leb-true n 65536 h))

-- what is made of categories
infos_fit : (first n : ℕ) (is : List Info) → Fits (infos first n) is → (are_infos first is ≡ true) × (length is ≡ n)
infos_fit first zero is h = (ap (are_infos first) (sym h), ap length (sym h))
infos_fit first (suc n) [] h = absurd h
infos_fit first (suc n) (i ∷ is) h =
    let rest = infos_fit (first + i.count) n is h.1 in
    let from : i.first ≡ first = ap (λ (x : Info). x.first) (sym h.0.1.1) in
    let counts = and_parts _ _ h.0.0.1 in (
      both_true (both_true (eq-eqb _ _ from) (both_true (both_true counts.0 (within_more i.count counts.1)) h.0.1.0.1)) rest.0,
      omega (arith, rest.1),
    )

-- productions, defs and refs
args_fit : (is : List Info) (ts : List AType) (ns : List ℕ) → Fits (nonterminals is (map (λ (t : AType). t.cat) ts)) ns
    → are_of is ts ns ≡ true
args_fit is [] [] h = refl
args_fit is [] (n ∷ ns) h = cc
args_fit is (t ∷ ts) [] h = absurd h
args_fit is (t ∷ ts) (n ∷ ns) h = both_true h.0.1 (args_fit is ts ns h.1)

production_fits : (fs : List Fun) (is : List Info) (p : Prod) → Fits (production fs is) p → is_production fs is p ≡ true
production_fits fs is p h = by_function (slice_get fs p.fun) refl where
  none : slice_get fs p.fun ≡ None → p.fun < length fs → ⊥
  none e b = let there = slice_get-get_or fs p.fun
      (record { name = []; args = []; result = record { cat = 0; args = [] } }) b in cc

  by_function : (o : Option Fun) → slice_get fs p.fun ≡ o → option_map_or (fits is p) (slice_get fs p.fun) false ≡ true
  by_function None e = absurd (none e (ltb-true _ _ h.0.1))
  by_function (Some f) e =
      let args = subst (λ (o : Option Fun). Fits (nonterminals is (option_map_or categories_of o [])) p.args) e h.1.0 in
      let result = ap (λ (o : Option Fun). is_of is (option_map_or (λ (g : Fun). g.result.cat) o 0) p.result) (sym e)
      ∙ h.1.1.0.1 in
      ap (λ (o : Option Fun). option_map_or (fits is p) o false) e
      ∙ both_true (both_true (args_fit is f.args p.args args) result)
      (sequences_fit (map (dimension_of is) p.args) (dimension_of is p.result) p.seqs h.1.1.1.0)

def_fits : (is : List Info) (d : Def) → Fits (def_form is) d → is_def is d ≡ true
def_fits is d h = both_true h.0.1 (sequences_fit (1 ∷ []) (dimension_of is d.result) d.seqs h.1.0)

ref_fits : (is : List Info) (r : Ref) → Fits (ref_form is) r → is_ref is r ≡ true
ref_fits is r h = both_true h.0.1 (sequence_fits (dimension_of is r.arg ∷ []) r.seq h.1.0)

-- categories of literals stand before those that are listed
two_more : (cs : List Cat) → are_categories cs ≡ true → length cs ≡ length (listed cs) + 2
two_more [] h = cc
two_more (i ∷ []) h = cc
two_more (i ∷ (s ∷ cs)) h = omega arith

concrete_fits : (a : Abstract) → length a.cats ≡ length (listed a.cats) + 2 → (c : Concrete) → Fits (concrete a) c
    → is_concrete a c ≡ true
concrete_fits a size c h =
    let all = literal_infos ++ listed c.infos in
    let whole : all ≡ c.infos = ap (λ (x : Concrete). x.infos) h.1.1.1.1.1 in
    let is = infos_fit 2 (length (listed a.cats)) (listed c.infos) h.1.0 in
    let count : length all ≡ length a.cats = omega (arith, is.1, size) in
    subst (λ (xs : List Info). is_concrete a
    (record { name = c.name; infos = xs; prods = c.prods; defs = c.defs; refs = c.refs }) ≡ true) whole
    (both_true (both_true (both_true (both_true (both_true (eq-eqb _ _ count) is.0) refl)
    (all_ascending _ _ _ (production_fits a.funs all) None _ _ h.1.1.0.1))
    (all_ascending _ _ _ (def_fits all) None _ _ h.1.1.1.0.1))
    (all_ascending _ _ _ (ref_fits all) None _ _ h.1.1.1.1.0.1))

-- fields that fit
pub fields_in_range : (a : Abstract) (cs : List Concrete) → Fits file (a, cs) → is_in_range a cs ≡ true
fields_in_range a cs h =
    let abs : is_abstract a ≡ true = subst (λ (b : Abstract). is_abstract b ≡ true) h.1.1.0.1
    (abstract_named (numbered a) h.1.1.0.0) in
    let categories = (and_parts _ _ (and_parts _ _ (and_parts _ _ abs).0).0).0 in
    both_true abs (all_ascending _ _ _ (concrete_fits a (two_more a.cats categories)) None _ _ h.1.1.1.0.1)
