-- A worked example of an import that is accepted: that of the file E.gf, which is abstract E = {cat S ;}; and what it gives.
use Rattle.std.proofs.Common.{◌≡◌, ap, sym, refl, ℕ, zero, suc, false, List, [], ◌∷◌, length, Some, None, subst, arith}
use Rattle.std.specs.FinMap.{get}
use Rattle.std.specs.Prelude.{codes, Contains, slice_get, ◌||◌, ◌<◌}
use Rattle.std.specs.Str.{chars, is_utf8}
use lib.Utf8
use Rattle.ucd_derived.specs.Binary.{is_xid_start, is_xid_continue}
use Rattle.ucd_derived.specs.XidStartRanges.{xid_start_ranges}
use Rattle.ucd_derived.specs.XidContinueRanges.{xid_continue_ranges}
use Rattle.ucd_table.specs.Rows.{in_ranges}
use Rattle.gft_io.specs.Outside.{Files}
use Rattle.gft_pmcfg.specs.declared.signature.Abstract.{Abstract as AbstractSyntax}
use Rattle.gft_syntax.specs.declared.flat.Flat.{Flat}
use Rattle.gft_syntax.specs.declared.module.Module.{Module}
use Rattle.gft_model.specs.AbstractFaults.{its_context, no_context}
use Rattle.gft_model.specs.AbstractParts.{IsAbstractPart}
use Rattle.gft_model.specs.Import.{IsView, is_named, BreaksModule, BreaksLoaded, in_module, too_many_categories, in_language, abstracts_differ, BreaksImport, in_loading, once_loaded, HasLanguage, of_module, of_its_source, GivesPart, abstract_part}
use Rattle.gft_model.specs.Loading
use Rattle.gft_model.specs.Modules.{is_interface, is_incomplete, module_named}
use Rattle.gft_model.specs.Refusals.{IsAccepted}
use Rattle.gft_model.specs.Source.{Tokens}
use Rattle.gft_model.specs.Sessions.{source, IsImported}
use Rattle.gft_model.specs.States.{Loaded}
use Rattle.gft_model.proofs.AcceptedAbstractExamples.{entry_of_s, e_accepted}
use Rattle.gft_model.proofs.AcceptedGrammarExamples.{mods, flat, is_view}
use Rattle.gft_model.proofs.AcceptedNamesExamples.{one_of, abstract_e}
use Rattle.gft_model.proofs.AcceptedSlicesExamples.{tokens, spells_e, no_slice_fault}
use Rattle.gft_model.proofs.FlatLaws.{flat_once}
use Rattle.gft_model.proofs.LoadingLaws.{named_once}

abbrev pub text : List ℕ
text = codes "abstract E = {cat S ;}"

-- the text is the module, where nothing is broken in its slices
has_tokens : (file : ℕ) → Tokens file text (tokens file)
unfolding chars is_utf8 lib.Utf8.encode is_xid_start is_xid_continue xid_start_ranges xid_continue_ranges in_ranges
has_tokens file = record { is_text = (text, (refl, refl)); spelled = refl; ranged = refl }

pub is_source : (file : ℕ) → Loading.IsSource file text (abstract_e file)
is_source file = (tokens file, has_tokens file, no_slice_fault file, spells_e file)

-- LOADING

abbrev file_name : List ℕ
file_name = codes "E.gf"

abbrev all_loaded : Loading.Loading
all_loaded = record { files = file_name ∷ []; modules = mods }

none_loaded : (M : List ℕ) → Loading.IsLoaded Loading.nothing_loaded M → ⊥
none_loaded M l = let e = l.1 in cc

module _ (files : Files) (has : get files file_name ≡ Some text) where
  pub loads : Loading.LoadsNamed files Loading.nothing_loaded (file_name ∷ []) (Loading.loaded all_loaded)
  loads =
      Loading.source_loaded (codes "E", refl)
      (Loading.loaded_now (none_loaded (codes "E")) (omega arith)
      (Loading.complete {t = record { files = file_name ∷ []; modules = [] }} (has, omega arith)
      (is_source 0) refl Loading.no_more))
      Loading.none_named

-- WHAT IS LOADED

module_is : (i : ℕ) {m : Module} → slice_get mods i ≡ Some m → m ≡ abstract_e 0
module_is zero e = cc
module_is (suc i) e = cc

none_met : (i : ℕ) (m : Module) → slice_get mods i ≡ Some m → (is_interface m.header || is_incomplete m.header) ≡ false
none_met i m e = ap (λ (k : Module). is_interface k.header || is_incomplete k.header) (module_is i e)

-- the one module has the name of the one file
named_is : {file : List ℕ} {m : Module} → file_name ≡ file → module_named mods (Loading.base_of file) ≡ Some m → m ≡ abstract_e 0
named_is {m = m} same is = let there = subst (λ x. module_named mods (Loading.base_of x) ≡ Some m) (sym same) is in cc

file_is : (i : ℕ) {file : List ℕ} → slice_get (file_name ∷ []) i ≡ Some file → file_name ≡ file
file_is zero e = cc
file_is (suc i) e = cc

no_language : {file lang : List ℕ} {f : Flat} → file_name ≡ file → HasLanguage mods file lang f → ⊥
no_language same (of_module is h v t) = let header = ap (λ (k : Module). k.header) (named_is same is) in cc

few_categories : {file : List ℕ} {m : Module} {f : Flat} → Contains (file_name ∷ []) file →
    module_named mods (Loading.base_of file) ≡ Some m → IsView mods m f → 16384 < length f.cats → ⊥
few_categories {m = m} {f = f} c is v l =
    let same = flat_once mods (codes "E" ∷ []) f flat (subst (λ k. IsView mods k f) (named_is (one_of c) is) v) is_view in
    let one = ap (λ (g : Flat). length g.cats) same in omega (arith, l, one)

-- so nothing is broken once it is loaded
pub nothing_broken : (files : Files) → IsAccepted (BreaksLoaded files (file_name ∷ []) mods)
nothing_broken files at r (in_module {i} {m} {at = within} g b) =
    e_accepted mods 0 (is_named (file_name ∷ []) m) refl none_met within r
    (subst (λ k. BreaksModule mods (is_named (file_name ∷ []) m) k within r) (module_is i g) b)
nothing_broken files at r (too_many_categories c is v l) = few_categories c is v l
nothing_broken files at r (in_language {i} g h b) = no_language (file_is i g) h
nothing_broken files at r (abstracts_differ {rest = rest} i {other = other} e g p q n) =
    let none : [] ≡ rest = cc in
    let there : None ≡ Some other = subst (λ fs. slice_get fs i ≡ Some other) (sym none) g in cc

-- THE IMPORT

abbrev pub e_syntax : AbstractSyntax
e_syntax = record {
  name = codes "E";
  start = 2;
  cats = record { name = codes "Int"; context = [] } ∷ record { name = codes "String"; context = [] }
      ∷ record { name = codes "S"; context = [] } ∷ [];
  funs = [];
}

abbrev e_part : Loaded
e_part = record { abs = e_syntax; languages = [] }

pub is_abstract_part : IsAbstractPart flat e_syntax
is_abstract_part = record {
  is_named = refl;
  sorted_cats = entry_of_s 0 ∷ [];
  sorted_funs = [];
  cats_by_name = record { same = λ e. (λ c. c, λ c. c); in_order = λ i j d a b. absurd (omega (arith, a, b)) };
  funs_by_name = record { same = λ e. (λ c. c, λ c. c); in_order = λ i j d a b. absurd (omega (arith, b)) };
  listed = record { name = codes "S"; context = [] } ∷ [];
  built_in = refl;
  categories = (
    record { name = refl; context = []; has_context = its_context (0, omega arith, refl) no_context; numbered = tt },
    tt,
  );
  functions = tt;
  starts = refl;
}

module _ (files : Files) (has : get files file_name ≡ Some text) where
  -- it is accepted
  pub is_accepted : IsAccepted (BreaksImport files (file_name ∷ []))
  is_accepted at r (in_loading l) = let same = named_once (loads files has) l in cc
  is_accepted at r (once_loaded {s} {at = when} l b) =
      let same = named_once (loads files has) l in
      let loading : s ≡ all_loaded = cc in
      nothing_broken files when r
      (subst (λ (t : Loading.Loading). BreaksLoaded files (file_name ∷ []) t.modules when r) loading b)

  -- and gives the abstract syntax of E
  pub gives_e : GivesPart files (file_name ∷ []) file_name e_part
  gives_e = abstract_part (loads files has) refl refl (of_its_source refl is_view is_abstract_part)

  -- which is all that the import gives to a session
  pub is_imported : IsImported files (file_name ∷ []) e_part
  is_imported = record {
    accepted = is_accepted;
    parts = e_part ∷ [];
    given = (source (codes "E", refl) gives_e, tt);
    abs = refl;
    languages = refl;
  }
