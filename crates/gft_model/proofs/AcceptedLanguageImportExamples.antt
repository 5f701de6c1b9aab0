-- A worked example of an import of a language that is accepted: that of EEng.gf, which is concrete EEng of
-- E = {lincat S = {s : Str} ;}, beside E.gf, which is abstract E = {cat S ;}; and what it gives.
use Rattle.std.proofs.Common.{◌≡◌, ap, sym, ◌∙◌, refl, ℕ, zero, suc, true, false, List, [], ◌∷◌, length, Some, None, subst, arith}
use Rattle.std.specs.FinMap.{get}
use Rattle.std.specs.Prelude.{codes, bytes_eq, Contains, slice_get, ◌<◌}
use Rattle.std.specs.Str.{chars, is_utf8}
use lib.Utf8
use Rattle.ucd_derived.specs.Binary.{is_xid_start, is_xid_continue}
use Rattle.ucd_derived.specs.XidStartRanges.{xid_start_ranges}
use Rattle.ucd_derived.specs.XidContinueRanges.{xid_continue_ranges}
use Rattle.ucd_table.specs.Rows.{in_ranges}
use Rattle.gft_io.specs.Outside.{Files}
use Rattle.gft_rules.specs.declared.refusal.Refusal.{Refusal}
use Rattle.gft_syntax.specs.declared.flat.Flat.{Flat}
use Rattle.gft_syntax.specs.declared.module.Module.{Module}
use Rattle.gft_model.specs.AbstractFaults.{its_context, no_context}
use Rattle.gft_model.specs.AbstractParts.{IsAbstractPart}
use Rattle.gft_model.specs.CompileFaults.{BreaksCompiling}
use Rattle.gft_model.specs.Import.{IsView, AreTypings, is_named, BreaksModule, BreaksLoaded, in_module, too_many_categories, in_language, abstracts_differ, BreaksImport, in_loading, once_loaded, HasLanguage, of_module, of_its_source, GivesPart, with_language}
use Rattle.gft_model.specs.Loading
use Rattle.gft_model.specs.Modules.{header_name, module_named}
use Rattle.gft_model.specs.Refusals.{Moment, IsAccepted}
use Rattle.gft_model.specs.Sessions.{source, IsImported}
use Rattle.gft_model.specs.Source.{Tokens}
use Rattle.gft_model.specs.States.{Loaded, of_source}
use Rattle.gft_model.proofs.AcceptedAbstractExamples.{entry_of_s, e_accepted}
use Rattle.gft_model.proofs.AcceptedConcreteExamples.{module_is_complete, e_eng_accepted}
use Rattle.gft_model.proofs.AcceptedImportExamples.{text, is_source, e_syntax}
use Rattle.gft_model.proofs.AcceptedLanguageExamples.{untyped, typings, are_typings, compiles}
use Rattle.gft_model.proofs.AcceptedNamesExamples.{one_of, abstract_e, e_eng, mods}
use Rattle.gft_model.proofs.AcceptedTextExamples.{tokens, spells_e_eng, no_slice_fault}
use Rattle.gft_model.proofs.AcceptedViewExamples.{is_view, has_language}
use Rattle.gft_model.proofs.FlatLaws.{flat_once, typings_once}
use Rattle.gft_model.proofs.LoadingLaws.{named_once}

abbrev language_text : List ℕ
language_text = codes "concrete EEng of E = {lincat S = {s : Str} ;}"

has_tokens : Tokens 0 language_text tokens
unfolding chars is_utf8 lib.Utf8.encode is_xid_start is_xid_continue xid_start_ranges xid_continue_ranges in_ranges
has_tokens = record { is_text = (language_text, (refl, refl)); spelled = refl; ranged = refl }

language_is_source : Loading.IsSource 0 language_text e_eng
language_is_source = (tokens, has_tokens, no_slice_fault, spells_e_eng)

-- LOADING

abbrev file_name : List ℕ
file_name = codes "EEng.gf"

abbrev all_loaded : Loading.Loading
all_loaded = record { files = file_name ∷ codes "E.gf" ∷ []; modules = mods }

none_loaded : (files : List (List ℕ)) (M : List ℕ) → Loading.IsLoaded (record { files = files; modules = [] }) M → ⊥
none_loaded files M l = let e = l.1 in cc

not_waiting : Contains (codes "EEng" ∷ []) (codes "E") → ⊥
not_waiting c = let wrong : true ≡ false = ap (λ x. bytes_eq x (codes "EEng")) (one_of c) in cc

module _ (files : Files) (has : get files file_name ≡ Some language_text) (has_e : get files (codes "E.gf") ≡ Some text) where
  pub loads : Loading.LoadsNamed files Loading.nothing_loaded (file_name ∷ []) (Loading.loaded all_loaded)
  loads =
      Loading.source_loaded (codes "EEng", refl)
      (Loading.loaded_now (none_loaded [] (codes "EEng")) (omega arith)
      (Loading.complete {t = record { files = file_name ∷ codes "E.gf" ∷ []; modules = abstract_e 1 ∷ [] }} (has, omega arith)
      language_is_source refl
      (Loading.next_loaded not_waiting
      (Loading.loaded_now (none_loaded (file_name ∷ []) (codes "E")) (omega arith)
      (Loading.complete {t = record { files = file_name ∷ codes "E.gf" ∷ []; modules = [] }} (has_e, omega arith)
      (is_source 1) refl Loading.no_more))
      Loading.no_more)))
      Loading.none_named

-- WHAT IS LOADED

each_accepted : (i : ℕ) {m : Module} → slice_get mods i ≡ Some m → IsAccepted (BreaksModule mods (is_named (file_name ∷ []) m) m)
each_accepted zero {m} e at r b =
    let same : m ≡ abstract_e 1 = cc in
    e_accepted mods 1 (is_named (file_name ∷ []) m) refl module_is_complete at r
    (subst (λ k. BreaksModule mods (is_named (file_name ∷ []) m) k at r) same b)
each_accepted (suc zero) {m} e at r b =
    let same : m ≡ e_eng = cc in
    e_eng_accepted (is_named (file_name ∷ []) m) at r (subst (λ k. BreaksModule mods (is_named (file_name ∷ []) m) k at r) same b)
each_accepted (suc (suc i)) e at r b = cc

named_is : {file : List ℕ} {m : Module} → file_name ≡ file → module_named mods (Loading.base_of file) ≡ Some m → m ≡ e_eng
named_is {m = m} same is = let there = subst (λ x. module_named mods (Loading.base_of x) ≡ Some m) (sym same) is in cc

file_is : (i : ℕ) {file : List ℕ} → slice_get (file_name ∷ []) i ≡ Some file → file_name ≡ file
file_is zero e = cc
file_is (suc i) e = cc

view_once : {m : Module} {f : Flat} → m ≡ e_eng → IsView mods m f → f ≡ untyped
view_once {f = f} same v = flat_once mods (codes "E" ∷ codes "EEng" ∷ []) f untyped (subst (λ k. IsView mods k f) same v) is_view

no_language_broken : {file lang : List ℕ} {f : Flat} {at : Moment} {r : Refusal} → file_name ≡ file →
    HasLanguage mods file lang f →
    BreaksCompiling f lang at r → ⊥
no_language_broken {at = at} {r = r} same (of_module {n = n} {flat = f} {typings = ts} is h v t) b =
    let module_there = named_is same is in
    let header = sym h ∙ ap (λ (k : Module). k.header) module_there in
    let name : n.name ≡ codes "EEng" = ap (λ g. (header_name g).name) header in
    let flats = view_once module_there v in
    let types = typings_once untyped ts typings (subst (λ g. AreTypings g ts) flats t) are_typings in
    compiles at r (subst (λ x. BreaksCompiling (record untyped { typed = typings }) x at r) name
    (subst (λ g. BreaksCompiling g n.name at r) (λ i. record (flats i) { typed = types i }) b))

few_categories : {file : List ℕ} {m : Module} {f : Flat} → Contains (file_name ∷ []) file →
    module_named mods (Loading.base_of file) ≡ Some m → IsView mods m f → 16384 < length f.cats → ⊥
few_categories c is v l =
    let one = ap (λ (g : Flat). length g.cats) (view_once (named_is (one_of c) is) v) in omega (arith, l, one)

pub nothing_broken : (files : Files) → IsAccepted (BreaksLoaded files (file_name ∷ []) mods)
nothing_broken files at r (in_module {i} {at = within} g b) = each_accepted i g within r b
nothing_broken files at r (too_many_categories c is v l) = few_categories c is v l
nothing_broken files at r (in_language {i} g h b) = no_language_broken (file_is i g) h b
nothing_broken files at r (abstracts_differ {rest = rest} i {other = other} e g p q n) =
    let none : [] ≡ rest = cc in
    let there : None ≡ Some other = subst (λ fs. slice_get fs i ≡ Some other) (sym none) g in cc

-- THE IMPORT

is_abstract_part : IsAbstractPart untyped e_syntax
is_abstract_part = record {
  is_named = refl;
  sorted_cats = entry_of_s 1 ∷ [];
  sorted_funs = [];
  cats_by_name = record { same = λ e. (λ c. c, λ c. c); in_order = λ i j d a b. absurd (omega (arith, a, b)) };
  funs_by_name = record { same = λ e. (λ c. c, λ c. c); in_order = λ i j d a b. absurd (omega (arith, b)) };
  listed = record { name = codes "S"; context = [] } ∷ [];
  built_in = refl;
  categories = (
    record { name = refl; context = []; has_context = its_context (0, omega arith, refl) no_context; numbered = tt },
    tt,
  );
  functions = tt;
  starts = refl;
}

abbrev e_eng_part : Loaded
e_eng_part = record { abs = e_syntax; languages = (codes "EEng", of_source (record untyped { typed = typings })) ∷ [] }

module _ (files : Files) (has : get files file_name ≡ Some language_text) (has_e : get files (codes "E.gf") ≡ Some text) where
  -- it is accepted
  pub is_accepted : IsAccepted (BreaksImport files (file_name ∷ []))
  is_accepted at r (in_loading l) = let same = named_once (loads files has has_e) l in cc
  is_accepted at r (once_loaded {s} {at = when} l b) =
      let same = named_once (loads files has has_e) l in
      let loading : s ≡ all_loaded = cc in
      nothing_broken files when r
      (subst (λ (t : Loading.Loading). BreaksLoaded files (file_name ∷ []) t.modules when r) loading b)

  -- and gives the abstract syntax of E with the language EEng
  pub gives_e_eng : GivesPart files (file_name ∷ []) file_name e_eng_part
  gives_e_eng = with_language (loads files has has_e) has_language (of_its_source refl is_view is_abstract_part)

  -- which is all that the import gives to a session
  pub is_imported : IsImported files (file_name ∷ []) e_eng_part
  is_imported = record {
    accepted = is_accepted;
    parts = e_eng_part ∷ [];
    given = (source (codes "EEng", refl) gives_e_eng, tt);
    abs = refl;
    languages = refl;
  }
