-- What makes a grammar, and the flaws of two that make none.
use Rattle.std.specs.Prelude.{◌≡◌, ℕ, true, false, All, List, [], ◌∷◌, codes, take, None}
use Rattle.std.proofs.Common.{ap, length, refl, arith}
use Rattle.std.specs.Str.{is_utf8, chars}
use lib.Utf8
use Rattle.ucd_derived.specs.Binary.{is_xid_start, is_xid_continue}
use Rattle.ucd_derived.specs.XidStartRanges.{xid_start_ranges}
use Rattle.ucd_derived.specs.XidContinueRanges.{xid_continue_ranges}
use Rattle.ucd_table.specs.Rows.{in_ranges}
use Rattle.gft_core.specs.declared.symbol.Sym.TheVariants.{Tok, Arg}
use Rattle.gft_pmcfg.specs.declared.signature.AType.{AType}
use Rattle.gft_pmcfg.specs.declared.signature.Cat.{Cat}
use Rattle.gft_pmcfg.specs.declared.signature.Abstract.{Abstract}
use Rattle.gft_pmcfg.specs.declared.concrete.Concrete.{Concrete}
use Rattle.gft_pmcfg.specs.declared.grammar.Grammar.{Grammar}
use Rattle.gft_rules.specs.declared.rule.Rule.TheVariants.{BadOrder}
use Rattle.gft_model.specs.Typing.{HoleTypes, IsType, IsCategoryTyped, IsFunctionTyped, HasTypes, none}
use Rattle.gft_model.specs.Flaws.{Flaw, arity, unproductive, here, too_few}
use Rattle.gft_model.specs.Runs as runs
use Rattle.gft_model.specs.Runs.{IsKept, MayBeHole}
use Rattle.gft_model.specs.Fields.{Fits}
use Rattle.gft_model.specs.FileForms.{sized, ascending, listed, symbol, production, def_form, ref_form, concrete, type_form, numbered_abstract, abstract, file}
use Rattle.gft_model.specs.FileForms as forms
use Rattle.gft_model.specs.Numbering.{numbered}
use Rattle.gft_model.specs.PortableFile.{file_bytes, IsGrammar, IsReduced, Reads, IsInvalid, HasFault, of_field, IsFlawed, of_category, of_function, of_production}
use Rattle.gft_model.proofs.RunLemmas.{all_none, all_one, all_from}
use Rattle.gft_model.proofs.Tiny.{abs, eng}
use Rattle.gft_model.proofs.Grammars.{dead, barren_eng}
use Rattle.gft_model.proofs.KeptExamples.{f_not_kept}
use Rattle.gft_model.proofs.NoFlaw.{no_flaw}

-- the fields of T
word_fits : Fits (symbol []) (Tok (codes "a"))
unfolding is_utf8 chars lib.Utf8.encode is_xid_start is_xid_continue xid_start_ranges xid_continue_ranges in_ranges
word_fits = ((omega arith, refl), ((omega arith, (refl, refl)), refl))

component_fits : Fits (symbol (1 ∷ [])) (Arg 0 0)
component_fits = ((omega arith, refl), ((omega arith, refl), ((omega arith, refl), refl)))

production_fits : Fits (production abs.funs eng.infos) (record {
  fun = 0;
  args = [];
  result = 2;
  seqs =
      (Tok (codes "a") ∷ []) ∷ [];
})
unfolding is_utf8 chars lib.Utf8.encode is_xid_start is_xid_continue xid_start_ranges xid_continue_ranges in_ranges
production_fits = ((omega arith, refl), (refl, ((omega arith, refl), (((omega arith, (word_fits, refl)), refl), refl))))

def_fits : Fits (def_form eng.infos) (record { result = 2; seqs = (Arg 0 0 ∷ []) ∷ [] })
def_fits = ((omega arith, refl), (((omega arith, (component_fits, refl)), refl), refl))

ref_fits : Fits (ref_form eng.infos) (record { arg = 2; seq = Arg 0 0 ∷ [] })
ref_fits = ((omega arith, refl), ((omega arith, (component_fits, refl)), refl))

pub concrete_fits : Fits (concrete abs) eng
unfolding is_utf8 chars lib.Utf8.encode is_xid_start is_xid_continue xid_start_ranges xid_continue_ranges in_ranges
concrete_fits = (
  (omega arith, (refl, refl)),
  (
    (((omega arith, refl), ((omega arith, refl), refl)), refl),
    (
      (omega arith, ((production_fits, refl), refl)),
      ((omega arith, ((def_fits, refl), refl)), ((omega arith, ((ref_fits, refl), refl)), refl)),
    ),
  ),
)

-- a category without context, and a type without indices
category_fits : Fits (forms.category 3 1) (record { name = codes "S"; context = [] })
unfolding is_utf8 chars lib.Utf8.encode is_xid_start is_xid_continue xid_start_ranges xid_continue_ranges in_ranges
category_fits = ((omega arith, (refl, refl)), ((omega arith, refl), refl))

type_fits : Fits (type_form 3 1 0) (record { cat = 2; args = [] })
type_fits = ((omega arith, refl), ((omega arith, refl), refl))

abstract_fits : Fits abstract abs
unfolding is_utf8 chars lib.Utf8.encode is_xid_start is_xid_continue xid_start_ranges xid_continue_ranges in_ranges
abstract_fits = (
  (
    (omega arith, (refl, refl)),
    (
      omega arith,
      (
        ((omega arith, refl), refl),
        (
          omega arith,
          (
            ((category_fits, refl), refl),
            (((((omega arith, (refl, refl)), ((omega arith, refl), (type_fits, refl))), refl), refl), refl),
          ),
        ),
      ),
    ),
  ),
  refl,
)

file_fits : (cs : List Concrete) → Fits (sized (ascending (λ (c : Concrete). c.name) (concrete abs) None)) cs → Fits file
    (abs, cs)
unfolding is_utf8 chars lib.Utf8.encode is_xid_start is_xid_continue xid_start_ranges xid_continue_ranges in_ranges
file_fits cs h = ((refl, refl), ((omega arith, refl), (abstract_fits, (h, refl))))

fields : Fits file (abs, eng ∷ [])
fields = file_fits (eng ∷ []) (omega arith, ((concrete_fits, refl), refl))

-- its types are well formed, and its production is kept
only_s : IsType abs [] (record { cat = 2; args = [] })
only_s = record { category = record { name = codes "S"; context = [] }; numbered = refl; indices = none }

types : HasTypes abs
types = (
  all_from (IsCategoryTyped abs) abs.cats (tt, (tt, (tt, tt))),
  all_from (IsFunctionTyped abs) abs.funs ((only_s, tt), tt),
)

reduced : All IsReduced (eng ∷ [])
reduced = all_one IsReduced eng (all_from (IsKept eng) eng.prods (([], runs.none, all_none (MayBeHole eng)), tt))

tiny_is_grammar : IsGrammar abs (eng ∷ [])
tiny_is_grammar = record { fits = fields; types = types; reduced = reduced }

-- so is its abstract syntax alone
alone_is_grammar : IsGrammar abs []
alone_is_grammar = record { fits = file_fits [] (omega arith, refl); types = types; reduced = all_none IsReduced }

-- its bytes are read as it, it has no flaw, and other bytes are not its own
abbrev pub tiny : Grammar
tiny = record { abs = abs; concretes = eng ∷ []; in_range = refl }

pub tiny_is_read : Reads (file_bytes abs (eng ∷ [])) tiny
tiny_is_read = record { grammar = tiny_is_grammar; bytes_are = refl }

tiny_has_no_flaw : (flaw : Flaw) (at : ℕ) → ¬ IsFlawed abs (eng ∷ []) flaw at
tiny_has_no_flaw flaw at d = no_flaw tiny_is_grammar d

one_byte_is_not_tiny : ¬ Reads (0 ∷ []) tiny
one_byte_is_not_tiny r = absurd (omega (arith, ap length r.bytes_are))

-- two functions out of order
abbrev of_s : AType
of_s = record { cat = 2; args = [] }

abbrev swapped : Abstract
swapped = record {
  name = codes "T";
  start = 2;
  cats = abs.cats;
  funs = record { name = codes "b"; args = []; result = of_s } ∷ record { name = codes "a"; args = []; result = of_s } ∷ [];
}

swapped_is_no_grammar : ¬ IsGrammar swapped []
swapped_is_no_grammar g = let wrong : false ≡ true = g.fits.1.1.0.0.1.1.1.1.1.0.1.0.1 in cc

swapped_is_out_of_order : HasFault (file_bytes swapped []) BadOrder 51
unfolding is_utf8 chars lib.Utf8.encode is_xid_start is_xid_continue xid_start_ranges xid_continue_ranges in_ranges
swapped_is_out_of_order = of_field refl

-- a category whose context has a type without its index: heading 25, `A` 9, `B` 17 bytes
abbrev category : List ℕ → List AType → Cat
category name context = record { name = name; context = context }

abbrev lacking : Abstract
lacking = record {
  name = codes "G";
  start = 2;
  cats = category (codes "Int") [] ∷ category (codes "String") [] ∷ category (codes "A") []
      ∷ category (codes "B") (of_s ∷ []) ∷ category (codes "C") (record { cat = 3; args = [] } ∷ []) ∷ [];
  funs = [];
}

plain_typed : IsType lacking [] of_s
plain_typed = record { category = category (codes "A") []; numbered = refl; indices = none }

lacks_index : IsFlawed lacking [] arity 51
lacks_index = of_category 2 refl
    (all_from (IsCategoryTyped lacking) (take 2 (listed lacking.cats)) (tt, ((plain_typed, tt), tt)))
    (here (record { category = category (codes "B") (of_s ∷ []); numbered = refl; indices = too_few }))

-- its fields are in order, so the file is invalid, and at no fault before
lacking_fits : Fits file (lacking, [])
unfolding is_utf8 chars lib.Utf8.encode is_xid_start is_xid_continue xid_start_ranges xid_continue_ranges in_ranges
lacking_fits = ((refl, refl), ((omega arith, refl), ((numbers, refl), ((omega arith, refl), refl)))) where
  numbers : Fits numbered_abstract (numbered lacking)
  numbers = (
    (omega arith, (refl, refl)),
    (
      omega arith,
      (
        ((omega arith, refl), refl),
        (
          omega arith,
          (
            (
              (((omega arith, (refl, refl)), ((omega arith, refl), refl)), refl),
              (
                (
                  (
                    (omega arith, (refl, refl)),
                    (
                      (
                        omega arith,
                        (((omega arith, refl), ((omega arith, refl), refl)), refl),
                      ),
                      refl,
                    ),
                  ),
                  refl,
                ),
                (
                  (
                    (
                      (omega arith, (refl, refl)),
                      (
                        (
                          omega arith,
                          (((omega arith, refl), ((omega arith, refl), refl)), refl),
                        ),
                        refl,
                      ),
                    ),
                    refl,
                  ),
                  refl,
                ),
              ),
            ),
            (refl, refl),
          ),
        ),
      ),
    ),
  )

lacking_is_invalid : IsInvalid (file_bytes lacking []) arity 51
lacking_is_invalid = record {
  abs = lacking;
  concretes = [];
  fits = lacking_fits;
  bytes_are = refl;
  flawed = lacks_index;
}

-- a function whose argument lacks an index: heading 25, `A` 9, `B` 17 bytes, the function `a` 17
abbrev careless : Abstract
careless = record {
  name = codes "G";
  start = 2;
  cats = category (codes "Int") [] ∷ category (codes "String") [] ∷ category (codes "A") []
      ∷ category (codes "B") (of_s ∷ []) ∷ [];
  funs = record { name = codes "a"; args = []; result = of_s }
      ∷ record { name = codes "b"; args = record { cat = 3; args = [] } ∷ []; result = of_s } ∷ [];
}

careless_plain : {T : HoleTypes} → IsType careless T of_s
careless_plain = record { category = category (codes "A") []; numbered = refl; indices = none }

careless_is_flawed : IsFlawed careless [] arity 68
careless_is_flawed = of_function 1
    (all_from (IsCategoryTyped careless) careless.cats (tt, (tt, (tt, ((careless_plain, tt), tt))))) refl
    (all_from (IsFunctionTyped careless) (take 1 careless.funs) ((careless_plain, tt), tt))
    (here (record { category = category (codes "B") (of_s ∷ []); numbered = refl; indices = too_few }))

-- a production that is not kept: heading 28, categories 18, functions 67, their number 4, name 13, categories 16, number 4
of_d : {T : HoleTypes} → IsType dead T (record { cat = 2; args = [] })
of_d = record { category = category (codes "D") []; numbered = refl; indices = none }

of_dead_s : {T : HoleTypes} → IsType dead T (record { cat = 3; args = [] })
of_dead_s = record { category = category (codes "S") []; numbered = refl; indices = none }

dead_types : HasTypes dead
dead_types = (
  all_from (IsCategoryTyped dead) dead.cats (tt, (tt, (tt, (tt, tt)))),
  all_from (IsFunctionTyped dead) dead.funs ((of_d, (of_dead_s, tt)), ((of_d, (of_d, tt)), ((of_dead_s, tt), tt))),
)

barren_is_flawed : IsFlawed dead (barren_eng ∷ []) unproductive 150
barren_is_flawed = of_production 0 0 dead_types refl (all_none IsReduced) refl (all_none (IsKept barren_eng)) f_not_kept
