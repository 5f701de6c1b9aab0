-- The file of 133 bytes is read; files next to it are at fault.
use Rattle.std.specs.Prelude.{◌≡◌, ◌++◌, ◌+◌, ℕ, List, [], ◌∷◌, take, drop}
use Rattle.std.proofs.Common.{refl, ap, sym, ◌∙◌}
use Rattle.std.specs.Str.{is_utf8, chars}
use lib.Utf8
use Rattle.ucd_derived.specs.Binary.{is_xid_start, is_xid_continue}
use Rattle.ucd_derived.specs.XidStartRanges.{xid_start_ranges}
use Rattle.ucd_derived.specs.XidContinueRanges.{xid_continue_ranges}
use Rattle.ucd_table.specs.Rows.{in_ranges}
use Rattle.gft_core.specs.declared.tree.Tree.{Hole, out-Tree}
use Rattle.gft_core.specs.declared.tree.Tree.TheVariants.{outs-Hole}
use Rattle.gft_rules.specs.declared.rule.Rule.{Rule}
use Rattle.gft_rules.specs.declared.rule.Rule.TheVariants.{Short, BadVersion, BadText, BadNumber, BadTag, TooLong}
use Rattle.gft_model.specs.Fields.{outcome, got, fault, written, big_endian}
use Rattle.gft_model.specs.FileForms.{TermParts, parts, term, type_form, file}
use Rattle.gft_model.specs.PortableFile.{file_bytes, HasFault, of_field, after_grammar}
use Rattle.gft_model.specs.Numbering.{numbered_step, changed_type, names_of}
use Rattle.gft_model.proofs.Home.{home, tag}
use Rattle.gft_model.proofs.Layers.{by_layers-Hole}
use Rattle.gft_model.proofs.Tiny.{abs, eng}

abbrev tiny : List ℕ
tiny = file_bytes abs (eng ∷ [])

-- it is read whole
pub read : outcome file 0 tiny ≡ got (abs, eng ∷ []) 133 []
unfolding is_utf8 chars lib.Utf8.encode is_xid_start is_xid_continue xid_start_ranges xid_continue_ranges in_ranges
read = refl

-- so it is at no fault
no_fault : (rule : Rule) (at : ℕ) → ¬ HasFault tiny rule at
no_fault rule at (of_field e) = let both = sym read ∙ e in cc
no_fault rule at (after_grammar e) = let both = sym read ∙ e in cc

-- without its last byte it ends in the last field
short : HasFault (take 132 tiny) Short 129
unfolding is_utf8 chars lib.Utf8.encode is_xid_start is_xid_continue xid_start_ranges xid_continue_ranges in_ranges
short = of_field refl

-- with a byte more, that byte is too much
long : HasFault (tiny ++ 0 ∷ []) TooLong 133
unfolding is_utf8 chars lib.Utf8.encode is_xid_start is_xid_continue xid_start_ranges xid_continue_ranges in_ranges
long = after_grammar {x = (abs, eng ∷ [])} {rest = []} refl

-- the file with another byte at an offset
abbrev with_byte : ℕ → ℕ → List ℕ
with_byte at b = take at tiny ++ b ∷ drop (at + 1) tiny

-- version 3, the start category 3 of three, a space as a name, a symbol of tag 2, a result in `String`
version : HasFault (with_byte 7 3) BadVersion 4
version = of_field refl

start : HasFault (with_byte 16 3) BadNumber 13
unfolding is_utf8 chars lib.Utf8.encode is_xid_start is_xid_continue xid_start_ranges xid_continue_ranges in_ranges
start = of_field refl

space : HasFault (with_byte 38 32) BadText 38
unfolding is_utf8 chars lib.Utf8.encode is_xid_start is_xid_continue xid_start_ranges xid_continue_ranges in_ranges
space = of_field refl

symbol : HasFault (with_byte 85 2) BadTag 85
unfolding is_utf8 chars lib.Utf8.encode is_xid_start is_xid_continue xid_start_ranges xid_continue_ranges in_ranges
symbol = of_field refl

result : HasFault (with_byte 80 1) BadNumber 77
unfolding is_utf8 chars lib.Utf8.encode is_xid_start is_xid_continue xid_start_ranges xid_continue_ranges in_ranges
result = of_field refl

-- of two faults the start category's comes before that of the number of categories, and an end in that number before it
count : HasFault (take 16 tiny ++ 255 ∷ 255 ∷ []) Short 17
unfolding is_utf8 chars lib.Utf8.encode is_xid_start is_xid_continue xid_start_ranges xid_continue_ranges in_ranges
count = of_field refl

-- a term: a variable; a tag that there is none of; no tag at all; any tag of a term that is too deep
variable : outcome (term 1 1 201) 0 (1 ∷ 0 ∷ 0 ∷ 0 ∷ 0 ∷ []) ≡ got (Hole 0) 5 []
variable = refl

no_tag : outcome (term 1 1 201) 7 (9 ∷ []) ≡ fault BadTag 7
no_tag = refl

ended : outcome (term 1 1 0) 7 [] ≡ fault Short 7
ended = refl

too_deep : outcome (term 1 1 0) 7 (9 ∷ []) ≡ fault BadNumber 7
too_deep = refl

-- a variable of an argument that is not earlier
later_variable : outcome (term 1 1 201) 0 (1 ∷ 0 ∷ 0 ∷ 0 ∷ 1 ∷ []) ≡ fault BadNumber 1
later_variable = refl

-- the bytes of `Tag k` of Home, over the argument k: category 4, one index, the variable 0
tag_bytes : written (type_form 5 4 1) (changed_type (numbered_step (names_of home.funs)) tag)
    ≡ 0 ∷ 0 ∷ 0 ∷ 4 ∷ 0 ∷ 0 ∷ 0 ∷ 1 ∷ 1 ∷ 0 ∷ 0 ∷ 0 ∷ 0 ∷ []
tag_bytes =
    let number : (parts (out-Tree (Hole 0))).number ≡ 0 = ap (λ (p : TermParts). p.number) (ap parts (outs-Hole 0)) in
    rw (by_layers-Hole (numbered_step (names_of home.funs)) 1, outs-Hole 0)
    (ap (λ n. 0 ∷ 0 ∷ 0 ∷ 4 ∷ 0 ∷ 0 ∷ 0 ∷ 1 ∷ 1 ∷ big_endian 4 n) number)
