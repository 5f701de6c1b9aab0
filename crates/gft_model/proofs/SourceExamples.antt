-- Worked examples of tokens, each computed.
use Rattle.std.proofs.Common.{◌≡◌, ℕ, [], ◌∷◌, ◌++◌, refl}
use Rattle.std.specs.Prelude.{codes, Some, None}
use Rattle.gft_syntax.specs.declared.token.SourceToken.{SourceToken}
use Rattle.gft_syntax.specs.declared.token.TokenForm.{TokenForm}
use Rattle.gft_syntax.specs.declared.token.TokenForm.TheVariants.{Identifier, Reserved, Number, Quoted, Symbol}
use Rattle.gft_syntax.specs.declared.token.Reserved.TheVariants as W
use Rattle.gft_syntax.specs.declared.token.Symbol.TheVariants as S
use lib.Utf8
use Rattle.ucd_derived.specs.Binary.{is_xid_start, is_xid_continue}
use Rattle.ucd_derived.specs.XidStartRanges.{xid_start_ranges}
use Rattle.ucd_derived.specs.XidContinueRanges.{xid_continue_ranges}
use Rattle.ucd_table.specs.Rows.{in_ranges}
use Rattle.gft_model.specs.Source.{tokens_of}

abbrev at : ℕ → ℕ → TokenForm → SourceToken
at line col form = record { form = form; place = record { file = 0; line = line; col = col } }

-- numbers and symbols, of which the longest counts; then a comment
pub numbers_and_symbols : tokens_of 0 (codes "07 ++--x") ≡ Some (at 1 1 (Number 7 (codes "07")) ∷ at 1 4 (Symbol S.DoublePlus) ∷ [])
unfolding is_xid_start is_xid_continue xid_start_ranges xid_continue_ranges in_ranges lib.Utf8.encode
numbers_and_symbols = refl

-- a file of two lines: a reserved word, names, and a text with an escape
pub a_small_file : tokens_of 0 (codes "lin a =" ++ 10 ∷ codes "x" ++ 34 ∷ 92 ∷ 110 ∷ 34 ∷ [])
    ≡ Some (at 1 1 (Reserved W.Lin) ∷ at 1 5 (Identifier (codes "a")) ∷ at 1 7 (Symbol S.Equals) ∷ at 2 1 (Identifier (codes "x"))
    ∷ at 2 2 (Quoted (10 ∷ []) (34 ∷ 92 ∷ 110 ∷ 34 ∷ [])) ∷ [])
unfolding is_xid_start is_xid_continue xid_start_ranges xid_continue_ranges in_ranges lib.Utf8.encode
a_small_file = refl

-- a text that is not closed on its line is no token
pub not_closed : tokens_of 0 (34 ∷ codes "a") ≡ None
unfolding is_xid_start is_xid_continue xid_start_ranges xid_continue_ranges in_ranges lib.Utf8.encode
not_closed = refl
