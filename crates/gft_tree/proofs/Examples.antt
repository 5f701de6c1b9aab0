-- Worked examples of the definitions, computed.
use Rattle.std.proofs.Common.{◌≡◌, true, false, [], ◌∷◌, ◌++◌, refl}
use Rattle.std.specs.Prelude.{codes}
use Rattle.gft_tree.specs.Lexemes.{Number, Quoted, Query, spelled, ends_before}
use Rattle.gft_tree.specs.Spelling.{outside, after_all, fits}
use Rattle.gft_tree.specs.Trees.{as_arguments, firsts_after, place_in}

-- `say "a\"b"` has a quote inside
quote_inside : spelled (Quoted (codes "a\"b")) ≡ codes "\"a\\\"b\""
quote_inside = refl

-- a number goes on to its last digit, and a letter ends it
digit_goes_on : ends_before (Number (codes "1")) (codes "2") ≡ false
digit_goes_on = refl

letter_ends : ends_before (Number (codes "12")) (codes "ab") ≡ true
letter_ends = refl

-- 7 and 0 fit, 007 and 2 ^ 128 do not
seven : (fits outside (Number (codes "7")) ≡ true) × (fits outside (Number (codes "0")) ≡ true)
seven = (refl, refl)

leading_zeros : fits outside (Number (codes "007")) ≡ false
leading_zeros = refl

largest : (fits outside (Number (codes "340282366920938463463374607431768211455")) ≡ true) × (fits outside (Number (codes "340282366920938463463374607431768211456")) ≡ false)
largest = (refl, refl)

-- behind a `?` stands a number from 1 to 2 ^ 32 - 1
hole_numbers : (fits (after_all outside (Query ∷ [])) (Number (codes "1")) ≡ true) × (fits (after_all outside (Query ∷ [])) (Number (codes "0")) ≡ false)
hole_numbers = (refl, refl)

largest_hole : (fits (after_all outside (Query ∷ [])) (Number (codes "4294967295")) ≡ true) × (fits (after_all outside (Query ∷ [])) (Number (codes "4294967296")) ≡ false)
largest_hole = (refl, refl)

-- `f x` and `7` as the arguments of `g`
in_parentheses : codes "g" ++ as_arguments ((codes "f x", true) ∷ (codes "7", false) ∷ []) ≡ codes "g (f x) 7"
in_parentheses = refl

-- the holes ?7 ?3 ?7 ?9 become ?1 ?2 ?1 ?3
renamed : (firsts_after [] (7 ∷ 3 ∷ 7 ∷ 9 ∷ []) ≡ 7 ∷ 3 ∷ 9 ∷ []) × (place_in (7 ∷ 3 ∷ 9 ∷ []) 9 ≡ 3)
renamed = (refl, refl)
