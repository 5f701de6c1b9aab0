-- Numbers that are no characters belong to no class.
use Rattle.std.proofs.Common.{◌≡◌, ℕ, ◌<◌, ◌≤◌, Bool, true, false, ◌&&◌, ◌||◌, nat_lt, List, [], ◌∷◌, refl, arith, ⊎_elim}
use Rattle.std.specs.Char.{OutOfScalarRange}
use Rattle.std.specs.List.{list_all}
use Rattle.std.proofs.lemmas.Bool.{and_parts, or_cases, or_from, false_from_ne_true, leb-true, ltb-true, ne_eqb}
use Rattle.ucd_derived.specs.Binary.{is_xid_start, is_xid_continue}
use Rattle.ucd_derived.specs.XidStartRanges.{xid_start_ranges}
use Rattle.ucd_derived.specs.XidContinueRanges.{xid_continue_ranges}
use Rattle.ucd_table.specs.Rows.{Range, in_ranges}
use Rattle.gft_core.specs.Names.{begins_name, continues_name}

-- the range is one of characters
abbrev is_of_characters : Range → Bool
is_of_characters r = nat_lt r.1 55296 || (nat_lt 57343 r.0 && nat_lt r.1 1114112)

not_in : (r : Range) (c : ℕ) → is_of_characters r ≡ true → OutOfScalarRange c → r.0 ≤ c → c ≤ r.1 → ⊥
not_in r c h o lo hi = ⊎_elim
    (λ small. let b = ltb-true r.1 55296 small in ⊎_elim (λ s. absurd (omega (arith, s.0))) (λ s. absurd (omega (arith, s))) o)
    (λ large. let p = and_parts _ _ large in
    let a = ltb-true 57343 r.0 p.0 in
    let b = ltb-true r.1 1114112 p.1 in
    ⊎_elim (λ s. absurd (omega (arith, s.1))) (λ s. absurd (omega (arith, s))) o)
    (or_cases _ _ h)

none_in : (rs : List Range) (c : ℕ) → list_all is_of_characters rs ≡ true → OutOfScalarRange c → in_ranges rs c ≡ false
unfolding in_ranges
none_in [] c h o = refl
none_in (r ∷ rs) c h o =
    let p = and_parts _ _ h in
    or_from _ _ (false_from_ne_true _
    (λ e. let q = and_parts _ _ e in not_in r c p.0 o (leb-true r.0 c q.0) (leb-true c r.1 q.1))) (none_in rs c p.1 o)

differs : (c k : ℕ) → OutOfScalarRange c → k < 55296 → c ≡ k → ⊥
differs c k o small e = ⊎_elim (λ s. absurd (omega (arith, s.0, e, small))) (λ s. absurd (omega (arith, s, e, small))) o

-- no name begins with it
pub begins_none : (c : ℕ) → OutOfScalarRange c → false ≡ begins_name c
unfolding is_xid_start xid_start_ranges
begins_none c o = let e : begins_name c
    ≡ false = or_from _ _ (none_in xid_start_ranges c refl o) (ne_eqb c 95 (differs c 95 o (omega arith))) in cc

-- and none goes on with it
pub continues_none : (c : ℕ) → OutOfScalarRange c → false ≡ continues_name c
unfolding is_xid_continue xid_continue_ranges
continues_none c o = let e : continues_name c
    ≡ false = or_from _ _ (none_in xid_continue_ranges c refl o) (ne_eqb c 39 (differs c 39 o (omega arith))) in cc
