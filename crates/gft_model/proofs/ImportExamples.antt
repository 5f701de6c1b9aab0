-- A worked example of a first refusal: the import of No.gf from files that lack it.
use Rattle.std.proofs.Common.{◌≡◌, refl, sym, ap, ◌∙◌, ℕ, List, [], ◌∷◌, Some, None, true, false, ◌⊎◌, inl, arith}
use Rattle.std.specs.Prelude.{codes, drop, bytes_eq}
use Rattle.std.specs.FinMap.{get}
use Rattle.gft_io.specs.Outside.{Files}
use Rattle.gft_rules.specs.declared.refusal.Refusal.{Refusal}
use Rattle.gft_rules.specs.declared.rule.Rule.TheVariants as R
use Rattle.gft_model.specs.Commands.{EndsIn, portable_ending}
use Rattle.gft_model.specs.Import
use Rattle.gft_model.specs.Loading
use Rattle.gft_model.specs.Refusals.{IsFirst, placeless, Moment, Earlier}

abbrev no_gf : List ℕ
no_gf = codes "No.gf"

abbrev missing_file : Refusal
missing_file = placeless R.MissingFile (no_gf ∷ [])

-- it is no portable file
differs : (n : ℕ) (xs : List ℕ) → bytes_eq (drop n xs) (drop n no_gf) ≡ false → bytes_eq (drop n no_gf) (drop n no_gf) ≡ true → no_gf ≡ xs → ⊥
differs n xs f t e = let wrong : false ≡ true = sym f ∙ ap (λ ys. bytes_eq (drop n ys) (drop n no_gf)) (sym e) ∙ t in cc

not_portable : EndsIn portable_ending no_gf → ⊥
not_portable ([], e) = differs 0 _ refl refl e
not_portable (a ∷ [], e) = differs 1 _ refl refl e
not_portable (a ∷ b ∷ [], e) = differs 2 _ refl refl e
not_portable (a ∷ b ∷ c ∷ [], e) = differs 3 _ refl refl e
not_portable (a ∷ b ∷ c ∷ d ∷ [], e) = differs 4 _ refl refl e
not_portable (a ∷ b ∷ c ∷ d ∷ f ∷ [], e) = differs 5 _ refl refl e
not_portable (a ∷ b ∷ c ∷ d ∷ f ∷ g ∷ gs, e) = differs 5 _ refl refl e

module _ (files : Files) (lacks : get files no_gf ≡ None) where
  not_there : {bytes : List ℕ} → get files no_gf ≡ Some bytes → ⊥
  not_there {bytes} e = let wrong : None ≡ Some bytes = sym lacks ∙ e in cc

  only_missing : {r : Refusal} → Loading.IsUnread files Loading.most_bytes no_gf r → r ≡ missing_file
  only_missing (Loading.missing e) = refl
  only_missing (Loading.too_long e h) = absurd (not_there e)

  not_broken : {r : Refusal} → Loading.IsBroken files Loading.most_bytes (Loading.BreaksSource 0 (codes "No")) no_gf r → ⊥
  not_broken (Loading.broken b x) = not_there b.0

  outcome : Loading.LoadingEnd
  outcome = Loading.refused missing_file Loading.nothing_loaded

  none_loaded : (M : List ℕ) → Loading.IsLoaded Loading.nothing_loaded M → ⊥
  none_loaded M l = let e = l.1 in cc

  comes : Loading.LoadsNamed files Loading.nothing_loaded (no_gf ∷ []) outcome
  unfolding outcome
  comes =
      Loading.source_refused (codes "No", refl)
      (Loading.loaded_now (none_loaded (codes "No")) (omega arith) (Loading.unread (Loading.missing lacks)))

  only_got : {o : Loading.LoadingEnd} → Loading.Gets files [] [] Loading.nothing_loaded (codes "No") o → o ≡ outcome
  unfolding outcome
  only_got (Loading.loaded_before l) = absurd (none_loaded (codes "No") l)
  only_got (Loading.too_many n h) = absurd (omega (arith, h))
  only_got (Loading.loaded_now n h (Loading.unread f)) = ap (λ r. Loading.refused r Loading.nothing_loaded) (only_missing f)
  only_got (Loading.loaded_now n h (Loading.is_broken f)) = absurd (not_broken f)
  only_got (Loading.loaded_now n h (Loading.needs_refused b x p d)) = absurd (not_there b.0)
  only_got (Loading.loaded_now n h (Loading.complete b x p d)) = absurd (not_there b.0)

  only_outcome : {o : Loading.LoadingEnd} → Loading.LoadsNamed files Loading.nothing_loaded (no_gf ∷ []) o → o ≡ outcome
  unfolding outcome
  only_outcome (Loading.source_refused p d) = only_got d
  only_outcome (Loading.source_loaded p d k) = let e = only_got d in cc
  only_outcome (Loading.portable_refused p f) = absurd (not_portable p)
  only_outcome (Loading.portable_read p b g k) = absurd (not_portable p)

  not_loaded : {s : Loading.Loading} → Loading.LoadsNamed files Loading.nothing_loaded (no_gf ∷ []) (Loading.loaded s) → ⊥
  unfolding outcome
  not_loaded l = let e = only_outcome l in cc

  only_fault : (m : Moment) (r : Refusal) → Import.BreaksImport files (no_gf ∷ []) m r →
      (r ≡ missing_file) ⊎ Earlier (0 ∷ []) missing_file m r
  unfolding outcome
  only_fault m r (Import.in_loading {s = s} l) = let e = only_outcome l in inl (cc)
  only_fault m r (Import.once_loaded l b) = absurd (not_loaded l)

  pub first_is_missing : IsFirst (Import.BreaksImport files (no_gf ∷ [])) missing_file
  unfolding outcome
  first_is_missing = record { moment = 0 ∷ []; broken = Import.in_loading comes; no_earlier = only_fault }
