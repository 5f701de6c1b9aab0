-- What an import loads is determined: the outcome, and so the files.
use Rattle.std.proofs.Common.{◌≡◌, ◌⊎◌, inl, inr, refl, sym, ap, ◌∙◌, subst, append_assoc, ℕ, List, [], ◌∷◌, ◌++◌, arith, length}
use Rattle.std.specs.Prelude.{codes, Option, Some, None, decimal}
use Rattle.gft_io.specs.Outside.{Files}
use Rattle.gft_pmcfg.specs.declared.grammar.Grammar.{Grammar}
use Rattle.gft_rules.specs.declared.refusal.Refusal.{Refusal}
use Rattle.gft_rules.specs.declared.rule.Rule.TheVariants as R
use Rattle.gft_syntax.specs.declared.module.Module.{Module}
use Rattle.gft_syntax.specs.declared.reference.PlacedName.{PlacedName}
use Rattle.gft_syntax.specs.declared.token.SourceToken.{SourceToken}
use Rattle.gft_model.proofs.ModuleLaws.{module-once}
use Rattle.gft_model.proofs.NoFlaw.{not_invalid}
use Rattle.gft_model.proofs.OneFlaw.{one_invalid, invalid_has_no_fault}
use Rattle.gft_model.proofs.ReadingLaws.{one_fault, no_fault}
use Rattle.gft_model.proofs.RefusalOrder.{first-once}
use Rattle.gft_model.proofs.SourceLemmas.{one_list_of_tokens}
use Rattle.gft_model.proofs.TokenLaws.{tokens_apart}
use Rattle.gft_model.proofs.UnsolvedLaws.{last_once}
use Rattle.gft_model.specs.Commands.{EndsIn, source_ending, portable_ending}
use Rattle.gft_model.specs.Loading.{Loading, LoadingEnd, loaded, refused, IsSource, BreaksSource, bad_characters, bad_slices, misnamed, BreaksPortable, at_field, is_invalid, HasBytes, IsUnread, missing, too_long, IsBroken, broken, Gets, loaded_before, too_many, loaded_now, Loads, unread, is_broken, needs_refused, complete, LoadsAll, no_more, waits_for_it, next_refused, next_loaded, LoadsNamed, none_named, source_refused, source_loaded, portable_refused, portable_read, HasFiles, with_file, file_in, flaw_text, after_all, after_refusal}
use Rattle.gft_model.specs.ModuleGrammar.{SpellsModule}
use Rattle.gft_model.specs.Modules.{header_name, mentions}
use Rattle.gft_model.specs.PortableFile
use Rattle.gft_model.specs.Refusals.{ByPlace, by_place, IsFirst, placeless, at_name}
use Rattle.gft_model.specs.Source.{Tokens}
use Rattle.gft_model.specs.SyntaxFaults.{BreaksSyntax}
use Rattle.gft_model.specs.TokenFaults.{BreaksTokens}

-- WHAT A FILE IS READ AS

by_any : {n : ℕ} {bytes : List ℕ} {ts : List SourceToken} {at : List ℕ} {r : Refusal} → Tokens n bytes ts
    → ByPlace (BreaksTokens n bytes) at r → ⊥
by_any t (by_place b e) = tokens_apart t b

-- what has tokens has no first fault of its characters
no_first : {n : ℕ} {bytes : List ℕ} {ts : List SourceToken} {r : Refusal} → Tokens n bytes ts
    → IsFirst (ByPlace (BreaksTokens n bytes)) r → ⊥
no_first t f = by_any t f.broken

tokens_same : {n : ℕ} {bytes : List ℕ} {ts us : List SourceToken} → Tokens n bytes ts → Tokens n bytes us → ts ≡ us
tokens_same {n} {bytes} {ts} {us} t u = one_list_of_tokens n bytes ts us t u

source_once : {n : ℕ} {bytes : List ℕ} {m k : Module} → IsSource n bytes m → IsSource n bytes k → m ≡ k
source_once {m} (ts, t, a, x) (us, u, b, y) = module-once (subst (λ z. SpellsModule z m) (tokens_same t u) x) y

-- nor a first fault of its slices, where it is a module
no_slice : {n : ℕ} {bytes : List ℕ} {ts : List SourceToken} {m : Module} {r : Refusal} → IsSource n bytes m → Tokens n bytes ts
    → IsFirst (BreaksSyntax n ts) r → ⊥
no_slice {n} {r} (us, u, a, x) t f =
    let g = subst (λ z. IsFirst (BreaksSyntax n z) r) (tokens_same t u) f in a g.moment r g.broken

source_broken_once : {n : ℕ} {M bytes : List ℕ} {r q : Refusal} → BreaksSource n M bytes r → BreaksSource n M bytes q → r ≡ q
source_broken_once {n} {bytes} {r} {q} (bad_characters f) (bad_characters g) = first-once (ByPlace (BreaksTokens n bytes)) r q f g
source_broken_once (bad_characters f) (bad_slices t g) = absurd (no_first t f)
source_broken_once (bad_characters f) (misnamed x d) = absurd (no_first x.1 f)
source_broken_once (bad_slices t f) (bad_characters g) = absurd (no_first t g)
source_broken_once {n} {r} {q} (bad_slices {ts} t f) (bad_slices {ts = us} u g) =
    first-once (BreaksSyntax n us) r q (subst (λ x. IsFirst (BreaksSyntax n x) r) (tokens_same t u) f) g
source_broken_once (bad_slices t f) (misnamed x d) = absurd (no_slice x t f)
source_broken_once (misnamed x d) (bad_characters f) = absurd (no_first x.1 f)
source_broken_once (misnamed x d) (bad_slices t f) = absurd (no_slice x t f)
source_broken_once (misnamed x d) (misnamed y e) =
    ap (λ (z : Module). at_name R.NameMismatch (header_name z.header) []) (source_once x y)

source_apart : {n : ℕ} {M bytes : List ℕ} {m : Module} {r : Refusal} → IsSource n bytes m → (header_name m.header).name ≡ M
    → BreaksSource n M bytes r → ⊥
source_apart x p (bad_characters f) = no_first x.1 f
source_apart x p (bad_slices t f) = no_slice x t f
source_apart x p (misnamed y d) = d (ap (λ (z : Module). (header_name z.header).name) (source_once y x) ∙ p)

portable_broken_once : {file bytes : List ℕ} {r q : Refusal} → BreaksPortable file bytes r → BreaksPortable file bytes q → r ≡ q
portable_broken_once {file} (at_field {rule} {offset} x) (at_field {rule = other} {offset = at} y) =
    let both = one_fault x y in
    ap (λ z. placeless z (file ∷ decimal offset ∷ [])) both.0 ∙ ap (λ z. placeless other (file ∷ decimal z ∷ [])) both.1
portable_broken_once (at_field x) (is_invalid y) = absurd (invalid_has_no_fault y x)
portable_broken_once (is_invalid x) (at_field y) = absurd (invalid_has_no_fault x y)
portable_broken_once {file} (is_invalid {flaw} {offset} x) (is_invalid {flaw = other} {offset = at} y) =
    let both = one_invalid x y in
    ap (λ z. placeless R.Invalid (file ∷ decimal offset ∷ flaw_text z ∷ [])) both.0
    ∙ ap (λ z. placeless R.Invalid (file ∷ decimal z ∷ flaw_text other ∷ [])) both.1

portable_apart : {file bytes : List ℕ} {g : Grammar} {r : Refusal} → PortableFile.Reads bytes g → BreaksPortable file bytes r → ⊥
portable_apart x (at_field y) = no_fault x y
portable_apart x (is_invalid y) = not_invalid x y

one_bytes : {found : Option (List ℕ)} {bytes others : List ℕ} → found ≡ Some bytes → found ≡ Some others → bytes ≡ others
one_bytes e f = cc

none_there : {found : Option (List ℕ)} {bytes : List ℕ} → found ≡ None → found ≡ Some bytes → ⊥
none_there e f = cc

module_once : {found : Option (List ℕ)} {n : ℕ} {bytes others : List ℕ} {m k : Module} → found ≡ Some bytes → IsSource n bytes m
    → found ≡ Some others → IsSource n others k → m ≡ k
module_once {n} {m} e x f y = source_once (subst (λ z. IsSource n z m) (one_bytes e f) x) y

module _ {files : Files} where
  module _ {most : ℕ} {file : List ℕ} where
    unread_once : {r q : Refusal} → IsUnread files most file r → IsUnread files most file q → r ≡ q
    unread_once (missing e) (missing f) = refl
    unread_once (missing e) (too_long f h) = absurd (none_there e f)
    unread_once (too_long f h) (missing e) = absurd (none_there e f)
    unread_once (too_long f h) (too_long g k) = refl

    has_no_bytes : {bytes : List ℕ} {r : Refusal} → HasBytes files most file bytes → IsUnread files most file r → ⊥
    has_no_bytes b (missing e) = none_there e b.0
    has_no_bytes b (too_long f h) = omega (arith, h, b.1, ap length (one_bytes f b.0))

  module _ {most : ℕ} {Broken : List ℕ → Refusal → Type 0} {file : List ℕ} where
    unread_apart : {r q : Refusal} → IsUnread files most file r → IsBroken files most Broken file q → ⊥
    unread_apart u (broken b x) = has_no_bytes b u

    broken_once : {r q : Refusal} → ((bytes : List ℕ) → Broken bytes r → Broken bytes q → r ≡ q)
        → IsBroken files most Broken file r → IsBroken files most Broken file q → r ≡ q
    broken_once {r} once (broken b x) (broken {bytes} c y) = once bytes (subst (λ z. Broken z r) (one_bytes b.0 c.0) x) y

    reads_apart : {bytes : List ℕ} {r : Refusal} → HasBytes files most file bytes → (Broken bytes r → ⊥) → IsBroken files most Broken file r → ⊥
    reads_apart {r} b n (broken c x) = n (subst (λ z. Broken z r) (one_bytes c.0 b.0) x)

    -- a file that is refused is unread or broken
    refused_once : {r q : Refusal} → ((bytes : List ℕ) → Broken bytes r → Broken bytes q → r ≡ q)
        → IsUnread files most file r ⊎ IsBroken files most Broken file r → IsUnread files most file q ⊎ IsBroken files most Broken file q → r ≡ q
    refused_once once (inl u) (inl v) = unread_once u v
    refused_once once (inl u) (inr c) = absurd (unread_apart u c)
    refused_once once (inr b) (inl v) = absurd (unread_apart v b)
    refused_once once (inr b) (inr c) = broken_once once b c

    refused_apart : {bytes : List ℕ} {r : Refusal} → HasBytes files most file bytes → (Broken bytes r → ⊥)
        → IsUnread files most file r ⊎ IsBroken files most Broken file r → ⊥
    refused_apart b n (inl u) = has_no_bytes b u
    refused_apart b n (inr c) = reads_apart b n c

  -- LOADING

  module _ {folder : List ℕ} where
    needs : {waiting : List (List ℕ)} {s : Loading} {m k : Module} {o : LoadingEnd} → m ≡ k
        → LoadsAll files folder waiting s (mentions k) o → LoadsAll files folder waiting s (mentions m) o
    needs {waiting} {s} {o} e d = subst (λ x. LoadsAll files folder waiting s (mentions x) o) (sym e) d

    mutual
      got_once : {waiting : List (List ℕ)} {s : Loading} {M : List ℕ} {o p : LoadingEnd} → Gets files folder waiting s M o
          → Gets files folder waiting s M p → o ≡ p
      got_once (loaded_before l) (loaded_before k) = refl
      got_once (loaded_before l) (too_many n h) = absurd (n l)
      got_once (loaded_before l) (loaded_now n h d) = absurd (n l)
      got_once (too_many n h) (loaded_before l) = absurd (n l)
      got_once (too_many n h) (too_many m k) = refl
      got_once (too_many n h) (loaded_now m k d) = absurd (omega (arith, h, k))
      got_once (loaded_now n h d) (loaded_before l) = absurd (n l)
      got_once (loaded_now n h d) (too_many m k) = absurd (omega (arith, h, k))
      got_once (loaded_now n h d) (loaded_now m k e) = loads_once d e

      loads_once : {waiting : List (List ℕ)} {s : Loading} {M : List ℕ} {o p : LoadingEnd} → Loads files folder waiting s M o
          → Loads files folder waiting s M p → o ≡ p
      loads_once {s} (unread f) (unread g) = ap (λ r. refused r s) (unread_once f g)
      loads_once (unread f) (is_broken g) = absurd (unread_apart f g)
      loads_once (is_broken f) (unread g) = absurd (unread_apart g f)
      loads_once {s} {M} (is_broken f) (is_broken g) =
          ap (λ r. refused r (with_file s (file_in folder M))) (broken_once (λ b. source_broken_once) f g)
      loads_once (unread f) (needs_refused b x p d) = absurd (has_no_bytes b f)
      loads_once (unread f) (complete b x p d) = absurd (has_no_bytes b f)
      loads_once (is_broken f) (needs_refused b x p d) = absurd (reads_apart b (source_apart x p) f)
      loads_once (is_broken f) (complete b x p d) = absurd (reads_apart b (source_apart x p) f)
      loads_once (needs_refused b x p d) (unread f) = absurd (has_no_bytes b f)
      loads_once (needs_refused b x p d) (is_broken f) = absurd (reads_apart b (source_apart x p) f)
      loads_once (needs_refused b x p d) (needs_refused c y q e) = all_once d (needs (module_once b.0 x c.0 y) e)
      loads_once (needs_refused b x p d) (complete c y q e) = let h = all_once d (needs (module_once b.0 x c.0 y) e) in cc
      loads_once (complete b x p d) (unread f) = absurd (has_no_bytes b f)
      loads_once (complete b x p d) (is_broken f) = absurd (reads_apart b (source_apart x p) f)
      loads_once (complete b x p d) (needs_refused c y q e) = let h = all_once d (needs (module_once b.0 x c.0 y) e) in cc
      loads_once (complete {t} {m} b x p d) (complete {t = u} {m = k} c y q e) =
          let same = module_once b.0 x c.0 y in
          let h = all_once d (needs same e) in
          let loadings : t ≡ u = cc in
          ap (λ z. loaded (record z { modules = z.modules ++ m ∷ [] })) loadings
          ∙ ap (λ z. loaded (record u { modules = u.modules ++ z ∷ [] })) same

      all_once : {waiting : List (List ℕ)} {s : Loading} {ns : List PlacedName} {o p : LoadingEnd}
          → LoadsAll files folder waiting s ns o → LoadsAll files folder waiting s ns p → o ≡ p
      all_once no_more no_more = refl
      all_once (waits_for_it c) (waits_for_it d) = refl
      all_once (waits_for_it c) (next_refused n d) = absurd (n c)
      all_once (waits_for_it c) (next_loaded n d e) = absurd (n c)
      all_once (next_refused n d) (waits_for_it c) = absurd (n c)
      all_once (next_refused n d) (next_refused m e) = got_once d e
      all_once (next_refused n d) (next_loaded m e es) = let x = got_once d e in cc
      all_once (next_loaded n d ds) (waits_for_it c) = absurd (n c)
      all_once (next_loaded n d ds) (next_refused m e) = let x = got_once d e in cc
      all_once {waiting} {p} (next_loaded {t} {ns} n d ds) (next_loaded {t = u} m e es) =
          let x = got_once d e in
          let same : u ≡ t = cc in
          all_once ds (subst (λ y. LoadsAll files folder waiting y ns p) same es)

-- THE NAMED FILES

-- a name does not end both ways
pub endings_apart : {file : List ℕ} → EndsIn source_ending file → EndsIn portable_ending file → ⊥
endings_apart x y =
    let h = last_once (x.0 ++ codes ".g") (y.0 ++ codes ".gf") 102 116
    (append_assoc x.0 (codes ".g") (102 ∷ []) ∙ sym x.1 ∙ y.1 ∙ sym (append_assoc y.0 (codes ".gf") (116 ∷ []))) in
    absurd (omega (arith, h.1))

module _ {files : Files} where
  pub named_once : {s : Loading} {names : List (List ℕ)} {o p : LoadingEnd} → LoadsNamed files s names o
      → LoadsNamed files s names p → o ≡ p
  named_once none_named none_named = refl
  named_once (source_refused e d) (source_refused f g) = got_once d g
  named_once (source_refused e d) (source_loaded f g gs) = let x = got_once d g in cc
  named_once (source_refused e d) (portable_refused f x) = absurd (endings_apart e f)
  named_once (source_refused e d) (portable_read f b x g) = absurd (endings_apart e f)
  named_once (source_loaded e d ds) (source_refused f g) = let x = got_once d g in cc
  named_once {p} (source_loaded {t} {rest} e d ds) (source_loaded {t = u} f g gs) =
      let x = got_once d g in
      let same : u ≡ t = cc in
      named_once ds (subst (λ y. LoadsNamed files y rest p) same gs)
  named_once (source_loaded e d ds) (portable_refused f x) = absurd (endings_apart e f)
  named_once (source_loaded e d ds) (portable_read f b x g) = absurd (endings_apart e f)
  named_once (portable_refused e x) (source_refused f g) = absurd (endings_apart f e)
  named_once (portable_refused e x) (source_loaded f g gs) = absurd (endings_apart f e)
  named_once {s} (portable_refused e x) (portable_refused f y) = ap (λ r. refused r s) (refused_once (λ b. portable_broken_once) x y)
  named_once (portable_refused e x) (portable_read f b y g) = absurd (refused_apart b (portable_apart y) x)
  named_once (portable_read e b x d) (source_refused f g) = absurd (endings_apart f e)
  named_once (portable_read e b x d) (source_loaded f g gs) = absurd (endings_apart f e)
  named_once (portable_read e b x d) (portable_refused f y) = absurd (refused_apart b (portable_apart x) y)
  named_once (portable_read e b x d) (portable_read f c y g) = named_once d g

-- what is loaded in the end
abbrev end_of : LoadingEnd → Loading
end_of (loaded s) = s
end_of (refused r s) = s

-- an import loads the same files
pub one_list_of_files : (files : Files) (names xs ys : List (List ℕ)) → HasFiles files names xs → HasFiles files names ys
    → xs ≡ ys
one_list_of_files files names xs ys (after_all d) (after_all e) = ap (λ o. (end_of o).files) (named_once d e)
one_list_of_files files names xs ys (after_all d) (after_refusal e) = ap (λ o. (end_of o).files) (named_once d e)
one_list_of_files files names xs ys (after_refusal d) (after_all e) = ap (λ o. (end_of o).files) (named_once d e)
one_list_of_files files names xs ys (after_refusal d) (after_refusal e) = ap (λ o. (end_of o).files) (named_once d e)
