-- A judgement is typed in at most one way.
use Rattle.std.proofs.Common.{◌≡◌, ap, sym, ◌∙◌, subst, refl, ℕ, List, [], ◌∷◌}
use Rattle.std.specs.List.{AllZip}
use Rattle.std.specs.Prelude.{Contains}
use Rattle.gft_syntax.specs.declared.ctype.CType.{CType}
use Rattle.gft_syntax.specs.declared.flat.Flat.{Flat}
use Rattle.gft_syntax.specs.declared.judgement.Keyword.{Keyword}
use Rattle.gft_syntax.specs.declared.linear.LinTerm.{LinTerm}
use Rattle.gft_model.specs.Items.{Item, lincat}
use Rattle.gft_model.specs.JudgementTyping.{items, IsSort, Signature, HasLinType, of_int, of_string, of_category, HasGiven, of_function, from_string, to_string, HasTyping, parameter, undefined_parameter, named_type, typed_oper, undefined_oper, found_type, found_oper, of_overload, linearization_type, linearization, IsTyped}
use Rattle.gft_model.specs.SourceLaws.{HasOneLincat}
use Rattle.gft_model.specs.TypeForms.{str_type, function_type, functions}
use Rattle.gft_model.proofs.FoundTypes.{find-once, check-once}
use Rattle.gft_model.proofs.TypeLaws.{type-once, parameter-once}

module _ (flat : Flat) (one : HasOneLincat flat) where
  lin_type-once : {lang l : List ℕ} {C D : List ℕ} {S T : CType} → HasLinType flat lang C S → HasLinType flat l D T → lang ≡ l → C ≡ D → S ≡ T
  lin_type-once of_int of_int l e = refl
  lin_type-once of_int of_string l e = refl
  lin_type-once of_int (of_category {w = w} {e = d} a b c) l e = absurd (one.not_int _ w d a (sym e))
  lin_type-once of_string of_int l e = refl
  lin_type-once of_string of_string l e = refl
  lin_type-once of_string (of_category {w = w} {e = d} a b c) l e = absurd (one.not_string _ w d a (sym e))
  lin_type-once (of_category {w = w} {e = d} a b c) of_int l e = absurd (one.not_int _ w d a e)
  lin_type-once (of_category {w = w} {e = d} a b c) of_string l e = absurd (one.not_string _ w d a e)
  lin_type-once {lang = lang} (of_category {w = v} {e = d} a0 a1 a2) (of_category {w = w} {e = e} b0 b1 b2) l h =
      type-once (items flat) a1 b1 (one.once lang v w d e a0 (subst (λ (m : List ℕ). Contains (items flat) (lincat m w e)) (sym l) b0) h)

  lin_types-once : {lang l : List ℕ} {Cs Ds : List (List ℕ)} {Ss Ts : List CType} → AllZip (HasLinType flat lang) Cs Ss → AllZip (HasLinType flat l) Ds Ts → lang ≡ l → Cs ≡ Ds → Ss ≡ Ts
  lin_types-once {Cs = []} {Ds = []} {Ss = []} {Ts = []} a b l e = refl
  lin_types-once {Cs = []} {Ss = S ∷ Ss} a b l e = absurd a
  lin_types-once {Cs = C ∷ Cs} {Ss = []} a b l e = absurd a
  lin_types-once {Ds = []} {Ts = T ∷ Ts} a b l e = absurd b
  lin_types-once {Ds = D ∷ Ds} {Ts = []} a b l e = absurd b
  lin_types-once {Cs = []} {Ds = D ∷ Ds} {Ss = []} {Ts = T ∷ Ts} a b l e = cc
  lin_types-once {Cs = C ∷ Cs} {Ds = []} {Ss = S ∷ Ss} {Ts = []} a b l e = cc
  lin_types-once {Cs = C ∷ Cs} {Ds = D ∷ Ds} {Ss = S ∷ Ss} {Ts = T ∷ Ts} a b l e =
      let i = lin_type-once a.0 b.0 l (cc) in let j = lin_types-once {Cs = Cs} {Ds = Ds} a.1 b.1 l (cc) in cc

  given-once : {lang l : List ℕ} {k m : Keyword} {x y : List ℕ} {S T : CType} → HasGiven flat lang k x S → HasGiven flat l m y T → lang ≡ l → k ≡ m → x ≡ y → S ≡ T
  given-once (of_function {s = s} As {T = T} a0 a1 a2) (of_function {s = r} Bs {T = U} b0 b1 b2) l k x =
      let q : s ≡ r = cc in
      let i = lin_types-once a1 b1 l (ap (λ (x : Signature). x.arguments) q) in
      let j = lin_type-once a2 b2 l (ap (λ (x : Signature). x.result) q) in
      ap (λ (Ts : List CType). functions Ts T) i ∙ ap (functions Bs) j
  given-once (from_string a) (from_string b) l k x = ap (function_type str_type) (lin_type-once a b l x)
  given-once (to_string a) (to_string b) l k x = ap (λ (T : CType). function_type T str_type) (lin_type-once a b l x)
  given-once (of_function As a0 a1 a2) (from_string b) l k x = cc
  given-once (of_function As a0 a1 a2) (to_string b) l k x = cc
  given-once (from_string a) (of_function Bs b0 b1 b2) l k x = cc
  given-once (from_string a) (to_string b) l k x = cc
  given-once (to_string a) (of_function Bs b0 b1 b2) l k x = cc
  given-once (to_string a) (from_string b) l k x = cc

  same_sort : {S T : CType} → S ≡ T → IsSort S → IsSort T
  same_sort e s = subst IsSort e s

  typing-once : {i j : Item} {t u : LinTerm} {T U : CType} → HasTyping flat i t T → HasTyping flat j u U → i ≡ j → (t ≡ u) × (T ≡ U)
  typing-once (parameter a) (parameter b) e = (refl, parameter-once (items flat) a b (cc))
  typing-once (parameter a) d e = (cc, cc)
  typing-once undefined_parameter undefined_parameter e = (refl, cc)
  typing-once undefined_parameter d e = (cc, cc)
  typing-once (named_type a0 a1 a2 a3 a4) (named_type b0 b1 b2 b3 b4) e = (refl, type-once (items flat) a3 b3 (cc))
  typing-once (named_type a0 a1 a2 a3 a4) (typed_oper b0 b1 b2 b3) e = absurd (b1 (same_sort (type-once (items flat) a0 b0 (cc)) a1))
  typing-once (named_type a0 a1 a2 a3 a4) d e = (cc, cc)
  typing-once (typed_oper a0 a1 a2 a3) (typed_oper b0 b1 b2 b3) e =
      let i = type-once (items flat) a0 b0 (cc) in (check-once (items flat) a2 b2 refl (cc) i, i)
  typing-once (typed_oper a0 a1 a2 a3) (named_type b0 b1 b2 b3 b4) e = absurd (a1 (same_sort (type-once (items flat) b0 a0 (cc)) b1))
  typing-once (typed_oper a0 a1 a2 a3) d e = (cc, cc)
  typing-once (undefined_oper a) (undefined_oper b) e = (refl, type-once (items flat) a b (cc))
  typing-once (undefined_oper a) d e = (cc, cc)
  typing-once (found_type a0 a1 a2 a3) (found_type b0 b1 b2 b3) e = (refl, type-once (items flat) a2 b2 (cc))
  typing-once (found_type a0 a1 a2 a3) (found_oper b0 b1 b2) e = absurd (b1 (same_sort (find-once (items flat) a0 b0 refl (cc)).0 a1))
  typing-once (found_type a0 a1 a2 a3) d e = (cc, cc)
  typing-once (found_oper a0 a1 a2) (found_oper b0 b1 b2) e = let i = find-once (items flat) a0 b0 refl (cc) in (i.1, i.0)
  typing-once (found_oper a0 a1 a2) (found_type b0 b1 b2 b3) e = absurd (a1 (same_sort (find-once (items flat) b0 a0 refl (cc)).0 b1))
  typing-once (found_oper a0 a1 a2) d e = (cc, cc)
  typing-once (of_overload a0 a1 a2 a3) (of_overload b0 b1 b2 b3) e =
      let i = type-once (items flat) a1 b1 (cc) in (check-once (items flat) a2 b2 refl (cc) i, i)
  typing-once (of_overload a0 a1 a2 a3) d e = (cc, cc)
  typing-once (linearization_type a0 a1) (linearization_type b0 b1) e = (refl, type-once (items flat) a0 b0 (cc))
  typing-once (linearization_type a0 a1) d e = (cc, cc)
  typing-once (linearization a0 a1) (linearization b0 b1) e =
      let i = given-once a0 b0 (cc) (cc) (cc) in (check-once (items flat) a1 b1 refl (cc) i, i)
  typing-once (linearization a0 a1) d e = (cc, cc)

  pub judgement-once : (k : ℕ) (t u : LinTerm) (T U : CType) → IsTyped flat k t T → IsTyped flat k u U → (t ≡ u) × (T ≡ U)
  judgement-once k t u T U a b = let h = a.1 in let i = b.1 in typing-once a.2 b.2 (cc)
