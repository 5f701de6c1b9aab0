-- A pattern fits a type in one way: its variables and their types are determined.
use Rattle.std.proofs.Common.{◌≡◌, ap, sym, ◌∙◌, refl, ℕ, List, Some, map}
use Rattle.gft_syntax.specs.declared.ctype.CType.{CType}
use Rattle.gft_syntax.specs.declared.pattern.Pattern.{Pattern}
use Rattle.gft_syntax.specs.declared.pattern.PatternField.{PatternField}
use Rattle.gft_syntax.specs.declared.pattern.Pattern.TheOpen as P
use Rattle.gft_syntax.specs.declared.reference.Reference.TheVariants.{Written, Whole as WholeName}
use Rattle.gft_syntax.specs.declared.reference.Whole.{Whole}
use Rattle.gft_model.specs.ConcreteTypes.{field_of}
use Rattle.gft_model.specs.Matching.{label_by_label}
use Rattle.gft_model.specs.Values.{all_there}
use Rattle.gft_model.specs.PatternTyping.{pattern_form, Scope, Constructs, constructs, PatternFits, either, sequence, constructor_with, repeated, as_well, anything, character, variable, literal, number, record_of, EachFits, no_more, more}

-- the form of a pattern that fits
abbrev pub form_of : {T : CType} {r : Pattern} {Γ : Scope} → PatternFits T r Γ → P.Pattern-F Pattern
form_of (either {p = p} {q = q} {place = place} a0 a1 a2 a3) = P.Or p q place
form_of (sequence {p = p} {q = q} {place = place} a0 a1 a2) = P.Seq p q place
form_of (constructor_with {m = m} {c = c} {ps = ps} {place = place} a0 a1 a2) = P.Con m (WholeName c) ps place
form_of (repeated {p = p} {place = place} a0 a1) = P.Star p place
form_of (as_well {p = p} {x = x} {place = place} a0 a1) = P.As x p place
form_of (anything {place = place} a0) = P.Any place
form_of (character {place = place} a0) = P.One place
form_of (variable {x = x} {place = place} a0) = P.Name (Written x) place
form_of (literal {t = t} {place = place} a0) = P.Text t place
form_of (number {n = n} {place = place} a0 a1) = P.Num n place
form_of (record_of {fs = fs} {place = place} a0 a1 a2 a3) = P.Fields fs place

pub form_is : {T : CType} {r : Pattern} {Γ : Scope} (d : PatternFits T r Γ) → pattern_form r ≡ form_of d
form_is (either a0 a1 a2 a3) = a0
form_is (sequence a0 a1 a2) = a0
form_is (constructor_with a0 a1 a2) = a0
form_is (repeated a0 a1) = a0
form_is (as_well a0 a1) = a0
form_is (anything a0) = a0
form_is (character a0) = a0
form_is (variable a0) = a0
form_is (literal a0) = a0
form_is (number a0 a1) = a0
form_is (record_of a0 a1 a2 a3) = a0

-- the types of a constructor's arguments are determined
pub same-arguments : {c d : Whole} {Ts Us : List CType} {T U : CType} → Constructs c Ts T → Constructs d Us U → T ≡ U → c ≡ d → Ts ≡ Us
same-arguments (constructs a0 a1) (constructs b0 b1) e f = cc

mutual
  pub fits-once : {T U : CType} {r s : Pattern} {Γ Δ : Scope} → PatternFits T r Γ → PatternFits U s Δ → T ≡ U → r ≡ s → Γ ≡ Δ
  fits-once (either a0 a1 a2 a3) (either b0 b1 b2 b3) e f = fits-once a1 b1 e (cc)
  fits-once (either a0 a1 a2 a3) d e f = let k = form_is d in cc
  fits-once (sequence a0 a1 a2) (sequence b0 b1 b2) e f = let i = fits-once a1 b1 refl (cc) in let j = fits-once a2 b2 refl (cc) in cc
  fits-once (sequence a0 a1 a2) d e f = let k = form_is d in cc
  fits-once (constructor_with a0 a1 a2) (constructor_with b0 b1 b2) e f = each-once a2 b2 (same-arguments a1 b1 e cc) (cc)
  fits-once (constructor_with a0 a1 a2) d e f = let k = form_is d in cc
  fits-once (repeated a0 a1) (repeated b0 b1) e f = refl
  fits-once (repeated a0 a1) d e f = let k = form_is d in cc
  fits-once (as_well a0 a1) (as_well b0 b1) e f = let i = fits-once a1 b1 e (cc) in cc
  fits-once (as_well a0 a1) d e f = let k = form_is d in cc
  fits-once (anything a0) (anything b0) e f = refl
  fits-once (anything a0) d e f = let k = form_is d in cc
  fits-once (character a0) (character b0) e f = refl
  fits-once (character a0) d e f = let k = form_is d in cc
  fits-once (variable a0) (variable b0) e f = cc
  fits-once (variable a0) d e f = let k = form_is d in cc
  fits-once (literal a0) (literal b0) e f = refl
  fits-once (literal a0) d e f = let k = form_is d in cc
  fits-once (number a0 a1) (number b0 b1) e f = refl
  fits-once (number a0 a1) d e f = let k = form_is d in cc
  fits-once (record_of {fs = fs} {gs = gs} {Ts = Ts} a0 a1 a2 a3) (record_of {fs = es} {gs = hs} {Ts = Us} b0 b1 b2 b3) e f =
      let k : fs ≡ es = cc in let l : gs ≡ hs = cc in
      let h : Some Ts ≡ Some Us = sym a2 ∙ ap (λ (xs : List (PatternField Pattern)). all_there (map (λ x. field_of x.0 gs) (label_by_label xs))) k
      ∙ ap (λ (ys : List (List ℕ × CType)). all_there (map (λ x. field_of x.0 ys) (label_by_label es))) l ∙ b2 in
      each-once a3 b3 (cc) (ap (λ (xs : List (PatternField Pattern)). map (λ x. x.1) (label_by_label xs)) k)
  fits-once (record_of a0 a1 a2 a3) d e f = let k = form_is d in cc

  each-once : {Ts Us : List CType} {ps qs : List Pattern} {Γ Δ : Scope} → EachFits Ts ps Γ → EachFits Us qs Δ → Ts ≡ Us → ps ≡ qs → Γ ≡ Δ
  each-once no_more no_more e f = refl
  each-once no_more (more b0 b1) e f = cc
  each-once (more a0 a1) no_more e f = cc
  each-once (more a0 a1) (more b0 b1) e f = let i = fits-once a0 b0 (cc) (cc) in let j = each-once a1 b1 (cc) (cc) in cc
