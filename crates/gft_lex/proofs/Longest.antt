-- The longest beginning that is a token: none that is longer is one.
use Rattle.std.proofs.Common.{◌≡◌, ℕ, List, [], ◌∷◌, ◌++◌, length, Option, Some, None, refl, sym, ap, ◌∙◌, append_assoc}
use Rattle.gft_syntax.specs.declared.token.TokenForm.{TokenForm}
use Rattle.gft_model.specs.Source.{form_of, longest_from, longest}

-- no beginning of what is left makes a token with what is held
abbrev pub AreNone : List ℕ → List ℕ → Type 0
AreNone held cs = (b a : List ℕ) (c : ℕ) → cs ≡ b ++ c ∷ a → form_of (held ++ (b ++ c ∷ [])) ≡ None

-- what is found after one more character
abbrev better : List ℕ → Option (TokenForm × ℕ) → Option TokenForm → Option (TokenForm × ℕ)
better here best o = elim o [ Some t ↦ Some (t, length here) | None ↦ best ]

AreNone-next : (held cs : List ℕ) (c : ℕ) → AreNone held (c ∷ cs) → AreNone (held ++ c ∷ []) cs
AreNone-next held cs c h b a d e = ap form_of (append_assoc held (c ∷ []) (b ++ d ∷ [])) ∙ h (c ∷ b) a d (ap (λ x. c ∷ x) e)

kept : (held cs : List ℕ) (best : Option (TokenForm × ℕ)) → AreNone held cs → longest_from held cs best ≡ best
kept held [] best h = refl
kept held (c ∷ cs) best h =
    ap (λ o. longest_from (held ++ c ∷ []) cs (better (held ++ c ∷ []) best o)) (h [] cs c refl)
    ∙ kept (held ++ c ∷ []) cs best (AreNone-next held cs c h)

front : (held : List ℕ) (c : ℕ) (cs rest : List ℕ) (best : Option (TokenForm × ℕ)) (t : TokenForm)
    → form_of (held ++ c ∷ cs) ≡ Some t
    → AreNone (held ++ c ∷ cs) rest → longest_from held (c ∷ (cs ++ rest)) best ≡ Some (t, length (held ++ c ∷ cs))
front held c [] rest best t e h =
    ap (λ o. longest_from (held ++ c ∷ []) rest (better (held ++ c ∷ []) best o)) e ∙ kept (held ++ c ∷ []) rest _ h
front held c (d ∷ cs) rest best t e h =
    let here = held ++ c ∷ [] in
    let same = append_assoc held (c ∷ []) (d ∷ cs) in
    front here d cs rest (better here best (form_of here)) t (ap form_of same ∙ e)
    (λ b a x f. ap (λ l. form_of (l ++ (b ++ x ∷ []))) same ∙ h b a x f)
    ∙ ap (λ l. Some (t, length l)) same

-- a beginning that is a token, where none that is longer is
pub longest_is : (c : ℕ) (cs rest : List ℕ) (t : TokenForm) → form_of (c ∷ cs) ≡ Some t → AreNone (c ∷ cs) rest
    → longest (c ∷ (cs ++ rest)) ≡ Some (t, length (c ∷ cs))
longest_is c cs rest t e h = front [] c cs rest None t e h

-- no beginning is a token
pub longest_none : (cs : List ℕ) → AreNone [] cs → longest cs ≡ None
longest_none cs h = kept [] cs None h

better_some : (here : List ℕ) (b : TokenForm × ℕ) (o : Option TokenForm) → (x : TokenForm × ℕ) × (better here (Some b) o ≡ Some x)
better_some here b None = (b, refl)
better_some here b (Some t) = ((t, length here), refl)

some_stays : (held cs : List ℕ) (b : TokenForm × ℕ) → longest_from held cs (Some b) ≡ None → ⊥
some_stays held [] b e = absurd (cc)
some_stays held (c ∷ cs) b e =
    let here = held ++ c ∷ [] in
    let x = better_some here b (form_of here) in
    some_stays here cs x.0 (ap (longest_from here cs) (sym x.1) ∙ e)

-- one character that is a token is a beginning
pub longest_some : (c : ℕ) (cs : List ℕ) (t : TokenForm) → form_of (c ∷ []) ≡ Some t → longest (c ∷ cs) ≡ None → ⊥
longest_some c cs t e h = some_stays (c ∷ []) cs (t, 1) (sym (ap (λ o. longest_from (c ∷ []) cs (better (c ∷ []) None o)) e) ∙ h)
