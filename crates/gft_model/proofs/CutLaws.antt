-- A closed tree is an instance of its cut.
use Rattle.std.specs.Prelude.{◌≡◌, ◌==◌, ◌≤◌, ℕ, suc, ◌+◌, Bool, true, false, List, [], ◌∷◌, ◌++◌, length, map, ⊤, if◌then◌else◌}
use Rattle.std.proofs.Common.{refl, sym, ap, ◌∙◌, subst, arith, rules, cond, length-append}
use Rattle.std.proofs.lemmas.Bool.{eq-eqb, ne_eqb}
use Rattle.gft_core.specs.declared.tree.Tree.{Tree, App, Int, Str, Hole}
use Rattle.gft_core.specs.declared.tree.Tree.TheOpen as layer
use Rattle.gft_pmcfg.specs.declared.signature.Abstract.{Abstract}
use Rattle.gft_model.proofs.Layers.{by_layers, each, by_layers-App, by_layers-Int, by_layers-Str, Each, induction}
use Rattle.gft_model.specs.Trees.{IsInstance, filled, holes_of, all_of}
use Rattle.gft_pmcfg.specs.declared.signature.AType.{AType}
use Rattle.gft_model.specs.Typing.{HasType, HaveTypes, hole, integer, text, application, none, more, empty}
use Rattle.gft_model.specs.Brackets.{Piece, is_shown}
use Rattle.gft_model.specs.Cut.{Cutting, cut_arguments, kept, cut_step, cut_of}
use Rattle.gft_model.specs.Listing.{Language, IsListed}
use Rattle.gft_model.proofs.TreeLemmas.{filled-App, filled-Int, filled-Str, filled-Hole, holes_of-App, holes_of-Int, holes_of-Str, holes_of-Hole}
use Rattle.gft_model.proofs.RunLaws.{left_empty, right_empty, integer_is, string_is, application_is}

-- the holes from a number on are replaced by these trees
abbrev Agrees : (ℕ → Tree) → ℕ → List Tree → Type 0
Agrees θ next [] = ⊤
Agrees θ next (h ∷ hs) = (θ next ≡ h) × Agrees θ (next + 1) hs

agrees_left : (θ : ℕ → Tree) (next : ℕ) (hs ks : List Tree) → Agrees θ next (hs ++ ks) → Agrees θ next hs
agrees_left θ next [] ks a = tt
agrees_left θ next (h ∷ hs) ks a = (a.0, agrees_left θ (next + 1) hs ks a.1)

agrees_right : (θ : ℕ → Tree) (next : ℕ) (hs ks : List Tree) → Agrees θ next (hs ++ ks) → Agrees θ (next + length hs) ks
agrees_right θ next [] ks a = let same : next ≡ next + 0 = omega arith in subst (λ n. Agrees θ n ks) same a
agrees_right θ next (h ∷ hs) ks a =
    let same : next + 1 + length hs ≡ next + suc (length hs) = omega arith in
    subst (λ n. Agrees θ n ks) same (agrees_right θ (next + 1) hs ks a.1)

agrees_above : (θ φ : ℕ → Tree) (next : ℕ) (hs : List Tree) → ((k : ℕ) → next ≤ k → θ k ≡ φ k) → Agrees θ next hs → Agrees φ next hs
agrees_above θ φ next [] e a = tt
agrees_above θ φ next (h ∷ hs) e a =
    (sym (e next (omega arith)) ∙ a.0, agrees_above θ φ (next + 1) hs (λ k b. e k (omega arith)) a.1)

-- the trees in place of the holes from a number on
abbrev filling : ℕ → List Tree → ℕ → Tree
filling next [] k = Hole k
filling next (h ∷ hs) k = if k == next then h else filling (next + 1) hs k

filling_agrees : (next : ℕ) (hs : List Tree) → Agrees (filling next hs) next hs
filling_agrees next [] = tt
filling_agrees next (h ∷ hs) =
    let here : filling next (h ∷ hs) next ≡ h = rw (eq-eqb next next refl) refl in
    let later : (k : ℕ) → next + 1 ≤ k → filling (next + 1) hs k ≡ filling next (h ∷ hs) k
    = λ k b. rw (ne_eqb k next (λ e. absurd (omega arith))) refl in
    (here, agrees_above (filling (next + 1) hs) (filling next (h ∷ hs)) (next + 1) hs later (filling_agrees (next + 1) hs))

-- what was cut out gives the tree back
abbrev Uncuts : Tree → ℕ → Tree × ℕ → Type 0
Uncuts t next r =
    (hs : List Tree) × (r.1 ≡ next + length hs) × ((θ : ℕ → Tree) → Agrees θ next hs → filled θ r.0 ≡ t)

-- and the trees
abbrev UncutsAll : List Tree → ℕ → List Tree × ℕ → Type 0
UncutsAll ts next r =
    (hs : List Tree) × (r.1 ≡ next + length hs) × ((θ : ℕ → Tree) → Agrees θ next hs → map (filled θ) r.0 ≡ ts)

-- a tree that is one hole, or is kept
uncut_hole : (t : Tree) (next : ℕ) → Uncuts t next (Hole next, next + 1)
uncut_hole t next = (t ∷ [], omega arith, λ θ a. filled-Hole θ next ∙ a.0)

uncut_either : (v : Bool) (t : Tree) (next : ℕ) (r : Tree × ℕ) → Uncuts t next r → Uncuts t next (cond v r (Hole next, next + 1))
uncut_either true t next r u = u
uncut_either false t next r u = uncut_hole t next

module _ (b : List Piece) where
  -- every cut of a closed tree
  abbrev IsUncut : Tree → Type 0
  IsUncut t = holes_of t ≡ [] → (p : List ℕ) (next : ℕ) → Uncuts t next (by_layers Cutting (cut_step b) t p next)

  uncut_all : (ts : List Tree) → Each IsUncut ts → all_of (map holes_of ts) ≡ [] → (p : List ℕ) (i next : ℕ)
      → UncutsAll ts next (cut_arguments p i (each (cut_step b) ts) next)
  uncut_all [] h e p i next = ([], omega arith, λ θ a. refl)
  uncut_all (t ∷ ts) h e p i next =
      let first = h.0 (left_empty (holes_of t) (all_of (map holes_of ts)) e) (p ++ suc i ∷ []) next in
      let after : ℕ = (by_layers Cutting (cut_step b) t (p ++ suc i ∷ []) next).1 in
      let rest = uncut_all ts h.1 (right_empty (holes_of t) (all_of (map holes_of ts)) e) p (suc i) after in (
        first.0 ++ rest.0,
        omega (arith, first.1, rest.1, length-append first.0 rest.0),
        λ θ a.
            let head = first.2 θ (agrees_left θ next first.0 rest.0 a) in
            let there : Agrees θ after rest.0 = subst (λ n. Agrees θ n rest.0) (sym first.1) (agrees_right θ next first.0 rest.0 a) in
            let tail = rest.2 θ there in cc,
      )

  uncut : (t : Tree) → IsUncut t
  uncut = induction IsUncut
      (λ f ts h e p next.
      let closed : all_of (map holes_of ts) ≡ [] = sym (holes_of-App f ts) ∙ e in
      let args = uncut_all ts h closed p 0 next in
      let r : Tree × ℕ = kept (layer.App f (each (cut_step b) ts)) p next in
      let whole : Uncuts (App f ts) next r
      = (args.0, args.1, λ θ a. filled-App θ f _ ∙ ap (λ (us : List Tree). App f us) (args.2 θ a)) in
      subst (λ (g : Cutting). Uncuts (App f ts) next (g p next)) (sym (by_layers-App (cut_step b) f ts))
      (uncut_either (is_shown p b) (App f ts) next r whole))
      (λ n e p next.
      let whole : Uncuts (Int n) next (Int n, next) = ([], omega arith, λ θ a. filled-Int θ n) in
      subst (λ (g : Cutting). Uncuts (Int n) next (g p next)) (sym (by_layers-Int (cut_step b) n))
      (uncut_either (is_shown p b) (Int n) next (Int n, next) whole))
      (λ w e p next.
      let whole : Uncuts (Str w) next (Str w, next) = ([], omega arith, λ θ a. filled-Str θ w) in
      subst (λ (g : Cutting). Uncuts (Str w) next (g p next)) (sym (by_layers-Str (cut_step b) w))
      (uncut_either (is_shown p b) (Str w) next (Str w, next) whole))
      (λ k e p next. let one : k ∷ [] ≡ [] = sym (holes_of-Hole k) ∙ e in cc)

-- a closed tree is an instance of its cut
pub cut_covers : (t : Tree) (b : List Piece) → holes_of t ≡ [] → IsInstance (cut_of t b) t
cut_covers t b e =
    let u = uncut b t e [] 1 in
    (filling 1 u.0, sym (u.2 (filling 1 u.0) (filling_agrees 1 u.0)))

mutual
  -- a tree with a type is closed where no hole has one
  closed : {a : Abstract} {t : Tree} {type : AType} → HasType a [] t type → holes_of t ≡ []
  closed (hole h b (k, l, m)) = absurd (omega (arith, l))
  closed {t} (integer {n} h b) = ap holes_of (integer_is t n h) ∙ holes_of-Int n
  closed {t} (text {w} h b) = ap holes_of (string_is t w h) ∙ holes_of-Str w
  closed {t} (application {f} {ts} m h ds) = ap holes_of (application_is t f.name ts h) ∙ holes_of-App f.name ts ∙ all_closed ds

  all_closed : {a : Abstract} {before ts : List Tree} {types : List AType} → HaveTypes a [] before types ts → all_of (map holes_of ts) ≡ []
  all_closed none = refl
  all_closed (more {ts} d ds) = ap (λ (ks : List ℕ). ks ++ all_of (map holes_of ts)) (closed d) ∙ all_closed ds

-- so a tree of which a pattern is listed is an instance of it
pub listed_covers : {a : Abstract} {pattern : Tree} (language : Language) (cat : ℕ) (words : List (List ℕ)) (depth : ℕ)
    → (l : IsListed a language cat words depth pattern) → IsInstance pattern l.tree
listed_covers language cat words depth l =
    l.solved.general l.tree (cut_covers l.tree l.string (closed l.typed))
    ([], ([], record { moves = []; below = search rules; is = refl }, empty), record { cat = cat; args = l.indices }, l.typed)
