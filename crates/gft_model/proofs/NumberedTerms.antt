-- Terms by numbers stand for terms by names, one for one.
use Rattle.std.specs.Prelude.{◌≡◌, ◌<◌, ℕ, zero, suc, ◌+◌, true, false, List, [], ◌∷◌, ◌++◌, length, map, slice_index_or, Option, Some, None}
use Rattle.std.proofs.Common.{refl, sym, ap, ◌∙◌, subst, arith}
use Rattle.std.proofs.lemmas.Bool.{ltb-true}
use Rattle.std.proofs.lemmas.List.{length-map}
use Rattle.gft_core.specs.declared.tree.Tree.{Tree, App, Int, Str, Hole, out-Tree, fold-Tree}
use Rattle.gft_core.specs.declared.tree.Tree.TheOpen.{Tree-F}
use Rattle.gft_pmcfg.specs.declared.signature.AType.{AType}
use Rattle.gft_pmcfg.specs.declared.signature.Cat.{Cat}
use Rattle.gft_pmcfg.specs.declared.signature.Fun.{Fun}
use Rattle.gft_pmcfg.specs.declared.signature.Abstract.{Abstract}
use Rattle.gft_pmcfg.specs.declared.concrete.Concrete.{Concrete}
use Rattle.gft_model.specs.Fields.{Form, Fits}
use Rattle.gft_model.specs.FileForms.{times, ascending, parts, untagged, term, most_levels, type_form, types, category, function, literal_categories, listed, numbered_abstract, file}
use Rattle.gft_model.specs.Numbering.{numbered_step, named_step, changed_type, changed, names_of, numbered, named}
use Rattle.gft_model.proofs.Layers.{by_layers-App, by_layers-Int, by_layers-Str, by_layers-Hole}
use Rattle.gft_model.proofs.Rising.{Rise, keys_rise, own_place}

-- what changes nothing in a value that fits changes nothing in a list of them
pub same_times : {A : Type 0} (f : Form A) (g : A → A) → ((x : A) → Fits f x → g x ≡ x) → (n : ℕ) (xs : List A)
    → Fits (times f n) xs → map g xs ≡ xs
same_times f g one zero xs h = ap (map g) (sym h) ∙ h
same_times f g one (suc n) [] h = absurd h
same_times {A} f g one (suc n) (x ∷ xs) h =
    ap (λ (y : A). y ∷ map g xs) (one x h.0) ∙ ap (λ (ys : List A). x ∷ ys) (same_times f g one n xs h.1)

pub same_ascending : {A : Type 0} (key : A → List ℕ) (f : Form A) (g : A → A) → ((x : A) → Fits f x → g x ≡ x)
    → (before : Option (List ℕ)) (n : ℕ) (xs : List A) → Fits (ascending key f before n) xs → map g xs ≡ xs
same_ascending key f g one before zero xs h = ap (map g) (sym h) ∙ h
same_ascending key f g one before (suc n) [] h = absurd h
same_ascending {A} key f g one before (suc n) (x ∷ xs) h =
    ap (λ (y : A). y ∷ map g xs) (one x h.0.0)
    ∙ ap (λ (ys : List A). x ∷ ys) (same_ascending key f g one (Some (key x)) n xs h.1)

pub map_twice : {A : Type 0} (f g : A → A) (xs : List A) → map f (map g xs) ≡ map (λ x. f (g x)) xs
map_twice f g [] = refl
map_twice {A} f g (x ∷ xs) = ap (λ (ys : List A). f (g x) ∷ ys) (map_twice f g xs)

-- categories and functions with their terms changed
abbrev pub category_changed : (Tree-F Tree → Tree) → Cat → Cat
category_changed step c = record c { context = map (changed_type step) c.context }

abbrev pub function_changed : (Tree-F Tree → Tree) → Fun → Fun
function_changed step f = record f { args = map (changed_type step) f.args; result = changed_type step f.result }

module _ (names : List (List ℕ)) (apart : Rise None names) where
  -- there and back
  abbrev pub again : Tree → Tree
  again t = fold-Tree Tree (numbered_step names) (fold-Tree Tree (named_step names) t)

  again-App : (k : ℕ) (ts : List Tree) → k < length names → map again ts ≡ ts → again (App (k ∷ []) ts) ≡ App (k ∷ []) ts
  again-App k ts b e =
      ap (fold-Tree Tree (numbered_step names)) (by_layers-App (named_step names) (k ∷ []) ts)
      ∙ by_layers-App (numbered_step names) (slice_index_or names k []) (map (fold-Tree Tree (named_step names)) ts)
      ∙ ap (λ n. App (n ∷ []) (map (fold-Tree Tree (numbered_step names)) (map (fold-Tree Tree (named_step names)) ts)))
      (own_place None names k apart b)
      ∙ ap (App (k ∷ [])) (map_twice (fold-Tree Tree (numbered_step names)) (fold-Tree Tree (named_step names)) ts ∙ e)

  again-Hole : (k : ℕ) → again (Hole k) ≡ Hole k
  again-Hole k =
      ap (fold-Tree Tree (numbered_step names)) (by_layers-Hole (named_step names) k)
      ∙ by_layers-Hole (numbered_step names) (suc k) ∙ ap Hole (omega arith)

  again-Int : (n : ℕ) → again (Int n) ≡ Int n
  again-Int n =
      ap (fold-Tree Tree (numbered_step names)) (by_layers-Int (named_step names) n) ∙ by_layers-Int (numbered_step names) n

  again-Str : (w : List ℕ) → again (Str w) ≡ Str w
  again-Str w =
      ap (fold-Tree Tree (numbered_step names)) (by_layers-Str (named_step names) w) ∙ by_layers-Str (numbered_step names) w

  same_untagged : (variables tag : ℕ) (inner : Form Tree) → ((t : Tree) → Fits inner t → again t ≡ t) → (t : Tree)
      → Fits (untagged (length names) variables inner tag) t → again t ≡ t
  same_untagged variables zero inner one t d =
      let whole = again-App _ _ (ltb-true _ _ d.0.1) (same_times inner again one _ _ d.1.0.1) in
      ap again (sym d.1.1) ∙ whole ∙ d.1.1
  same_untagged variables (suc zero) inner one t d = ap again (sym d.1) ∙ again-Hole _ ∙ d.1
  same_untagged variables (suc (suc zero)) inner one t d = ap again (sym d.1) ∙ again-Int _ ∙ d.1
  same_untagged variables (suc (suc (suc n))) inner one t d = ap again (sym d.1) ∙ again-Str _ ∙ d.1

  same_term : (variables levels : ℕ) (t : Tree) → Fits (term (length names) variables levels) t → again t ≡ t
  same_term variables zero t h = absurd (never h.0.1) where
    never : false ≡ true → ⊥
    never e = cc
  same_term variables (suc levels) t h = same_untagged variables (parts (out-Tree t)).tag
      (term (length names) variables levels) (same_term variables levels) t h.1

  -- types
  abbrev pub type_again : AType → AType
  type_again t = changed_type (numbered_step names) (changed_type (named_step names) t)

  same_type : (categories variables : ℕ) (t : AType) → Fits (type_form categories (length names) variables) t
      → type_again t ≡ t
  same_type categories variables t h =
      ap (λ (ts : List Tree). record { cat = t.cat; args = ts })
      (map_twice (fold-Tree Tree (numbered_step names)) (fold-Tree Tree (named_step names)) t.args
      ∙ same_times _ again (same_term variables most_levels) _ _ h.1.0.1)

  same_types : (categories variables n : ℕ) (ts : List AType) → Fits (types categories (length names) variables n) ts
      → map (changed_type (numbered_step names)) (map (changed_type (named_step names)) ts) ≡ ts
  same_types categories variables zero ts h =
      ap (λ xs. map (changed_type (numbered_step names)) (map (changed_type (named_step names)) xs)) (sym h) ∙ h
  same_types categories variables (suc n) [] h = absurd h
  same_types categories variables (suc n) (t ∷ ts) h =
      ap (λ (u : AType). u ∷ map (changed_type (numbered_step names)) (map (changed_type (named_step names)) ts))
      (same_type categories variables t h.0)
      ∙ ap (λ (us : List AType). t ∷ us) (same_types categories (suc variables) n ts h.1)

  -- categories and functions
  same_category : (categories : ℕ) (c : Cat) → Fits (category categories (length names)) c
      → category_changed (numbered_step names) (category_changed (named_step names) c) ≡ c
  same_category categories c h =
      ap (λ (ts : List AType). record { name = c.name; context = ts }) (same_types categories 0 _ c.context h.1.0.1)

  same_function : (categories : ℕ) (f : Fun) → Fits (function categories (length names)) f
      → function_changed (numbered_step names) (function_changed (named_step names) f) ≡ f
  same_function categories f h =
      ap (λ (ts : List AType). record { name = f.name; args = ts; result = type_again f.result })
      (same_types categories 0 _ f.args h.1.0.1)
      ∙ ap (λ (t : AType). record { name = f.name; args = f.args; result = t }) (same_type categories _ f.result h.1.1.0)

-- names stay as they are
pub names_stay : (step : Tree-F Tree → Tree) (fs : List Fun) → names_of (map (function_changed step) fs) ≡ names_of fs
names_stay step [] = refl
names_stay step (f ∷ fs) = ap (λ ns. f.name ∷ ns) (names_stay step fs)

-- an abstract syntax by numbers
pub same_abstract : (a : Abstract) → Fits numbered_abstract a → numbered (named a) ≡ a
same_abstract a h =
    let names = names_of a.funs in
    let apart : Rise None names = keys_rise _ _ None _ _ h.1.1.1.1.1.0 in
    let stay : names_of (named a).funs ≡ names = names_stay (named_step names) a.funs in
    let count : length a.funs ≡ length names = sym (length-map a.funs (λ (f : Fun). f.name)) in
    let size = length (listed a.cats) + 2 in
    let listed_fit = subst (λ n. Fits (ascending (λ (c : Cat). c.name) (category size n) None (length (listed a.cats)))
    (listed a.cats)) count h.1.1.1.1.0 in
    let funs_fit = subst (λ n. Fits (ascending (λ (f : Fun). f.name) (function size n) None
    (length a.funs)) a.funs) count h.1.1.1.1.1.0 in
    let back = λ (c : Cat). category_changed (numbered_step names) (category_changed (named_step names) c) in
    let inner : map (category_changed (numbered_step names)) (map (category_changed (named_step names)) (listed a.cats))
    ≡ listed a.cats
    = map_twice (category_changed (numbered_step names)) (category_changed (named_step names)) (listed a.cats)
    ∙ same_ascending _ _ _ (same_category names apart size) None _ _ listed_fit in
    let whole : literal_categories ++ listed a.cats ≡ a.cats = ap (λ (x : Abstract). x.cats) h.1.1.1.1.1.1 in
    let cats : map (category_changed (numbered_step names)) (map (category_changed (named_step names)) a.cats) ≡ a.cats
    = subst (λ (xs : List Cat). map (category_changed (numbered_step names)) (map (category_changed (named_step names)) xs)
    ≡ xs) whole
    (ap (λ (xs : List Cat). literal_categories ++ xs) inner) in
    let funs : map (function_changed (numbered_step names)) (map (function_changed (named_step names)) a.funs) ≡ a.funs
    = map_twice (function_changed (numbered_step names)) (function_changed (named_step names)) a.funs
    ∙ same_ascending _ _ _ (same_function names apart size) None _ _ funs_fit in
    ap (λ ns. changed (numbered_step ns) (named a)) stay
    ∙ ap (λ (xs : List Cat). record {
      name = a.name;
      start = a.start;
      cats = xs;
      funs =
          (changed (numbered_step names) (named a)).funs;
    }) cats
    ∙ ap (λ (xs : List Fun). record { name = a.name; start = a.start; cats = a.cats; funs = xs }) funs

-- the names of the functions of a file rise
pub functions_rise : (a : Abstract) (cs : List Concrete) → Fits file (a, cs) → Rise None (names_of a.funs)
functions_rise a cs h =
    subst (Rise None) (names_stay (numbered_step (names_of a.funs)) a.funs) (keys_rise _ _ None _ _ h.1.1.0.0.1.1.1.1.1.0)
