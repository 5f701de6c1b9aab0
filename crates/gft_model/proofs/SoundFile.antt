-- The table of the portable file takes apart what it puts together.
use Rattle.std.specs.Prelude.{◌≡◌, ◌<◌, ℕ, zero, suc, ◌+◌, true, false, codes, List, [], ◌∷◌, ◌++◌, length, map, Option, Some, None}
use Rattle.std.proofs.Common.{sym, ap, ◌∙◌, arith}
use Rattle.std.proofs.lemmas.Bool.{ltb-true, eqb-true}
use Rattle.std.proofs.lemmas.Slice.Eq.{bytes_eq-Decides}
use Rattle.gft_core.specs.declared.symbol.Sym.{Sym}
use Rattle.gft_core.specs.declared.tree.Tree.{Tree, out-Tree}
use Rattle.gft_core.specs.declared.tree.Tree.TheVariants.{outs-App, outs-Int, outs-Str, outs-Hole}
use Rattle.gft_pmcfg.specs.declared.signature.AType.{AType}
use Rattle.gft_pmcfg.specs.declared.signature.Cat.{Cat}
use Rattle.gft_pmcfg.specs.declared.signature.Fun.{Fun}
use Rattle.gft_pmcfg.specs.declared.signature.Abstract.{Abstract}
use Rattle.gft_pmcfg.specs.declared.concrete.Info.{Info}
use Rattle.gft_pmcfg.specs.declared.concrete.Prod.{Prod}
use Rattle.gft_pmcfg.specs.declared.concrete.Def.{Def}
use Rattle.gft_pmcfg.specs.declared.concrete.Ref.{Ref}
use Rattle.gft_pmcfg.specs.declared.concrete.Concrete.{Concrete}
use Rattle.gft_pmcfg.specs.Nonterminals.{dimension_of}
use Rattle.gft_model.specs.Fields.{Form, Fits}
use Rattle.gft_model.specs.FileForms.{sized, times, ascending, TermParts, parts, untagged, term, most_levels, type_form, types, category, function, listed, numbered_abstract, abstract, symbol_tag, word_in, component_in, untagged_symbol, symbol, sequence, infos, nonterminals, production, def_form, ref_form, literal_infos, concrete, file}
use Rattle.gft_model.specs.Numbering.{numbered}
use Rattle.gft_model.proofs.NumberedTerms.{same_abstract}
use Rattle.gft_model.proofs.ReadBack.{IsSound}

-- lists
pub count_of : {A : Type 0} (f : Form A) (n : ℕ) (xs : List A) → Fits (times f n) xs → length xs ≡ n
count_of f zero xs h = ap length (sym h)
count_of f (suc n) [] h = absurd h
count_of f (suc n) (x ∷ xs) h = let rest = count_of f n xs h.1 in omega (arith, rest)

pub count_ascending : {A : Type 0} (key : A → List ℕ) (f : Form A) (before : Option (List ℕ)) (n : ℕ) (xs : List A)
    → Fits (ascending key f before n) xs → length xs ≡ n
count_ascending key f before zero xs h = ap length (sym h)
count_ascending key f before (suc n) [] h = absurd h
count_ascending key f before (suc n) (x ∷ xs) h =
    let rest = count_ascending key f (Some (key x)) n xs h.1 in omega (arith, rest)

sound_times : {A : Type 0} (f : Form A) (n : ℕ) → IsSound f → IsSound (times f n)
sound_times f zero s = tt
sound_times f (suc n) s = (s, λ x h. sound_times f n s)

sound_list : {A : Type 0} (f : Form A) → IsSound f → IsSound (sized (times f))
sound_list f s = (tt, λ n h. (sound_times f n s, count_of f n))

sound_ascending : {A : Type 0} (key : A → List ℕ) (f : Form A) (before : Option (List ℕ)) (n : ℕ) → IsSound f
    → IsSound (ascending key f before n)
sound_ascending key f before zero s = tt
sound_ascending key f before (suc n) s = (s, λ x h. sound_ascending key f (Some (key x)) n s)

sound_keyed : {A : Type 0} (key : A → List ℕ) (f : Form A) → IsSound f → IsSound (sized (ascending key f None))
sound_keyed key f s = (tt, λ n h. (sound_ascending key f None n s, count_ascending key f None n))

-- terms
sound_untagged : (functions variables tag : ℕ) (inner : Form Tree) → IsSound inner
    → IsSound (untagged functions variables inner tag)
sound_untagged functions variables zero inner s = (
  tt,
  λ f h. (
    (
      sound_list inner s,
      λ ts k. (
        tt,
        λ t e. ap (λ x. (parts (out-Tree x)).terms) (sym e) ∙ ap (λ (p : TermParts). p.terms)
            (ap parts (outs-App _ _)),
      ),
    ),
    λ t e. ap (λ x. (parts (out-Tree x)).number) (sym e.1) ∙ ap (λ (p : TermParts). p.number) (ap parts (outs-App _ _)),
  ),
)
sound_untagged functions variables (suc zero) inner s = (
  tt,
  λ k h. (
    tt,
    λ t e. ap (λ x. (parts (out-Tree x)).number) (sym e) ∙ ap (λ (p : TermParts). p.number)
        (ap parts (outs-Hole _)),
  ),
)
sound_untagged functions variables (suc (suc zero)) inner s = (
  tt,
  λ k h. (
    tt,
    λ t e. ap (λ x. (parts (out-Tree x)).number) (sym e) ∙ ap (λ (p : TermParts). p.number)
        (ap parts (outs-Int _)),
  ),
)
sound_untagged functions variables (suc (suc (suc n))) inner s = (
  (tt, λ c h. (tt, λ w k. k.0)),
  λ w h. (
    tt,
    λ t e. ap (λ x. (parts (out-Tree x)).word) (sym e) ∙ ap
        (λ (p : TermParts). p.word) (ap parts (outs-Str _)),
  ),
)

tag_is : (functions variables : ℕ) (inner : Form Tree) (n : ℕ) → n < 4 → (t : Tree)
    → Fits (untagged functions variables inner n) t → (parts (out-Tree t)).tag ≡ n
tag_is functions variables inner zero b t h = ap (λ x. (parts (out-Tree x)).tag) (sym h.1.1) ∙ ap (λ (p : TermParts). p.tag)
    (ap parts (outs-App _ _))
tag_is functions variables inner (suc zero) b t h = ap (λ x. (parts (out-Tree x)).tag) (sym h.1) ∙ ap
    (λ (p : TermParts). p.tag) (ap parts (outs-Hole _))
tag_is functions variables inner (suc (suc zero)) b t h = ap (λ x. (parts (out-Tree x)).tag) (sym h.1) ∙ ap
    (λ (p : TermParts). p.tag) (ap parts (outs-Int _))
tag_is functions variables inner (suc (suc (suc n))) b t h =
    let three : (parts (out-Tree t)).tag ≡ 3 = ap (λ x. (parts (out-Tree x)).tag) (sym h.1) ∙ ap (λ (p : TermParts). p.tag)
    (ap parts (outs-Str _)) in
    omega (arith, three, b)

sound_term : (functions variables levels : ℕ) → IsSound (term functions variables levels)
sound_term functions variables zero = (tt, λ n h. absurd (never h.1)) where
  never : false ≡ true → ⊥
  never e = cc
sound_term functions variables (suc levels) = (
  tt,
  λ n h. (
    sound_untagged functions variables n (term functions variables levels) (sound_term functions variables levels),
    tag_is functions variables (term functions variables levels) n (ltb-true n 4 h.1),
  ),
)

module _ (categories functions : ℕ) where
  sound_type : (variables : ℕ) → IsSound (type_form categories functions variables)
  sound_type variables = (
    tt,
    λ c h. (
      (
        sound_list _ (sound_term functions variables most_levels),
        λ ts k. (tt, λ t e. ap (λ (x : AType). x.args) (sym e)),
      ),
      λ t e. ap (λ (x : AType). x.cat) (sym e.1),
    ),
  )

  sound_types : (variables n : ℕ) → IsSound (types categories functions variables n)
  sound_types variables zero = tt
  sound_types variables (suc n) = (sound_type variables, λ t h. sound_types (suc variables) n)

  count_types : (variables n : ℕ) (ts : List AType) → Fits (types categories functions variables n) ts → length ts ≡ n
  count_types variables zero ts h = ap length (sym h)
  count_types variables (suc n) [] h = absurd h
  count_types variables (suc n) (t ∷ ts) h = let rest = count_types (suc variables) n ts h.1 in omega (arith, rest)

  sound_sized_types : IsSound (sized (types categories functions 0))
  sound_sized_types = (tt, λ n h. (sound_types 0 n, count_types 0 n))

  sound_category : IsSound (category categories functions)
  sound_category = (
    (tt, λ c h. (tt, λ w k. k.0)),
    λ w h. (
      (sound_sized_types, λ ts k. (tt, λ c e. ap (λ (x : Cat). x.context) (sym e))),
      λ c e. ap (λ (x : Cat). x.name) (sym e.1),
    ),
  )

  sound_function : IsSound (function categories functions)
  sound_function = (
    (tt, λ c h. (tt, λ w k. k.0)),
    λ w h. (
      (
        sound_sized_types,
        λ ts k. (
          (sound_type (length ts), λ t j. (tt, λ f e. ap (λ (x : Fun). x.result) (sym e))),
          λ f e. ap (λ (x : Fun). x.args) (sym e.1),
        ),
      ),
      λ f e. ap (λ (x : Fun). x.name) (sym e.1.1),
    ),
  )

sound_numbered : IsSound numbered_abstract
sound_numbered = (
  (tt, λ c h. (tt, λ w k. k.0)),
  λ w h. (
    (
      tt,
      λ start i. (
        (
          tt,
          λ categories j. (
            (
              tt,
              λ functions k. (
                (
                  sound_ascending _ _ None categories (sound_category (categories + 2) functions),
                  λ cs l. (
                    (
                      sound_ascending _ _ None functions (sound_function (categories + 2) functions),
                      λ fs m. (tt, λ a e. ap (λ (x : Abstract). x.funs) (sym e)),
                    ),
                    λ a e. ap (λ (x : Abstract). listed x.cats) (sym e.1),
                  ),
                ),
                λ a e. count_ascending _ _ None functions a.funs e.1.0,
              ),
            ),
            λ a e. count_ascending _ _ None categories (listed a.cats) e.1.0,
          ),
        ),
        λ a e. ap (λ (x : Abstract). x.start) (sym e.1.1.1.1),
      ),
    ),
    λ a e. ap (λ (x : Abstract). x.name) (sym e.1.1.1.1.1),
  ),
)

sound_abstract : IsSound abstract
sound_abstract = (sound_numbered, λ b h. (tt, λ a e. ap numbered (sym e) ∙ same_abstract b h))

-- symbols
sound_symbol : (dims : List ℕ) → IsSound (symbol dims)
sound_symbol dims = (tt, λ n h. (inner n, tag n (ltb-true n 2 h.1))) where
  inner : (n : ℕ) → IsSound (untagged_symbol dims n)
  inner zero = ((tt, λ c h. (tt, λ w k. k.0)), λ w h. (tt, λ s e. ap word_in (sym e)))
  inner (suc n) = (
    tt,
    λ i h. (
      (tt, λ l k. (tt, λ s e. ap (λ x. (component_in x).1) (sym e))),
      λ s e. ap (λ x. (component_in x).0) (sym e.1),
    ),
  )

  tag : (n : ℕ) → n < 2 → (s : Sym) → Fits (untagged_symbol dims n) s → symbol_tag s ≡ n
  tag zero b s h = ap symbol_tag (sym h.1)
  tag (suc n) b s h = let one : symbol_tag s ≡ 1 = ap symbol_tag (sym h.1.1) in omega (arith, one, b)

sound_sequence : (dims : List ℕ) → IsSound (sequence dims)
sound_sequence dims = sound_list (symbol dims) (sound_symbol dims)

-- concrete syntaxes
sound_nonterminals : (is : List Info) (cats : List ℕ) → IsSound (nonterminals is cats)
sound_nonterminals is [] = tt
sound_nonterminals is (c ∷ cs) = (tt, λ n h. sound_nonterminals is cs)

sound_production : (fs : List Fun) (is : List Info) → IsSound (production fs is)
sound_production fs is = (
  tt,
  λ k h. (
    (
      sound_nonterminals is _,
      λ args i. (
        (
          tt,
          λ result j. (
            (
              sound_times _ (dimension_of is result) (sound_sequence (map (dimension_of is) args)),
              λ seqs l. (tt, λ p e. ap (λ (x : Prod). x.seqs) (sym e)),
            ),
            λ p e. ap (λ (x : Prod). x.result) (sym e.1),
          ),
        ),
        λ p e. ap (λ (x : Prod). x.args) (sym e.1.1),
      ),
    ),
    λ p e. ap (λ (x : Prod). x.fun) (sym e.1.1.1),
  ),
)

sound_def : (is : List Info) → IsSound (def_form is)
sound_def is = (
  tt,
  λ result h. (
    (
      sound_times _ (dimension_of is result) (sound_sequence (1 ∷ [])),
      λ seqs k. (tt, λ d e. ap (λ (x : Def). x.seqs) (sym e)),
    ),
    λ d e. ap (λ (x : Def). x.result) (sym e.1),
  ),
)

sound_ref : (is : List Info) → IsSound (ref_form is)
sound_ref is = (
  tt,
  λ arg h. (
    (sound_sequence (dimension_of is arg ∷ []), λ seq k. (tt, λ r e. ap (λ (x : Ref). x.seq) (sym e))),
    λ r e. ap (λ (x : Ref). x.arg) (sym e.1),
  ),
)

sound_infos : (first n : ℕ) → IsSound (infos first n)
sound_infos first zero = tt
sound_infos first (suc n) = (
  (
    tt,
    λ count h. (
      (tt, λ dim k. (tt, λ i e. ap (λ (x : Info). x.dim) (sym e))),
      λ i e. ap (λ (x : Info). x.count) (sym e.1),
    ),
  ),
  λ i h. sound_infos (first + i.count) n,
)

sound_concrete : (a : Abstract) → IsSound (concrete a)
sound_concrete a = (
  (tt, λ c h. (tt, λ w k. k.0)),
  λ w h. (
    (
      sound_infos 2 (length (listed a.cats)),
      λ is i. (
        (
          sound_keyed _ _ (sound_production a.funs (literal_infos ++ is)),
          λ ps j. (
            (
              sound_keyed _ _ (sound_def (literal_infos ++ is)),
              λ ds k. (
                (
                  sound_keyed _ _ (sound_ref (literal_infos ++ is)),
                  λ rs l. (tt, λ c e. ap (λ (x : Concrete). x.refs) (sym e)),
                ),
                λ c e. ap (λ (x : Concrete). x.defs) (sym e.1),
              ),
            ),
            λ c e. ap (λ (x : Concrete). x.prods) (sym e.1.1),
          ),
        ),
        λ c e. ap (λ (x : Concrete). listed x.infos) (sym e.1.1.1),
      ),
    ),
    λ c e. ap (λ (x : Concrete). x.name) (sym e.1.1.1.1),
  ),
)

pub sound_file : IsSound file
sound_file = (
  tt,
  λ magic h. (
    (
      tt,
      λ version i. (
        (
          sound_abstract,
          λ a j. (
            (
              sound_keyed _ _ (sound_concrete a),
              λ cs k. (tt, λ g e. ap (λ (x : Abstract × List Concrete). x.1) (sym e)),
            ),
            λ g e. ap (λ (x : Abstract × List Concrete). x.0) (sym e.1),
          ),
        ),
        λ g e. sym (eqb-true _ _ i.1),
      ),
    ),
    λ g e. (bytes_eq-Decides (codes "GFPT") magic).0 h.1,
  ),
)
