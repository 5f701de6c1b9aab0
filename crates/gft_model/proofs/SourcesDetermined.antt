-- What a file gives in an import is determined.
use Rattle.std.proofs.Common.{◌≡◌, sym, ap, ◌∙◌, subst, ℕ, List, [], ◌∷◌, Some, true, false}
use Rattle.std.specs.Prelude.{map}
use Rattle.gft_io.specs.Outside.{Files}
use Rattle.gft_pmcfg.specs.declared.concrete.Concrete.{Concrete}
use Rattle.gft_pmcfg.specs.declared.signature.Abstract.{Abstract as AbstractSyntax}
use Rattle.gft_syntax.specs.declared.flat.Flat.{Flat}
use Rattle.gft_syntax.specs.declared.module.Module.{Module}
use Rattle.gft_model.specs.Commands.{EndsIn, source_ending}
use Rattle.gft_model.specs.AbstractParts.{IsAbstractPart}
use Rattle.gft_model.specs.Import.{HasPart, of_its_source, of_portable, HasLanguage, of_module, GivesPart, abstract_part, with_language, IsView, AreTypings}
use Rattle.gft_model.specs.Loading.{Loading, base_of, loaded, LoadsNamed, nothing_loaded}
use Rattle.gft_model.specs.Modules.{is_abstract, module_named}
use Rattle.gft_model.specs.Sessions.{Gives, source, portable}
use Rattle.gft_model.specs.States.{Loaded, of_file, of_source}
use Rattle.gft_model.proofs.AbstractLaws.{abstract_once}
use Rattle.gft_model.proofs.FlatLaws.{flat_once, typings_once}
use Rattle.gft_model.proofs.LoadingLaws.{endings_apart, named_once}
use Rattle.gft_model.proofs.NoFlaw.{reads_once}

-- what is loaded
loaded_once : {files : Files} {names : List (List ℕ)} {s t : Loading} → LoadsNamed files nothing_loaded names (loaded s)
    → LoadsNamed files nothing_loaded names (loaded t) → s ≡ t
loaded_once x y = let h = named_once x y in cc

-- the abstract syntax and the language of a source
has_part_once : {files : Files} {mods : List Module} {file : List ℕ} {a b : AbstractSyntax} → EndsIn source_ending file
    → HasPart files mods file a → HasPart files mods file b → a ≡ b
has_part_once {mods = mods} {a = a} {b = b} ends (of_its_source {m} {flat} e v p) (of_its_source {m = k} {flat = view} f w q) =
    let same : m ≡ k = cc in
    let flats = flat_once mods _ flat view v (subst (λ n. IsView mods n view) (sym same) w) in
    abstract_once a b p (subst (λ g. IsAbstractPart g b) (sym flats) q)
has_part_once ends (of_its_source e v p) (of_portable j k l) = absurd (endings_apart ends j)
has_part_once ends (of_portable i j k) y = absurd (endings_apart ends i)

language_once : {mods : List Module} {file L M : List ℕ} {f g : Flat} → HasLanguage mods file L f
    → HasLanguage mods file M g → (L ≡ M) × (f ≡ g)
language_once {mods = mods} (of_module {m} {n} {flat = flat} {typings = ts} e h v t) (of_module {m = k} {n = o} {flat = other}
    {typings = us} f i w u) =
    let same : m ≡ k = cc in
    let header = ap (λ (l : Module). l.header) same in
    let names : n ≡ o = cc in
    let flats = flat_once mods _ flat other v (subst (λ l. IsView mods l other) (sym same) w) in
    let typings = typings_once flat ts us t (subst (λ x. AreTypings x us) (sym flats) u) in
    (ap (λ p. p.name) names, λ j. record (flats j) { typed = typings j })

no_language : {mods : List Module} {file L : List ℕ} {m : Module} {f : Flat}
    → module_named mods (base_of file) ≡ Some m → is_abstract m.header ≡ true → HasLanguage mods file L f → ⊥
no_language {m = m} e h (of_module {m = k} {n} {a} f i v t) =
    let same : m ≡ k = cc in
    let wrong : true ≡ false = sym h ∙ ap (λ (l : Module). is_abstract l.header) same ∙ ap is_abstract i in cc

source_part_once : {files : Files} {names : List (List ℕ)} {name : List ℕ} {p q : Loaded} → EndsIn source_ending name
    → GivesPart files names name p → GivesPart files names name q → p ≡ q
source_part_once {files} {name = name} ends (abstract_part l e h p) (abstract_part {a = b} k f i q) =
    let same = loaded_once l k in
    let part = has_part_once ends p (subst (λ s. HasPart files s.modules name b) (sym same) q) in
    λ j. record { abs = part j; languages = [] }
source_part_once {name = name} ends (abstract_part {m = m} l e h p) (with_language k w q) =
    let same = loaded_once l k in
    absurd (no_language (subst (λ s. module_named s.modules (base_of name) ≡ Some m) same e) h w)
source_part_once {name = name} ends (with_language l v p) (abstract_part {m = m} k f i q) =
    let same = loaded_once k l in
    absurd (no_language (subst (λ s. module_named s.modules (base_of name) ≡ Some m) same f) i v)
source_part_once {files} {name = name} ends (with_language {a = a} l v p) (with_language {lang = lang} {flat = flat} {a = b} k
    w q) =
    let same = sym (loaded_once l k) in
    let part : a ≡ b = has_part_once ends p (subst (λ s. HasPart files s.modules name b) same q) in
    let language = language_once v (subst (λ s. HasLanguage s.modules name lang flat) same w) in
    λ j. record { abs = part j; languages = (language.0 j, of_source (language.1 j)) ∷ [] }

pub part_once : {files : Files} {names : List (List ℕ)} {name : List ℕ} {p q : Loaded} → Gives files names name p
    → Gives files names name q → p ≡ q
part_once (source e x) (source f y) = source_part_once e x y
part_once (source e x) (portable h f c y) = absurd (endings_apart e f)
part_once (portable g e b x) (source f y) = absurd (endings_apart f e)
part_once (portable {bytes} g e b x) (portable {bytes = others} h f c y) =
    let same : bytes ≡ others = cc in
    let both = reads_once g.abs h.abs g.concretes h.concretes x.grammar.fits y.grammar.fits
    (x.bytes_are ∙ same ∙ sym y.bytes_are) in
    λ i. record { abs = both.0 i; languages = map (λ (l : Concrete). (l.name, of_file l)) (both.1 i) }
