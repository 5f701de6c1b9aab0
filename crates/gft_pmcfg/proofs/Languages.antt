-- The concrete syntax of a language.
use Rattle.std.proofs.Common.{◌≡◌, ◌<◌, ℕ, true, List, length, get_or, refl, sym, subst}
use Rattle.std.proofs.lemmas.List.Sums.{AllPass-from_list_all}
use Rattle.std.proofs.lemmas.Option.{slice_get_read}
use Rattle.std.proofs.lemmas.Bool.{and_parts}
use Rattle.gft_pmcfg.specs.declared.signature.Abstract.{Abstract}
use Rattle.gft_pmcfg.specs.declared.concrete.Concrete.{Concrete}
use Rattle.gft_pmcfg.specs.Nonterminals.{infos_at}
use Rattle.gft_pmcfg.specs.Ranges.{is_in_range, is_concrete, are_infos}

-- each concrete syntax of a grammar is one of its abstract syntax
pub concrete_fits : (a : Abstract) (cs : List Concrete) (lang : ℕ) (c : Concrete)
    → is_in_range a cs ≡ true → lang < length cs → c ≡ get_or cs lang c → is_concrete a c ≡ true
concrete_fits a cs lang c h b e =
    let P : Concrete → Type 0 = λ x. is_concrete a x ≡ true in
    subst P (sym e) (AllPass-from_list_all (is_concrete a) cs (and_parts _ _ h).1 lang c b)

pub infos_fit : (a : Abstract) (cs : List Concrete) (lang : ℕ) (c : Concrete) → is_in_range a cs ≡ true
    → lang < length cs → c ≡ get_or cs lang c → are_infos 0 c.infos ≡ true
infos_fit a cs lang c h b e =
    (and_parts _ _ (and_parts _ _ (and_parts _ _ (and_parts _ _ (and_parts _ _
    (concrete_fits a cs lang c h b e)).0).0).0).0).1

pub infos_at-is : (cs : List Concrete) (lang : ℕ) (c : Concrete) → lang < length cs
    → c ≡ get_or cs lang c → infos_at cs lang ≡ c.infos
infos_at-is cs lang c b e = rw (slice_get_read cs (length cs) lang c refl b e) refl
