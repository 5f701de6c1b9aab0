-- Files that are read, and their faults.
use Rattle.std.specs.Prelude.{◌∷◌, ◌≡◌, ℕ, List, [], ◌+◌, length}
use Rattle.std.proofs.Common.{inl, inr, refl, sym, ap, ◌∙◌, arith}
use Rattle.std.proofs.lemmas.List.{append-nil}
use Rattle.gft_rules.specs.declared.rule.Rule.{Rule}
use Rattle.gft_rules.specs.declared.rule.Rule.TheVariants.{TooLong}
use Rattle.gft_pmcfg.specs.declared.signature.Abstract.{Abstract}
use Rattle.gft_pmcfg.specs.declared.concrete.Concrete.{Concrete}
use Rattle.gft_pmcfg.specs.declared.grammar.Grammar.{Grammar}
use Rattle.gft_model.specs.Fields.{Fits, Outcome, got, fault, outcome, written}
use Rattle.gft_model.specs.FileForms.{file}
use Rattle.gft_model.specs.PortableFile.{file_bytes, Reads, HasFault, of_field, after_grammar}
use Rattle.gft_model.specs.Laws.{AreBytes, FaultOrFields}
use Rattle.gft_model.proofs.FieldLaws.{read_again}
use Rattle.gft_model.proofs.ReadBack.{read_back}
use Rattle.gft_model.proofs.SoundFile.{sound_file}

-- the fields of a file are read again, and nothing is left
pub fields_again : (a : Abstract) (cs : List Concrete) → Fits file (a, cs)
    → outcome file 0 (file_bytes a cs) ≡ got (a, cs) (length (file_bytes a cs)) []
fields_again a cs h =
    let count : 0 + length (file_bytes a cs) ≡ length (file_bytes a cs) = omega arith in
    ap (outcome file 0) (sym (append-nil (file_bytes a cs))) ∙ read_again file (a, cs) 0 [] h
    ∙ ap (λ n. got (a, cs) n []) count

-- the bytes of a grammar are at no fault
pub no_fault : {bytes : List ℕ} {g : Grammar} {rule : Rule} {at : ℕ} → Reads bytes g → HasFault bytes rule at → ⊥
no_fault {g} r (of_field e) =
    let again = fields_again g.abs g.concretes r.grammar.fits in
    let whole = ap (outcome file 0) r.bytes_are in cc
no_fault {g} r (after_grammar e) =
    let again = fields_again g.abs g.concretes r.grammar.fits in
    let whole = ap (outcome file 0) r.bytes_are in cc

-- bytes have at most one first fault
pub one_fault : {bytes : List ℕ} {first second : Rule} {i j : ℕ} → HasFault bytes first i → HasFault bytes second j
    → (first ≡ second) × (i ≡ j)
one_fault (of_field d) (of_field e) = (cc, cc)
one_fault (of_field d) (after_grammar e) = (cc, cc)
one_fault (after_grammar d) (of_field e) = (cc, cc)
one_fault (after_grammar d) (after_grammar e) = (cc, cc)

-- bytes are at a fault, or are those of fields that fit
pub fault_or_fields : (bytes : List ℕ) → AreBytes bytes → FaultOrFields bytes
fault_or_fields bytes h = here (outcome file 0 bytes) refl where
  here : (o : Outcome (Abstract × List Concrete)) → outcome file 0 bytes ≡ o → FaultOrFields bytes
  here (fault rule at) e = inl (rule, at, of_field e)
  here (got x at (b ∷ rest)) e = inl (TooLong, at, after_grammar e)
  here (got x at []) e =
      let back = read_back file sound_file 0 bytes h x at [] e in
      inr (x.0, x.1, back.fits, sym (back.are ∙ append-nil (written file x)))
