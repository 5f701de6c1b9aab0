use Rattle.std.proofs.Common.{◌≡◌, ◌∙◌, ap, ℕ, List, Bool, Bor, position, rules, tests, bytes_eq}
use Rattle.std.proofs.lemmas.Iterator.{YieldsList-from_slice}
use Rattle.std.proofs.lemmas.Iterator.Search.{position_from_yields_List}
use Rattle.gft_rules.proofs.Places.{position-map}
use Rattle.gft_rules.proofs.table.Table.find.Goals as goal

pub returns : goal.returns
returns g c =
    let is_text : ℕ × List ℕ → Bool = λ r. bytes_eq r.1 c.args.text.now in
    let found : c.position.result ≡ position (λ (r : ℕ × Bor (List ℕ)). is_text
    (r.0, r.1.now)) c.self.inside.rows.now
    = position_from_yields_List (λ (r : ℕ × Bor
    (List ℕ)). bytes_eq r.1.now c.args.text.now) _ _ c.position.result c.position.ensures.ran
    (YieldsList-from_slice _ c.iter.ensures.rest) (λ x b q k. search (rules, tests)) in
    found ∙ position-map (λ (r : ℕ × Bor (List ℕ)). (r.0, r.1.now)) is_text _
    ∙ ap (λ (rows : List (ℕ × List ℕ)). position is_text rows) c.self.view_is
