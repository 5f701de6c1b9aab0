use Rattle.std.proofs.Common.{◌≡◌, ◌++◌, codes, string_bytes, take}
use Rattle.std.specs.List.{flat_map}
use Rattle.gft_rules.proofs.refusal.push_more.Given as goal

abbrev pub invariant-loop-name : goal.invariant-loop-name
invariant-loop-name l =
    string_bytes l.line ≡ string_bytes l.initial.line ++ flat_map (λ n. codes ", " ++ n) (take l.name-index l.names)
