use Rattle.std.proofs.Common.{◌≡◌, ◌++◌, take, map}
use Rattle.std.specs.Prelude.{string_bytes}
use Rattle.gft_tree.specs.Trees.{as_arguments, printed}
use Rattle.gft_tree.proofs.writing.+push.Given as goal

-- the arguments so far are written
abbrev pub invariant-push_arguments-each : goal.invariant-push_arguments-each
invariant-push_arguments-each l = string_bytes l.out ≡ string_bytes l.initial.out ++ as_arguments (map printed (take l.tree-index l.trees))
