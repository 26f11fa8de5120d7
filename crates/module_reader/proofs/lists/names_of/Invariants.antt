use Rattle.std.proofs.Common.{◌≡◌, ◌≤◌, ◌-◌, [], length}
use Rattle.module_reader.specs.Lists.{names_run}
use Rattle.module_reader.proofs.lists.names_of.Given as goal

abbrev pub invariant-loop-index : goal.invariant-loop-index
invariant-loop-index l = (length l.names ≤ l.index) × (names_run (128 - l.index) l.names l.rest ≡ names_run 128 [] l.text)
