use Rattle.std.proofs.Common.{◌≡◌}
use Rattle.scenario_check.specs.Rows.{turns}
use Rattle.scenario_check.proofs.rows.close.Given as goal

abbrev pub invariant-loop-k : goal.invariant-loop-k
invariant-loop-k l = l.rows ≡ turns l.k l.initial.rows
