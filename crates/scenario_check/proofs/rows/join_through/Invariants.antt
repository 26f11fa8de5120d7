use Rattle.std.proofs.Common.{◌≡◌, ◌++◌, map, take, drop}
use Rattle.scenario_check.specs.Rows.{joined_row}
use Rattle.scenario_check.proofs.rows.join_through.Given as goal

abbrev pub invariant-loop-row : goal.invariant-loop-row
invariant-loop-row l = l.rows ≡ map (joined_row l.k.0 l.through) (take l.row-index l.initial.rows) ++ drop l.row-index l.initial.rows
