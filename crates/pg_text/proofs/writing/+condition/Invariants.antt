use Rattle.std.specs.Prelude.{◌≡◌, ◌++◌, map, take}
use Rattle.pg_text.specs.Writing.{cond_text, row_text}
use Rattle.pg_text.proofs.writing.+condition.Given as goal

abbrev pub invariant-put_conditions-conditions : goal.invariant-put_conditions-conditions
invariant-put_conditions-conditions l = l.out.items ≡ l.initial.out.items ++ row_text l.sign (map (cond_text l.position) (take l.i l.conditions))
