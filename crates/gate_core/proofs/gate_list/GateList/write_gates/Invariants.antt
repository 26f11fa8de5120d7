use Rattle.std.proofs.Common.{◌≡◌, ◌+◌, take}
use Rattle.cpog_defs.specs.Gates.{with_gates}
use Rattle.gate_core.proofs.gate_list.GateList.write_gates.Given as goal

abbrev pub invariant-loop-g : goal.invariant-loop-g
invariant-loop-g l = take (l.inputs + l.g) l.out ≡ with_gates (take l.g l.gate-items) (take l.inputs l.fn.out)
