use Rattle.std.proofs.Common.{◌≡◌, ◌++◌, ◌-◌, length, replicate}
use Rattle.gate_forms.specs.Forms.{idle_gate}
use Rattle.gate_forms.proofs.forms.pad.Given as goal

abbrev pub invariant-loop-g : goal.invariant-loop-g
invariant-loop-g l = l.list ≡ record l.gates { gates = l.gates.gates ++ replicate (l.g - length l.gates.gates) idle_gate }
