use Rattle.std.proofs.Common.{◌≡◌, take}
use Rattle.gate_forms.specs.Forms.{new_gates, new_flags}
use Rattle.gate_forms.proofs.signs.push_gates_under.Given as goal

abbrev pub invariant-loop-g : goal.invariant-loop-g
invariant-loop-g l = record {
  list : l.list ≡ record l.gates { gates = new_gates l.form l.initial.flags.items (take l.g l.gates.gates) };
  flags : l.flags.items ≡ new_flags l.form l.initial.flags.items (take l.g l.gates.gates);
}
