use Rattle.std.proofs.Common.{◌≡◌}
use Rattle.cpog_defs.specs.Codes.{word_bits}
use Rattle.gate_forms.proofs.forms.bits_of.Given as goal

abbrev pub invariant-loop-i : goal.invariant-loop-i
invariant-loop-i l = l.bits.items ≡ word_bits l.word l.i
