use Rattle.std.proofs.Common.{◌≡◌, take}
use Rattle.cpog_defs.specs.Codes.{word_bits}
use Rattle.gate_core.proofs.gate_list.write_bits.Given as goal

abbrev pub invariant-loop-i : goal.invariant-loop-i
invariant-loop-i l = take l.i l.out ≡ word_bits l.word l.i
