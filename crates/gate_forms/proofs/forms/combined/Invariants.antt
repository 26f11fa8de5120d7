use Rattle.std.proofs.Common.{◌≡◌, take, map}
use Rattle.std.specs.Prelude.{bit_xor}
use Rattle.gate_forms.proofs.forms.combined.Given as goal

abbrev pub invariant-loop-code : goal.invariant-loop-code
invariant-loop-code l = l.list.items ≡ map (bit_xor l.mask) (take l.code-index l.codes)
