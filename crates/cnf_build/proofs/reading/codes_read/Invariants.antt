use Rattle.std.proofs.Common.{◌≡◌}
use Rattle.gate_template.proofs.DecodeLemmas.{code}
use Rattle.gate_template.specs.Listed.{listed}
use Rattle.cnf_build.specs.Decoded.{value_in}
use Rattle.cnf_build.proofs.reading.codes_read.Given as goal

abbrev pub invariant-loop-s : goal.invariant-loop-s
invariant-loop-s l = l.codes.items ≡ listed (code (value_in l.assignment l.numbers) l.numbers) l.s
