use Rattle.std.proofs.Common.{◌≡◌}
use Rattle.cpog_defs.specs.Gates.{signal_values}
use Rattle.gate_template.specs.Values.{code_of}
use Rattle.gate_template.specs.Listed.{listed}
use Rattle.cnf_build.proofs.rows.signal_rows.Given as goal

abbrev pub invariant-loop-s : goal.invariant-loop-s
invariant-loop-s l = l.rows.items ≡ listed (λ s. signal_values l.fn.whole.gates (code_of l.fn.whole s)) l.s
