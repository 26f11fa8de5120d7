use Rattle.std.proofs.Common.{rules}
use Rattle.graph_answers.proofs.refusing.refuse_names.Goals as goal
use Rattle.graph_answers.proofs.refusing.refuse_names.Goals.{in-Duplicate, in-UnknownGraph, in-UnknownParam}

pub returns : goal.returns
returns c = elim c.match-fault.branch [
  | in-Duplicate w ↦ search rules
  | in-UnknownGraph w ↦ search rules
  | in-UnknownParam w ↦ search rules
]
