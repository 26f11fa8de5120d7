use Rattle.std.proofs.Common.{rules}
use Rattle.refusal_lines.proofs.refusal.refusal_line.Goals as goal
use Rattle.refusal_lines.proofs.refusal.refusal_line.Goals.{in-Usage+in_ok-line-in-Usage, in-ReadFault+in_ok-line-in-ReadFault, in-Text+in_ok-line-in-Text, in-Duplicate+in_ok-line-in-Duplicate, in-UnknownGraph+in_ok-line-in-UnknownGraph, in-UnknownParam+in_ok-line-in-UnknownParam, in-Unbound+in_ok-line-in-Unbound, in-NoScenario+in_ok-line-in-NoScenario, in-Cyclic+in_ok-line-in-Cyclic, in-Equal+in_ok-line-in-Equal, in-Limit+in_ok-line-in-Limit, in-NoLine+in_ok-line-in-NoLine, in-NoEmptyClause+in_ok-line-in-NoEmptyClause, in-NoCyclic+in_ok-line-in-NoCyclic, in-NoEqual+in_ok-line-in-NoEqual, in-NoCodes+in_ok-line-in-NoCodes, in-NoGiven+in_ok-line-in-NoGiven, in-NoOperation+in_ok-line-in-NoOperation, in-NoOrder+in_ok-line-in-NoOrder, in-NoNetlist+in_ok-line-in-NoNetlist, in-NoCount+in_ok-line-in-NoCount, in-NoEvidence+in_ok-line-in-NoEvidence, in-NoEvidenceCondition+in_ok-line-in-NoEvidenceCondition, in-NoRefutationLine+in_ok-line-in-NoRefutationLine, in-NoRefutationEmpty+in_ok-line-in-NoRefutationEmpty, in-NoOpen+in_ok-line-in-NoOpen, in-NoOpenLine+in_ok-line-in-NoOpenLine, in-NoOpenShort+in_ok-line-in-NoOpenShort}

pub returns : goal.returns
returns c = elim c.match-refusal.branch [
  | in-Usage+in_ok-line-in-Usage w ↦ search rules
  | in-ReadFault+in_ok-line-in-ReadFault w ↦ search rules
  | in-Text+in_ok-line-in-Text w ↦ search rules
  | in-Duplicate+in_ok-line-in-Duplicate w ↦ search rules
  | in-UnknownGraph+in_ok-line-in-UnknownGraph w ↦ search rules
  | in-UnknownParam+in_ok-line-in-UnknownParam w ↦ search rules
  | in-Unbound+in_ok-line-in-Unbound w ↦ search rules
  | in-NoScenario+in_ok-line-in-NoScenario w ↦ search rules
  | in-Cyclic+in_ok-line-in-Cyclic w ↦ search rules
  | in-Equal+in_ok-line-in-Equal w ↦ search rules
  | in-Limit+in_ok-line-in-Limit w ↦ search rules
  | in-NoLine+in_ok-line-in-NoLine w ↦ search rules
  | in-NoEmptyClause+in_ok-line-in-NoEmptyClause w ↦ search rules
  | in-NoCyclic+in_ok-line-in-NoCyclic w ↦ search rules
  | in-NoEqual+in_ok-line-in-NoEqual w ↦ search rules
  | in-NoCodes+in_ok-line-in-NoCodes w ↦ search rules
  | in-NoGiven+in_ok-line-in-NoGiven w ↦ search rules
  | in-NoOperation+in_ok-line-in-NoOperation w ↦ search rules
  | in-NoOrder+in_ok-line-in-NoOrder w ↦ search rules
  | in-NoNetlist+in_ok-line-in-NoNetlist w ↦ search rules
  | in-NoCount+in_ok-line-in-NoCount w ↦ search rules
  | in-NoEvidence+in_ok-line-in-NoEvidence w ↦ search rules
  | in-NoEvidenceCondition+in_ok-line-in-NoEvidenceCondition w ↦ search rules
  | in-NoRefutationLine+in_ok-line-in-NoRefutationLine w ↦ search rules
  | in-NoRefutationEmpty+in_ok-line-in-NoRefutationEmpty w ↦ search rules
  | in-NoOpen+in_ok-line-in-NoOpen w ↦ search rules
  | in-NoOpenLine+in_ok-line-in-NoOpenLine w ↦ search rules
  | in-NoOpenShort+in_ok-line-in-NoOpenShort w ↦ search rules
]
