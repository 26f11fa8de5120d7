use Rattle.std.proofs.Common.{ℕ, List}
use Rattle.cnf_build.specs.Evidence.{evidence_of, HasWrittenEvidence}
use Rattle.opcode_assign.specs.Searches.{IsShownBy, Raises}
use Rattle.opcode_assign.proofs.raising.raise.Given as goal

abbrev pub invariant-loop-gates : goal.invariant-loop-gates
invariant-loop-gates l = record {
  raises : Raises l.given l.bits l.classes.columns l.lo (evidence_of l.initial.evidence) l.gates (evidence_of l.evidence);
  shown : (taken : List ℕ) → IsShownBy l.classes l.given l.bits l.budget taken l.lo (evidence_of l.initial.evidence) → IsShownBy l.classes l.given l.bits l.budget taken l.gates (evidence_of l.evidence);
  written : HasWrittenEvidence (evidence_of l.initial.evidence) → HasWrittenEvidence (evidence_of l.evidence);
}
