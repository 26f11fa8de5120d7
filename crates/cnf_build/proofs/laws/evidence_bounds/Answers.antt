use Rattle.cnf_build.proofs.EvidenceLemmas.{evidence_bounds_lem}
use Rattle.cnf_build.proofs.laws.evidence_bounds.Goals as goal

pub returns : goal.returns
returns c = evidence_bounds_lem
