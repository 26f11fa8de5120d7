use Rattle.handshake_eqs.proofs.NetlistLemmas.{agrees_over_runs}
use Rattle.handshake_eqs.proofs.laws.netlist_agrees_over_runs.Goals as goal

pub returns : goal.returns
returns c = agrees_over_runs
