use Rattle.cnf_build.proofs.NumberedLemmas.{p_is}
use Rattle.cnf_build.proofs.numbers.Numbers.p.Goals as goal

pub returns : goal.returns
returns c =
    let n = c.self.inside in
    p_is n.shape c.args.self.now c.self.view_is n.d n.sel n.t n.v n.o n.p c.self.invariant c.args.c c.from_var.result c.requires c.from_var.ensures
