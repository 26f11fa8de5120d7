use Rattle.cnf_build.proofs.NumberedLemmas.{t1_is}
use Rattle.cnf_build.proofs.numbers.Numbers.t1.Goals as goal

pub returns : goal.returns
returns c =
    let n = c.self.inside in
    t1_is n.shape c.args.self.now c.self.view_is n.d n.sel n.t n.v n.o n.p c.self.invariant c.args.g c.from_var.result c.requires c.from_var.ensures
