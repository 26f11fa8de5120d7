use Rattle.cnf_build.proofs.NumberedLemmas.{x_is}
use Rattle.cnf_build.proofs.numbers.Numbers.x.Goals as goal

pub returns : goal.returns
returns c =
    let n = c.self.inside in
    x_is n.shape c.args.self.now c.self.view_is n.d n.sel n.t n.v n.o n.p c.self.invariant c.args.s c.args.i c.from_var.result c.requires.scenario c.requires.bit c.from_var.ensures
