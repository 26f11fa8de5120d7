use Rattle.cnf_build.proofs.NumberedLemmas.{d_is}
use Rattle.cnf_build.proofs.numbers.Numbers.d.Goals as goal

pub returns : goal.returns
returns c =
    let n = c.self.inside in
    d_is n.shape c.args.self.now c.self.view_is n.d n.sel n.t n.v n.o n.p c.self.invariant c.args.s c.args.t c.args.i c.from_var.result c.requires.lower c.requires.scenario c.requires.bit c.from_var.ensures
