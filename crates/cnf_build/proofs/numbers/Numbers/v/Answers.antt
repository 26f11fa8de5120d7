use Rattle.cnf_build.proofs.NumberedLemmas.{v_is}
use Rattle.cnf_build.proofs.numbers.Numbers.v.Goals as goal

pub returns : goal.returns
returns c =
    let n = c.self.inside in
    v_is n.shape c.args.self.now c.self.view_is n.d n.sel n.t n.v n.o n.p c.self.invariant c.args.g c.args.s c.from_var.result c.requires.gate c.requires.scenario c.from_var.ensures
