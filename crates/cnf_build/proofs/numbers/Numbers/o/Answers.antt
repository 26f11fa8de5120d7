use Rattle.cnf_build.proofs.NumberedLemmas.{o_is}
use Rattle.cnf_build.proofs.numbers.Numbers.o.Goals as goal

pub returns : goal.returns
returns c =
    let n = c.self.inside in
    o_is n.shape c.args.self.now c.self.view_is n.d n.sel n.t n.v n.o n.p c.self.invariant c.args.c c.args.n c.from_var.result c.requires.class c.requires.signal c.from_var.ensures
