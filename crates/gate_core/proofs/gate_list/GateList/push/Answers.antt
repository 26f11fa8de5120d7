use Rattle.std.proofs.Common.{◌≡◌, ◌+◌, [], ◌∷◌, length, length-append, sym, ap, subst, arith}
use Rattle.cpog_defs.specs.Gates.{AreGatesFrom, signal_count}
use Rattle.gate_core.proofs.GateLemmas.{one_more_gate}
use Rattle.gate_core.proofs.gate_list.GateList.push.Goals as goal

pub invariant_of-self-2 : goal.invariant_of-self-2
invariant_of-self-2 c =
    let same = ap signal_count c.self.view_is in
    let gates = c.self.inside.gates in
    let long : length c.push.new.self ≡ length gates + 1 = rw c.in_ok-push.ensures.ok (length-append gates (c.args.gate ∷ [])) in (
      c.self.invariant.0,
      c.self.invariant.1,
      omega (arith, same, long, c.requires.room),
      subst (AreGatesFrom c.self.inside.inputs) (sym c.in_ok-push.ensures.ok)
          (one_more_gate c.self.inside.inputs gates c.args.gate c.self.invariant.3 c.requires.lower
          (omega (arith, same, c.requires.earlier)) c.requires.table),
    )
