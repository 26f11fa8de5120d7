use Rattle.std.proofs.Common.{◌≡◌, None, replicate, sym, ap, subst, ◌∙◌, arith}
use Rattle.handshake_eqs.specs.Netlists.{IsNetlist}
use Rattle.handshake_eqs.proofs.PartLemmas.{netlist-zero, same_netlist}
use Rattle.handshake_eqs.proofs.netlist.Netlist.new.Goals as goal

pub invariant_of-result : goal.invariant_of-result
invariant_of-result c =
    let all : c.loop-u._u ≡ c.args.count = omega (arith, c.loop-u.auto, c.loop-u-test.false) in
    let wires = c.loop-u.invariant ∙ ap (λ n. replicate n (replicate c.args.count None)) all in
    subst IsNetlist (sym (same_netlist c.in_ok-conditions.ensures wires c.in_ok-waits.ensures)) (netlist-zero c.args.gates c.args.count c.requires)

pub returns : goal.returns
returns c =
    let all : c.loop-u._u ≡ c.args.count = omega (arith, c.loop-u.auto, c.loop-u-test.false) in
    same_netlist c.in_ok-conditions.ensures (c.loop-u.invariant ∙ ap (λ n. replicate n (replicate c.args.count None)) all) c.in_ok-waits.ensures
