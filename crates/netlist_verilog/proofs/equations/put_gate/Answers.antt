use Rattle.std.proofs.Common.{ap, ◌<◌, length, arith, subst, sym, List}
use Rattle.cpog_defs.specs.declared.types.Gate.{Gate}
use Rattle.cpog_defs.specs.Gates.{GateList, AreGatesFrom}
use Rattle.handshake_eqs.specs.Netlists.{Netlist}
use Rattle.netlist_verilog.proofs.WritingLemmas.{table_small}
use Rattle.netlist_verilog.proofs.equations.put_gate.Goals as goal

pub put_function-requires : goal.put_function-requires
put_function-requires c =
    let same = c.gates-gates.ensures.gates in
    let lt : c.args.g < length c.gates.result.now.gates =
    omega (
      arith,
      c.requires,
      ap (λ (l : GateList). length l.gates) c.gates.ensures.gates,
      ap (λ (n : Netlist). length n.gates.gates) c.netlist-2.ensures,
    ) in
    let lt' : c.args.g < length c.gates-gates.result.now = omega (arith, lt, ap (λ (gs : List Gate). length gs) same) in
    table_small c.gates-gates.result.now c.gates.result.now.inputs c.args.g _ (subst (λ gs. AreGatesFrom c.gates.result.now.inputs gs) (sym same) c.gates-gates.ensures.earlier) lt'
