use Rattle.std.proofs.Common.{◌<◌, None, length, slice_index_or, subst, sym, arith, ◌∙◌}
use Rattle.cpog_defs.specs.Gates.{signal_count}
use Rattle.handshake_eqs.specs.Netlists.{Netlist, IsWireOver}
use Rattle.module_reader.proofs.AssemblyLaws.{wire_step, row_done, row_start, wire_later, own_wire}
use Rattle.module_reader.proofs.assembly.put_wires_from.Goals as goal

pub loop-v-init : goal.loop-v-init
loop-v-init c = row_start c.args.netlist.now c.args.u

pub put_wire-requires-clause-first : goal.put_wire-requires-clause-first
put_wire-requires-clause-first c = subst (λ (k : Netlist). c.args.u < length k.conditions) (sym c.loop-v.invariant) c.requires.first

pub put_wire-requires-clause-second : goal.put_wire-requires-clause-second
put_wire-requires-clause-second c = subst (λ (k : Netlist). c.loop-v.v < length k.conditions) (sym c.loop-v.invariant) (omega (arith, c.loop-v-test.true, c.requires.long))

pub put_wire-requires-clause-own : goal.put_wire-requires-clause-own
put_wire-requires-clause-own c = λ there e. own_wire c.args.u c.loop-v.v c.args.row.now c.requires.own there e

pub put_wire-requires-clause-over : goal.put_wire-requires-clause-over
put_wire-requires-clause-over c = subst (λ (k : Netlist). IsWireOver (signal_count k.gates) (slice_index_or c.args.row.now c.loop-v.v None)) (sym c.loop-v.invariant) (c.requires.over c.loop-v.v)

pub put_wire-requires-clause-undeclared : goal.put_wire-requires-clause-undeclared
put_wire-requires-clause-undeclared c = wire_later c.args.netlist.now c.loop-v.netlist c.args.u c.loop-v.v c.args.row.now c.loop-v.invariant (omega (arith, c.requires.first, c.requires.rows)) (c.requires.long ∙ sym c.requires.columns) (c.requires.undeclared c.loop-v.v)

pub loop-v-preserved : goal.loop-v-preserved
loop-v-preserved c = c.in_ok-put_wire.ensures ∙ wire_step c.args.netlist.now c.loop-v.netlist c.args.u c.loop-v.v c.args.row.now c.loop-v.invariant (omega (arith, c.requires.first, c.requires.rows)) (omega (arith, c.loop-v-test.true)) (c.requires.long ∙ sym c.requires.columns)

pub returns : goal.returns
returns c = row_done c.args.netlist.now c.loop-v.netlist c.args.u c.loop-v.v c.args.row.now c.loop-v.invariant (omega (arith, c.loop-v-test.false, c.loop-v.auto.v-end)) (c.requires.long ∙ sym c.requires.columns)
