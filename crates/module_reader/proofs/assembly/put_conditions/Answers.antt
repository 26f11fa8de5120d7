use Rattle.std.proofs.Common.{◌<◌, false, length, subst, sym, arith, ◌∙◌}
use Rattle.cpog_defs.specs.declared.types.Ref.TheVariants.{Const}
use Rattle.handshake_eqs.specs.Netlists.{Netlist}
use Rattle.module_reader.proofs.AssemblyLaws.{mixed_length, condition_step, conditions_done, over_kept}
use Rattle.module_reader.proofs.assembly.put_conditions.Goals as goal

pub set_condition-requires-clause-below : goal.set_condition-requires-clause-below
set_condition-requires-clause-below c =
    subst (λ (k : Netlist). c.loop-v.v < length k.conditions) (sym c.loop-v.invariant) (omega (arith, mixed_length c.loop-v.v c.args.conditions.now c.args.netlist.now.conditions, c.loop-v-test.true, c.requires.long))

pub set_condition-requires-clause-over : goal.set_condition-requires-clause-over
set_condition-requires-clause-over c = over_kept c.args.netlist.now c.loop-v.netlist c.loop-v.v c.args.conditions.now _ (Const false) c.loop-v.invariant (omega (arith, c.loop-v-test.true)) (c.requires.over c.loop-v.v)

pub loop-v-preserved : goal.loop-v-preserved
loop-v-preserved c = c.set_condition.ensures ∙ condition_step c.args.netlist.now c.loop-v.netlist c.loop-v.v c.args.conditions.now _ c.loop-v.invariant (omega (arith, c.loop-v-test.true)) c.requires.long

pub returns : goal.returns
returns c = conditions_done c.args.netlist.now c.loop-v.netlist c.loop-v.v c.args.conditions.now c.loop-v.invariant (omega (arith, c.loop-v-test.false, c.loop-v.auto.v-end)) c.requires.long
