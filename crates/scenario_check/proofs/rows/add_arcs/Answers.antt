use Rattle.std.proofs.Common.{arith, refl}
use Rattle.cpog_defs.specs.declared.types.OpId.{OpId}
use Rattle.scenario_check.proofs.RowLemmas.{has-more}
use Rattle.scenario_check.proofs.rows.add_arcs.Goals as goal

pub loop-u-preserved : goal.loop-u-preserved
loop-u-preserved c =
    let zero_arc : OpId × OpId = (record { 0 = 0 }, record { 0 = 0 }) in
    let ends = c.requires.ends c.loop-u.u-index zero_arc c.loop-u-test.true in
    rw c.add_arc.ensures (has-more c.args.rows.now c.loop-u.rows c.args.arcs.now c.loop-u.u-index _ zero_arc c.loop-u-test.true refl (omega (arith, ends.1)) c.loop-u.invariant)
