use Rattle.cpog_defs.specs.declared.types.Place.TheVariants.{Arc}
use Rattle.report_judge.proofs.fitting.is_kept.Goals as goal

pub value_of-requires : goal.value_of-requires
value_of-requires c = rw c.arc.ensures (c.requires.graph.over (Arc c.args.u c.args.v) (c.requires.first, c.requires.second, c.if-u-v.true))
