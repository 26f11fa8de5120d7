use Rattle.std.proofs.Common.{sym, subst, arith}
use Rattle.cpog_defs.specs.declared.types.Place.TheVariants.{Op}
use Rattle.cpog_merge.specs.Opens.{HasClass}
use Rattle.cpog_merge.proofs.choosing.operations_belong.Goals as goal

pub belongs_to-requires-clause-served : goal.belongs_to-requires-clause-served
belongs_to-requires-clause-served c =
    subst (HasClass c.args.classes.now) (sym c.op.ensures) (c.requires.served.each (Op (record { 0 = c.loop-v.v })) (omega (arith, c.count-v-end.ensures.count)))
