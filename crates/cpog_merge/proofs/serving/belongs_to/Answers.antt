use Rattle.std.proofs.Common.{sym}
use Rattle.cpog_merge.proofs.ClassLemmas.{belongs_class}
use Rattle.cpog_merge.proofs.serving.belongs_to.Goals as goal

pub returns : goal.returns
returns c =
    belongs_class c.args.classes.now c.args.column.now c.index-classes-number.result c.first_serving-number.result c.serves.result
    (sym c.if-not-has_one.ensures) (sym c.if-not-has_zero.ensures) c.requires.served c.first_serving-number.ensures c.index-classes-number.is c.serves.ensures
