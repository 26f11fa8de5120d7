use Rattle.pg_normal.proofs.MakingLemmas.{form_same, if_ok_map}
use Rattle.pg_normal.proofs.making.form_of.Goals as goal

pub returns : goal.returns
returns c = if_ok_map c.form_of_tables.result _ _ (λ f is. form_same _ _ _ _ f (λ n h. c.in_ok-tables.ensures.graph n h) c.in_ok-tables.ensures.order is) c.form_of_tables.ensures
