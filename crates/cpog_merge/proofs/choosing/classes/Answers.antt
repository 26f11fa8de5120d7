use Rattle.std.proofs.Common.{arith}
use Rattle.std.proofs.lemmas.List.{length-map}
use Rattle.cpog_merge.specs.Columns.{column_at}
use Rattle.cpog_merge.proofs.ClassLemmas.{have_classes}
use Rattle.cpog_merge.proofs.ListedLemmas.{all_places, is_list, are_classes, open_class_columns}
use Rattle.cpog_merge.proofs.AgreeLemmas.{graph_by_class_lem}
use Rattle.cpog_merge.proofs.choosing.classes.Goals as goal

pub columns_of-requires : goal.columns_of-requires
columns_of-requires c = rw c.deref.ensures.value (all_places c.args.columns.now c.in_ok-places.places.items c.in_ok-places.ensures.places)

pub operations_belong-requires-clause-few : goal.operations_belong-requires-clause-few
operations_belong-requires-clause-few c = rw (c.deref-2.ensures.value, c.in_ok-class_columns.ensures, c.deref.ensures.value) (omega (arith, length-map c.in_ok-places.places.items (column_at c.args.columns.now), c.in_ok-places.ensures.few))

pub operations_belong-requires-clause-served : goal.operations_belong-requires-clause-served
operations_belong-requires-clause-served c = rw (c.deref-2.ensures.value, c.in_ok-class_columns.ensures, c.deref.ensures.value) (have_classes c.args.columns.now c.count-count.ensures.columns c.in_ok-places.places.items c.in_ok-places.ensures.places)

pub pairs_belong-requires-clause-few : goal.pairs_belong-requires-clause-few
pairs_belong-requires-clause-few c = rw (c.deref-3.ensures.value, c.in_ok-class_columns.ensures, c.deref.ensures.value) (omega (arith, length-map c.in_ok-places.places.items (column_at c.args.columns.now), c.in_ok-places.ensures.few))

pub pairs_belong-requires-clause-served : goal.pairs_belong-requires-clause-served
pairs_belong-requires-clause-served c = rw (c.deref-3.ensures.value, c.in_ok-class_columns.ensures, c.deref.ensures.value) (have_classes c.args.columns.now c.count-count.ensures.columns c.in_ok-places.places.items c.in_ok-places.ensures.places)

pub from_vecs-requires : goal.from_vecs-requires
from_vecs-requires c =
    rw (c.count-count.ensures.count, c.in_ok-ops.ensures, c.in_ok-arcs.ensures, c.deref-2.ensures.value, c.deref-3.ensures.value, c.in_ok-class_columns.ensures, c.deref.ensures.value)
    (is_list c.args.columns.now c.count-count.ensures.columns c.in_ok-places.places.items c.in_ok-places.ensures.places c.in_ok-places.ensures.few)

pub returns-clause-classes : goal.returns-clause-classes
returns-clause-classes c =
    rw (c.from_vecs.ensures, c.count-count.ensures.count, c.in_ok-ops.ensures, c.in_ok-arcs.ensures, c.deref-2.ensures.value, c.deref-3.ensures.value, c.in_ok-class_columns.ensures, c.deref.ensures.value)
    (are_classes c.args.columns.now c.count-count.ensures.columns c.in_ok-places.places.items c.in_ok-places.ensures.places)

pub returns-clause-open_columns : goal.returns-clause-open_columns
returns-clause-open_columns c = open_class_columns c.args.columns.now _ c.count-count.ensures.columns (returns-clause-classes c)

pub returns-clause-graphs : goal.returns-clause-graphs
returns-clause-graphs c = λ e refs. graph_by_class_lem e c.args.columns.now _ refs (returns-clause-classes c)
