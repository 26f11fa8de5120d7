use Rattle.std.proofs.Common.{◌≡◌, length, ap, arith}
use Rattle.cpog_merge.proofs.TakenLemmas.{taken_below}
use Rattle.opcode_assign.proofs.CountingLemmas.{taken_few}
use Rattle.opcode_assign.proofs.counting.counted_bound.Goals as goal

pub places_of-requires : goal.places_of-requires
places_of-requires c =
    let same : c.deref.result.now ≡ c.in_ok-taken.taken.items = cc in
    taken_below c.args.classes.now.columns (length c.args.classes.now.columns) c.in_ok-taken.taken.items c.deref.result.now c.in_ok-taken.ensures same (omega arith)

pub overflow_cast-result : goal.overflow_cast-result
overflow_cast-result c =
    omega (arith, taken_few c.args.classes.now.columns (length c.args.classes.now.columns) c.in_ok-taken.taken.items c.in_ok-taken.ensures, c.len-2.ensures, c.deref.ensures.len, ap length c.deref.ensures.value, c.count-count.ensures.list.few, c.count-count.ensures.list.columns_each)
