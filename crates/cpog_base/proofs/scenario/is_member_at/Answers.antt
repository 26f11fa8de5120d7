use Rattle.std.proofs.Common.{length, slice_index_or, ◌≤◌, ◌≡◌, arith, sym}
use Rattle.std.specs.FinSet as set
use Rattle.std.specs.Ordering.{nat_cmp}
use Rattle.std.proofs.lemmas.Bool.{le-ltb}
use Rattle.std.proofs.lemmas.List.{get_or_past}
use Rattle.cpog_base.proofs.scenario.is_member_at.Goals as goal

pub returns-else-at-rows : goal.returns-else-at-rows
returns-else-at-rows c =
    let past : length c.args.rows.now ≤ c.args.u.0 = omega arith in
    let none : slice_index_or c.args.rows.now c.args.u.0 set.empty ≡ set.empty = get_or_past c.args.rows.now c.args.u.0 set.empty past in
    rw (le-ltb c.from-at.result (length c.args.rows.now) (omega arith), none) (sym (set.contains-empty nat_cmp c.args.v.0))
