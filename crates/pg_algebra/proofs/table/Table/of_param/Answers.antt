use Rattle.std.proofs.Common.{refl, arith, ◌≡◌}
use Rattle.pg_algebra.proofs.TableLemmas.{is_param}
use Rattle.pg_algebra.proofs.table.Table.of_param.Goals as goal

pub returns-in-0 : goal.returns-in-0
returns-in-0 c n h = let e : c.args.k ≡ 0 = omega arith in rw e (is_param 12297829382473034410 0 n refl h)

pub returns-in-1 : goal.returns-in-1
returns-in-1 c n h = let e : c.args.k ≡ 1 = omega arith in rw e (is_param 14757395258967641292 1 n refl h)

pub returns-in-2 : goal.returns-in-2
returns-in-2 c n h = let e : c.args.k ≡ 2 = omega arith in rw e (is_param 17361641481138401520 2 n refl h)

pub returns-in-3 : goal.returns-in-3
returns-in-3 c n h = let e : c.args.k ≡ 3 = omega arith in rw e (is_param 18374966859414961920 3 n refl h)

pub returns-in-4 : goal.returns-in-4
returns-in-4 c n h = let e : c.args.k ≡ 4 = omega arith in rw e (is_param 18446462603027742720 4 n refl h)

pub returns-in_default : goal.returns-in_default
returns-in_default c n h = let e : c.args.k ≡ 5 = omega arith in rw e (is_param 18446744069414584320 5 n refl h)
