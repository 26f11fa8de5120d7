use Rattle.std.proofs.Common.{refl, arith}
use Rattle.cnf_build.proofs.EvidenceLemmas.{none_given, some_given}
use Rattle.cnf_build.proofs.size.template_for.Goals as goal

pub returns-then-all_given_entries-eq0 : goal.returns-then-all_given_entries-eq0
returns-then-all_given_entries-eq0 c = rw (none_given c.args.given.now (omega (arith, c.all_given_entries.ensures.count, c.if-all_given_entries-eq0.true))) refl

pub returns-else-all_given_entries-eq0 : goal.returns-else-all_given_entries-eq0
returns-else-all_given_entries-eq0 c = rw (some_given c.args.given.now (omega (arith, c.all_given_entries.ensures.count, c.if-all_given_entries-eq0.false))) refl
