use Rattle.std.proofs.Common.{◌≡◌, ◌<◌, ℕ, ◌&&◌, ◌||◌, drop}
use Rattle.std.specs.List.{list_all, list_any}
use Rattle.cpog_defs.specs.Codes.{bit}
use Rattle.pg_algebra.specs.Conditions.{value, valuation}
use Rattle.pg_algebra.proofs.KnownLemmas.{knows}
use Rattle.pg_algebra.proofs.tabling.+table.Given as goal

abbrev pub invariant-table_of_all-every : goal.invariant-table_of_all-every
invariant-table_of_all-every l = record {
  known : list_all (knows l.params) (drop l.member-index l.members) ≡ list_all (knows l.params) l.members;
  table : (n : ℕ) → n < 64 → (bit l.all.0 n && list_all (value (valuation l.params n)) (drop l.member-index l.members)) ≡ list_all (value (valuation l.params n)) l.members;
}

abbrev pub invariant-table_of_any-some : goal.invariant-table_of_any-some
invariant-table_of_any-some l = record {
  known : list_all (knows l.params) (drop l.member-index l.members) ≡ list_all (knows l.params) l.members;
  table : (n : ℕ) → n < 64 → (bit l.any.0 n || list_any (value (valuation l.params n)) (drop l.member-index l.members)) ≡ list_any (value (valuation l.params n)) l.members;
}
