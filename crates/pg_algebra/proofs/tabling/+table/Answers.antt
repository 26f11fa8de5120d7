use Rattle.std.specs.Prelude.{not, is_some}
use Rattle.std.specs.List.{list_all, list_any}
use Rattle.std.proofs.Common.{sym, ◌∙◌, ap}
use Rattle.cpog_base.specs.Names.{place_of}
use Rattle.pg_algebra.specs.Conditions.{value, valuation}
use Rattle.pg_algebra.proofs.KnownLemmas.{knows, knows-Param, knows-Not, knows-And, knows-Or, on_some}
use Rattle.pg_algebra.proofs.TreeLaws.{value-Not, value-And, value-Or}
use Rattle.pg_algebra.proofs.tabling.+table.Goals as goal

pub table_of-returns-in_err-place-in-Param-clause-known : goal.table_of-returns-in_err-place-in-Param-clause-known
table_of-returns-in_err-place-in-Param-clause-known t c = ap is_some c.from_residual.ensures ∙ sym (ap (knows c.args.params.now) c.in-Param.is
    ∙ knows-Param c.args.params.now c.in-Param.name
    ∙ ap is_some (ap (place_of c.args.params.now) (sym c.as_str.ensures) ∙ sym c.find.ensures ∙ c.in_err-place-in-Param.was))

pub table_of-returns-in_ok-place-in-Param-clause-known : goal.table_of-returns-in_ok-place-in-Param-clause-known
table_of-returns-in_ok-place-in-Param-clause-known t c = sym (ap (knows c.args.params.now) c.in-Param.is
    ∙ knows-Param c.args.params.now c.in-Param.name
    ∙ ap is_some (ap (place_of c.args.params.now) (sym c.as_str.ensures) ∙ sym c.find.ensures ∙ c.in_ok-place-in-Param.was))

pub table_of-returns-in_err-table-in-Not-clause-known : goal.table_of-returns-in_err-table-in-Not-clause-known
table_of-returns-in_err-table-in-Not-clause-known t c = rw (c.from_residual-in_err-table-in-Not.ensures, c.in-Not.is, knows-Not, sym c.get.ensures) c.in_err-table-in-Not.ensures.known

pub table_of-returns-in_ok-table-in-Not-clause-known : goal.table_of-returns-in_ok-table-in-Not-clause-known
table_of-returns-in_ok-table-in-Not-clause-known t c = rw (c.in-Not.is, knows-Not, sym c.get.ensures) c.in_ok-table-in-Not.ensures.known

pub table_of-returns-in_ok-table-in-Not-clause-table : goal.table_of-returns-in_ok-table-in-Not-clause-table
table_of-returns-in_ok-table-in-Not-clause-table t c n h = c.not.ensures n h ∙ ap not (c.in_ok-table-in-Not.ensures.table n h) ∙ ap (λ cond. not (value (valuation c.args.params.now n) cond)) c.get.ensures
    ∙ sym (ap (value (valuation c.args.params.now n)) c.in-Not.is ∙ value-Not (valuation c.args.params.now n) c.in-Not.inner)

pub table_of-returns-in-And-clause-known : goal.table_of-returns-in-And-clause-known
table_of-returns-in-And-clause-known t c = c.table_of_all.ensures.known ∙ ap (list_all (knows c.args.params.now)) c.members.ensures ∙ sym (knows-And c.args.params.now c.in-And.list.members) ∙ ap (knows c.args.params.now) (sym c.in-And.is)

pub table_of-returns-in-And-clause-table : goal.table_of-returns-in-And-clause-table
table_of-returns-in-And-clause-table t c = on_some c.table_of_all.result (λ table is n h. is n h ∙ ap (list_all (value (valuation c.args.params.now n))) c.members.ensures
    ∙ sym (value-And (valuation c.args.params.now n) c.in-And.list.members) ∙ ap (value (valuation c.args.params.now n)) (sym c.in-And.is)) c.table_of_all.ensures.table

pub table_of-returns-in-Or-clause-known : goal.table_of-returns-in-Or-clause-known
table_of-returns-in-Or-clause-known t c = c.table_of_any.ensures.known ∙ ap (list_all (knows c.args.params.now)) c.members-in-Or.ensures ∙ sym (knows-Or c.args.params.now c.in-Or.list.members) ∙ ap (knows c.args.params.now) (sym c.in-Or.is)

pub table_of-returns-in-Or-clause-table : goal.table_of-returns-in-Or-clause-table
table_of-returns-in-Or-clause-table t c = on_some c.table_of_any.result (λ table is n h. is n h ∙ ap (list_any (value (valuation c.args.params.now n))) c.members-in-Or.ensures
    ∙ sym (value-Or (valuation c.args.params.now n) c.in-Or.list.members) ∙ ap (value (valuation c.args.params.now n)) (sym c.in-Or.is)) c.table_of_any.ensures.table
