use Rattle.std.specs.Prelude.{length}
use Rattle.std.proofs.Common.{sym, subst, get_or}
use Rattle.std.proofs.lemmas.Option.{slice_get-get_or}
use Rattle.pg_text.specs.Numbers.{statement_numbers}
use Rattle.pg_text.specs.Text.{IsFile}
use Rattle.pg_text.proofs.NumberLaws.{AreBelow, statement-below}
use Rattle.pg_text.proofs.file.File.statement.Goals as goal

pub returns-clause-numbers : goal.returns-clause-numbers
returns-clause-numbers c =
    let file : IsFile c.args.self.now = subst IsFile c.self.view_is c.self.invariant in
    rw c.as_slice.ensures (subst (λ f. AreBelow (length c.args.self.now.operations) (statement_numbers (get_or f.statements c.args.i c.index-as_slice-i.result).statement)) (sym c.self.view_is)
    (statement-below c.args.self.now c.args.i _ file (slice_get-get_or c.args.self.now.statements c.args.i c.index-as_slice-i.result c.requires)))
