use Rattle.std.proofs.Common.{map}
use Rattle.std.specs.Fmt.{decimal}
use Rattle.dimacs_text.specs.Logs.{lit_word}
use Rattle.dimacs_text.proofs.WritingLemmas.{addition_written, deletion_written}
use Rattle.dimacs_text.proofs.writing.put_line.Goals as goal

pub returns-in_ok-push_str-in-Add-2-clause-text : goal.returns-in_ok-push_str-in-Add-2-clause-text
returns-in_ok-push_str-in-Add-2-clause-text c =
    rw c.in-Add.is
    (addition_written _ _ _ _ _ _ (decimal c.in-Add.id) (map lit_word c.in-Add.lits.now) (map decimal c.in-Add.hints.now) c.in_ok-write-in-Add.ensures.bytes c.in_ok-put_lits-in-Add.ensures.text c.in_ok-push_str-in-Add.ensures.bytes c.in_ok-put_ids-in-Add.ensures.text c.in_ok-push_str-in-Add-2.ensures.bytes)

pub returns-in_ok-push_str-in-Del-clause-text : goal.returns-in_ok-push_str-in-Del-clause-text
returns-in_ok-push_str-in-Del-clause-text c =
    rw c.in-Del.is
    (deletion_written _ _ _ _ (decimal c.args.last) (map decimal c.in-Del.ids.now) c.in_ok-write-in-Del.ensures.bytes c.in_ok-put_ids-in-Del.ensures.text c.in_ok-push_str-in-Del.ensures.bytes)
