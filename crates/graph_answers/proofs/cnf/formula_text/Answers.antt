use Rattle.std.proofs.Common.{sym, subst}
use Rattle.text_rows.specs.Lines.{IsUnbroken}
use Rattle.graph_answers.proofs.cnf.formula_text.Goals as goal

pub write_cnf-requires : goal.write_cnf-requires
write_cnf-requires c = subst IsUnbroken (sym c.as_str.ensures.value) c.in_ok-comment.ensures.line
