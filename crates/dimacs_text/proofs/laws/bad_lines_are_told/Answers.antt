use Rattle.text_rows.proofs.WritingLemmas.{bad_lines_told}
use Rattle.dimacs_text.specs.LogTexts.{IsLogText}
use Rattle.dimacs_text.specs.Texts.{IsFormulaText, IsJoinedText}
use Rattle.dimacs_text.proofs.laws.bad_lines_are_told.Goals as goal

pub returns-clause-formulas : goal.returns-clause-formulas
returns-clause-formulas c = bad_lines_told IsFormulaText

pub returns-clause-logs : goal.returns-clause-logs
returns-clause-logs c variables clauses = bad_lines_told (IsLogText variables clauses)

pub returns-clause-joined : goal.returns-clause-joined
returns-clause-joined c = bad_lines_told IsJoinedText
