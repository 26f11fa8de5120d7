-- A lent line as a line.
use Rattle.proof_check.specs.declared.log.LineRef.{LineRef}
use Rattle.proof_check.specs.declared.log.LineRef.TheVariants as refs
use Rattle.proof_check.specs.Lines.{Line}

-- the line that is lent
abbrev pub line_of_ref : LineRef → Line
line_of_ref (refs.Add id lits hints) = Line.Add id lits.now hints.now
line_of_ref (refs.Del ids) = Line.Del ids.now
