-- What is written of the log of a find.
use Rattle.std.specs.Prelude.{ℕ, ◌<◌, List}
use Rattle.proof_check.specs.Lines.{Line}
use Rattle.dimacs_text.specs.Logs.{SpellsLog}
use Rattle.dimacs_text.specs.Writing.{log_lines, LinesWithin}
use Rattle.sat_engine.specs.declared.outcome.Outcome.{Outcome}
use Rattle.sat_engine.specs.declared.outcome.Outcome.TheVariants.{Sat, Refuted, Open}

-- the variables of the log are from 1 to 2147483647; where none is above a number of variables, its written lines spell it
abbrev pub IsWritten : ℕ → List Line → Type 0
IsWritten first log = LinesWithin 2147483647 log
    × ((variables : ℕ) → variables < 10000000000 → LinesWithin variables log → SpellsLog variables first (log_lines log) log)

-- what is found has no log, or one that is written so
abbrev pub IsFindWritten : Outcome → Type 0
IsFindWritten (Sat values) = Unit {0}
IsFindWritten (Refuted log) = IsWritten log.first log.lines
IsFindWritten (Open log) = IsWritten log.first log.lines
