use Rattle.std.proofs.Common.{◌≡◌, ◌≤◌, ◌<◌, ◌-◌, take, length}
use Rattle.std.specs.Str.Parse.{AllDigits, digits_value}
use Rattle.text_rows.proofs.words.digits.Given as goal

abbrev pub invariant-loop-i : goal.invariant-loop-i
invariant-loop-i l = record { digits : AllDigits 10 (take l.i l.word); value : l.n ≡ digits_value 10 (take l.i l.word); bound : l.n < 10000000000; within : l.i ≤ length l.word }

abbrev pub decreases-loop-i : goal.decreases-loop-i
decreases-loop-i l = length l.word - l.i
