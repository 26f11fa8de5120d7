use Rattle.std.proofs.Common.{◌≡◌, take, false}
use Rattle.std.specs.List.{list_any}
use Rattle.cpog_base.specs.Pattern.{is_given}
use Rattle.report_text.proofs.given.gives_some.Given as goal

abbrev pub invariant-bits : goal.invariant-bits
invariant-bits l = list_any is_given (take l.i l.pattern) ≡ false
