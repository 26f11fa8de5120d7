-- Why nothing more is made of an input.
use Rattle.std.specs.Prelude.{List, ℕ}
use Rattle.cpog_base.specs.declared.status.Status.{Status}
use Rattle.refusal_lines.specs.declared.stop.Stop.{Stop}
use Rattle.refusal_lines.specs.declared.stop.Stop.TheVariants as stop

-- the answer that refuses is one of these; or no memory was left
abbrev pub IsStop : (Status → List ℕ → Type 0) → Stop → Type 0
IsStop Answers (stop.Refused answer) = Answers answer.status answer.output.items
IsStop Answers stop.Memory = Unit {0}
