-- What stops for one cause stops for another that follows.
use Rattle.std.proofs.Common.{ℕ, List}
use Rattle.std.specs.Prelude.{Result, Ok, Err, IfErr}
use Rattle.cpog_base.specs.declared.status.Status.{Status}
use Rattle.refusal_lines.specs.declared.stop.Stop.{Stop}
use Rattle.refusal_lines.specs.declared.stop.Stop.TheVariants as stop
use Rattle.refusal_lines.specs.Stops.{IsStop}

-- an answer that refuses for one cause refuses for another that follows
pub stop_map : (Answers Others : Status → List ℕ → Type 0) → ((s : Status) (x : List ℕ) → Answers s x → Others s x) → (e : Stop) → IsStop Answers e → IsStop Others e
stop_map Answers Others step (stop.Refused answer) h = step answer.status answer.output.items h
stop_map Answers Others step stop.Memory h = tt

-- a result that stops for one cause stops for another that follows
pub err_map : {X : Type 0} (Answers Others : Status → List ℕ → Type 0) → ((s : Status) (x : List ℕ) → Answers s x → Others s x) → (r : Result X Stop) → IfErr r (IsStop Answers) → IfErr r (IsStop Others)
err_map Answers Others step (Ok x) h = tt
err_map Answers Others step (Err e) h = stop_map Answers Others step e h
