use Rattle.std.proofs.Common.{◌-◌, ◌<◌, ◌≤◌, ℕ, length}
use Rattle.proof_check.specs.Records.{record_at}
use Rattle.proof_check.proofs.log.place_of.Given as goal

abbrev pub invariant-loop-low : goal.invariant-loop-low
invariant-loop-low l = record {
  within : l.high ≤ length l.records;
  below : (k : ℕ) → k < l.low → k < length l.records → (record_at l.records k).id < l.id;
  above : (k : ℕ) → l.high ≤ k → k < length l.records → l.id ≤ (record_at l.records k).id;
}

abbrev pub decreases-loop-low : goal.decreases-loop-low
decreases-loop-low l = l.high - l.low
