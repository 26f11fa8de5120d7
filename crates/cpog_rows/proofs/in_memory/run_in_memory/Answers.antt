use Rattle.std.proofs.Common.{◌≡◌, ◌≢◌, ℕ, ◌+◌, ◌≤◌, List, [], length, length-append, map, Some, refl, ap, arith}
use Rattle.std.specs.String.{string_bytes}
use Rattle.cpog_base.specs.declared.status.Status.{Status}
use Rattle.cpog_base.specs.declared.status.Status.TheVariants as status
use Rattle.cpog_outside.specs.Room.{HasRoom}
use Rattle.cpog_outside.specs.Stores.{SinkStore, room_of}
use Rattle.cpog_app.specs.Allowed.{Input, Outlet, Ends}
use Rattle.cpog_app.proofs.AgreeLemmas as laws
use Rattle.cpog_rows.proofs.in_memory.run_in_memory.Goals as goal

-- a sink at which no call is told to fail has room for what it can still hold
has_room : (s : SinkStore) (count : ℕ) → s.plan.failing ≡ [] → count + length s.bytes ≤ s.capacity → HasRoom (room_of s) count
has_room s count none fits = rw none (omega arith)

-- a run ended by a whole output, or by none, within the capacity of such a sink counts no fault
module _ (words : List (List ℕ)) (input : Input) (s : SinkStore) (after : List ℕ) (faults_after : ℕ) (none : s.plan.failing ≡ []) (within : length after ≤ s.capacity) where
  stays : (t : Status) → t ≢ status.WriteFault →
      Ends words input (record { taken = Some s.bytes; taken_after = Some after; faults = s.plan.faults; faults_after = faults_after; room = room_of s }) t →
      faults_after ≡ s.plan.faults
  stays status.Memory n h = h.quiet
  stays status.WriteFault n h = absurd (n refl)
  stays other n h = h.quiet (has_room s (length h.output) none (omega (arith, within, ap length h.whole, length-append s.bytes h.output)))

pub returns-clause-complete : goal.returns-clause-complete
returns-clause-complete c = λ written.
    laws.complete (map string_bytes c.args.words.now) c.args.source.now _ _ c.run_cpog.result refl c.requires.good c.run_cpog.ensures.ends (c.run_cpog.ensures.steady refl) written

pub returns-clause-quiet : goal.returns-clause-quiet
returns-clause-quiet c = λ written none within.
    stays (map string_bytes c.args.words.now) _ c.args.sink.now c.run_cpog.new.sink.bytes c.run_cpog.new.sink.plan.faults none within c.run_cpog.result written c.run_cpog.ensures.ends
