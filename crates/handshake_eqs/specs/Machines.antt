-- The handshake machine: which events are lawful, what they do, and what every one keeps.
use Rattle.std.specs.Prelude.{◌≡◌, ◌≢◌, ℕ, ◌<◌, false, IsTrue, List, [], ◌∷◌, slice_get, Some, IsSomeAnd}
use Rattle.std.specs.FinSet as set
use Rattle.cpog_defs.specs.declared.types.ScenId.{ScenId}
use Rattle.cpog_defs.specs.Orders.{Set, Order, has, is_before}
use Rattle.handshake_eqs.specs.declared.machine.Machine.{Machine}
use Rattle.handshake_eqs.specs.declared.machine.Machine.TheVariants.{Idle, Running, Returning}
use Rattle.handshake_eqs.specs.declared.machine.Event.{Event}
use Rattle.handshake_eqs.specs.declared.machine.Event.TheVariants.{Start, Ack, Finish, Drop}

-- of the scenario of this number
abbrev pub Of : List Order → ℕ → (Order → Type 0) → Type 0
Of orders s P = IsSomeAnd (slice_get orders s) P

-- the scenario has the operation, and each operation before it is acknowledged
pub record IsReady (acked : Set) (v : ℕ) (o : Order) : Type 0 where
  pub has_it : IsTrue (has o v)
  pub after : (u : ℕ) → IsTrue (is_before o u v) → IsTrue (set.contains acked u)

-- each operation of the scenario is acknowledged
abbrev pub AllAcked : Set → Order → Type 0
AllAcked acked o = (v : ℕ) → IsTrue (has o v) → IsTrue (set.contains acked v)

-- from one state the event is lawful and gives the other
abbrev pub Step : List Order → List ℕ → Machine → Event → Machine → Type 0
Step orders codes Idle (Start word) (Running s acked) = (slice_get codes s.0 ≡ Some word) × (acked ≡ set.empty)
Step orders codes (Running s acked) (Ack v) (Running t more) =
    (t ≡ s) × Of orders s.0 (IsReady acked v.0) × (set.contains acked v.0 ≡ false) × (more ≡ set.insert acked v.0)
Step orders codes (Running s acked) Finish (Returning t same) =
    (t ≡ s) × Of orders s.0 (AllAcked acked) × (acked ≢ set.empty) × (same ≡ acked)
Step orders codes (Running s acked) Finish Idle = Of orders s.0 (AllAcked acked) × (acked ≡ set.empty)
Step orders codes (Returning s acked) (Drop v) (Returning t less) =
    (t ≡ s) × IsTrue (set.contains acked v.0) × (less ≡ set.remove acked v.0) × (less ≢ set.empty)
Step orders codes (Returning s acked) (Drop v) Idle =
    IsTrue (set.contains acked v.0) × (set.remove acked v.0 ≡ set.empty)
Step orders codes old event new = ⊥

-- a run of lawful events
abbrev pub Run : List Order → List ℕ → Machine → List Event → Machine → Type 0
Run orders codes old [] new = new ≡ old
Run orders codes old (event ∷ events) new =
    (mid : Machine) × Step orders codes old event mid × Run orders codes mid events new

-- only operations of the scenario, and with an operation all that are before it
pub record IsClosed (acked : Set) (o : Order) : Type 0 where
  pub inside : (v : ℕ) → IsTrue (set.contains acked v) → IsTrue (has o v)
  pub closed : (u v : ℕ) → IsTrue (is_before o u v) → IsTrue (set.contains acked v) → IsTrue (set.contains acked u)

-- some operations of the scenario, at least one
pub record IsPart (acked : Set) (o : Order) : Type 0 where
  pub inside : (v : ℕ) → IsTrue (set.contains acked v) → IsTrue (has o v)
  pub some : acked ≢ set.empty

-- what every event keeps of the acknowledged set
abbrev pub IsKept : List Order → Machine → Type 0
IsKept orders Idle = Unit {0}
IsKept orders (Running s acked) = Of orders s.0 (IsClosed acked)
IsKept orders (Returning s acked) = Of orders s.0 (IsPart acked)

-- the running or returning scenario is one of so many
abbrev pub IsMachineOf : ℕ → Machine → Type 0
IsMachineOf count Idle = Unit {0}
IsMachineOf count (Running s acked) = s.0 < count
IsMachineOf count (Returning s acked) = s.0 < count

-- requested in Running alone, where ready
abbrev pub IsRequested : List Order → Machine → ℕ → Type 0
IsRequested orders Idle v = ⊥
IsRequested orders (Running s acked) v = Of orders s.0 (IsReady acked v)
IsRequested orders (Returning s acked) v = ⊥

-- done in Running alone, where all operations are acknowledged
abbrev pub IsDone : List Order → Machine → Type 0
IsDone orders Idle = ⊥
IsDone orders (Running s acked) = Of orders s.0 (AllAcked acked)
IsDone orders (Returning s acked) = ⊥

-- returning with these acknowledges, which is Idle where there is none
abbrev pub IsReturned : ScenId → Set → Machine → Type 0
IsReturned s acked Idle = acked ≡ set.empty
IsReturned s acked (Running t other) = ⊥
IsReturned s acked (Returning t other) = (t ≡ s) × (other ≡ acked) × (acked ≢ set.empty)
