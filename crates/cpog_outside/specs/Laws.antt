-- Where a caller knows that no fault comes.
use Rattle.std.specs.Prelude.{◌≡◌, ℕ, ◌+◌, ◌≤◌, [], length, IsTrue}
use Rattle.cpog_outside.specs.Room.{HasRoom, names_none}
use Rattle.cpog_outside.specs.Stores.{SinkStore, SourceStore, room_of}

-- a sink at which no call is told to fail has room for bytes that it can still hold
abbrev pub HasRoomToCapacity : Type 0
HasRoomToCapacity = (s : SinkStore) (count : ℕ) → s.plan.failing ≡ [] → count + length s.bytes ≤ s.capacity → HasRoom (room_of s) count

-- a source at which no call is told to fail is steady
abbrev pub SourceIsSteady : Type 0
SourceIsSteady = (s : SourceStore) → s.plan.failing ≡ [] → IsTrue (names_none s.plan.failing)
