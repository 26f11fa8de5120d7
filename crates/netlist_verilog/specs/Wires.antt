-- The wires of a controller's module, and how they are called.
use Rattle.std.specs.Prelude.{ℕ, ◌-◌, nat_lt, if◌then◌else◌, List, [], ◌++◌, slice_index_or, codes}
use Rattle.std.specs.Fmt.{decimal}

-- the signals (the inputs of the gates and then the gates), the wires of the handshake, and the conditions of
-- operations and of arcs
pub data Wire : Type 0 where
  Signal : ℕ → Wire
  Go : Wire
  Acknowledge : ℕ → Wire
  Request : ℕ → Wire
  Done : Wire
  Idle : Wire
  Condition : ℕ → Wire
  ArcCondition : ℕ → ℕ → Wire

-- a signal over so many inputs: the inputs are x0, x1 and on, and the gates g0, g1 and on
abbrev pub signal_text : ℕ → ℕ → List ℕ
signal_text inputs n = if nat_lt n inputs then codes "x" ++ decimal n else codes "g" ++ decimal (n - inputs)

-- the name of an operation
abbrev pub name_of : List (List ℕ) → ℕ → List ℕ
name_of names v = slice_index_or names v []

-- how a wire is called, over so many inputs and with these names of operations
abbrev pub wire_text : ℕ → List (List ℕ) → Wire → List ℕ
wire_text inputs names (Signal n) = signal_text inputs n
wire_text inputs names Go = codes "go"
wire_text inputs names (Acknowledge v) = codes "a_" ++ name_of names v
wire_text inputs names (Request v) = codes "r_" ++ name_of names v
wire_text inputs names Done = codes "done"
wire_text inputs names Idle = codes "idle"
wire_text inputs names (Condition v) = codes "c_" ++ name_of names v
wire_text inputs names (ArcCondition u v) = codes "e" ++ (decimal u ++ (codes "_" ++ decimal v))
