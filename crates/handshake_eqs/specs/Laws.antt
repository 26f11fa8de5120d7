-- What is proved of the machine and of netlists.
use Rattle.std.specs.Prelude.{◌≡◌, ◌≢◌, ℕ, List, length}
use Rattle.std.specs.List.{AllPairs}
use Rattle.cpog_defs.specs.Orders.{Order}
use Rattle.cpog_defs.specs.Encodings.{Encoding, IsEncoding}
use Rattle.handshake_eqs.specs.declared.machine.Machine.{Machine}
use Rattle.handshake_eqs.specs.declared.machine.Machine.TheVariants.{Idle}
use Rattle.handshake_eqs.specs.declared.machine.Event.{Event}
use Rattle.handshake_eqs.specs.Netlists.{Netlist, IsNetlistOf}
use Rattle.handshake_eqs.specs.Machines.{Step, Run, IsKept}
use Rattle.handshake_eqs.specs.Agreement.{AgreesOverRuns}

-- over every run of lawful events, the netlist of an encoding that fits agrees with the state
abbrev pub NetlistAgreesOverRuns : Type 0
NetlistAgreesOverRuns =
    (e : Encoding) (n : Netlist) → IsEncoding (length e.graph.ops) e → IsNetlistOf e n → AgreesOverRuns e n

-- every run keeps the acknowledged set closed while running, and within the scenario and not empty while returning
abbrev pub RunsKeep : Type 0
RunsKeep =
    (orders : List Order) (codes : List ℕ) → length codes ≡ length orders →
    (events : List Event) (m : Machine) → Run orders codes Idle events m → IsKept orders m

-- with distinct codes an event gives one state
abbrev pub StepsAreUnique : Type 0
StepsAreUnique =
    (orders : List Order) (codes : List ℕ) → AllPairs (λ a b. a ≢ b) codes →
    (old : Machine) (event : Event) (a b : Machine) → Step orders codes old event a → Step orders codes old event b →
    a ≡ b
