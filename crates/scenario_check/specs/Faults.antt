-- Why a scenario has no order, and why scenarios have no orders.
use Rattle.std.specs.Prelude.{◌<◌, List, slice_get, IsSomeAnd}
use Rattle.cpog_defs.specs.Scenarios.{Scenario, IsLeastCyclic}
use Rattle.scenario_check.specs.declared.orders.CycleFault.{CycleFault}
use Rattle.scenario_check.specs.declared.orders.CycleFault.TheVariants as cycle
use Rattle.scenario_check.specs.declared.orders.OrderFault.{OrderFault}
use Rattle.scenario_check.specs.declared.orders.OrderFault.TheVariants as fault
use Rattle.scenario_check.specs.Cycles.{IsFirstCyclic}

-- the least operation before itself; or no memory was left
abbrev pub IsCycleFault : Scenario → CycleFault → Type 0
IsCycleFault sc (cycle.Cyclic v) = IsLeastCyclic sc v.0
IsCycleFault sc cycle.Memory = Unit {0}

-- the first scenario that has an operation before itself, and its least such operation; or no memory was left
abbrev pub IsOrderFault : List Scenario → OrderFault → Type 0
IsOrderFault scenarios (fault.Cyclic s v) = IsFirstCyclic scenarios s.0 v.0
IsOrderFault scenarios fault.Memory = Unit {0}

-- the operation that the fault names is below its scenario's count
abbrev pub NamesOperation : List Scenario → OrderFault → Type 0
NamesOperation scenarios (fault.Cyclic s v) = IsSomeAnd (slice_get scenarios s.0) (λ sc. v.0 < sc.count)
NamesOperation scenarios fault.Memory = Unit {0}
