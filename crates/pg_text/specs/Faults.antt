-- When a line is answered to be bad.
use Rattle.pg_text.specs.declared.fault.LineFault.{LineFault}
use Rattle.pg_text.specs.declared.fault.LineFault.TheVariants as fault

-- `Bad` is answered only for this cause, and `Memory` at any time
abbrev pub IsDue : Type 0 → LineFault → Type 0
IsDue Cause fault.Bad = Cause
IsDue Cause fault.Memory = Unit {0}
