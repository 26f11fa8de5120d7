-- How the parts of a module's text are read.
use Rattle.std.specs.Prelude.{ℕ, ◌+◌, true, false, List, Option, Some, None, codes, if◌then◌else◌}
use Rattle.std.specs.Str.{bytes_eq}
use Rattle.cpog_defs.specs.declared.types.Ref.{Ref}
use Rattle.cpog_defs.specs.declared.types.Ref.TheVariants.{Const, Signal}
use Rattle.line_rows.specs.Words.{◌>>=?◌, number_in, behind, before}

-- an input behind x, a gate behind g
abbrev pub signal_from : ℕ → ℕ → Option (List ℕ) → Option (List ℕ) → Option ℕ
signal_from inputs gates (Some digits) other = number_in inputs digits
signal_from inputs gates None (Some digits) = number_in gates digits >>=? λ g. Some (inputs + g)
signal_from inputs gates None None = None

-- the signal with this name
unfoldable pub signal_in : ℕ → ℕ → List ℕ → Option ℕ
signal_in inputs gates word = signal_from inputs gates (behind (codes "x") word) (behind (codes "g") word)

-- a signal, or its complement behind ~
abbrev pub reference_from : ℕ → ℕ → List ℕ → Option (List ℕ) → Option Ref
reference_from inputs gates word (Some w) = signal_in inputs gates w >>=? λ n. Some (Signal n true)
reference_from inputs gates word None = signal_in inputs gates word >>=? λ n. Some (Signal n false)

-- the reference that is written so
unfoldable pub reference_in : ℕ → ℕ → List ℕ → Option Ref
reference_in inputs gates word = if bytes_eq word (codes "1'b0") then Some (Const false) else (if bytes_eq word (codes "1'b1") then Some (Const true) else reference_from inputs gates word (behind (codes "~") word))

-- the condition on the line of the operation with this name
unfoldable pub condition_in : ℕ → ℕ → List ℕ → List ℕ → Option Ref
condition_in inputs gates name line = behind (codes "  assign c_") line >>=? λ a. behind name a >>=? λ b. behind (codes " = ") b >>=? λ c. before (codes ";") c >>=? λ word. reference_in inputs gates word
