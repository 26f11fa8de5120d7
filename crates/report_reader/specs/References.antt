-- How signals and conditions are read.
use Rattle.std.specs.Prelude.{ℕ, ◌+◌, Bool, true, false, List, [], ◌∷◌, ◌++◌, Option, Some, None, codes, if◌then◌else◌}
use Rattle.std.specs.Str.{bytes_eq}
use Rattle.cpog_defs.specs.declared.types.Ref.{Ref}
use Rattle.cpog_defs.specs.declared.types.Ref.TheVariants.{Const, Signal}
use Rattle.line_rows.specs.Words.{◌>>=?◌, number_in, behind, before}

-- the signal of an input's digits or of a gate's
abbrev pub signal_from : ℕ → ℕ → Option (List ℕ) → Option (List ℕ) → Option ℕ
signal_from inputs gates (Some digits) other = number_in inputs digits
signal_from inputs gates None (Some digits) = number_in gates digits >>=? λ g. Some (inputs + g)
signal_from inputs gates None None = None

-- a signal over so many inputs and gates
unfoldable pub signal_in : ℕ → ℕ → List ℕ → Option ℕ
signal_in inputs gates word = signal_from inputs gates (behind (codes "x") word) (behind (codes "g") word)

abbrev pub condition_from : ℕ → ℕ → List ℕ → Option (List ℕ) → Option Ref
condition_from inputs gates word (Some w) = signal_in inputs gates w >>=? λ n. Some (Signal n true)
condition_from inputs gates word None = signal_in inputs gates word >>=? λ n. Some (Signal n false)

-- a constant, a signal, or its complement
unfoldable pub condition_in : ℕ → ℕ → List ℕ → Option Ref
condition_in inputs gates word = if bytes_eq word (codes "0") then Some (Const false) else (if bytes_eq word (codes "1") then Some (Const true) else condition_from inputs gates word (behind (codes "!") word))
