-- What an entry of a pattern lets a bit be.
use Rattle.std.specs.Prelude.{Bool, true, not}
use Rattle.cpog_defs.specs.declared.types.Bit3.{Bit3}
use Rattle.cpog_defs.specs.declared.types.Bit3.TheVariants.{Zero, One, Free}

-- whether the bit may have this value
abbrev pub allows : Bool → Bit3 → Bool
allows value Free = true
allows value One = value
allows value Zero = not value
