use Rattle.std.proofs.Common.{◌≡◌}
use Rattle.cpog_defs.specs.declared.types.Bit3.TheVariants.{Free}
use Rattle.cpog_defs.specs.declared.types.Place.TheVariants.{Arc}
use Rattle.cpog_defs.specs.Columns.{entry}
use Rattle.cpog_merge.proofs.FillLemmas.{filled}
use Rattle.cpog_merge.proofs.filling.arc_column.Given as goal

abbrev pub invariant-loop-s : goal.invariant-loop-s
invariant-loop-s l = l.column ≡ filled (entry (Arc l.u l.v)) Free l.orders l.s
