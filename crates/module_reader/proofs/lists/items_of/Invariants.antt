use Rattle.std.proofs.Common.{◌≡◌, ◌-◌, ◌++◌, eqb}
use Rattle.std.specs.Fmt.{decimal}
use Rattle.netlist_verilog.specs.Rows.{separator}
use Rattle.module_reader.specs.Lists.{run}
use Rattle.module_reader.proofs.lists.items_of.Given as goal

abbrev pub invariant-loop-index : goal.invariant-loop-index
invariant-loop-index l = run (λ i. separator (eqb i 0) ++ (l.letter ++ decimal i)) (l.limit - l.index) l.index l.rest ≡ run (λ i. separator (eqb i 0) ++ (l.letter ++ decimal i)) l.limit 0 l.text
