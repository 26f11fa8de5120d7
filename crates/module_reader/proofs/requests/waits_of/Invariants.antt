use Rattle.std.proofs.Common.{◌≡◌, ◌-◌, length, map}
use Rattle.module_reader.specs.Lists.{steps, wait_mark, with_wait}
use Rattle.module_reader.specs.Modules.{is_declared, wait_item, waits_after}
use Rattle.module_reader.proofs.requests.waits_of.Given as goal

abbrev pub invariant-loop-u : goal.invariant-loop-u
invariant-loop-u l = steps (λ u s. with_wait u s.0 (wait_mark (is_declared (map (λ row. row.items) l.arcs) u l.v) (wait_item l.names l.v u) s.1)) (length l.names - l.u) l.u (l.waits, l.rest) ≡ waits_after l.names (map (λ row. row.items) l.arcs) l.v l.text
