use Rattle.std.proofs.Common.{◌≡◌, ◌-◌, ◌+◌, length, map}
use Rattle.line_rows.specs.Reading.{row, many_of}
use Rattle.line_rows.proofs.Loops.{with_front}
use Rattle.module_reader.specs.Modules.{request_in, requests_at}
use Rattle.module_reader.proofs.requests.requests_rows.Given as goal

abbrev pub invariant-loop-v : goal.invariant-loop-v
invariant-loop-v l = with_front l.sets.items (many_of (λ v. row (request_in l.names (map (λ row. row.items) l.arcs) v)) (λ v _. v + 1) (length l.names - l.v) l.v l.cursor) ≡ requests_at l.names (map (λ row. row.items) l.arcs) l.initial.cursor
