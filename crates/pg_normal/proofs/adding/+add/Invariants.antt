use Rattle.std.proofs.Common.{◌≡◌, ◌<◌, ℕ, length, drop, map, IsTrue}
use Rattle.cpog_defs.specs.Codes.{bit}
use Rattle.pg_algebra.specs.Graphs.{overlay, sequence, when, overlay_all, sequence_all}
use Rattle.pg_normal.specs.Known.{AreJoined, AreRowsOver, graph_of_rows, graph_stated}
use Rattle.pg_normal.specs.Sound.{all_sound}
use Rattle.pg_normal.proofs.StepLemmas.{arcs_at}
use Rattle.pg_normal.proofs.adding.+add.Given as goal

abbrev pub invariant-add_overlay-over : goal.invariant-add_overlay-over
invariant-add_overlay-over l = record {
  rows : AreRowsOver l.known l.vertices l.arcs l.united;
  sound : IsTrue (all_sound (length l.fn.arcs) l.known.params (drop l.member-index l.members));
  graph : (n : ℕ) → n < 64 → overlay (graph_of_rows l.vertices l.arcs n)
      (when (bit l.guard.0 n) (overlay_all (map (graph_stated l.known n) (drop l.member-index l.members)))) ≡ overlay
      (graph_of_rows l.fn.vertices l.fn.arcs n)
      (when (bit l.guard.0 n) (overlay_all (map (graph_stated l.known n) l.members)));
}

abbrev pub invariant-add_sequence-line : goal.invariant-add_sequence-line
invariant-add_sequence-line l = record {
  here : length l.here ≡ length l.arcs;
  row : length l.joined ≡ length l.arcs;
  rows : AreRowsOver l.known l.before l.arcs l.united;
  joined : AreJoined l.before l.joined l.arcs;
  sound : IsTrue (all_sound (length l.fn.arcs) l.known.params (drop l.member-index l.members));
  graph : (n : ℕ) → n < 64 → sequence (graph_of_rows l.before l.arcs n)
      (when (bit l.guard.0 n) (sequence_all (map (graph_stated l.known n) (drop l.member-index l.members)))) ≡
      sequence (arcs_at l.fn.arcs n) (when (bit l.guard.0 n) (sequence_all (map (graph_stated l.known n) l.members)));
}
