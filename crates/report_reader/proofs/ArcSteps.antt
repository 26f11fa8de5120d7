-- The steps of the loop over the conditions of arcs.
use Rattle.std.proofs.Common.{◌≡◌, ℕ, List, [], subst, sym}
use Rattle.line_rows.specs.Position.{Position}
use Rattle.line_rows.specs.Lined.{lined_of}
use Rattle.line_rows.proofs.LinedLoops.{with_rows, rows_start}
use Rattle.report_reader.specs.Operations.{Pair}
use Rattle.report_reader.specs.Gates.{is_arc, entry_in, after_entry, bound_in, first_pair, arcs_at}
use Rattle.report_reader.specs.declared.gates.ArcLine.{ArcLine}

-- behind these the rest is read from here
abbrev pub AreArcsTo : ℕ → ℕ → List (List ℕ) → Position → List ArcLine → Pair → Position → Type 0
AreArcsTo inputs gates names start arcs least p = with_rows arcs (lined_of is_arc (entry_in inputs gates names) after_entry bound_in least p) ≡ arcs_at inputs gates names start

pub arcs_start : (inputs gates : ℕ) (names : List (List ℕ)) (start : Position) (arcs : List ArcLine) → arcs ≡ [] → AreArcsTo inputs gates names start arcs first_pair start
arcs_start inputs gates names start arcs none =
    subst (λ (es : List ArcLine). AreArcsTo inputs gates names start es first_pair start) (sym none) (rows_start (lined_of is_arc (entry_in inputs gates names) after_entry bound_in first_pair start))
