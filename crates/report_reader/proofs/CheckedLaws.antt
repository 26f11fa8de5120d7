-- What holds of the parts that were read.
use Rattle.std.proofs.Common.{◌≡◌, ◌≢◌, ℕ, ◌<◌, ◌≤◌, ◌+◌, ◌^◌, List, [], ◌∷◌, length, Result, Ok, Err, refl, sym, ap, subst, ◌∙◌, arith}
use Rattle.std.specs.Prelude.{IfOk}
use Rattle.std.specs.List.{AllByRecursion}
use Rattle.cpog_defs.specs.declared.types.Ref.{Ref}
use Rattle.netlist_verilog.specs.Module.{AreNames}
use Rattle.report_text.specs.declared.bound.Bound.{Bound}
use Rattle.line_rows.specs.declared.fault.ReadError.{ReadError}
use Rattle.line_rows.specs.Position.{Position}
use Rattle.line_rows.specs.Reading.{Gives, view_of}
use Rattle.line_rows.proofs.RowLaws.{bind_ok, ok_is}
use Rattle.report_reader.specs.Reading.{AreNext}
use Rattle.report_reader.specs.Heads.{HeadValue, IsHead, head_at}
use Rattle.report_reader.specs.Scenarios.{Block, Columns, columns_at, columns_from, scenarios_at, gate_bound}
use Rattle.report_reader.specs.Gates.{first_pair, after_entry, ops_at, arcs_at}
use Rattle.report_reader.specs.Operations.{Pair}
use Rattle.report_reader.specs.Entries.{FitEntries, EndsFit}
use Rattle.report_reader.specs.declared.gates.ArcLine.{ArcLine}
use Rattle.report_reader.proofs.HeadRows.{head_rows}
use Rattle.report_reader.proofs.BlockLaws.{scenarios_rows}
use Rattle.report_reader.proofs.OthersLaws.{columns_are}
use Rattle.report_reader.proofs.ColumnLaws.{fits_end}
use Rattle.report_reader.proofs.GateLaws.{ops_rows}
use Rattle.report_reader.proofs.ArcLaws.{arcs_spelled}
use Rattle.report_reader.proofs.PartLaws.{known_names, bound_most}

pub head_holds : (p q : Position) (h : HeadValue) → head_at p ≡ Ok (h, q) → IsHead h
head_holds p q h e = (head_rows.takes p (h, q) e).0

pub count_holds : (bits : ℕ) (names : List (List ℕ)) (p q : Position) (c : Columns) (n : ℕ) → AreNext 64 [] names → columns_at bits names p ≡ Ok ((c, n), q) → n < 65536
count_holds bits names p q c n next e =
    let s = bind_ok (scenarios_at bits names p) (λ x. Ok (columns_from x.0, x.1)) ((c, n), q) (columns_are bits names p ∙ e) in
    let fits = ((scenarios_rows bits names (known_names names next)).takes p s.0 s.1).0 in
    let below = fits_end bits names (λ n. n < gate_bound bits) 63 (s.0.0.0.name ∷ []) s.0.0.1.0 s.0.0.1.1 fits.1 in
    let same : s.0.0.1.1 ≡ n = ap (λ (x : (Columns × ℕ) × Position). x.0.1) (ok_is (columns_from s.0.0, s.0.1) ((c, n), q) s.2) in
    omega (arith, below, same, bound_most bits)

pub ops_hold : (inputs gates : ℕ) (names : List (List ℕ)) (p q : Position) (refs : List Ref) → inputs + gates < 2 ^ 32 → ops_at inputs gates names p ≡ Ok (refs, q) → length refs ≡ length names
ops_hold inputs gates names p q refs small e = ((ops_rows inputs gates names small).takes p (refs, q) e).0.1

ends_of : (signals n : ℕ) (s : Pair) (es : List ArcLine) → FitEntries signals n s es → AllByRecursion (EndsFit n) es
ends_of signals n s [] h = tt
ends_of signals n s (e ∷ es) h = ((h.0.first, (h.0.second, h.0.differ)), ends_of signals n (after_entry s e) es h.1)

pub arcs_hold : (inputs gates : ℕ) (names : List (List ℕ)) (p q : Position) (es : List ArcLine) (b : Bound) → AreNext 64 [] names → inputs + gates < 2 ^ 32 → arcs_at inputs gates names p ≡ Ok ((es, b), q) → AllByRecursion (EndsFit (length names)) es
arcs_hold inputs gates names p q es b next small e =
    let t = (arcs_spelled inputs gates names (known_names names next) small).takes p ((es, b), q) e in
    ends_of (inputs + gates) (length names) first_pair es t.1.0.0
