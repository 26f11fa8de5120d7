use Rattle.std.proofs.Common.{◌∷◌, ◌++◌, [], ap, ap₂, sym, ◌∙◌, List, ℕ, string_bytes}
use Rattle.std.specs.Prelude.{codes}
use Rattle.std.proofs.lemmas.Option.{get_or_from_slice_get}
use Rattle.line_text.specs.Lines.{text_of}
use Rattle.report_text.specs.Rows.{place_row}
use Rattle.report_text.proofs.WritingLemmas.{at_place, pair_written, on_ok}
use Rattle.report_text.proofs.known.put_place.Goals as goal

pub returns-in-Arc : goal.returns-in-Arc
returns-in-Arc c =
    let names = c.args.names.now in
    let u = c.in-Arc.u.0 in
    let v = c.in-Arc.v.0 in
    let first = get_or_from_slice_get names u c.get-first.result.now [] (at_place names _ u _ c.from-in-Arc.ensures c.get-first.ensures) in
    let second = get_or_from_slice_get names v c.get-second.result.now [] (at_place names _ v _ c.from-in-Arc-2.ensures c.get-second.ensures) in
    let row = ap (place_row names) c.in-Arc.is ∙ ap₂ (λ (f s : List ℕ). codes "arc " ++ (f ++ (32 ∷ s))) first second in
    on_ok c.write-in-Arc.result _ _ (λ e. pair_written (string_bytes c.args.out.now) c.get-first.result.now c.get-second.result.now _ e
    ∙ ap (λ (r : List ℕ). string_bytes c.args.out.now ++ text_of (r ∷ [])) (sym row)) c.write-in-Arc.ensures.bytes
