use Rattle.std.proofs.Common.{ℕ, ◌-◌, ◌+◌, [], ◌∷◌, map, Bool, List, sym, ap, ◌∙◌, arith}
use Rattle.std.proofs.lemmas.List.{map-append}
use Rattle.module_reader.specs.Lists.{steps, with_mark, arc_marks_from}
use Rattle.module_reader.proofs.ListLaws.{steps_on}
use Rattle.module_reader.proofs.wires.arcs_of.Goals as goal

pub loop-u-preserved : goal.loop-u-preserved
loop-u-preserved c =
    let f : ℕ → List (List Bool) × List ℕ → List (List Bool) × List ℕ = λ u s. with_mark s.0 (arc_marks_from c.args.count u s.1) in
    let left : ℕ = c.args.count - (c.loop-u.u + 1) in
    let before : List (List Bool) = map (λ row. row.items) c.loop-u.rows.items in
    ap (λ (xs : List (List Bool)). steps f left (c.loop-u.u + 1) (pair xs c.in_ok-row.more.now)) (ap (map (λ row. row.items)) c.in_ok-push.ensures.items ∙ map-append (λ row. row.items) c.loop-u.rows.items (c.in_ok-row.row ∷ []))
    ∙ ap (λ (x : List Bool × List ℕ). steps f left (c.loop-u.u + 1) (with_mark before x)) c.in_ok-row.ensures
    ∙ sym (steps_on f (c.args.count - c.loop-u.u) left c.loop-u.u (before, c.loop-u.rest.now) (omega (arith, c.loop-u-test.true)))
    ∙ c.loop-u.invariant
  where
    pair : List (List Bool) → List ℕ → List (List Bool) × List ℕ
    pair xs rest = (xs, rest)
