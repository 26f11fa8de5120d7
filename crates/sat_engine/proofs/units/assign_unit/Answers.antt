use Rattle.std.proofs.Common.{◌≡◌, length, ap, subst, arith}
use Rattle.clause_arena.specs.Clauses.{In}
use Rattle.clause_arena.specs.Arenas.{clause_at}
use Rattle.sat_engine.proofs.PlaceLemmas.{in_read}
use Rattle.sat_engine.proofs.KeepLemmas.{known_at}
use Rattle.sat_engine.proofs.UnitLemmas.{unit_false, ground_true, keep_unit, fit_unit, unit_more, unit_true}
use Rattle.sat_engine.proofs.units.assign_unit.Goals as goal

pub is_true-requires : goal.is_true-requires
is_true-requires c =
    let cs = c.args.arena.now.clauses in
    let x = c.index-clause-0.result in
    let one : length (clause_at cs c.args.id) ≡ 1 = omega (arith, c.if-clause-ne1.false, ap length c.clause-clause.ensures) in
    let i : In x (clause_at cs c.args.id) = subst (In x) c.clause-clause.ensures (in_read c.clause-clause.result.now 0 x (omega (arith, c.if-clause-ne1.false)) c.index-clause-0.is) in
    (c.requires.searching.within (clause_at cs c.args.id) (known_at cs c.args.id c.requires.clause) x i).1

pub returns-then-is_true-clause-no : goal.returns-then-is_true-clause-no
returns-then-is_true-clause-no c e one =
    let cs = c.args.arena.now.clauses in
    let x = c.index-clause-0.result in
    let i : In x (clause_at cs c.args.id) = subst (In x) c.clause-clause.ensures (in_read c.clause-clause.result.now 0 x (omega (arith, c.if-clause-ne1.false)) c.index-clause-0.is) in
    (x, i, ground_true c.args.trail.now x c.len-count.ensures.valid c.requires.ground c.if-is_true.ensures)

pub is_false-requires : goal.is_false-requires
is_false-requires c =
    let cs = c.args.arena.now.clauses in
    let x = c.index-clause-0.result in
    let i : In x (clause_at cs c.args.id) = subst (In x) c.clause-clause.ensures (in_read c.clause-clause.result.now 0 x (omega (arith, c.if-clause-ne1.false)) c.index-clause-0.is) in
    (c.requires.searching.within (clause_at cs c.args.id) (known_at cs c.args.id c.requires.clause) x i).1

pub returns-then-is_false-clause-yes : goal.returns-then-is_false-clause-yes
returns-then-is_false-clause-yes c e =
    let cs = c.args.arena.now.clauses in
    let x = c.index-clause-0.result in
    let one : length (clause_at cs c.args.id) ≡ 1 = omega (arith, c.if-clause-ne1.false, ap length c.clause-clause.ensures) in
    let i : In x (clause_at cs c.args.id) = subst (In x) c.clause-clause.ensures (in_read c.clause-clause.result.now 0 x (omega (arith, c.if-clause-ne1.false)) c.index-clause-0.is) in
    unit_false (clause_at cs c.args.id) x _ one i c.if-is_false.ensures

pub assign-requires-clause-within : goal.assign-requires-clause-within
assign-requires-clause-within c =
    let cs = c.args.arena.now.clauses in
    let x = c.index-clause-0.result in
    let i : In x (clause_at cs c.args.id) = subst (In x) c.clause-clause.ensures (in_read c.clause-clause.result.now 0 x (omega (arith, c.if-clause-ne1.false)) c.index-clause-0.is) in
    (c.requires.searching.within (clause_at cs c.args.id) (known_at cs c.args.id c.requires.clause) x i).1

pub returns-clause-searching : goal.returns-clause-searching
returns-clause-searching c =
    let cs = c.args.arena.now.clauses in
    let x = c.index-clause-0.result in
    let one : length (clause_at cs c.args.id) ≡ 1 = omega (arith, c.if-clause-ne1.false, ap length c.clause-clause.ensures) in
    let i : In x (clause_at cs c.args.id) = subst (In x) c.clause-clause.ensures (in_read c.clause-clause.result.now 0 x (omega (arith, c.if-clause-ne1.false)) c.index-clause-0.is) in
    keep_unit cs c.args.trail.now c.assign.new.self x c.args.id c.assign.ensures.grown c.requires.ground c.requires.searching c.assign.ensures.valid c.requires.clause i one

pub returns-clause-fit : goal.returns-clause-fit
returns-clause-fit c w fit = fit_unit c.args.arena.now.clauses c.args.trail.now c.assign.new.self c.index-clause-0.result c.args.id c.assign.ensures.grown c.requires.ground w c.len-count.ensures.valid fit

pub returns-clause-more : goal.returns-clause-more
returns-clause-more c m h = unit_more c.args.arena.now.clauses c.args.trail.now c.assign.new.self c.index-clause-0.result c.args.id c.assign.ensures.grown c.requires.ground m h

pub returns-clause-no : goal.returns-clause-no
returns-clause-no c e one =
    let cs = c.args.arena.now.clauses in
    let x = c.index-clause-0.result in
    let i : In x (clause_at cs c.args.id) = subst (In x) c.clause-clause.ensures (in_read c.clause-clause.result.now 0 x (omega (arith, c.if-clause-ne1.false)) c.index-clause-0.is) in
    (x, i, unit_true cs c.args.trail.now c.assign.new.self x c.args.id c.assign.ensures.grown c.requires.ground)
