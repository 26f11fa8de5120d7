use Rattle.std.proofs.Common.{◌≡◌, ◌≤◌, ◌+◌, ◌∷◌, [], suc, subst, sym, arith, length, length-set, length-append, refl}
use Rattle.sat_trail.specs.Kept.{entries_of}
use Rattle.sat_trail.specs.Trails.{IsUnassigned}
use Rattle.sat_trail.proofs.TrailLemmas.{room_for, kept_decide, entries_decide, state_same, trail_by}
use Rattle.sat_trail.proofs.trail.Trail.decide.Goals as goal

pub push_reserved-requires : goal.push_reserved-requires
push_reserved-requires c =
    let a = c.self.inside in
    let k = c.self.invariant in
    let u : IsUnassigned (entries_of a.lits.items a.infos.items) c.args.lit = subst (λ v. IsUnassigned v.entries c.args.lit) (sym c.self.view_is) c.requires.unassigned in
    let fits : c.args.lit.var ≤ length a.infos.items = subst (λ v. c.args.lit.var ≤ v.variables) (sym c.self.view_is) c.requires.within in
    omega (arith, room_for _ _ _ _ _ _ _ k c.args.lit u (omega arith) fits, k.levels, k.room_of_starts, a.starts.ok.0)

pub push_reserved-requires-2 : goal.push_reserved-requires-2
push_reserved-requires-2 c =
    let a = c.self.inside in
    let k = c.self.invariant in
    let u : IsUnassigned (entries_of a.lits.items a.infos.items) c.args.lit = subst (λ v. IsUnassigned v.entries c.args.lit) (sym c.self.view_is) c.requires.unassigned in
    let fits : c.args.lit.var ≤ length a.infos.items = subst (λ v. c.args.lit.var ≤ v.variables) (sym c.self.view_is) c.requires.within in
    omega (arith, room_for _ _ _ _ _ _ _ k c.args.lit u (omega arith) fits, k.room_of_lits, a.lits.ok.0)

pub invariant_of-self : goal.invariant_of-self
invariant_of-self c =
    let a = c.self.inside in
    let u : IsUnassigned (entries_of a.lits.items a.infos.items) c.args.lit = subst (λ v. IsUnassigned v.entries c.args.lit) (sym c.self.view_is) c.requires.unassigned in
    let fits : c.args.lit.var ≤ length a.infos.items = subst (λ v. c.args.lit.var ≤ v.variables) (sym c.self.view_is) c.requires.within in
    let level : c.len-level.result ≡ suc (length a.starts.items) = omega (arith, a.starts.ok.0, c.push_reserved.ensures.len) in
    let start : c.len-start.result ≡ length a.lits.items = omega (arith, a.lits.ok.0) in
    rw (c.push_reserved-2.ensures.items, c.push_reserved-2.ensures.capacity, c.push_reserved.ensures.items, c.push_reserved.ensures.capacity, c.var.ensures.same, c.code-code.ensures.same, c.code-other.ensures.same, c.negated.ensures, level, start) (kept_decide _ _ _ _ _ _ _ c.self.invariant c.args.lit u (omega arith) fits)

pub returns-clause-grown : goal.returns-clause-grown
returns-clause-grown c =
    let a = c.self.inside in
    let u : IsUnassigned (entries_of a.lits.items a.infos.items) c.args.lit = subst (λ v. IsUnassigned v.entries c.args.lit) (sym c.self.view_is) c.requires.unassigned in
    let fits : c.args.lit.var ≤ length a.infos.items = subst (λ v. c.args.lit.var ≤ v.variables) (sym c.self.view_is) c.requires.within in
    let level : c.len-level.result ≡ suc (length a.starts.items) = omega (arith, a.starts.ok.0, c.push_reserved.ensures.len) in
    let up : length a.starts.items + 1 ≡ suc (length a.starts.items) = omega arith in
    rw (c.push_reserved-2.ensures.items, c.push_reserved.ensures.items, c.var.ensures.same, level, ← c.self.view_is, up)
    (state_same _ _ (entries_decide _ _ _ _ _ _ _ c.self.invariant c.args.lit u (omega arith) fits) (omega (arith, length-append a.starts.items (c.len-start.result ∷ []))) refl (length-set a.infos.items _ _))

pub returns-clause-valid : goal.returns-clause-valid
returns-clause-valid c =
    let a = c.self.inside in
    let u : IsUnassigned (entries_of a.lits.items a.infos.items) c.args.lit = subst (λ v. IsUnassigned v.entries c.args.lit) (sym c.self.view_is) c.requires.unassigned in
    let fits : c.args.lit.var ≤ length a.infos.items = subst (λ v. c.args.lit.var ≤ v.variables) (sym c.self.view_is) c.requires.within in
    let level : c.len-level.result ≡ suc (length a.starts.items) = omega (arith, a.starts.ok.0, c.push_reserved.ensures.len) in
    let start : c.len-start.result ≡ length a.lits.items = omega (arith, a.lits.ok.0) in
    rw (c.push_reserved-2.ensures.items, c.push_reserved.ensures.items, c.var.ensures.same, level, start) (trail_by _ _ _ _ _ _ _ (kept_decide _ _ _ _ _ _ _ c.self.invariant c.args.lit u (omega arith) fits))
