use Rattle.std.proofs.Common.{◌≡◌, ◌≤◌, subst, sym, arith, length, length-set, refl}
use Rattle.sat_trail.specs.Kept.{entries_of}
use Rattle.sat_trail.specs.Trails.{IsUnassigned}
use Rattle.sat_trail.proofs.TrailLemmas.{room_for, kept_assign, entries_assign, state_same, trail_by}
use Rattle.sat_trail.proofs.trail.Trail.assign.Goals as goal

pub push_reserved-requires : goal.push_reserved-requires
push_reserved-requires c =
    let a = c.self.inside in
    let k = c.self.invariant in
    let u : IsUnassigned (entries_of a.lits.items a.infos.items) c.args.lit = subst (λ v. IsUnassigned v.entries c.args.lit) (sym c.self.view_is) c.requires.unassigned in
    let fits : c.args.lit.var ≤ length a.infos.items = subst (λ v. c.args.lit.var ≤ v.variables) (sym c.self.view_is) c.requires.within in
    omega (arith, room_for _ _ _ _ _ _ _ k c.args.lit u (omega arith) fits, k.room_of_lits, a.lits.ok.0)

pub invariant_of-self : goal.invariant_of-self
invariant_of-self c =
    let a = c.self.inside in
    let u : IsUnassigned (entries_of a.lits.items a.infos.items) c.args.lit = subst (λ v. IsUnassigned v.entries c.args.lit) (sym c.self.view_is) c.requires.unassigned in
    let fits : c.args.lit.var ≤ length a.infos.items = subst (λ v. c.args.lit.var ≤ v.variables) (sym c.self.view_is) c.requires.within in
    let level : c.len-level.result ≡ length a.starts.items = omega (arith, a.starts.ok.0) in
    rw (c.push_reserved.ensures.items, c.push_reserved.ensures.capacity, c.var.ensures.same, c.code-code.ensures.same, c.code-other.ensures.same, c.negated.ensures, level) (kept_assign _ _ _ _ _ _ _ c.self.invariant c.args.lit c.args.reason u (omega arith) fits)

pub returns-clause-grown : goal.returns-clause-grown
returns-clause-grown c =
    let a = c.self.inside in
    let u : IsUnassigned (entries_of a.lits.items a.infos.items) c.args.lit = subst (λ v. IsUnassigned v.entries c.args.lit) (sym c.self.view_is) c.requires.unassigned in
    let fits : c.args.lit.var ≤ length a.infos.items = subst (λ v. c.args.lit.var ≤ v.variables) (sym c.self.view_is) c.requires.within in
    let level : c.len-level.result ≡ length a.starts.items = omega (arith, a.starts.ok.0) in
    rw (c.push_reserved.ensures.items, c.var.ensures.same, level, ← c.self.view_is)
    (state_same _ _ (entries_assign _ _ _ _ _ _ _ c.self.invariant c.args.lit c.args.reason u (omega arith) fits) refl refl (length-set a.infos.items _ _))

pub returns-clause-valid : goal.returns-clause-valid
returns-clause-valid c =
    let a = c.self.inside in
    let u : IsUnassigned (entries_of a.lits.items a.infos.items) c.args.lit = subst (λ v. IsUnassigned v.entries c.args.lit) (sym c.self.view_is) c.requires.unassigned in
    let fits : c.args.lit.var ≤ length a.infos.items = subst (λ v. c.args.lit.var ≤ v.variables) (sym c.self.view_is) c.requires.within in
    let level : c.len-level.result ≡ length a.starts.items = omega (arith, a.starts.ok.0) in
    rw (c.push_reserved.ensures.items, c.var.ensures.same, level) (trail_by _ _ _ _ _ _ _ (kept_assign _ _ _ _ _ _ _ c.self.invariant c.args.lit c.args.reason u (omega arith) fits))
