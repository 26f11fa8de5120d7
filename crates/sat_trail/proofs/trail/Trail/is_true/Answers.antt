use Rattle.std.proofs.Common.{◌≡◌, ◌<◌, ◌≤◌, subst, sym, ap, ◌∙◌, slice_index_or, arith, length}
use Rattle.std.proofs.lemmas.List.{get_or_read}
use Rattle.clause_arena.specs.Clauses.{In}
use Rattle.sat_trail.specs.Trails.{true_lits}
use Rattle.sat_trail.specs.Kept.{value_at}
use Rattle.sat_trail.specs.declared.value.Value.TheVariants.{Open, True, False}
use Rattle.sat_trail.proofs.LitLemmas.{code_fits, code_positive}
use Rattle.sat_trail.proofs.TrailLemmas.{true_by, not_true}
use Rattle.sat_trail.proofs.trail.Trail.is_true.Goals as goal

pub returns-in-True : goal.returns-in-True
returns-in-True c =
    let a = c.self.inside in
    let fits : c.args.lit.var ≤ length a.infos.items = subst (λ v. c.args.lit.var ≤ v.variables) (sym c.self.view_is) c.requires in
    let in_range : c.code.result < length a.values.items = omega (arith, c.self.invariant.same, c.code.ensures.same, code_fits c.args.lit (length a.infos.items) fits) in
    let read : value_at a.values.items c.args.lit ≡ True = ap (λ q. slice_index_or a.values.items q Open) (sym c.code.ensures.same) ∙ sym (get_or_read a.values.items c.code.result _ in_range c.index.ensures Open) ∙ c.in-True.is in
    subst (λ v. In (c.args.lit) (true_lits v.entries)) c.self.view_is (true_by _ _ _ _ _ _ _ c.self.invariant c.args.lit (code_positive c.args.lit (omega arith)) fits read)

pub returns-in-False : goal.returns-in-False
returns-in-False c =
    let a = c.self.inside in
    let fits : c.args.lit.var ≤ length a.infos.items = subst (λ v. c.args.lit.var ≤ v.variables) (sym c.self.view_is) c.requires in
    let in_range : c.code.result < length a.values.items = omega (arith, c.self.invariant.same, c.code.ensures.same, code_fits c.args.lit (length a.infos.items) fits) in
    let read : value_at a.values.items c.args.lit ≡ False = ap (λ q. slice_index_or a.values.items q Open) (sym c.code.ensures.same) ∙ sym (get_or_read a.values.items c.code.result _ in_range c.index.ensures Open) ∙ c.in-False.is in
    subst (λ v. In (c.args.lit) (true_lits v.entries) → ⊥) c.self.view_is (not_true _ _ _ _ _ _ _ c.self.invariant c.args.lit (λ e. let h : False ≡ True = sym read ∙ e in cc))

pub returns-in-Open : goal.returns-in-Open
returns-in-Open c =
    let a = c.self.inside in
    let fits : c.args.lit.var ≤ length a.infos.items = subst (λ v. c.args.lit.var ≤ v.variables) (sym c.self.view_is) c.requires in
    let in_range : c.code.result < length a.values.items = omega (arith, c.self.invariant.same, c.code.ensures.same, code_fits c.args.lit (length a.infos.items) fits) in
    let read : value_at a.values.items c.args.lit ≡ Open = ap (λ q. slice_index_or a.values.items q Open) (sym c.code.ensures.same) ∙ sym (get_or_read a.values.items c.code.result _ in_range c.index.ensures Open) ∙ c.in-Open.is in
    subst (λ v. In (c.args.lit) (true_lits v.entries) → ⊥) c.self.view_is (not_true _ _ _ _ _ _ _ c.self.invariant c.args.lit (λ e. let h : Open ≡ True = sym read ∙ e in cc))
