use Rattle.std.proofs.Common.{◌≡◌, ◌-◌, ◌<◌, ℕ, length, subst, sym, ap, ◌∙◌, arith}
use Rattle.std.proofs.lemmas.List.{get_or_read}
use Rattle.sat_trail.specs.Trails.{TrailState, entry_at, IsAssigned}
use Rattle.sat_trail.specs.declared.info.Info.{Info}
use Rattle.sat_trail.specs.Kept.{no_info}
use Rattle.sat_trail.proofs.TrailLemmas.{info_read}
use Rattle.sat_trail.proofs.trail.Trail.level_of.Goals as goal

pub overflow_sub-var : goal.overflow_sub-var
overflow_sub-var c =
    let h = subst (λ v. IsAssigned v.entries c.args.var) (sym c.self.view_is) c.requires in
    omega (arith, (info_read _ _ _ _ _ _ _ c.self.invariant h.0 c.args.var h.1 h.2).2)

pub index-requires : goal.index-requires
index-requires c =
    let h = subst (λ v. IsAssigned v.entries c.args.var) (sym c.self.view_is) c.requires in
    let r = info_read _ _ _ _ _ _ _ c.self.invariant h.0 c.args.var h.1 h.2 in
    omega (arith, r.2, r.3, c.self.inside.infos.ok.0)

pub returns : goal.returns
returns c =
    let a = c.self.inside in
    let h = subst (λ v. IsAssigned v.entries c.args.var) (sym c.self.view_is) c.requires in
    let r = info_read _ _ _ _ _ _ _ c.self.invariant h.0 c.args.var h.1 h.2 in
    let in_range : c.args.var - 1 < length a.infos.items = omega (arith, r.2, r.3) in
    let read = get_or_read a.infos.items (c.args.var - 1) _ in_range c.index.ensures no_info in
    subst (λ (v : TrailState). (q : ℕ) → q < length v.entries → (entry_at v.entries q).lit.var ≡ c.args.var → c.index.result.now.level ≡ (entry_at v.entries q).level) c.self.view_is
    (λ q l e. ap (λ (i : Info). i.level) read ∙ (info_read _ _ _ _ _ _ _ c.self.invariant q c.args.var l e).0)
