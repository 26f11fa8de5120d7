use Rattle.std.proofs.Common.{◌≡◌, ◌<◌, ◌-◌, ◌+◌, ◌++◌, ◌∷◌, [], take, subst, sym, ap, ◌∙◌, arith, length, slice_index_or, vec_len, vec_capacity, refl}
use Rattle.std.proofs.lemmas.List.{get_or_read, take-take, take_all}
use Rattle.sat_trail.specs.Trails.{TrailState, IsTrail, IsCutTo}
use Rattle.sat_trail.specs.Kept.{entries_of}
use Rattle.sat_trail.proofs.TrailLemmas.{trail_by}
use Rattle.sat_trail.proofs.CutLemmas.{IsPart, part_of, pop_part, kept_by, cut_by, cut_none}
use Rattle.sat_trail.proofs.trail.Trail.back_to.Goals as goal

pub returns-then-len-level-clause-cut : goal.returns-then-len-level-clause-cut
returns-then-len-level-clause-cut c =
    let trail = subst IsTrail c.self.view_is (trail_by _ _ _ _ _ _ _ c.self.invariant) in
    let level : c.args.self.now.level ≡ c.args.level = let v : length c.self.inside.starts.items ≡ c.args.self.now.level = ap (λ (t : TrailState). t.level) c.self.view_is in omega (arith, v, c.requires, c.self.inside.starts.ok.0) in
    subst (IsCutTo c.args.self.now c.args.self.now) level (cut_none c.args.self.now trail)

pub returns-then-len-level-clause-valid : goal.returns-then-len-level-clause-valid
returns-then-len-level-clause-valid c = subst IsTrail c.self.view_is (trail_by _ _ _ _ _ _ _ c.self.invariant)

pub pop-init : goal.pop-init
pop-init c = record {
  taken = sym (take_all _ _ (omega (arith, c.self.inside.lits.ok.0)));
  from =
      let a = c.self.inside in
      let low : c.args.level < length a.starts.items = omega (arith, a.starts.ok.0) in
      let start : c.index-start.result.now ≡ slice_index_or a.starts.items c.args.level 0 = get_or_read a.starts.items c.args.level _ low c.index-start.ensures 0 in
      omega (arith, start, c.self.invariant.cuts c.args.level low, a.lits.ok.0);
  upto = omega arith;
  part = part_of _ _ _ _ _ _ _ c.self.invariant;
  infos = refl;
  starts = refl;
  given = refl;
  capacity = refl;
}

pub pop-preserved : goal.pop-preserved
pop-preserved c =
    let less = c.pop-in-pop.ensures.len in
    let e = c.in-Some.ensures.items in
    let part : IsPart (c.pop-in-pop.new.self.items ++ c.in-Some.lit ∷ []) c.pop.self-inside.values.items c.pop.self-inside.infos.items = subst (λ q. IsPart q c.pop.self-inside.values.items c.pop.self-inside.infos.items) e c.pop.invariant.part in
    let one : vec_len c.pop-in-pop.new.self + 1 ≡ vec_len c.pop.self-inside.lits = omega (arith, c.in-Some.ensures.len) in
    let n : vec_len c.pop.self-inside.lits - 1 ≡ vec_len c.pop-in-pop.new.self = omega arith in
    record {
      taken = c.pop-in-pop.ensures.rest ∙ ap (λ q. take q c.pop.self-inside.lits.items) n ∙ ap (take (vec_len c.pop-in-pop.new.self)) c.pop.invariant.taken ∙ take-take (vec_len c.pop-in-pop.new.self) (vec_len c.pop.self-inside.lits) c.self.inside.lits.items (omega arith);
      from = omega arith;
      upto = omega (arith, c.pop.invariant.upto);
      part = rw (c.code-code.ensures.same, c.code-other.ensures.same, c.negated.ensures) (pop_part _ c.in-Some.lit _ _ part);
      infos = c.pop.invariant.infos;
      starts = c.pop.invariant.starts;
      given = c.pop.invariant.given;
      capacity = c.pop-in-pop.ensures.capacity ∙ c.pop.invariant.capacity;
    }

pub invariant_of-self : goal.invariant_of-self
invariant_of-self c =
    let a = c.self.inside in
    let low : c.args.level < length a.starts.items = omega (arith, a.starts.ok.0) in
    let start : c.index-start.result.now ≡ slice_index_or a.starts.items c.args.level 0 = get_or_read a.starts.items c.args.level _ low c.index-start.ensures 0 in
    let n : vec_len c.pop.self-inside.lits ≡ c.index-start.result.now = omega (arith, c.pop.invariant.from) in
    let lits : c.pop.self-inside.lits.items ≡ take c.index-start.result.now a.lits.items = c.pop.invariant.taken ∙ ap (λ q. take q a.lits.items) n in
    let infos : c.pop.self-inside.infos.items ≡ a.infos.items = ap (λ q. q.items) c.pop.invariant.infos in
    let starts : c.truncate.new.self.items ≡ take c.args.level a.starts.items = c.truncate.ensures.items ∙ ap (λ q. take c.args.level q.items) c.pop.invariant.starts in
    let room : vec_capacity c.truncate.new.self ≡ vec_capacity a.starts = c.truncate.ensures.capacity ∙ ap (λ q. vec_capacity q) c.pop.invariant.starts in
    let given : c.pop.self-inside.given ≡ a.given = c.pop.invariant.given in
    (kept_by a.lits.items c.pop.self-inside.lits.items a.values.items c.pop.self-inside.values.items a.infos.items c.pop.self-inside.infos.items a.starts.items c.truncate.new.self.items a.given (vec_capacity a.lits) (vec_capacity a.starts) (vec_capacity c.pop.self-inside.lits) (vec_capacity c.truncate.new.self) c.self.invariant c.args.level c.index-start.result.now low start lits infos starts c.pop.invariant.part c.index-start.result.now (omega arith) c.pop.invariant.capacity room)

pub invariant_of-self-else-self-start : goal.invariant_of-self-else-self-start
invariant_of-self-else-self-start c =
    let a = c.self.inside in
    let low : c.args.level < length a.starts.items = omega (arith, a.starts.ok.0) in
    let start : c.index-start.result.now ≡ slice_index_or a.starts.items c.args.level 0 = get_or_read a.starts.items c.args.level _ low c.index-start.ensures 0 in
    let n : vec_len c.pop.self-inside.lits ≡ c.index-start.result.now = omega (arith, c.pop.invariant.from) in
    let lits : c.pop.self-inside.lits.items ≡ take c.index-start.result.now a.lits.items = c.pop.invariant.taken ∙ ap (λ q. take q a.lits.items) n in
    let infos : c.pop.self-inside.infos.items ≡ a.infos.items = ap (λ q. q.items) c.pop.invariant.infos in
    let starts : c.truncate.new.self.items ≡ take c.args.level a.starts.items = c.truncate.ensures.items ∙ ap (λ q. take c.args.level q.items) c.pop.invariant.starts in
    let room : vec_capacity c.truncate.new.self ≡ vec_capacity a.starts = c.truncate.ensures.capacity ∙ ap (λ q. vec_capacity q) c.pop.invariant.starts in
    let given : c.pop.self-inside.given ≡ a.given = c.pop.invariant.given in
    (kept_by a.lits.items c.pop.self-inside.lits.items a.values.items c.pop.self-inside.values.items a.infos.items c.pop.self-inside.infos.items a.starts.items c.truncate.new.self.items a.given (vec_capacity a.lits) (vec_capacity a.starts) (vec_capacity c.pop.self-inside.lits) (vec_capacity c.truncate.new.self) c.self.invariant c.args.level c.index-start.result.now low start lits infos starts c.pop.invariant.part c.pop.self-inside.given (omega arith) c.pop.invariant.capacity room)

pub returns-then-self-start-clause-cut : goal.returns-then-self-start-clause-cut
returns-then-self-start-clause-cut c =
    let a = c.self.inside in
    let low : c.args.level < length a.starts.items = omega (arith, a.starts.ok.0) in
    let start : c.index-start.result.now ≡ slice_index_or a.starts.items c.args.level 0 = get_or_read a.starts.items c.args.level _ low c.index-start.ensures 0 in
    let n : vec_len c.pop.self-inside.lits ≡ c.index-start.result.now = omega (arith, c.pop.invariant.from) in
    let lits : c.pop.self-inside.lits.items ≡ take c.index-start.result.now a.lits.items = c.pop.invariant.taken ∙ ap (λ q. take q a.lits.items) n in
    let infos : c.pop.self-inside.infos.items ≡ a.infos.items = ap (λ q. q.items) c.pop.invariant.infos in
    let starts : c.truncate.new.self.items ≡ take c.args.level a.starts.items = c.truncate.ensures.items ∙ ap (λ q. take c.args.level q.items) c.pop.invariant.starts in
    let room : vec_capacity c.truncate.new.self ≡ vec_capacity a.starts = c.truncate.ensures.capacity ∙ ap (λ q. vec_capacity q) c.pop.invariant.starts in
    let given : c.pop.self-inside.given ≡ a.given = c.pop.invariant.given in
    subst (λ (t : TrailState). IsCutTo t (record { entries = entries_of c.pop.self-inside.lits.items c.pop.self-inside.infos.items; level = length c.truncate.new.self.items; given = c.index-start.result.now; variables = length c.pop.self-inside.infos.items }) c.args.level) c.self.view_is (cut_by a.lits.items c.pop.self-inside.lits.items a.values.items c.pop.self-inside.values.items a.infos.items c.pop.self-inside.infos.items a.starts.items c.truncate.new.self.items a.given (vec_capacity a.lits) (vec_capacity a.starts) (vec_capacity c.pop.self-inside.lits) (vec_capacity c.truncate.new.self) c.self.invariant c.args.level c.index-start.result.now low start lits infos starts c.pop.invariant.part c.index-start.result.now (omega arith) (λ h. omega (arith, h)) (λ h. omega (arith, h)))

pub returns-then-self-start-clause-valid : goal.returns-then-self-start-clause-valid
returns-then-self-start-clause-valid c =
    let a = c.self.inside in
    let low : c.args.level < length a.starts.items = omega (arith, a.starts.ok.0) in
    let start : c.index-start.result.now ≡ slice_index_or a.starts.items c.args.level 0 = get_or_read a.starts.items c.args.level _ low c.index-start.ensures 0 in
    let n : vec_len c.pop.self-inside.lits ≡ c.index-start.result.now = omega (arith, c.pop.invariant.from) in
    let lits : c.pop.self-inside.lits.items ≡ take c.index-start.result.now a.lits.items = c.pop.invariant.taken ∙ ap (λ q. take q a.lits.items) n in
    let infos : c.pop.self-inside.infos.items ≡ a.infos.items = ap (λ q. q.items) c.pop.invariant.infos in
    let starts : c.truncate.new.self.items ≡ take c.args.level a.starts.items = c.truncate.ensures.items ∙ ap (λ q. take c.args.level q.items) c.pop.invariant.starts in
    let room : vec_capacity c.truncate.new.self ≡ vec_capacity a.starts = c.truncate.ensures.capacity ∙ ap (λ q. vec_capacity q) c.pop.invariant.starts in
    let given : c.pop.self-inside.given ≡ a.given = c.pop.invariant.given in
    trail_by _ _ _ _ _ _ _ (kept_by a.lits.items c.pop.self-inside.lits.items a.values.items c.pop.self-inside.values.items a.infos.items c.pop.self-inside.infos.items a.starts.items c.truncate.new.self.items a.given (vec_capacity a.lits) (vec_capacity a.starts) (vec_capacity c.pop.self-inside.lits) (vec_capacity c.truncate.new.self) c.self.invariant c.args.level c.index-start.result.now low start lits infos starts c.pop.invariant.part c.index-start.result.now (omega arith) c.pop.invariant.capacity room)

pub returns-else-self-start-clause-cut : goal.returns-else-self-start-clause-cut
returns-else-self-start-clause-cut c =
    let a = c.self.inside in
    let low : c.args.level < length a.starts.items = omega (arith, a.starts.ok.0) in
    let start : c.index-start.result.now ≡ slice_index_or a.starts.items c.args.level 0 = get_or_read a.starts.items c.args.level _ low c.index-start.ensures 0 in
    let n : vec_len c.pop.self-inside.lits ≡ c.index-start.result.now = omega (arith, c.pop.invariant.from) in
    let lits : c.pop.self-inside.lits.items ≡ take c.index-start.result.now a.lits.items = c.pop.invariant.taken ∙ ap (λ q. take q a.lits.items) n in
    let infos : c.pop.self-inside.infos.items ≡ a.infos.items = ap (λ q. q.items) c.pop.invariant.infos in
    let starts : c.truncate.new.self.items ≡ take c.args.level a.starts.items = c.truncate.ensures.items ∙ ap (λ q. take c.args.level q.items) c.pop.invariant.starts in
    let room : vec_capacity c.truncate.new.self ≡ vec_capacity a.starts = c.truncate.ensures.capacity ∙ ap (λ q. vec_capacity q) c.pop.invariant.starts in
    let given : c.pop.self-inside.given ≡ a.given = c.pop.invariant.given in
    subst (λ (t : TrailState). IsCutTo t (record { entries = entries_of c.pop.self-inside.lits.items c.pop.self-inside.infos.items; level = length c.truncate.new.self.items; given = c.pop.self-inside.given; variables = length c.pop.self-inside.infos.items }) c.args.level) c.self.view_is (cut_by a.lits.items c.pop.self-inside.lits.items a.values.items c.pop.self-inside.values.items a.infos.items c.pop.self-inside.infos.items a.starts.items c.truncate.new.self.items a.given (vec_capacity a.lits) (vec_capacity a.starts) (vec_capacity c.pop.self-inside.lits) (vec_capacity c.truncate.new.self) c.self.invariant c.args.level c.index-start.result.now low start lits infos starts c.pop.invariant.part c.pop.self-inside.given (omega arith) (λ h. omega (arith, h)) (λ h. omega (arith, h)))

pub returns-else-self-start-clause-valid : goal.returns-else-self-start-clause-valid
returns-else-self-start-clause-valid c =
    let a = c.self.inside in
    let low : c.args.level < length a.starts.items = omega (arith, a.starts.ok.0) in
    let start : c.index-start.result.now ≡ slice_index_or a.starts.items c.args.level 0 = get_or_read a.starts.items c.args.level _ low c.index-start.ensures 0 in
    let n : vec_len c.pop.self-inside.lits ≡ c.index-start.result.now = omega (arith, c.pop.invariant.from) in
    let lits : c.pop.self-inside.lits.items ≡ take c.index-start.result.now a.lits.items = c.pop.invariant.taken ∙ ap (λ q. take q a.lits.items) n in
    let infos : c.pop.self-inside.infos.items ≡ a.infos.items = ap (λ q. q.items) c.pop.invariant.infos in
    let starts : c.truncate.new.self.items ≡ take c.args.level a.starts.items = c.truncate.ensures.items ∙ ap (λ q. take c.args.level q.items) c.pop.invariant.starts in
    let room : vec_capacity c.truncate.new.self ≡ vec_capacity a.starts = c.truncate.ensures.capacity ∙ ap (λ q. vec_capacity q) c.pop.invariant.starts in
    let given : c.pop.self-inside.given ≡ a.given = c.pop.invariant.given in
    trail_by _ _ _ _ _ _ _ (kept_by a.lits.items c.pop.self-inside.lits.items a.values.items c.pop.self-inside.values.items a.infos.items c.pop.self-inside.infos.items a.starts.items c.truncate.new.self.items a.given (vec_capacity a.lits) (vec_capacity a.starts) (vec_capacity c.pop.self-inside.lits) (vec_capacity c.truncate.new.self) c.self.invariant c.args.level c.index-start.result.now low start lits infos starts c.pop.invariant.part c.pop.self-inside.given (omega arith) c.pop.invariant.capacity room)
