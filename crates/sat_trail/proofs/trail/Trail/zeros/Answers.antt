use Rattle.std.proofs.Common.{◌≡◌, ◌<◌, ◌≤◌, ℕ, length, subst, arith, slice_index_or}
use Rattle.std.proofs.lemmas.List.{get_or_read}
use Rattle.sat_trail.specs.Trails.{TrailState, entry_at}
use Rattle.sat_trail.proofs.CutLemmas.{zeros_none, zeros_low, zeros_high}
use Rattle.sat_trail.proofs.trail.Trail.zeros.Goals as goal

pub returns-then-len-eq0-clause-low : goal.returns-then-len-eq0-clause-low
returns-then-len-eq0-clause-low c =
    subst (λ (v : TrailState). (p : ℕ) → p < c.len-then-len-eq0.result → (entry_at v.entries p).level ≡ 0) c.self.view_is
    (λ p h. zeros_none _ _ _ _ _ _ _ c.self.invariant (omega arith) p (omega (arith, h, c.self.inside.lits.ok.0)))

pub returns-else-len-eq0-clause-low : goal.returns-else-len-eq0-clause-low
returns-else-len-eq0-clause-low c =
    let some : 0 < length c.self.inside.starts.items = omega (arith, c.self.inside.starts.ok.0) in
    let read : c.index.result.now ≡ slice_index_or c.self.inside.starts.items 0 0 = get_or_read c.self.inside.starts.items 0 _ some c.index.ensures 0 in
    subst (λ (v : TrailState). (p : ℕ) → p < c.index.result.now → (entry_at v.entries p).level ≡ 0) c.self.view_is
    (λ p h. zeros_low _ _ _ _ _ _ _ c.self.invariant some p (omega (arith, h, read)))

pub returns-else-len-eq0-clause-high : goal.returns-else-len-eq0-clause-high
returns-else-len-eq0-clause-high c =
    let some : 0 < length c.self.inside.starts.items = omega (arith, c.self.inside.starts.ok.0) in
    let read : c.index.result.now ≡ slice_index_or c.self.inside.starts.items 0 0 = get_or_read c.self.inside.starts.items 0 _ some c.index.ensures 0 in
    subst (λ (v : TrailState). (p : ℕ) → c.index.result.now ≤ p → p < length v.entries → 0 < (entry_at v.entries p).level) c.self.view_is
    (λ p le h. zeros_high _ _ _ _ _ _ _ c.self.invariant some p (omega (arith, le, read)) h)
