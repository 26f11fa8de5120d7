use Rattle.std.proofs.Common.{◌≡◌, ◌<◌, length, subst, sym, inl, inr, arith}
use Rattle.std.proofs.lemmas.List.{get_or_read}
use Rattle.std.proofs.lemmas.Bool.{cases_eq}
use Rattle.clause_arena.specs.Clauses.{In, opposite}
use Rattle.sat_trail.specs.Trails.{true_lits, lit_at, no_lit}
use Rattle.watch_lists.proofs.SwapLemmas.{in_place}
use Rattle.watch_lists.proofs.visit.first_open.Goals as goal

pub is_false-requires : goal.is_false-requires
is_false-requires c =
    let i = c.loop-i.i in
    let lt : i < length c.args.clause.now = omega (arith, c.requires.end) in
    let read : c.index-clause-i.result ≡ lit_at c.args.clause.now i = get_or_read c.args.clause.now i _ lt c.index-clause-i.is no_lit in
    c.requires.within _ (subst (λ q. In q c.args.clause.now) (sym read) (in_place c.args.clause.now i lt))

pub loop-i-preserved : goal.loop-i-preserved
loop-i-preserved c =
    let i = c.loop-i.i in
    let lt : i < length c.args.clause.now = omega (arith, c.requires.end) in
    let read : c.index-clause-i.result ≡ lit_at c.args.clause.now i = get_or_read c.args.clause.now i _ lt c.index-clause-i.is no_lit in
    let here : In (opposite (lit_at c.args.clause.now i)) (true_lits c.args.trail.now.entries) = subst (λ q. In (opposite q) (true_lits c.args.trail.now.entries)) read c.if-not-is_false.ensures in
    λ k from below. elim (cases_eq k i) [
      | inl e ↦ subst (λ q. In (opposite (lit_at c.args.clause.now q)) (true_lits c.args.trail.now.entries)) (sym e) here
      | inr ne ↦ c.loop-i.invariant k from (omega (arith, below, ne))
    ]

pub returns : goal.returns
returns c = λ k from below. c.loop-i.invariant k from (omega (arith, from, below))
