use Rattle.std.proofs.Common.{◌≡◌, ◌+◌, ◌*◌, subst, sym, ap, ◌∙◌, arith, refl, replicate}
use Rattle.watch_lists.specs.Watching.{view_of, listed, AreKept}
use Rattle.watch_lists.proofs.MakeLemmas.{end_link, new_kept, new_view}
use Rattle.watch_lists.proofs.watches.Watches.new.Goals as goal

pub invariant_of-result : goal.invariant_of-result
invariant_of-result c =
    let heads = 2 * c.args.variables + 2 in
    let all : c.heads.counter ≡ heads = omega arith in
    let items : c.heads.links.items ≡ replicate heads (end_link c.from_var-no_literal.result) = c.heads.invariant.items ∙ ap (λ q. replicate q (end_link c.from_var-no_literal.result)) all in
    subst (AreKept heads) (sym items) (new_kept c.args.variables heads c.from_var-no_literal.result refl (omega arith))

pub returns : goal.returns
returns c =
    let heads = 2 * c.args.variables + 2 in
    let all : c.heads.counter ≡ heads = omega arith in
    let items : c.heads.links.items ≡ replicate heads (end_link c.from_var-no_literal.result) = c.heads.invariant.items ∙ ap (λ q. replicate q (end_link c.from_var-no_literal.result)) all in
    let v = new_view c.args.variables heads c.from_var-no_literal.result refl in
    (ap (λ q. (view_of heads q).variables) items ∙ v.0, λ k. ap (λ q. listed (view_of heads q) k) items ∙ v.1 k)
