use Rattle.std.proofs.Common.{◌≡◌, ◌<◌, ◌≤◌, ◌+◌, ◌-◌, ◌*◌, ◌/◌, ◌^◌, ◌++◌, List, replicate, subst, sym, ap, ◌∙◌, arith, length}
use Rattle.watch_lists.specs.Watching.{Watching, view_of, listed, reserved}
use Rattle.watch_lists.specs.declared.link.Link.{Link}
use Rattle.watch_lists.proofs.MakeLemmas.{free_link, more_kept, more_view, more_reserved}
use Rattle.watch_lists.proofs.FitLemmas.{reserved_is, variables_is}
use Rattle.watch_lists.proofs.watches.Watches.reserve.Goals as goal

pub returns-then-wanted-there-clause-reserved : goal.returns-then-wanted-there-clause-reserved
returns-then-wanted-there-clause-reserved c =
    let w = c.self.invariant.whole in
    subst (λ q. c.args.clauses ≤ reserved q) c.self.view_is (rw (reserved_is _ _ w.0 w.1) (omega (arith, w.1, c.self.inside.links.ok.0)))

pub invariant_of-self-in-places : goal.invariant_of-self-in-places
invariant_of-self-in-places c =
    let a = c.self.inside in
    let w = c.self.invariant.whole in
    let d = a.heads + 2 * c.args.clauses - length a.links.items in
    let len : length a.links.items ≡ c.len-there.result = omega (arith, a.links.ok.0) in
    let all : c.places.counter ≡ d = omega arith in
    let grown : a.heads + 2 * c.args.clauses ≡ length a.links.items + d = omega arith in
    let few : a.heads + 2 * c.args.clauses < 2 ^ 32 = omega arith in
    let items : c.places.self-inside.links.items ≡ a.links.items ++ replicate d (free_link c.from_var-no_literal.result) = c.places.invariant.items ∙ ap (λ (q : List Link). q ++ replicate c.places.counter (free_link c.from_var-no_literal.result)) c.in_ok-reserve.ensures.items ∙ ap (λ q. a.links.items ++ replicate q (free_link c.from_var-no_literal.result)) all in
    rw (c.places.invariant.heads, items) (more_kept a.links.items d c.from_var-no_literal.result a.heads w.0 c.args.clauses c.self.invariant w.1 grown few)

pub returns-clause-variables : goal.returns-clause-variables
returns-clause-variables c = variables_is _ _ ∙ ap (λ q. q / 2 - 1) c.places.invariant.heads ∙ sym (variables_is _ _) ∙ ap (λ (q : Watching). q.variables) c.self.view_is

pub returns-clause-listed : goal.returns-clause-listed
returns-clause-listed c =
    let a = c.self.inside in
    let w = c.self.invariant.whole in
    let d = a.heads + 2 * c.args.clauses - length a.links.items in
    let len : length a.links.items ≡ c.len-there.result = omega (arith, a.links.ok.0) in
    let all : c.places.counter ≡ d = omega arith in
    let grown : a.heads + 2 * c.args.clauses ≡ length a.links.items + d = omega arith in
    let few : a.heads + 2 * c.args.clauses < 2 ^ 32 = omega arith in
    let items : c.places.self-inside.links.items ≡ a.links.items ++ replicate d (free_link c.from_var-no_literal.result) = c.places.invariant.items ∙ ap (λ (q : List Link). q ++ replicate c.places.counter (free_link c.from_var-no_literal.result)) c.in_ok-reserve.ensures.items ∙ ap (λ q. a.links.items ++ replicate q (free_link c.from_var-no_literal.result)) all in
    λ k. ap (λ q. listed (view_of q c.places.self-inside.links.items) k) c.places.invariant.heads ∙ ap (λ q. listed (view_of a.heads q) k) items ∙ more_view a.links.items d c.from_var-no_literal.result a.heads w.0 c.args.clauses k c.self.invariant w.1 grown ∙ ap (λ q. listed q k) c.self.view_is

pub returns-clause-reserved : goal.returns-clause-reserved
returns-clause-reserved c =
    let a = c.self.inside in
    let w = c.self.invariant.whole in
    let d = a.heads + 2 * c.args.clauses - length a.links.items in
    let len : length a.links.items ≡ c.len-there.result = omega (arith, a.links.ok.0) in
    let all : c.places.counter ≡ d = omega arith in
    let grown : a.heads + 2 * c.args.clauses ≡ length a.links.items + d = omega arith in
    let few : a.heads + 2 * c.args.clauses < 2 ^ 32 = omega arith in
    let items : c.places.self-inside.links.items ≡ a.links.items ++ replicate d (free_link c.from_var-no_literal.result) = c.places.invariant.items ∙ ap (λ (q : List Link). q ++ replicate c.places.counter (free_link c.from_var-no_literal.result)) c.in_ok-reserve.ensures.items ∙ ap (λ q. a.links.items ++ replicate q (free_link c.from_var-no_literal.result)) all in
    let r = ap (λ q. reserved (view_of q c.places.self-inside.links.items)) c.places.invariant.heads ∙ ap (λ q. reserved (view_of a.heads q)) items ∙ more_reserved a.links.items d c.from_var-no_literal.result a.heads c.args.clauses grown in
    rw r (omega arith)

pub returns-clause-more : goal.returns-clause-more
returns-clause-more c =
    let a = c.self.inside in
    let w = c.self.invariant.whole in
    let d = a.heads + 2 * c.args.clauses - length a.links.items in
    let len : length a.links.items ≡ c.len-there.result = omega (arith, a.links.ok.0) in
    let all : c.places.counter ≡ d = omega arith in
    let grown : a.heads + 2 * c.args.clauses ≡ length a.links.items + d = omega arith in
    let few : a.heads + 2 * c.args.clauses < 2 ^ 32 = omega arith in
    let items : c.places.self-inside.links.items ≡ a.links.items ++ replicate d (free_link c.from_var-no_literal.result) = c.places.invariant.items ∙ ap (λ (q : List Link). q ++ replicate c.places.counter (free_link c.from_var-no_literal.result)) c.in_ok-reserve.ensures.items ∙ ap (λ q. a.links.items ++ replicate q (free_link c.from_var-no_literal.result)) all in
    let r = ap (λ q. reserved (view_of q c.places.self-inside.links.items)) c.places.invariant.heads ∙ ap (λ q. reserved (view_of a.heads q)) items ∙ more_reserved a.links.items d c.from_var-no_literal.result a.heads c.args.clauses grown in
    let old : reserved c.args.self.now ≡ w.0 = sym (ap reserved c.self.view_is) ∙ reserved_is _ _ w.0 w.1 in
    rw (r, old) (omega (arith, w.1))
