use Rattle.std.proofs.Common.{◌≡◌, ◌≤◌, length, sym, subst, ◌∙◌, ap, inr, arith}
use Rattle.std.proofs.lemmas.Result.{err_from_is_err_and}
use Rattle.cpog_base.specs.declared.status.Status.TheVariants as status
use Rattle.graph_answers.specs.Bits.{IsBits}
use Rattle.refusal_lines.specs.Refusal.{At}
use Rattle.graph_answers.specs.Refusals.{IsManyAnswer, IsOrdersRefusal, IsEncodingRefusal}
use Rattle.graph_answers.proofs.RefusalLemmas.{orders_refused}
use Rattle.refusal_lines.proofs.StopLemmas.{stop_map}
use Rattle.graph_answers.proofs.encodable.encodable_of.Goals as goal

pub returns-in_err-orders-clause-err : goal.returns-in_err-orders-clause-err
returns-in_err-orders-clause-err c =
    let p = err_from_is_err_and c.from_residual-in_err-orders.result c.from_residual-in_err-orders.ensures.1 in
    rw (p.1, p.2) (stop_map (IsOrdersRefusal c.args.file) (IsEncodingRefusal c.args.asked c.args.file) (orders_refused c.args.asked c.args.file) c.in_err-orders.field-0.0 c.in_err-orders.ensures.err)

pub returns-in_err-bits-clause-err : goal.returns-in_err-bits-clause-err
returns-in_err-bits-clause-err c =
    let p = err_from_is_err_and c.from_residual-in_err-bits.result c.from_residual-in_err-bits.ensures.1 in
    rw (p.1, p.2) (stop_map (At status.Limit (IsManyAnswer c.args.asked c.args.file)) (IsEncodingRefusal c.args.asked c.args.file) (λ s x k. inr (inr (inr (inr (inr k))))) c.in_err-bits.field-0.0 c.in_err-bits.ensures.err)

pub returns-in_err-covered_orders-clause-err : goal.returns-in_err-covered_orders-clause-err
returns-in_err-covered_orders-clause-err c =
    let p = err_from_is_err_and c.from_residual-in_err-covered_orders.result c.from_residual-in_err-covered_orders.ensures.1 in
    rw (p.1, p.2) tt

pub returns-clause-ok : goal.returns-clause-ok
returns-clause-ok c =
    let size : length c.deref.result.now ≡ length c.in_ok-orders.orders.items = ap length c.deref.ensures.value in
    let same : c.in_ok-covered_orders.field-0.items ≡ c.in_ok-orders.orders.items = c.in_ok-covered_orders.ensures in
    record {
      file = c.file.view_is;
      names = c.into_scenarios.ensures ∙ c.in_ok-scope.ensures.scenarios;
      some = rw same c.in_ok-orders.ensures.some;
      few = rw same c.in_ok-orders.ensures.few;
      orders = rw same c.in_ok-orders.ensures.orders;
      different = rw same c.in_ok-orders.ensures.different;
      bits = rw same (subst (λ n. IsBits c.args.asked n c.in_ok-bits.bits) size c.in_ok-bits.ensures.bits);
      some_bit = c.in_ok-bits.ensures.some;
      least = c.in_ok-bits.ensures.least;
      few_bits = c.in_ok-bits.ensures.few;
      enough = rw same (omega (arith, size, c.in_ok-bits.ensures.enough));
    }
