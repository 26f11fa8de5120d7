use Rattle.std.proofs.Common.{length, refl, subst, inl, inr}
use Rattle.std.proofs.lemmas.Result.{err_from_is_err_and}
use Rattle.cpog_base.specs.declared.limits.Counted.TheVariants as counted
use Rattle.cpog_base.specs.declared.limits.TheConstants.{TEMPLATE_LIMIT}
use Rattle.cpog_base.specs.declared.status.Status.TheVariants as status
use Rattle.refusal_lines.specs.declared.refusal.Refusal.TheVariants as refusal
use Rattle.graph_answers.specs.Answers.{IsGraphTextAnswer, IsCnfAnswer}
use Rattle.graph_answers.specs.Bits.{cnf_length}
use Rattle.graph_answers.specs.Formula.{AreClassesIn}
use Rattle.refusal_lines.specs.Refusal.{Tells}
use Rattle.graph_answers.specs.Refusals.{IsEncodingRefusal}
use Rattle.graph_answers.proofs.FormulaLemmas.{formula_answers}
use Rattle.refusal_lines.proofs.StopLemmas.{stop_map}
use Rattle.graph_answers.proofs.cnf.answer_cnf.Goals as goal

pub returns-in_err-encodable-clause-err : goal.returns-in_err-encodable-clause-err
returns-in_err-encodable-clause-err c =
    let f = c.in_ok-file.file in
    let p = err_from_is_err_and c.from_residual-in_err-encodable.result c.from_residual-in_err-encodable.ensures.1 in
    rw (p.1, p.2) (stop_map (IsEncodingRefusal (cnf_length c.args.options) f) (IsGraphTextAnswer (IsCnfAnswer c.args.options) c.args.bytes.now)
    (λ s x k. inr (record { file = f; is_file = c.in_ok-file.ensures.ok; answer = inl k })) c.in_err-encodable.field-0.0 c.in_err-encodable.ensures.err)

pub returns-in_err-check_size-clause-err : goal.returns-in_err-check_size-clause-err
returns-in_err-check_size-clause-err c =
    let f = c.in_ok-file.file in
    let q = c.in_ok-question.question in
    let classes = subst (λ file. AreClassesIn c.args.options file (length q.given.items) q.bits q.classes) c.in_ok-encodable.ensures.ok.file c.in_ok-question.ensures.classes in
    let p = err_from_is_err_and c.from_residual-in_err-check_size.result c.from_residual-in_err-check_size.ensures.1 in
    rw (p.1, p.2) (stop_map (Tells status.Limit (refusal.Limit counted.Template TEMPLATE_LIMIT)) (IsGraphTextAnswer (IsCnfAnswer c.args.options) c.args.bytes.now)
    (λ s x k. inr (record {
      file = f;
      is_file = c.in_ok-file.ensures.ok;
      answer = inr (inl (
        k.0,
        record {
          scenarios = length q.given.items;
          bits = q.bits;
          classes = q.classes;
          in_file = classes;
          large = c.in_err-check_size.ensures.large;
          output_is = k.1;
        },
      ));
    })) c.in_err-check_size.field-0.0 c.in_err-check_size.ensures.err)

pub returns-clause-ok : goal.returns-clause-ok
returns-clause-ok c =
    let f = c.in_ok-file.file in
    let q = c.in_ok-question.question in
    let classes = subst (λ file. AreClassesIn c.args.options file (length q.given.items) q.bits q.classes) c.in_ok-encodable.ensures.ok.file c.in_ok-question.ensures.classes in
    inr (record {
      file = f;
      is_file = c.in_ok-file.ensures.ok;
      answer = inr (inr (
        refl,
        formula_answers c.args.options f (length q.given.items) q.bits q.classes
            c.in_ok-question.ensures.question.some_bits classes c.in_ok-output.output.items c.in_ok-check_size.ensures.ok c.in_ok-output.ensures,
      ));
    })
