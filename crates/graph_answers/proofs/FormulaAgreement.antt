-- A file has one formula under the same options.
use Rattle.std.proofs.Common.{◌≡◌, ℕ, List, length, sym, ap, ◌∙◌, subst, arith, inl, inr}
use Rattle.cpog_base.specs.declared.status.Status.{Status}
use Rattle.cpog_base.specs.declared.status.Status.TheVariants as status
use Rattle.cpog_defs.specs.Graphs.{IsPlace}
use Rattle.clause_arena.specs.Arenas.{literals}
use Rattle.cpog_merge.specs.Columns.{AreColumnsOf, AreSameColumns}
use Rattle.cpog_merge.specs.Classes.{Classes}
use Rattle.cpog_merge.proofs.AgreeLemmas.{classes_are_one_lem}
use Rattle.cpog_merge.proofs.SameLemmas.{same_classes}
use Rattle.dimacs_text.specs.Writing.{formula_lines}
use Rattle.gate_template.specs.declared.types.Template.TheVariants.{Second}
use Rattle.gate_template.specs.Templates.{shape_of, template}
use Rattle.gate_template.specs.Variables.{variables}
use Rattle.line_text.specs.Lines.{text_of}
use Rattle.pg_text.specs.Contents.{Contents}
use Rattle.command_words.specs.declared.words.CnfOptions.{CnfOptions}
use Rattle.graph_answers.specs.Answers.{IsCnfAnswer}
use Rattle.graph_answers.specs.Bits.{cnf_length, IsBits}
use Rattle.graph_answers.specs.Good.{CanBeEncoded, CanBeAsked}
use Rattle.graph_answers.specs.Formula.{AreClassesIn, open_template, open_variables, comment_text, IsLargeAnswer, IsFormulaAnswer}
use Rattle.refusal_lines.specs.Refusal.{At}
use Rattle.graph_answers.specs.Synthesis.{free_patterns}
use Rattle.graph_answers.proofs.BitLemmas.{one_bits}
use Rattle.refusal_lines.proofs.Causes.{Cause, IsOne, either, one_at, one_either}
use Rattle.graph_answers.proofs.FileAgreement.{encoding_answers_agree, not_refused}
use Rattle.graph_answers.proofs.OrderAgreement.{one_orders}
use Rattle.graph_answers.proofs.RefusalLemmas.{some_stated}

module _ (options : CnfOptions) (f : Contents) where
  -- a file has one number of scenarios and of bits, and one list of columns of classes
  module _ (n m b c : ℕ) (cs ds : Classes) (h : AreClassesIn options f n b cs) (k : AreClassesIn options f m c ds) where
    orders : h.orders ≡ k.orders
    orders = one_orders f h.orders k.orders h.of_file k.of_file

    number : n ≡ m
    number = h.number ∙ ap length orders ∙ sym k.number

    bits : b ≡ c
    bits = one_bits (cnf_length options) (length k.orders) b c (subst (λ os. IsBits (cnf_length options) (length os) b) orders h.bits_are) k.bits_are

    same_columns : AreSameColumns h.columns k.columns
    same_columns =
        let are : AreColumnsOf k.orders h.columns = subst (λ os. AreColumnsOf os h.columns) orders h.are_columns in
        record {
          count = are.count ∙ sym k.are_columns.count;
          columns = λ p l. are.columns p (subst (λ count. IsPlace count p) are.count l) ∙ sym (k.are_columns.columns p (subst (λ count. IsPlace count p) are.count l));
        }

    columns : cs.columns ≡ ds.columns
    columns = (classes_are_one_lem k.columns cs ds (same_classes h.columns k.columns cs same_columns h.are_classes) k.are_classes).1

    same_template : open_template n b options.gates cs ≡ open_template m c options.gates ds
    same_template = λ i. template Second (free_patterns (number i) (bits i)) (bits i) options.gates (columns i)

    same_variables : open_variables n b options.gates cs ≡ open_variables m c options.gates ds
    same_variables = λ i. length (variables (shape_of (free_patterns (number i) (bits i)) (bits i) options.gates (columns i)))

    same_comment : comment_text n b options.gates (length cs.columns) ≡ comment_text m c options.gates (length ds.columns)
    same_comment = λ i. comment_text (number i) (bits i) options.gates (length (columns i))

  one_large_answer : (x y : List ℕ) → IsLargeAnswer options f x → IsLargeAnswer options f y → x ≡ y
  one_large_answer x y h k = h.output_is ∙ sym k.output_is

  one_formula_answer : (x y : List ℕ) → IsFormulaAnswer options f x → IsFormulaAnswer options f y → x ≡ y
  one_formula_answer x y h k =
      let comment = same_comment h.scenarios k.scenarios h.bits k.bits h.classes k.classes h.in_file k.in_file in
      let count = same_variables h.scenarios k.scenarios h.bits k.bits h.classes k.classes h.in_file k.in_file in
      let clauses = same_template h.scenarios k.scenarios h.bits k.bits h.classes k.classes h.in_file k.in_file in
      h.output_is ∙ (λ i. text_of (formula_lines (comment i) (count i) (clauses i))) ∙ sym k.output_is

  abbrev large : Cause
  large = At status.Limit (IsLargeAnswer options f)

  abbrev formula : Cause
  formula = At status.Ok (IsFormulaAnswer options f)

  one_of_size : IsOne (either large formula)
  one_of_size =
      one_either large formula (one_at status.Limit (IsLargeAnswer options f) one_large_answer) (one_at status.Ok (IsFormulaAnswer options f) one_formula_answer)
      (λ s t x y h k.
      let same = same_template h.1.scenarios k.1.scenarios h.1.bits k.1.bits h.1.classes k.1.classes h.1.in_file k.1.in_file in
      absurd (omega (arith, h.1.large, k.1.few, ap literals same)))

  can_be_encoded : (n b : ℕ) (cs : Classes) → AreClassesIn options f n b cs → CanBeEncoded (cnf_length options) f
  can_be_encoded n b cs h = record {
    some = some_stated f h.orders h.of_file h.some;
    orders = h.orders;
    of_file = h.of_file;
    different = h.different;
    bits = b;
    bits_are = h.bits_are;
    enough = h.enough;
  }

  encoded : (s : Status) (x : List ℕ) → either large formula s x → CanBeEncoded (cnf_length options) f
  encoded s x (inl h) = can_be_encoded h.1.scenarios h.1.bits h.1.classes h.1.in_file
  encoded s x (inr h) = can_be_encoded h.1.scenarios h.1.bits h.1.classes h.1.in_file

  pub cnf_answers_agree : IsOne (IsCnfAnswer options f)
  cnf_answers_agree = encoding_answers_agree (cnf_length options) f (either large formula) one_of_size encoded

  -- its answer has status 0 where the scenarios can be encoded and the template isn't too large
  pub cnf_is_ok : CanBeAsked options f → (s : Status) (x : List ℕ) → IsCnfAnswer options f s x → s ≡ status.Ok
  cnf_is_ok good s x (inl h) = absurd (not_refused (cnf_length options) f good.encoded s x h)
  cnf_is_ok good s x (inr (inl h)) = absurd (omega (arith, h.1.large, good.few h.1.scenarios h.1.bits h.1.classes h.1.in_file))
  cnf_is_ok good s x (inr (inr h)) = h.0
