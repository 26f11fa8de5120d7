-- The answer of `cnf`: its comment is a line, and its formula asks for an encoding.
use Rattle.std.proofs.Common.{◌≡◌, ℕ, ◌<◌, ◌≤◌, ◌^◌, Bool, true, false, if◌then◌else◌, List, [], ◌∷◌, length, ◌∙◌, subst, inl, inr, refl}
use Rattle.std.specs.Prelude.{◌↔◌, ◌==◌, codes, replicate}
use Rattle.std.specs.Fmt.{decimal}
use Rattle.std.proofs.lemmas.Bool.{false≢true, cases_eq, eq-eqb, ne_eqb}
use Rattle.std.proofs.lemmas.List.{length-replicate}
use Rattle.std.proofs.lemmas.List.Elements.{All-replicate}
use Rattle.cpog_base.specs.declared.limits.TheConstants.{TEMPLATE_LIMIT}
use Rattle.cpog_defs.specs.declared.types.Bit3.TheVariants.{Free}
use Rattle.cpog_defs.specs.Codes.{open_patterns}
use Rattle.clause_arena.specs.Arenas.{literals}
use Rattle.clause_arena.specs.Clauses.{IsSatisfiable}
use Rattle.cpog_merge.specs.Columns.{count_of}
use Rattle.cpog_merge.specs.Classes.{Classes}
use Rattle.dimacs_text.specs.Writing.{formula_lines}
use Rattle.gate_template.specs.declared.types.Template.TheVariants.{Second}
use Rattle.gate_template.specs.Laws.{HasEncodingWithin}
use Rattle.gate_template.specs.Templates.{ArePatterns}
use Rattle.gate_template.proofs.LiftLemmas.{encoding_from}
use Rattle.gate_template.proofs.FromEncodingLemmas.{satisfied_by}
use Rattle.line_text.specs.Lines.{text_of}
use Rattle.text_rows.specs.Lines.{IsUnbroken}
use Rattle.text_rows.proofs.WritingLemmas.{unbroken_both, spaced_unbroken, decimal_word}
use Rattle.pg_text.specs.Contents.{Contents}
use Rattle.command_words.specs.declared.words.CnfOptions.{CnfOptions}
use Rattle.graph_answers.specs.Formula.{AreClassesIn, open_template, open_variables, comment_text, IsFormulaAnswer}
use Rattle.graph_answers.specs.Synthesis.{free_patterns}
use Rattle.graph_answers.proofs.ReportLemmas.{orders_alike}

-- ---- the comment

-- no byte is a line feed or a carriage return
abbrev is_unbroken : List ℕ → Bool
is_unbroken [] = true
is_unbroken (b ∷ bs) = if b == 10 then false else (if b == 13 then false else is_unbroken bs)

unbroken : (w : List ℕ) → is_unbroken w ≡ true → IsUnbroken w
unbroken [] e = tt
unbroken (b ∷ w) e = elim (cases_eq b 10) [
  | inl feed ↦ absurd (false≢true (rw (eq-eqb b 10 feed) at e))
  | inr other ↦ elim (cases_eq b 13) [
    | inl return ↦ absurd (false≢true (rw (ne_eqb b 10 other, eq-eqb b 13 return) at e))
    | inr more ↦ ((other, more), unbroken w (rw (ne_eqb b 10 other, ne_eqb b 13 more) at e))
  ]
]

number_unbroken : (n : ℕ) → n < 2 ^ 64 → IsUnbroken (decimal n)
number_unbroken n small = spaced_unbroken (decimal n ∷ []) (decimal_word n small, tt)

-- it is one line
pub comment_unbroken : (scenarios bits gates classes : ℕ) → scenarios < 2 ^ 64 → bits < 2 ^ 64 → gates < 2 ^ 64 → classes < 2 ^ 64 → IsUnbroken (comment_text scenarios bits gates classes)
comment_unbroken scenarios bits gates classes n b g k =
    unbroken_both (codes "cpog template 2 scenarios ") _ (unbroken (codes "cpog template 2 scenarios ") refl)
    (unbroken_both (decimal scenarios) _ (number_unbroken scenarios n)
    (unbroken_both (codes " bits ") _ (unbroken (codes " bits ") refl)
    (unbroken_both (decimal bits) _ (number_unbroken bits b)
    (unbroken_both (codes " gates ") _ (unbroken (codes " gates ") refl)
    (unbroken_both (decimal gates) _ (number_unbroken gates g)
    (unbroken_both (codes " classes ") (decimal classes) (unbroken (codes " classes ") refl) (number_unbroken classes k)))))))

-- ---- the formula

module _ (options : CnfOptions) (f : Contents) (scenarios bits : ℕ) (classes : Classes) (two : 2 ≤ bits) (in_file : AreClassesIn options f scenarios bits classes) where
  patterns_fit : ArePatterns bits (length in_file.orders) (free_patterns scenarios bits)
  patterns_fit = record {
    one_each = length-replicate scenarios (replicate bits Free) ∙ in_file.number;
    lengths = All-replicate (λ pattern. length pattern ≡ bits) scenarios (replicate bits Free) (length-replicate bits Free);
  }

  -- the formula is satisfiable exactly where there is such an encoding
  pub asks_for_encoding : IsSatisfiable (open_template scenarios bits options.gates classes)
      ↔ HasEncodingWithin (count_of in_file.orders) in_file.orders (open_patterns scenarios) bits options.gates
  asks_for_encoding =
      let alike = orders_alike f in_file.orders in_file.of_file in_file.some in
      let n : length (free_patterns scenarios bits) ≡ scenarios = length-replicate scenarios (replicate bits Free) in
      subst (λ m. IsSatisfiable (open_template scenarios bits options.gates classes) ↔ HasEncodingWithin (count_of in_file.orders) in_file.orders (open_patterns m) bits options.gates) n (
        encoding_from Second in_file.orders (free_patterns scenarios bits) in_file.columns classes bits options.gates alike in_file.are_columns in_file.are_classes patterns_fit,
        satisfied_by Second in_file.orders (free_patterns scenarios bits) in_file.columns classes bits options.gates alike in_file.are_columns in_file.are_classes in_file.some two patterns_fit,
      )

  pub formula_answers : (output : List ℕ) → literals (open_template scenarios bits options.gates classes) ≤ TEMPLATE_LIMIT →
      output ≡ text_of (formula_lines (comment_text scenarios bits options.gates (length classes.columns))
      (open_variables scenarios bits options.gates classes) (open_template scenarios bits options.gates classes)) → IsFormulaAnswer options f output
  formula_answers output few is = record {
    scenarios = scenarios;
    bits = bits;
    classes = classes;
    in_file = in_file;
    few = few;
    asks = asks_for_encoding;
    output_is = is;
  }
