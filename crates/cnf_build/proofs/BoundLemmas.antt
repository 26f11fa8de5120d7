-- The sizes of a template in terms of its number of literals.
use Rattle.std.proofs.Common.{ℕ, ◌+◌, ◌*◌, ◌≤◌, length, List, refl, arith}
use Rattle.std.proofs.Math.Nat.{mul-le-mul_left}
use Rattle.cpog_defs.specs.declared.types.Bit3.{Bit3}
use Rattle.gate_template.specs.declared.types.Shape.{Shape}
use Rattle.gate_template.specs.declared.types.Template.{Template}
use Rattle.gate_template.specs.Counts.{pairs, selections}
use Rattle.gate_template.specs.Variables.{variables}
use Rattle.gate_template.specs.Templates.{shape_of, template}
use Rattle.gate_template.proofs.PlaceLemmas.{length-variables}
use Rattle.gate_template.proofs.CountedLemmas.{gates_le}
use Rattle.gate_template.specs.Counts.{further_count}
use Rattle.gate_template.proofs.SizeLemmas.{clauses_are, literals_are}
use Rattle.clause_arena.specs.Arenas.{literals}
use Rattle.gate_template.specs.Counts.{all_defined}
use Rattle.cnf_build.specs.Sizes.{IsAsked}
use Rattle.cpog_base.specs.declared.limits.TheConstants.{TEMPLATE_LIMIT}
use Rattle.cnf_build.specs.Placed.{IsShape}

variables_le : (n l g k p s e f : ℕ) → 1 ≤ n → n ≤ 64 → 2 ≤ l → l ≤ 8 → g ≤ s →
    n * l + p * l + s + g * 3 + g * n + k * (l + g) + k ≤ 512 + 2 * (p * (l * 6 + l) + ((g * 0 + s * (n * 34 + 1)) + ((k * (l + g) + (l + g) * (e * 6)) + f)))
variables_le n l g k p s e f some few two small le =
    let a : n * l ≤ n * 8 = mul-le-mul_left n small in
    let b : n * g ≤ n * s = mul-le-mul_left n le in
    let c : s * 1 ≤ s * n = mul-le-mul_left s some in
    let sum : 1 ≤ l + g = omega arith in
    let d : k * 1 ≤ k * (l + g) = mul-le-mul_left k sum in
    omega arith

clauses_le : (n l g k p s e f : ℕ) → 1 ≤ n → 2 ≤ l → g ≤ s →
    p * (l * 2 + 1) + ((g * 1 + s * (n * 7 + 0)) + ((k * 1 + (l + g) * (e * 2)) + f)) ≤ p * (l * 6 + l) + ((g * 0 + s * (n * 34 + 1)) + ((k * (l + g) + (l + g) * (e * 6)) + f))
clauses_le n l g k p s e f some two le =
    let one : 1 ≤ l = omega arith in
    let a : p * 1 ≤ p * l = mul-le-mul_left p one in
    let c : s * 1 ≤ s * n = mul-le-mul_left s some in
    let sum : 1 ≤ l + g = omega arith in
    let d : k * 1 ≤ k * (l + g) = mul-le-mul_left k sum in
    omega arith

module _ (kind : Template) (patterns columns : List (List Bit3)) (bits gates : ℕ) (asked : IsAsked patterns bits gates columns) where
  abbrev z : Shape
  z = shape_of patterns bits gates columns

  pub variables_bound : length (variables z) ≤ 512 + 2 * literals (template kind patterns bits gates columns)
  variables_bound =
      rw (length-variables z, literals_are kind z patterns columns refl asked.patterns_fit refl asked.columns_fit)
      (variables_le (length patterns) bits gates (length columns) (pairs (length patterns)) (selections bits gates) (all_defined columns) (further_count kind bits patterns) asked.some asked.few asked.some_bits asked.few_bits (gates_le bits gates asked.some_bits))

  pub clauses_bound : length (template kind patterns bits gates columns) ≤ literals (template kind patterns bits gates columns)
  clauses_bound =
      rw (clauses_are kind z patterns columns refl asked.patterns_fit refl asked.columns_fit, literals_are kind z patterns columns refl asked.patterns_fit refl asked.columns_fit)
      (clauses_le (length patterns) bits gates (length columns) (pairs (length patterns)) (selections bits gates) (all_defined columns) (further_count kind bits patterns) asked.some asked.some_bits (gates_le bits gates asked.some_bits))

  pub is_shape : literals (template kind patterns bits gates columns) ≤ TEMPLATE_LIMIT → IsShape z
  is_shape few = record {
    some_bits = asked.some_bits;
    few_bits = asked.few_bits;
    few_scenarios = asked.few;
    few_gates = asked.few_gates;
    few_variables = omega (arith, variables_bound, length-variables z);
  }
