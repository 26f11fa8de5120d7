-- The numbers of clauses and literals of a template as products, and a bound on its variables.
use Rattle.std.proofs.Common.{◌≡◌, ℕ, zero, suc, ◌+◌, ◌*◌, ◌≤◌, if◌then◌else◌, IsTrue, List, [], ◌∷◌, length, refl, ◌∙◌, arith}
use Rattle.std.specs.List.{All, list_any}
use Rattle.std.proofs.Math.Nat.{mul-le-mul_left}
use Rattle.std.proofs.lemmas.Bool.{both_ways}
use Rattle.std.proofs.lemmas.List.Sums.{sum_by-cons}
use Rattle.std.proofs.lemmas.List.Elements.{All-head, All-tail}
use Rattle.cpog_defs.specs.declared.types.Bit3.{Bit3}
use Rattle.cpog_defs.specs.declared.types.Bit3.TheVariants.{Zero, One, Free}
use Rattle.cpog_base.specs.Column.{is_one}
use Rattle.cpog_base.specs.Pattern.{is_given}
use Rattle.clause_arena.specs.Arenas.{literals}
use Rattle.gate_core.specs.Columns.{IsOpenColumn}
use Rattle.gate_template.specs.declared.types.Template.{Template}
use Rattle.gate_template.specs.Variables.{variables}
use Rattle.gate_template.specs.Templates.{shape_of, template}
use Rattle.gate_template.specs.Counts.{pairs, selections, defined, all_defined, further_count, IsCounted}
use Rattle.gate_template.proofs.PlaceLemmas.{length-variables}
use Rattle.gate_template.proofs.CountLemmas.{twice_pairs, selections_next}
use Rattle.gate_template.proofs.SizeLemmas.{clauses_are, literals_are}

-- ---- products

clause_products : (p l g k n s e f : ℕ) →
    p * (l * 2 + 1) + ((g * 1 + s * (n * 7 + 0)) + ((k * 1 + (l + g) * (e * 2)) + f)) ≡ p * (2 * l + 1) + g + 7 * n * s + k + 2 * (l + g) * e + f
clause_products p l g k n s e f = omega arith

literal_products : (p l g k n s e f : ℕ) →
    p * (l * 6 + l) + ((g * 0 + s * (n * 34 + 1)) + ((k * (l + g) + (l + g) * (e * 6)) + f)) ≡ 7 * l * p + (34 * n + 1) * s + k * (l + g) + 6 * (l + g) * e + f
literal_products p l g k n s e f = omega arith

pub template_counted : (kind : Template) (patterns columns : List (List Bit3)) (bits gates : ℕ) →
    All (λ pattern. length pattern ≡ bits) patterns → All (λ column. length column ≡ length patterns) columns → IsCounted kind patterns bits gates columns
template_counted kind patterns columns bits gates even fit =
    let z = shape_of patterns bits gates columns in
    let n = length patterns in
    record {
      variables_are = length-variables z;
      clauses_are = clauses_are kind z patterns columns refl even refl fit
          ∙ clause_products (pairs n) bits gates (length columns) n (selections bits gates) (all_defined columns) (further_count kind bits patterns);
      literals_are = literals_are kind z patterns columns refl even refl fit
          ∙ literal_products (pairs n) bits gates (length columns) n (selections bits gates) (all_defined columns) (further_count kind bits patterns);
    }

-- ---- each gate has a pair, and each open column an entry

some_pairs : (m : ℕ) → 2 ≤ m → m ≤ 2 * pairs m
some_pairs m l =
    let h = twice_pairs m in
    let s : m * 2 ≤ m * m = mul-le-mul_left m l in
    omega arith

pub gates_le : (l g : ℕ) → 2 ≤ l → g ≤ selections l g
gates_le l zero two = omega arith
gates_le l (suc g) two = omega (arith, gates_le l g two, selections_next l g, some_pairs (l + g) (omega arith))

some_defined : (column : List Bit3) → IsTrue (list_any is_one column) → 1 ≤ defined column
some_defined [] h = absurd (both_ways _ refl h)
some_defined (One ∷ xs) h = omega (arith, sum_by-cons (λ e. if is_given e then 1 else 0) One xs)
some_defined (Zero ∷ xs) h = omega (arith, sum_by-cons (λ e. if is_given e then 1 else 0) Zero xs)
some_defined (Free ∷ xs) h = omega (arith, sum_by-cons (λ e. if is_given e then 1 else 0) Free xs, some_defined xs h)

columns_le : (n : ℕ) (columns : List (List Bit3)) → All (IsOpenColumn n) columns → length columns ≤ all_defined columns
columns_le n [] opens = omega arith
columns_le n (column ∷ columns) opens =
    omega (
      arith,
      sum_by-cons defined column columns,
      some_defined column (All-head (IsOpenColumn n) column columns opens).some_one,
      columns_le n columns (All-tail (IsOpenColumn n) column columns opens),
    )

-- ---- variables

variables_le : (p l g k n s e f : ℕ) → n ≤ 2 * p → 2 ≤ n → 2 ≤ l → g ≤ s → k ≤ e →
    n * l + p * l + s + g * 3 + g * n + k * (l + g) + k ≤ 7 * l * p + (34 * n + 1) * s + k * (l + g) + 6 * (l + g) * e + f
variables_le p l g k n s e f few some two gates classes =
    let a : l * n ≤ l * (2 * p) = mul-le-mul_left l few in
    let b : n * g ≤ n * s = mul-le-mul_left n gates in
    let c : s * 2 ≤ s * n = mul-le-mul_left s some in
    let sum : 1 ≤ l + g = omega arith in
    let d : e * 1 ≤ e * (l + g) = mul-le-mul_left e sum in
    omega arith

pub variables_few : (kind : Template) (patterns columns : List (List Bit3)) (bits gates : ℕ) → 2 ≤ length patterns → 2 ≤ bits →
    All (λ pattern. length pattern ≡ bits) patterns → All (IsOpenColumn (length patterns)) columns →
    length (variables (shape_of patterns bits gates columns)) ≤ literals (template kind patterns bits gates columns)
variables_few kind patterns columns bits gates some two even opens =
    let n = length patterns in
    let counted = template_counted kind patterns columns bits gates even (λ k d l. (opens k d l).entries) in
    rw (counted.variables_are, counted.literals_are)
    (variables_le (pairs n) bits gates (length columns) n (selections bits gates) (all_defined columns) (further_count kind bits patterns)
    (some_pairs n some) some two (gates_le bits gates two) (columns_le n columns opens))
