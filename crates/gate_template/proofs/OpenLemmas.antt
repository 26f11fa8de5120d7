-- With every bit open nothing is given.
use Rattle.std.proofs.Common.{◌≡◌, ℕ, zero, suc, List, [], ◌++◌, get_or, refl, sym, ap, ap₂, ◌∙◌}
use Rattle.cpog_defs.specs.declared.types.Bit3.{Bit3}
use Rattle.cpog_defs.specs.Codes.{open_patterns}
use Rattle.cpog_defs.specs.Entries.{entry_at}
use Rattle.cpog_defs.specs.Orders.{each_below}
use Rattle.gate_template.specs.declared.types.Shape.{Shape}
use Rattle.gate_template.specs.declared.types.Template.TheVariants.{Second, Third}
use Rattle.gate_template.specs.Families.{NamedLiteral, as_clauses, code_clauses, gate_clauses, class_clauses, given_bit, given_pattern, given_clauses, zero_clauses}
use Rattle.gate_template.specs.Templates.{shape_of, template}
use Rattle.gate_template.proofs.LiftLemmas.{open_at}
use Rattle.gate_template.proofs.NumberLemmas.{all_zero_is}

none_below : {A : Type 0} (f : ℕ → List A) (n : ℕ) → ((i : ℕ) → f i ≡ []) → each_below f n ≡ []
none_below f zero h = refl
none_below f (suc n) h = ap₂ (λ a b. a ++ b) (none_below f n h) (h n)

given_none : (z : Shape) (n : ℕ) → given_clauses z (open_patterns n) ≡ []
unfolding given_clauses
given_none z n = none_below (λ s. given_pattern z s (get_or (open_patterns n) s [])) z.scenarios (λ s.
    none_below (λ i. given_bit s i (entry_at (get_or (open_patterns n) s []) i)) z.bits (λ i. ap (given_bit s i) (open_at n s i)))

pub second_is_third : (n bits gates : ℕ) (columns : List (List Bit3)) → template Second (open_patterns n) bits gates columns ≡ template Third (open_patterns n) bits gates columns
second_is_third n bits gates columns =
    let z : Shape = shape_of (open_patterns n) bits gates columns in
    let rest : List (List NamedLiteral) → List (List NamedLiteral) = λ more. code_clauses z ++ (gate_clauses z ++ (class_clauses z columns ++ more)) in
    ap (λ zeros. as_clauses z (rest zeros)) (all_zero_is z n)
    ∙ ap (λ given. as_clauses z (rest (given ++ zero_clauses z (open_patterns n)))) (sym (given_none z n))
