-- The variables of the clauses that are made are those of the template.
use Rattle.std.proofs.Common.{◌≡◌, ℕ, ◌≤◌, IsTrue, List, [], ◌++◌, length, sym, ap₂, ◌∙◌, subst}
use Rattle.cpog_defs.specs.declared.types.Bit3.{Bit3}
use Rattle.clause_arena.specs.Clauses.{Clause}
use Rattle.clause_arena.specs.Formulas.{are_within}
use Rattle.gate_template.specs.declared.types.Shape.{Shape}
use Rattle.gate_template.specs.declared.types.Template.{Template}
use Rattle.gate_template.specs.Variables.{variables}
use Rattle.gate_template.specs.Families.{as_clauses}
use Rattle.gate_template.specs.Templates.{shape_of, named_template, template}
use Rattle.gate_template.proofs.WithinLemmas.{template_within}

pub built_within : (kind : Template) (patterns columns : List (List Bit3)) (bits gates : ℕ) → 1 ≤ length patterns → (count : ℕ) (front xs : List Clause) (listed : List (List Bit3)) (y : Shape) →
    count ≡ length (variables (shape_of patterns bits gates columns)) → front ≡ [] → y ≡ shape_of patterns bits gates columns → listed ≡ columns → xs ≡ front ++ as_clauses y (named_template kind y patterns listed) → IsTrue (are_within count xs)
built_within kind patterns columns bits gates some count front xs listed y count_is none same are h =
    let clauses : List Clause = template kind patterns bits gates columns in
    let e : xs ≡ clauses = h ∙ ap₂ (λ (a b : List Clause). a ++ b) none (ap₂ (λ (s : Shape) (c : List (List Bit3)). as_clauses s (named_template kind s patterns c)) same are) in
    subst (λ (n : ℕ). IsTrue (are_within n xs)) (sym count_is) (subst (λ (cs : List Clause). IsTrue (are_within (length (variables (shape_of patterns bits gates columns))) cs)) (sym e) (template_within kind patterns columns bits gates some))
