-- The variable of each literal of a template is one of the template's.
use Rattle.std.proofs.Common.{ℕ, ◌<◌, ◌≤◌, IsTrue, List, [], ◌∷◌, map, length, refl, inl, inr, arith, All}
use Rattle.std.specs.List.{position_or_len}
use Rattle.std.proofs.lemmas.Bool.{both_ways, cases_Bool}
use Rattle.std.proofs.lemmas.List.Elements.{All-cons, All-nil}
use Rattle.cpog_defs.specs.declared.types.Bit3.{Bit3}
use Rattle.gate_template.specs.declared.types.Shape.{Shape}
use Rattle.gate_template.specs.declared.types.Template.{Template}
use Rattle.gate_template.specs.Variables.{Var, variables, same_var, number}
use Rattle.gate_template.specs.Families.{NamedLiteral, numbered, as_clause, as_clauses}
use Rattle.gate_template.specs.Templates.{shape_of, named_template, template}
use Rattle.clause_arena.specs.Formulas.{are_within}
use Rattle.clause_arena.proofs.WithinLemmas.{LitWithin, within_from_all}
use Rattle.gate_template.proofs.NumberLemmas.{Stands, AllStand, EachStands, template_stands}

place_within : (order : List Var) (x : Var) → Stands order x → position_or_len (same_var x) order < length order
place_within [] x h = absurd (both_ways _ refl h)
place_within (y ∷ order) x h = elim (cases_Bool (same_var x y)) [
  | inl e ↦ rw e (omega arith)
  | inr e ↦ let rest : Stands order x = rw e at h in rw e (omega (arith, place_within order x rest))
]

module _ (z : Shape) where
  number_within : (x : Var) → Stands (variables z) x → (1 ≤ number z x) × (number z x ≤ length (variables z))
  unfolding number
  number_within x h = (omega arith, omega (arith, place_within (variables z) x h))

  clause_within : (c : List NamedLiteral) → AllStand z c → All (LitWithin (length (variables z))) (as_clause z c)
  unfolding as_clause
  clause_within [] h = All-nil (LitWithin (length (variables z)))
  clause_within (x ∷ c) h = All-cons (LitWithin (length (variables z))) (numbered z x) (map (numbered z) c) (number_within x.0 h.0) (clause_within c h.1)

  clauses_within : (cs : List (List NamedLiteral)) → EachStands z cs → All (λ c. All (LitWithin (length (variables z))) c) (as_clauses z cs)
  unfolding as_clauses
  clauses_within [] h = All-nil (λ c. All (LitWithin (length (variables z))) c)
  clauses_within (c ∷ cs) h = All-cons (λ c. All (LitWithin (length (variables z))) c) (as_clause z c) (as_clauses z cs) (clause_within c h.0) (clauses_within cs h.1)

pub template_within : (kind : Template) (patterns columns : List (List Bit3)) (bits gates : ℕ) → 1 ≤ length patterns →
    IsTrue (are_within (length (variables (shape_of patterns bits gates columns))) (template kind patterns bits gates columns))
template_within kind patterns columns bits gates some =
    let z = shape_of patterns bits gates columns in
    within_from_all (length (variables z)) (template kind patterns bits gates columns)
    (clauses_within z (named_template kind z patterns columns) (template_stands z kind patterns columns some))
