use Rattle.std.proofs.Common.{ℕ, [], ◌∷◌}
use Rattle.gate_template.specs.Variables.{Sel, T, V, value_var}
use Rattle.gate_template.specs.Families.{plain, complemented}
use Rattle.cnf_build.proofs.ClauseLemmas.{behind, one_clause, negated_is, clause4}
use Rattle.cnf_build.proofs.gates.push_gate_at.Goals as goal
use Rattle.gate_template.specs.Variables.{Var}
use Rattle.cnf_build.proofs.ClauseLemmas.{table_is}

pub returns : goal.returns
returns c =
    let z = c.args.numbers.now in
    let g : ℕ = c.args.g in
    let j : ℕ = c.args.j in
    let k : ℕ = c.args.k in
    let s : ℕ = c.args.s in
    let a : Var = value_var z j s in
    let b : Var = value_var z k s in
    let sel = negated_is z (Sel g j k) c.sel.result c.negated-sel.result c.negated-sel.ensures c.sel.ensures in
    let not_a = negated_is z a c.value-a.result c.negated-not_a.result c.negated-not_a.ensures c.value-a.ensures in
    let not_b = negated_is z b c.value-b.result c.negated-not_b.result c.negated-not_b.ensures c.value-b.ensures in
    let not_v = negated_is z (V g s) c.v-v.result c.negated.result c.negated.ensures c.v-v.ensures in
    let first = one_clause z (complemented (Sel g j k) ∷ plain a ∷ plain b ∷ complemented (V g s) ∷ []) c.args.clauses.now.clauses c.push.new.self.clauses _
    (clause4 z (complemented (Sel g j k)) (plain a) (plain b) (complemented (V g s)) c.negated-sel.result c.value-a.result c.value-b.result c.negated.result sel c.value-a.ensures c.value-b.ensures not_v) c.in_ok-push.ensures.ok in
    let t1 = table_is z (complemented (Sel g j k)) (plain a) (complemented b) (V g s) (T g 1) c.negated-sel.result c.value-a.result c.negated-not_b.result c.v-v.result c.t1.result c.push.new.self.clauses c.push_table.new.clauses.clauses sel c.value-a.ensures not_b c.v-v.ensures c.t1.ensures c.in_ok-push_table.ensures in
    let t2 = table_is z (complemented (Sel g j k)) (complemented a) (plain b) (V g s) (T g 2) c.negated-sel.result c.negated-not_a.result c.value-b.result c.v-v.result c.t2.result c.push_table.new.clauses.clauses c.push_table-2.new.clauses.clauses sel not_a c.value-b.ensures c.v-v.ensures c.t2.ensures c.in_ok-push_table-2.ensures in
    let t3 = table_is z (complemented (Sel g j k)) (complemented a) (complemented b) (V g s) (T g 3) c.negated-sel.result c.negated-not_a.result c.negated-not_b.result c.v-v.result c.t3.result c.push_table-2.new.clauses.clauses c.push_table-3.new.clauses.clauses sel not_a not_b c.v-v.ensures c.t3.ensures c.in_ok-push_table-3.ensures in
    behind z (_ ∷ _ ∷ _ ∷ _ ∷ _ ∷ []) (_ ∷ _ ∷ []) c.args.clauses.now.clauses c.push_table-2.new.clauses.clauses c.push_table-3.new.clauses.clauses
    (behind z (_ ∷ _ ∷ _ ∷ []) (_ ∷ _ ∷ []) c.args.clauses.now.clauses c.push_table.new.clauses.clauses c.push_table-2.new.clauses.clauses
    (behind z (_ ∷ []) (_ ∷ _ ∷ []) c.args.clauses.now.clauses c.push.new.self.clauses c.push_table.new.clauses.clauses first t1) t2) t3
