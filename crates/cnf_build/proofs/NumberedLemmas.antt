-- The numbers that code computes are those of the variables.
use Rattle.std.proofs.Common.{◌≡◌, ℕ, ◌+◌, ◌-◌, ◌*◌, ◌/◌, ◌<◌, ◌^◌, false, sym, ap, ap₂, ◌∙◌, subst, arith}
use Rattle.clause_arena.specs.Clauses.{Lit}
use Rattle.gate_template.specs.declared.types.Shape.{Shape}
use Rattle.gate_template.specs.Variables.{Var, X, D, Sel, T, V, O, P, number}
use Rattle.gate_template.specs.Families.{plain, numbered}
use Rattle.gate_template.specs.Counts.{rows, selections, before_sel, before_t, variable_count}
use Rattle.gate_template.proofs.PlaceLemmas.{number-X, number-D, number-Sel, number-T1, number-T2, number-T3, number-V, number-O, number-P}
use Rattle.gate_template.proofs.CountLemmas.{rows_is, pair_within, gate_within}
use Rattle.cnf_build.specs.Placed.{ArePlaced}

lit_is : (z : Shape) (x : Var) (n : ℕ) (l : Lit) → l ≡ record { var = n; negated = false } → n ≡ number z x → l ≡ numbered z (plain x)
lit_is z x n l e h = e ∙ ap (λ k. let made : Lit = record { var = k; negated = false } in made) h

module _ (y z : Shape) (same : y ≡ z) (d sel t v o p : ℕ) (are : ArePlaced y d sel t v o p) where
  moved : ArePlaced z d sel t v o p
  moved = subst (λ s. ArePlaced s d sel t v o p) same are

  pub x_is : (s i : ℕ) (l : Lit) → s < z.scenarios → i < z.bits → l ≡ record { var = s * y.bits + i + 1; negated = false } → l ≡ numbered z (plain (X s i))
  x_is s i l sn il e = lit_is z (X s i) _ l e (ap (λ q. s * q.bits + i + 1) same ∙ sym (number-X z s i sn il))

  pub d_is : (s t i : ℕ) (l : Lit) → s < t → t < z.scenarios → i < z.bits →
      l ≡ record { var = d + (s * (2 * y.scenarios - s - 1) / 2 * y.bits + ((t - (s + 1)) * y.bits + i)) + 1; negated = false } → l ≡ numbered z (plain (D s t i))
  d_is s t i l st tn il e = lit_is z (D s t i) _ l e
      (ap (λ q. d + (s * (2 * q.scenarios - s - 1) / 2 * q.bits + ((t - (s + 1)) * q.bits + i)) + 1) same
      ∙ ap₂ (λ a b. a + (b * z.bits + ((t - (s + 1)) * z.bits + i)) + 1) moved.d_is (rows_is z.scenarios s (omega arith))
      ∙ sym (number-D z s t i st tn il))

  pub sel_is : (g j k row before : ℕ) (l : Lit) → g < z.gates → j < k → k < z.bits + g → row ≡ rows (y.bits + g) j → before ≡ selections y.bits g →
      l ≡ record { var = sel + (before + (row + (k - (j + 1)))) + 1; negated = false } → l ≡ numbered z (plain (Sel g j k))
  sel_is g j k row before l lg jk kl rw_is be e = lit_is z (Sel g j k) _ l e
      (ap₂ (λ a b. a + (before + (b + (k - (j + 1)))) + 1) moved.sel_is (rw_is ∙ ap (λ q. rows (q.bits + g) j) same)
      ∙ ap (λ b. before_sel z + (b + (rows (z.bits + g) j + (k - (j + 1)))) + 1) (be ∙ ap (λ q. selections q.bits g) same)
      ∙ sym (number-Sel z g j k lg jk kl))

  -- and they fit
  pub sel_fits : (g j k row before : ℕ) → g < z.gates → j < k → k < z.bits + g → row ≡ rows (y.bits + g) j → before ≡ selections y.bits g → sel + (before + (row + (k - (j + 1)))) + 1 < 2 ^ 31
  sel_fits g j k row before lg jk kl rw_is be =
      let r : row ≡ rows (z.bits + g) j = rw_is ∙ ap (λ q. rows (q.bits + g) j) same in
      let b : before ≡ selections z.bits g = be ∙ ap (λ q. selections q.bits g) same in
      let few : variable_count z < 2 ^ 31 = moved.shape.few_variables in
      omega (arith, r, b, pair_within (z.bits + g) j k jk kl, gate_within z.bits g z.gates lg, moved.sel_is, few)

  pub t1_is : (g : ℕ) (l : Lit) → g < z.gates → l ≡ record { var = t + g * 3 + 1; negated = false } → l ≡ numbered z (plain (T g 1))
  t1_is g l lg e = lit_is z (T g 1) _ l e (ap (λ a. a + g * 3 + 1) moved.t_is ∙ join (before_t z) (g * 3) ∙ sym (number-T1 z g lg))
    where
      join : (a b : ℕ) → a + b + 1 ≡ a + (b + 0) + 1
      join a b = omega arith

  pub t2_is : (g : ℕ) (l : Lit) → g < z.gates → l ≡ record { var = t + (g * 3 + 1) + 1; negated = false } → l ≡ numbered z (plain (T g 2))
  t2_is g l lg e = lit_is z (T g 2) _ l e (ap (λ a. a + (g * 3 + 1) + 1) moved.t_is ∙ sym (number-T2 z g lg))

  pub t3_is : (g : ℕ) (l : Lit) → g < z.gates → l ≡ record { var = t + (g * 3 + 2) + 1; negated = false } → l ≡ numbered z (plain (T g 3))
  t3_is g l lg e = lit_is z (T g 3) _ l e (ap (λ a. a + (g * 3 + 2) + 1) moved.t_is ∙ sym (number-T3 z g lg))

  pub v_is : (g s : ℕ) (l : Lit) → g < z.gates → s < z.scenarios → l ≡ record { var = v + (g * y.scenarios + s) + 1; negated = false } → l ≡ numbered z (plain (V g s))
  v_is g s l lg sn e = lit_is z (V g s) _ l e (ap (λ q. v + (g * q.scenarios + s) + 1) same ∙ ap (λ a. a + (g * z.scenarios + s) + 1) moved.v_is ∙ sym (number-V z g s lg sn))

  pub o_is : (c n : ℕ) (l : Lit) → c < z.classes → n < z.bits + z.gates → l ≡ record { var = o + (c * (y.bits + y.gates) + n) + 1; negated = false } → l ≡ numbered z (plain (O c n))
  o_is c n l lc ln e = lit_is z (O c n) _ l e (ap (λ q. o + (c * (q.bits + q.gates) + n) + 1) same ∙ ap (λ a. a + (c * (z.bits + z.gates) + n) + 1) moved.o_is ∙ sym (number-O z c n lc ln))

  pub p_is : (c : ℕ) (l : Lit) → c < z.classes → l ≡ record { var = p + c + 1; negated = false } → l ≡ numbered z (plain (P c))
  p_is c l lc e = lit_is z (P c) _ l e (ap (λ a. a + c + 1) moved.p_is ∙ sym (number-P z c lc))
