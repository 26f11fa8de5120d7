-- NamedLiteral clauses one behind the other, by their numbers.
use Rattle.std.proofs.Common.{◌≡◌, ℕ, zero, suc, ◌+◌, ◌<◌, ◌≤◌, if◌then◌else◌, nat_lt, List, [], ◌∷◌, ◌++◌, refl, sym, ap, ap₂, ◌∙◌, append_assoc, add-one, arith}
use Rattle.cpog_defs.specs.Orders.{each_below}
use Rattle.clause_arena.specs.Clauses.{Lit, Clause, opposite}
use Rattle.gate_template.specs.declared.types.Shape.{Shape}
use Rattle.gate_template.specs.Variables.{Var, pairs_from}
use Rattle.gate_template.specs.Families.{NamedLiteral, plain, complemented, numbered, as_clause, as_clauses}
use Rattle.gate_template.proofs.ClauseLemmas.{lower_first, not_lower}

module _ (z : Shape) where
  pub as_clauses-append : (a b : List (List NamedLiteral)) → as_clauses z (a ++ b) ≡ as_clauses z a ++ as_clauses z b
  unfolding as_clauses
  as_clauses-append [] b = refl
  as_clauses-append (c ∷ a) b = ap (λ l. as_clause z c ∷ l) (as_clauses-append a b)

  pub as_clause-append : (a b : List NamedLiteral) → as_clause z (a ++ b) ≡ as_clause z a ++ as_clause z b
  unfolding as_clause
  as_clause-append [] b = refl
  as_clause-append (x ∷ a) b = ap (λ l. numbered z x ∷ l) (as_clause-append a b)

  append_none : {A : Type 0} (xs : List A) → xs ++ [] ≡ xs
  append_none [] = refl
  append_none (x ∷ xs) = ap (λ l. x ∷ l) (append_none xs)

  -- nothing yet
  pub begin : (front : List Clause) → front ≡ front ++ as_clauses z []
  unfolding as_clauses
  begin front = sym (append_none front)

  -- clauses behind others
  pub behind : (a b : List (List NamedLiteral)) (front xs ys : List Clause) → xs ≡ front ++ as_clauses z a → ys ≡ xs ++ as_clauses z b → ys ≡ front ++ as_clauses z (a ++ b)
  behind a b front xs ys h k = k ∙ ap (λ l. l ++ as_clauses z b) h ∙ append_assoc front (as_clauses z a) (as_clauses z b) ∙ ap (λ l. front ++ l) (sym (as_clauses-append a b))

  -- the clauses of one more number
  pub one_more : (f : ℕ → List (List NamedLiteral)) (n : ℕ) (front xs ys : List Clause) → xs ≡ front ++ as_clauses z (each_below f n) → ys ≡ xs ++ as_clauses z (f n) → ys ≡ front ++ as_clauses z (each_below f (n + 1))
  one_more f n front xs ys h k = behind (each_below f n) (f n) front xs ys h k ∙ ap (λ m. front ++ as_clauses z (each_below f m)) (sym (add-one n))

  -- no pair has its second at or below its first
  none_up_to : (f : ℕ → ℕ → List (List NamedLiteral)) (j n : ℕ) → n ≤ j + 1 → each_below (λ k. if nat_lt j k then f j k else []) n ≡ []
  none_up_to f j zero l = refl
  none_up_to f j (suc n) l = ap₂ (λ a b. a ++ b) (none_up_to f j n (omega arith)) (not_lower j n (f j n) [] (omega arith))

  pub begin_row : (f : ℕ → ℕ → List (List NamedLiteral)) (j : ℕ) (front : List Clause) → front ≡ front ++ as_clauses z (pairs_from f (j + 1) j)
  begin_row f j front = begin front ∙ ap (λ l. front ++ as_clauses z l) (sym (none_up_to f j (j + 1) (omega arith)))

  pub one_more_pair : (f : ℕ → ℕ → List (List NamedLiteral)) (j k : ℕ) (front xs ys : List Clause) → j < k → xs ≡ front ++ as_clauses z (pairs_from f k j) → ys ≡ xs ++ as_clauses z (f j k) → ys ≡ front ++ as_clauses z (pairs_from f (k + 1) j)
  one_more_pair f j k front xs ys l h e =
      one_more (λ k. if nat_lt j k then f j k else []) k front xs ys h (e ∙ ap (λ c. xs ++ as_clauses z c) (sym (lower_first j k (f j k) [] l)))

  -- one clause
  pub one_clause : (c : List NamedLiteral) (front xs : List Clause) (lits : Clause) → lits ≡ as_clause z c → xs ≡ front ++ lits ∷ [] → xs ≡ front ++ as_clauses z (c ∷ [])
  unfolding as_clauses
  one_clause c front xs lits e h = h ∙ ap (λ l. front ++ l ∷ []) e

  -- the literals of one more number
  pub one_more_literal : (f : ℕ → NamedLiteral) (n : ℕ) (xs ys : Clause) (l : Lit) → xs ≡ as_clause z (each_below (λ i. f i ∷ []) n) → l ≡ numbered z (f n) → ys ≡ xs ++ l ∷ [] → ys ≡ as_clause z (each_below (λ i. f i ∷ []) (n + 1))
  unfolding as_clause
  one_more_literal f n xs ys l h e k =
      k ∙ ap₂ (λ a b. a ++ b ∷ []) h e ∙ sym (as_clause-append (each_below (λ i. f i ∷ []) n) (f n ∷ [])) ∙ ap (λ m. as_clause z (each_below (λ i. f i ∷ []) m)) (sym (add-one n))

  -- the literals of one more pair
  pub more_literals : (a b : List NamedLiteral) (front xs : Clause) (l : Lit) (x : NamedLiteral) → front ≡ as_clause z a → b ≡ x ∷ [] → l ≡ numbered z x → xs ≡ front ++ l ∷ [] → xs ≡ as_clause z (a ++ b)
  unfolding as_clause
  more_literals a b front xs l x h e k m = m ∙ ap₂ (λ p q. p ++ q ∷ []) h k ∙ sym (as_clause-append a (x ∷ [])) ∙ ap (λ q. as_clause z (a ++ q)) (sym e)

  -- ---- literals

  pub no_literal : [] ≡ as_clause z []
  unfolding as_clause
  no_literal = refl

  pub negated_is : (x : Var) (l m : Lit) → m ≡ opposite l → l ≡ numbered z (plain x) → m ≡ numbered z (complemented x)
  negated_is x l m e h = e ∙ ap opposite h

  pub clause1 : (a : NamedLiteral) (x : Lit) → x ≡ numbered z a → x ∷ [] ≡ as_clause z (a ∷ [])
  unfolding as_clause
  clause1 a x p = ap (λ l. l ∷ []) p

  pub clause3 : (a b c : NamedLiteral) (x y w : Lit) → x ≡ numbered z a → y ≡ numbered z b → w ≡ numbered z c → x ∷ y ∷ w ∷ [] ≡ as_clause z (a ∷ b ∷ c ∷ [])
  unfolding as_clause
  clause3 a b c x y w p q r = rw (p, q, r) refl

  pub clause4 : (a b c d : NamedLiteral) (x y w u : Lit) → x ≡ numbered z a → y ≡ numbered z b → w ≡ numbered z c → u ≡ numbered z d → x ∷ y ∷ w ∷ u ∷ [] ≡ as_clause z (a ∷ b ∷ c ∷ d ∷ [])
  unfolding as_clause
  clause4 a b c d x y w u p q r s = rw (p, q, r, s) refl

  pub clause5 : (a b c d e : NamedLiteral) (x y w u v : Lit) → x ≡ numbered z a → y ≡ numbered z b → w ≡ numbered z c → u ≡ numbered z d → v ≡ numbered z e → x ∷ y ∷ w ∷ u ∷ v ∷ [] ≡ as_clause z (a ∷ b ∷ c ∷ d ∷ e ∷ [])
  unfolding as_clause
  clause5 a b c d e x y w u v p q r s t = rw (p, q, r, s, t) refl

  -- two clauses at once
  pub two_clauses : (c d : List NamedLiteral) (front xs : List Clause) (l m : Clause) → l ≡ as_clause z c → m ≡ as_clause z d → xs ≡ front ++ (l ∷ m ∷ []) → xs ≡ front ++ as_clauses z (c ∷ d ∷ [])
  unfolding as_clauses
  two_clauses c d front xs l m p q h = h ∙ ap₂ (λ a b. front ++ (a ∷ b ∷ [])) p q

  -- ---- literals one behind the other

  pub begin_literals : (xs : Clause) → xs ≡ [] → xs ≡ as_clause z []
  begin_literals xs e = e ∙ no_literal

  none_literal_up_to : (f : ℕ → ℕ → NamedLiteral) (j n : ℕ) → n ≤ j + 1 → each_below (λ k. if nat_lt j k then f j k ∷ [] else []) n ≡ []
  none_literal_up_to f j zero l = refl
  none_literal_up_to f j (suc n) l = ap₂ (λ a b. a ++ b) (none_literal_up_to f j n (omega arith)) (not_lower j n (f j n ∷ []) [] (omega arith))

  pub begin_literal_row : (f : ℕ → ℕ → NamedLiteral) (j : ℕ) (front : Clause) → front ≡ front ++ as_clause z (pairs_from (λ j k. f j k ∷ []) (j + 1) j)
  unfolding as_clause
  begin_literal_row f j front = sym (append_none front) ∙ ap (λ l. front ++ as_clause z l) (sym (none_literal_up_to f j (j + 1) (omega arith)))

  pub one_more_literal_pair : (f : ℕ → ℕ → NamedLiteral) (j k : ℕ) (front xs ys : Clause) (l : Lit) → j < k → xs ≡ front ++ as_clause z (pairs_from (λ j k. f j k ∷ []) k j) → l ≡ numbered z (f j k) → ys ≡ xs ++ l ∷ [] →
      ys ≡ front ++ as_clause z (pairs_from (λ j k. f j k ∷ []) (k + 1) j)
  unfolding as_clause
  one_more_literal_pair f j k front xs ys l lt h e m =
      let choice : ℕ → List NamedLiteral = λ k. if nat_lt j k then f j k ∷ [] else [] in
      m ∙ ap₂ (λ a b. a ++ b ∷ []) h e ∙ append_assoc front (as_clause z (each_below choice k)) (as_clause z (f j k ∷ []))
      ∙ ap (λ c. front ++ (as_clause z (each_below choice k) ++ as_clause z c)) (sym (lower_first j k (f j k ∷ []) [] lt))
      ∙ ap (λ c. front ++ c) (sym (as_clause-append (each_below choice k) (choice k))) ∙ ap (λ n. front ++ as_clause z (each_below choice n)) (sym (add-one k))

  pub literals_behind : (f : ℕ → List NamedLiteral) (n : ℕ) (xs ys : Clause) → xs ≡ as_clause z (each_below f n) → ys ≡ xs ++ as_clause z (f n) → ys ≡ as_clause z (each_below f (n + 1))
  literals_behind f n xs ys h k = k ∙ ap (λ l. l ++ as_clause z (f n)) h ∙ sym (as_clause-append (each_below f n) (f n)) ∙ ap (λ m. as_clause z (each_below f m)) (sym (add-one n))

  -- the two clauses of a row of a table
  pub table_is : (p q r : NamedLiteral) (v t : Var) (sel a b vl tl : Lit) (front xs : List Clause) → sel ≡ numbered z p → a ≡ numbered z q → b ≡ numbered z r → vl ≡ numbered z (plain v) → tl ≡ numbered z (plain t) →
      xs ≡ front ++ (sel ∷ a ∷ b ∷ opposite vl ∷ tl ∷ []) ∷ (sel ∷ a ∷ b ∷ vl ∷ opposite tl ∷ []) ∷ [] →
      xs ≡ front ++ as_clauses z ((p ∷ q ∷ r ∷ complemented v ∷ plain t ∷ []) ∷ (p ∷ q ∷ r ∷ plain v ∷ complemented t ∷ []) ∷ [])
  table_is p q r v t sel a b vl tl front xs hp hq hr hv ht h =
      two_clauses _ _ front xs _ _ (clause5 p q r (complemented v) (plain t) sel a b (opposite vl) tl hp hq hr (ap opposite hv) ht) (clause5 p q r (plain v) (complemented t) sel a b vl (opposite tl) hp hq hr hv (ap opposite ht)) h
