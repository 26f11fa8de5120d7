-- The rows of gates and conditions, on the definitions by which they are written.
use Rattle.std.proofs.Common.{◌≡◌, ℕ, zero, suc, ◌<◌, ◌≤◌, ◌+◌, ◌^◌, false, List, [], ◌∷◌, ◌++◌, length, map, get_or, Result, Ok, Err, refl, sym, ap, subst, ◌∙◌, arith, append_assoc}
use Rattle.std.specs.List.{AllByRecursion}
use Rattle.std.proofs.lemmas.List.{append-nil}
use Rattle.cpog_defs.specs.declared.types.Gate.{Gate}
use Rattle.cpog_defs.specs.declared.types.Ref.{Ref}
use Rattle.cpog_defs.specs.declared.types.Ref.TheVariants.{Const}
use Rattle.cpog_defs.specs.Orders.{each_below}
use Rattle.cpog_defs.specs.Gates.{AreGatesFrom, IsRefOver}
use Rattle.netlist_verilog.specs.Formulas.{equation_row}
use Rattle.netlist_verilog.specs.Equations.{gate_equations, gate_equation, condition_equation}
use Rattle.netlist_verilog.proofs.GateRowLemmas.{IsGateBelow}
use Rattle.netlist_verilog.proofs.BelowLemmas.{map_ones}
use Rattle.line_rows.specs.Position.{Position}
use Rattle.line_rows.specs.Reading.{◌>>=◌, lines_many}
use Rattle.line_rows.proofs.RowLaws.{IsRows, rows-row, rows-view, rows-many, FitsMany}
use Rattle.module_reader.specs.Rows.{gates_at, conditions_at}
use Rattle.module_reader.proofs.References.{condition_text, condition_exact}
use Rattle.module_reader.proofs.GateLaws.{gate_text, gate_exact}

-- ---- any rows

same_result : {A : Type 0} (o : Result (A × Position) ℕ) → (o >>= λ x. Ok (x.0, x.1)) ≡ o
same_result (Ok x) = refl
same_result (Err k) = refl

-- the same rows by other words
pub rows-same : {A : Type 0} {F : A → Type 0} {t : A → List (List ℕ)} {r : Position → Result (A × Position) ℕ} (G : A → Type 0) (u : A → List (List ℕ)) → IsRows F t r → ((v : A) → G v → F v × (u v ≡ t v)) → ((v : A) → F v → G v × (u v ≡ t v)) → IsRows G u r
rows-same {A = A} {r = r} G u rows from to =
    subst (IsRows G u) (λ i p. same_result (r p) i)
    (rows-view (λ (x : A). x) G u rows (λ b h. let f = from b h in (b, f.0, f.1, refl)) to)

pub below_front : {A : Type 0} (f : ℕ → List A) (n : ℕ) → each_below f (suc n) ≡ f 0 ++ each_below (λ k. f (suc k)) n
below_front f zero = sym (append-nil (f 0))
below_front {A = A} f (suc n) = ap (λ (xs : List A). xs ++ f (suc n)) (below_front f n) ∙ append_assoc (f 0) (each_below (λ k. f (suc k)) n) (f (suc n))

-- rows that are read from the front are those that each_below writes
pub lines_below : {A : Type 0} (t : ℕ → A → List (List ℕ)) (d : A) (s : ℕ) (xs : List A) → lines_many t (λ i _. i + 1) s xs ≡ each_below (λ k. t (s + k) (get_or xs k d)) (length xs)
lines_below t d s [] = refl
lines_below {A = A} t d s (x ∷ xs) =
    let head : t s x ≡ t (s + 0) x = ap (λ (n : ℕ). t n x) (omega arith) in
    let step : (k : ℕ) → t (s + 1 + k) (get_or xs k d) ≡ t (s + suc k) (get_or xs k d) = λ k. ap (λ (n : ℕ). t n (get_or xs k d)) (omega arith) in
    ap (λ (ls : List (List ℕ)). t s x ++ ls) (lines_below t d (s + 1) xs ∙ ap (λ (f : ℕ → List (List ℕ)). each_below f (length xs)) (λ i k. step k i))
    ∙ ap (λ (l : List (List ℕ)). l ++ each_below (λ k. t (s + suc k) (get_or xs k d)) (length xs)) head
    ∙ sym (below_front (λ k. t (s + k) (get_or (x ∷ xs) k d)) (length xs))

pub lines_from_first : {A : Type 0} (t : ℕ → A → List (List ℕ)) (d : A) (xs : List A) → lines_many t (λ i _. i + 1) 0 xs ≡ each_below (λ k. t k (get_or xs k d)) (length xs)
lines_from_first {A = A} t d xs =
    let step : (k : ℕ) → t (0 + k) (get_or xs k d) ≡ t k (get_or xs k d) = λ k. ap (λ (n : ℕ). t n (get_or xs k d)) (omega arith) in
    lines_below t d 0 xs ∙ ap (λ (f : ℕ → List (List ℕ)). each_below f (length xs)) (λ i k. step k i)

-- ---- gates

-- some gates are left only where two signals come before them
pub record Ahead (inputs n i : ℕ) : Type 0 where
  pub enough : 0 < n → 2 ≤ inputs + i
  pub small : inputs + (i + n) < 2 ^ 31

abbrev Below : ℕ → ℕ → Gate → Type 0
Below inputs i g = IsGateBelow (inputs + i) g

gates_fit : (inputs i : ℕ) (gates : List Gate) → AreGatesFrom (inputs + i) gates → FitsMany (Below inputs) (λ i _. i + 1) (length gates) i gates
gates_fit inputs i [] h = tt
gates_fit inputs i (g ∷ gates) h =
    (record { lower = h.0; earlier = h.1; table = h.2 }, gates_fit inputs (i + 1) gates (subst (λ (n : ℕ). AreGatesFrom n gates) (omega arith) h.3))

are_gates : (inputs n i : ℕ) (gates : List Gate) → FitsMany (Below inputs) (λ i _. i + 1) n i gates → AreGatesFrom (inputs + i) gates × (length gates ≡ n)
are_gates inputs zero i [] h = (tt, refl)
are_gates inputs zero i (g ∷ gates) h = absurd h
are_gates inputs (suc n) i [] h = absurd h
are_gates inputs (suc n) i (g ∷ gates) h =
    let others = are_gates inputs n (i + 1) gates h.1 in
    ((h.0.lower, h.0.earlier, h.0.table, subst (λ (n : ℕ). AreGatesFrom n gates) (omega arith) others.0), ap suc others.1)

abbrev pub SoManyGates : ℕ → ℕ → List Gate → Type 0
SoManyGates inputs count gates = AreGatesFrom inputs gates × (length gates ≡ count)

abbrev pub gates_lines : ℕ → List (List ℕ) → List Gate → List (List ℕ)
gates_lines inputs names gates = map (equation_row inputs names) (gate_equations (record { inputs = inputs; gates = gates }))

no_gate : Gate
no_gate = record { j = 0; k = 0; table = 0 }

gates_written : (inputs : ℕ) (names : List (List ℕ)) (gates : List Gate) → gates_lines inputs names gates ≡ lines_many (λ g gate. gate_text inputs names g gate ∷ []) (λ i _. i + 1) 0 gates
gates_written inputs names gates =
    map_ones (equation_row inputs names) (λ g. gate_equation inputs g (get_or gates g (record { j = 0; k = 0; table = 0 }))) (length gates)
    ∙ sym (lines_from_first (λ g gate. gate_text inputs names g gate ∷ []) (record { j = 0; k = 0; table = 0 }) gates)

pub gates_rows : (inputs count : ℕ) (names : List (List ℕ)) → Ahead inputs count 0 → IsRows (SoManyGates inputs count) (gates_lines inputs names) (gates_at inputs count)
gates_rows inputs count names ahead =
    let zero_more : inputs + 0 ≡ inputs = omega arith in
    rows-same (SoManyGates inputs count) (gates_lines inputs names)
    (rows-many (λ i _. i + 1) (Ahead inputs)
    (λ n i h. rows-row (gate_exact inputs i names (omega (arith, h.small))) (record { j = 0; k = 1; table = 0 }, record { lower = omega arith; earlier = omega (arith, h.enough (omega arith)); table = omega arith }))
    (λ n i g h fits. record { enough = λ _. omega (arith, h.enough (omega arith)); small = omega (arith, h.small) })
    count 0 ahead)
    (λ gates h. (subst (λ (n : ℕ). FitsMany (Below inputs) (λ i _. i + 1) n 0 gates) h.1 (gates_fit inputs 0 gates (subst (λ (n : ℕ). AreGatesFrom n gates) (sym zero_more) h.0)), gates_written inputs names gates))
    (λ gates h. let a = are_gates inputs count 0 gates h in ((subst (λ (n : ℕ). AreGatesFrom n gates) zero_more a.0, a.1), gates_written inputs names gates))

-- ---- conditions

abbrev Over : ℕ → ℕ → Ref → Type 0
Over signals v r = IsRefOver signals r

refs_fit : (signals i : ℕ) (refs : List Ref) → AllByRecursion (IsRefOver signals) refs → FitsMany (Over signals) (λ i _. i + 1) (length refs) i refs
refs_fit signals i [] h = tt
refs_fit signals i (r ∷ refs) h = (h.0, refs_fit signals (i + 1) refs h.1)

are_refs : (signals n i : ℕ) (refs : List Ref) → FitsMany (Over signals) (λ i _. i + 1) n i refs → AllByRecursion (IsRefOver signals) refs × (length refs ≡ n)
are_refs signals zero i [] h = (tt, refl)
are_refs signals zero i (r ∷ refs) h = absurd h
are_refs signals (suc n) i [] h = absurd h
are_refs signals (suc n) i (r ∷ refs) h = let others = are_refs signals n (i + 1) refs h.1 in ((h.0, others.0), ap suc others.1)

abbrev pub SoManyRefs : ℕ → ℕ → List Ref → Type 0
SoManyRefs signals count refs = AllByRecursion (IsRefOver signals) refs × (length refs ≡ count)

abbrev pub conditions_lines : ℕ → List (List ℕ) → List Ref → List (List ℕ)
conditions_lines inputs names refs = map (equation_row inputs names) (each_below (λ v. condition_equation v (get_or refs v (Const false)) ∷ []) (length refs))

conditions_written : (inputs : ℕ) (names : List (List ℕ)) (refs : List Ref) → conditions_lines inputs names refs ≡ lines_many (λ v r. condition_text inputs names v r ∷ []) (λ i _. i + 1) 0 refs
conditions_written inputs names refs =
    map_ones (equation_row inputs names) (λ v. condition_equation v (get_or refs v (Const false))) (length refs)
    ∙ sym (lines_from_first (λ v r. condition_text inputs names v r ∷ []) (Const false) refs)

pub conditions_rows : (inputs gates : ℕ) (names : List (List ℕ)) → inputs + gates < 2 ^ 32 → IsRows (SoManyRefs (inputs + gates) (length names)) (conditions_lines inputs names) (conditions_at inputs gates names)
conditions_rows inputs gates names small =
    rows-same (SoManyRefs (inputs + gates) (length names)) (conditions_lines inputs names)
    (rows-many (λ i _. i + 1) (λ _ _. Unit {0}) (λ n v h. rows-row (condition_exact inputs gates names v small) (Const false, tt)) (λ n v r h fits. tt) (length names) 0 tt)
    (λ refs h. (subst (λ (n : ℕ). FitsMany (Over (inputs + gates)) (λ i _. i + 1) n 0 refs) h.1 (refs_fit (inputs + gates) 0 refs h.0), conditions_written inputs names refs))
    (λ refs h. let a = are_refs (inputs + gates) (length names) 0 refs h in ((a.0, a.1), conditions_written inputs names refs))
