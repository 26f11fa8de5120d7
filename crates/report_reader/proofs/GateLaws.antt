-- The gates of a report and the conditions of its operations are read exactly.
use Rattle.std.proofs.Common.{lit<, ◌≡◌, ℕ, zero, suc, ◌<◌, ◌≤◌, ◌+◌, ◌-◌, ◌^◌, Bool, true, false, cond, ltb, eqb, ◌&&◌, List, [], ◌∷◌, ◌++◌, length, get_or, Option, Some, None, Result, Ok, Err, refl, sym, ap, subst, ◌∙◌, arith, append_assoc}
use Rattle.std.specs.Prelude.{codes}
use Rattle.std.specs.Fmt.{decimal}
use Rattle.std.specs.List.{AllByRecursion}
use Rattle.std.proofs.lemmas.Bool.{lt-ltb, ltb-true, eqb-true, eq-eqb}
use Rattle.std.proofs.lemmas.List.{append-nil}
use Rattle.cpog_defs.specs.declared.types.Gate.{Gate}
use Rattle.cpog_defs.specs.declared.types.Ref.{Ref}
use Rattle.cpog_defs.specs.declared.types.Ref.TheVariants.{Const, Signal}
use Rattle.cpog_defs.specs.Orders.{each_below}
use Rattle.cpog_defs.specs.Gates.{AreGatesFrom, IsRefOver}
use Rattle.netlist_verilog.specs.Wires.{signal_text, name_of}
use Rattle.report_text.specs.Rows.{digits_of, gate_row, gate_lines, op_row, ref_text}
use Rattle.line_rows.specs.Words.{number_in, behind_of, pair_of, made_of}
use Rattle.line_rows.specs.Position.{Position}
use Rattle.line_rows.specs.Reading.{◌>>=◌, line_at, read_or_fault, row, view_of, many_of, lines_many}
use Rattle.line_rows.proofs.Exact.{IsExact, IsWord, exact-behind, exact-pair, exact-made, number_exact, decimal_word, tested, both_true}
use Rattle.line_rows.proofs.RowLaws.{IsRows, rows-row, rows-view, rows-many, FitsMany, bind_ok, ok_is}
use Rattle.report_reader.specs.Codes.{digits_in}
use Rattle.report_reader.specs.References.{signal_in, condition_in}
use Rattle.report_reader.specs.Gates.{gate_from, gate_in, gates_at, op_in, ops_at}
use Rattle.report_reader.proofs.CodeLaws.{digits_exact}
use Rattle.report_reader.proofs.ReferenceLaws.{signal_exact, signal_word, condition_exact}
use Rattle.report_reader.proofs.OperationLaws.{below_front}

-- ---- any rows

same_result : {A : Type 0} (o : Result (A × Position) ℕ) → (o >>= λ x. Ok (x.0, x.1)) ≡ o
same_result (Ok x) = refl
same_result (Err k) = refl

-- the same rows by other words
pub rows-same : {A : Type 0} {F : A → Type 0} {t : A → List (List ℕ)} {r : Position → Result (A × Position) ℕ} (G : A → Type 0) (u : A → List (List ℕ)) → IsRows F t r → ((v : A) → G v → F v × (u v ≡ t v)) → ((v : A) → F v → G v × (u v ≡ t v)) → IsRows G u r
rows-same {A = A} {r = r} G u rows from to =
    subst (IsRows G u) (λ i p. same_result (r p) i)
    (rows-view (λ (x : A). x) G u rows (λ b h. let f = from b h in (b, f.0, f.1, refl)) to)

-- rows that are read from the front are those that each_below writes
lines_below : {A : Type 0} (t : ℕ → A → List (List ℕ)) (d : A) (s : ℕ) (xs : List A) → lines_many t (λ i _. i + 1) s xs ≡ each_below (λ k. t (s + k) (get_or xs k d)) (length xs)
lines_below t d s [] = refl
lines_below {A = A} t d s (x ∷ xs) =
    let head : t s x ≡ t (s + 0) x = ap (λ (n : ℕ). t n x) (omega arith) in
    let step : (k : ℕ) → t (s + 1 + k) (get_or xs k d) ≡ t (s + suc k) (get_or xs k d) = λ k. ap (λ (n : ℕ). t n (get_or xs k d)) (omega arith) in
    ap (λ (ls : List (List ℕ)). t s x ++ ls) (lines_below t d (s + 1) xs ∙ ap (λ (f : ℕ → List (List ℕ)). each_below f (length xs)) (λ i k. step k i))
    ∙ ap (λ (l : List (List ℕ)). l ++ each_below (λ k. t (s + suc k) (get_or xs k d)) (length xs)) head
    ∙ sym (below_front (λ k. t (s + k) (get_or (x ∷ xs) k d)) (length xs))

pub lines_from_first : {A : Type 0} (t : ℕ → A → List (List ℕ)) (d : A) (xs : List A) → lines_many t (λ i _. i + 1) 0 xs ≡ each_below (λ k. t k (get_or xs k d)) (length xs)
lines_from_first {A = A} t d xs =
    let step : (k : ℕ) → t (0 + k) (get_or xs k d) ≡ t k (get_or xs k d) = λ k. ap (λ (n : ℕ). t n (get_or xs k d)) (omega arith) in
    lines_below t d 0 xs ∙ ap (λ (f : ℕ → List (List ℕ)). each_below f (length xs)) (λ i k. step k i)

-- ---- gates

-- a gate that reads two of so many signals
pub record IsGateOver (signals : ℕ) (gate : Gate) : Type 0 where
  pub lower : gate.j < gate.k
  pub earlier : gate.k < signals
  pub table : gate.table < 16

abbrev Parts : Type 0
Parts = ℕ × (ℕ × (ℕ × ℕ))

abbrev PartsFit : ℕ → ℕ → Parts → Type 0
PartsFit inputs i x = (x.0 < i + 1) × ((x.1.0 < inputs + i) × ((x.1.1.0 < inputs + i) × (x.1.1.1 < 2 ^ 4)))

abbrev parts_text : ℕ → Parts → List ℕ
parts_text inputs x = decimal x.0 ++ 32 ∷ (signal_text inputs x.1.0 ++ 32 ∷ (signal_text inputs x.1.1.0 ++ 32 ∷ digits_of 4 x.1.1.1))

parts_exact : (inputs i : ℕ) → inputs + i < 2 ^ 31 → IsExact (PartsFit inputs i) (parts_text inputs) (pair_of (number_in (i + 1)) (λ _. pair_of (signal_in inputs i) (λ _. pair_of (signal_in inputs i) (λ _. digits_in 4))))
parts_exact inputs i small =
    let signal = signal_exact inputs i (omega arith) in
    let word = signal_word inputs i (omega arith) in
    exact-pair (number_exact (i + 1) (omega arith)) (decimal_word (i + 1) (omega arith)) (λ _ _. exact-pair signal word (λ _ _. exact-pair signal word (λ _ _. digits_exact 4)))

abbrev gate_tail : ℕ → ℕ → Gate → List ℕ
gate_tail inputs i g = parts_text inputs (i, (g.j, (g.k, g.table)))

parts_of : (inputs i : ℕ) (g : Gate) → IsGateOver (inputs + i) g → (x : Parts) × PartsFit inputs i x × (gate_from i x ≡ Some g) × (gate_tail inputs i g ≡ parts_text inputs x)
parts_of inputs i g fits =
    let same : eqb i i ≡ true = eq-eqb i i refl in
    let order : ltb g.j g.k ≡ true = lt-ltb g.j g.k fits.lower in
    ((i, (g.j, (g.k, g.table))), (omega arith, (omega (arith, fits.lower, fits.earlier), (fits.earlier, fits.table))), rw (same, order) refl, refl)

from_parts : (inputs i : ℕ) (x : Parts) (g : Gate) → PartsFit inputs i x → gate_from i x ≡ Some g → IsGateOver (inputs + i) g × (gate_tail inputs i g ≡ parts_text inputs x)
from_parts inputs i x g fits e =
    let t = tested (eqb x.0 i && ltb x.1.0 x.1.1.0) (record { j = x.1.0; k = x.1.1.0; table = x.1.1.1 }) g e in
    let b = both_true (eqb x.0 i) (ltb x.1.0 x.1.1.0) t.0 in
    let number : x.0 ≡ i = eqb-true x.0 i b.0 in
    subst (λ (y : Gate). IsGateOver (inputs + i) y × (gate_tail inputs i y ≡ parts_text inputs x)) t.1
    (record { lower = ltb-true x.1.0 x.1.1.0 b.1; earlier = fits.1.1.0; table = fits.1.1.1 }, ap (λ (n : ℕ). parts_text inputs (n, x.1)) (sym number))

pub gate_exact : (inputs i : ℕ) → inputs + i < 2 ^ 31 → IsExact (IsGateOver (inputs + i)) (gate_row inputs i) (gate_in inputs i)
unfolding gate_in
gate_exact inputs i small = exact-behind (codes "g") (exact-made (gate_from i) (IsGateOver (inputs + i)) (gate_tail inputs i) (parts_exact inputs i small) (parts_of inputs i) (from_parts inputs i))

-- some gates are left only where two signals come before them
pub record Ahead (inputs n i : ℕ) : Type 0 where
  pub enough : 0 < n → 2 ≤ inputs + i
  pub small : inputs + (i + n) < 2 ^ 31

abbrev Over : ℕ → ℕ → Gate → Type 0
Over inputs i g = IsGateOver (inputs + i) g

gates_fit : (inputs i : ℕ) (gates : List Gate) → AreGatesFrom (inputs + i) gates → FitsMany (Over inputs) (λ i _. i + 1) (length gates) i gates
gates_fit inputs i [] h = tt
gates_fit inputs i (g ∷ gates) h =
    (record { lower = h.0; earlier = h.1; table = h.2 }, gates_fit inputs (i + 1) gates (subst (λ (n : ℕ). AreGatesFrom n gates) (omega arith) h.3))

are_gates : (inputs n i : ℕ) (gates : List Gate) → FitsMany (Over inputs) (λ i _. i + 1) n i gates → AreGatesFrom (inputs + i) gates × (length gates ≡ n)
are_gates inputs zero i [] h = (tt, refl)
are_gates inputs zero i (g ∷ gates) h = absurd h
are_gates inputs (suc n) i [] h = absurd h
are_gates inputs (suc n) i (g ∷ gates) h =
    let others = are_gates inputs n (i + 1) gates h.1 in
    ((h.0.lower, h.0.earlier, h.0.table, subst (λ (n : ℕ). AreGatesFrom n gates) (omega arith) others.0), ap suc others.1)

abbrev pub SoManyGates : ℕ → ℕ → List Gate → Type 0
SoManyGates inputs count gates = AreGatesFrom inputs gates × (length gates ≡ count)

gates_written : (inputs : ℕ) (gates : List Gate) → gate_lines inputs gates ≡ lines_many (λ g gate. gate_row inputs g gate ∷ []) (λ i _. i + 1) 0 gates
gates_written inputs gates = sym (lines_from_first (λ g gate. gate_row inputs g gate ∷ []) (record { j = 0; k = 0; table = 0 }) gates)

pub gates_rows : (inputs count : ℕ) → Ahead inputs count 0 → IsRows (SoManyGates inputs count) (gate_lines inputs) (gates_at inputs count)
gates_rows inputs count ahead =
    let zero_more : inputs + 0 ≡ inputs = omega arith in
    rows-same (SoManyGates inputs count) (gate_lines inputs)
    (rows-many (λ i _. i + 1) (Ahead inputs)
    (λ n i h. rows-row (gate_exact inputs i (omega (arith, h.small))) (record { j = 0; k = 1; table = 0 }, record { lower = omega arith; earlier = omega (arith, h.enough (omega arith)); table = omega arith }))
    (λ n i g h fits. record { enough = λ _. omega (arith, h.enough (omega arith)); small = omega (arith, h.small) })
    count 0 ahead)
    (λ gates h. (subst (λ (n : ℕ). FitsMany (Over inputs) (λ i _. i + 1) n 0 gates) h.1 (gates_fit inputs 0 gates (subst (λ (n : ℕ). AreGatesFrom n gates) (sym zero_more) h.0)), gates_written inputs gates))
    (λ gates h. let a = are_gates inputs count 0 gates h in ((subst (λ (n : ℕ). AreGatesFrom n gates) zero_more a.0, a.1), gates_written inputs gates))

-- ---- the conditions of operations

pub op_exact : (inputs gates : ℕ) (name : List ℕ) → inputs + gates < 2 ^ 32 → IsExact (IsRefOver (inputs + gates)) (op_row inputs name) (op_in inputs gates name)
unfolding op_in
op_exact inputs gates name small = exact-behind (codes "op ") (exact-behind name (exact-behind (codes " ") (condition_exact inputs gates small)))

abbrev OverAll : ℕ → ℕ → Ref → Type 0
OverAll signals v r = IsRefOver signals r

refs_fit : (signals i : ℕ) (refs : List Ref) → AllByRecursion (IsRefOver signals) refs → FitsMany (OverAll signals) (λ i _. i + 1) (length refs) i refs
refs_fit signals i [] h = tt
refs_fit signals i (r ∷ refs) h = (h.0, refs_fit signals (i + 1) refs h.1)

are_refs : (signals n i : ℕ) (refs : List Ref) → FitsMany (OverAll signals) (λ i _. i + 1) n i refs → AllByRecursion (IsRefOver signals) refs × (length refs ≡ n)
are_refs signals zero i [] h = (tt, refl)
are_refs signals zero i (r ∷ refs) h = absurd h
are_refs signals (suc n) i [] h = absurd h
are_refs signals (suc n) i (r ∷ refs) h = let others = are_refs signals n (i + 1) refs h.1 in ((h.0, others.0), ap suc others.1)

abbrev pub SoManyRefs : ℕ → ℕ → List Ref → Type 0
SoManyRefs signals count refs = AllByRecursion (IsRefOver signals) refs × (length refs ≡ count)

-- a line for each condition
abbrev pub ref_lines : ℕ → List (List ℕ) → List Ref → List (List ℕ)
ref_lines inputs names refs = each_below (λ v. op_row inputs (name_of names v) (get_or refs v (Const false)) ∷ []) (length refs)

refs_written : (inputs : ℕ) (names : List (List ℕ)) (refs : List Ref) → ref_lines inputs names refs ≡ lines_many (λ v r. op_row inputs (name_of names v) r ∷ []) (λ i _. i + 1) 0 refs
refs_written inputs names refs = sym (lines_from_first (λ v r. op_row inputs (name_of names v) r ∷ []) (Const false) refs)

pub ops_rows : (inputs gates : ℕ) (names : List (List ℕ)) → inputs + gates < 2 ^ 32 → IsRows (SoManyRefs (inputs + gates) (length names)) (ref_lines inputs names) (ops_at inputs gates names)
ops_rows inputs gates names small =
    rows-same (SoManyRefs (inputs + gates) (length names)) (ref_lines inputs names)
    (rows-many (λ i _. i + 1) (λ _ _. Unit {0}) (λ n v h. rows-row (op_exact inputs gates (name_of names v) small) (Const false, tt)) (λ n v r h fits. tt) (length names) 0 tt)
    (λ refs h. (subst (λ (n : ℕ). FitsMany (OverAll (inputs + gates)) (λ i _. i + 1) n 0 refs) h.1 (refs_fit (inputs + gates) 0 refs h.0), refs_written inputs names refs))
    (λ refs h. let a = are_refs (inputs + gates) (length names) 0 refs h in ((a.0, a.1), refs_written inputs names refs))

-- ---- what a row gives

row_is : {A : Type 0} (o : Option A) (q : Position) (x : A × Position) → read_or_fault o q ≡ Ok x → o ≡ Some x.0
row_is {A = A} (Some v) q x e = ap (λ (y : A × Position). Some y.0) (ok_is (v, q) x e)
row_is None q x e = absurd cc

pub row_spells : {A : Type 0} {F : A → Type 0} {t : A → List ℕ} (read : List ℕ → Option A) → IsExact F t read → (p : Position) (x : A × Position) → row read p ≡ Ok x → F x.0
row_spells read exact p x e =
    let l = bind_ok (line_at p) (λ l. read_or_fault (read l.0) l.1) x e in
    (exact.takes l.0.0 x.0 (row_is (read l.0.0) l.0.1 x l.2)).0
