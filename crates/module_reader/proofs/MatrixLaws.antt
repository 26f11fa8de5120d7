-- Arc wires that are declared, as a matrix of bits and as the wires of a netlist.
use Rattle.std.proofs.Common.{◌≡◌, ℕ, zero, suc, ◌<◌, ◌+◌, Bool, false, List, [], ◌∷◌, ◌++◌, length, map, get_or, Option, Some, None, is_some, refl, sym, ap, ap₂, subst, ◌∙◌, arith}
use Rattle.std.specs.Prelude.{codes}
use Rattle.std.specs.Fmt.{decimal}
use Rattle.std.proofs.lemmas.List.{append-nil, length-map}
use Rattle.cpog_defs.specs.declared.types.Ref.{Ref}
use Rattle.cpog_defs.specs.Orders.{each_below}
use Rattle.netlist_verilog.specs.Wires.{Wire, wire_text}
use Rattle.netlist_verilog.specs.Rows.{joined, arc_wire}
use Rattle.netlist_verilog.proofs.WritingLemmas.{joined_append}
use Rattle.line_rows.proofs.RowLaws.{FitsMany}
use Rattle.module_reader.specs.Lists.{arc_mark, arc_marks_from}
use Rattle.module_reader.specs.Modules.{is_declared}
use Rattle.module_reader.proofs.RowLaws.{below_front}
use Rattle.module_reader.proofs.PortLaws.{below_same}
use Rattle.module_reader.proofs.ArcLaws.{map_below, IsDeclared, AreDeclared, AreAllDeclared}
use Rattle.module_reader.proofs.ListLaws.{walk_text}
use Rattle.module_reader.specs.Fits.{NotOwn, IsRow, IsMatrix}
use Rattle.module_reader.proofs.WireLaws.{push, arc_part, row_text, matrix_text}

abbrev Wires : Type 0
Wires = List (List (Option Ref))

-- which wires there are
abbrev pub bits_of : Wires → List (List Bool)
bits_of wires = map (λ row. map is_some row) wires

-- ---- what stands at a place

bit_at : (ws : List (Option Ref)) (v : ℕ) → get_or (map is_some ws) v false ≡ is_some (get_or ws v None)
bit_at [] v = refl
bit_at (w ∷ ws) zero = refl
bit_at (w ∷ ws) (suc v) = bit_at ws v

pub row_at : (wires : Wires) (u : ℕ) → get_or (bits_of wires) u [] ≡ map is_some (get_or wires u [])
row_at [] u = refl
row_at (ws ∷ wires) zero = refl
row_at (ws ∷ wires) (suc u) = row_at wires u

pub declared_at : (wires : Wires) (u v : ℕ) → is_declared (bits_of wires) u v ≡ is_some (get_or (get_or wires u []) v None)
declared_at wires u v = ap (λ (r : List Bool). get_or r v false) (row_at wires u) ∙ bit_at (get_or wires u []) v

-- ---- what fits at each place

pub fits_from : {A : Type 0} (F : ℕ → A → Type 0) (d : A) (i : ℕ) (xs : List A) → ((k : ℕ) → k < length xs → F (i + k) (get_or xs k d)) → FitsMany F (λ i _. i + 1) (length xs) i xs
fits_from F d i [] h = tt
fits_from F d i (x ∷ xs) h = (subst (λ (j : ℕ). F j x) (omega arith) (h 0 (omega arith)), fits_from F d (i + 1) xs (λ k lt. subst (λ (j : ℕ). F j (get_or xs k d)) (omega arith) (h (suc k) (omega (arith, lt)))))

pub fits_count : {A : Type 0} (F : ℕ → A → Type 0) (d : A) (n i : ℕ) (xs : List A) → length xs ≡ n → ((k : ℕ) → k < n → F (i + k) (get_or xs k d)) → FitsMany F (λ i _. i + 1) n i xs
fits_count F d n i xs e h = subst (λ (m : ℕ). FitsMany F (λ i _. i + 1) m i xs) e (fits_from F d i xs (λ k lt. h k (omega (arith, lt, e))))

pub fit_at : {A : Type 0} (F : ℕ → A → Type 0) (d : A) (n i : ℕ) (xs : List A) → FitsMany F (λ i _. i + 1) n i xs → (k : ℕ) → k < n → F (i + k) (get_or xs k d)
fit_at F d zero i xs h k lt = absurd (omega (arith, lt))
fit_at F d (suc n) i [] h k lt = absurd h
fit_at F d (suc n) i (x ∷ xs) h zero lt = subst (λ (j : ℕ). F j x) (omega arith) h.0
fit_at F d (suc n) i (x ∷ xs) h (suc k) lt = subst (λ (j : ℕ). F j (get_or xs k d)) (omega arith) (fit_at F d n (i + 1) xs h.1 k (omega (arith, lt)))

pub fits_length : {A : Type 0} (F : ℕ → A → Type 0) (n i : ℕ) (xs : List A) → FitsMany F (λ i _. i + 1) n i xs → length xs ≡ n
fits_length F zero i [] h = refl
fits_length F zero i (x ∷ xs) h = absurd h
fits_length F (suc n) i [] h = absurd h
fits_length F (suc n) i (x ∷ xs) h = ap suc (fits_length F n (i + 1) xs h.1)

-- ---- wires that were declared so have these bits

row_is : (signals u : ℕ) (f : ℕ → Bool) (n i : ℕ) (ws : List (Option Ref)) (bs : List Bool) → FitsMany (λ v w. IsDeclared signals (f v) w) (λ v _. v + 1) n i ws → length bs ≡ n → ((k : ℕ) → f (i + k) ≡ get_or bs k false) → map is_some ws ≡ bs
row_is signals u f zero i [] [] h e same = refl
row_is signals u f zero i [] (b ∷ bs) h e same = absurd (omega (arith, e))
row_is signals u f zero i (w ∷ ws) bs h e same = absurd h
row_is signals u f (suc n) i [] bs h e same = absurd h
row_is signals u f (suc n) i (w ∷ ws) [] h e same = absurd (omega (arith, e))
row_is signals u f (suc n) i (w ∷ ws) (b ∷ bs) h e same =
    ap₂ (λ (x : Bool) (xs : List Bool). x ∷ xs) (h.0.0 ∙ ap f (omega arith) ∙ same 0) (row_is signals u f n (i + 1) ws bs h.1 (omega (arith, e)) (λ k. ap f (omega arith) ∙ same (suc k)))

matrix_from : (signals count : ℕ) (declared : ℕ → ℕ → Bool) (n i : ℕ) (wires : Wires) (rows : List (List Bool)) → FitsMany (λ u ws. AreDeclared signals declared count u ws) (λ u _. u + 1) n i wires → FitsMany (IsRow count) (λ u _. u + 1) n i rows
    → ((k v : ℕ) → declared (i + k) v ≡ is_declared rows k v) → bits_of wires ≡ rows
matrix_from signals count declared zero i [] [] h m same = refl
matrix_from signals count declared zero i [] (r ∷ rows) h m same = absurd m
matrix_from signals count declared zero i (ws ∷ wires) rows h m same = absurd h
matrix_from signals count declared (suc n) i [] rows h m same = absurd h
matrix_from signals count declared (suc n) i (ws ∷ wires) [] h m same = absurd m
matrix_from signals count declared (suc n) i (ws ∷ wires) (r ∷ rows) h m same =
    ap₂ (λ (x : List Bool) (xs : List (List Bool)). x ∷ xs)
    (row_is signals i (declared i) count 0 ws r h.0 (fits_length (NotOwn i) count 0 r m.0) (λ k. ap₂ declared (omega arith) (omega arith) ∙ same 0 k))
    (matrix_from signals count declared n (i + 1) wires rows h.1 m.1 (λ k v. ap (λ (j : ℕ). declared j v) (omega arith) ∙ same (suc k) v))

pub matrix_is : (signals count : ℕ) (rows : List (List Bool)) (wires : Wires) → AreAllDeclared signals (is_declared rows) count wires → IsMatrix count rows → bits_of wires ≡ rows
matrix_is signals count rows wires h m = matrix_from signals count (is_declared rows) count 0 wires rows h m (λ k v. ap (λ (j : ℕ). is_declared rows j v) (omega arith))

-- ---- their text

walk_below : {S A : Type 0} (put : ℕ → S → A → S) (step : ℕ → List ℕ → A × List ℕ) (t : ℕ → A → List ℕ) (F : ℕ → A → Type 0) (d : A) (i : ℕ) (xs : List A) → walk_text put step t F i xs ≡ each_below (λ k. t (i + k) (get_or xs k d)) (length xs)
walk_below put step t F d i [] = refl
walk_below {A = A} put step t F d i (x ∷ xs) =
    let shift : (k : ℕ) → t (i + 1 + k) (get_or xs k d) ≡ t (i + suc k) (get_or xs k d) = λ k. ap (λ (n : ℕ). t n (get_or xs k d)) (omega arith) in
    ap₂ (λ (a b : List ℕ). a ++ b) (ap (λ (n : ℕ). t n x) (omega arith)) (walk_below put step t F d (i + 1) xs ∙ ap (λ (f : ℕ → List ℕ). each_below f (length xs)) (λ y k. shift k y))
    ∙ sym (below_front (λ k. t (i + k) (get_or (x ∷ xs) k d)) (length xs))

joined_below : (f : ℕ → List (List ℕ)) (n : ℕ) → joined false (each_below f n) ≡ each_below (λ k. joined false (f k)) n
joined_below f zero = refl
joined_below f (suc n) = joined_append false (each_below f n) (f n) ∙ ap (λ (x : List ℕ). x ++ joined false (f n)) (joined_below f n)

one_text : (inputs : ℕ) (names : List (List ℕ)) (u v : ℕ) (w : Option Ref) → joined false (map (wire_text inputs names) (arc_wire u v w)) ≡ arc_part u v (is_some w)
one_text inputs names u v None = refl
one_text inputs names u v (Some r) = ap (λ (x : List ℕ). codes ", " ++ x) (append-nil (codes "e" ++ (decimal u ++ (codes "_" ++ decimal v))))

-- the names of the arc wires, as the line of wires has them
abbrev pub arcs_text : ℕ → List (List ℕ) → ℕ → Wires → List ℕ
arcs_text inputs names count wires = joined false (map (wire_text inputs names) (each_below (λ u. each_below (λ v. arc_wire u v (get_or (get_or wires u []) v None)) count) count))

pub arcs_are : (inputs : ℕ) (names : List (List ℕ)) (count : ℕ) (wires : Wires) → length wires ≡ count → ((u : ℕ) → u < count → length (get_or wires u []) ≡ count) → arcs_text inputs names count wires ≡ matrix_text count (bits_of wires)
arcs_are inputs names count wires long rows =
    let text : Wire → List ℕ = wire_text inputs names in
    let wire : ℕ → ℕ → Option Ref = λ u v. get_or (get_or wires u []) v None in
    let bit : ℕ → ℕ → Bool = λ u v. is_some (wire u v) in
    let total : length (bits_of wires) ≡ count = length-map wires (λ row. map is_some row) ∙ long in
    let inner : (u : ℕ) → u < count → joined false (map text (each_below (λ v. arc_wire u v (wire u v)) count)) ≡ row_text (0 + u) (get_or (bits_of wires) u []) = λ u lt.
    let row : List Bool = get_or (bits_of wires) u [] in
    let size : length row ≡ count = ap length (row_at wires u) ∙ length-map (get_or wires u []) is_some ∙ rows u lt in
    ap (joined false) (map_below text (λ v. arc_wire u v (wire u v)) count)
    ∙ joined_below (λ v. map text (arc_wire u v (wire u v))) count
    ∙ below_same _ _ count (λ v lv. one_text inputs names u v (wire u v) ∙ ap (arc_part u v) (sym (ap (λ (r : List Bool). get_or r v false) (row_at wires u) ∙ bit_at (get_or wires u []) v)) ∙ ap₂ (λ (a b : ℕ). arc_part a b (get_or row v false)) (omega arith) (omega arith))
    ∙ ap (each_below (λ v. arc_part (0 + u) (0 + v) (get_or row v false))) (sym size)
    ∙ sym (walk_below push (arc_mark (0 + u)) (arc_part (0 + u)) (NotOwn (0 + u)) false 0 row) in
    ap (joined false) (map_below text (λ u. each_below (λ v. arc_wire u v (wire u v)) count) count)
    ∙ joined_below (λ u. map text (each_below (λ v. arc_wire u v (wire u v)) count)) count
    ∙ below_same _ _ count inner
    ∙ ap (each_below (λ u. row_text (0 + u) (get_or (bits_of wires) u []))) (sym total)
    ∙ sym (walk_below push (arc_marks_from count) row_text (IsRow count) [] 0 (bits_of wires))

-- a row for each operation, as long as that
pub matrix_square : (count : ℕ) (rows : List (List Bool)) → IsMatrix count rows → (length rows ≡ count) × ((u : ℕ) → u < count → length (get_or rows u []) ≡ count)
matrix_square count rows h = (fits_length (IsRow count) count 0 rows h, λ u lt. fits_length (NotOwn (0 + u)) count 0 (get_or rows u []) (fit_at (IsRow count) [] count 0 rows h u lt))
