-- The places of the variables in their order.
use Rattle.std.proofs.Common.{◌≡◌, ◌≢◌, ℕ, zero, suc, ◌+◌, ◌-◌, ◌*◌, ◌<◌, ◌==◌, Bool, true, false, ◌||◌, ◌&&◌, if◌then◌else◌, nat_lt, List, [], ◌∷◌, ◌++◌, length, refl, sym, ap, ap₂, ◌∙◌, subst, inl, inr, arith, length-append}
use Rattle.std.specs.List.{list_any, position_or_len}
use Rattle.std.proofs.lemmas.Bool.{both_ways, cases_Bool, cases_lt, cases_eq, or_left, or_right, ne_eqb}
use Rattle.cpog_defs.specs.Orders.{each_below}
use Rattle.gate_template.specs.declared.types.Shape.{Shape}
use Rattle.gate_template.specs.Variables.{Var, X, D, Sel, T, V, O, P, pairs_from, each_pair, x_block, d_block, sel_block, t_block, v_block, o_block, p_block, variables, same_var, number}
use Rattle.gate_template.specs.Counts.{rows, pairs, selections, before_d, before_sel, before_t, before_v, before_o, before_p, variable_count}
use Rattle.gate_template.proofs.ClauseLemmas.{lower_first, not_lower}
use Rattle.gate_template.proofs.NumberLemmas.{Stands, stands_below, stands_pair, itself}

abbrev pub NotIn : List Var → Var → Type 0
NotIn order x = list_any (same_var x) order ≡ false

abbrev pub place : List Var → Var → ℕ
place order x = position_or_len (same_var x) order

or_none : (p : Bool) → p ≡ false → (p || false) ≡ false
or_none true h = h
or_none false h = refl

or_later : (p q : Bool) → p ≡ false → q ≡ false → (p && q) ≡ false
or_later true q h k = k
or_later false q h k = refl

and_first : (p q : Bool) → p ≡ false → (p && q) ≡ false
and_first true q h = absurd (both_ways _ h refl)
and_first false q h = refl

and_second : (p q : Bool) → q ≡ false → (p && q) ≡ false
and_second true q h = h
and_second false q h = refl

-- ---- in parts

none_both : (x : Var) (a b : List Var) → NotIn a x → NotIn b x → NotIn (a ++ b) x
none_both x [] b h k = k
none_both x (y ∷ a) b h k = join (same_var x y) (list_any (same_var x) a) (list_any (same_var x) (a ++ b)) h (λ l. none_both x a b l k)
  where
    join : (p q r : Bool) → (p || q) ≡ false → (q ≡ false → r ≡ false) → (p || r) ≡ false
    join true q r h k = h
    join false q r h k = k h

none_below : (x : Var) (f : ℕ → List Var) (n : ℕ) → ((i : ℕ) → i < n → NotIn (f i) x) → NotIn (each_below f n) x
none_below x f zero h = refl
none_below x f (suc n) h = none_both x (each_below f n) (f n) (none_below x f n (λ i l. h i (omega arith))) (h n (omega arith))

none_choice : (x : Var) (f : ℕ → ℕ → List Var) (j k : ℕ) → (j < k → NotIn (f j k) x) → NotIn (if nat_lt j k then f j k else []) x
none_choice x f j k h = elim (cases_lt j k) [
  | inl l ↦ subst (λ a. NotIn a x) (sym (lower_first j k (f j k) [] l)) (h l)
  | inr m ↦ subst (λ a. NotIn a x) (sym (not_lower j k (f j k) [] m)) refl
]

none_row : (x : Var) (f : ℕ → ℕ → List Var) (n j : ℕ) → ((k : ℕ) → NotIn (f j k) x) → NotIn (pairs_from f n j) x
none_row x f n j h = none_below x (λ k. if nat_lt j k then f j k else []) n (λ k l. none_choice x f j k (λ m. h k))

none_pair : (x : Var) (f : ℕ → ℕ → List Var) (n : ℕ) → ((j k : ℕ) → NotIn (f j k) x) → NotIn (each_pair f n) x
none_pair x f n h = none_below x (pairs_from f n) n (λ j l. none_row x f n j (h j))

place_left : (x : Var) (a b : List Var) → Stands a x → place (a ++ b) x ≡ place a x
place_left x [] b h = absurd (both_ways _ refl h)
place_left x (y ∷ a) b h = elim (cases_Bool (same_var x y)) [
  | inl e ↦ rw e refl
  | inr e ↦ let rest : Stands a x = rw e at h in rw e (ap (λ k. 1 + k) (place_left x a b rest))
]

place_right : (x : Var) (a b : List Var) → NotIn a x → place (a ++ b) x ≡ length a + place b x
place_right x [] b h = omega arith
place_right x (y ∷ a) b h = elim (cases_Bool (same_var x y)) [
  | inl e ↦ let no : true ≡ false = rw e at h in cc
  | inr e ↦ let rest : NotIn a x = rw e at h in rw e (omega (arith, place_right x a b rest))
]

place_below : (x : Var) (f : ℕ → List Var) (n i : ℕ) → i < n → Stands (f i) x → ((j : ℕ) → j < i → NotIn (f j) x) → place (each_below f n) x ≡ length (each_below f i) + place (f i) x
place_below x f zero i l h none = absurd (omega arith)
place_below x f (suc n) i l h none = elim (cases_eq i n) [
  | inl same ↦
      place_right x (each_below f n) (f n) (none_below x f n (λ j m. none j (omega arith)))
      ∙ ap (λ k. length (each_below f k) + place (f k) x) (sym same)
  | inr other ↦ place_left x (each_below f n) (f n) (stands_below x f n i (omega arith) h) ∙ place_below x f n i (omega arith) h none
]

-- ---- lengths

pub length-each : {A : Type 0} (f : ℕ → List A) (n m : ℕ) → ((i : ℕ) → i < n → length (f i) ≡ m) → length (each_below f n) ≡ n * m
length-each f zero m h = omega arith
length-each f (suc n) m h = omega (arith, length-append (each_below f n) (f n), length-each f n m (λ i l. h i (omega arith)), h n (omega arith))

length-row : {A : Type 0} (f : ℕ → ℕ → List A) (n j m : ℕ) → ((k : ℕ) → length (f j k) ≡ m) → length (pairs_from f n j) ≡ (n - (j + 1)) * m
length-row f zero j m h = let e : 0 - (j + 1) ≡ 0 = omega arith in rw e (omega arith)
length-row f (suc n) j m h = elim (cases_lt j n) [
  | inl l ↦
      let d : (n - (j + 1)) + 1 ≡ suc n - (j + 1) = omega arith in
      length-append (pairs_from f n j) (if nat_lt j n then f j n else []) ∙ ap₂ (λ a b. a + b) (length-row f n j m h) (ap length (lower_first j n (f j n) [] l) ∙ h n)
      ∙ more (n - (j + 1)) ∙ ap (λ k. k * m) d
  | inr r ↦
      let d : n - (j + 1) ≡ suc n - (j + 1) = omega arith in
      length-append (pairs_from f n j) (if nat_lt j n then f j n else []) ∙ ap₂ (λ a b. a + b) (length-row f n j m h) (ap length (not_lower j n (f j n) [] r))
      ∙ none (n - (j + 1)) ∙ ap (λ k. k * m) d
]
  where
    more : (a : ℕ) → a * m + m ≡ (a + 1) * m
    more a = omega arith

    none : (a : ℕ) → a * m + 0 ≡ a * m
    none a = omega arith

pub length-rows : {A : Type 0} (f : ℕ → ℕ → List A) (n j m : ℕ) → ((j k : ℕ) → length (f j k) ≡ m) → length (each_below (pairs_from f n) j) ≡ rows n j * m
unfolding rows
length-rows f n zero m h = omega arith
length-rows f n (suc j) m h =
    length-append (each_below (pairs_from f n) j) (pairs_from f n j) ∙ ap₂ (λ a b. a + b) (length-rows f n j m h) (length-row f n j m (h j)) ∙ join (rows n j) (n - (j + 1))
  where
    join : (a b : ℕ) → a * m + b * m ≡ (a + b) * m
    join a b = omega arith

-- ---- a variable of a pair

place_pair : (x : Var) (f : ℕ → ℕ → List Var) (n j k m : ℕ) → j < k → k < n → Stands (f j k) x → ((a b : ℕ) → length (f a b) ≡ m) →
    ((b : ℕ) → b < k → NotIn (f j b) x) → ((a b : ℕ) → a < j → NotIn (f a b) x) → place (each_pair f n) x ≡ rows n j * m + ((k - (j + 1)) * m + place (f j k) x)
place_pair x f n j k m jk kn h len none_k none_j =
    let choice : ℕ → List Var = λ k. if nat_lt j k then f j k else [] in
    let here : Stands (choice k) x = subst (λ a. Stands a x) (sym (lower_first j k (f j k) [] jk)) h in
    let row : place (pairs_from f n j) x ≡ length (pairs_from f k j) + place (choice k) x = place_below x choice n k kn here (λ b l. none_choice x f j b (λ m. none_k b l)) in
    place_below x (pairs_from f n) n j (omega arith) (stands_below x choice n k kn here) (λ a l. none_row x f n a (λ b. none_j a b l))
    ∙ ap₂ (λ a b. a + b) (length-rows f n j m len)
    (row ∙ ap₂ (λ a b. a + b) (length-row f k j m (len j)) (ap (λ a. place a x) (lower_first j k (f j k) [] jk)))

-- ---- single variables

first : (x : Var) (b : List Var) → place (x ∷ b) x ≡ 0
first x b = let e : same_var x x ≡ true = itself x in rw e refl

alone_is : (x : Var) → Stands (x ∷ []) x
alone_is x = or_left (same_var x x) false (itself x)

-- the length of lists of one
pub ones : {A : Type 0} (f : ℕ → A) (n : ℕ) → length (each_below (λ i. f i ∷ []) n) ≡ n
ones f n = length-each (λ i. f i ∷ []) n 1 (λ i l. refl) ∙ omega arith

-- a place in a block of rows of one length, in which each place has one variable
place_two : (x : Var) (f : ℕ → ℕ → Var) (n m i j : ℕ) → i < n → j < m → f i j ≡ x → ((b : ℕ) → b < j → same_var x (f i b) ≡ false) → ((a b : ℕ) → a < i → same_var x (f a b) ≡ false) →
    place (each_below (λ a. each_below (λ b. f a b ∷ []) m) n) x ≡ i * m + j
place_two x f n m i j li lj e none_j none_i =
    let row : ℕ → List Var = λ a. each_below (λ b. f a b ∷ []) m in
    let here : Stands (f i j ∷ []) x = subst (λ y. Stands (y ∷ []) x) (sym e) (alone_is x) in
    let in_row : Stands (row i) x = stands_below x (λ b. f i b ∷ []) m j lj here in
    place_below x row n i li in_row (λ a l. none_below x (λ b. f a b ∷ []) m (λ b k. or_none _ (none_i a b l)))
    ∙ ap₂ (λ a b. a + b) (length-each row i m (λ a l. ones (f a) m))
    (place_below x (λ b. f i b ∷ []) m j lj here (λ b k. or_none _ (none_j b k)) ∙ ap₂ (λ a b. a + b) (ones (f i) j) (ap (λ y. place (y ∷ []) x) e ∙ first x []) ∙ omega arith)

-- ---- the blocks

module _ (z : Shape) where
  length-x : length (x_block z) ≡ before_d z
  length-x = length-each (λ s. each_below (λ i. X s i ∷ []) z.bits) z.scenarios z.bits (λ s l. ones (X s) z.bits)

  length-d : length (d_block z) ≡ pairs z.scenarios * z.bits
  length-d = length-rows (λ s t. each_below (λ i. D s t i ∷ []) z.bits) z.scenarios z.scenarios z.bits (λ s t. ones (D s t) z.bits)

  sel_rows : ℕ → List Var
  sel_rows g = each_pair (λ j k. Sel g j k ∷ []) (z.bits + g)

  pub length-sel_pairs : (g : ℕ) → length (each_pair (λ j k. Sel g j k ∷ []) (z.bits + g)) ≡ pairs (z.bits + g)
  length-sel_pairs g = length-rows (λ j k. Sel g j k ∷ []) (z.bits + g) (z.bits + g) 1 (λ j k. refl) ∙ omega arith

  length-sel : (g : ℕ) → length (each_below (λ g. each_pair (λ j k. Sel g j k ∷ []) (z.bits + g)) g) ≡ selections z.bits g
  unfolding selections
  length-sel zero = refl
  length-sel (suc g) =
      length-append (each_below (λ g. each_pair (λ j k. Sel g j k ∷ []) (z.bits + g)) g) (each_pair (λ j k. Sel g j k ∷ []) (z.bits + g)) ∙ ap₂ (λ a b. a + b) (length-sel g) (length-sel_pairs g)

  length-t : (g : ℕ) → length (each_below (λ g. T g 1 ∷ T g 2 ∷ T g 3 ∷ []) g) ≡ g * 3
  length-t g = length-each (λ g. T g 1 ∷ T g 2 ∷ T g 3 ∷ []) g 3 (λ i l. refl)

  length-v : length (v_block z) ≡ z.gates * z.scenarios
  length-v = length-each (λ g. each_below (λ s. V g s ∷ []) z.scenarios) z.gates z.scenarios (λ g l. ones (V g) z.scenarios)

  length-o : length (o_block z) ≡ z.classes * (z.bits + z.gates)
  length-o = length-each (λ c. each_below (λ n. O c n ∷ []) (z.bits + z.gates)) z.classes (z.bits + z.gates) (λ c l. ones (O c) (z.bits + z.gates))

  length-p : length (p_block z) ≡ z.classes
  length-p = ones P z.classes

  pub length-variables : length (variables z) ≡ variable_count z
  unfolding variables
  length-variables =
      let v1 = o_block z ++ p_block z in
      let v2 = v_block z ++ v1 in
      let v3 = t_block z ++ v2 in
      let v4 = sel_block z ++ v3 in
      let v5 = d_block z ++ v4 in
      omega (
        arith,
        length-append (x_block z) v5,
        length-append (d_block z) v4,
        length-append (sel_block z) v3,
        length-append (t_block z) v2,
        length-append (v_block z) v1,
        length-append (o_block z) (p_block z),
        length-x,
        length-d,
        length-sel z.gates,
        length-t z.gates,
        length-v,
        length-o,
        length-p,
      )

  -- a variable that is in none of the first blocks
  no_x : (x : Var) → ((s i : ℕ) → same_var x (X s i) ≡ false) → NotIn (x_block z) x
  no_x x h = none_below x (λ s. each_below (λ i. X s i ∷ []) z.bits) z.scenarios (λ s l. none_below x (λ i. X s i ∷ []) z.bits (λ i k. or_none _ (h s i)))

  no_d : (x : Var) → ((s t i : ℕ) → same_var x (D s t i) ≡ false) → NotIn (d_block z) x
  no_d x h = none_pair x (λ s t. each_below (λ i. D s t i ∷ []) z.bits) z.scenarios (λ s t. none_below x (λ i. D s t i ∷ []) z.bits (λ i k. or_none _ (h s t i)))

  no_sel : (x : Var) → ((g j k : ℕ) → same_var x (Sel g j k) ≡ false) → NotIn (sel_block z) x
  no_sel x h = none_below x (λ g. each_pair (λ j k. Sel g j k ∷ []) (z.bits + g)) z.gates (λ g l. none_pair x (λ j k. Sel g j k ∷ []) (z.bits + g) (λ j k. or_none _ (h g j k)))

  no_t : (x : Var) → ((g r : ℕ) → same_var x (T g r) ≡ false) → NotIn (t_block z) x
  no_t x h = none_below x (λ g. T g 1 ∷ T g 2 ∷ T g 3 ∷ []) z.gates (λ g l. three (same_var x (T g 1)) (same_var x (T g 2)) (same_var x (T g 3)) (h g 1) (h g 2) (h g 3))
    where
      three : (a b c : Bool) → a ≡ false → b ≡ false → c ≡ false → (a || (b || (c || false))) ≡ false
      three a b c p q r = rw (p, q, r) refl

  no_v : (x : Var) → ((g s : ℕ) → same_var x (V g s) ≡ false) → NotIn (v_block z) x
  no_v x h = none_below x (λ g. each_below (λ s. V g s ∷ []) z.scenarios) z.gates (λ g l. none_below x (λ s. V g s ∷ []) z.scenarios (λ s k. or_none _ (h g s)))

  no_o : (x : Var) → ((c n : ℕ) → same_var x (O c n) ≡ false) → NotIn (o_block z) x
  no_o x h = none_below x (λ c. each_below (λ n. O c n ∷ []) (z.bits + z.gates)) z.classes (λ c l. none_below x (λ n. O c n ∷ []) (z.bits + z.gates) (λ n k. or_none _ (h c n)))

  abbrev tail_o : List Var
  tail_o = o_block z ++ p_block z

  abbrev tail_v : List Var
  tail_v = v_block z ++ tail_o

  abbrev tail_t : List Var
  tail_t = t_block z ++ tail_v

  abbrev tail_sel : List Var
  tail_sel = sel_block z ++ tail_t

  abbrev tail_d : List Var
  tail_d = d_block z ++ tail_sel

  below_ne : (a b : ℕ) → b < a → (a == b) ≡ false
  below_ne a b l = let ne : a ≢ b = omega arith in ne_eqb a b ne

  pub number-X : (s i : ℕ) → s < z.scenarios → i < z.bits → number z (X s i) ≡ s * z.bits + i + 1
  unfolding number variables
  number-X s i sn il =
      let x = X s i in
      let there : Stands (x_block z) x = stands_below x (λ s. each_below (λ i. X s i ∷ []) z.bits) z.scenarios s sn (stands_below x (λ i. X s i ∷ []) z.bits i il (alone_is x)) in
      ap (λ k. k + 1) (place_left x (x_block z) tail_d there
      ∙ place_two x X z.scenarios z.bits s i sn il refl (λ b l. and_second _ _ (below_ne i b l)) (λ a b l. and_first _ _ (below_ne s a l)))

  -- behind the first blocks
  past_x : (x : Var) → ((s i : ℕ) → same_var x (X s i) ≡ false) → place (variables z) x ≡ before_d z + place tail_d x
  unfolding variables
  past_x x h = place_right x (x_block z) tail_d (no_x x h) ∙ ap (λ k. k + place tail_d x) length-x

  past_d : (x : Var) → ((s i : ℕ) → same_var x (X s i) ≡ false) → ((s t i : ℕ) → same_var x (D s t i) ≡ false) → place (variables z) x ≡ before_sel z + place tail_sel x
  past_d x h k = past_x x h ∙ ap (λ m. before_d z + m) (place_right x (d_block z) tail_sel (no_d x k)) ∙ omega (arith, length-d)

  past_sel : (x : Var) → ((s i : ℕ) → same_var x (X s i) ≡ false) → ((s t i : ℕ) → same_var x (D s t i) ≡ false) → ((g j k : ℕ) → same_var x (Sel g j k) ≡ false) → place (variables z) x ≡ before_t z + place tail_t x
  past_sel x h k l = past_d x h k ∙ ap (λ m. before_sel z + m) (place_right x (sel_block z) tail_t (no_sel x l)) ∙ omega (arith, length-sel z.gates)

  past_t : (x : Var) → ((s i : ℕ) → same_var x (X s i) ≡ false) → ((s t i : ℕ) → same_var x (D s t i) ≡ false) → ((g j k : ℕ) → same_var x (Sel g j k) ≡ false) → ((g r : ℕ) → same_var x (T g r) ≡ false) → place (variables z) x ≡ before_v z + place tail_v x
  past_t x h k l m = past_sel x h k l ∙ ap (λ n. before_t z + n) (place_right x (t_block z) tail_v (no_t x m)) ∙ omega (arith, length-t z.gates)

  pub number-D : (s t i : ℕ) → s < t → t < z.scenarios → i < z.bits → number z (D s t i) ≡ before_d z + (rows z.scenarios s * z.bits + ((t - (s + 1)) * z.bits + i)) + 1
  unfolding number
  number-D s t i st tn il =
      let x = D s t i in
      let f : ℕ → ℕ → List Var = λ s t. each_below (λ i. D s t i ∷ []) z.bits in
      let row : Stands (f s t) x = stands_below x (λ i. D s t i ∷ []) z.bits i il (alone_is x) in
      let there : Stands (d_block z) x = stands_pair x f z.scenarios s t st tn row in
      ap (λ k. k + 1) (past_x x (λ a b. refl) ∙ ap (λ k. before_d z + k) (place_left x (d_block z) tail_sel there
      ∙ place_pair x f z.scenarios s t z.bits st tn row (λ a b. ones (D a b) z.bits)
      (λ b l. none_below x (λ i. D s b i ∷ []) z.bits (λ k m. or_none _ (and_second _ _ (and_first _ _ (below_ne t b l)))))
      (λ a b l. none_below x (λ i. D a b i ∷ []) z.bits (λ k m. or_none _ (and_first _ _ (below_ne s a l))))
      ∙ ap (λ k. rows z.scenarios s * z.bits + ((t - (s + 1)) * z.bits + k))
      (place_below x (λ i. D s t i ∷ []) z.bits i il (alone_is x) (λ b l. or_none _ (and_second _ _ (and_second _ _ (below_ne i b l)))) ∙ ap₂ (λ a b. a + b) (ones (D s t) i) (first x []) ∙ omega arith)))

  pub number-Sel : (g j k : ℕ) → g < z.gates → j < k → k < z.bits + g → number z (Sel g j k) ≡ before_sel z + (selections z.bits g + (rows (z.bits + g) j + (k - (j + 1)))) + 1
  unfolding number
  number-Sel g j k lg jk kl =
      let x = Sel g j k in
      let f : ℕ → ℕ → ℕ → List Var = λ g j k. Sel g j k ∷ [] in
      let row : ℕ → List Var = λ g. each_pair (f g) (z.bits + g) in
      let in_row : Stands (row g) x = stands_pair x (f g) (z.bits + g) j k jk kl (alone_is x) in
      let there : Stands (sel_block z) x = stands_below x row z.gates g lg in_row in
      ap (λ k. k + 1) (past_d x (λ a b. refl) (λ a b c. refl) ∙ ap (λ k. before_sel z + k) (place_left x (sel_block z) tail_t there
      ∙ place_below x row z.gates g lg in_row (λ a l. none_pair x (f a) (z.bits + a) (λ b c. or_none _ (and_first _ _ (below_ne g a l))))
      ∙ ap₂ (λ a b. a + b) (length-sel g)
      (place_pair x (f g) (z.bits + g) j k 1 jk kl (alone_is x) (λ a b. refl)
      (λ b l. or_none _ (and_second _ _ (and_second _ _ (below_ne k b l)))) (λ a b l. or_none _ (and_second _ _ (and_first _ _ (below_ne j a l))))
      ∙ ap (λ m. rows (z.bits + g) j * 1 + ((k - (j + 1)) * 1 + m)) (first x []) ∙ times_one (rows (z.bits + g) j) (k - (j + 1)))))
    where
      times_one : (a b : ℕ) → a * 1 + (b * 1 + 0) ≡ a + b
      times_one a b = omega arith

  place_T : (g r k : ℕ) → g < z.gates → Stands (T g 1 ∷ T g 2 ∷ T g 3 ∷ []) (T g r) → place (T g 1 ∷ T g 2 ∷ T g 3 ∷ []) (T g r) ≡ k → number z (T g r) ≡ before_t z + (g * 3 + k) + 1
  unfolding number
  place_T g r k lg row at =
      let x = T g r in
      let f : ℕ → List Var = λ g. T g 1 ∷ T g 2 ∷ T g 3 ∷ [] in
      let there : Stands (t_block z) x = stands_below x f z.gates g lg row in
      ap (λ k. k + 1) (past_sel x (λ a b. refl) (λ a b c. refl) (λ a b c. refl) ∙ ap (λ k. before_t z + k) (place_left x (t_block z) tail_v there
      ∙ place_below x f z.gates g lg row (λ a l. three _ _ _ (and_first _ _ (below_ne g a l)) (and_first _ _ (below_ne g a l)) (and_first _ _ (below_ne g a l)))
      ∙ ap₂ (λ a b. a + b) (length-t g) at))
    where
      three : (a b c : Bool) → a ≡ false → b ≡ false → c ≡ false → (a || (b || (c || false))) ≡ false
      three a b c p q r = rw (p, q, r) refl

  pub number-T1 : (g : ℕ) → g < z.gates → number z (T g 1) ≡ before_t z + (g * 3 + 0) + 1
  number-T1 g lg = place_T g 1 0 lg (or_left (same_var (T g 1) (T g 1)) _ (itself (T g 1))) (first (T g 1) (T g 2 ∷ T g 3 ∷ []))

  pub number-T2 : (g : ℕ) → g < z.gates → number z (T g 2) ≡ before_t z + (g * 3 + 1) + 1
  number-T2 g lg = place_T g 2 1 lg (or_right (same_var (T g 2) (T g 1)) _ (or_left (same_var (T g 2) (T g 2)) _ (itself (T g 2))))
      (place_right (T g 2) (T g 1 ∷ []) (T g 2 ∷ T g 3 ∷ []) (or_none _ (and_second (g == g) false refl)) ∙ ap (λ k. 1 + k) (first (T g 2) (T g 3 ∷ [])))

  pub number-T3 : (g : ℕ) → g < z.gates → number z (T g 3) ≡ before_t z + (g * 3 + 2) + 1
  number-T3 g lg = place_T g 3 2 lg (or_right (same_var (T g 3) (T g 1)) _ (or_right (same_var (T g 3) (T g 2)) _ (or_left (same_var (T g 3) (T g 3)) _ (itself (T g 3)))))
      (place_right (T g 3) (T g 1 ∷ T g 2 ∷ []) (T g 3 ∷ []) (two (g == g)) ∙ ap (λ k. 2 + k) (first (T g 3) []))
    where
      two : (p : Bool) → ((p && false) || ((p && false) || false)) ≡ false
      two true = refl
      two false = refl

  pub number-V : (g s : ℕ) → g < z.gates → s < z.scenarios → number z (V g s) ≡ before_v z + (g * z.scenarios + s) + 1
  unfolding number
  number-V g s lg sn =
      let x = V g s in
      let there : Stands (v_block z) x = stands_below x (λ g. each_below (λ s. V g s ∷ []) z.scenarios) z.gates g lg (stands_below x (λ s. V g s ∷ []) z.scenarios s sn (alone_is x)) in
      ap (λ k. k + 1) (past_t x (λ a b. refl) (λ a b c. refl) (λ a b c. refl) (λ a b. refl) ∙ ap (λ k. before_v z + k) (place_left x (v_block z) tail_o there
      ∙ place_two x V z.gates z.scenarios g s lg sn refl (λ b l. and_second _ _ (below_ne s b l)) (λ a b l. and_first _ _ (below_ne g a l))))

  pub number-O : (c n : ℕ) → c < z.classes → n < z.bits + z.gates → number z (O c n) ≡ before_o z + (c * (z.bits + z.gates) + n) + 1
  unfolding number
  number-O c n lc ln =
      let x = O c n in
      let m = z.bits + z.gates in
      let there : Stands (o_block z) x = stands_below x (λ c. each_below (λ n. O c n ∷ []) m) z.classes c lc (stands_below x (λ n. O c n ∷ []) m n ln (alone_is x)) in
      ap (λ k. k + 1) (past_t x (λ a b. refl) (λ a b c. refl) (λ a b c. refl) (λ a b. refl)
      ∙ ap (λ k. before_v z + k) (place_right x (v_block z) tail_o (no_v x (λ a b. refl)) ∙ ap₂ (λ a b. a + b) length-v (place_left x (o_block z) (p_block z) there
      ∙ place_two x O z.classes m c n lc ln refl (λ b l. and_second _ _ (below_ne n b l)) (λ a b l. and_first _ _ (below_ne c a l))))
      ∙ join (before_v z) (z.gates * z.scenarios) (c * m + n))
    where
      join : (a b c : ℕ) → a + (b + c) ≡ a + b + c
      join a b c = omega arith

  pub number-P : (c : ℕ) → c < z.classes → number z (P c) ≡ before_p z + c + 1
  unfolding number
  number-P c lc =
      let x = P c in
      ap (λ k. k + 1) (past_t x (λ a b. refl) (λ a b c. refl) (λ a b c. refl) (λ a b. refl)
      ∙ ap (λ k. before_v z + k) (place_right x (v_block z) tail_o (no_v x (λ a b. refl)) ∙ ap₂ (λ a b. a + b) length-v (place_right x (o_block z) (p_block z) (no_o x (λ a b. refl))
      ∙ ap₂ (λ a b. a + b) length-o (place_below x (λ c. P c ∷ []) z.classes c lc (alone_is x) (λ a l. or_none _ (below_ne c a l)) ∙ ap₂ (λ a b. a + b) (ones P c) (first x []))))
      ∙ join (before_v z) (z.gates * z.scenarios) (z.classes * (z.bits + z.gates)) c)
    where
      join : (a b c d : ℕ) → a + (b + (c + (d + 0))) ≡ a + b + c + d
      join a b c d = omega arith
