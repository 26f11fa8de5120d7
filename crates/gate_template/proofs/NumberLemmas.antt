-- Each variable of a template stands in the order, so names and numbers say the same.
use Rattle.std.proofs.Common.{◌≡◌, ℕ, zero, suc, ◌+◌, ◌-◌, ◌<◌, ◌≤◌, ◌==◌, Bool, true, false, not, ◌||◌, if◌then◌else◌, nat_lt, IsTrue, List, [], ◌∷◌, ◌++◌, map, length, slice_index_or, get_or, refl, sym, ap, ap₂, ◌∙◌, subst, inl, inr, arith, one-add}
use Rattle.std.specs.List.{list_any, position_or_len}
use Rattle.std.proofs.lemmas.Bool.{both_ways, cases_Bool, cases_lt, cases_eq, or_left, or_right, and_parts, and_from, eq-eqb, eqb-true}
use Rattle.cpog_defs.specs.declared.types.Bit3.{Bit3}
use Rattle.cpog_defs.specs.declared.types.Bit3.TheVariants.{Zero, One, Free}
use Rattle.cpog_defs.specs.Entries.{entry_at}
use Rattle.cpog_defs.specs.Codes.{open_patterns}
use Rattle.cpog_defs.specs.Orders.{each_below}
use Rattle.clause_arena.specs.Clauses.{Satisfies, clause_true, by_place}
use Rattle.gate_template.specs.declared.types.Shape.{Shape}
use Rattle.gate_template.specs.declared.types.Template.{Template}
use Rattle.gate_template.specs.declared.types.Template.TheVariants.{First, Second, Third}
use Rattle.gate_template.specs.Variables.{Var, X, D, Sel, T, V, O, P, each_pair, x_block, d_block, sel_block, t_block, v_block, o_block, p_block, variables, same_var, number, value_var}
use Rattle.gate_template.specs.Families.{NamedLiteral, plain, complemented, numbered, as_clause, as_clauses, differ_at, some_bit, code_pair, code_clauses, gate_clauses_at, gate_pair, one_gate, gate_clauses, class_clauses_at, class_signal, one_class, class_clauses, given_bit, given_pattern, given_clauses, gives, all_zero_clauses, zero_clauses}
use Rattle.gate_template.specs.Templates.{further_clauses, named_template}
use Rattle.gate_template.proofs.ClauseLemmas.{lower_first, not_lower, named_true, NamedSat}

same_is : (x y : Var) → IsTrue (same_var x y) → x ≡ y
same_is (X s i) (X t j) h = let p = and_parts _ _ h in ap₂ X (eqb-true s t p.0) (eqb-true i j p.1)
same_is (D s t i) (D u v j) h = let p = and_parts _ _ h in let q = and_parts _ _ p.1 in let a = eqb-true s u p.0 in let b = eqb-true t v q.0 in let c = eqb-true i j q.1 in cc
same_is (Sel g j k) (Sel h a b) e = let p = and_parts _ _ e in let q = and_parts _ _ p.1 in let x = eqb-true g h p.0 in let y = eqb-true j a q.0 in let z = eqb-true k b q.1 in cc
same_is (T g r) (T h q) e = let p = and_parts _ _ e in ap₂ T (eqb-true g h p.0) (eqb-true r q p.1)
same_is (V g s) (V h t) e = let p = and_parts _ _ e in ap₂ V (eqb-true g h p.0) (eqb-true s t p.1)
same_is (O c n) (O d m) e = let p = and_parts _ _ e in ap₂ O (eqb-true c d p.0) (eqb-true n m p.1)
same_is (P c) (P d) e = ap P (eqb-true c d e)
same_is x y h = absurd (both_ways _ refl h)

-- x stands in the order
abbrev pub Stands : List Var → Var → Type 0
Stands order x = IsTrue (list_any (same_var x) order)

pub stands_left : (x : Var) (a b : List Var) → Stands a x → Stands (a ++ b) x
stands_left x [] b h = absurd (both_ways _ refl h)
stands_left x (y ∷ a) b h = join (same_var x y) (list_any (same_var x) a) (list_any (same_var x) (a ++ b)) h (stands_left x a b)
  where
    join : (p q r : Bool) → IsTrue (p || q) → (IsTrue q → IsTrue r) → IsTrue (p || r)
    join true q r h k = refl
    join false q r h k = k h

pub stands_right : (x : Var) (a b : List Var) → Stands b x → Stands (a ++ b) x
stands_right x [] b h = h
stands_right x (y ∷ a) b h = or_right (same_var x y) (list_any (same_var x) (a ++ b)) (stands_right x a b h)

pub stands_below : (x : Var) (f : ℕ → List Var) (n i : ℕ) → i < n → Stands (f i) x → Stands (each_below f n) x
stands_below x f zero i l h = absurd (omega arith)
stands_below x f (suc n) i l h = elim (cases_eq i n) [
  | inl same ↦ stands_right x (each_below f n) (f n) (subst (λ k. Stands (f k) x) same h)
  | inr other ↦ stands_left x (each_below f n) (f n) (stands_below x f n i (omega arith) h)
]

pub stands_pair : (x : Var) (f : ℕ → ℕ → List Var) (n j k : ℕ) → j < k → k < n → Stands (f j k) x → Stands (each_pair f n) x
stands_pair x f n j k jk kn h =
    stands_below x (λ j. each_below (λ k. if nat_lt j k then f j k else []) n) n j (omega arith)
    (stands_below x (λ k. if nat_lt j k then f j k else []) n k kn (subst (λ a. Stands a x) (sym (lower_first j k (f j k) [] jk)) h))

one : (a : ℕ) → IsTrue (a == a)
one a = eq-eqb a a refl

pub itself : (x : Var) → IsTrue (same_var x x)
itself (X s i) = and_from _ _ (one s) (one i)
itself (D s t i) = and_from _ _ (one s) (and_from _ _ (one t) (one i))
itself (Sel g j k) = and_from _ _ (one g) (and_from _ _ (one j) (one k))
itself (T g r) = and_from _ _ (one g) (one r)
itself (V g s) = and_from _ _ (one g) (one s)
itself (O c n) = and_from _ _ (one c) (one n)
itself (P c) = one c

alone : (x : Var) → Stands (x ∷ []) x
alone x = or_left (same_var x x) false (itself x)

-- the variable at its own place
pub at_place : (order : List Var) (x d : Var) → Stands order x → get_or order (position_or_len (same_var x) order) d ≡ x
at_place [] x d h = absurd (both_ways _ refl h)
at_place (y ∷ order) x d h = elim (cases_Bool (same_var x y)) [
  | inl e ↦ rw e (sym (same_is x y e))
  | inr e ↦ let rest : Stands order x = rw e at h in rw (e, one-add) (at_place order x d rest)
]

-- with every bit open each column has a zero
each_same : {A : Type 0} (f g : ℕ → List A) (n : ℕ) → ((i : ℕ) → f i ≡ g i) → each_below f n ≡ each_below g n
each_same f g zero h = refl
each_same f g (suc n) h = ap₂ (λ a b. a ++ b) (each_same f g n h) (h n)

pub none_given : (n i : ℕ) → gives (open_patterns n) i ≡ false
none_given zero i = refl
none_given (suc n) i = none_given n i

pub all_zero_is : (z : Shape) (n : ℕ) → all_zero_clauses z ≡ zero_clauses z (open_patterns n)
unfolding all_zero_clauses zero_clauses
all_zero_is z n =
    each_same (λ i. (complemented (X 0 i) ∷ []) ∷ []) (λ i. if gives (open_patterns n) i then [] else (complemented (X 0 i) ∷ []) ∷ []) z.bits
    (λ i. sym (ap (λ b. if b then [] else (complemented (X 0 i) ∷ []) ∷ []) (none_given n i)))

module _ (z : Shape) where
  abbrev order : List Var
  order = variables z

  in_x : (x : Var) → Stands (x_block z) x → Stands order x
  unfolding variables
  in_x x h = stands_left x (x_block z) (d_block z ++ (sel_block z ++ (t_block z ++ (v_block z ++ (o_block z ++ p_block z))))) h

  in_d : (x : Var) → Stands (d_block z) x → Stands order x
  unfolding variables
  in_d x h = stands_right x (x_block z) (d_block z ++ (sel_block z ++ (t_block z ++ (v_block z ++ (o_block z ++ p_block z)))))
      (stands_left x (d_block z) (sel_block z ++ (t_block z ++ (v_block z ++ (o_block z ++ p_block z)))) h)

  past_d : (x : Var) → Stands (sel_block z ++ (t_block z ++ (v_block z ++ (o_block z ++ p_block z)))) x → Stands order x
  unfolding variables
  past_d x h = stands_right x (x_block z) (d_block z ++ (sel_block z ++ (t_block z ++ (v_block z ++ (o_block z ++ p_block z)))))
      (stands_right x (d_block z) (sel_block z ++ (t_block z ++ (v_block z ++ (o_block z ++ p_block z)))) h)

  in_sel : (x : Var) → Stands (sel_block z) x → Stands order x
  in_sel x h = past_d x (stands_left x (sel_block z) (t_block z ++ (v_block z ++ (o_block z ++ p_block z))) h)

  in_t : (x : Var) → Stands (t_block z) x → Stands order x
  in_t x h = past_d x (stands_right x (sel_block z) (t_block z ++ (v_block z ++ (o_block z ++ p_block z))) (stands_left x (t_block z) (v_block z ++ (o_block z ++ p_block z)) h))

  past_t : (x : Var) → Stands (v_block z ++ (o_block z ++ p_block z)) x → Stands order x
  past_t x h = past_d x (stands_right x (sel_block z) (t_block z ++ (v_block z ++ (o_block z ++ p_block z))) (stands_right x (t_block z) (v_block z ++ (o_block z ++ p_block z)) h))

  in_v : (x : Var) → Stands (v_block z) x → Stands order x
  in_v x h = past_t x (stands_left x (v_block z) (o_block z ++ p_block z) h)

  in_o : (x : Var) → Stands (o_block z) x → Stands order x
  in_o x h = past_t x (stands_right x (v_block z) (o_block z ++ p_block z) (stands_left x (o_block z) (p_block z) h))

  in_p : (x : Var) → Stands (p_block z) x → Stands order x
  in_p x h = past_t x (stands_right x (v_block z) (o_block z ++ p_block z) (stands_right x (o_block z) (p_block z) h))

  pub stands_X : (s i : ℕ) → s < z.scenarios → i < z.bits → Stands order (X s i)
  stands_X s i a b = in_x (X s i) (stands_below (X s i) (λ s. each_below (λ i. X s i ∷ []) z.bits) z.scenarios s a (stands_below (X s i) (λ i. X s i ∷ []) z.bits i b (alone (X s i))))

  pub stands_D : (s t i : ℕ) → s < t → t < z.scenarios → i < z.bits → Stands order (D s t i)
  stands_D s t i st tn il = in_d (D s t i) (stands_pair (D s t i) (λ s t. each_below (λ i. D s t i ∷ []) z.bits) z.scenarios s t st tn (stands_below (D s t i) (λ i. D s t i ∷ []) z.bits i il (alone (D s t i))))

  pub stands_Sel : (h i j : ℕ) → h < z.gates → i < j → j < z.bits + h → Stands order (Sel h i j)
  stands_Sel h i j hg ij jl = in_sel (Sel h i j) (stands_below (Sel h i j) (λ h. each_pair (λ j k. Sel h j k ∷ []) (z.bits + h)) z.gates h hg (stands_pair (Sel h i j) (λ j k. Sel h j k ∷ []) (z.bits + h) i j ij jl (alone (Sel h i j))))

  pub stands_T : (h r : ℕ) → h < z.gates → Stands (T h 1 ∷ T h 2 ∷ T h 3 ∷ []) (T h r) → Stands order (T h r)
  stands_T h r hg at = in_t (T h r) (stands_below (T h r) (λ h. T h 1 ∷ T h 2 ∷ T h 3 ∷ []) z.gates h hg at)

  pub stands_V : (h s : ℕ) → h < z.gates → s < z.scenarios → Stands order (V h s)
  stands_V h s hg sn = in_v (V h s) (stands_below (V h s) (λ h. each_below (λ s. V h s ∷ []) z.scenarios) z.gates h hg (stands_below (V h s) (λ s. V h s ∷ []) z.scenarios s sn (alone (V h s))))

  pub stands_O : (c m : ℕ) → c < z.classes → m < z.bits + z.gates → Stands order (O c m)
  stands_O c m ck ml = in_o (O c m) (stands_below (O c m) (λ c. each_below (λ n. O c n ∷ []) (z.bits + z.gates)) z.classes c ck (stands_below (O c m) (λ m. O c m ∷ []) (z.bits + z.gates) m ml (alone (O c m))))

  pub stands_P : (c : ℕ) → c < z.classes → Stands order (P c)
  stands_P c ck = in_p (P c) (stands_below (P c) (λ c. P c ∷ []) z.classes c ck (alone (P c)))

  -- a signal's variable
  pub stands_value : (m s bound : ℕ) → bound ≤ z.gates → m < z.bits + bound → s < z.scenarios → Stands order (value_var z m s)
  stands_value m s bound bg ml sn = elim (cases_lt m z.bits) [
    | inl near ↦ subst (Stands order) (sym (lower_first m z.bits (X s m) (V (m - z.bits) s) near)) (stands_X s m sn near)
    | inr far ↦ subst (Stands order) (sym (not_lower m z.bits (X s m) (V (m - z.bits) s) far)) (stands_V (m - z.bits) s (omega arith) sn)
  ]

  -- ---- clauses whose variables all stand in the order

  abbrev pub AllStand : List NamedLiteral → Type 0
  AllStand [] = Unit {0}
  AllStand (x ∷ c) = Stands order x.0 × AllStand c

  abbrev pub EachStands : List (List NamedLiteral) → Type 0
  EachStands [] = Unit {0}
  EachStands (c ∷ cs) = AllStand c × EachStands cs

  module _ (w : Var → Bool) where
    -- the values in the printed order
    unfoldable pub in_order : List Bool
    in_order = map w order

    pub same_value : (x : Var) → Stands order x → by_place in_order (number z x) ≡ w x
    unfolding in_order number
    same_value x h =
        let p : ℕ = position_or_len (same_var x) order in
        let e : p + 1 - 1 ≡ p = omega arith in
        ap (λ m. get_or (map w order) m false) e ∙ value_there order p (within order h) ∙ ap w (at_place order x (P 0) h)
      where
        within : (order : List Var) → Stands order x → position_or_len (same_var x) order < length order
        within [] h = absurd (both_ways _ refl h)
        within (y ∷ order) h = elim (cases_Bool (same_var x y)) [
          | inl e ↦ rw e (omega arith)
          | inr e ↦ let rest : Stands order x = rw e at h in rw e (omega (arith, within order rest))
        ]

        value_there : (order : List Var) (p : ℕ) → p < length order → get_or (map w order) p false ≡ w (get_or order p (P 0))
        value_there [] p l = absurd (omega arith)
        value_there (y ∷ order) zero l = refl
        value_there (y ∷ order) (suc p) l = value_there order p (omega arith)

    same_clause : (c : List NamedLiteral) → AllStand c → clause_true (by_place in_order) (map (numbered z) c) ≡ named_true w c
    same_clause [] h = refl
    same_clause (x ∷ c) h = ap₂ (λ a b. a || b) (ap (λ b. if x.1 then not b else b) (same_value x.0 h.0)) (same_clause c h.1)

    pub numbers_from : (cs : List (List NamedLiteral)) → EachStands cs → NamedSat w cs → Satisfies (by_place in_order) (as_clauses z cs)
    unfolding as_clauses as_clause
    numbers_from [] h sat = tt
    numbers_from (c ∷ cs) h sat = (same_clause c h.0 ∙ sat.0, numbers_from cs h.1 sat.1)

  each_both : (a b : List (List NamedLiteral)) → EachStands a → EachStands b → EachStands (a ++ b)
  each_both [] b h k = k
  each_both (c ∷ a) b h k = (h.0, each_both a b h.1 k)

  each_stands : (f : ℕ → List (List NamedLiteral)) (n : ℕ) → ((i : ℕ) → i < n → EachStands (f i)) → EachStands (each_below f n)
  each_stands f zero h = tt
  each_stands f (suc n) h = each_both (each_below f n) (f n) (each_stands f n (λ i l. h i (omega arith))) (h n (omega arith))

  each_pair_stands : (f : ℕ → ℕ → List (List NamedLiteral)) (n : ℕ) → ((j k : ℕ) → j < k → k < n → EachStands (f j k)) → EachStands (each_pair f n)
  each_pair_stands f n h = each_stands (λ j. each_below (λ k. if nat_lt j k then f j k else []) n) n (λ j jn. each_stands (λ k. if nat_lt j k then f j k else []) n (λ k kn. elim (cases_lt j k) [
    | inl l ↦ subst EachStands (sym (lower_first j k (f j k) [] l)) (h j k l kn)
    | inr m ↦ subst EachStands (sym (not_lower j k (f j k) [] m)) tt
  ]))

  all_both : (a b : List NamedLiteral) → AllStand a → AllStand b → AllStand (a ++ b)
  all_both [] b h k = k
  all_both (c ∷ a) b h k = (h.0, all_both a b h.1 k)

  all_stand : (f : ℕ → List NamedLiteral) (n : ℕ) → ((i : ℕ) → i < n → AllStand (f i)) → AllStand (each_below f n)
  all_stand f zero h = tt
  all_stand f (suc n) h = all_both (each_below f n) (f n) (all_stand f n (λ i l. h i (omega arith))) (h n (omega arith))

  all_pair_stand : (f : ℕ → ℕ → List NamedLiteral) (n : ℕ) → ((j k : ℕ) → j < k → k < n → AllStand (f j k)) → AllStand (each_pair f n)
  all_pair_stand f n h = all_stand (λ j. each_below (λ k. if nat_lt j k then f j k else []) n) n (λ j jn. all_stand (λ k. if nat_lt j k then f j k else []) n (λ k kn. elim (cases_lt j k) [
    | inl l ↦ subst AllStand (sym (lower_first j k (f j k) [] l)) (h j k l kn)
    | inr m ↦ subst AllStand (sym (not_lower j k (f j k) [] m)) tt
  ]))

  codes_stand : EachStands (code_clauses z)
  unfolding code_clauses
  codes_stand = each_pair_stands (code_pair z) z.scenarios (λ s t st tn.
      each_both (each_below (differ_at s t) z.bits) (some_bit z s t ∷ [])
      (each_stands (differ_at s t) z.bits (λ i il.
      let d = stands_D s t i st tn il in
      let x = stands_X s i (omega arith) il in
      let y = stands_X t i tn il in
      ((d, (x, (y, tt))), ((d, (x, (y, tt))), tt))))
      (all_stand (λ i. plain (D s t i) ∷ []) z.bits (λ i l. (stands_D s t i st tn l, tt)), tt))

  gates_stand : EachStands (gate_clauses z)
  unfolding gate_clauses
  gates_stand = each_stands (one_gate z) z.gates (λ h hg. (
    all_pair_stand (λ j k. plain (Sel h j k) ∷ []) (z.bits + h) (λ j k jk kl. (stands_Sel h j k hg jk kl, tt)),
    each_pair_stands (gate_pair z h) (z.bits + h) (λ i j ij jl. each_stands (gate_clauses_at z h i j) z.scenarios (λ s sn.
        let sel = stands_Sel h i j hg ij jl in
        let a = stands_value i s h (omega arith) (omega arith) sn in
        let b = stands_value j s h (omega arith) jl sn in
        let v = stands_V h s hg sn in
        let t1 = stands_T h 1 hg (or_left (same_var (T h 1) (T h 1)) _ (itself (T h 1))) in
        let t2 = stands_T h 2 hg (or_right (same_var (T h 2) (T h 1)) _ (or_left (same_var (T h 2) (T h 2)) _ (itself (T h 2)))) in
        let t3 = stands_T h 3 hg (or_right (same_var (T h 3) (T h 1)) _ (or_right (same_var (T h 3) (T h 2)) _ (or_left (same_var (T h 3) (T h 3)) _ (itself (T h 3))))) in (
          (sel, (a, (b, (v, tt)))),
          (
            (sel, (a, (b, (v, (t1, tt))))),
            (
              (sel, (a, (b, (v, (t1, tt))))),
              ((sel, (a, (b, (v, (t2, tt))))), ((sel, (a, (b, (v, (t2, tt))))), ((sel, (a, (b, (v, (t3, tt))))), ((sel, (a, (b, (v, (t3, tt))))), tt)))),
            ),
          ),
        ))),
  ))

  entry_stands : (c m s : ℕ) (e : Bit3) → c < z.classes → m < z.bits + z.gates → s < z.scenarios → EachStands (class_clauses_at z c m s e)
  entry_stands c m s Free ck ml sn = tt
  entry_stands c m s One ck ml sn =
      let a = stands_O c m ck ml in
      let b = stands_value m s z.gates (omega arith) ml sn in
      let p = stands_P c ck in
      ((a, (b, (p, tt))), ((a, (b, (p, tt))), tt))
  entry_stands c m s Zero ck ml sn =
      let a = stands_O c m ck ml in
      let b = stands_value m s z.gates (omega arith) ml sn in
      let p = stands_P c ck in
      ((a, (b, (p, tt))), ((a, (b, (p, tt))), tt))

  classes_stand : (columns : List (List Bit3)) → EachStands (class_clauses z columns)
  unfolding class_clauses
  classes_stand columns = each_stands (one_class z columns) z.classes (λ c ck. (
    all_stand (λ n. plain (O c n) ∷ []) (z.bits + z.gates) (λ m l. (stands_O c m ck l, tt)),
    each_stands (class_signal z c (slice_index_or columns c [])) (z.bits + z.gates) (λ m ml. each_stands (λ s. class_clauses_at z c m s (entry_at (slice_index_or columns c []) s)) z.scenarios (λ s sn.
        entry_stands c m s (entry_at (slice_index_or columns c []) s) ck ml sn)),
  ))

  given_stand : (patterns : List (List Bit3)) → EachStands (given_clauses z patterns)
  unfolding given_clauses
  given_stand patterns = each_stands (λ s. given_pattern z s (slice_index_or patterns s [])) z.scenarios (λ s sn. each_stands (λ i. given_bit s i (entry_at (slice_index_or patterns s []) i)) z.bits (λ i il.
      given_there s i (entry_at (slice_index_or patterns s []) i) sn il))
    where
      given_there : (s i : ℕ) (e : Bit3) → s < z.scenarios → i < z.bits → EachStands (given_bit s i e)
      given_there s i Free sn il = tt
      given_there s i One sn il = ((stands_X s i sn il, tt), tt)
      given_there s i Zero sn il = ((stands_X s i sn il, tt), tt)

  zeros_stand : (patterns : List (List Bit3)) → 1 ≤ z.scenarios → EachStands (zero_clauses z patterns)
  unfolding zero_clauses
  zeros_stand patterns some = each_stands (λ i. if gives patterns i then [] else (complemented (X 0 i) ∷ []) ∷ []) z.bits (λ i il. there (gives patterns i) i il)
    where
      there : (g : Bool) (i : ℕ) → i < z.bits → EachStands (if g then [] else (complemented (X 0 i) ∷ []) ∷ [])
      there true i il = tt
      there false i il = ((stands_X 0 i (omega arith) il, tt), tt)

  further_stand : (kind : Template) (patterns : List (List Bit3)) → 1 ≤ z.scenarios → EachStands (further_clauses kind z patterns)
  further_stand First patterns some = tt
  further_stand Second patterns some = subst EachStands (sym (all_zero_is z z.scenarios)) (zeros_stand (open_patterns z.scenarios) some)
  further_stand Third patterns some = each_both (given_clauses z patterns) (zero_clauses z patterns) (given_stand patterns) (zeros_stand patterns some)

  pub template_stands : (kind : Template) (patterns columns : List (List Bit3)) → 1 ≤ z.scenarios → EachStands (named_template kind z patterns columns)
  template_stands kind patterns columns some =
      each_both (code_clauses z) (gate_clauses z ++ (class_clauses z columns ++ further_clauses kind z patterns)) codes_stand
      (each_both (gate_clauses z) (class_clauses z columns ++ further_clauses kind z patterns) gates_stand
      (each_both (class_clauses z columns) (further_clauses kind z patterns) (classes_stand columns) (further_stand kind patterns some)))
