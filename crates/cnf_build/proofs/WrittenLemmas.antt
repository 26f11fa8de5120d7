-- Values of variables one behind the other.
use Rattle.std.proofs.Common.{◌≡◌, ℕ, zero, suc, ◌+◌, ◌<◌, ◌≤◌, Bool, if◌then◌else◌, nat_lt, List, [], ◌∷◌, ◌++◌, map, length, get_or, refl, sym, ap, ap₂, ◌∙◌, subst, append_assoc, add-one, arith}
use Rattle.std.specs.List.{All}
use Rattle.cpog_defs.specs.declared.types.Bit3.{Bit3}
use Rattle.cpog_defs.specs.declared.types.Ref.{Ref}
use Rattle.cpog_defs.specs.Gates.{GateList, IsGateList}
use Rattle.cpog_defs.specs.Orders.{each_below}
use Rattle.gate_core.specs.Columns.{IsOpenColumn}
use Rattle.clause_arena.specs.Clauses.{Satisfies, by_place}
use Rattle.gate_forms.specs.Forms.{IsNormalForm, padded}
use Rattle.gate_template.specs.declared.types.Shape.{Shape}
use Rattle.gate_template.specs.declared.types.Template.{Template}
use Rattle.gate_template.specs.Variables.{Var, pairs_from, variables}
use Rattle.gate_template.specs.Templates.{shape_of, template}
use Rattle.gate_template.specs.Values.{Parts, value_of, IsSolution, HasZeros}
use Rattle.gate_template.proofs.ClauseLemmas.{lower_first, not_lower}
use Rattle.gate_template.proofs.NumberLemmas.{in_order}
use Rattle.gate_template.specs.Listed.{listed}
use Rattle.gate_template.proofs.ListedLemmas.{length-listed, get_or-listed}
use Rattle.gate_template.proofs.BothWaysLemmas.{encoded_satisfies}
use Rattle.cnf_build.specs.Decoded.{parts_of}

append_none : {A : Type 0} (xs : List A) → xs ++ [] ≡ xs
append_none [] = refl
append_none (x ∷ xs) = ap (λ l. x ∷ l) (append_none xs)

module _ (w : Var → Bool) where
  map-join : (a b : List Var) → map w (a ++ b) ≡ map w a ++ map w b
  map-join [] b = refl
  map-join (x ∷ a) b = ap (λ l. w x ∷ l) (map-join a b)

  -- nothing yet
  pub begin : (front : List Bool) → front ≡ front ++ map w []
  begin front = sym (append_none front)

  -- values behind others
  pub behind : (a b : List Var) (front xs ys : List Bool) → xs ≡ front ++ map w a → ys ≡ xs ++ map w b → ys ≡ front ++ map w (a ++ b)
  behind a b front xs ys h k = k ∙ ap (λ l. l ++ map w b) h ∙ append_assoc front (map w a) (map w b) ∙ ap (λ l. front ++ l) (sym (map-join a b))

  -- the values of one more number
  pub one_more : (f : ℕ → List Var) (n : ℕ) (front xs ys : List Bool) → xs ≡ front ++ map w (each_below f n) → ys ≡ xs ++ map w (f n) → ys ≡ front ++ map w (each_below f (n + 1))
  one_more f n front xs ys h k = behind (each_below f n) (f n) front xs ys h k ∙ ap (λ m. front ++ map w (each_below f m)) (sym (add-one n))

  pub one_more_value : (f : ℕ → Var) (n : ℕ) (front xs ys : List Bool) (b : Bool) → xs ≡ front ++ map w (each_below (λ i. f i ∷ []) n) → b ≡ w (f n) → ys ≡ xs ++ b ∷ [] → ys ≡ front ++ map w (each_below (λ i. f i ∷ []) (n + 1))
  one_more_value f n front xs ys b h e k = one_more (λ i. f i ∷ []) n front xs ys h (k ∙ ap (λ v. xs ++ v ∷ []) e)

  -- no pair has its second at or below its first
  none_up_to : (f : ℕ → ℕ → List Var) (j n : ℕ) → n ≤ j + 1 → each_below (λ k. if nat_lt j k then f j k else []) n ≡ []
  none_up_to f j zero l = refl
  none_up_to f j (suc n) l = ap₂ (λ a b. a ++ b) (none_up_to f j n (omega arith)) (not_lower j n (f j n) [] (omega arith))

  pub begin_row : (f : ℕ → ℕ → List Var) (j : ℕ) (front : List Bool) → front ≡ front ++ map w (pairs_from f (j + 1) j)
  begin_row f j front = begin front ∙ ap (λ l. front ++ map w l) (sym (none_up_to f j (j + 1) (omega arith)))

  pub one_more_pair : (f : ℕ → ℕ → List Var) (j k : ℕ) (front xs ys : List Bool) → j < k → xs ≡ front ++ map w (pairs_from f k j) → ys ≡ xs ++ map w (f j k) → ys ≡ front ++ map w (pairs_from f (k + 1) j)
  one_more_pair f j k front xs ys l h e =
      one_more (λ k. if nat_lt j k then f j k else []) k front xs ys h (e ∙ ap (λ c. xs ++ map w c) (sym (lower_first j k (f j k) [] l)))

  pub one_more_value_pair : (f : ℕ → ℕ → Var) (j k : ℕ) (front xs ys : List Bool) (b : Bool) → j < k → xs ≡ front ++ map w (pairs_from (λ j k. f j k ∷ []) k j) → b ≡ w (f j k) → ys ≡ xs ++ b ∷ [] →
      ys ≡ front ++ map w (pairs_from (λ j k. f j k ∷ []) (k + 1) j)
  one_more_value_pair f j k front xs ys b l h e k' = one_more_pair (λ j k. f j k ∷ []) j k front xs ys l h (k' ∙ ap (λ v. xs ++ v ∷ []) e)

  -- seven blocks one behind the other
  pub seven_blocks : (x d s t v o p : List Var) (a0 a1 a2 a3 a4 a5 a6 a7 : List Bool) → a0 ≡ [] → a1 ≡ a0 ++ map w x → a2 ≡ a1 ++ map w d → a3 ≡ a2 ++ map w s → a4 ≡ a3 ++ map w t →
      a5 ≡ a4 ++ map w v → a6 ≡ a5 ++ map w o → a7 ≡ a6 ++ map w p → a7 ≡ map w (x ++ (d ++ (s ++ (t ++ (v ++ (o ++ p))))))
  seven_blocks x d s t v o p a0 a1 a2 a3 a4 a5 a6 a7 e k1 k2 k3 k4 k5 k6 k7 =
      let r6 = behind o p a5 a6 a7 k6 k7 in
      let r5 = behind v (o ++ p) a4 a5 a7 k5 r6 in
      let r4 = behind t (v ++ (o ++ p)) a3 a4 a7 k4 r5 in
      let r3 = behind s (t ++ (v ++ (o ++ p))) a2 a3 a7 k3 r4 in
      let r2 = behind d (s ++ (t ++ (v ++ (o ++ p)))) a1 a2 a7 k2 r3 in
      behind x (d ++ (s ++ (t ++ (v ++ (o ++ p))))) a0 a1 a7 k1 r2 ∙ ap (λ l. l ++ map w (x ++ (d ++ (s ++ (t ++ (v ++ (o ++ p))))))) e

-- an item of a list, read with any default
pub item_at : {A : Type 0} (xs : List A) (k : ℕ) (x d : A) → k < length xs → x ≡ get_or xs k x → get_or xs k d ≡ x
item_at [] k x d l e = absurd (omega arith)
item_at (y ∷ xs) zero x d l e = sym e
item_at (y ∷ xs) (suc k) x d l e = item_at xs k x d (omega arith) e

-- a row of a list of rows
pub row_is : (f : ℕ → List Bool) (rows : List (List Bool)) (n s : ℕ) (r : List Bool) → rows ≡ listed f n → s < n → r ≡ get_or rows s r → r ≡ f s
row_is f rows n s r e l is = sym (item_at rows s r [] (omega (arith, ap length e, length-listed f n)) is) ∙ ap (λ v. get_or v s []) e ∙ get_or-listed f n s [] l

-- what is written in order satisfies the template
pub written_satisfies : (kind : Template) (patterns columns : List (List Bit3)) (bits gates : ℕ) (e : Parts) (list : GateList) (refs : List Ref) (values : List Bool) (whole : Parts) (shape : Shape) →
    IsSolution kind patterns bits columns e → HasZeros kind patterns bits e.codes → IsGateList list → IsNormalForm e.gates e.refs list refs → length e.gates.gates ≤ gates → 2 ≤ bits → All (IsOpenColumn (length patterns)) columns → 1 ≤ length patterns →
    values ≡ map (value_of whole) (variables shape) → whole ≡ parts_of e.codes (padded list gates) refs → shape ≡ shape_of patterns bits gates columns → Satisfies (by_place values) (template kind patterns bits gates columns)
unfolding in_order
written_satisfies kind patterns columns bits gates e list refs values whole shape sv zeros ok form few two opens some is whole_is shape_is =
    subst (λ (vs : List Bool). Satisfies (by_place vs) (template kind patterns bits gates columns)) (sym (is ∙ ap₂ (λ (q : Parts) (z : Shape). map (value_of q) (variables z)) whole_is shape_is))
    (encoded_satisfies kind patterns columns bits gates e list refs sv zeros ok form few two opens some)
