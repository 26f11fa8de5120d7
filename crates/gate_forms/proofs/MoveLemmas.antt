-- The steps of loops over gates.
use Rattle.std.proofs.Common.{◌≡◌, ℕ, zero, suc, ◌+◌, ◌<◌, ◌≤◌, Bool, List, [], ◌∷◌, ◌++◌, length, take, replicate, get_or, refl, sym, ap, ap₂, ◌∙◌, arith, add-one, append_assoc}
use Rattle.cpog_defs.specs.declared.types.Gate.{Gate}
use Rattle.gate_forms.specs.declared.signs.Form.{Form}
use Rattle.gate_forms.specs.Forms.{new_flag, new_gate, new_gates, new_flags, idle_gate}
use Rattle.gate_forms.proofs.FormLemmas.{length-new_flags, length-new_gates}

one_more_gate : (form : Form) (flags : List Bool) (gates : List Gate) (g : Gate) → new_gates form flags (gates ++ g ∷ []) ≡ new_gates form flags gates ++ new_gate form (new_flags form flags gates) g ∷ []
one_more_gate form flags [] g = refl
one_more_gate form flags (x ∷ gates) g = ap (λ l. new_gate form flags x ∷ l) (one_more_gate form (flags ++ new_flag form flags x ∷ []) gates g)

one_more_flag : (form : Form) (flags : List Bool) (gates : List Gate) (g : Gate) → new_flags form flags (gates ++ g ∷ []) ≡ new_flags form flags gates ++ new_flag form (new_flags form flags gates) g ∷ []
one_more_flag form flags [] g = refl
one_more_flag form flags (x ∷ gates) g = one_more_flag form (flags ++ new_flag form flags x ∷ []) gates g

take_next : {A : Type 0} (xs : List A) (i : ℕ) (d : A) → i < length xs → take (suc i) xs ≡ take i xs ++ get_or xs i d ∷ []
take_next [] i d l = absurd (omega arith)
take_next (x ∷ xs) zero d l = refl
take_next (x ∷ xs) (suc i) d l = ap (λ l. x ∷ l) (take_next xs i d (omega arith))

module _ (form : Form) (flags0 : List Bool) (all : List Gate) (i : ℕ) (d gate : Gate) (lt : i < length all) (is : gate ≡ get_or all i d) where
  here : take (i + 1) all ≡ take i all ++ gate ∷ []
  here = ap (λ n. take n all) (add-one i) ∙ take_next all i d lt ∙ ap (λ g. take i all ++ g ∷ []) (sym is)

  pub next_gates : (flags : List Bool) → flags ≡ new_flags form flags0 (take i all) → (made : Gate) → made ≡ new_gate form flags gate → (xs : List Gate) → xs ≡ new_gates form flags0 (take i all) → xs ++ made ∷ [] ≡ new_gates form flags0 (take (i + 1) all)
  next_gates flags f made m xs h =
      ap₂ (λ a b. a ++ b ∷ []) h (m ∙ ap (λ k. new_gate form k gate) f) ∙ sym (one_more_gate form flags0 (take i all) gate) ∙ ap (new_gates form flags0) (sym here)

  pub next_flags : (flags : List Bool) → flags ≡ new_flags form flags0 (take i all) → (flag : Bool) → flag ≡ new_flag form flags gate → flags ++ flag ∷ [] ≡ new_flags form flags0 (take (i + 1) all)
  next_flags flags f flag m =
      ap₂ (λ a b. a ++ b ∷ []) f (m ∙ ap (λ k. new_flag form k gate) f) ∙ sym (one_more_flag form flags0 (take i all) gate) ∙ ap (new_flags form flags0) (sym here)

length-take : {A : Type 0} (xs : List A) (i : ℕ) → i ≤ length xs → length (take i xs) ≡ i
length-take [] zero l = refl
length-take [] (suc i) l = absurd (omega arith)
length-take (x ∷ xs) zero l = refl
length-take (x ∷ xs) (suc i) l = ap suc (length-take xs i (omega arith))

-- as many flags as signals so far, and as many gates as are taken
pub flags_so_far : (form : Form) (flags0 flags : List Bool) (all : List Gate) (inputs i : ℕ) → length flags0 ≡ inputs → i ≤ length all → flags ≡ new_flags form flags0 (take i all) → length flags ≡ inputs + i
flags_so_far form flags0 flags all inputs i e l h = omega (arith, ap length h, length-new_flags form flags0 (take i all), length-take all i l)

pub gates_so_far : (form : Form) (flags0 : List Bool) (all : List Gate) (i : ℕ) → i ≤ length all → length (new_gates form flags0 (take i all)) ≡ i
gates_so_far form flags0 all i l = omega (arith, length-new_gates form flags0 (take i all), length-take all i l)

-- one more idle gate
replicate_next : {A : Type 0} (n : ℕ) (x : A) → replicate n x ++ x ∷ [] ≡ replicate (suc n) x
replicate_next zero x = refl
replicate_next (suc n) x = ap (λ l. x ∷ l) (replicate_next n x)

pub idle_more : (gates : List Gate) (n : ℕ) → (gates ++ replicate n idle_gate) ++ idle_gate ∷ [] ≡ gates ++ replicate (suc n) idle_gate
idle_more gates n = append_assoc gates (replicate n idle_gate) (idle_gate ∷ []) ∙ ap (λ l. gates ++ l) (replicate_next n idle_gate)
