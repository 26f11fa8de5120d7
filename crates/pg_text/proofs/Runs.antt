-- A run of bytes that pass, and the rest.
use Rattle.std.specs.Prelude.{◌≡◌, ℕ, ◌+◌, Bool, true, false, cond, List, [], ◌∷◌, ◌++◌, take, drop, refl}
use Rattle.std.proofs.Common.{sym, ◌∙◌, ap₂, subst, arith, suc}
use Rattle.std.proofs.lemmas.Bool.{both_ways, and_parts, and_from}
use Rattle.std.specs.List.{list_all, prefix_len}
use Rattle.std.proofs.lemmas.List.{take-append-drop}
use Rattle.pg_text.specs.Tokens.{IsRun, NoneFirst}

module _ (p : ℕ → Bool) where
  each_of_run : (xs : List ℕ) → list_all p (take (prefix_len p xs) xs) ≡ true
  each_of_run [] = refl
  each_of_run (x ∷ xs) = elim (p x) as (λ b. p x ≡ b → list_all p (take (cond b (1 + prefix_len p xs) 0) (x ∷ xs)) ≡ true) [
    | true ↦ λ e. let one : 1 + prefix_len p xs ≡ suc (prefix_len p xs) = omega arith in rw one (and_from (p x) (list_all p (take (prefix_len p xs) xs)) e (each_of_run xs))
    | false ↦ λ e. refl
  ] refl

  after_run : (xs : List ℕ) → NoneFirst p (drop (prefix_len p xs) xs)
  after_run [] = tt
  after_run (x ∷ xs) = elim (p x) as (λ b. p x ≡ b → NoneFirst p (drop (cond b (1 + prefix_len p xs) 0) (x ∷ xs))) [
    | true ↦ λ e. let one : 1 + prefix_len p xs ≡ suc (prefix_len p xs) = omega arith in rw one (after_run xs)
    | false ↦ λ e. e
  ] refl

  pub longest_run : (xs : List ℕ) → IsRun p xs (take (prefix_len p xs) xs) (drop (prefix_len p xs) xs)
  longest_run xs = record { whole = sym (take-append-drop (prefix_len p xs) xs); each = each_of_run xs; stops = after_run xs }

  -- there is one run at the front
  same_parts : (a b x y : List ℕ) → a ++ x ≡ b ++ y → list_all p a ≡ true → list_all p b ≡ true → NoneFirst p x → NoneFirst p y → (a ≡ b) × (x ≡ y)
  same_parts [] [] x y e _ _ _ _ = (refl, e)
  same_parts [] (c ∷ b) x y e _ hb hx _ = absurd (let h : NoneFirst p ((c ∷ b) ++ y) = subst (NoneFirst p) e hx in both_ways (p c) h (and_parts _ _ hb).0)
  same_parts (c ∷ a) [] x y e ha _ _ hy = absurd (let h : NoneFirst p ((c ∷ a) ++ x) = subst (NoneFirst p) (sym e) hy in both_ways (p c) h (and_parts _ _ ha).0)
  same_parts (c ∷ a) (d ∷ b) x y e ha hb hx hy =
      let tails : a ++ x ≡ b ++ y = cc in
      let heads : c ≡ d = cc in
      let more = same_parts a b x y tails (and_parts _ _ ha).1 (and_parts _ _ hb).1 hx hy in
      (ap₂ (λ h t. h ∷ t) heads more.0, more.1)

  pub same_run : (xs a b x y : List ℕ) → IsRun p xs a x → IsRun p xs b y → (a ≡ b) × (x ≡ y)
  same_run xs a b x y h k = same_parts a b x y (sym h.whole ∙ k.whole) h.each k.each h.stops k.stops

  pub run_at : (xs : List ℕ) (n : ℕ) (run rest : List ℕ) → n ≡ prefix_len p xs → run ≡ take n xs → rest ≡ drop n xs → IsRun p xs run rest
  run_at xs n run rest count front back =
      subst (λ r. IsRun p xs r rest) (sym front ∙ refl) (subst (λ r. IsRun p xs (take n xs) r) (sym back) (subst (λ k. IsRun p xs (take k xs) (drop k xs)) (sym count) (longest_run xs)))
