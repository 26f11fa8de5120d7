-- Which columns serve which: a preorder, and how the tests tell it.
use Rattle.std.proofs.Common.{◌≡◌, ◌≢◌, ℕ, zero, suc, ◌+◌, ◌<◌, ◌≤◌, Bool, true, false, List, ◌⊎◌, length, refl, sym, ap, ◌∙◌, inl, inr, arith}
use Rattle.std.specs.Bool.{Decides}
use Rattle.std.proofs.lemmas.Bool.{both_ways, cases_lt, cases_eq}
use Rattle.std.proofs.lemmas.Bool.Decides.{Decides-below_and, Decides-or}
use Rattle.std.proofs.lemmas.List.{get_or_past}
use Rattle.cpog_defs.specs.declared.types.Bit3.{Bit3}
use Rattle.cpog_defs.specs.declared.types.Bit3.TheVariants.{Zero, One, Free}
use Rattle.cpog_defs.specs.Orders.{all_below}
use Rattle.cpog_defs.specs.Entries.{entry_at}
use Rattle.cpog_base.specs.Column.{opposite}
use Rattle.cpog_merge.specs.Classes.{ServesAs, IsServedBy}
use Rattle.cpog_merge.specs.Opens.{meets, serves_as, serves}

-- ---- the tests

same_met : (b a : Bit3) → Decides (meets false b a) (a ≢ Free → b ≡ a)
same_met b Free = (λ _. λ asked. absurd (asked refl), λ _. refl)
same_met One One = (λ _. λ _. refl, λ _. refl)
same_met Zero Zero = (λ _. λ _. refl, λ _. refl)
same_met One Zero = (λ t. absurd (both_ways _ refl t), λ h. let e : One ≡ Zero = h (λ f. cc) in cc)
same_met Zero One = (λ t. absurd (both_ways _ refl t), λ h. let e : Zero ≡ One = h (λ f. cc) in cc)
same_met Free One = (λ t. absurd (both_ways _ refl t), λ h. let e : Free ≡ One = h (λ f. cc) in cc)
same_met Free Zero = (λ t. absurd (both_ways _ refl t), λ h. let e : Free ≡ Zero = h (λ f. cc) in cc)

other_met : (b a : Bit3) → Decides (meets true b a) (a ≢ Free → b ≡ opposite a)
other_met b Free = (λ _. λ asked. absurd (asked refl), λ _. refl)
other_met Zero One = (λ _. λ _. refl, λ _. refl)
other_met One Zero = (λ _. λ _. refl, λ _. refl)
other_met One One = (λ t. absurd (both_ways _ refl t), λ h. let e : One ≡ Zero = h (λ f. cc) in cc)
other_met Zero Zero = (λ t. absurd (both_ways _ refl t), λ h. let e : Zero ≡ One = h (λ f. cc) in cc)
other_met Free One = (λ t. absurd (both_ways _ refl t), λ h. let e : Free ≡ Zero = h (λ f. cc) in cc)
other_met Free Zero = (λ t. absurd (both_ways _ refl t), λ h. let e : Free ≡ One = h (λ f. cc) in cc)

-- past its end a column asks for nothing
in_column : (a : List Bit3) (s : ℕ) → entry_at a s ≢ Free → s < length a
in_column a s asked = elim (cases_lt s (length a)) [ inl l ↦ l | inr m ↦ absurd (asked (get_or_past a s Free m)) ]

pub serves_decides : (negated : Bool) (b a : List Bit3) → Decides (serves_as negated b a) (ServesAs negated b a)
unfolding serves_as
serves_decides false b a =
    let d = Decides-below_and (λ s. meets false (entry_at b s) (entry_at a s)) (λ s. entry_at a s ≢ Free → entry_at b s ≡ entry_at a s)
    (all_below (λ s. meets false (entry_at b s) (entry_at a s))) (λ s. same_met (entry_at b s) (entry_at a s)) refl (λ _. refl) (length a) in
    (λ t s asked. d.0 t s (in_column a s asked) asked, λ h. d.1 (λ s _. h s))
serves_decides true b a =
    let d = Decides-below_and (λ s. meets true (entry_at b s) (entry_at a s)) (λ s. entry_at a s ≢ Free → entry_at b s ≡ opposite (entry_at a s))
    (all_below (λ s. meets true (entry_at b s) (entry_at a s))) (λ s. other_met (entry_at b s) (entry_at a s)) refl (λ _. refl) (length a) in
    (λ t s asked. d.0 t s (in_column a s asked) asked, λ h. d.1 (λ s _. h s))

pub served_decides : (b a : List Bit3) → Decides (serves b a) (IsServedBy a b)
served_decides b a = Decides-or (serves_as false b a) (serves_as true b a) (serves_decides false b a) (serves_decides true b a)

-- ---- serving is a preorder

pub serves_itself : (a : List Bit3) → IsServedBy a a
serves_itself a = inl (λ s _. refl)

twice : (x : Bit3) → opposite (opposite x) ≡ x
twice One = refl
twice Zero = refl
twice Free = refl

opposite_asked : (x : Bit3) → x ≢ Free → opposite x ≢ Free
opposite_asked One h e = cc
opposite_asked Zero h e = cc
opposite_asked Free h e = h refl

-- what serves what serves a column serves the column
pub served_through : (a b d : List Bit3) → IsServedBy a b → IsServedBy b d → IsServedBy a d
served_through a b d (inl h) (inl k) = inl (λ s asked. k s (λ f. asked (sym (h s asked) ∙ f)) ∙ h s asked)
served_through a b d (inl h) (inr k) = inr (λ s asked. k s (λ f. asked (sym (h s asked) ∙ f)) ∙ ap opposite (h s asked))
served_through a b d (inr h) (inl k) = inr (λ s asked. k s (λ f. opposite_asked _ asked (sym (h s asked) ∙ f)) ∙ h s asked)
served_through a b d (inr h) (inr k) = inl (λ s asked. k s (λ f. opposite_asked _ asked (sym (h s asked) ∙ f)) ∙ ap opposite (h s asked) ∙ twice _)

-- ---- how many entries ask for a bit

pub asks : Bit3 → ℕ
asks Free = 0
asks One = 1
asks Zero = 1

abbrev pub asked_below : List Bit3 → ℕ → ℕ
asked_below a zero = 0
asked_below a (suc n) = asked_below a n + asks (entry_at a n)

asks_one : (x : Bit3) → asks x ≤ 1
unfolding asks
asks_one One = omega arith
asks_one Zero = omega arith
asks_one Free = omega arith

asks_some : (x : Bit3) → x ≢ Free → asks x ≡ 1
unfolding asks
asks_some One h = refl
asks_some Zero h = refl
asks_some Free h = absurd (h refl)

asks_none : (x : Bit3) → asks x ≡ 0 → x ≡ Free
unfolding asks
asks_none Free h = refl
asks_none One h = absurd (omega arith)
asks_none Zero h = absurd (omega arith)

free_or : (x : Bit3) → (x ≡ Free) ⊎ (x ≢ Free)
free_or Free = inl refl
free_or One = inr (λ e. cc)
free_or Zero = inr (λ e. cc)

pub few_asked : (a : List Bit3) (n : ℕ) → asked_below a n ≤ n
few_asked a zero = omega arith
few_asked a (suc n) = omega (arith, few_asked a n, asks_one (entry_at a n))

abbrev AsksWhere : List Bit3 → List Bit3 → Type 0
AsksWhere b a = (s : ℕ) → entry_at a s ≢ Free → entry_at b s ≢ Free

served_asks : (a b : List Bit3) → IsServedBy a b → AsksWhere b a
served_asks a b (inl h) s asked f = asked (sym (h s asked) ∙ f)
served_asks a b (inr h) s asked f = opposite_asked _ asked (sym (h s asked) ∙ f)

asks_le : (x y : Bit3) → (x ≢ Free → y ≢ Free) → asks x ≤ asks y
unfolding asks
asks_le Free y h = omega arith
asks_le One y h = let k = asks_some y (h (λ e. cc)) in omega arith
asks_le Zero y h = let k = asks_some y (h (λ e. cc)) in omega arith

more_asked : (a b : List Bit3) (n : ℕ) → AsksWhere b a → asked_below a n ≤ asked_below b n
more_asked a b zero h = omega arith
more_asked a b (suc n) h = omega (arith, more_asked a b n h, asks_le (entry_at a n) (entry_at b n) (h n))

free_asks : asks Free ≡ 0
unfolding asks
free_asks = refl

-- where no more is asked, each entry of the one asks where the other's does
same_asked : (a b : List Bit3) (n : ℕ) → AsksWhere b a → asked_below b n ≤ asked_below a n → (s : ℕ) → s < n → entry_at b s ≢ Free → entry_at a s ≢ Free
same_asked a b zero h k s l asked = absurd (omega arith)
same_asked a b (suc n) h k s l asked =
    let more = more_asked a b n h in
    let here = asks_le (entry_at a n) (entry_at b n) (h n) in
    elim (cases_eq s n) [
      | inl same ↦ λ f.
          let none : asks (entry_at a n) ≡ 0 = ap asks (ap (entry_at a) (sym same) ∙ f) ∙ free_asks in
          let some : asks (entry_at b n) ≡ 1 = asks_some (entry_at b n) (λ g. asked (ap (entry_at b) same ∙ g)) in
          absurd (omega arith)
      | inr other ↦ same_asked a b n h (omega arith) s (omega arith) asked
    ]

-- a column is served by at least as large ones
pub larger_serves : (a b : List Bit3) (n : ℕ) → IsServedBy a b → asked_below a n ≤ asked_below b n
larger_serves a b n h = more_asked a b n (served_asks a b h)

-- and serves those that are no larger
pub serves_back_from : (a b : List Bit3) (n : ℕ) → length b ≤ n → IsServedBy a b → asked_below b n ≤ asked_below a n → IsServedBy b a
serves_back_from a b n l h k =
    let there : (s : ℕ) → entry_at b s ≢ Free → entry_at a s ≢ Free = λ s asked. same_asked a b n (served_asks a b h) k s (omega (arith, in_column b s asked)) asked in
    back h there
  where
    back : IsServedBy a b → ((s : ℕ) → entry_at b s ≢ Free → entry_at a s ≢ Free) → IsServedBy b a
    back (inl e) there = inl (λ s asked. sym (e s (there s asked)))
    back (inr e) there = inr (λ s asked. sym (twice (entry_at a s)) ∙ ap opposite (sym (e s (there s asked))))
