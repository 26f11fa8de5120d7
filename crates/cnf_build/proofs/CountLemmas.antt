-- Steps of counts.
use Rattle.std.proofs.Common.{◌≡◌, ℕ, zero, suc, ◌+◌, ◌<◌, Bool, true, false, not, ◌||◌, if◌then◌else◌, List, [], ◌∷◌, length, take, get_or, slice_get, Some, refl, sym, ap, ap₂, ◌∙◌, arith, add-one, length-append}
use Rattle.std.specs.List.{sum_by}
use Rattle.std.proofs.lemmas.Bool.{both_ways}
use Rattle.std.proofs.lemmas.List.Sums.{sum_by-cons}
use Rattle.std.proofs.lemmas.Option.{none-some, same_Some}
use Rattle.cpog_defs.specs.declared.types.Bit3.{Bit3}
use Rattle.cpog_defs.specs.declared.types.Bit3.TheVariants.{Free}
use Rattle.cpog_defs.specs.Entries.{entry_at}
use Rattle.cpog_defs.specs.Orders.{each_below}
use Rattle.gate_template.specs.Families.{gives}
use Rattle.cpog_base.specs.Pattern.{is_given}
use Rattle.gate_template.specs.Counts.{defined, all_defined, open_bits}

sum_more : {A : Type 0} (f : A → ℕ) (xs : List A) (i : ℕ) (d : A) → i < length xs → sum_by f (take (suc i) xs) ≡ sum_by f (take i xs) + f (get_or xs i d)
sum_more f [] i d l = absurd (omega arith)
sum_more f (x ∷ xs) zero d l = sum_by-cons f x [] ∙ swap (f x) (sum_by f [])
  where
    swap : (a b : ℕ) → a + b ≡ b + a
    swap a b = omega arith
sum_more f (x ∷ xs) (suc i) d l = omega (arith, sum_by-cons f x (take (suc i) xs), sum_by-cons f x (take i xs), sum_more f xs i d (omega arith))

-- one more entry
pub defined_more : (xs : List Bit3) (i n r : ℕ) (x : Bit3) → n ≡ defined (take i xs) → slice_get xs i ≡ Some x → r ≡ (if is_given x then 1 else 0) → i < length xs → n + r ≡ defined (take (i + 1) xs)
defined_more xs i n r x h e k l =
    ap₂ (λ a b. a + b) h (k ∙ ap (λ y. if is_given y then 1 else 0) (sym (get_is xs i x e)))
    ∙ sym (sum_more (λ y. if is_given y then 1 else 0) xs i Free l) ∙ ap (λ m. defined (take m xs)) (sym (add-one i))
  where
    get_is : (xs : List Bit3) (i : ℕ) (x : Bit3) → slice_get xs i ≡ Some x → get_or xs i Free ≡ x
    get_is [] i x e = absurd (none-some x e)
    get_is (y ∷ xs) zero x e = same_Some y x e
    get_is (y ∷ xs) (suc i) x e = get_is xs i x e

pub all_defined_more : (xs : List (List Bit3)) (i n r : ℕ) (x : List Bit3) → n ≡ all_defined (take i xs) → get_or xs i [] ≡ x → r ≡ defined x → i < length xs → n + r ≡ all_defined (take (i + 1) xs)
all_defined_more xs i n r x h e k l =
    ap₂ (λ a b. a + b) h (k ∙ ap defined (sym e)) ∙ sym (sum_more defined xs i [] l) ∙ ap (λ m. all_defined (take m xs)) (sym (add-one i))

pub open_more : (patterns : List (List Bit3)) (i n r : ℕ) (b : Bool) → n ≡ open_bits patterns i → b ≡ gives patterns i → r ≡ (if not b then 1 else 0) → n + r ≡ open_bits patterns (i + 1)
open_more patterns i n r b h e k =
    ap₂ (λ x y. x + y) h (k ∙ ap (λ x. if not x then 1 else 0) e ∙ choice (gives patterns i))
    ∙ sym (length-append (each_below (λ i. if gives patterns i then [] else i ∷ []) i) (if gives patterns i then [] else i ∷ []))
    ∙ ap (open_bits patterns) (sym (add-one i))
  where
    choice : (b : Bool) → (if not b then 1 else 0) ≡ length (if b then [] else i ∷ [])
    choice true = refl
    choice false = refl

-- no pattern so far gives the bit
pub none_more : (patterns : List (List Bit3)) (k i : ℕ) (x : List Bit3) (e : Bit3) (b : Bool) → gives (take k patterns) i ≡ false → k < length patterns → get_or patterns k [] ≡ x → e ≡ entry_at x i → b ≡ is_given e → b ≡ false → gives (take (k + 1) patterns) i ≡ false
none_more patterns k i x e b h l at en g f = ap (λ m. gives (take m patterns) i) (add-one k) ∙ go patterns k h l (ap (λ p. is_given (entry_at p i)) at ∙ ap is_given (sym en) ∙ sym g ∙ f)
  where
    or_both : (a b : Bool) → a ≡ false → b ≡ false → (a || b) ≡ false
    or_both true b h k = h
    or_both false b h k = k

    parts : (a b : Bool) → (a || b) ≡ false → (a ≡ false) × (b ≡ false)
    parts true b h = absurd (both_ways _ h refl)
    parts false b h = (refl, h)

    go : (patterns : List (List Bit3)) (k : ℕ) → gives (take k patterns) i ≡ false → k < length patterns → is_given (entry_at (get_or patterns k []) i) ≡ false → gives (take (suc k) patterns) i ≡ false
    go [] k h l f = absurd (omega arith)
    go (p ∷ ps) zero h l f = or_both _ false f refl
    go (p ∷ ps) (suc k) h l f = let q = parts _ _ h in or_both _ _ q.0 (go ps k q.1 (omega arith) f)

pub some_gives : (patterns : List (List Bit3)) (k i : ℕ) (x : List Bit3) (e : Bit3) (b : Bool) → k < length patterns → get_or patterns k [] ≡ x → e ≡ entry_at x i → b ≡ is_given e → b ≡ true → true ≡ gives patterns i
some_gives patterns k i x e b l at en g t = sym (go patterns k l (ap (λ p. is_given (entry_at p i)) at ∙ ap is_given (sym en) ∙ sym g ∙ t))
  where
    left : (a b : Bool) → a ≡ true → (a || b) ≡ true
    left true b h = refl
    left false b h = absurd (both_ways _ refl h)

    right : (a b : Bool) → b ≡ true → (a || b) ≡ true
    right true b h = refl
    right false b h = h

    go : (patterns : List (List Bit3)) (k : ℕ) → k < length patterns → is_given (entry_at (get_or patterns k []) i) ≡ true → gives patterns i ≡ true
    go [] k l t = absurd (omega arith)
    go (p ∷ ps) zero l t = left _ _ t
    go (p ∷ ps) (suc k) l t = right _ _ (go ps k (omega arith) t)
