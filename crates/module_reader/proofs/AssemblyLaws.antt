-- A list is put in place of another, element by element.
use Rattle.std.proofs.Common.{◌≡◌, ℕ, zero, suc, ◌<◌, ◌≤◌, ◌+◌, ◌⊎◌, inl, inr, Bool, true, false, cond, ◌&&◌, ltb, List, [], ◌∷◌, length, get_or, slice_set, is_some, replicate, Option, None, refl, sym, ap, subst, ◌∙◌, arith}
use Rattle.std.specs.FinSet as set
use Rattle.std.specs.FinSet.{nat_cmp-IsAntisymmetric}
use Rattle.std.specs.Cmp.{nat_cmp_total}
use Rattle.std.proofs.lemmas.Bool.{cases_lt, cases_Bool, both_ways}
use Rattle.std.proofs.lemmas.List.{set-set, set-get_or, get_or-set_same, get_or_past}
use Rattle.cpog_defs.specs.declared.types.Ref.{Ref}
use Rattle.cpog_defs.specs.Orders.{Set}
use Rattle.handshake_eqs.specs.Netlists.{Netlist, wire_of, waits_of}
use Rattle.handshake_eqs.specs.Netlists.{IsNetlist}
use Rattle.handshake_eqs.proofs.PartLemmas.{zero_netlist, netlist-zero}
use Rattle.gate_core.proofs.GraphLemmas.{replicate_at, replicate_row_at}
use Rattle.cpog_defs.specs.Gates.{GateList, IsRefOver, signal_count}
use Rattle.handshake_eqs.proofs.EncodedLemmas.{insert_next, leave_next, none_below_zero, all_of_below}

-- the first v of these, and then those
abbrev pub mixed : {A : Type 0} → ℕ → List A → List A → List A
mixed zero xs ys = ys
mixed (suc v) [] ys = ys
mixed (suc v) (x ∷ xs) [] = []
mixed (suc v) (x ∷ xs) (y ∷ ys) = x ∷ mixed v xs ys

pub mixed_length : {A : Type 0} (v : ℕ) (xs ys : List A) → length (mixed v xs ys) ≡ length ys
mixed_length zero xs ys = refl
mixed_length (suc v) [] ys = refl
mixed_length (suc v) (x ∷ xs) [] = refl
mixed_length (suc v) (x ∷ xs) (y ∷ ys) = ap suc (mixed_length v xs ys)

mixed_suc : {A : Type 0} (v : ℕ) (xs ys : List A) (d : A) → v < length xs → length xs ≡ length ys → slice_set (mixed v xs ys) v (get_or xs v d) ≡ mixed (suc v) xs ys
mixed_suc v [] ys d lt e = absurd (omega (arith, lt))
mixed_suc v (x ∷ xs) [] d lt e = absurd (omega (arith, e))
mixed_suc zero (x ∷ xs) (y ∷ ys) d lt e = refl
mixed_suc {A = A} (suc v) (x ∷ xs) (y ∷ ys) d lt e = ap (λ (zs : List A). x ∷ zs) (mixed_suc v xs ys d (omega (arith, lt)) (omega (arith, e)))

pub mixed_step : {A : Type 0} (v : ℕ) (xs ys : List A) (d : A) → v < length xs → length xs ≡ length ys → slice_set (mixed v xs ys) v (get_or xs v d) ≡ mixed (v + 1) xs ys
mixed_step v xs ys d lt e = let next : suc v ≡ v + 1 = omega arith in mixed_suc v xs ys d lt e ∙ ap (λ (n : ℕ). mixed n xs ys) next

pub mixed_all : {A : Type 0} (v : ℕ) (xs ys : List A) → v ≡ length xs → length xs ≡ length ys → mixed v xs ys ≡ xs
mixed_all v xs ys is e = ap (λ (n : ℕ). mixed n xs ys) is ∙ whole xs ys e
  where
    whole : {A : Type 0} (xs ys : List A) → length xs ≡ length ys → mixed (length xs) xs ys ≡ xs
    whole [] [] e = refl
    whole [] (y ∷ ys) e = absurd (omega (arith, e))
    whole (x ∷ xs) [] e = absurd (omega (arith, e))
    whole {A = A} (x ∷ xs) (y ∷ ys) e = ap (λ (zs : List A). x ∷ zs) (whole xs ys (omega (arith, e)))

-- those from v on stand as before
pub mixed_later : {A : Type 0} (v k : ℕ) (xs ys : List A) (d : A) → v ≤ k → length xs ≡ length ys → get_or (mixed v xs ys) k d ≡ get_or ys k d
mixed_later zero k xs ys d le e = refl
mixed_later (suc v) k [] ys d le e = refl
mixed_later (suc v) k (x ∷ xs) [] d le e = absurd (omega (arith, e))
mixed_later (suc v) zero (x ∷ xs) (y ∷ ys) d le e = absurd (omega (arith, le))
mixed_later (suc v) (suc k) (x ∷ xs) (y ∷ ys) d le e = mixed_later v k xs ys d (omega (arith, le)) (omega (arith, e))

-- ---- netlists that differ in one part

pub with_conditions : (n m : Netlist) (v : ℕ) (x : Ref) (cs : List Ref) → m ≡ record n { conditions = cs } → record m { conditions = slice_set m.conditions v x } ≡ record n { conditions = slice_set cs v x }
with_conditions n m v x cs e = ap (λ (k : Netlist). record k { conditions = slice_set k.conditions v x }) e

-- nothing changes where there was nothing
pub none_put : (n : Netlist) (u v : ℕ) → wire_of n u v ≡ None → n ≡ record n { wires = slice_set n.wires u (slice_set (get_or n.wires u []) v None) }
none_put n u v e =
    let row = get_or n.wires u [] in
    let one : slice_set row v None ≡ row = ap (slice_set row v) (sym e) ∙ set-get_or row v None in
    let all : slice_set n.wires u (slice_set row v None) ≡ n.wires = ap (slice_set n.wires u) one ∙ set-get_or n.wires u [] in
    λ i. record n { wires = sym all i }

-- one more of a row
pub wire_step : (n m : Netlist) (u v : ℕ) (row : List (Option Ref)) → m ≡ record n { wires = slice_set n.wires u (mixed v row (get_or n.wires u [])) } → u < length n.wires → v < length row → length row ≡ length (get_or n.wires u [])
    → record m { wires = slice_set m.wires u (slice_set (get_or m.wires u []) v (get_or row v None)) } ≡ record n { wires = slice_set n.wires u (mixed (v + 1) row (get_or n.wires u [])) }
wire_step n m u v row e lu lv long =
    let old = get_or n.wires u [] in
    let now = slice_set n.wires u (mixed v row old) in
    let at : get_or now u [] ≡ mixed v row old = get_or-set_same n.wires u (mixed v row old) [] lu in
    let made : slice_set now u (slice_set (get_or now u []) v (get_or row v None)) ≡ slice_set n.wires u (mixed (v + 1) row old) =
    set-set n.wires u (mixed v row old) (slice_set (get_or now u []) v (get_or row v None)) ∙ ap (slice_set n.wires u) (ap (λ r. slice_set r v (get_or row v None)) at ∙ mixed_step v row old None lv long) in
    ap (λ (k : Netlist). record k { wires = slice_set k.wires u (slice_set (get_or k.wires u []) v (get_or row v None)) }) e ∙ (λ i. record n { wires = made i })

pub rows_step : (n m : Netlist) (u : ℕ) (rows : List (List (Option Ref))) → m ≡ record n { wires = mixed u rows n.wires } → u < length rows → length rows ≡ length n.wires
    → record m { wires = slice_set m.wires u (get_or rows u []) } ≡ record n { wires = mixed (u + 1) rows n.wires }
rows_step n m u rows e lt long =
    ap (λ (k : Netlist). record k { wires = slice_set k.wires u (get_or rows u []) }) e ∙ (λ i. record n { wires = mixed_step u rows n.wires [] lt long i })

abbrev pub no_waits : Set
no_waits = set.empty

pub waits_step : (n m : Netlist) (v : ℕ) (sets : List Set) → m ≡ record n { waits = mixed v sets n.waits } → v < length sets → length sets ≡ length n.waits
    → record m { waits = slice_set m.waits v (get_or sets v no_waits) } ≡ record n { waits = mixed (v + 1) sets n.waits }
waits_step n m v sets e lt long =
    ap (λ (k : Netlist). record k { waits = slice_set k.waits v (get_or sets v no_waits) }) e ∙ (λ i. record n { waits = mixed_step v sets n.waits no_waits lt long i })

-- ---- a set, number by number

abbrev pub up_to : Set → ℕ → Set
up_to waits zero = no_waits
up_to waits (suc u) = cond (set.contains waits u) (set.insert (up_to waits u) u) (up_to waits u)

up_to_has : (waits : Set) (n a : ℕ) → set.contains (up_to waits n) a ≡ (ltb a n && set.contains waits a)
up_to_has waits zero a = none_below_zero (set.contains waits) a
up_to_has waits (suc n) a = elim (cases_Bool (set.contains waits n)) [
  | inl there ↦ ap (λ (b : Bool). set.contains (cond b (set.insert (up_to waits n) n) (up_to waits n)) a) there ∙ insert_next (up_to waits n) (set.contains waits) n (up_to_has waits n) there a ∙ ap (λ (k : ℕ). ltb a k && set.contains waits a) (omega arith)
  | inr none ↦ ap (λ (b : Bool). set.contains (cond b (set.insert (up_to waits n) n) (up_to waits n)) a) none ∙ leave_next (up_to waits n) (set.contains waits) n (up_to_has waits n) none a ∙ ap (λ (k : ℕ). ltb a k && set.contains waits a) (omega arith)
]

pub up_to_all : (waits : Set) (n : ℕ) → ((u : ℕ) → set.contains waits u ≡ true → u < n) → up_to waits n ≡ waits
up_to_all waits n below = set.same_set nat_cmp_total nat_cmp-IsAntisymmetric _ _ (all_of_below (up_to waits n) (set.contains waits) n (up_to_has waits n) (λ a past. none a past (cases_Bool (set.contains waits a))))
  where
    none : (a : ℕ) → n ≤ a → (set.contains waits a ≡ true) ⊎ (set.contains waits a ≡ false) → set.contains waits a ≡ false
    none a past (inl there) = absurd (omega (arith, below a there, past))
    none a past (inr no') = no'

pub wait_start : (n : Netlist) (v : ℕ) → waits_of n v ≡ no_waits → n ≡ record n { waits = slice_set n.waits v no_waits }
wait_start n v none =
    let same : slice_set n.waits v no_waits ≡ n.waits = ap (slice_set n.waits v) (sym none) ∙ set-get_or n.waits v no_waits in
    λ i. record n { waits = sym same i }

pub wait_step : (n m : Netlist) (u v : ℕ) (waits : Set) → m ≡ record n { waits = slice_set n.waits v (up_to waits u) } → v < length n.waits
    → record m { waits = slice_set m.waits v (cond (set.contains waits u) (set.insert (waits_of m v) u) (waits_of m v)) } ≡ record n { waits = slice_set n.waits v (up_to waits (u + 1)) }
wait_step n m u v waits e lv =
    let here : ℕ → Set → Set = λ k s. cond (set.contains waits k) (set.insert s k) s in
    let now = slice_set n.waits v (up_to waits u) in
    let at : get_or now v no_waits ≡ up_to waits u = get_or-set_same n.waits v (up_to waits u) no_waits lv in
    let next : suc u ≡ u + 1 = omega arith in
    let more : up_to waits (suc u) ≡ up_to waits (u + 1) = ap (up_to waits) next in
    let made : slice_set now v (here u (get_or now v no_waits)) ≡ slice_set n.waits v (up_to waits (u + 1)) =
    set-set n.waits v (up_to waits u) (here u (get_or now v no_waits)) ∙ ap (slice_set n.waits v) (ap (here u) at ∙ more) in
    ap (λ (k : Netlist). record k { waits = slice_set k.waits v (here u (waits_of k v)) }) e ∙ (λ i. record n { waits = made i })

pub condition_step : (n m : Netlist) (v : ℕ) (cs : List Ref) (d : Ref) → m ≡ record n { conditions = mixed v cs n.conditions } → v < length cs → length cs ≡ length n.conditions
    → record m { conditions = slice_set m.conditions v (get_or cs v d) } ≡ record n { conditions = mixed (v + 1) cs n.conditions }
condition_step n m v cs d e lt long =
    ap (λ (k : Netlist). record k { conditions = slice_set k.conditions v (get_or cs v d) }) e ∙ (λ i. record n { conditions = mixed_step v cs n.conditions d lt long i })

pub conditions_done : (n m : Netlist) (v : ℕ) (cs : List Ref) → m ≡ record n { conditions = mixed v cs n.conditions } → v ≡ length cs → length cs ≡ length n.conditions → m ≡ record n { conditions = cs }
conditions_done n m v cs e is long = e ∙ (λ i. record n { conditions = mixed_all v cs n.conditions is long i })

pub row_done : (n m : Netlist) (u v : ℕ) (row : List (Option Ref)) → m ≡ record n { wires = slice_set n.wires u (mixed v row (get_or n.wires u [])) } → v ≡ length row → length row ≡ length (get_or n.wires u []) → m ≡ record n { wires = slice_set n.wires u row }
row_done n m u v row e is long = e ∙ (λ i. record n { wires = slice_set n.wires u (mixed_all v row (get_or n.wires u []) is long i) })

pub row_start : (n : Netlist) (u : ℕ) → n ≡ record n { wires = slice_set n.wires u (get_or n.wires u []) }
row_start n u = λ i. record n { wires = sym (set-get_or n.wires u []) i }

pub rows_done : (n m : Netlist) (u : ℕ) (rows : List (List (Option Ref))) → m ≡ record n { wires = mixed u rows n.wires } → u ≡ length rows → length rows ≡ length n.wires → m ≡ record n { wires = rows }
rows_done n m u rows e is long = e ∙ (λ i. record n { wires = mixed_all u rows n.wires is long i })

pub waits_done : (n m : Netlist) (v : ℕ) (sets : List Set) → m ≡ record n { waits = mixed v sets n.waits } → v ≡ length sets → length sets ≡ length n.waits → m ≡ record n { waits = sets }
waits_done n m v sets e is long = e ∙ (λ i. record n { waits = mixed_all v sets n.waits is long i })

pub set_done : (n m : Netlist) (u v : ℕ) (waits : Set) → m ≡ record n { waits = slice_set n.waits v (up_to waits u) } → ((a : ℕ) → set.contains waits a ≡ true → a < u) → m ≡ record n { waits = slice_set n.waits v waits }
set_done n m u v waits e below = e ∙ (λ i. record n { waits = slice_set n.waits v (up_to_all waits u below i) })

pub wait_none_put : (n : Netlist) (v : ℕ) → n ≡ record n { waits = slice_set n.waits v (waits_of n v) }
wait_none_put n v = λ i. record n { waits = sym (set-get_or n.waits v no_waits) i }

-- what isn't put yet is still missing
pub wire_later : (n m : Netlist) (u v : ℕ) (row : List (Option Ref)) → m ≡ record n { wires = slice_set n.wires u (mixed v row (get_or n.wires u [])) } → u < length n.wires → length row ≡ length (get_or n.wires u []) → wire_of n u v ≡ None → wire_of m u v ≡ None
wire_later n m u v row e lu long none =
    ap (λ (k : Netlist). wire_of k u v) e ∙ ap (λ (r : List (Option Ref)). get_or r v None) (get_or-set_same n.wires u (mixed v row (get_or n.wires u [])) [] lu) ∙ mixed_later v v row (get_or n.wires u []) None (omega arith) long ∙ none

pub own_wire : (u v : ℕ) (row : List (Option Ref)) → get_or row u None ≡ None → is_some (get_or row v None) ≡ true → u ≡ v → ⊥
own_wire u v row none there e = both_ways (is_some (get_or row v None)) (ap (λ (k : ℕ). is_some (get_or row k None)) (sym e) ∙ ap is_some none) there

-- the same, of all rows
pub row_later : (n m : Netlist) (u v : ℕ) (rows : List (List (Option Ref))) → m ≡ record n { wires = mixed u rows n.wires } → length rows ≡ length n.wires → wire_of n u v ≡ None → wire_of m u v ≡ None
row_later n m u v rows e long none =
    ap (λ (k : Netlist). wire_of k u v) e ∙ ap (λ (r : List (Option Ref)). get_or r v None) (mixed_later u u rows n.wires [] (omega arith) long) ∙ none

pub columns_later : (n m : Netlist) (u : ℕ) (rows : List (List (Option Ref))) → m ≡ record n { wires = mixed u rows n.wires } → length rows ≡ length n.wires → length (get_or m.wires u []) ≡ length (get_or n.wires u [])
columns_later n m u rows e long = ap (λ (k : Netlist). length (get_or k.wires u [])) e ∙ ap length (mixed_later u u rows n.wires [] (omega arith) long)

pub rows_later : (n m : Netlist) (u : ℕ) (rows : List (List (Option Ref))) → m ≡ record n { wires = mixed u rows n.wires } → length m.wires ≡ length n.wires
rows_later n m u rows e = ap (λ (k : Netlist). length k.wires) e ∙ mixed_length u rows n.wires

pub sets_later : (n m : Netlist) (v : ℕ) (sets : List Set) → m ≡ record n { waits = mixed v sets n.waits } → length sets ≡ length n.waits → waits_of n v ≡ no_waits → waits_of m v ≡ no_waits
sets_later n m v sets e long none = ap (λ (k : Netlist). waits_of k v) e ∙ mixed_later v v sets n.waits no_waits (omega arith) long ∙ none

pub places_later : (n m : Netlist) (v : ℕ) (sets : List Set) → m ≡ record n { waits = mixed v sets n.waits } → length m.waits ≡ length n.waits
places_later n m v sets e = ap (λ (k : Netlist). length k.waits) e ∙ mixed_length v sets n.waits

-- ---- a netlist to begin with

pub start_netlist : (gates : GateList) (count : ℕ) → count ≤ 128 → IsNetlist (zero_netlist gates count)
start_netlist gates count few = netlist-zero gates count few

abbrev pub none_wire : Option Ref
none_wire = None

pub start_wire : (count u v : ℕ) → get_or (get_or (replicate count (replicate count none_wire)) u []) v None ≡ None
start_wire count u v = replicate_row_at (replicate count None) count u v None (replicate_at count v None)

pub start_waits : (count v : ℕ) → get_or (replicate count no_waits) v no_waits ≡ no_waits
start_waits count v = replicate_at count v no_waits

same_default : (cs : List Ref) (v : ℕ) (d e : Ref) → v < length cs → get_or cs v d ≡ get_or cs v e
same_default [] v d e lt = absurd (omega (arith, lt))
same_default (c ∷ cs) zero d e lt = refl
same_default (c ∷ cs) (suc v) d e lt = same_default cs v d e (omega (arith, lt))

pub over_kept : (n m : Netlist) (v : ℕ) (cs : List Ref) (d e : Ref) → m ≡ record n { conditions = mixed v cs n.conditions } → v < length cs → IsRefOver (signal_count n.gates) (get_or cs v e) → IsRefOver (signal_count m.gates) (get_or cs v d)
over_kept n m v cs d e is lt h = subst (λ (k : Netlist). IsRefOver (signal_count k.gates) (get_or cs v d)) (sym is) (subst (IsRefOver (signal_count n.gates)) (same_default cs v e d lt) h)

-- an arc wire leads from an operation
pub wired_below : (n : Netlist) → IsNetlist n → (u v : ℕ) → is_some (wire_of n u v) ≡ true → u < length n.conditions
wired_below n is u v there = elim (cases_lt u (length n.conditions)) [
  | inl l ↦ l
  | inr g ↦ absurd (both_ways (is_some (wire_of n u v)) (ap (λ (row : List (Option Ref)). is_some (get_or row v None)) (get_or_past n.wires u [] (omega (arith, is.wires, g)))) there)
]
