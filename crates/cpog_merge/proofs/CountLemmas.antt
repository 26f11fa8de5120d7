-- Places whose columns are pairwise incompatible need different signals.
use Rattle.std.proofs.Common.{◌≡◌, ◌≢◌, ℕ, ◌+◌, ◌-◌, ◌<◌, ◌≤◌, Bool, true, false, not, eqb, List, length, map, get_or, refl, sym, ap, ◌∙◌, subst, inl, inr, arith}
use Rattle.std.specs.List.{All, AllPairs}
use Rattle.std.proofs.lemmas.Bool.{eqb-true, cases_lt}
use Rattle.std.proofs.lemmas.Bool.Decides.{Decides-eqb}
use Rattle.std.proofs.lemmas.List.{length-map, get_or-map, get_or_past}
use Rattle.std.proofs.lemmas.List.Folds.{Any-from_list_any}
use Rattle.std.proofs.lemmas.Map.Made.{IsDistinct-from_AllPairs}
use Rattle.std.proofs.lemmas.Map.Steps.{length-le_from_distinct_below}
use Rattle.std.proofs.lemmas.Option.{slice_get-get_or}
use Rattle.cpog_base.specs.Column.{opposite}
use Rattle.cpog_defs.specs.declared.types.Bit3.{Bit3}
use Rattle.cpog_defs.specs.declared.types.Bit3.TheVariants.{Zero, One, Free}
use Rattle.cpog_defs.specs.declared.types.Ref.{Ref}
use Rattle.cpog_defs.specs.declared.types.Ref.TheVariants.{Const, Signal}
use Rattle.cpog_defs.specs.declared.types.Place.{Place}
use Rattle.cpog_defs.specs.declared.types.Place.TheVariants.{Op}
use Rattle.cpog_defs.specs.Entries.{Agrees, entry_at}
use Rattle.cpog_defs.specs.Orders.{Order, IsOrderOf}
use Rattle.cpog_defs.specs.Gates.{GateList, signal_count, ref_value, signal_values, IsRefOver}
use Rattle.cpog_defs.specs.Graphs.{ref_of}
use Rattle.cpog_defs.specs.Columns.{column, entry}
use Rattle.cpog_defs.specs.Encodings.{Encoding, RefAgrees, AgreesWithColumns, HasEncoding}
use Rattle.gate_core.specs.Bounds.{IsLowerBound}
use Rattle.gate_core.specs.Columns.{IsOpenColumn}
use Rattle.cpog_merge.specs.ByClass.{IsSignal}
use Rattle.cpog_merge.specs.Incompatible.{AreIncompatible, IsCountEvidence}
use Rattle.cpog_merge.proofs.ConverseLemmas.{no_constant}
use Rattle.cpog_merge.proofs.FitLemmas.{fits_is_agreeing_lem}

-- ---- one entry

same_values : (x : Bit3) (v w : Bool) → x ≢ Free → Agrees x v → Agrees x w → v ≡ w
same_values Zero v w asked a b = a ∙ sym b
same_values One v w asked a b = a ∙ sym b
same_values Free v w asked a b = absurd (asked refl)

other_values : (x : Bit3) (v w : Bool) → x ≢ Free → Agrees x v → Agrees (opposite x) w → v ≡ not w
other_values Zero v w asked a b = rw (a, b) refl
other_values One v w asked a b = rw (a, b) refl
other_values Free v w asked a b = absurd (asked refl)

not_itself : (b : Bool) → b ≡ not b → ⊥
not_itself true e = cc
not_itself false e = cc

within_column : (column : List Bit3) (s : ℕ) → entry_at column s ≢ Free → s < length column
within_column column s ne = elim (cases_lt s (length column)) [ inl l ↦ l | inr m ↦ absurd (ne (get_or_past column s Free m)) ]

-- ---- two columns

-- the signal that a reference speaks of
abbrev number_of : Ref → ℕ
number_of (Const b) = 0
number_of (Signal n negated) = n

module _ (gates : GateList) (codes : List ℕ) where
  abbrev value : Ref → ℕ → Bool
  value r s = ref_value (signal_values gates (get_or codes s 0)) r

  at : (column : List Bit3) (r : Ref) (s : ℕ) → s < length codes → RefAgrees gates codes column r → Agrees (entry_at column s) (value r s)
  at column r s l agrees = agrees s (get_or codes s 0) (slice_get-get_or codes s 0 l)

  -- two references to one signal can't agree with incompatible columns
  no_sharing : (n : ℕ) (a b : Bool) (x y : List Bit3) → length x ≡ length codes → RefAgrees gates codes x (Signal n a) → RefAgrees gates codes y (Signal n b) → AreIncompatible x y → ⊥
  no_sharing n a b x y size p q i = go a b (same a b p q) (other a b p q)
    where
      here : (s : ℕ) → entry_at x s ≢ Free → s < length codes
      here s asked = omega (arith, within_column x s asked, size)

      same : (a b : Bool) → RefAgrees gates codes x (Signal n a) → RefAgrees gates codes y (Signal n b) → value (Signal n a) i.agree.0 ≡ value (Signal n b) i.agree.0
      same a b p q =
          let s : ℕ = i.agree.0 in
          let asked = i.agree.1.asked in
          same_values (entry_at x s) (value (Signal n a) s) (value (Signal n b) s) asked (at x (Signal n a) s (here s asked) p)
          (subst (λ e. Agrees e (value (Signal n b) s)) i.agree.1.same (at y (Signal n b) s (here s asked) q))

      other : (a b : Bool) → RefAgrees gates codes x (Signal n a) → RefAgrees gates codes y (Signal n b) → value (Signal n a) i.differ.0 ≡ not (value (Signal n b) i.differ.0)
      other a b p q =
          let s : ℕ = i.differ.0 in
          let asked = i.differ.1.asked in
          other_values (entry_at x s) (value (Signal n a) s) (value (Signal n b) s) asked (at x (Signal n a) s (here s asked) p)
          (subst (λ e. Agrees e (value (Signal n b) s)) i.differ.1.other (at y (Signal n b) s (here s asked) q))

      go : (a b : Bool) → value (Signal n a) i.agree.0 ≡ value (Signal n b) i.agree.0 → value (Signal n a) i.differ.0 ≡ not (value (Signal n b) i.differ.0) → ⊥
      go false false e f = not_itself _ f
      go true true e f = not_itself _ f
      go false true e f = not_itself _ e
      go true false e f = not_itself _ (sym e)

  different : (x y : List Bit3) (p q : Ref) → length x ≡ length codes → IsSignal p → IsSignal q → RefAgrees gates codes x p → RefAgrees gates codes y q → AreIncompatible x y → number_of p ≢ number_of q
  different x y (Const b) q size sp sq ap aq i same = absurd sp
  different x y (Signal m a) (Const b) size sp sq ap aq i same = absurd sq
  different x y (Signal m a) (Signal n b) size sp sq ap aq i same =
      no_sharing n a b x y size (subst (λ k. RefAgrees gates codes x (Signal k a)) same ap) aq i

-- ---- all places

module _ (orders : List Order) (patterns : List (List Bit3)) (operations bits cost : ℕ) (places : List Place) (are : All (IsOrderOf operations) orders)
    (c : IsCountEvidence operations orders places) (has : HasEncoding operations orders patterns bits cost) where
  abbrev e : Encoding
  e = has.encoding

  agrees : AgreesWithColumns e operations orders
  agrees = (fits_is_agreeing_lem e operations orders are has.encodes.encoding).0 has.encodes.fits

  abbrev ref : Place → Ref
  ref p = ref_of e.graph p

  abbrev numbers : List ℕ
  numbers = map (λ p. number_of (ref p)) places

  first_place : Place
  first_place = Op (record { 0 = 0 })

  size : (p : Place) → length (column orders p) ≡ length e.codes
  size p = length-map orders (entry p) ∙ sym agrees.one_code_each

  signal_at : (i : ℕ) → i < length places → IsSignal (ref (get_or places i first_place))
  signal_at i l =
      let p = get_or places i first_place in
      let o : IsOpenColumn (length orders) (column orders p) = c.open_columns i first_place l in
      no_constant e.gates e.codes (column orders p) (ref p) (record { entries = refl; some_one = o.some_one; some_zero = o.some_zero }) (sym (size p)) (agrees.agrees p (c.places_are i first_place l))

  at_place : (i : ℕ) (d : ℕ) → i < length places → get_or numbers i d ≡ number_of (ref (get_or places i first_place))
  at_place i d l = get_or-map (λ p. number_of (ref p)) places i first_place d l

  same_length : length numbers ≡ length places
  same_length = length-map places (λ p. number_of (ref p))

  numbers_apart : AllPairs (λ m n. m ≢ n) numbers
  numbers_apart i j d lt lj =
      let l : j < length places = omega (arith, same_length) in
      let k : i < length places = omega arith in
      let p = get_or places i first_place in
      let q = get_or places j first_place in
      rw (at_place i d k, at_place j d l)
      (different e.gates e.codes (column orders p) (column orders q) (ref p) (ref q) (size p) (signal_at i k) (signal_at j l)
      (agrees.agrees p (c.places_are i first_place k)) (agrees.agrees q (c.places_are j first_place l)) (c.apart i j first_place lt l))

  signal_within : (signals : ℕ) (r : Ref) → IsSignal r → IsRefOver signals r → number_of r < signals
  signal_within signals (Const b) is over = absurd is
  signal_within signals (Signal n negated) is over = over

  numbers_within : (k d : ℕ) → k < length numbers → get_or numbers k d < bits + cost
  numbers_within k d lk =
      let l : k < length places = omega (arith, same_length) in
      let p = get_or places k first_place in
      let n : number_of (ref p) < signal_count e.gates = signal_within (signal_count e.gates) (ref p) (signal_at k l) (has.encodes.encoding.graph.over p (c.places_are k first_place l)) in
      rw (at_place k d l) (omega (arith, n, has.encodes.bits_are, has.cost_is))

  places_few : length places ≤ bits + cost
  places_few =
      rw (← same_length)
      (length-le_from_distinct_below numbers (bits + cost) (IsDistinct-from_AllPairs Decides-eqb numbers numbers_apart)
      (λ q h. let x = Any-from_list_any (eqb q) numbers h in
      let is : q ≡ x.1 = eqb-true q x.1 x.4 in
      rw (is, ← x.3) (numbers_within x.0 x.1 x.2)))

pub count_bounds_lem : (orders : List Order) (patterns : List (List Bit3)) (operations bits : ℕ) (places : List Place) → All (IsOrderOf operations) orders →
    IsCountEvidence operations orders places → IsLowerBound operations orders patterns bits (length places - bits)
count_bounds_lem orders patterns operations bits places are c cost low has = absurd (omega (arith, low, places_few orders patterns operations bits cost places are c has))
