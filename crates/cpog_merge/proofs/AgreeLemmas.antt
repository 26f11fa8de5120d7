-- References of classes agree with the columns that belong to these.
use Rattle.std.proofs.Common.{◌≡◌, ◌≢◌, ◌<◌, ℕ, Bool, true, false, not, IsTrue, List, [], ◌∷◌, zero, suc, length, map, get_or, subst, refl, sym, ap, ◌∙◌, inl, inr, arith}
use Rattle.std.specs.List.{list_any, All}
use Rattle.std.proofs.lemmas.List.{get_or_past}
use Rattle.std.proofs.lemmas.Option.{slice_get-get_or}
use Rattle.std.proofs.lemmas.List.Elements.{All-get_or, All-contains}
use Rattle.std.proofs.lemmas.Bool.{both_ways, or_parts, cases_order, cases_lt}
use Rattle.cpog_defs.specs.declared.types.Bit3.{Bit3}
use Rattle.cpog_defs.specs.declared.types.Bit3.TheVariants.{Zero, One, Free}
use Rattle.cpog_defs.specs.declared.types.Ref.{Ref}
use Rattle.cpog_defs.specs.declared.types.Ref.TheVariants.{Const as FixedRef, Signal}
use Rattle.cpog_defs.specs.declared.types.Place.{Place}
use Rattle.cpog_defs.specs.Entries.{Agrees, entry_at}
use Rattle.cpog_defs.specs.Gates.{GateList, ref_value, signal_values, IsRefOver}
use Rattle.cpog_defs.specs.Graphs.{IsPlace}
use Rattle.cpog_defs.specs.Encodings.{Encoding, RefAgrees}
use Rattle.cpog_base.specs.Column.{is_one, is_zero, opposite, Serves, Opposes}
use Rattle.cpog_merge.specs.declared.class_list.Belongs.{Belongs}
use Rattle.cpog_merge.specs.declared.class_list.Belongs.TheVariants.{Const, Class}
use Rattle.cpog_merge.specs.Columns.{Columns, column_at, AgreesWith}
use Rattle.cpog_merge.specs.Classes.{ComesBefore, IsClass, Classes, ServesAs, IsServedBy, class_column, belongs_at, BelongsTo, AreClassesOf}
use Rattle.cpog_merge.specs.ByClass.{signed_ref, class_ref, ref_by, IsGraphByClass}
use Rattle.gate_core.specs.Serving.{ReferencesServe}
use Rattle.cpog_merge.proofs.ListLemmas.{same_ordered}
use Rattle.cpog_merge.proofs.OpenLemmas.{one_way}

-- ---- entries

-- the complement of a reference has the opposite value
complement : (values : List Bool) (ref : Ref) → ref_value values (signed_ref true ref) ≡ not (ref_value values ref)
complement values (FixedRef b) = refl
complement values (Signal n true) = twice (get_or values n false)
  where
    twice : (b : Bool) → b ≡ not (not b)
    twice true = refl
    twice false = refl
complement values (Signal n false) = refl

same_agrees : (b a : Bit3) (v : Bool) → (a ≢ Free → b ≡ a) → Agrees b v → Agrees a v
same_agrees b Free v h ok = tt
same_agrees b One v h ok = let e : b ≡ One = h (λ f. cc) in rw e at ok
same_agrees b Zero v h ok = let e : b ≡ Zero = h (λ f. cc) in rw e at ok

other_agrees : (b a : Bit3) (v : Bool) → (a ≢ Free → b ≡ opposite a) → Agrees b v → Agrees a (not v)
other_agrees b Free v h ok = tt
other_agrees b One v h ok = let e : b ≡ Zero = h (λ f. cc) in let k : v ≡ false = rw e at ok in rw k refl
other_agrees b Zero v h ok = let e : b ≡ One = h (λ f. cc) in let k : v ≡ true = rw e at ok in rw k refl

pub served_agree_lem : (gates : GateList) (codes : List ℕ) (b a : List Bit3) (negated : Bool) (ref : Ref) → ServesAs negated b a → RefAgrees gates codes b ref → RefAgrees gates codes a (signed_ref negated ref)
served_agree_lem gates codes b a false ref h ok s word at = same_agrees (entry_at b s) (entry_at a s) _ (h s) (ok s word at)
served_agree_lem gates codes b a true ref h ok s word at =
    rw (complement (signal_values gates word) ref) (other_agrees (entry_at b s) (entry_at a s) _ (h s) (ok s word at))

-- ---- constants

none_one : (column : List Bit3) (s : ℕ) → list_any is_one column ≡ false → is_one (entry_at column s) ≡ false
none_one [] s h = refl
none_one (x ∷ xs) zero h = (or_parts _ _ h).0
none_one (x ∷ xs) (suc s) h = none_one xs s (or_parts _ _ h).1

none_zero : (column : List Bit3) (s : ℕ) → list_any is_zero column ≡ false → is_zero (entry_at column s) ≡ false
none_zero [] s h = refl
none_zero (x ∷ xs) zero h = (or_parts _ _ h).0
none_zero (x ∷ xs) (suc s) h = none_zero xs s (or_parts _ _ h).1

no_one_agrees : (a : Bit3) → is_one a ≡ false → Agrees a false
no_one_agrees Free h = tt
no_one_agrees Zero h = refl
no_one_agrees One h = absurd (both_ways _ h refl)

no_zero_agrees : (a : Bit3) → is_zero a ≡ false → Agrees a true
no_zero_agrees Free h = tt
no_zero_agrees One h = refl
no_zero_agrees Zero h = absurd (both_ways _ h refl)

-- ---- graphs

-- on each code the reference of a class has the values that its column asks for
class_agrees : (gates : GateList) (codes : List ℕ) (list : Classes) (refs : List Ref) (c : ℕ) → ReferencesServe list.columns codes gates refs → c < length list.columns
    → RefAgrees gates codes (class_column list c) (class_ref refs c)
class_agrees gates codes list refs c serve l =
    serve.agrees c (class_column list c) (class_ref refs c) (slice_get-get_or list.columns c [] l) (slice_get-get_or refs c (FixedRef false) (omega (arith, l, serve.one_each)))

by_belonging : (gates : GateList) (codes : List ℕ) (list : Classes) (refs : List Ref) (column : List Bit3) (x : Belongs) → ReferencesServe list.columns codes gates refs → BelongsTo list column x → RefAgrees gates codes column (ref_by refs x)
by_belonging gates codes list refs column (Const false) ok h = λ s word at. no_one_agrees (entry_at column s) (none_one column s h)
by_belonging gates codes list refs column (Const true) ok h = λ s word at. no_zero_agrees (entry_at column s) (none_zero column s h.1)
by_belonging gates codes list refs column (Class c negated) ok h =
    served_agree_lem gates codes (class_column list c) column negated (class_ref refs c) h.2.serves (class_agrees gates codes list refs c ok h.2.in_range)

pub graph_by_class_lem : (e : Encoding) (t : Columns) (list : Classes) (refs : List Ref) → AreClassesOf t list → length e.codes ≡ t.scenarios → ReferencesServe list.columns e.codes e.gates refs → IsGraphByClass t.count list refs e.graph → AgreesWith e t
graph_by_class_lem e t list refs are size ok graph = record {
  one_code_each = size;
  agrees = λ p q. subst (λ r. RefAgrees e.gates e.codes (column_at t p) r) (sym (graph p q)) (by_belonging e.gates e.codes list refs (column_at t p) (belongs_at list p) ok (are.belongs p q));
}

-- ---- one sign

-- a column that asks for a 1 asks for it at some scenario
pub some_asked : (column : List Bit3) → IsTrue (list_any is_one column) → (s : ℕ) × (entry_at column s ≡ One)
some_asked [] h = absurd (both_ways _ refl h)
some_asked (One ∷ xs) h = (zero, refl)
some_asked (Zero ∷ xs) h = let r = some_asked xs h in (suc r.0, r.1)
some_asked (Free ∷ xs) h = let r = some_asked xs h in (suc r.0, r.1)

not_both : (b a : Bit3) → a ≡ One → (a ≢ Free → b ≡ a) → (a ≢ Free → b ≡ opposite a) → ⊥
not_both b a one same other =
    let asked : a ≢ Free = λ f. let e : One ≡ Free = sym one ∙ f in cc in
    let e : One ≡ Zero = sym (same asked ∙ one) ∙ other asked ∙ ap opposite one in
    cc

pub one_sign : (b a : List Bit3) → IsTrue (list_any is_one a) → Serves b a → Opposes b a → ⊥
one_sign b a some same other = let r = some_asked a some in not_both (entry_at b r.0) (entry_at a r.0) r.1 (same r.0) (other r.0)

same_sign : (x y : Bool) (b a : List Bit3) → IsTrue (list_any is_one a) → ServesAs x b a → ServesAs y b a → x ≡ y
same_sign true true b a some h k = refl
same_sign true false b a some h k = absurd (one_sign b a some k h)
same_sign false true b a some h k = absurd (one_sign b a some h k)
same_sign false false b a some h k = refl

pub is_served : (x : Bool) (b a : List Bit3) → ServesAs x b a → IsServedBy a b
is_served true b a h = inr h
is_served false b a h = inl h

pub belongs_to_one_lem : (list : Classes) (column : List Bit3) (x y : Belongs) → BelongsTo list column x → BelongsTo list column y → x ≡ y
belongs_to_one_lem list column (Const false) (Const false) h k = refl
belongs_to_one_lem list column (Const false) (Const true) h k = absurd (both_ways _ h k.0)
belongs_to_one_lem list column (Const false) (Class d y) h k = absurd (both_ways _ h k.0)
belongs_to_one_lem list column (Const true) (Const false) h k = absurd (both_ways _ k h.0)
belongs_to_one_lem list column (Const true) (Const true) h k = refl
belongs_to_one_lem list column (Const true) (Class d y) h k = absurd (both_ways _ h.1 k.1)
belongs_to_one_lem list column (Class c x) (Const false) h k = absurd (both_ways _ k h.0)
belongs_to_one_lem list column (Class c x) (Const true) h k = absurd (both_ways _ k.1 h.1)
belongs_to_one_lem list column (Class c x) (Class d y) h k = elim (cases_order c d) [
  | inl same ↦ rw (same, same_sign x y (class_column list d) column h.0 (subst (λ n. ServesAs x (class_column list n) column) same h.2.serves) k.2.serves) refl
  | inr other ↦ elim other [
    | inl less ↦ absurd (k.2.first c less (is_served x _ column h.2.serves))
    | inr more ↦ absurd (h.2.first d more (is_served y _ column k.2.serves))
  ]
]

-- ---- references over the same signals

signed_over : (signals : ℕ) (negated : Bool) (r : Ref) → IsRefOver signals r → IsRefOver signals (signed_ref negated r)
signed_over signals false r h = h
signed_over signals true (FixedRef b) h = tt
signed_over signals true (Signal n negated) h = h

class_over : (signals : ℕ) (refs : List Ref) (number : ℕ) → All (IsRefOver signals) refs → IsRefOver signals (class_ref refs number)
class_over signals refs number h = elim (cases_lt number (length refs)) [
  | inl l ↦ All-get_or (IsRefOver signals) refs number (FixedRef false) l h
  | inr m ↦ subst (IsRefOver signals) (sym (get_or_past refs number (FixedRef false) m)) tt
]

pub references_stay_lem : (signals : ℕ) (refs : List Ref) (x : Belongs) → All (IsRefOver signals) refs → IsRefOver signals (ref_by refs x)
references_stay_lem signals refs (Const b) h = tt
references_stay_lem signals refs (Class number negated) h = signed_over signals negated (class_ref refs number) (class_over signals refs number h)

-- ---- one list of classes

-- what belongs to a class of one list belongs to that of another with the same columns
moved : (a b : Classes) (column : List Bit3) (x : Belongs) → a.columns ≡ b.columns → BelongsTo a column x → BelongsTo b column x
moved a b column (Const false) e h = h
moved a b column (Const true) e h = h
moved a b column (Class c negated) e h = (
  h.0,
  h.1,
  record {
    in_range = omega (arith, ap length e, h.2.in_range);
    serves = subst (λ cs. ServesAs negated (get_or cs c []) column) e h.2.serves;
    first = λ k l served. h.2.first k l (subst (λ cs. IsServedBy column (get_or cs k [])) (sym e) served);
  },
)

pub classes_are_one_lem : (t : Columns) (a b : Classes) → AreClassesOf t a → AreClassesOf t b → (a.places ≡ b.places) × (a.columns ≡ b.columns) × ((p : Place) → IsPlace t.count p → belongs_at a p ≡ belongs_at b p)
classes_are_one_lem t a b x y =
    let places : a.places ≡ b.places = same_ordered ComesBefore one_way a.places b.places x.places.in_order y.places.in_order
    (λ p h. y.places.all p (All-contains (IsClass t) a.places p x.places.each h)) (λ p h. x.places.all p (All-contains (IsClass t) b.places p y.places.each h)) in
    let columns : a.columns ≡ b.columns = x.columns ∙ ap (map (column_at t)) places ∙ sym y.columns in
    (places, columns, λ p l. belongs_to_one_lem b (column_at t p) (belongs_at a p) (belongs_at b p) (moved a b (column_at t p) (belongs_at a p) columns (x.belongs p l)) (y.belongs p l))
