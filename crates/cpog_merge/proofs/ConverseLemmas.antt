-- A graph that agrees with every column serves the classes at their places.
use Rattle.std.proofs.Common.{◌≡◌, ℕ, suc, ◌<◌, Bool, true, false, IsTrue, List, [], ◌∷◌, length, map, get_or, slice_get, Some, refl, sym, ap, ◌∙◌, subst, inl, inr, arith}
use Rattle.std.specs.List.{list_any, All}
use Rattle.std.proofs.lemmas.Bool.{both_ways, or_cases}
use Rattle.std.proofs.lemmas.List.{length-map, get_or-map}
use Rattle.std.proofs.lemmas.List.Elements.{All-get_or, All-map}
use Rattle.std.proofs.lemmas.Option.{slice_get-get_or, slice_get_within, get_or_from_slice_get}
use Rattle.cpog_base.specs.Column.{is_one, is_zero}
use Rattle.cpog_defs.specs.declared.types.Bit3.{Bit3}
use Rattle.cpog_defs.specs.declared.types.Bit3.TheVariants.{Zero, One, Free}
use Rattle.cpog_defs.specs.declared.types.Ref.{Ref}
use Rattle.cpog_defs.specs.declared.types.Ref.TheVariants.{Const, Signal}
use Rattle.cpog_defs.specs.declared.types.Place.{Place}
use Rattle.cpog_defs.specs.declared.types.Place.TheVariants.{Op}
use Rattle.cpog_defs.specs.Entries.{Agrees, entry_at}
use Rattle.cpog_defs.specs.Gates.{GateList, IsRefOver, signal_count}
use Rattle.cpog_defs.specs.Graphs.{IsGraph, IsPlace, ref_of}
use Rattle.cpog_defs.specs.Encodings.{Encoding, RefAgrees}
use Rattle.gate_core.specs.Columns.{IsOpenColumn}
use Rattle.cpog_merge.specs.Columns.{Columns, AreColumns, column_at, AgreesWith}
use Rattle.cpog_merge.specs.Classes.{IsClass, Classes, AreClassesOf}
use Rattle.cpog_merge.specs.ByClass.{IsSignal}
use Rattle.cpog_merge.specs.Laws.{GraphServesClasses}
use Rattle.cpog_merge.proofs.ClassLemmas.{column_size}
use Rattle.cpog_merge.proofs.ListedLemmas.{all_places}

-- ---- an open column takes no constant

-- some scenario's entry passes a test that the column passes
some_where : (p : Bit3 → Bool) (column : List Bit3) → IsTrue (list_any p column) → (s : ℕ) × (s < length column) × IsTrue (p (entry_at column s))
some_where p [] h = absurd (both_ways _ refl h)
some_where p (e ∷ column) h = elim (or_cases (p e) (list_any p column) h) [
  | inl here ↦ (0, omega arith, here)
  | inr there ↦ let r = some_where p column there in (suc r.0, omega (arith, r.1), r.2)
]

asked_one : (a : Bit3) (b : Bool) → IsTrue (is_one a) → Agrees a b → b ≡ true
asked_one One b h ok = ok
asked_one Zero b h ok = absurd (both_ways _ refl h)
asked_one Free b h ok = absurd (both_ways _ refl h)

asked_zero : (a : Bit3) (b : Bool) → IsTrue (is_zero a) → Agrees a b → b ≡ false
asked_zero Zero b h ok = ok
asked_zero One b h ok = absurd (both_ways _ refl h)
asked_zero Free b h ok = absurd (both_ways _ refl h)

pub no_constant : (gates : GateList) (codes : List ℕ) (column : List Bit3) (ref : Ref) → IsOpenColumn (length column) column → length codes ≡ length column → RefAgrees gates codes column ref → IsSignal ref
no_constant gates codes column (Signal n negated) o size ok = tt
no_constant gates codes column (Const b) o size ok =
    let one = some_where is_one column o.some_one in
    let zero = some_where is_zero column o.some_zero in
    let is_true : b ≡ true = asked_one (entry_at column one.0) b one.2 (ok one.0 (get_or codes one.0 0) (slice_get-get_or codes one.0 0 (omega (arith, one.1, size)))) in
    let is_false : b ≡ false = asked_zero (entry_at column zero.0) b zero.2 (ok zero.0 (get_or codes zero.0 0) (slice_get-get_or codes zero.0 0 (omega (arith, zero.1, size)))) in
    both_ways b is_false is_true

-- ---- the references at the places of the classes

module _ (e : Encoding) (t : Columns) (list : Classes) (is : AreColumns t) (are : AreClassesOf t list) (graph : IsGraph t.count (signal_count e.gates) e.graph) (ok : AgreesWith e t) where
  abbrev refs : List Ref
  refs = map (ref_of e.graph) list.places

  place : All (IsPlace t.count) list.places
  place = all_places t list.places are.places

  abbrev no_place : Place
  no_place = Op (record { 0 = 0 })

  size : length list.columns ≡ length list.places
  size = ap length are.columns ∙ length-map list.places (column_at t)

  agrees : (c : ℕ) (column : List Bit3) (ref : Ref) → slice_get list.columns c ≡ Some column → slice_get refs c ≡ Some ref → RefAgrees e.gates e.codes column ref
  agrees c column ref at there =
      let below : c < length list.places = omega (arith, slice_get_within list.columns c column at, size) in
      let p : Place = get_or list.places c no_place in
      let is_column : column_at t p ≡ column = sym (get_or-map (column_at t) list.places c no_place [] below) ∙ ap (λ (xs : List (List Bit3)). get_or xs c []) (sym are.columns) ∙ get_or_from_slice_get list.columns c column [] at in
      let is_ref : ref_of e.graph p ≡ ref = sym (get_or-map (ref_of e.graph) list.places c no_place (Const false) below) ∙ get_or_from_slice_get refs c ref (Const false) there in
      subst (λ x. RefAgrees e.gates e.codes x ref) is_column (subst (λ r. RefAgrees e.gates e.codes (column_at t p) r) is_ref (ok.agrees p (All-get_or (IsPlace t.count) list.places c no_place below place)))

  signals : All IsSignal refs
  signals = All-map IsSignal (ref_of e.graph) list.places
      (λ k d l.
      let p : Place = get_or list.places k d in
      let o = (All-get_or (IsClass t) list.places k d l are.places.each).is_open in
      no_constant e.gates e.codes (column_at t p) (ref_of e.graph p) o.column (ok.one_code_each ∙ sym (column_size t is p o.place)) (ok.agrees p o.place))

pub graph_serves : GraphServesClasses
graph_serves e t list is are graph ok = (
  record {
    one_each = length-map list.places (ref_of e.graph) ∙ sym (size e t list is are graph ok);
    over = All-map (IsRefOver (signal_count e.gates)) (ref_of e.graph) list.places (λ k d l. graph.over (get_or list.places k d) (all_places t list.places are.places k d l));
    agrees = agrees e t list is are graph ok;
  },
  signals e t list is are graph ok,
)
