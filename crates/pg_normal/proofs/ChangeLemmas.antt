-- What changes, and what is not there.
use Rattle.std.specs.Prelude.{◌≡◌, ◌≢◌, ◌⊎◌, ◌↔◌, refl, ℕ, ◌<◌, ◌≤◌, ◌+◌, ◌==◌, nat_lt, Bool, true, false, cond, not, ◌&&◌, ◌||◌, List, [], ◌∷◌, bit_and, bit_xor, Some}
use Rattle.std.proofs.Common.{zero, suc, ap, ◌∙◌, sym, subst, arith, inl, inr, eqb-true}
use Rattle.std.specs.Bool.{MatchBool}
use Rattle.std.specs.List.{AllByRecursion}
use Rattle.std.specs.Map.{lookup}
use Rattle.std.proofs.Math.Bool.{and-false}
use Rattle.std.proofs.lemmas.Bool.{both_ways, cases_Bool, cases_eq, cases_lt, and_parts, and_from, or_cases, ne_eqb}
use Rattle.cpog_defs.specs.Codes.{bit}
use Rattle.cpog_defs.specs.Orders.{any_below}
use Rattle.pg_algebra.specs.declared.table.Table.{Table}
use Rattle.pg_algebra.specs.Tables.{flip, with_param}
use Rattle.pg_algebra.proofs.TableLemmas.{no_ones, bit-and, xor_differs, xor_alike}
use Rattle.pg_algebra.proofs.ValuationLaws.{flip-one, set_is_same, set_is_flip}
use Rattle.pg_algebra.proofs.GraphLaws.{same_graph}
use Rattle.std.proofs.lemmas.Bool.Decides.{nat_tests}
use Rattle.pg_normal.specs.Instances.{Agrees, ChangesGraph, IsUnbound}
use Rattle.pg_normal.proofs.PartialLemmas.{still_agrees, constant_on_agreeing}
use Rattle.pg_normal.specs.Forms.{Form, word, is_arc, vertex_table, arc_table, graph_at, IsForm, AsksForEnds, sometimes}
use Rattle.pg_normal.specs.Changes.{Differs, Keeps, KeepsGraph, VertexDiffers, ArcDiffers, IsBelow}
use Rattle.pg_normal.proofs.MakingLemmas.{none_below}

pub match_from : (r any : Bool) (P Q : Type 0) → r ≡ any → (any ≡ true → P) → (any ≡ false → Q) → MatchBool r P Q
match_from true any P Q is yes_ no_ = yes_ (sym is)
match_from false any P Q is yes_ no_ = no_ (sym is)

record Below (p : ℕ → Bool) (w : ℕ) : Type 0 where
  at : ℕ
  less : at < w
  passes : p at ≡ true

some_below : (p : ℕ → Bool) (w : ℕ) → any_below p w ≡ true → Below p w
some_below p zero h = absurd (both_ways _ refl h)
some_below p (suc w) h = elim (or_cases (p w) (any_below p w) h) [
  | inl here ↦ record { at = w; less = omega arith; passes = here }
  | inr below ↦ further (some_below p w below)
]
  where
    further : Below p w → Below p (suc w)
    further b = record { at = b.at; less = (let l = b.less in omega (arith, l)); passes = b.passes }

-- the two valuations that differ in one parameter are those with it set and not
module _ (t k n : ℕ) where
  pub turned_differs : (bit t (with_param n k true) ≡ bit t (with_param n k false) → ⊥) → bit t n ≢ bit t (flip n k)
  turned_differs differs same = elim (cases_Bool (bit n k)) [
    | inl set_ ↦ differs (ap (bit t) (set_is_same n k true set_) ∙ same ∙ sym (ap (bit t) (set_is_flip n k false set_)))
    | inr clear ↦ differs (ap (bit t) (set_is_flip n k true clear) ∙ sym same ∙ sym (ap (bit t) (set_is_same n k false clear)))
  ]

  pub turned_same : bit t (with_param n k true) ≡ bit t (with_param n k false) → bit t n ≡ bit t (flip n k)
  turned_same same = elim (cases_Bool (bit n k)) [
    | inl set_ ↦ sym (ap (bit t) (set_is_same n k true set_)) ∙ same ∙ ap (bit t) (set_is_flip n k false set_)
    | inr clear ↦ sym (ap (bit t) (set_is_same n k false clear)) ∙ sym same ∙ ap (bit t) (set_is_flip n k true clear)
  ]

module _ (t k among ones zeros : ℕ)
    (ones_are : (n : ℕ) → n < 64 → bit ones n ≡ bit t (with_param n k true))
    (zeros_are : (n : ℕ) → n < 64 → bit zeros n ≡ bit t (with_param n k false)) where
  pub differs_from : sometimes (bit (bit_and (bit_xor ones zeros) among)) ≡ true → Differs t k among
  differs_from h = at (some_below (bit (bit_and (bit_xor ones zeros) among)) 64 h)
    where
      at : Below (bit (bit_and (bit_xor ones zeros) among)) 64 → Differs t k among
      at b = record {
        valuation = b.at;
        below = b.less;
        chosen = (parts b).1;
        differs = turned_differs t k b.at (λ same. xor_differs ones zeros b.at (parts b).0 (ones_are b.at b.less ∙ same ∙ sym (zeros_are b.at b.less)));
      }
        where
          parts : (b : Below (bit (bit_and (bit_xor ones zeros) among)) 64) → (bit (bit_xor ones zeros) b.at ≡ true) × (bit among b.at ≡ true)
          parts b = and_parts (bit (bit_xor ones zeros) b.at) (bit among b.at) (sym (bit-and (bit_xor ones zeros) among b.at) ∙ b.passes)

  pub keeps_from : sometimes (bit (bit_and (bit_xor ones zeros) among)) ≡ false → Keeps t k among
  keeps_from h n lt chosen =
      turned_same t k n (sym (ones_are n lt) ∙ xor_alike ones zeros n
      (left (bit (bit_xor ones zeros) n) (bit among n) chosen (sym (bit-and (bit_xor ones zeros) among n)
      ∙ none_below (bit (bit_and (bit_xor ones zeros) among)) 64 h n lt)) ∙ zeros_are n lt)
    where
      left : (a b : Bool) → b ≡ true → (a && b) ≡ false → a ≡ false
      left true b is none = absurd (both_ways _ none is)
      left false b is none = refl

-- ---- what is not there

pub no_vertex : (count v : ℕ) (es : List (ℕ × Table)) → AllByRecursion (λ e. e.0 < count) es → count ≤ v → word (lookup (λ w. v == w) es) ≡ 0
no_vertex count v [] all h = refl
no_vertex count v (e ∷ es) all h =
    ap (λ b. word (cond b (Some e.1) (lookup (λ w. v == w) es)))
    (ne_eqb v e.0 (λ same. (let l = all.0 in let s = same in omega (arith, l, s)))) ∙ no_vertex count v es all.1 h

ends-entries : (f : Form) (es : List ((ℕ × ℕ) × Table)) (u v n : ℕ) → n < 64 → AllByRecursion (AsksForEnds f) es →
    bit (word (lookup (is_arc u v) es)) n ≡ true →
    (bit (vertex_table f u) n ≡ true) × (bit (vertex_table f v) n ≡ true)
ends-entries f [] u v n h all held = absurd (both_ways _ (no_ones n) held)
ends-entries f (e ∷ es) u v n h all held = elim (cases_Bool (is_arc u v e.0)) [
  | inl same ↦ (
    ap (λ w. bit (vertex_table f w) n) (eqb-true u e.0.0 (and_parts (u == e.0.0) (v == e.0.1) same).0) ∙ all.0.0 n h (here same),
    ap (λ w. bit (vertex_table f w) n) (eqb-true v e.0.1 (and_parts (u == e.0.0) (v == e.0.1) same).1) ∙ all.0.1 n h (here same),
  )
  | inr other ↦ ends-entries f es u v n h all.1 (sym (ap (λ b. bit (word (cond b (Some e.1) (lookup (is_arc u v) es))) n) other) ∙ held)
]
  where
    here : is_arc u v e.0 ≡ true → bit e.1.0 n ≡ true
    here same = sym (ap (λ b. bit (word (cond b (Some e.1) (lookup (is_arc u v) es))) n) same) ∙ held

-- an arc has both of its ends
pub arc_has_ends : (f : Form) (u v n : ℕ) → IsForm f → n < 64 → bit (arc_table f u v) n ≡ true → (bit (vertex_table f u) n ≡ true) × (bit (vertex_table f v) n ≡ true)
arc_has_ends f u v n is h held = ends-entries f f.arcs u v n h is.ends held

pub vertex_past : (count : ℕ) (f : Form) (v n : ℕ) → IsBelow count f → count ≤ v → bit (vertex_table f v) n ≡ false
vertex_past count f v n below past = ap (λ t. bit t n) (no_vertex count v f.vertices below past) ∙ no_ones n

vertex_below : (count : ℕ) (f : Form) (v n : ℕ) → IsBelow count f → bit (vertex_table f v) n ≡ true → v < count
vertex_below count f v n below held = elim (cases_lt v count) [
  | inl lt ↦ lt
  | inr past ↦ absurd (both_ways _ (vertex_past count f v n below past) held)
]

pub arc_ends_below : (count : ℕ) (f : Form) (u v n : ℕ) → IsForm f → IsBelow count f → n < 64 → bit (arc_table f u v) n ≡ true → (u < count) × (v < count)
arc_ends_below count f u v n is below h held = let ends = arc_has_ends f u v n is h held in (vertex_below count f u n below ends.0, vertex_below count f v n below ends.1)

-- ---- bindings

abbrev AgreesBelow : ℕ → ℕ → ℕ → ℕ → Type 0
AgreesBelow fixed values n k = (j : ℕ) → j < k → bit fixed j ≡ true → bit n j ≡ bit values j

pub agree_more : (fixed values n k : ℕ) (old new lit : Bool) → bit fixed k ≡ true → new ≡ (old && lit) →
    ((lit ≡ true) ↔ (bit n k ≡ bit values k)) → ((old ≡ true) ↔ AgreesBelow fixed values n k) →
    (new ≡ true) ↔ AgreesBelow fixed values n (k + 1)
agree_more fixed values n k old new lit bound is lit_is old_is = (
  (λ held j lt here. elim (cases_eq j k) [
    | inl e ↦ subst (λ i. bit n i ≡ bit values i) (sym e) (lit_is.0 (and_parts old lit (sym is ∙ held)).1)
    | inr ne ↦ old_is.0 (and_parts old lit (sym is ∙ held)).0 j (omega arith) here
  ]),
  (λ all. is ∙ and_from old lit (old_is.1 (λ j lt here. all j (omega arith) here)) (lit_is.1 (all k (omega arith) bound))),
)

pub agree_same : (fixed values n k : ℕ) (old new : Bool) → bit fixed k ≡ false → new ≡ old → ((old ≡ true) ↔ AgreesBelow fixed values n k) → (new ≡ true) ↔ AgreesBelow fixed values n (k + 1)
agree_same fixed values n k old new free is old_is = (
  (λ held j lt here. elim (cases_eq j k) [
    | inl e ↦ absurd (both_ways _ free (subst (λ i. bit fixed i ≡ true) e here))
    | inr ne ↦ old_is.0 (sym is ∙ held) j (omega arith) here
  ]),
  (λ all. is ∙ old_is.1 (λ j lt here. all j (omega arith) here)),
)

module _ (f : Form) (fixed values among : ℕ) (among_is : (n : ℕ) → n < 64 → (bit among n ≡ true) ↔ Agrees fixed values n) where
  changes_from : (k : ℕ) → bit fixed k ≡ false → (VertexDiffers f k among) ⊎ (ArcDiffers f k among) → ChangesGraph f fixed values k
  changes_from k free (inl d) = record {
    valuation = d.differs.valuation;
    below = d.differs.below;
    agrees = (among_is d.differs.valuation d.differs.below).0 d.differs.chosen;
    turned_agrees = still_agrees fixed values k d.differs.valuation free ((among_is d.differs.valuation d.differs.below).0 d.differs.chosen);
    differs = λ same. d.differs.differs (ap (λ g. g.vertex d.vertex) same);
  }
  changes_from k free (inr d) = record {
    valuation = d.differs.valuation;
    below = d.differs.below;
    agrees = (among_is d.differs.valuation d.differs.below).0 d.differs.chosen;
    turned_agrees = still_agrees fixed values k d.differs.valuation free ((among_is d.differs.valuation d.differs.below).0 d.differs.chosen);
    differs = λ same. d.differs.differs (ap (λ g. g.arc d.first d.second) same);
  }

  kept_graph : (k n : ℕ) → KeepsGraph f k among → n < 64 → Agrees fixed values n → graph_at f n ≡ graph_at f (flip n k)
  kept_graph k n keeps h agrees = same_graph _ _ (λ v. keeps.0 v n h ((among_is n h).1 agrees)) (λ u v. keeps.1 u v n h ((among_is n h).1 agrees))

  never : (j : ℕ) → j < 6 → (bit fixed j ≡ false → KeepsGraph f j among) → ChangesGraph f fixed values j → ⊥
  never j small keeps ch = elim (cases_Bool (bit fixed j)) [
    | inl bound ↦ turned (bit ch.valuation j) (sym (flip-one ch.valuation j) ∙ ch.turned_agrees j small bound ∙ sym (ch.agrees j small bound))
    | inr free ↦ ch.differs (kept_graph j ch.valuation (keeps free) ch.below ch.agrees)
  ]
    where
      turned : (b : Bool) → not b ≡ b → ⊥
      turned true e = both_ways false refl e
      turned false e = both_ways true e refl

  pub unbound_from : (k : ℕ) → k < 6 → bit fixed k ≡ false → (VertexDiffers f k among) ⊎ (ArcDiffers f k among) →
      ((j : ℕ) → j < k → bit fixed j ≡ false → KeepsGraph f j among) → IsUnbound f fixed values k
  unbound_from k small free differs before = record {
    below = small;
    changes = changes_from k free differs;
    least = λ j lt ch. never j (omega arith) (before j lt) ch;
  }

  -- so all valuations that agree give one graph
  pub one_graph : ((k : ℕ) → k < 6 → bit fixed k ≡ false → KeepsGraph f k among) → (n m : ℕ) → n < 64 → m < 64 → Agrees fixed values n → Agrees fixed values m → graph_at f n ≡ graph_at f m
  one_graph keeps n m hn hm an am = same_graph _ _
      (λ v. constant_on_agreeing fixed values (λ i. bit (vertex_table f v) i) (λ k i hk hi free ai. ap (λ g. g.vertex v) (kept_graph k i (keeps k hk free) hi ai)) n m hn hm an am)
      (λ u v. constant_on_agreeing fixed values (λ i. bit (arc_table f u v) i) (λ k i hk hi free ai. ap (λ g. g.arc u v) (kept_graph k i (keeps k hk free) hi ai)) n m hn hm an am)

-- ---- the scenario

lt_next : (w v : ℕ) → nat_lt w (v + 1) ≡ ((w == v) || nat_lt w v)
lt_next w v = grind (arith, nat_tests)

lt_none : (w : ℕ) → nat_lt w 0 ≡ false
lt_none w = grind (arith, nat_tests)

pub none_yet : (w : ℕ) (b : Bool) → (nat_lt w 0 && b) ≡ false
none_yet w b = ap (λ c. c && b) (lt_none w)

pub vertex_added : (T : ℕ → Bool) (v w : ℕ) (old new : Bool) → T v ≡ true → new ≡ ((w == v) || old) → old ≡ (nat_lt w v && T w) → new ≡ (nat_lt w (v + 1) && T w)
vertex_added T v w old new here is before = elim (cases_Bool (w == v)) [
  | inl same ↦ is ∙ ap (λ b. b || old) same ∙ sym (ap (λ b. b && T w) (lt_next w v ∙ ap (λ b. b || nat_lt w v) same) ∙ ap T (eqb-true w v same) ∙ here)
  | inr other ↦ is ∙ ap (λ b. b || old) other ∙ before ∙ sym (ap (λ b. b && T w) (lt_next w v ∙ ap (λ b. b || nat_lt w v) other))
]

pub vertex_skipped : (T : ℕ → Bool) (v w : ℕ) (old : Bool) → T v ≡ false → old ≡ (nat_lt w v && T w) → old ≡ (nat_lt w (v + 1) && T w)
vertex_skipped T v w old none before = elim (cases_Bool (w == v)) [
  | inl same ↦ before ∙ ap (λ b. nat_lt w v && b) (ap T (eqb-true w v same) ∙ none) ∙ and-false (nat_lt w v)
      ∙ sym (ap (λ b. nat_lt w (v + 1) && b) (ap T (eqb-true w v same) ∙ none) ∙ and-false (nat_lt w (v + 1)))
  | inr other ↦ before ∙ sym (ap (λ b. b && T w) (lt_next w v ∙ ap (λ b. b || nat_lt w v) other))
]

pub all_there : (lt there : Bool) → (lt ≡ true) ⊎ (there ≡ false) → (lt && there) ≡ there
all_there true there h = refl
all_there false there (inl e) = absurd (both_ways _ refl e)
all_there false there (inr e) = sym e
