-- The conditions of arcs as a list, and as a table.
use Rattle.std.proofs.Common.{lit<, ◌≡◌, ◌≢◌, ℕ, zero, suc, ◌<◌, ◌≤◌, ◌+◌, ◌-◌, Bool, true, false, cond, ltb, leb, eqb, ◌&&◌, ◌||◌, not, List, [], ◌∷◌, ◌++◌, length, map, get_or, refl, sym, ap, ap₂, subst, ◌∙◌, arith, append_assoc, length-append, inl, inr, ◌⊎◌}
use Rattle.std.proofs.lemmas.Bool.{cases_Bool, cases_eq, cases_lt, both_ways, eqb-true, eq-eqb, ne_eqb}
use Rattle.std.proofs.lemmas.Bool.Decides.{nat_tests}
use Rattle.std.proofs.lemmas.List.{append-nil, get_or_append_left, get_or_past, map-append}
use Rattle.std.proofs.Math.Seq.{get_or-append_seam}
use Rattle.cpog_defs.specs.declared.types.Ref.{Ref}
use Rattle.cpog_defs.specs.declared.types.Ref.TheVariants.{Const, Signal}
use Rattle.cpog_defs.specs.declared.types.Place.{Place}
use Rattle.cpog_defs.specs.declared.types.Place.TheVariants.{Op, Arc}
use Rattle.cpog_defs.specs.Orders.{each_below}
use Rattle.cpog_defs.specs.Gates.{IsRefOver}
use Rattle.cpog_defs.specs.Graphs.{ConditionalGraph, IsGraph, IsPlace, op_ref, arc_ref, ref_of}
use Rattle.netlist_verilog.specs.Wires.{name_of}
use Rattle.report_text.specs.Rows.{arc_row, line_unless_zero, arc_lines_from, arc_lines}
use Rattle.report_reader.specs.Operations.{Pair, is_from}
use Rattle.report_reader.specs.Gates.{is_zero, after_entry, first_pair}
use Rattle.report_reader.specs.Entries.{FitsEntry, FitEntries, entry_row, look, table_of, graph_from}
use Rattle.report_reader.specs.declared.gates.ArcLine.{ArcLine}
use Rattle.report_reader.proofs.OperationLaws.{forward, below_forward}

-- ---- tables

pub length-ones : {A : Type 0} (f : ℕ → A) (n : ℕ) → length (each_below (λ v. f v ∷ []) n) ≡ n
length-ones f zero = refl
length-ones f (suc n) = length-append (each_below (λ v. f v ∷ []) n) (f n ∷ []) ∙ omega (arith, length-ones f n)

pub get-ones : {A : Type 0} (f : ℕ → A) (n k : ℕ) (d : A) → k < n → get_or (each_below (λ v. f v ∷ []) n) k d ≡ f k
get-ones f zero k d lt = absurd (omega arith)
get-ones {A = A} f (suc n) k d lt = elim (cases_eq k n) [
  | inl same ↦
      let xs : List A = each_below (λ v. f v ∷ []) n in
      ap (λ (i : ℕ). get_or (xs ++ f n ∷ []) i d) (same ∙ sym (length-ones f n)) ∙ get_or-append_seam xs (f n) [] d ∙ ap f (sym same)
  | inr other ↦ get_or_append_left (each_below (λ v. f v ∷ []) n) (f n ∷ []) d k (omega (arith, length-ones f n, other, lt)) ∙ get-ones f n k d (omega (arith, other, lt))
]

past-ones : {A : Type 0} (f : ℕ → A) (n k : ℕ) (d : A) → n ≤ k → get_or (each_below (λ v. f v ∷ []) n) k d ≡ d
past-ones f n k d le = get_or_past (each_below (λ v. f v ∷ []) n) k d (omega (arith, length-ones f n, le))

-- ---- what a list of conditions says

no_ref : Ref
no_ref = Const false

look_past : (signals count : ℕ) (p : Pair) (es : List ArcLine) (u v : ℕ) → FitEntries signals count p es → is_from p u v ≡ false → look es u v ≡ Const false
look_past signals count p [] u v h out = refl
look_past signals count p (e ∷ es) u v h out =
    rw (differs p.first p.second e.first e.second u v h.0.next out)
    (look_past signals count (after_entry p e) es u v h.1 (still_out p.first p.second e.first e.second u v h.0.next out))
  where
    differs : (a b x y u v : ℕ) → (ltb a x || (eqb a x && leb b y)) ≡ true → (ltb a u || (eqb a u && leb b v)) ≡ false → (eqb x u && eqb y v) ≡ false
    differs a b x y u v h g = grind (arith, nat_tests)

    still_out : (a b x y u v : ℕ) → (ltb a x || (eqb a x && leb b y)) ≡ true → (ltb a u || (eqb a u && leb b v)) ≡ false → (ltb x u || (eqb x u && leb (y + 1) v)) ≡ false
    still_out a b x y u v h g = grind (arith, nat_tests)

look_over : (signals count : ℕ) (p : Pair) (es : List ArcLine) (u v : ℕ) → FitEntries signals count p es → IsRefOver signals (look es u v)
look_over signals count p [] u v h = tt
look_over signals count p (e ∷ es) u v h = step (eqb e.first u && eqb e.second v) (look_over signals count (after_entry p e) es u v h.1)
  where
    step : (b : Bool) → IsRefOver signals (look es u v) → IsRefOver signals (cond b e.condition (look es u v))
    step true rest = h.0.over
    step false rest = rest

look_diagonal : (signals count : ℕ) (p : Pair) (es : List ArcLine) (u : ℕ) → FitEntries signals count p es → look es u u ≡ Const false
look_diagonal signals count p [] u h = refl
look_diagonal signals count p (e ∷ es) u h = rw (never e.first e.second u h.0.differ) (look_diagonal signals count (after_entry p e) es u h.1)
  where
    never : (x y u : ℕ) → x ≢ y → (eqb x u && eqb y u) ≡ false
    never x y u ne = elim (cases_eq x u) [
      | inl same ↦ rw (eq-eqb x u same) (ne_eqb y u (λ e. ne (same ∙ sym e)))
      | inr other ↦ rw (ne_eqb x u other) refl
    ]

-- ---- the table

row_at : (n : ℕ) (es : List ArcLine) (u : ℕ) → u < n → get_or (table_of n es) u [] ≡ each_below (λ v. look es u v ∷ []) n
row_at n es u lt = get-ones (λ u. each_below (λ v. look es u v ∷ []) n) n u [] lt

pub table_at : (n : ℕ) (ops : List Ref) (es : List ArcLine) (u v : ℕ) → u < n → v < n → arc_ref (graph_from n ops es) u v ≡ look es u v
unfolding graph_from
table_at n ops es u v lu lv = ap (λ (row : List Ref). get_or row v (Const false)) (row_at n es u lu) ∙ get-ones (look es u) n v (Const false) lv

none_at_all : (u v : ℕ) → get_or (get_or {A = List Ref} [] u []) v (Const false) ≡ Const false
none_at_all u v = refl

table_diagonal : (signals n : ℕ) (ops : List Ref) (es : List ArcLine) (u : ℕ) → FitEntries signals n first_pair es → arc_ref (graph_from n ops es) u u ≡ Const false
unfolding graph_from
table_diagonal signals n ops es u h = elim (cases_lt u n) [
  | inl lt ↦ table_at n ops es u u lt lt ∙ look_diagonal signals n first_pair es u h
  | inr ge ↦ ap (λ (row : List Ref). get_or row u (Const false)) (past-ones (λ u. each_below (λ v. look es u v ∷ []) n) n u [] ge)
]

pub graph_fits : (signals n : ℕ) (ops : List Ref) (es : List ArcLine) → length ops ≡ n → ((v : ℕ) → v < n → IsRefOver signals (get_or ops v (Const false))) → FitEntries signals n first_pair es → IsGraph n signals (graph_from n ops es)
unfolding graph_from
graph_fits signals n ops es len over h = record {
  ops = ops_are;
  arcs = arcs_are;
  rows = rows_are;
  diagonal = λ u. table_diagonal signals n ops es u h;
  over = each;
}
  where
    ops_are : length (graph_from n ops es).ops ≡ n
    ops_are = len

    arcs_are : length (graph_from n ops es).arcs ≡ n
    arcs_are = length-ones (λ u. each_below (λ v. look es u v ∷ []) n) n

    rows_are : (u : ℕ) → u < n → length (get_or (graph_from n ops es).arcs u []) ≡ n
    rows_are u lt = ap length (row_at n es u lt) ∙ length-ones (look es u) n

    ops_over : (v : ℕ) → v < n → IsRefOver signals (op_ref (graph_from n ops es) v)
    ops_over v lt = over v lt

    each : (p : Place) → IsPlace n p → IsRefOver signals (ref_of (graph_from n ops es) p)
    each (Op v) lt = ops_over v.0 lt
    each (Arc u v) place = subst (IsRefOver signals) (sym (table_at n ops es u.0 v.0 place.0 place.1)) (look_over signals n first_pair es u.0 v.0 h)

-- ---- the conditions that aren't 0, one after another

abbrev pub entry_unless_zero : ℕ → ℕ → Ref → List ArcLine
entry_unless_zero u v r = cond (is_zero r) [] ((record { first = u; second = v; condition = r }) ∷ [])

abbrev pub row_entries : (ℕ → ℕ → Ref) → ℕ → ℕ → ℕ → List ArcLine
row_entries f u = forward (λ v. entry_unless_zero u v (f u v))

abbrev pub all_entries : ℕ → (ℕ → ℕ → Ref) → ℕ → ℕ → List ArcLine
all_entries n f = forward (λ u. row_entries f u 0 n)

-- the entries from a pair on are those that the table has from there on
abbrev Agrees : (ℕ → ℕ → Ref) → Pair → ℕ → List ArcLine → Type 0
Agrees f p n es = (u v : ℕ) → u < n → v < n → is_from p u v ≡ true → f u v ≡ look es u v

no_entry : (signals n u : ℕ) (es : List ArcLine) → n ≤ u → FitEntries signals n (record { first = u; second = 0 }) es → es ≡ []
no_entry signals n u [] le h = refl
no_entry signals n u (e ∷ es) le h = absurd (above u e.first e.second h.0.next (omega (arith, le, h.0.first)))
  where
    above : (u x y : ℕ) → (ltb u x || (eqb u x && leb 0 y)) ≡ true → x < u → ⊥
    above u x y h lt = grind (arith, nat_tests)

-- behind a row there is the next one
next_row : (signals n u v : ℕ) (es : List ArcLine) → n ≤ v → FitEntries signals n (record { first = u; second = v }) es → FitEntries signals n (record { first = u + 1; second = 0 }) es
next_row signals n u v [] le h = tt
next_row signals n u v (e ∷ es) le h = (record { next = over u v e.first e.second h.0.next (omega (arith, le, h.0.second)); first = h.0.first; second = h.0.second; differ = h.0.differ; counts = h.0.counts; over = h.0.over }, h.1)
  where
    over : (u v x y : ℕ) → (ltb u x || (eqb u x && leb v y)) ≡ true → y < v → (ltb (u + 1) x || (eqb (u + 1) x && leb 0 y)) ≡ true
    over u v x y h lt = grind (arith, nat_tests)

next_row_agrees : (f : ℕ → ℕ → Ref) (n u v : ℕ) (es : List ArcLine) → Agrees f (record { first = u; second = v }) n es → Agrees f (record { first = u + 1; second = 0 }) n es
next_row_agrees f n u v es agree x y lx ly h = agree x y lx ly (under u v x y h)
  where
    under : (u v x y : ℕ) → (ltb (u + 1) x || (eqb (u + 1) x && leb 0 y)) ≡ true → (ltb u x || (eqb u x && leb v y)) ≡ true
    under u v x y h = grind (arith, nat_tests)

self_from : (u v : ℕ) → (ltb u u || (eqb u u && leb v v)) ≡ true
self_from u v = grind (arith, nat_tests)

weaker : (u v x y : ℕ) → (ltb u x || (eqb u x && leb (v + 1) y)) ≡ true → (ltb u x || (eqb u x && leb v y)) ≡ true
weaker u v x y h = grind (arith, nat_tests)

-- the next entry isn't here, so it comes later
later_entry : (u v x y : ℕ) → (ltb u x || (eqb u x && leb v y)) ≡ true → (eqb x u && eqb y v) ≡ false → (ltb u x || (eqb u x && leb (v + 1) y)) ≡ true
later_entry u v x y h g = grind (arith, nat_tests)

not_later : (u v : ℕ) → (ltb u u || (eqb u u && leb (v + 1) v)) ≡ false
not_later u v = grind (arith, nat_tests)

other_entry : (u v x y : ℕ) → (ltb u x || (eqb u x && leb (v + 1) y)) ≡ true → (eqb u x && eqb v y) ≡ false
other_entry u v x y h = grind (arith, nat_tests)

abbrev at_pair : ℕ → ℕ → Pair
at_pair u v = record { first = u; second = v }

one_row : (signals n : ℕ) (f : ℕ → ℕ → Ref) (u k : ℕ) → u < n
    → ((es : List ArcLine) → FitEntries signals n (at_pair (u + 1) 0) es → Agrees f (at_pair (u + 1) 0) n es → all_entries n f (u + 1) k ≡ es)
    → (m v : ℕ) → v + m ≡ n → (es : List ArcLine) → FitEntries signals n (at_pair u v) es → Agrees f (at_pair u v) n es → row_entries f u v m ++ all_entries n f (u + 1) k ≡ es
one_row signals n f u k lu next zero v size es h agree = next es (next_row signals n u v es (omega (arith, size)) h) (next_row_agrees f n u v es agree)
one_row signals n f u k lu next (suc m) v size es h agree =
    append_assoc (entry_unless_zero u v (f u v)) (row_entries f u (v + 1) m) (all_entries n f (u + 1) k)
    ∙ here es h agree (λ es h agree. one_row signals n f u k lu next m (v + 1) (omega (arith, size)) es h agree)
  where
    More : Type 0
    More = (es : List ArcLine) → FitEntries signals n (at_pair u (v + 1)) es → Agrees f (at_pair u (v + 1)) n es → row_entries f u (v + 1) m ++ all_entries n f (u + 1) k ≡ es

    lv : v < n
    lv = omega (arith, size)

    passes : (es : List ArcLine) → f u v ≡ Const false → FitEntries signals n (at_pair u (v + 1)) es → Agrees f (at_pair u v) n es → More → entry_unless_zero u v (f u v) ++ (row_entries f u (v + 1) m ++ all_entries n f (u + 1) k) ≡ es
    passes es none h agree more = rw none (more es h (λ x y lx ly g. agree x y lx ly (weaker u v x y g)))

    here : (es : List ArcLine) → FitEntries signals n (at_pair u v) es → Agrees f (at_pair u v) n es → More → entry_unless_zero u v (f u v) ++ (row_entries f u (v + 1) m ++ all_entries n f (u + 1) k) ≡ es
    here [] h agree more = passes [] (agree u v lu lv (self_from u v)) tt agree more
    here (e ∷ es) h agree more = elim (cases_Bool (eqb e.first u && eqb e.second v)) [
      | inl is ↦
          let x : e.first ≡ u = eqb-true e.first u (first_of (eqb e.first u) (eqb e.second v) is) in
          let y : e.second ≡ v = eqb-true e.second v (second_of (eqb e.first u) (eqb e.second v) is) in
          let r : f u v ≡ e.condition = agree u v lu lv (self_from u v) ∙ ap (λ (b : Bool). cond b e.condition (look es u v)) is in
          let rest = more es (subst (λ (p : Pair). FitEntries signals n p es) (ap₂ (λ (i j : ℕ). at_pair i (j + 1)) x y) h.1)
          (λ i j li lj g. agree i j li lj (weaker u v i j g) ∙ ap (λ (b : Bool). cond b e.condition (look es i j)) (ap₂ (λ (s t : ℕ). eqb s i && eqb t j) x y ∙ other_entry u v i j g)) in
          rw (r, h.0.counts) (ap₂ (λ (a : ArcLine) (as' : List ArcLine). a ∷ as') (ap₂ (λ (s t : ℕ). record { first = s; second = t; condition = e.condition }) (sym x) (sym y)) rest)
      | inr not_here ↦
          let out : look (e ∷ es) u v ≡ Const false = look_past signals n (at_pair u (v + 1)) (e ∷ es) u v (moved e es h not_here) (not_later u v) in
          passes (e ∷ es) (agree u v lu lv (self_from u v) ∙ out) (moved e es h not_here) agree more
    ]
      where
        first_of : (a b : Bool) → (a && b) ≡ true → a ≡ true
        first_of true b h = refl
        first_of false b h = absurd cc

        second_of : (a b : Bool) → (a && b) ≡ true → b ≡ true
        second_of true b h = h
        second_of false b h = absurd cc

        moved : (e : ArcLine) (es : List ArcLine) → FitEntries signals n (at_pair u v) (e ∷ es) → (eqb e.first u && eqb e.second v) ≡ false → FitEntries signals n (at_pair u (v + 1)) (e ∷ es)
        moved e es h off = (record { next = later_entry u v e.first e.second h.0.next off; first = h.0.first; second = h.0.second; differ = h.0.differ; counts = h.0.counts; over = h.0.over }, h.1)

all_rows : (signals n : ℕ) (f : ℕ → ℕ → Ref) (k u : ℕ) → u + k ≡ n → (es : List ArcLine) → FitEntries signals n (at_pair u 0) es → Agrees f (at_pair u 0) n es → all_entries n f u k ≡ es
all_rows signals n f zero u size es h agree = sym (no_entry signals n u es (omega (arith, size)) h)
all_rows signals n f (suc k) u size es h agree = one_row signals n f u k (omega (arith, size)) (λ es h agree. all_rows signals n f k (u + 1) (omega (arith, size)) es h agree) n 0 (omega arith) es h agree

-- ---- a graph's conditions, and their lines

pub table_entries : (signals n : ℕ) (ops : List Ref) (es : List ArcLine) → FitEntries signals n first_pair es → all_entries n (arc_ref (graph_from n ops es)) 0 n ≡ es
table_entries signals n ops es h = all_rows signals n (arc_ref (graph_from n ops es)) n 0 (omega arith) es h (λ u v lu lv g. table_at n ops es u v lu lv)

one_line : (inputs : ℕ) (names : List (List ℕ)) (u v : ℕ) (r : Ref) → line_unless_zero (arc_row inputs (name_of names u) (name_of names v) r) r ≡ map (entry_row inputs names) (entry_unless_zero u v r)
one_line inputs names u v (Const false) = refl
one_line inputs names u v (Const true) = refl
one_line inputs names u v (Signal n negated) = refl

map_forward : {X Y : Type 0} (g : X → Y) (f : ℕ → List X) (n v : ℕ) → map g (forward f v n) ≡ forward (λ k. map g (f k)) v n
map_forward g f zero v = refl
map_forward {Y = Y} g f (suc n) v = map-append g (f v) (forward f (v + 1) n) ∙ ap (λ (ys : List Y). map g (f v) ++ ys) (map_forward g f n (v + 1))

same_forward : {A : Type 0} (f g : ℕ → List A) → ((k : ℕ) → f k ≡ g k) → (n v : ℕ) → forward f v n ≡ forward g v n
same_forward f g same zero v = refl
same_forward {A = A} f g same (suc n) v = ap₂ (λ (x y : List A). x ++ y) (same v) (same_forward f g same n (v + 1))

pub arcs_written : (inputs : ℕ) (names : List (List ℕ)) (graph : ConditionalGraph) → arc_lines inputs names graph ≡ map (entry_row inputs names) (all_entries (length names) (arc_ref graph) 0 (length names))
arcs_written inputs names graph =
    below_forward (λ u. arc_lines_from inputs names graph u (length names)) (length names)
    ∙ same_forward (λ u. arc_lines_from inputs names graph u (length names)) (λ u. map (entry_row inputs names) (row_entries (arc_ref graph) u 0 (length names))) row (length names) 0
    ∙ sym (map_forward (entry_row inputs names) (λ u. row_entries (arc_ref graph) u 0 (length names)) (length names) 0)
  where
    row : (u : ℕ) → arc_lines_from inputs names graph u (length names) ≡ map (entry_row inputs names) (row_entries (arc_ref graph) u 0 (length names))
    row u =
        below_forward (λ v. line_unless_zero (arc_row inputs (name_of names u) (name_of names v) (arc_ref graph u v)) (arc_ref graph u v)) (length names)
        ∙ same_forward (λ v. line_unless_zero (arc_row inputs (name_of names u) (name_of names v) (arc_ref graph u v)) (arc_ref graph u v)) (λ v. map (entry_row inputs names) (entry_unless_zero u v (arc_ref graph u v))) (λ v. one_line inputs names u v (arc_ref graph u v)) (length names) 0
        ∙ sym (map_forward (entry_row inputs names) (λ v. entry_unless_zero u v (arc_ref graph u v)) (length names) 0)

-- ---- the conditions of a graph come one after another

wider_first : (signals n : ℕ) (p q : Pair) (es : List ArcLine) → ((x y : ℕ) → is_from q x y ≡ true → is_from p x y ≡ true) → FitEntries signals n q es → FitEntries signals n p es
wider_first signals n p q [] wide h = tt
wider_first signals n p q (e ∷ es) wide h = (record { next = wide e.first e.second h.0.next; first = h.0.first; second = h.0.second; differ = h.0.differ; counts = h.0.counts; over = h.0.over }, h.1)

from_next_row : (u v x y : ℕ) → (ltb (u + 1) x || (eqb (u + 1) x && leb 0 y)) ≡ true → (ltb u x || (eqb u x && leb v y)) ≡ true
from_next_row u v x y h = grind (arith, nat_tests)

module _ (signals n : ℕ) (graph : ConditionalGraph) (is : IsGraph n signals graph) where
  abbrev f : ℕ → ℕ → Ref
  f = arc_ref graph

  not_diagonal : (u v : ℕ) → is_zero (f u v) ≡ false → u ≢ v
  not_diagonal u v h e = absurd (both_ways (is_zero (f u v)) h (ap is_zero (ap (f u) (sym e) ∙ is.diagonal u)))

  rows_fit : (u : ℕ) → u < n → (rest : List ArcLine) → FitEntries signals n (at_pair (u + 1) 0) rest → (m v : ℕ) → v + m ≡ n → FitEntries signals n (at_pair u v) (row_entries f u v m ++ rest)
  rows_fit u lu rest h zero v size = wider_first signals n (at_pair u v) (at_pair (u + 1) 0) rest (from_next_row u v) h
  rows_fit u lu rest h (suc m) v size =
      subst (FitEntries signals n (at_pair u v)) (sym (append_assoc (entry_unless_zero u v (f u v)) (row_entries f u (v + 1) m) rest))
      (step (is_zero (f u v)) refl (rows_fit u lu rest h m (v + 1) (omega (arith, size))))
    where
      step : (b : Bool) → is_zero (f u v) ≡ b → FitEntries signals n (at_pair u (v + 1)) (row_entries f u (v + 1) m ++ rest) → FitEntries signals n (at_pair u v) (cond b [] ((record { first = u; second = v; condition = f u v }) ∷ []) ++ (row_entries f u (v + 1) m ++ rest))
      step true zero_is more = wider_first signals n (at_pair u v) (at_pair u (v + 1)) (row_entries f u (v + 1) m ++ rest) (weaker u v) more
      step false some more =
          let differ : u ≢ v = not_diagonal u v some in
          (record { next = self_from u v; first = lu; second = omega (arith, size); differ = differ; counts = some; over = is.over (Arc (record { 0 = u }) (record { 0 = v })) (lu, omega (arith, size), differ) }, more)

  graph_rows_fit : (k u : ℕ) → u + k ≡ n → FitEntries signals n (at_pair u 0) (all_entries n f u k)
  graph_rows_fit zero u size = tt
  graph_rows_fit (suc k) u size = rows_fit u (omega (arith, size)) (all_entries n f (u + 1) k) (graph_rows_fit k (u + 1) (omega (arith, size))) n 0 (omega arith)

  pub graph_entries_fit : FitEntries signals n first_pair (all_entries n f 0 n)
  graph_entries_fit = graph_rows_fit n 0 (omega arith)
