-- The line of the inner wires is read exactly.
use Rattle.std.proofs.Common.{◌≡◌, ℕ, zero, suc, ◌<◌, ◌≤◌, ◌+◌, ◌⊎◌, inl, inr, Bool, true, false, cond, ◌&&◌, ◌||◌, eqb, ltb, List, [], ◌∷◌, ◌++◌, length, Option, Some, None, refl, sym, ap, ap₂, subst, ◌∙◌, arith, append_assoc}
use Rattle.std.specs.Prelude.{codes}
use Rattle.std.specs.Fmt.{decimal}
use Rattle.std.specs.Str.{bytes_eq}
use Rattle.std.proofs.lemmas.Bool.{cases_Bool, both_ways, ne_eqb, eqb-true, lt-ltb, ltb-true}
use Rattle.std.proofs.lemmas.Fmt.{decimal_injective}
use Rattle.std.proofs.lemmas.Slice.Eq.{bytes_eq-Decides}
use Rattle.line_text.specs.Words.{continues_name}
use Rattle.line_text.proofs.TellingLemmas.{heads, tails, words_told, decimal_continues}
use Rattle.netlist_verilog.proofs.WordLemmas.{decimal_told}
use Rattle.line_rows.specs.Words.{◌>>=?◌, behind}
use Rattle.line_rows.proofs.Exact.{IsExact, behind_again, behind_takes, some_of, tested, both_true}
use Rattle.module_reader.specs.Lists.{next_or, is_comma, ends_item, mark, arc_item, arc_mark, arc_marks_from, arc_marks}
use Rattle.netlist_verilog.specs.Wires.{name_of}
use Rattle.netlist_verilog.specs.Rows.{separator, joined}
use Rattle.module_reader.specs.Lists.{run}
use Rattle.module_reader.specs.Modules.{gate_item, gate_room, condition_names, wires_from, wires_behind, wires_in}
use Rattle.module_reader.specs.Fits.{NotOwn, IsRow, IsMatrix, IsWires}
use Rattle.module_reader.proofs.RowLaws.{below_front}
use Rattle.module_reader.proofs.PortLaws.{none_behind}
use Rattle.module_reader.proofs.ListLaws.{items_text, run_takes, run_again, puts, walk_text, walk_takes, Again, walk_keeps, walk_again}

-- ---- one item

-- an item that is declared or not
abbrev pub arc_part : ℕ → ℕ → Bool → List ℕ
arc_part u v b = cond b (arc_item u v) []

-- what mark makes of what is behind the item
abbrev seen : List ℕ → Option (List ℕ) → Bool × List ℕ
seen bytes o = next_or (false, bytes) (λ rest. cond (ends_item rest) (true, rest) (false, bytes)) o

abbrev not_seen : List ℕ → Bool × List ℕ
not_seen bytes = (false, bytes)

marked : (item bytes : List ℕ) (o : Option (List ℕ)) → behind item bytes ≡ o → bytes ≡ cond (seen bytes o).0 item [] ++ (seen bytes o).1
marked item bytes None e = refl
marked item bytes (Some rest) e = step (ends_item rest)
  where
    chosen_by : Bool → Bool × List ℕ
    chosen_by b = cond b (true, rest) (false, bytes)

    step : (b : Bool) → bytes ≡ cond (chosen_by b).0 item [] ++ (chosen_by b).1
    step true = behind_takes item bytes rest e
    step false = refl

pub arc_mark_takes : (u v : ℕ) (bytes : List ℕ) → NotOwn u v (arc_mark u v bytes).0 × (bytes ≡ arc_part u v (arc_mark u v bytes).0 ++ (arc_mark u v bytes).1)
arc_mark_takes u v bytes = step (eqb u v) refl
  where
    chosen_by : Bool → Bool × List ℕ
    chosen_by b = cond b (false, bytes) (mark (arc_item u v) bytes)

    step : (b : Bool) → eqb u v ≡ b → NotOwn u v (chosen_by b).0 × (bytes ≡ arc_part u v (chosen_by b).0 ++ (chosen_by b).1)
    step true e = (λ h. refl, refl)
    step false e = (λ h. absurd (both_ways (eqb u v) e h), marked (arc_item u v) bytes (behind (arc_item u v) bytes) refl)

-- ---- what may follow

ends_name : (rest : List ℕ) → ends_item rest ≡ true → (c : ℕ) × (r : List ℕ) × (rest ≡ c ∷ r) × (continues_name c ≡ false)
ends_name [] h = absurd cc
ends_name (c ∷ r) h = (
  c,
  r,
  refl,
  elim (cases_Bool (is_comma c)) [
    | inl is ↦ ap continues_name (eqb-true c 44 is)
    | inr isnt ↦ ap continues_name (eqb-true c 59 (last (is_comma c) (eqb c 59) isnt h))
  ],
)
  where
    last : (a b : Bool) → a ≡ false → (a || b) ≡ true → b ≡ true
    last false b p q = q
    last true b p q = absurd cc

arc_told : (u v a b : ℕ) (x y : List ℕ) → u < 128 → v < 128 → a < 128 → b < 128 → ends_item x ≡ true → ends_item y ≡ true → arc_item u v ++ x ≡ arc_item a b ++ y → (u ≡ a) × (v ≡ b)
arc_told u v a b x y hu hv ha hb ex ey e =
    let p = ends_name x ex in
    let q = ends_name y ey in
    let text : decimal u ++ 95 ∷ (decimal v ++ x) ≡ decimal a ++ 95 ∷ (decimal b ++ y) =
    sym (append_assoc (decimal u) (codes "_" ++ decimal v) x) ∙ tails 101 101 _ _ (tails 32 32 _ _ (tails 44 44 _ _ e)) ∙ append_assoc (decimal a) (codes "_" ++ decimal b) y in
    let first = decimal_told u a 95 _ _ (omega (arith, hu)) (omega (arith, ha)) refl text in
    let second : decimal v ++ p.0 ∷ p.1 ≡ decimal b ++ q.0 ∷ q.1 = ap (λ (z : List ℕ). decimal v ++ z) (sym p.2) ∙ first.1 ∙ ap (λ (z : List ℕ). decimal b ++ z) q.2 in
    let same = words_told continues_name (decimal v) (decimal b) p.0 q.0 p.1 q.1 (decimal_continues v (omega (arith, hv))) (decimal_continues b (omega (arith, hb))) p.3 q.3 second in
    (first.0, decimal_injective v b (omega (arith, hv)) (omega (arith, hb)) same.0)

-- the end of the line
abbrev pub close : List ℕ
close = codes ";"

-- an item from (u, v) on
pub record Ahead (u v : ℕ) (bytes : List ℕ) : Type 0 where
  pub first : ℕ
  pub second : ℕ
  pub more : List ℕ
  pub whole : bytes ≡ arc_item first second ++ more
  pub ends : ends_item more ≡ true
  pub below : first < 128
  pub below_too : second < 128
  pub later : (u < first) ⊎ ((u ≡ first) × (v ≤ second))

abbrev pub Left : ℕ → ℕ → List ℕ → Type 0
Left u v bytes = (bytes ≡ close) ⊎ Ahead u v bytes

left_ends : (u v : ℕ) (bytes : List ℕ) → Left u v bytes → ends_item bytes ≡ true
left_ends u v bytes (inl e) = ap ends_item e
left_ends u v bytes (inr a) = ap ends_item a.whole

passed : (u v : ℕ) (bytes : List ℕ) → Left u (v + 1) bytes → Left u v bytes
passed u v bytes (inl e) = inl e
passed u v bytes (inr a) = inr (record { first = a.first; second = a.second; more = a.more; whole = a.whole; ends = a.ends; below = a.below; below_too = a.below_too; later = elim a.later [ inl l ↦ inl l | inr r ↦ inr (r.0, omega (arith, r.1)) ] })

next_row : (count u : ℕ) (bytes : List ℕ) → Left (u + 1) 0 bytes → Left u count bytes
next_row count u bytes (inl e) = inl e
next_row count u bytes (inr a) = inr (record { first = a.first; second = a.second; more = a.more; whole = a.whole; ends = a.ends; below = a.below; below_too = a.below_too; later = elim a.later [ inl l ↦ inl (omega (arith, l)) | inr r ↦ inl (omega (arith, r.0)) ] })

not_there : (u v : ℕ) (bytes rest : List ℕ) → u < 128 → v < 128 → Left u (v + 1) bytes → bytes ≡ arc_item u v ++ rest → ends_item rest ≡ true → ⊥
not_there u v bytes rest hu hv (inl e) whole ends = omega (arith, heads 44 59 _ _ (sym whole ∙ e))
not_there u v bytes rest hu hv (inr a) whole ends =
    let t = arc_told u v a.first a.second rest a.more hu hv a.below a.below_too ends a.ends (sym whole ∙ a.whole) in
    elim a.later [ inl l ↦ omega (arith, l, t.0) | inr r ↦ omega (arith, r.1, t.1) ]

unmarked : (u v : ℕ) (bytes : List ℕ) → u < 128 → v < 128 → Left u (v + 1) bytes → (o : Option (List ℕ)) → behind (arc_item u v) bytes ≡ o → seen bytes o ≡ not_seen bytes
unmarked u v bytes hu hv left None e = refl
unmarked u v bytes hu hv left (Some rest) e = elim (cases_Bool (ends_item rest)) [
  | inl ends ↦ absurd (not_there u v bytes rest hu hv left (behind_takes (arc_item u v) bytes rest e) ends)
  | inr open' ↦ rw open' refl
]

-- ---- the arc wires from one operation

abbrev seen_so : List ℕ → Bool × List ℕ
seen_so rest = (true, rest)

arc_read : (u v : ℕ) (b : Bool) (rest : List ℕ) → u < 128 → v < 128 → NotOwn u v b → Left u (v + 1) rest → arc_mark u v (arc_part u v b ++ rest) ≡ (b, rest)
arc_read u v true rest hu hv own left = elim (cases_Bool (eqb u v)) [
  | inl same ↦ absurd (both_ways true (own same) refl)
  | inr differ ↦
      let there : behind (arc_item u v) (arc_item u v ++ rest) ≡ Some rest = behind_again (arc_item u v) rest in
      let ends : ends_item rest ≡ true = left_ends u (v + 1) rest left in
      let one : mark (arc_item u v) (arc_item u v ++ rest) ≡ seen_so rest = ap (seen (arc_item u v ++ rest)) there ∙ rw ends refl in
      ap (λ (c : Bool). cond c (not_seen (arc_item u v ++ rest)) (mark (arc_item u v) (arc_item u v ++ rest))) differ ∙ one
]
arc_read u v false rest hu hv own left = step (eqb u v)
  where
    step : (c : Bool) → cond c (not_seen rest) (mark (arc_item u v) rest) ≡ not_seen rest
    step true = refl
    step false = unmarked u v rest hu hv left (behind (arc_item u v) rest) refl

arc_kept : (u v : ℕ) (b : Bool) (rest : List ℕ) → u < 128 → v < 128 → Left u (v + 1) rest → Left u v (arc_part u v b ++ rest)
arc_kept u v false rest hu hv left = passed u v rest left
arc_kept u v true rest hu hv left = inr (record { first = u; second = v; more = rest; whole = refl; ends = left_ends u (v + 1) rest left; below = hu; below_too = hv; later = inr (refl, omega arith) })

abbrev pub push : {A : Type 0} → ℕ → List A → A → List A
push v done x = done ++ x ∷ []

push_all : {A : Type 0} (step : ℕ → List ℕ → A × List ℕ) (t : ℕ → A → List ℕ) (F : ℕ → A → Type 0) (i : ℕ) (done xs : List A) → puts push step t F i done xs ≡ done ++ xs
push_all step t F i done [] = sym (append_nil done)
  where
    append_nil : {A : Type 0} (ys : List A) → ys ++ [] ≡ ys
    append_nil [] = refl
    append_nil {A = A} (y ∷ ys) = ap (λ (z : List A). y ∷ z) (append_nil ys)
push_all step t F i done (x ∷ xs) = push_all step t F (i + 1) (done ++ x ∷ []) xs ∙ append_assoc done (x ∷ []) xs

abbrev row_step : ℕ → ℕ → List ℕ → Bool × List ℕ
row_step u v bytes = arc_mark u v bytes

-- the text of a row of arc wires
abbrev pub row_text : ℕ → List Bool → List ℕ
row_text u bs = walk_text push (arc_mark u) (arc_part u) (NotOwn u) 0 bs

row_laws : (count u : ℕ) → u < 128 → count ≤ 128 → Again push (arc_mark u) (arc_part u) (NotOwn u) (Left u) count
row_laws count u hu few = record {
  read = λ v b rest lt fits left. arc_read u v b rest hu (omega (arith, lt, few)) fits left;
  keep = λ v b rest lt fits left. arc_kept u v b rest hu (omega (arith, lt, few)) left;
}

row_again : (count u : ℕ) (bs : List Bool) (rest : List ℕ) → u < 128 → count ≤ 128 → IsRow count u bs → Left (u + 1) 0 rest → arc_marks_from count u (row_text u bs ++ rest) ≡ (bs, rest)
row_again count u bs rest hu few fits left =
    walk_again push (arc_mark u) (arc_part u) (NotOwn u) (Left u) count (row_laws count u hu few) count 0 [] bs rest (omega arith) fits (next_row (0 + count) u rest left)
    ∙ ap (λ (xs : List Bool). pair_of xs) (push_all (arc_mark u) (arc_part u) (NotOwn u) 0 [] bs)
  where
    pair_of : List Bool → List Bool × List ℕ
    pair_of xs = (xs, rest)

row_kept : (count u : ℕ) (bs : List Bool) (rest : List ℕ) → u < 128 → count ≤ 128 → IsRow count u bs → Left (u + 1) 0 rest → Left u 0 (row_text u bs ++ rest)
row_kept count u bs rest hu few fits left =
    walk_keeps push (arc_mark u) (arc_part u) (NotOwn u) (Left u) count (row_laws count u hu few) count 0 bs rest (omega arith) fits (next_row (0 + count) u rest left)

row_takes : (count u : ℕ) (bytes : List ℕ) → IsRow count u (arc_marks_from count u bytes).0 × (bytes ≡ row_text u (arc_marks_from count u bytes).0 ++ (arc_marks_from count u bytes).1)
row_takes count u bytes =
    let w = walk_takes push (arc_mark u) (arc_part u) (NotOwn u) (arc_mark_takes u) count 0 [] bytes in
    let same : (arc_marks_from count u bytes).0 ≡ w.items = w.made ∙ push_all (arc_mark u) (arc_part u) (NotOwn u) 0 [] w.items in
    (subst (IsRow count u) (sym same) w.fits, w.whole ∙ ap (λ (xs : List Bool). row_text u xs ++ (arc_marks_from count u bytes).1) (sym same))

-- ---- those of all

abbrev pub matrix_text : ℕ → List (List Bool) → List ℕ
matrix_text count rows = walk_text push (arc_marks_from count) row_text (IsRow count) 0 rows

matrix_laws : (count : ℕ) → count ≤ 128 → Again push (arc_marks_from count) row_text (IsRow count) (λ u. Left u 0) count
matrix_laws count few = record {
  read = λ u bs rest lt fits left. row_again count u bs rest (omega (arith, lt, few)) few fits left;
  keep = λ u bs rest lt fits left. row_kept count u bs rest (omega (arith, lt, few)) few fits left;
}

pub matrix_again : (count : ℕ) (rows : List (List Bool)) → count ≤ 128 → IsMatrix count rows → arc_marks count (matrix_text count rows ++ close) ≡ (rows, close)
matrix_again count rows few fits =
    walk_again push (arc_marks_from count) row_text (IsRow count) (λ u. Left u 0) count (matrix_laws count few) count 0 [] rows close (omega arith) fits (inl refl)
    ∙ ap (λ (xs : List (List Bool)). pair_of xs) (push_all (arc_marks_from count) row_text (IsRow count) 0 [] rows)
  where
    pair_of : List (List Bool) → List (List Bool) × List ℕ
    pair_of xs = (xs, close)

pub matrix_takes : (count : ℕ) (bytes : List ℕ) → IsMatrix count (arc_marks count bytes).0 × (bytes ≡ matrix_text count (arc_marks count bytes).0 ++ (arc_marks count bytes).1)
matrix_takes count bytes =
    let w = walk_takes push (arc_marks_from count) row_text (IsRow count) (row_takes count) count 0 [] bytes in
    let same : (arc_marks count bytes).0 ≡ w.items = w.made ∙ push_all (arc_marks_from count) row_text (IsRow count) 0 [] w.items in
    (subst (IsMatrix count) (sym same) w.fits, w.whole ∙ ap (λ (xs : List (List Bool)). matrix_text count xs ++ (arc_marks count bytes).1) (sym same))

-- ---- the line

abbrev pub wires_line : List (List ℕ) → ℕ × List (List Bool) → List ℕ
wires_line names d = codes "  wire " ++ (items_text gate_item d.0 0 ++ (condition_names (eqb d.0 0) names ++ (matrix_text (length names) d.1 ++ close)))

conditions_first : (first : Bool) (w : List ℕ) (ws : List (List ℕ)) → (r : List ℕ) × (condition_names first (w ∷ ws) ≡ separator first ++ (99 ∷ r))
conditions_first first w ws = (_, ap (joined first) (below_front (λ v. (codes "c_" ++ name_of (w ∷ ws) v) ∷ []) (length ws)))

no_rows : (rows : List (List Bool)) → IsMatrix 0 rows → rows ≡ []
no_rows [] h = refl
no_rows (r ∷ rows) h = absurd h

no_gate : (g : ℕ) (names : List (List ℕ)) (rows : List (List Bool)) → IsMatrix (length names) rows → 0 < g + length names → behind (gate_item (0 + g)) (condition_names (eqb g 0) names ++ (matrix_text (length names) rows ++ close)) ≡ None
no_gate zero [] rows m some = absurd (omega (arith, some))
no_gate zero (w ∷ ws) rows m some =
    let c = conditions_first true w ws in
    none_behind (gate_item (0 + zero)) _ (λ rest e. omega (arith, heads 99 103 _ _ (sym (ap (λ (x : List ℕ). x ++ (matrix_text (length (w ∷ ws)) rows ++ close)) c.1) ∙ e)))
no_gate (suc g) [] rows m some =
    ap (λ (b : Bool). behind (separator b ++ (codes "g" ++ decimal (0 + suc g))) (condition_names (eqb (suc g) 0) [] ++ (matrix_text 0 rows ++ close))) (positive g)
    ∙ ap (λ (x : List (List Bool)). behind (codes ", " ++ (codes "g" ++ decimal (0 + suc g))) (matrix_text 0 x ++ close)) (no_rows rows m)
    ∙ none_behind (codes ", " ++ (codes "g" ++ decimal (0 + suc g))) close (λ rest e. omega (arith, heads 59 44 _ _ e))
  where
    positive : (g : ℕ) → eqb (0 + suc g) 0 ≡ false
    positive g = ne_eqb (0 + suc g) 0 (λ e. omega (arith, e))
no_gate (suc g) (w ∷ ws) rows m some =
    let c = conditions_first false w ws in
    let later : eqb (0 + suc g) 0 ≡ false = ne_eqb (0 + suc g) 0 (λ e. omega (arith, e)) in
    let later_too : eqb (suc g) 0 ≡ false = ne_eqb (suc g) 0 (λ e. omega (arith, e)) in
    ap₂ (λ (b d : Bool). behind (separator b ++ (codes "g" ++ decimal (0 + suc g))) (condition_names d (w ∷ ws) ++ (matrix_text (length (w ∷ ws)) rows ++ close))) later later_too
    ∙ none_behind (codes ", " ++ (codes "g" ++ decimal (0 + suc g))) _ (λ rest e. omega (arith, heads 99 103 _ _ (tails 32 32 _ _ (tails 44 44 _ _ (sym (ap (λ (x : List ℕ). x ++ (matrix_text (length (w ∷ ws)) rows ++ close)) c.1) ∙ e)))))

some_wires : (g count : ℕ) → 0 < g + count → (ltb 0 g || ltb 0 count) ≡ true
some_wires zero count h = lt-ltb 0 count (omega (arith, h))
some_wires (suc g) count h = ap (λ (b : Bool). b || ltb 0 count) (lt-ltb 0 (suc g) (omega arith))

are_some : (g count : ℕ) → (ltb 0 g || ltb 0 count) ≡ true → 0 < g + count
are_some g count h = elim (cases_Bool (ltb 0 g)) [
  | inl l ↦ omega (arith, ltb-true 0 g l)
  | inr n ↦ omega (arith, ltb-true 0 count (other (ltb 0 g) (ltb 0 count) n h))
]
  where
    other : (a b : Bool) → a ≡ false → (a || b) ≡ true → b ≡ true
    other false b p q = q
    other true b p q = absurd cc

closed : (g count : ℕ) (rows : List (List Bool)) → 0 < g + count → wires_from g count (rows, close) ≡ Some (g, rows)
closed g count rows some = ap (λ (b : Bool). cond {A = Option (ℕ × List (List Bool))} (b && true) (Some (g, rows)) None) (some_wires g count some)

wires_again : (inputs : ℕ) (names : List (List ℕ)) (g : ℕ) (rows : List (List Bool)) → length names ≤ 128 → IsWires inputs names (g, rows) → wires_in inputs names (wires_line names (g, rows)) ≡ Some (g, rows)
unfolding wires_in
wires_again inputs names g rows few fits =
    let marks : List ℕ = matrix_text (length names) rows ++ close in
    let more : List ℕ = condition_names (eqb g 0) names ++ marks in
    let first : behind (codes "  wire ") (wires_line names (g, rows)) ≡ Some (items_text gate_item g 0 ++ more) = behind_again (codes "  wire ") (items_text gate_item g 0 ++ more) in
    let ran : run gate_item (gate_room inputs) 0 (items_text gate_item g 0 ++ more) ≡ (0 + g, more) = run_again gate_item (gate_room inputs) 0 g more fits.few (no_gate g names rows fits.matrix fits.some) in
    let zero_more : (0 + g) ≡ g = omega arith in
    let named : behind (condition_names (eqb g 0) names) more ≡ Some marks = behind_again (condition_names (eqb g 0) names) marks in
    ap (λ (o : Option (List ℕ)). o >>=? λ rest. wires_behind names (run gate_item (gate_room inputs) 0 rest)) first
    ∙ ap (wires_behind names) (ran ∙ ap (λ (k : ℕ). so_far k more) zero_more)
    ∙ ap (λ (o : Option (List ℕ)). o >>=? λ rest. wires_from g (length names) (arc_marks (length names) rest)) named
    ∙ ap (wires_from g (length names)) (matrix_again (length names) rows few fits.matrix)
    ∙ closed g (length names) rows fits.some
  where
    so_far : ℕ → List ℕ → ℕ × List ℕ
    so_far k rest = (k, rest)

wires_take : (inputs : ℕ) (names : List (List ℕ)) (line : List ℕ) (d : ℕ × List (List Bool)) → wires_in inputs names line ≡ Some d → IsWires inputs names d × (line ≡ wires_line names d)
unfolding wires_in
wires_take inputs names line d e =
    let a = some_of _ _ d e in
    let ran = run gate_item (gate_room inputs) 0 a.0 in
    let r = run_takes gate_item (gate_room inputs) 0 a.0 in
    let b = some_of (behind (condition_names (eqb ran.0 0) names) ran.1) (λ rest. wires_from ran.0 (length names) (arc_marks (length names) rest)) d a.2 in
    let found = arc_marks (length names) b.0 in
    let m = matrix_takes (length names) b.0 in
    let t = tested ((ltb 0 ran.0 || ltb 0 (length names)) && bytes_eq found.1 close) (ran.0, found.0) d b.2 in
    let both = both_true _ _ t.0 in
    let count : ran.0 ≡ r.count = omega (arith, r.stops) in
    let end : found.1 ≡ close = (bytes_eq-Decides _ _).0 both.1 in
    let fits : IsWires inputs names (ran.0, found.0) = record { few = omega (arith, r.few, count); matrix = m.0; some = are_some ran.0 (length names) both.0 } in
    let marks : b.0 ≡ matrix_text (length names) found.0 ++ close = m.1 ∙ ap (λ (x : List ℕ). matrix_text (length names) found.0 ++ x) end in
    let whole : line ≡ wires_line names (ran.0, found.0) =
    behind_takes (codes "  wire ") line a.0 a.1
    ∙ ap (λ (x : List ℕ). codes "  wire " ++ x) (r.whole ∙ ap₂ (λ (k : ℕ) (x : List ℕ). items_text gate_item k 0 ++ x) (sym count)
    (behind_takes (condition_names (eqb ran.0 0) names) ran.1 b.0 b.1 ∙ ap (λ (x : List ℕ). condition_names (eqb ran.0 0) names ++ x) marks)) in
    subst (λ (y : ℕ × List (List Bool)). IsWires inputs names y × (line ≡ wires_line names y)) t.1 (fits, whole)

pub wires_exact : (inputs : ℕ) (names : List (List ℕ)) → length names ≤ 128 → IsExact (IsWires inputs names) (wires_line names) (wires_in inputs names)
wires_exact inputs names few = record { again = λ d fits. wires_again inputs names d.0 d.1 few fits; takes = λ line d e. wires_take inputs names line d e }

-- what the parts of the line say
pub wires_by : (inputs limit : ℕ) (names : List (List ℕ)) (line rest : List ℕ) (x : ℕ × List ℕ) → behind (codes "  wire ") line ≡ Some rest → limit ≡ gate_room inputs → x ≡ run gate_item limit 0 rest → wires_behind names x ≡ wires_in inputs names line
unfolding wires_in
wires_by inputs limit names line rest x first room ran =
    ap (wires_behind names) (ran ∙ ap (λ (k : ℕ). run gate_item k 0 rest) room) ∙ sym (ap (λ (o : Option (List ℕ)). o >>=? λ r. wires_behind names (run gate_item (gate_room inputs) 0 r)) first)
