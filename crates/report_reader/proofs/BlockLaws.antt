-- The scenarios of a report are read exactly, row by row.
use Rattle.std.proofs.Common.{lit<, ◌≡◌, ℕ, zero, suc, ◌<◌, ◌≤◌, ◌+◌, ◌^◌, Bool, true, false, cond, eqb, List, [], ◌∷◌, ◌++◌, length, Option, Some, None, Result, Ok, Err, refl, sym, ap, subst, ◌∙◌, arith, length-append}
use Rattle.std.specs.Prelude.{codes, is_some, replicate}
use Rattle.std.specs.FinSet as set
use Rattle.std.specs.Ordering.{nat_cmp}
use Rattle.std.proofs.lemmas.Bool.{both_ways}
use Rattle.cpog_defs.specs.declared.types.Bit3.{Bit3}
use Rattle.cpog_defs.specs.declared.types.Bit3.TheVariants as bits
use Rattle.cpog_defs.specs.declared.types.OpId.{OpId}
use Rattle.cpog_defs.specs.Orders.{Set}
use Rattle.line_text.specs.Words.{is_free_name}
use Rattle.report_text.specs.Report.{IsReported}
use Rattle.report_text.specs.Rows.{digits_of, given_text, scenario_row, has_row, arcs_row, gates_row}
use Rattle.line_rows.specs.Position.{Position}
use Rattle.line_rows.specs.Words.{behind, behind_of, pair_of}
use Rattle.line_rows.specs.Reading.{◌>>=◌, line_at, read_or_fault, row, then_of, view_of, lines_many}
use Rattle.line_rows.specs.Either.{until_of}
use Rattle.line_rows.proofs.Exact.{IsExact, IsWord, exact-behind, exact-pair, number_exact, behind_again, tested, both_true}
use Rattle.line_rows.proofs.RowLaws.{at, IsRows, rows-row, rows-then, rows-view}
use Rattle.line_rows.proofs.EitherLaws.{Begun}
use Rattle.line_rows.proofs.UntilLaws.{FitsUntil, rows-until}
use Rattle.report_reader.specs.Reading.{is_next}
use Rattle.report_reader.specs.Operations.{has_in, arcs_in}
use Rattle.report_reader.specs.Scenarios.{name_in, code_in, label_in, Block, block_of, block_behind, block_at, is_label, gate_bound, gates_in, with_name, blocks_at, scenarios_at, FitsBlock, block_lines}
use Rattle.report_reader.proofs.NameLaws.{word_plain}
use Rattle.report_reader.proofs.CodeLaws.{code_exact}
use Rattle.report_reader.proofs.OperationLaws.{AreKnown, FitsHas, FitsArcs, no_pair, has_exact, arcs_exact}
use Rattle.report_reader.proofs.ScenarioLaws.{reported, has_fits, fits_arcs}
use Rattle.report_reader.proofs.FreshLaws.{fresh_name}

-- ---- the first line of a scenario

abbrev IsNew : List (List ℕ) → List ℕ → Type 0
IsNew done w = is_next 64 done w ≡ true

abbrev itself : List ℕ → List ℕ
itself w = w

name_exact : (done : List (List ℕ)) → IsExact (IsNew done) itself (name_in done)
name_exact done = record {
  again = λ w h. rw h refl;
  takes = λ bytes w e. let t = tested (is_next 64 done bytes) bytes w e in (subst (IsNew done) t.1 t.0, t.1);
}

name_word : (done : List (List ℕ)) → IsWord (IsNew done) itself
name_word done = record { no_blank = λ w h. word_plain w (both_true (is_free_name w) _ h).0 }

abbrev Label : Type 0
Label = List ℕ × (ℕ × List Bit3)

abbrev FitsLabel : ℕ → List (List ℕ) → Label → Type 0
FitsLabel bits done x = IsNew done x.0 × ((x.1.0 < 2 ^ bits) × (length x.1.1 ≡ bits))

abbrev label_text : ℕ → Label → List ℕ
label_text bits x = codes "scenario " ++ (x.0 ++ 32 ∷ (digits_of bits x.1.0 ++ given_text x.1.1))

coded : (bits : ℕ) → IsExact (λ (p : ℕ × List Bit3). (p.0 < 2 ^ bits) × (length p.1 ≡ bits)) (λ p. digits_of bits p.0 ++ given_text p.1) (code_in bits)
unfolding code_in
coded bits = code_exact bits

label_exact : (bits : ℕ) (done : List (List ℕ)) → IsExact (FitsLabel bits done) (label_text bits) (label_in bits done)
unfolding label_in
label_exact bits done = exact-behind (codes "scenario ") (exact-pair (name_exact done) (name_word done) (λ _ _. coded bits))

some_pow : (n : ℕ) → 0 < 2 ^ n
some_pow zero = omega arith
some_pow (suc n) = let h = some_pow n in omega (arith, h)

so_many : (n : ℕ) → length (replicate n bits.Free) ≡ n
so_many zero = refl
so_many (suc n) = ap suc (so_many n)

some_label : (width : ℕ) (done : List (List ℕ)) → length done < 64 → (x : Label) × FitsLabel width done x
some_label width done few = let w = fresh_name done few in ((w.0, (0, replicate width bits.Free)), (w.1, (some_pow width, so_many width)))

-- ---- a scenario

abbrev three : {A B C D : Type 0} → (A → B → Position → Result (C × Position) ℕ) → (A → B → C → D) → Result (A × Position) ℕ → (A → Position → Result (B × Position) ℕ) → Result (D × Position) ℕ
three t make r s = r >>= λ x. s x.0 x.1 >>= λ y. t x.0 y.0 y.1 >>= λ z. Ok (make x.0 y.0 z.0, z.1)

abbrev then_with : {A B : Type 0} → Result (A × Position) ℕ → (A → Position → Result (B × Position) ℕ) → Result ((A × B) × Position) ℕ
then_with r more = r >>= λ x. more x.0 x.1 >>= λ y. Ok ((x.0, y.0), y.1)

abbrev view_with : {A B : Type 0} → (A → B) → Result (A × Position) ℕ → Result (B × Position) ℕ
view_with make r = r >>= λ x. Ok (make x.0, x.1)

-- rows that are read one behind another, and what is made of them at once
module _ {L A B C D : Type 0} (f : L → Position → Result (A × Position) ℕ) (s : A → Position → Result (B × Position) ℕ) (t : A → B → Position → Result (C × Position) ℕ) (make : A → B → C → D) where
  abbrev all_made : A × (B × C) → D
  all_made x = make x.0 x.1.0 x.1.1

  third : (a : A) (b : B) (c : Result (C × Position) ℕ) → (c >>= λ z. Ok (make a b z.0, z.1)) ≡ view_with all_made (view_with (λ y. (a, y)) (view_with (λ z. (b, z)) c))
  third a b (Err k) = refl
  third a b (Ok z) = refl

  second : (a : A) (b : Result (B × Position) ℕ) → (b >>= λ y. t a y.0 y.1 >>= λ z. Ok (make a y.0 z.0, z.1)) ≡ view_with all_made (view_with (λ y. (a, y)) (then_with b (t a)))
  second a (Err k) = refl
  second a (Ok y) = third a y.0 (t a y.0 y.1)

  first : (a : Result (A × Position) ℕ) → three t make a s ≡ view_with all_made (then_with a (λ a p. then_with (s a p) (t a)))
  first (Err k) = refl
  first (Ok a) = second a.0 (s a.0 a.1)

  one_by_one : (l : Result (L × Position) ℕ) → (l >>= λ x. three t make (f x.0 x.1) s) ≡ view_with all_made (then_with (l >>= λ x. f x.0 x.1) (λ a p. then_with (s a p) (t a)))
  one_by_one (Err k) = refl
  one_by_one (Ok x) = first (f x.0 x.1)

module _ (width : ℕ) (names : List (List ℕ)) (known : AreKnown names) where
  abbrev Parts : Type 0
  Parts = Label × (Set × List (OpId × OpId))

  abbrev made : Parts → Block
  made x = block_of (length names) x.0 x.1.0 x.1.1

  abbrev PartsFit : List (List ℕ) → Parts → Type 0
  PartsFit done x = FitsLabel width done x.0 × (FitsHas names known x.1.0 × FitsArcs names known x.1.0 (no_pair names known) x.1.1)

  abbrev reader : List (List ℕ) → Position → Result (Parts × Position) ℕ
  reader done = then_of (row (label_in width done)) (λ _. then_of (row (has_in names)) (λ ops. row (arcs_in names ops)))

  same_reader : (done : List (List ℕ)) (p : Position) → view_of made (reader done) p ≡ block_at width names done p
  unfolding block_behind
  same_reader done p = sym (one_by_one (λ l. read_or_fault (label_in width done l)) (λ _. row (has_in names)) (λ _ ops. row (arcs_in names ops)) (block_of (length names)) (line_at p))

  abbrev text : Block → List (List ℕ)
  text = block_lines width names

  pub block_rows : (done : List (List ℕ)) → length done < 64 → IsRows (FitsBlock width names done) text (block_at width names done)
  block_rows done few =
      subst (IsRows (FitsBlock width names done) text) (λ i p. same_reader done p i)
      (rows-view made (FitsBlock width names done) text
      (rows-then (rows-row (label_exact width done) (some_label width done few)) (λ _ _. rows-then (rows-row (has_exact names known) (set.empty, λ q h. absurd (both_ways (set.contains (set.empty {R = nat_cmp}) q) (set.contains-empty nat_cmp q) h))) (λ ops below. rows-row (arcs_exact names known ops below) ([], tt))))
      from to)
    where
      from : (b : Block) → FitsBlock width names done b → (x : Parts) × PartsFit done x × (text b ≡ (label_text width x.0 ∷ []) ++ ((has_row names (made x).scenario ∷ []) ++ (arcs_row names (made x).scenario ∷ []))) × (made x ≡ b)
      from b h =
          let count = h.scenario.count_is in (
            ((b.name, (b.code, b.pattern)), (b.scenario.ops, b.scenario.arcs)),
            ((h.next, (h.code, h.pattern)), (has_fits names known b.scenario h.scenario, fits_arcs names known b.scenario h.scenario)),
            ap (λ (n : ℕ). text (record { name = b.name; code = b.code; pattern = b.pattern; scenario = record { count = n; ops = b.scenario.ops; arcs = b.scenario.arcs } })) count,
            ap (λ (n : ℕ). record { name = b.name; code = b.code; pattern = b.pattern; scenario = record { count = n; ops = b.scenario.ops; arcs = b.scenario.arcs } }) (sym count),
          )

      to : (x : Parts) → PartsFit done x → FitsBlock width names done (made x) × (text (made x) ≡ (label_text width x.0 ∷ []) ++ ((has_row names (made x).scenario ∷ []) ++ (arcs_row names (made x).scenario ∷ [])))
      to x h = (record { next = h.0.0; code = h.0.1.0; pattern = h.0.1.1; scenario = reported names known x.1.0 x.1.1 h.1.0 h.1.1 }, refl)

  -- ---- up to the number of gates

  bound_small : (n : ℕ) → gate_bound n ≤ 65536
  bound_small n = grind arith

  bound_some : (n : ℕ) → 0 < gate_bound n
  bound_some n = grind arith

  abbrev FewGates : ℕ → Type 0
  FewGates n = n < gate_bound width

  abbrev count_lines : ℕ → List (List ℕ)
  count_lines n = gates_row n ∷ []

  count_exact : IsExact FewGates gates_row (gates_in width)
  unfolding gates_in
  count_exact = exact-behind (codes "gates ") (number_exact (gate_bound width) (omega (arith, bound_small width)))

  count_rows : IsRows FewGates count_lines (row (gates_in width))
  count_rows = rows-row count_exact (0, bound_some width)

  begins_label : (x : List ℕ) → is_label (codes "scenario " ++ x) ≡ true
  begins_label x = rw (behind_again (codes "scenario ") x) refl

  no_label : (x : List ℕ) → is_label (codes "gates " ++ x) ≡ false
  unfolding behind
  no_label x = refl

  abbrev Few : ℕ → List (List ℕ) → Type 0
  Few n done = length done + n ≤ 64

  abbrev pub FitsBlocks : ℕ → List (List ℕ) → List Block × ℕ → Type 0
  FitsBlocks n done x = FitsUntil (FitsBlock width names) with_name FewGates n done x.0 x.1

  abbrev pub blocks_lines : List (List ℕ) → List Block × ℕ → List (List ℕ)
  blocks_lines done x = lines_many (λ _ b. text b) with_name done x.0 ++ count_lines x.1

  pub blocks_rows : (n : ℕ) (done : List (List ℕ)) → length done + n ≤ 64 → IsRows (FitsBlocks n done) (blocks_lines done) (blocks_at width names n done)
  blocks_rows = rows-until (FitsBlock width names) (λ _ b. text b) with_name (block_at width names) FewGates count_lines (row (gates_in width)) is_label
      Few
      (λ n done few. block_rows done (omega (arith, few)))
      (λ n done few. record { starts = λ b h. (scenario_row width b.name b.code b.pattern, has_row names b.scenario ∷ arcs_row names b.scenario ∷ [], refl, begins_label _) })
      (λ n done b few h. omega (arith, few, length-append done (b.name ∷ [])))
      count_rows
      (record { starts = λ n h. (gates_row n, [], refl, no_label _) })

  abbrev pub FitsScenarios : Block × (List Block × ℕ) → Type 0
  FitsScenarios x = FitsBlock width names [] x.0 × FitsBlocks 63 (x.0.name ∷ []) x.1

  pub scenarios_rows : IsRows FitsScenarios (λ x. text x.0 ++ blocks_lines (x.0.name ∷ []) x.1) (scenarios_at width names)
  scenarios_rows = rows-then (block_rows [] (omega arith)) (λ b h. blocks_rows 63 (b.name ∷ []) (omega arith))
