-- The loop over scenarios: what it has read, and what is left to read.
use Rattle.std.proofs.Common.{◌≡◌, ℕ, zero, suc, ◌+◌, ◌-◌, ◌<◌, Bool, true, false, List, [], ◌∷◌, ◌++◌, length, Option, Some, None, Result, Ok, Err, refl, sym, ap, subst, ◌∙◌, arith}
use Rattle.cpog_defs.specs.declared.types.Bit3.{Bit3}
use Rattle.cpog_defs.specs.declared.types.OpId.{OpId}
use Rattle.cpog_defs.specs.Orders.{Set}
use Rattle.line_rows.specs.Position.{Position}
use Rattle.line_rows.specs.Words.{◌>>=?◌}
use Rattle.line_rows.specs.declared.fault.ReadError.{ReadError}
use Rattle.line_rows.specs.declared.fault.ReadError.TheVariants as errors
use Rattle.line_rows.specs.Reading.{◌>>=◌, line_among, line_at, read_or_fault, row, then_of, view_of, Fails, Gives}
use Rattle.line_rows.specs.Either.{fork, until_of, none_before, one_before}
use Rattle.line_rows.proofs.RowLaws.{at, ok_is, err_is}
use Rattle.report_reader.specs.Operations.{has_in, arcs_in}
use Rattle.report_reader.specs.Scenarios.{label_in, Block, block_of, block_behind, block_at, is_label, gates_in, with_name, blocks_at, scenarios_at, Columns, with_block, all_blocks, no_columns, behind_columns, columns_from, columns_at, named_label, with_parts, add_at, others_at, count_at, count_in}

module _ (bits : ℕ) (names : List (List ℕ)) where
  abbrev Label : Type 0
  Label = List ℕ × (ℕ × List Bit3)

  -- ---- a scenario more

  abbrev block_then : Columns → Result (Block × Position) ℕ → Result (Columns × Position) ℕ
  block_then c r = r >>= λ b. Ok (with_block c b.0, b.1)

  arcs_same : (c : Columns) (x : Label) (ops : Set) (r : Result (List (OpId × OpId) × Position) ℕ) → (r >>= λ z. Ok (with_parts (length names) c (c.names ++ x.0 ∷ [], x.1) ops z.0, z.1)) ≡ block_then c (r >>= λ z. Ok (block_of (length names) x ops z.0, z.1))
  arcs_same c x ops (Err k) = refl
  arcs_same c x ops (Ok z) = refl

  has_same : (c : Columns) (x : Label) (r : Result (Set × Position) ℕ)
      → (r >>= λ y. row (arcs_in names y.0) y.1 >>= λ z. Ok (with_parts (length names) c (c.names ++ x.0 ∷ [], x.1) y.0 z.0, z.1)) ≡ block_then c (r >>= λ y. row (arcs_in names y.0) y.1 >>= λ z. Ok (block_of (length names) x y.0 z.0, z.1))
  has_same c x (Err k) = refl
  has_same c x (Ok y) = arcs_same c x y.0 (row (arcs_in names y.0) y.1)

  label_same : (c : Columns) (o : Option Label) (p : Position)
      → (read_or_fault (o >>=? λ x. Some (c.names ++ x.0 ∷ [], x.1)) p >>= λ x. row (has_in names) x.1 >>= λ y. row (arcs_in names y.0) y.1 >>= λ z. Ok (with_parts (length names) c x.0 y.0 z.0, z.1))
      ≡ block_then c (read_or_fault o p >>= λ x. row (has_in names) x.1 >>= λ y. row (arcs_in names y.0) y.1 >>= λ z. Ok (block_of (length names) x.0 y.0 z.0, z.1))
  label_same c None p = refl
  label_same c (Some x) p = has_same c x (row (has_in names) p)

  pub add_is_block : (c : Columns) (line : List ℕ) (p : Position) → add_at bits names c line p ≡ block_then c (block_behind bits names c.names line p)
  unfolding add_at named_label block_behind
  add_is_block c line p = label_same c (label_in bits c.names line) p

  -- ---- others

  abbrev then_with : {A B : Type 0} → Result (A × Position) ℕ → (A → Position → Result (B × Position) ℕ) → Result ((A × B) × Position) ℕ
  then_with r more = r >>= λ x. more x.0 x.1 >>= λ y. Ok ((x.0, y.0), y.1)

  abbrev view_with : {A B : Type 0} → (A → B) → Result (A × Position) ℕ → Result (B × Position) ℕ
  view_with make r = r >>= λ x. Ok (make x.0, x.1)

  abbrev pub next_others : ℕ → Result (Columns × Position) ℕ → Result ((Columns × ℕ) × Position) ℕ
  next_others n r = r >>= λ c. others_at bits names c.0 n c.1

  abbrev Rest : Type 0
  Rest = Result ((List Block × ℕ) × Position) ℕ

  abbrev behind_them : Columns → Rest → Result ((Columns × ℕ) × Position) ℕ
  behind_them c r = r >>= λ x. Ok (behind_columns c x.0, x.1)

  line_is : (p q : Position) (l : List ℕ) → line_at p ≡ Ok (l, q) → p ≡ at (l ∷ q.lines) p.number
  line_is p q l e = ap (λ (ls : List (List ℕ)). at ls p.number) (lines p.lines p.number q l e)
    where
      lines : (ls : List (List ℕ)) (n : ℕ) (q : Position) (l : List ℕ) → line_among ls n ≡ Ok (l, q) → ls ≡ l ∷ q.lines
      lines [] n q l e = absurd cc
      lines (m ∷ ms) n q l e = ap (λ (x : List ℕ × Position). x.0 ∷ x.1.lines) (ok_is (m, at ms (n + 1)) (l, q) e)

  after_is : (ls : List (List ℕ)) (n : ℕ) (q : Position) (l : List ℕ) → line_at (at (l ∷ ls) n) ≡ Ok (l, q) → at ls (n + 1) ≡ q
  after_is ls n q l e = ap (λ (x : List ℕ × Position). x.1) (ok_is (l, at ls (n + 1)) (l, q) e)

  last_here : (c : Columns) (r : Result (ℕ × Position) ℕ) → behind_them c (r >>= λ x. Ok (none_before x.0, x.1)) ≡ (r >>= λ x. Ok ((c, x.0), x.1))
  last_here c (Err k) = refl
  last_here c (Ok x) = refl

  row_here : (p q : Position) (l : List ℕ) → line_at p ≡ Ok (l, q) → row (gates_in bits) p ≡ read_or_fault (gates_in bits l) q
  row_here p q l e = rw e refl

  pub others_last : (c : Columns) (p q : Position) (l : List ℕ) → line_at p ≡ Ok (l, q) → others_at bits names c 0 p ≡ count_at bits c l q
  unfolding others_at
  others_last c p q l e = last_here c (row (gates_in bits) p) ∙ ap (λ (r : Result (ℕ × Position) ℕ). r >>= λ x. Ok ((c, x.0), x.1)) (row_here p q l e)

  fork_here : (c : Columns) (n : ℕ) (p q : Position) (l : List ℕ) (b : Bool) → line_at p ≡ Ok (l, q) → is_label l ≡ b
      → blocks_at bits names (suc n) c.names p ≡ fork b (view_of one_before (then_of (block_at bits names c.names) (λ a. blocks_at bits names n (with_name c.names a)))) (view_of none_before (row (gates_in bits))) p
  fork_here c n p q l b e h =
      let is = line_is p q l e in
      let first = view_of one_before (then_of (block_at bits names c.names) (λ a. blocks_at bits names n (with_name c.names a))) in
      let second = view_of none_before (row (gates_in bits)) in
      let there : blocks_at bits names (suc n) c.names (at (l ∷ q.lines) p.number) ≡ fork b first second (at (l ∷ q.lines) p.number) = ap (λ (x : Bool). fork x first second (at (l ∷ q.lines) p.number)) h in
      ap (blocks_at bits names (suc n) c.names) is ∙ there ∙ ap (fork b first second) (sym is)

  pub others_end : (c : Columns) (n : ℕ) (p q : Position) (l : List ℕ) → line_at p ≡ Ok (l, q) → is_label l ≡ false → others_at bits names c (suc n) p ≡ count_at bits c l q
  unfolding others_at
  others_end c n p q l e h =
      ap (behind_them c) (fork_here c n p q l false e h)
      ∙ last_here c (row (gates_in bits) p) ∙ ap (λ (r : Result (ℕ × Position) ℕ). r >>= λ x. Ok ((c, x.0), x.1)) (row_here p q l e)

  rest_same : (c : Columns) (b : Block) (r : Rest) → behind_them c (view_with one_before (view_with (λ y. (b, y)) r)) ≡ behind_them (with_block c b) r
  rest_same c b (Err k) = refl
  rest_same c b (Ok y) = refl

  block_same : (c : Columns) (n : ℕ) (r : Result (Block × Position) ℕ)
      → behind_them c (view_with one_before (then_with r (λ b. blocks_at bits names n (with_name c.names b)))) ≡ next_others n (block_then c r)
  unfolding others_at
  block_same c n (Err k) = refl
  block_same c n (Ok b) = rest_same c b.0 (blocks_at bits names n (with_name c.names b.0) b.1)

  block_here : (c : Columns) (p q : Position) (l : List ℕ) → line_at p ≡ Ok (l, q) → block_at bits names c.names p ≡ block_behind bits names c.names l q
  block_here c p q l e = rw e refl

  pub others_more : (c : Columns) (n : ℕ) (p q : Position) (l : List ℕ) → line_at p ≡ Ok (l, q) → is_label l ≡ true → others_at bits names c (suc n) p ≡ next_others n (add_at bits names c l q)
  unfolding others_at
  others_more c n p q l e h =
      ap (behind_them c) (fork_here c n p q l true e h)
      ∙ block_same c n (block_at bits names c.names p)
      ∙ ap (λ (r : Result (Block × Position) ℕ). next_others n (block_then c r)) (block_here c p q l e)
      ∙ ap (next_others n) (sym (add_is_block c l q))

  none_line : (e : ReadError) (r : Result (List ℕ × Position) ℕ) (f : List ℕ × Position → Result ((Columns × ℕ) × Position) ℕ) → Fails e r → Fails e (r >>= f)
  none_line errors.Memory r f h = tt
  none_line (errors.BadLine k) r f h = rw h refl

  -- the line is missing
  pub others_none : (e : ReadError) (c : Columns) (n : ℕ) (p : Position) → Fails e (line_at p) → Fails e (others_at bits names c n p)
  unfolding others_at
  others_none errors.Memory c n p h = tt
  others_none (errors.BadLine k) c zero p h = rw h refl
  others_none (errors.BadLine k) c (suc n) p h = none_among p.lines p.number h
    where
      none_among : (ls : List (List ℕ)) (m : ℕ) → line_at (at ls m) ≡ Err k → behind_them c (blocks_at bits names (suc n) c.names (at ls m)) ≡ Err k
      none_among [] m h = ap (λ (j : ℕ). Err j) (err_is (m + 1) k h)
      none_among (l ∷ ls) m h = absurd cc

  pub more_fails : (e : ReadError) (n : ℕ) (r : Result (Columns × Position) ℕ) → Fails e r → Fails e (next_others n r)
  more_fails errors.Memory n r h = tt
  more_fails (errors.BadLine k) n r h = rw h refl

  abbrev pub counted : Columns → Position → ℕ → (Columns × ℕ) × Position
  counted c q n = ((c, n), q)

  -- the number of gates
  pub count_gives : (c : Columns) (q : Position) (l : List ℕ) (r : Result ℕ ReadError) → Gives (λ n. n) r (count_in bits l q) → Gives (counted c q) r (count_at bits c l q)
  count_gives c q l r given = step (gates_in bits l) r given
    where
      step : (o : Option ℕ) (r : Result ℕ ReadError) → Gives (λ n. n) r (read_or_fault o q >>= λ x. Ok x.0) → Gives (counted c q) r (read_or_fault o q >>= λ x. Ok ((c, x.0), x.1))
      step None (Ok n) h = absurd cc
      step (Some m) (Ok n) h = ap (λ (k : ℕ). Ok (counted c q k)) (ok_is m n h)
      step o (Err errors.Memory) h = tt
      step None (Err (errors.BadLine k)) h = ap (λ (j : ℕ). Err j) (err_is q.number k h)
      step (Some m) (Err (errors.BadLine k)) h = absurd cc

  -- ---- all of them

  others_follow : (b : Block) (r : Rest) → view_with columns_from (r >>= λ y. Ok ((b, y.0), y.1)) ≡ behind_them (with_block no_columns b) r
  others_follow b (Err k) = refl
  others_follow b (Ok y) = refl

  one_follows : (r : Result (Block × Position) ℕ) → view_with columns_from (then_with r (λ b. blocks_at bits names 63 (b.name ∷ []))) ≡ next_others 63 (block_then no_columns r)
  unfolding others_at
  one_follows (Err k) = refl
  one_follows (Ok b) = others_follow b.0 (blocks_at bits names 63 (b.0.name ∷ []) b.1)

  columns_follow : (r : Result (List ℕ × Position) ℕ) → view_with columns_from (then_with (r >>= λ l. block_behind bits names [] l.0 l.1) (λ b. blocks_at bits names 63 (b.name ∷ []))) ≡ (r >>= λ l. next_others 63 (add_at bits names no_columns l.0 l.1))
  columns_follow (Err k) = refl
  columns_follow (Ok l) = one_follows (block_behind bits names [] l.0 l.1) ∙ ap (next_others 63) (sym (add_is_block no_columns l.0 l.1))

  pub columns_are : (p : Position) → view_of columns_from (scenarios_at bits names) p ≡ columns_at bits names p
  unfolding columns_at
  columns_are p = columns_follow (line_at p)
