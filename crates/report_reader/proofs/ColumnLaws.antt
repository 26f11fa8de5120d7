-- Scenarios one after another, and each kind of part for itself.
use Rattle.std.proofs.Common.{◌≡◌, ℕ, zero, suc, ◌<◌, ◌≤◌, ◌+◌, ◌-◌, ◌^◌, true, List, [], ◌∷◌, ◌++◌, length, map, drop, get_or, refl, sym, ap, ap₂, subst, ◌∙◌, arith, append_assoc}
use Rattle.std.specs.Prelude.{slice_index, slice_index_or}
use Rattle.std.specs.List.{AllByRecursion}
use Rattle.std.specs.FinSet as set
use Rattle.std.proofs.lemmas.List.{append-nil}
use Rattle.cpog_defs.specs.declared.types.Bit3.{Bit3}
use Rattle.cpog_defs.specs.Orders.{each_below}
use Rattle.cpog_defs.specs.Scenarios.{Scenario}
use Rattle.netlist_verilog.specs.Wires.{name_of}
use Rattle.report_text.specs.Report.{IsReported}
use Rattle.report_text.specs.Rows.{scenario_row, has_row, arcs_row}
use Rattle.line_rows.specs.Reading.{lines_many}
use Rattle.line_rows.proofs.UntilLaws.{FitsUntil}
use Rattle.report_reader.specs.Reading.{AreNext}
use Rattle.report_reader.specs.Scenarios.{Block, FitsBlock, block_lines, Columns, with_block, all_blocks, with_name}
use Rattle.report_reader.proofs.OperationLaws.{below_front}

abbrev pub block_names : List Block → List (List ℕ)
block_names = map (λ b. b.name)

abbrev pub block_codes : List Block → List ℕ
block_codes = map (λ b. b.code)

abbrev pub block_patterns : List Block → List (List Bit3)
block_patterns = map (λ b. b.pattern)

abbrev pub block_scenarios : List Block → List Scenario
block_scenarios = map (λ b. b.scenario)

abbrev pub columns_behind : Columns → List Block → Columns
columns_behind c bs = record { names = c.names ++ block_names bs; codes = c.codes ++ block_codes bs; patterns = c.patterns ++ block_patterns bs; scenarios = c.scenarios ++ block_scenarios bs }

same_columns : (c d : Columns) → c.names ≡ d.names → c.codes ≡ d.codes → c.patterns ≡ d.patterns → c.scenarios ≡ d.scenarios → c ≡ d
same_columns c d n k p s = λ i. record { names = n i; codes = k i; patterns = p i; scenarios = s i }

pub columns_are_maps : (c : Columns) (bs : List Block) → all_blocks c bs ≡ columns_behind c bs
columns_are_maps c [] = same_columns c (columns_behind c []) (sym (append-nil c.names)) (sym (append-nil c.codes)) (sym (append-nil c.patterns)) (sym (append-nil c.scenarios))
columns_are_maps c (b ∷ bs) =
    columns_are_maps (with_block c b) bs
    ∙ same_columns (columns_behind (with_block c b) bs) (columns_behind c (b ∷ bs)) (append_assoc c.names (b.name ∷ []) (block_names bs)) (append_assoc c.codes (b.code ∷ []) (block_codes bs))
    (append_assoc c.patterns (b.pattern ∷ []) (block_patterns bs)) (append_assoc c.scenarios (b.scenario ∷ []) (block_scenarios bs))

-- ---- their lines

abbrev pub scene_at : ℕ → List (List ℕ) → List (List ℕ) → List ℕ → List (List Bit3) → List Scenario → ℕ → List (List ℕ)
scene_at width names ns cs ps ss s =
    let sc = slice_index_or ss s (record { count = 0; ops = set.empty; arcs = [] }) in
    scenario_row width (name_of ns s) (slice_index cs s) (slice_index_or ps s []) ∷ has_row names sc ∷ arcs_row names sc ∷ []

pub scenes_written : (width : ℕ) (names : List (List ℕ)) (done : List (List ℕ)) (bs : List Block)
    → each_below (scene_at width names (block_names bs) (block_codes bs) (block_patterns bs) (block_scenarios bs)) (length (block_scenarios bs)) ≡ lines_many (λ _ b. block_lines width names b) with_name done bs
scenes_written width names done [] = refl
scenes_written width names done (b ∷ bs) =
    below_front (scene_at width names (block_names (b ∷ bs)) (block_codes (b ∷ bs)) (block_patterns (b ∷ bs)) (block_scenarios (b ∷ bs))) (length (block_scenarios bs))
    ∙ ap (λ (ls : List (List ℕ)). block_lines width names b ++ ls) (scenes_written width names (with_name done b) bs)

pub lengths_same : {X Y : Type 0} (f : X → Y) (xs : List X) → length (map f xs) ≡ length xs
lengths_same f [] = refl
lengths_same f (x ∷ xs) = ap suc (lengths_same f xs)

-- ---- what holds of them

module _ (width : ℕ) (names : List (List ℕ)) (L : ℕ → Type 0) where
  abbrev Fits : ℕ → List (List ℕ) → List Block → ℕ → Type 0
  Fits = FitsUntil (FitsBlock width names) with_name L

  pub fits_next : (n : ℕ) (done : List (List ℕ)) (bs : List Block) (e : ℕ) → Fits n done bs e → AreNext 64 done (block_names bs)
  fits_next n done [] e h = tt
  fits_next zero done (b ∷ bs) e h = absurd h
  fits_next (suc n) done (b ∷ bs) e h = (h.0.next, fits_next n (with_name done b) bs e h.1)

  pub fits_few : (n : ℕ) (done : List (List ℕ)) (bs : List Block) (e : ℕ) → Fits n done bs e → length bs ≤ n
  fits_few n done [] e h = omega arith
  fits_few zero done (b ∷ bs) e h = absurd h
  fits_few (suc n) done (b ∷ bs) e h = let le = fits_few n (with_name done b) bs e h.1 in omega (arith, le)

  pub fits_end : (n : ℕ) (done : List (List ℕ)) (bs : List Block) (e : ℕ) → Fits n done bs e → L e
  fits_end n done [] e h = h
  fits_end zero done (b ∷ bs) e h = absurd h
  fits_end (suc n) done (b ∷ bs) e h = fits_end n (with_name done b) bs e h.1

  pub fits_codes : (n : ℕ) (done : List (List ℕ)) (bs : List Block) (e : ℕ) → Fits n done bs e → AllByRecursion (λ w. w < 2 ^ width) (block_codes bs)
  fits_codes n done [] e h = tt
  fits_codes zero done (b ∷ bs) e h = absurd h
  fits_codes (suc n) done (b ∷ bs) e h = (h.0.code, fits_codes n (with_name done b) bs e h.1)

  pub fits_patterns : (n : ℕ) (done : List (List ℕ)) (bs : List Block) (e : ℕ) → Fits n done bs e → AllByRecursion (λ p. length p ≡ width) (block_patterns bs)
  fits_patterns n done [] e h = tt
  fits_patterns zero done (b ∷ bs) e h = absurd h
  fits_patterns (suc n) done (b ∷ bs) e h = (h.0.pattern, fits_patterns n (with_name done b) bs e h.1)

  pub fits_scenarios : (n : ℕ) (done : List (List ℕ)) (bs : List Block) (e : ℕ) → Fits n done bs e → AllByRecursion (IsReported (length names)) (block_scenarios bs)
  fits_scenarios n done [] e h = tt
  fits_scenarios zero done (b ∷ bs) e h = absurd h
  fits_scenarios (suc n) done (b ∷ bs) e h = (h.0.scenario, fits_scenarios n (with_name done b) bs e h.1)

  pub fits_from : (n : ℕ) (done : List (List ℕ)) (bs : List Block) (e : ℕ) → AreNext 64 done (block_names bs) → AllByRecursion (λ w. w < 2 ^ width) (block_codes bs) → AllByRecursion (λ p. length p ≡ width) (block_patterns bs)
      → AllByRecursion (IsReported (length names)) (block_scenarios bs) → length bs ≤ n → L e → Fits n done bs e
  fits_from n done [] e next cs ps ss few l = l
  fits_from zero done (b ∷ bs) e next cs ps ss few l = absurd (omega (arith, few))
  fits_from (suc n) done (b ∷ bs) e next cs ps ss few l =
      (record { next = next.0; code = cs.0; pattern = ps.0; scenario = ss.0 }, fits_from n (with_name done b) bs e next.1 cs.1 ps.1 ss.1 (omega (arith, few)) l)

-- ---- scenarios of columns

abbrev pub blocks_of : List Scenario → List (List ℕ) → List ℕ → List (List Bit3) → List Block
blocks_of [] ns cs ps = []
blocks_of (s ∷ ss) ns cs ps = record { name = get_or ns 0 []; code = get_or cs 0 0; pattern = get_or ps 0 []; scenario = s } ∷ blocks_of ss (drop 1 ns) (drop 1 cs) (drop 1 ps)

pub their_scenarios : (ss : List Scenario) (ns : List (List ℕ)) (cs : List ℕ) (ps : List (List Bit3)) → block_scenarios (blocks_of ss ns cs ps) ≡ ss
their_scenarios [] ns cs ps = refl
their_scenarios (s ∷ ss) ns cs ps = ap (λ (xs : List Scenario). s ∷ xs) (their_scenarios ss (drop 1 ns) (drop 1 cs) (drop 1 ps))

pub their_names : (ss : List Scenario) (ns : List (List ℕ)) (cs : List ℕ) (ps : List (List Bit3)) → length ns ≡ length ss → block_names (blocks_of ss ns cs ps) ≡ ns
their_names [] [] cs ps len = refl
their_names [] (n ∷ ns) cs ps len = absurd (omega (arith, len))
their_names (s ∷ ss) [] cs ps len = absurd (omega (arith, len))
their_names (s ∷ ss) (n ∷ ns) cs ps len = ap (λ (xs : List (List ℕ)). n ∷ xs) (their_names ss ns (drop 1 cs) (drop 1 ps) (omega (arith, len)))

pub their_codes : (ss : List Scenario) (ns : List (List ℕ)) (cs : List ℕ) (ps : List (List Bit3)) → length cs ≡ length ss → block_codes (blocks_of ss ns cs ps) ≡ cs
their_codes [] ns [] ps len = refl
their_codes [] ns (c ∷ cs) ps len = absurd (omega (arith, len))
their_codes (s ∷ ss) ns [] ps len = absurd (omega (arith, len))
their_codes (s ∷ ss) ns (c ∷ cs) ps len = ap (λ (xs : List ℕ). c ∷ xs) (their_codes ss (drop 1 ns) cs (drop 1 ps) (omega (arith, len)))

pub their_patterns : (ss : List Scenario) (ns : List (List ℕ)) (cs : List ℕ) (ps : List (List Bit3)) → length ps ≡ length ss → block_patterns (blocks_of ss ns cs ps) ≡ ps
their_patterns [] ns cs [] len = refl
their_patterns [] ns cs (p ∷ ps) len = absurd (omega (arith, len))
their_patterns (s ∷ ss) ns cs [] len = absurd (omega (arith, len))
their_patterns (s ∷ ss) ns cs (p ∷ ps) len = ap (λ (xs : List (List Bit3)). p ∷ xs) (their_patterns ss (drop 1 ns) (drop 1 cs) ps (omega (arith, len)))

pub some_block : (bs : List Block) → 1 ≤ length bs → (b : Block) × (rest : List Block) × (bs ≡ b ∷ rest)
some_block [] some = absurd (omega arith)
some_block (b ∷ bs) some = (b, bs, refl)
