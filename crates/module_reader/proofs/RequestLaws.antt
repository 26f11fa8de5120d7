-- The line of a request is read exactly.
use Rattle.std.proofs.Common.{◌≡◌, ℕ, zero, suc, ◌<◌, ◌≤◌, ◌+◌, ◌⊎◌, inl, inr, Bool, true, false, cond, ◌||◌, eqb, List, [], ◌∷◌, ◌++◌, length, get_or, Option, Some, None, refl, sym, ap, ap₂, subst, ◌∙◌, arith, append_assoc}
use Rattle.std.specs.Prelude.{codes}
use Rattle.std.specs.Fmt.{decimal}
use Rattle.std.specs.List.{AllByRecursion}
use Rattle.std.specs.Str.{bytes_eq}
use Rattle.std.specs.Ordering.{nat_cmp}
use Rattle.std.specs.Cmp.{nat_cmp_total, unsigned_tied}
use Rattle.std.specs.FinSet as set
use Rattle.std.specs.FinSet.{nat_cmp-IsAntisymmetric}
use Rattle.std.proofs.lemmas.Bool.{cases_Bool, cases_lt, ne_eqb, eq-eqb}
use Rattle.std.proofs.lemmas.List.{append_cancel_left, get_or_past}
use Rattle.std.proofs.lemmas.Slice.Eq.{bytes_eq-Decides}
use Rattle.cpog_base.specs.Names.{AreDistinct}
use Rattle.cpog_defs.specs.Orders.{Set, each_below}
use Rattle.line_text.specs.Words.{continues_name}
use Rattle.line_text.proofs.TellingLemmas.{AllPass, word_told, heads}
use Rattle.netlist_verilog.specs.Wires.{Go, Condition, name_of}
use Rattle.netlist_verilog.specs.Formulas.{Read, And, equation_row}
use Rattle.netlist_verilog.specs.Equations.{arc_formula}
use Rattle.netlist_verilog.specs.Module.{ModuleValue}
use Rattle.netlist_verilog.specs.Rows.{and_text}
use Rattle.netlist_verilog.proofs.FeedLemmas.{name_passes}
use Rattle.netlist_verilog.proofs.WordLemmas.{name_is}
use Rattle.netlist_verilog.proofs.WritingLemmas.{each_text}
use Rattle.netlist_verilog.proofs.RequestRowLemmas.{request_of}
use Rattle.line_rows.specs.Words.{◌>>=?◌, behind}
use Rattle.line_rows.proofs.Exact.{IsExact, behind_again, behind_takes, some_of, tested}
use Rattle.line_rows.proofs.RowLaws.{FitsMany}
use Rattle.module_reader.specs.Lists.{next_or, steps, wait_mark, with_wait}
use Rattle.module_reader.specs.Modules.{wait_item, waits_after, waits_from, request_front, request_in, is_declared, no_netlist}
use Rattle.module_reader.proofs.RowLaws.{below_front}
use Rattle.module_reader.proofs.ListLaws.{puts, walk_text, walk_takes, Again, walk_again}

-- ---- sets of numbers by their bits

abbrev pub with_bit : ℕ → Set → Bool → Set
with_bit u s b = cond b (set.insert s u) s

abbrev pub with_bits : ℕ → Set → List Bool → Set
with_bits i s [] = s
with_bits i s (b ∷ bs) = with_bits (i + 1) (with_bit i s b) bs

inserted : (s : Set) (u a : ℕ) → set.contains (set.insert s u) a ≡ (eqb a u || set.contains s a)
inserted s u a = set.contains-insert nat_cmp_total s u a ∙ ap (λ (b : Bool). b || set.contains s a) (unsigned_tied a u)

bit_other : (u : ℕ) (s : Set) (b : Bool) (a : ℕ) → (a ≡ u → ⊥) → set.contains (with_bit u s b) a ≡ set.contains s a
bit_other u s false a differ = refl
bit_other u s true a differ = inserted s u a ∙ ap (λ (b : Bool). b || set.contains s a) (ne_eqb a u differ)

bit_here : (u : ℕ) (s : Set) (b : Bool) → set.contains s u ≡ false → set.contains (with_bit u s b) u ≡ b
bit_here u s false none = none
bit_here u s true none = inserted s u u ∙ ap (λ (b : Bool). b || set.contains s u) (eq-eqb u u refl)

bits_before : (i : ℕ) (s : Set) (bs : List Bool) (a : ℕ) → a < i → set.contains (with_bits i s bs) a ≡ set.contains s a
bits_before i s [] a lt = refl
bits_before i s (b ∷ bs) a lt = bits_before (i + 1) (with_bit i s b) bs a (omega (arith, lt)) ∙ bit_other i s b a (λ e. omega (arith, lt, e))

bits_at : (i : ℕ) (s : Set) (bs : List Bool) → ((k : ℕ) → set.contains s (i + k) ≡ false) → (k : ℕ) → set.contains (with_bits i s bs) (i + k) ≡ get_or bs k false
bits_at i s [] none k = none k
bits_at i s (b ∷ bs) none zero =
    let here : i + 0 ≡ i = omega arith in
    bits_before (i + 1) (with_bit i s b) bs (i + 0) (omega arith) ∙ ap (set.contains (with_bit i s b)) here ∙ bit_here i s b (ap (set.contains s) (sym here) ∙ none 0)
bits_at i s (b ∷ bs) none (suc k) =
    let shift : (k : ℕ) → i + suc k ≡ i + 1 + k = λ k. omega arith in
    ap (set.contains (with_bits (i + 1) (with_bit i s b) bs)) (shift k)
    ∙ bits_at (i + 1) (with_bit i s b) bs (λ j. bit_other i s b (i + 1 + j) (λ e. omega (arith, e)) ∙ ap (set.contains s) (sym (shift j)) ∙ none (suc j)) k

abbrev no_waits : Set
no_waits = set.empty

from_bits : (bs : List Bool) (k : ℕ) → set.contains (with_bits 0 no_waits bs) k ≡ get_or bs k false
from_bits bs k = let e : (0 + k) ≡ k = omega arith in ap (set.contains (with_bits 0 no_waits bs)) (sym e) ∙ bits_at 0 no_waits bs (λ j. set.contains-empty nat_cmp (0 + j)) k

-- the bits of a set
abbrev pub bits_of : Set → ℕ → ℕ → List Bool
bits_of s zero i = []
bits_of s (suc n) i = set.contains s i ∷ bits_of s n (i + 1)

bit_of : (s : Set) (n i k : ℕ) → k < n → get_or (bits_of s n i) k false ≡ set.contains s (i + k)
bit_of s zero i k lt = absurd (omega (arith, lt))
bit_of s (suc n) i zero lt = ap (set.contains s) (omega arith)
bit_of s (suc n) i (suc k) lt = bit_of s n (i + 1) k (omega (arith, lt)) ∙ ap (set.contains s) (omega arith)

bits_length : (s : Set) (n i : ℕ) → length (bits_of s n i) ≡ n
bits_length s zero i = refl
bits_length s (suc n) i = ap suc (bits_length s n (i + 1))

-- bits that are those of a set
are_bits : (s : Set) (bs : List Bool) (i : ℕ) → ((k : ℕ) → k < length bs → get_or bs k false ≡ set.contains s (i + k)) → bits_of s (length bs) i ≡ bs
are_bits s [] i h = refl
are_bits s (b ∷ bs) i h =
    let here : i ≡ i + 0 = omega arith in
    ap₂ (λ (x : Bool) (xs : List Bool). x ∷ xs) (ap (set.contains s) here ∙ sym (h 0 (omega arith))) (are_bits s bs (i + 1) (λ k lt. h (suc k) (omega (arith, lt)) ∙ ap (set.contains s) (omega arith)))

-- a set of numbers below n is that of its bits
same_waits : (s : Set) (n : ℕ) → ((u : ℕ) → set.contains s u ≡ true → u < n) → with_bits 0 no_waits (bits_of s n 0) ≡ s
same_waits s n below = set.same_set nat_cmp_total nat_cmp-IsAntisymmetric _ _ (λ u. from_bits (bits_of s n 0) u ∙ elim (cases_lt u n) [
  | inl l ↦ bit_of s n 0 u l ∙ ap (set.contains s) (omega arith)
  | inr g ↦ get_or_past (bits_of s n 0) u false (omega (arith, bits_length s n 0, g)) ∙ sym (past u g (cases_Bool (set.contains s u)))
])
  where
    past : (u : ℕ) → n ≤ u → (set.contains s u ≡ true) ⊎ (set.contains s u ≡ false) → set.contains s u ≡ false
    past u g (inl there) = absurd (omega (arith, below u there, g))
    past u g (inr none) = none

wait_joined : (name du dv : List ℕ) → codes " & (a_" ++ (name ++ (codes " | ~c_" ++ (name ++ (codes " | ~e" ++ (du ++ (codes "_" ++ (dv ++ codes ")")))))))
    ≡ codes " & (" ++ ((((codes "a_" ++ name) ++ (codes " | ~c_" ++ name)) ++ (codes " | ~e" ++ (du ++ (codes "_" ++ dv)))) ++ codes ")")
wait_joined name du dv =
    let first : List ℕ = codes "a_" ++ name in
    let second : List ℕ = codes " | ~c_" ++ name in
    let third : List ℕ = codes " | ~e" ++ (du ++ (codes "_" ++ dv)) in
    ap (λ x. codes " & (" ++ x) (sym (
    append_assoc (first ++ second) third (codes ")")
    ∙ append_assoc first second (third ++ codes ")")
    ∙ ap (λ x. first ++ (second ++ (codes " | ~e" ++ x))) (append_assoc du (codes "_" ++ dv) (codes ")"))))

-- ---- one operation

abbrev plain : ℕ → List (List ℕ) → ModuleValue
plain inputs names = record { names = names; netlist = no_netlist inputs }

wait_told : (names : List (List ℕ)) (v a b : ℕ) (x y : List ℕ) → AllByRecursion (AllPass continues_name) names → AreDistinct names →
    a < length names → b < length names → wait_item names v a ++ x ≡ wait_item names v b ++ y → a ≡ b
wait_told names v a b x y are distinct ha hb e =
    let name : ℕ → List ℕ = name_of names in
    let rest : ℕ → List ℕ = λ u. codes "| ~c_" ++ (name u ++ (codes " | ~e" ++ (decimal u ++ (codes "_" ++ (decimal v ++ codes ")"))))) in
    let text : name a ++ 32 ∷ (rest a ++ x) ≡ name b ++ 32 ∷ (rest b ++ y) =
    sym (append_assoc (name a) (32 ∷ rest a) x) ∙ append_cancel_left (codes " & (a_") _ _ e ∙ append_assoc (name b) (32 ∷ rest b) y in
    let word = word_told continues_name (name a) (name b) 32 _ _ (name_passes names a are) (name_passes names b are) refl text in
    name_is names a b distinct ha hb word.0

-- an operation that is waited for or not
abbrev pub wait_part : List (List ℕ) → ℕ → ℕ → Bool → List ℕ
wait_part names v u b = cond b (wait_item names v u) []

abbrev pub OnlyDeclared : (ℕ → Bool) → ℕ → Bool → Type 0
OnlyDeclared declared u b = b ≡ true → declared u ≡ true

abbrev pub close : List ℕ
close = codes ";"

-- an item from u on
pub record Ahead (names : List (List ℕ)) (v u : ℕ) (bytes : List ℕ) : Type 0 where
  pub operation : ℕ
  pub more : List ℕ
  pub whole : bytes ≡ wait_item names v operation ++ more
  pub below : operation < length names
  pub later : u ≤ operation

abbrev pub Left : List (List ℕ) → ℕ → ℕ → List ℕ → Type 0
Left names v u bytes = (bytes ≡ close) ⊎ Ahead names v u bytes

abbrev not_seen : List ℕ → Bool × List ℕ
not_seen bytes = (false, bytes)

abbrev seen_so : List ℕ → Bool × List ℕ
seen_so rest = (true, rest)

abbrev seen : List ℕ → Option (List ℕ) → Bool × List ℕ
seen bytes o = next_or (false, bytes) (λ rest. (true, rest)) o

module _ (inputs : ℕ) (names : List (List ℕ)) (v : ℕ) (declared : ℕ → Bool) (pass : AllByRecursion (AllPass continues_name) names) (distinct : AreDistinct names) where
  item : ℕ → List ℕ
  item u = wait_item names v u

  abbrev pub mark_at : ℕ → List ℕ → Bool × List ℕ
  mark_at u bytes = wait_mark (declared u) (wait_item names v u) bytes

  marked : (u : ℕ) (bytes : List ℕ) (o : Option (List ℕ)) → behind (wait_item names v u) bytes ≡ o → bytes ≡ wait_part names v u (seen bytes o).0 ++ (seen bytes o).1
  marked u bytes None e = refl
  marked u bytes (Some rest) e = behind_takes (wait_item names v u) bytes rest e

  mark_takes : (u : ℕ) (bytes : List ℕ) → OnlyDeclared declared u (mark_at u bytes).0 × (bytes ≡ wait_part names v u (mark_at u bytes).0 ++ (mark_at u bytes).1)
  mark_takes u bytes = step (declared u) refl
    where
      chosen_by : Bool → Bool × List ℕ
      chosen_by b = wait_mark b (wait_item names v u) bytes

      step : (b : Bool) → declared u ≡ b → OnlyDeclared declared u (chosen_by b).0 × (bytes ≡ wait_part names v u (chosen_by b).0 ++ (chosen_by b).1)
      step true e = (λ h. e, marked u bytes (behind (wait_item names v u) bytes) refl)
      step false e = (λ h. absurd cc, refl)

  unmarked : (u : ℕ) (bytes : List ℕ) → u < length names → Left names v (u + 1) bytes → (o : Option (List ℕ)) → behind (wait_item names v u) bytes ≡ o → seen bytes o ≡ not_seen bytes
  unmarked u bytes lt left None e = refl
  unmarked u bytes lt (inl end) (Some rest) e = absurd (omega (arith, heads 59 32 _ _ (sym end ∙ behind_takes (wait_item names v u) bytes rest e)))
  unmarked u bytes lt (inr a) (Some rest) e =
      absurd (omega (arith, a.later, wait_told names v u a.operation rest a.more pass distinct lt a.below (sym (behind_takes (wait_item names v u) bytes rest e) ∙ a.whole)))

  wait_read : (u : ℕ) (b : Bool) (rest : List ℕ) → u < length names → OnlyDeclared declared u b → Left names v (u + 1) rest → mark_at u (wait_part names v u b ++ rest) ≡ (b, rest)
  wait_read u true rest lt fits left =
      let there : behind (wait_item names v u) (wait_item names v u ++ rest) ≡ Some rest = behind_again (wait_item names v u) rest in
      ap (λ (c : Bool). wait_mark c (wait_item names v u) (wait_item names v u ++ rest)) (fits refl) ∙ ap (seen (wait_item names v u ++ rest)) there
  wait_read u false rest lt fits left = step (declared u)
    where
      step : (c : Bool) → wait_mark c (wait_item names v u) rest ≡ not_seen rest
      step true = unmarked u rest lt left (behind (wait_item names v u) rest) refl
      step false = refl

  passed : (u : ℕ) (bytes : List ℕ) → Left names v (u + 1) bytes → Left names v u bytes
  passed u bytes (inl e) = inl e
  passed u bytes (inr a) = inr (record { operation = a.operation; more = a.more; whole = a.whole; below = a.below; later = omega (arith, a.later) })

  wait_kept : (u : ℕ) (b : Bool) (rest : List ℕ) → u < length names → Left names v (u + 1) rest → Left names v u (wait_part names v u b ++ rest)
  wait_kept u false rest lt left = passed u rest left
  wait_kept u true rest lt left = inr (record { operation = u; more = rest; whole = refl; below = lt; later = omega arith })

  -- ---- all of them

  abbrev pub bits_text : ℕ → List Bool → List ℕ
  bits_text i bs = walk_text with_bit mark_at (wait_part names v) (OnlyDeclared declared) i bs

  all_bits : (i : ℕ) (s : Set) (bs : List Bool) → puts with_bit mark_at (wait_part names v) (OnlyDeclared declared) i s bs ≡ with_bits i s bs
  all_bits i s [] = refl
  all_bits i s (b ∷ bs) = all_bits (i + 1) (with_bit i s b) bs

  abbrev pub after : List ℕ → Set × List ℕ
  after bytes = steps (λ u s. with_wait u s.0 (mark_at u s.1)) (length names) 0 (no_waits, bytes)

  laws : Again with_bit mark_at (wait_part names v) (OnlyDeclared declared) (Left names v) (length names)
  laws = record { read = λ u b rest lt fits left. wait_read u b rest lt fits left; keep = λ u b rest lt fits left. wait_kept u b rest lt left }

  -- only operations below, whose arc wires are declared
  abbrev pub AreWaits : Set → Type 0
  AreWaits s = (u : ℕ) → set.contains s u ≡ true → (u < length names) × (declared u ≡ true)

  bits_fit : (s : Set) → AreWaits s → (n i : ℕ) → FitsMany (OnlyDeclared declared) (λ u _. u + 1) n i (bits_of s n i)
  bits_fit s are zero i = tt
  bits_fit s are (suc n) i = ((λ h. (are i h).1), bits_fit s are n (i + 1))

  pub waits_again : (s : Set) → AreWaits s → after (bits_text 0 (bits_of s (length names) 0) ++ close) ≡ (s, close)
  waits_again s are =
      walk_again with_bit mark_at (wait_part names v) (OnlyDeclared declared) (Left names v) (length names) laws (length names) 0 no_waits (bits_of s (length names) 0) close (omega arith) (bits_fit s are (length names) 0) (inl refl)
      ∙ ap pair_of (all_bits 0 no_waits (bits_of s (length names) 0) ∙ same_waits s (length names) (λ u h. (are u h).0))
    where
      pair_of : Set → Set × List ℕ
      pair_of x = (x, close)

  fits_at : (n i : ℕ) (bs : List Bool) → FitsMany (OnlyDeclared declared) (λ u _. u + 1) n i bs → (length bs ≡ n) × ((k : ℕ) → get_or bs k false ≡ true → (k < n) × (declared (i + k) ≡ true))
  fits_at zero i [] h = (refl, λ k e. absurd cc)
  fits_at zero i (b ∷ bs) h = absurd h
  fits_at (suc n) i [] h = absurd h
  fits_at (suc n) i (b ∷ bs) h = let r = fits_at n (i + 1) bs h.1 in (ap suc r.0, at r.1)
    where
      at : ((k : ℕ) → get_or bs k false ≡ true → (k < n) × (declared (i + 1 + k) ≡ true)) → (k : ℕ) → get_or (b ∷ bs) k false ≡ true → (k < suc n) × (declared (i + k) ≡ true)
      at r zero e = (omega arith, ap declared (omega arith) ∙ h.0 e)
      at r (suc k) e = let x = r k e in (omega (arith, x.0), ap declared (omega arith) ∙ x.1)

  pub waits_take : (bytes : List ℕ) → AreWaits (after bytes).0 × (bytes ≡ bits_text 0 (bits_of (after bytes).0 (length names) 0) ++ (after bytes).1)
  waits_take bytes =
      let w = walk_takes with_bit mark_at (wait_part names v) (OnlyDeclared declared) mark_takes (length names) 0 no_waits bytes in
      let s : Set = (after bytes).0 in
      let same : s ≡ with_bits 0 no_waits w.items = w.made ∙ all_bits 0 no_waits w.items in
      let f = fits_at (length names) 0 w.items w.fits in
      let has : (k : ℕ) → set.contains s k ≡ get_or w.items k false = λ k. ap (λ (x : Set). set.contains x k) same ∙ from_bits w.items k in
      let bits : bits_of s (length names) 0 ≡ w.items = ap (λ (n : ℕ). bits_of s n 0) (sym f.0) ∙ are_bits s w.items 0 (λ k lt. sym (has k) ∙ ap (set.contains s) (omega arith)) in (
        λ u h. let x = f.1 u (sym (has u) ∙ h) in (x.0, ap declared (omega arith) ∙ x.1),
        w.whole ∙ ap (λ (bs : List Bool). bits_text 0 bs ++ (after bytes).1) (sym bits),
      )

  -- ---- as they are written

  bits_written : (s : Set) (n i : ℕ) → bits_text i (bits_of s n i) ≡ each_below (λ k. wait_part names v (i + k) (set.contains s (i + k))) n
  bits_written s zero i = refl
  bits_written s (suc n) i =
      let part : ℕ → List ℕ = λ u. wait_part names v u (set.contains s u) in
      let shift : (k : ℕ) → part (i + 1 + k) ≡ part (i + suc k) = λ k. ap part (omega arith) in
      ap₂ (λ (x y : List ℕ). x ++ y) (ap part (omega arith)) (bits_written s n (i + 1) ∙ ap (λ (f : ℕ → List ℕ). each_below f n) (λ x k. shift k x))
      ∙ sym (below_front (λ k. part (i + k)) n)

  part_same : (u : ℕ) (b : Bool) → wait_part names v u b ≡ and_text (plain inputs names) b (arc_formula v u)
  part_same u true = wait_joined (name_of names u) (decimal u) (decimal v)
  part_same u false = refl

  pub request_split : (s : Set) → equation_row inputs names (request_of s (length names) v) ≡ request_front names v ++ (bits_text 0 (bits_of s (length names) 0) ++ close)
  request_split s =
      let first = And (Read Go) (Read (Condition v)) in
      let parts : ℕ → List ℕ = λ u. and_text (plain inputs names) (set.contains s u) (arc_formula v u) in
      let begin : List ℕ = codes "go" ++ (codes " & " ++ (codes "c_" ++ name_of names v)) in
      let bits : List ℕ = bits_text 0 (bits_of s (length names) 0) in
      let same : each_below parts (length names) ≡ bits =
      ap (λ (f : ℕ → List ℕ). each_below f (length names)) (λ x k. step k x) ∙ sym (bits_written s (length names) 0) in
      ap (λ (f : List ℕ). codes "  assign " ++ ((codes "r_" ++ name_of names v) ++ (codes " = " ++ (f ++ close)))) (each_text (plain inputs names) first (set.contains s) (arc_formula v) (length names) (λ text. refl) ∙ ap (λ (x : List ℕ). begin ++ x) same)
      ∙ pieces (name_of names v) bits
    where
      step : (k : ℕ) → and_text (plain inputs names) (set.contains s k) (arc_formula v k) ≡ wait_part names v (0 + k) (set.contains s (0 + k))
      step k = sym (part_same k (set.contains s k)) ∙ ap (λ (u : ℕ). wait_part names v u (set.contains s u)) (omega arith)

      pieces : (name bits : List ℕ) → codes "  assign " ++ ((codes "r_" ++ name) ++ (codes " = " ++ (((codes "go" ++ (codes " & " ++ (codes "c_" ++ name))) ++ bits) ++ close))) ≡ (codes "  assign r_" ++ (name ++ (codes " = go & c_" ++ name))) ++ (bits ++ close)
      pieces name bits = simp append_assoc

-- ---- the line

abbrev pub request_line : ℕ → List (List ℕ) → ℕ → Set → List ℕ
request_line inputs names v s = equation_row inputs names (request_of s (length names) v)

abbrev pub IsWaits : List (List ℕ) → List (List Bool) → ℕ → Set → Type 0
IsWaits names arcs v s = (u : ℕ) → set.contains s u ≡ true → (u < length names) × (is_declared arcs u v ≡ true)

pub request_exact : (inputs : ℕ) (names : List (List ℕ)) (arcs : List (List Bool)) (v : ℕ) → AllByRecursion (AllPass continues_name) names → AreDistinct names → IsExact (IsWaits names arcs v) (request_line inputs names v) (request_in names arcs v)
unfolding request_in
request_exact inputs names arcs v pass distinct =
    let declared : ℕ → Bool = λ u. is_declared arcs u v in
    record {
      again = λ s are.
          let rest : List ℕ = bits_text inputs names v declared pass distinct 0 (bits_of s (length names) 0) ++ close in
          ap (λ (line : List ℕ). behind (request_front names v) line >>=? λ rest. waits_from (waits_after names arcs v rest)) (request_split inputs names v declared pass distinct s)
          ∙ ap (λ (o : Option (List ℕ)). o >>=? λ rest. waits_from (waits_after names arcs v rest)) (behind_again (request_front names v) rest)
          ∙ ap waits_from (waits_again inputs names v declared pass distinct s are);
      takes = λ line s e.
          let a = some_of _ _ s e in
          let w = waits_take inputs names v declared pass distinct a.0 in
          let found = waits_after names arcs v a.0 in
          let t = tested (bytes_eq found.1 close) found.0 s a.2 in
          let end : found.1 ≡ close = (bytes_eq-Decides _ _).0 t.0 in
          subst (λ (y : Set). IsWaits names arcs v y × (line ≡ request_line inputs names v y)) t.1
          (w.0, behind_takes (request_front names v) line a.0 a.1 ∙ ap (λ (x : List ℕ). request_front names v ++ x) (w.1 ∙ ap (λ (x : List ℕ). bits_text inputs names v declared pass distinct 0 (bits_of found.0 (length names) 0) ++ x) end) ∙ sym (request_split inputs names v declared pass distinct found.0));
    }
