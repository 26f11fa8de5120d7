-- A module is read exactly from its rows.
use Rattle.std.proofs.Common.{◌≡◌, ℕ, zero, suc, ◌≤◌, ◌+◌, ◌⊎◌, inl, inr, Bool, true, false, cond, ◌||◌, eqb, List, [], ◌∷◌, length, Option, Some, None, is_some, Result, Ok, Err, refl, sym, ap, subst, ◌∙◌, arith}
use Rattle.std.specs.Prelude.{codes}
use Rattle.std.specs.Str.{bytes_eq}
use Rattle.std.proofs.lemmas.Bool.{cases_Bool, both_ways, lt-ltb, eqb-true}
use Rattle.std.proofs.lemmas.Slice.Eq.{bytes_eq-Decides}
use Rattle.handshake_eqs.specs.Netlists.{Netlist}
use Rattle.line_text.proofs.TellingLemmas.{heads, tails}
use Rattle.line_rows.specs.Position.{Position}
use Rattle.line_rows.specs.Reading.{◌>>=◌, read_or_fault, exactly, view_of}
use Rattle.line_rows.specs.Either.{fork, either_of}
use Rattle.line_rows.specs.Words.{behind}
use Rattle.line_rows.proofs.Exact.{behind_again, none_where}
use Rattle.line_rows.proofs.EitherLaws.{Begun, rows-either}
use Rattle.line_rows.proofs.RowLaws.{at, IsRows, rows-view, FitsMany}
use Rattle.module_reader.specs.Modules.{done_line, last_at, ends_at, netlist_at, no_netlist, declared_at, undeclared_at, body_at, wires_in}
use Rattle.module_reader.proofs.RowLaws.{rows-same}
use Rattle.module_reader.proofs.PortLaws.{none_behind}
use Rattle.module_reader.specs.Fits.{NotOwn, IsRow, IsWires}
use Rattle.module_reader.proofs.WireLaws.{wires_line, wires_exact}
use Rattle.module_reader.proofs.BodyLaws.{AreGood, wires_of, IsFull, full_at, full_rows, ends_rows}
use Rattle.module_reader.proofs.TextLaws.{body_lines, full_text, empty_text}

-- ---- a netlist, with its wires declared or with none

abbrev emptied : ℕ → Unit {0} → Netlist
emptied inputs x = no_netlist inputs

abbrev small_at : ℕ → Position → Result (Netlist × Position) ℕ
small_at inputs = view_of (emptied inputs) (ends_at inputs [])

abbrev IsSmall : ℕ → Netlist → Type 0
IsSmall inputs n = n ≡ no_netlist inputs

small_rows : (inputs : ℕ) → IsRows (IsSmall inputs) (body_lines []) (small_at inputs)
small_rows inputs =
    rows-view (emptied inputs) (IsSmall inputs) (body_lines []) (ends_rows inputs [])
    (λ n h. (tt, tt, ap (body_lines []) h ∙ empty_text inputs, sym h)) (λ x h. (refl, empty_text inputs))

abbrev paired : {D B : Type 0} → D → Result (B × Position) ℕ → Result ((D × B) × Position) ℕ
paired d r = r >>= λ y. Ok ((d, y.0), y.1)

abbrev seconds : {D B : Type 0} → Result ((D × B) × Position) ℕ → Result (B × Position) ℕ
seconds r = r >>= λ z. Ok (z.0.1, z.1)

abbrev nothings : {D : Type 0} → Result (D × Position) ℕ → Result (Unit {0} × Position) ℕ
nothings r = r >>= λ z. Ok (tt, z.1)

abbrev emptied_all : {D : Type 0} → ℕ → Result (D × Position) ℕ → Result (Netlist × Position) ℕ
emptied_all inputs r = r >>= λ w. Ok (no_netlist inputs, w.1)

keeps : {D : Type 0} (d : D) (r : Result (Netlist × Position) ℕ) → r ≡ seconds (paired d r)
keeps d (Ok x) = refl
keeps d (Err k) = refl

full_same : (inputs : ℕ) (names : List (List ℕ)) (o : Option (ℕ × List (List Bool))) (p : Position)
    → (read_or_fault o p >>= λ d. netlist_at inputs names d.0 d.1) ≡ seconds (read_or_fault o p >>= λ x. paired x.0 (netlist_at inputs names x.0 x.1))
full_same inputs names None p = refl
full_same inputs names (Some d) p = keeps d (netlist_at inputs names d p)

empties : (inputs : ℕ) (d : Unit {0}) (r : Result (Unit {0} × Position) ℕ) → emptied_all inputs r ≡ emptied_all inputs (nothings (paired d r))
empties inputs d (Ok x) = refl
empties inputs d (Err k) = refl

small_same : (inputs : ℕ) (o : Option (Unit {0})) (p : Position)
    → (read_or_fault o p >>= λ d. emptied_all inputs (last_at inputs [] d.1)) ≡ emptied_all inputs (nothings (read_or_fault o p >>= λ x. paired x.0 (last_at inputs [] x.1)))
small_same inputs None p = refl
small_same inputs (Some d) p = empties inputs d (last_at inputs [] p)

-- with an operation
named_same : (inputs : ℕ) (w : List ℕ) (ws : List (List ℕ)) (ls : List (List ℕ)) (n : ℕ) → body_at inputs (w ∷ ws) (at ls n) ≡ full_at inputs (w ∷ ws) (at ls n)
unfolding body_at
named_same inputs w ws [] n = refl
named_same inputs w ws (l ∷ ls) n =
    ap (λ (b : Bool). cond (b || is_some (behind (codes "  wire ") l)) (declared_at inputs (w ∷ ws) l (at ls (n + 1))) (undeclared_at inputs (w ∷ ws) l (at ls (n + 1)))) (lt-ltb 0 (length (w ∷ ws)) (omega arith))
    ∙ full_same inputs (w ∷ ws) (wires_in inputs (w ∷ ws) l) (at ls (n + 1))

-- with none
abbrev front : List ℕ → Bool
front l = is_some (behind (codes "  wire ") l)

plain_same : (inputs : ℕ) (ls : List (List ℕ)) (n : ℕ) → body_at inputs [] (at ls n) ≡ either_of front (full_at inputs []) (small_at inputs) (at ls n)
unfolding body_at ends_at
plain_same inputs [] n = refl
plain_same inputs (l ∷ ls) n = step (front l)
  where
    step : (b : Bool) → cond b (declared_at inputs [] l (at ls (n + 1))) (undeclared_at inputs [] l (at ls (n + 1))) ≡ fork b (full_at inputs []) (small_at inputs) (at (l ∷ ls) n)
    step true = full_same inputs [] (wires_in inputs [] l) (at ls (n + 1))
    step false = small_same inputs (exactly (done_line inputs []) l) (at ls (n + 1))

-- with one input and no operation
no_wires : (line : List ℕ) → wires_in 1 [] line ≡ None
no_wires line = sym (none_where (wires_in 1 [] line) (λ d e. let w = ((wires_exact 1 [] (omega arith)).takes line d e).0 in omega (arith, w.some, w.few)))

done_front : (inputs : ℕ) → front (done_line inputs []) ≡ false
done_front inputs = ap is_some (none_behind (codes "  wire ") (done_line inputs []) (λ rest e. omega (arith, heads 97 119 _ _ (tails 32 32 _ _ (tails 32 32 _ _ e)))))

not_done : (inputs : ℕ) (l : List ℕ) → front l ≡ true → exactly (done_line inputs []) l ≡ None
not_done inputs l h = elim (cases_Bool (bytes_eq l (done_line inputs []))) [
  | inl same ↦ absurd (both_ways (front l) (ap front ((bytes_eq-Decides l (done_line inputs [])).0 same) ∙ done_front inputs) h)
  | inr differ ↦ rw differ refl
]

lone_same : (ls : List (List ℕ)) (n : ℕ) → body_at 1 [] (at ls n) ≡ small_at 1 (at ls n)
unfolding body_at ends_at
lone_same [] n = refl
lone_same (l ∷ ls) n = elim (cases_Bool (front l)) [
  | inl wire ↦
      let bad : Result (Netlist × Position) ℕ = Err (n + 1) in
      let one : body_at 1 [] (at (l ∷ ls) n) ≡ bad =
      ap (λ (b : Bool). cond b (declared_at 1 [] l (at ls (n + 1))) (undeclared_at 1 [] l (at ls (n + 1)))) wire
      ∙ ap (λ (o : Option (ℕ × List (List Bool))). read_or_fault o (at ls (n + 1)) >>= λ d. netlist_at 1 [] d.0 d.1) (no_wires l) in
      let two : small_at 1 (at (l ∷ ls) n) ≡ bad =
      ap (λ (o : Option (Unit {0})). emptied_all 1 (nothings (read_or_fault o (at ls (n + 1)) >>= λ x. paired x.0 (last_at 1 [] x.1)))) (not_done 1 l wire) in
      one ∙ sym two
  | inr other ↦
      ap (λ (b : Bool). cond b (declared_at 1 [] l (at ls (n + 1))) (undeclared_at 1 [] l (at ls (n + 1)))) other
      ∙ small_same 1 (exactly (done_line 1 []) l) (at ls (n + 1))
]

-- ---- a line of wires that may stand

no_bits : ℕ → List Bool
no_bits zero = []
no_bits (suc n) = false ∷ no_bits n

bits_fit : (u n i : ℕ) → FitsMany (NotOwn u) (λ v _. v + 1) n i (no_bits n)
unfolding no_bits
bits_fit u zero i = tt
bits_fit u (suc n) i = ((λ h. refl), bits_fit u n (i + 1))

no_rows : ℕ → ℕ → List (List Bool)
no_rows count zero = []
no_rows count (suc n) = no_bits count ∷ no_rows count n

rows_fit : (count n i : ℕ) → FitsMany (IsRow count) (λ u _. u + 1) n i (no_rows count n)
unfolding no_rows
rows_fit count zero i = tt
rows_fit count (suc n) i = (bits_fit i count 0, rows_fit count n (i + 1))

named_line : (inputs : ℕ) (w : List ℕ) (ws : List (List ℕ)) → (d : ℕ × List (List Bool)) × IsWires inputs (w ∷ ws) d
named_line inputs w ws = ((0, no_rows (length (w ∷ ws)) (length (w ∷ ws))), record { few = omega arith; matrix = rows_fit (length (w ∷ ws)) (length (w ∷ ws)) 0; some = omega arith })

plain_line : (inputs : ℕ) → eqb inputs 1 ≡ false → (d : ℕ × List (List Bool)) × IsWires inputs [] d
plain_line inputs h = ((1, []), record { few = subst (λ (b : Bool). 1 ≤ cond b 0 262143) (sym h) (omega arith); matrix = tt; some = omega arith })

-- ---- together

abbrev pub IsBody : ℕ → List (List ℕ) → Netlist → Type 0
IsBody inputs [] n = IsFull inputs [] n ⊎ IsSmall inputs n
IsBody inputs (w ∷ ws) n = IsFull inputs (w ∷ ws) n

landed_rows : (inputs : ℕ) (names : List (List ℕ)) → 1 ≤ inputs → inputs ≤ 8 → AreGood names → (d : ℕ × List (List Bool)) × IsWires inputs names d → IsRows (IsFull inputs names) (body_lines names) (full_at inputs names)
landed_rows inputs names some few good witness =
    rows-same (IsFull inputs names) (body_lines names) (full_rows inputs names some few good witness) (λ n h. (h, full_text inputs names n h)) (λ n h. (h, full_text inputs names n h))

begun_full : (inputs : ℕ) → Begun (IsFull inputs []) (body_lines []) front true
begun_full inputs = record { starts = λ n h. (wires_line [] (wires_of n), _, full_text inputs [] n h, ap is_some (behind_again (codes "  wire ") _)) }

begun_small : (inputs : ℕ) → Begun (IsSmall inputs) (body_lines []) front false
begun_small inputs = record { starts = λ n h. (done_line inputs [], _, ap (body_lines []) h ∙ empty_text inputs, done_front inputs) }

not_full : (n : Netlist) → IsFull 1 [] n → ⊥
not_full n h = omega (arith, h.wires.some, h.wires.few)

pub body_rows : (inputs : ℕ) (names : List (List ℕ)) → 1 ≤ inputs → inputs ≤ 8 → AreGood names → IsRows (IsBody inputs names) (body_lines names) (body_at inputs names)
body_rows inputs (w ∷ ws) some few good =
    subst (IsRows (IsBody inputs (w ∷ ws)) (body_lines (w ∷ ws))) (λ i p. sym (named_same inputs w ws p.lines p.number) i) (landed_rows inputs (w ∷ ws) some few good (named_line inputs w ws))
body_rows inputs [] some few good = elim (cases_Bool (eqb inputs 1)) [
  | inl one ↦
      let is : 1 ≡ inputs = sym (eqb-true inputs 1 one) in
      subst (λ (k : ℕ). IsRows (IsBody k []) (body_lines []) (body_at k [])) is
      (rows-same (IsBody 1 []) (body_lines []) (subst (IsRows (IsSmall 1) (body_lines [])) (λ i p. sym (lone_same p.lines p.number) i) (small_rows 1))
      (λ n h. elim h [ inl f ↦ absurd (not_full n f) | inr s ↦ (s, refl) ]) (λ n h. (inr h, refl)))
  | inr more ↦
      subst (IsRows (IsBody inputs []) (body_lines [])) (λ i p. sym (plain_same inputs p.lines p.number) i)
      (rows-either front (landed_rows inputs [] some few good (plain_line inputs more)) (small_rows inputs) (begun_full inputs) (begun_small inputs))
]
