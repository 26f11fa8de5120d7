-- Lists in a line are read exactly, where each item is told from what may follow the list.
use Rattle.std.proofs.Common.{◌≡◌, ℕ, zero, suc, ◌<◌, ◌≤◌, ◌+◌, Bool, false, eqb, List, [], ◌∷◌, ◌++◌, Option, Some, None, refl, sym, ap, subst, ◌∙◌, arith, append_assoc}
use Rattle.std.proofs.lemmas.Bool.{ne_eqb}
use Rattle.cpog_defs.specs.Orders.{each_below}
use Rattle.netlist_verilog.specs.Rows.{separator, joined}
use Rattle.line_rows.specs.Words.{behind}
use Rattle.line_rows.proofs.Exact.{behind_again, behind_takes}
use Rattle.line_rows.proofs.RowLaws.{FitsMany}
use Rattle.module_reader.specs.Lists.{next_or, run, steps}
use Rattle.module_reader.proofs.RowLaws.{below_front}

-- ---- runs of numbered items

abbrev pub items_text : (ℕ → List ℕ) → ℕ → ℕ → List ℕ
items_text item zero i = []
items_text item (suc k) i = item i ++ items_text item k (i + 1)

-- k items were read
pub record IsRun (item : ℕ → List ℕ) (n i : ℕ) (bytes : List ℕ) (x : ℕ × List ℕ) : Type 0 where
  pub count : ℕ
  pub few : count ≤ n
  pub stops : x.0 ≡ i + count
  pub whole : bytes ≡ items_text item count i ++ x.1

run_step : (item : ℕ → List ℕ) (n i : ℕ) (bytes : List ℕ) → ((rest : List ℕ) → IsRun item n (i + 1) rest (run item n (i + 1) rest)) → (o : Option (List ℕ)) → behind (item i) bytes ≡ o → IsRun item (suc n) i bytes (next_or (i, bytes) (λ rest. run item n (i + 1) rest) o)
unfolding run
run_step item n i bytes more None e = record { count = 0; few = omega arith; stops = omega arith; whole = refl }
run_step item n i bytes more (Some rest) e =
    let r = more rest in
    record {
      count = suc r.count;
      few = omega (arith, r.few);
      stops = omega (arith, r.stops);
      whole = behind_takes (item i) bytes rest e ∙ ap (λ (x : List ℕ). item i ++ x) r.whole ∙ sym (append_assoc (item i) (items_text item r.count (i + 1)) (run item n (i + 1) rest).1);
    }

pub run_takes : (item : ℕ → List ℕ) (n i : ℕ) (bytes : List ℕ) → IsRun item n i bytes (run item n i bytes)
unfolding run
run_takes item zero i bytes = record { count = 0; few = omega arith; stops = omega arith; whole = refl }
run_takes item (suc n) i bytes = run_step item n i bytes (λ rest. run_takes item n (i + 1) rest) (behind (item i) bytes) refl

abbrev stopped : ℕ → List ℕ → ℕ × List ℕ
stopped i rest = (i, rest)

pub run_again : (item : ℕ → List ℕ) (n i k : ℕ) (rest : List ℕ) → k ≤ n → behind (item (i + k)) rest ≡ None → run item n i (items_text item k i ++ rest) ≡ (i + k, rest)
unfolding run
run_again item zero i zero rest le e = ap (λ (j : ℕ). stopped j rest) (omega arith)
run_again item zero i (suc k) rest le e = absurd (omega (arith, le))
run_again item (suc n) i zero rest le e =
    let none : behind (item i) rest ≡ None = ap (λ (j : ℕ). behind (item j) rest) (omega arith) ∙ e in
    rw none (ap (λ (j : ℕ). stopped j rest) (omega arith))
run_again item (suc n) i (suc k) rest le e =
    let more : List ℕ = items_text item k (i + 1) ++ rest in
    let there : behind (item i) ((item i ++ items_text item k (i + 1)) ++ rest) ≡ Some more = ap (behind (item i)) (append_assoc (item i) (items_text item k (i + 1)) rest) ∙ behind_again (item i) more in
    rw there (run_again item n (i + 1) k rest (omega (arith, le)) (ap (λ (j : ℕ). behind (item j) rest) (omega arith) ∙ e) ∙ ap (λ (j : ℕ). stopped j rest) (omega arith))

-- one turn of a loop
pub run_done : (item : ℕ → List ℕ) (n m i : ℕ) (bytes : List ℕ) → n ≡ suc m → behind (item i) bytes ≡ None → run item n i bytes ≡ (i, bytes)
unfolding run
run_done item n m i bytes is none = ap (λ (k : ℕ). run item k i bytes) is ∙ ap (next_or (stopped i bytes) (λ rest. run item m (i + 1) rest)) none

pub run_on : (item : ℕ → List ℕ) (n m i : ℕ) (bytes rest : List ℕ) → n ≡ suc m → behind (item i) bytes ≡ Some rest → run item n i bytes ≡ run item m (i + 1) rest
unfolding run
run_on item n m i bytes rest is there = ap (λ (k : ℕ). run item k i bytes) is ∙ ap (next_or (stopped i bytes) (λ rest. run item m (i + 1) rest)) there

pub run_none : (item : ℕ → List ℕ) (n i : ℕ) (bytes : List ℕ) → n ≡ 0 → run item n i bytes ≡ (i, bytes)
unfolding run
run_none item n i bytes is = ap (λ (k : ℕ). run item k i bytes) is

-- with commas between them
pub items_joined : (f : ℕ → List ℕ) (k i : ℕ) → items_text (λ j. separator (eqb j 0) ++ f j) k i ≡ joined (eqb i 0) (each_below (λ j. f (i + j) ∷ []) k)
items_joined f zero i = refl
items_joined f (suc k) i =
    let later : eqb (i + 1) 0 ≡ false = ne_eqb (i + 1) 0 (λ e. omega (arith, e)) in
    let shift : (j : ℕ) → f (i + 1 + j) ∷ [] ≡ f (i + suc j) ∷ [] = λ j. ap (λ (n : ℕ). f n ∷ []) (omega arith) in
    let first : f (i + 0) ≡ f i = ap f (omega arith) in
    append_assoc (separator (eqb i 0)) (f i) _
    ∙ ap (λ (x : List ℕ). separator (eqb i 0) ++ (f i ++ x)) (items_joined f k (i + 1) ∙ ap (λ (b : Bool). joined b (each_below (λ j. f (i + 1 + j) ∷ []) k)) later ∙ ap (λ (g : ℕ → List (List ℕ)). joined false (each_below g k)) (λ x j. shift j x))
    ∙ ap (λ (y : List ℕ). separator (eqb i 0) ++ (y ++ joined false (each_below (λ j. f (i + suc j) ∷ []) k))) (sym first)
    ∙ ap (joined (eqb i 0)) (sym (below_front (λ j. f (i + j) ∷ []) k))

-- ---- steps that each take an item or none

pub steps_on : {S : Type 0} (f : ℕ → S → S) (n m i : ℕ) (s : S) → n ≡ suc m → steps f n i s ≡ steps f m (i + 1) (f i s)
steps_on f n m i s is = ap (λ (k : ℕ). steps f k i s) is

pub steps_none : {S : Type 0} (f : ℕ → S → S) (n i : ℕ) (s : S) → n ≡ 0 → steps f n i s ≡ s
steps_none f n i s is = ap (λ (k : ℕ). steps f k i s) is

module _ {S A : Type 0} (put : ℕ → S → A → S) (step : ℕ → List ℕ → A × List ℕ) (t : ℕ → A → List ℕ) (F : ℕ → A → Type 0) where
  abbrev pub one : ℕ → S × List ℕ → S × List ℕ
  one v s = (put v s.0 (step v s.1).0, (step v s.1).1)

  abbrev pub puts : ℕ → S → List A → S
  puts i s [] = s
  puts i s (x ∷ xs) = puts (i + 1) (put i s x) xs

  abbrev pub walk_text : ℕ → List A → List ℕ
  walk_text i [] = []
  walk_text i (x ∷ xs) = t i x ++ walk_text (i + 1) xs

  pub record IsWalk (n i : ℕ) (s : S) (bytes : List ℕ) (y : S × List ℕ) : Type 0 where
    pub items : List A
    pub fits : FitsMany F (λ j _. j + 1) n i items
    pub made : y.0 ≡ puts i s items
    pub whole : bytes ≡ walk_text i items ++ y.1

  pub walk_takes : ((v : ℕ) (bytes : List ℕ) → F v (step v bytes).0 × (bytes ≡ t v (step v bytes).0 ++ (step v bytes).1)) → (n i : ℕ) (s : S) (bytes : List ℕ) → IsWalk n i s bytes (steps one n i (s, bytes))
  walk_takes each zero i s bytes = record { items = []; fits = tt; made = refl; whole = refl }
  walk_takes each (suc n) i s bytes =
      let x = step i bytes in
      let h = each i bytes in
      let r = walk_takes each n (i + 1) (put i s x.0) x.1 in
      record {
        items = x.0 ∷ r.items;
        fits = (h.0, r.fits);
        made = r.made;
        whole = h.1 ∙ ap (λ (z : List ℕ). t i x.0 ++ z) r.whole ∙ sym (append_assoc (t i x.0) (walk_text (i + 1) r.items) _);
      }

  pub record Again (Ok : ℕ → List ℕ → Type 0) (limit : ℕ) : Type 0 where
    pub read : (v : ℕ) (x : A) (rest : List ℕ) → v < limit → F v x → Ok (v + 1) rest → step v (t v x ++ rest) ≡ (x, rest)
    pub keep : (v : ℕ) (x : A) (rest : List ℕ) → v < limit → F v x → Ok (v + 1) rest → Ok v (t v x ++ rest)

  pub walk_keeps : (Ok : ℕ → List ℕ → Type 0) (limit : ℕ) → Again Ok limit → (n i : ℕ) (xs : List A) (rest : List ℕ) → i + n ≤ limit → FitsMany F (λ j _. j + 1) n i xs → Ok (i + n) rest → Ok i (walk_text i xs ++ rest)
  walk_keeps Ok limit h zero i [] rest le fits ok = subst (λ (j : ℕ). Ok j rest) (omega arith) ok
  walk_keeps Ok limit h zero i (x ∷ xs) rest le fits ok = absurd fits
  walk_keeps Ok limit h (suc n) i [] rest le fits ok = absurd fits
  walk_keeps Ok limit h (suc n) i (x ∷ xs) rest le fits ok =
      subst (Ok i) (sym (append_assoc (t i x) (walk_text (i + 1) xs) rest))
      (h.keep i x (walk_text (i + 1) xs ++ rest) (omega (arith, le)) fits.0 (walk_keeps Ok limit h n (i + 1) xs rest (omega (arith, le)) fits.1 (subst (λ (j : ℕ). Ok j rest) (omega arith) ok)))

  pub walk_again : (Ok : ℕ → List ℕ → Type 0) (limit : ℕ) → Again Ok limit → (n i : ℕ) (s : S) (xs : List A) (rest : List ℕ) → i + n ≤ limit → FitsMany F (λ j _. j + 1) n i xs → Ok (i + n) rest → steps one n i (s, walk_text i xs ++ rest) ≡ (puts i s xs, rest)
  walk_again Ok limit h zero i s [] rest le fits ok = refl
  walk_again Ok limit h zero i s (x ∷ xs) rest le fits ok = absurd fits
  walk_again Ok limit h (suc n) i s [] rest le fits ok = absurd fits
  walk_again Ok limit h (suc n) i s (x ∷ xs) rest le fits ok =
      let later : Ok (i + 1 + n) rest = subst (λ (j : ℕ). Ok j rest) (omega arith) ok in
      let here : step i ((t i x ++ walk_text (i + 1) xs) ++ rest) ≡ (x, walk_text (i + 1) xs ++ rest) =
      ap (step i) (append_assoc (t i x) (walk_text (i + 1) xs) rest) ∙ h.read i x (walk_text (i + 1) xs ++ rest) (omega (arith, le)) fits.0 (walk_keeps Ok limit h n (i + 1) xs rest (omega (arith, le)) fits.1 later) in
      rw here (walk_again Ok limit h n (i + 1) (put i s x) xs rest (omega (arith, le)) fits.1 later)
