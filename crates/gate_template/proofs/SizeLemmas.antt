-- How many clauses and literals a template has.
use Rattle.std.proofs.Common.{◌≡◌, ℕ, zero, suc, ◌+◌, ◌-◌, ◌*◌, ◌<◌, ◌≤◌, Bool, true, false, if◌then◌else◌, nat_lt, List, [], ◌∷◌, ◌++◌, length, get_or, refl, sym, ap, ap₂, ◌∙◌, inl, inr, arith, length-append}
use Rattle.std.specs.List.{All, sum_by, count_by}
use Rattle.std.proofs.lemmas.Bool.{cases_lt}
use Rattle.std.proofs.lemmas.List.{length-map}
use Rattle.std.proofs.lemmas.List.Sums.{sum_by-cons}
use Rattle.cpog_defs.specs.declared.types.Bit3.{Bit3}
use Rattle.cpog_defs.specs.declared.types.Bit3.TheVariants.{Zero, One, Free}
use Rattle.cpog_defs.specs.Entries.{entry_at}
use Rattle.cpog_defs.specs.Orders.{each_below}
use Rattle.gate_template.specs.declared.types.Shape.{Shape}
use Rattle.gate_template.specs.declared.types.Template.{Template}
use Rattle.gate_template.specs.declared.types.Template.TheVariants.{First, Second, Third}
use Rattle.gate_template.specs.Variables.{X, D, Sel, O, pairs_from, each_pair}
use Rattle.gate_template.specs.Counts.{rows, pairs, selections, further_count}
use Rattle.gate_template.specs.Families.{NamedLiteral, plain, complemented, numbered, as_clause, as_clauses, differ_at, some_bit, code_pair, code_clauses, gate_clauses_at, gate_pair, some_pair, one_gate, gate_clauses, class_clauses_at, class_signal, some_signal, one_class, class_clauses, given_bit, given_pattern, given_clauses, gives, all_zero_clauses, zero_clauses}
use Rattle.cpog_base.specs.Pattern.{is_given}
use Rattle.gate_template.specs.Templates.{further_clauses, named_template}
use Rattle.gate_template.proofs.ClauseLemmas.{lower_first, not_lower}
use Rattle.gate_template.proofs.PlaceLemmas.{ones, length-rows}

-- ---- counts

unfoldable pub sum_to : (ℕ → ℕ) → ℕ → ℕ
sum_to h zero = 0
sum_to h (suc n) = sum_to h n + h n

-- the sum over the first n columns
abbrev pub some_of : List (List Bit3) → ℕ → ℕ
some_of columns n = sum_to (λ c. count_by is_given (get_or columns c [])) n

front_length : {A : Type 0} (g : ℕ → List A) (n : ℕ) → length (each_below g (suc n)) ≡ length (g 0) + length (each_below (λ s. g (suc s)) n)
front_length g zero = front_none (length (g 0)) ∙ refl
  where
    front_none : (a : ℕ) → a ≡ a + 0
    front_none a = omega arith
front_length g (suc n) =
    omega (arith, length-append (each_below g (suc n)) (g (suc n)), front_length g n, length-append (each_below (λ s. g (suc s)) n) (g (suc n)))

count_is : (column : List Bit3) → length (each_below (λ s. if is_given (entry_at column s) then s ∷ [] else []) (length column)) ≡ count_by is_given column
count_is column = tagged (λ s. s) column ∙ refl
  where
    one_choice : (b : Bool) (k : ℕ) → length (if b then k ∷ [] else []) ≡ (if b then 1 else 0)
    one_choice true k = refl
    one_choice false k = refl

    tagged : (tag : ℕ → ℕ) (column : List Bit3) → length (each_below (λ s. if is_given (entry_at column s) then tag s ∷ [] else []) (length column)) ≡ count_by is_given column
    tagged tag [] = refl
    tagged tag (x ∷ column) =
        front_length (λ s. if is_given (entry_at (x ∷ column) s) then tag s ∷ [] else []) (length column)
        ∙ ap₂ (λ a b. a + b) (one_choice (is_given x) (tag 0)) (tagged (λ s. tag (suc s)) column)
        ∙ sym (sum_by-cons (λ y. if is_given y then 1 else 0) x column)

front_sum : (h : ℕ → ℕ) (n : ℕ) → sum_to h (suc n) ≡ h 0 + sum_to (λ s. h (suc s)) n
unfolding sum_to
front_sum h zero = omega arith
front_sum h (suc n) = omega (arith, front_sum h n)

some_is : (columns : List (List Bit3)) → some_of columns (length columns) ≡ sum_by (λ column. count_by is_given column) columns
unfolding sum_to
some_is [] = refl
some_is (x ∷ columns) = front_sum (λ c. count_by is_given (get_or (x ∷ columns) c [])) (length columns) ∙ ap (λ k. count_by is_given x + k) (some_is columns) ∙ sym (sum_by-cons (λ column. count_by is_given column) x columns)

-- a measure of clauses, added up
module _ (f : List NamedLiteral → ℕ) where
  unfoldable pub total : List (List NamedLiteral) → ℕ
  total [] = 0
  total (c ∷ cs) = f c + total cs

  pub total-append : (a b : List (List NamedLiteral)) → total (a ++ b) ≡ total a + total b
  unfolding total
  total-append [] b = omega arith
  total-append (c ∷ a) b = omega (arith, total-append a b)

  none_is : (m : ℕ) → total [] ≡ 0 * m
  unfolding total
  none_is m = omega arith

  cons_is : (c : List NamedLiteral) (cs : List (List NamedLiteral)) → total (c ∷ cs) ≡ f c + total cs
  unfolding total
  cons_is c cs = refl

  pub total-each : (g : ℕ → List (List NamedLiteral)) (n m : ℕ) → ((i : ℕ) → total (g i) ≡ m) → total (each_below g n) ≡ n * m
  total-each g zero m h = none_is m
  total-each g (suc n) m h = omega (arith, total-append (each_below g n) (g n), total-each g n m h, h n)

  total-row : (g : ℕ → ℕ → List (List NamedLiteral)) (n j m : ℕ) → ((k : ℕ) → total (g j k) ≡ m) → total (pairs_from g n j) ≡ (n - (j + 1)) * m
  total-row g zero j m h = let e : 0 - (j + 1) ≡ 0 = omega arith in rw e (none_is m)
  total-row g (suc n) j m h = elim (cases_lt j n) [
    | inl l ↦
        let d : (n - (j + 1)) + 1 ≡ suc n - (j + 1) = omega arith in
        total-append (pairs_from g n j) (if nat_lt j n then g j n else []) ∙ ap₂ (λ a b. a + b) (total-row g n j m h) (ap total (lower_first j n (g j n) [] l) ∙ h n)
        ∙ more (n - (j + 1)) m ∙ ap (λ k. k * m) d
    | inr r ↦
        let d : n - (j + 1) ≡ suc n - (j + 1) = omega arith in
        total-append (pairs_from g n j) (if nat_lt j n then g j n else []) ∙ ap₂ (λ a b. a + b) (total-row g n j m h) (ap total (not_lower j n (g j n) [] r) ∙ none_is m)
        ∙ none (n - (j + 1)) m ∙ ap (λ k. k * m) d
  ]
    where
      more : (a m : ℕ) → a * m + m ≡ (a + 1) * m
      more a m = omega arith

      none : (a m : ℕ) → a * m + 0 * m ≡ a * m
      none a m = omega arith

  total-rows : (g : ℕ → ℕ → List (List NamedLiteral)) (n j m : ℕ) → ((j k : ℕ) → total (g j k) ≡ m) → total (each_below (pairs_from g n) j) ≡ rows n j * m
  unfolding rows
  total-rows g n zero m h = none_is m
  total-rows g n (suc j) m h =
      total-append (each_below (pairs_from g n) j) (pairs_from g n j) ∙ ap₂ (λ a b. a + b) (total-rows g n j m h) (total-row g n j m (h j)) ∙ join (rows n j) (n - (j + 1)) m
    where
      join : (a b m : ℕ) → a * m + b * m ≡ (a + b) * m
      join a b m = omega arith

  pub total-pairs : (g : ℕ → ℕ → List (List NamedLiteral)) (n m : ℕ) → ((j k : ℕ) → total (g j k) ≡ m) → total (each_pair g n) ≡ pairs n * m
  total-pairs g n m h = total-rows g n n m h

  one_is : (c : List NamedLiteral) → total (c ∷ []) ≡ f c
  unfolding total
  one_is c = omega arith

  -- ---- the families

  module _ (z : Shape) (two seven one_entry : ℕ)
      (two_is : (s t i : ℕ) → total (differ_at s t i) ≡ two) (seven_is : (g j k s : ℕ) → total (gate_clauses_at z g j k s) ≡ seven)
      (entry_is : (c n s : ℕ) (e : Bit3) → total (class_clauses_at z c n s e) ≡ (if is_given e then one_entry else 0)) where
    pub total-codes : (bit : ℕ) → ((s t : ℕ) → f (some_bit z s t) ≡ bit) → total (code_clauses z) ≡ pairs z.scenarios * (z.bits * two + bit)
    unfolding code_clauses
    total-codes bit h = total-pairs (code_pair z) z.scenarios (z.bits * two + bit) (λ s t.
        total-append (each_below (differ_at s t) z.bits) (some_bit z s t ∷ []) ∙ ap₂ (λ a b. a + b) (total-each (differ_at s t) z.bits two (two_is s t)) (one_is (some_bit z s t) ∙ h s t))

    total-one_gate : (g : ℕ) → total (one_gate z g) ≡ f (some_pair z g) + pairs (z.bits + g) * (z.scenarios * seven)
    total-one_gate g =
        cons_is (some_pair z g) (each_pair (gate_pair z g) (z.bits + g))
        ∙ ap (λ k. f (some_pair z g) + k) (total-pairs (gate_pair z g) (z.bits + g) (z.scenarios * seven) (λ j k. total-each (gate_clauses_at z g j k) z.scenarios seven (seven_is g j k)))

    -- where the clause that chooses a pair counts a, and once more for each pair b
    total-gates_below : (a b : ℕ) → ((g : ℕ) → f (some_pair z g) ≡ a + pairs (z.bits + g) * b) → (g : ℕ) → total (each_below (one_gate z) g) ≡ g * a + selections z.bits g * (z.scenarios * seven + b)
    unfolding selections
    total-gates_below a b h zero = none_is (z.scenarios * seven + b) ∙ zero_is
      where
        zero_is : 0 * (z.scenarios * seven + b) ≡ 0 * a + 0 * (z.scenarios * seven + b)
        zero_is = omega arith
    total-gates_below a b h (suc g) =
        total-append (each_below (one_gate z) g) (one_gate z g) ∙ ap₂ (λ x y. x + y) (total-gates_below a b h g) (total-one_gate g ∙ ap (λ k. k + pairs (z.bits + g) * (z.scenarios * seven)) (h g))
        ∙ join g a (selections z.bits g) (pairs (z.bits + g)) (z.scenarios * seven) b
      where
        join : (g a s p m b : ℕ) → g * a + s * (m + b) + (a + p * b + p * m) ≡ suc g * a + (s + p) * (m + b)
        join g a s p m b = omega arith

    pub total-gates : (a b : ℕ) → ((g : ℕ) → f (some_pair z g) ≡ a + pairs (z.bits + g) * b) → total (gate_clauses z) ≡ z.gates * a + selections z.bits z.gates * (z.scenarios * seven + b)
    unfolding gate_clauses
    total-gates a b h = total-gates_below a b h z.gates

    -- the entries of a column
    entries_below : (c n : ℕ) (column : List Bit3) (m : ℕ) → total (each_below (λ s. class_clauses_at z c n s (entry_at column s)) m) ≡ length (each_below (λ s. if is_given (entry_at column s) then s ∷ [] else []) m) * one_entry
    entries_below c n column zero = none_is one_entry
    entries_below c n column (suc m) =
        total-append (each_below (λ s. class_clauses_at z c n s (entry_at column s)) m) (class_clauses_at z c n m (entry_at column m))
        ∙ ap₂ (λ a b. a + b) (entries_below c n column m) (entry_is c n m (entry_at column m))
        ∙ join (length (each_below (λ s. if is_given (entry_at column s) then s ∷ [] else []) m)) (is_given (entry_at column m))
        ∙ ap (λ k. k * one_entry) (sym (length-append (each_below (λ s. if is_given (entry_at column s) then s ∷ [] else []) m) (if is_given (entry_at column m) then m ∷ [] else [])))
      where
        join : (a : ℕ) (b : Bool) → a * one_entry + (if b then one_entry else 0) ≡ (a + length (if b then m ∷ [] else [])) * one_entry
        join a true = omega arith
        join a false = omega arith

    total-column : (c : ℕ) (column : List Bit3) (signals : ℕ) → length column ≡ z.scenarios → total (each_below (class_signal z c column) signals) ≡ signals * (count_by is_given column * one_entry)
    total-column c column signals l = total-each (class_signal z c column) signals (count_by is_given column * one_entry) (λ n.
        entries_below c n column z.scenarios ∙ ap (λ k. k * one_entry) (ap (λ m. length (each_below (λ s. if is_given (entry_at column s) then s ∷ [] else []) m)) (sym l) ∙ count_is column))

    -- classes from the first on
    total-classes_of : (columns : List (List Bit3)) (a : ℕ) → ((c : ℕ) → f (some_signal z c) ≡ a) → ((c : ℕ) → c < length columns → length (get_or columns c []) ≡ z.scenarios) → (n : ℕ) → n ≤ length columns →
        total (each_below (one_class z columns) n) ≡ n * a + (z.bits + z.gates) * (some_of columns n * one_entry)
    unfolding sum_to
    total-classes_of columns a h l zero le = none_is a ∙ zero_is a (z.bits + z.gates) one_entry
      where
        zero_is : (a b c : ℕ) → 0 * a ≡ 0 * a + b * (0 * c)
        zero_is a b c = omega arith
    total-classes_of columns a h l (suc n) le =
        let column = get_or columns n [] in
        total-append (each_below (one_class z columns) n) (one_class z columns n)
        ∙ ap₂ (λ x y. x + y) (total-classes_of columns a h l n (omega arith)) (cons_is (some_signal z n) (each_below (class_signal z n column) (z.bits + z.gates)) ∙ ap₂ (λ x y. x + y) (h n) (total-column n column (z.bits + z.gates) (l n (omega arith))))
        ∙ join n a (z.bits + z.gates) (some_of columns n) (count_by is_given column) one_entry
      where
        join : (n a b x y c : ℕ) → n * a + b * (x * c) + (a + b * (y * c)) ≡ suc n * a + b * ((x + y) * c)
        join n a b x y c = omega arith

    pub total-classes : (columns : List (List Bit3)) (a : ℕ) → length columns ≡ z.classes → All (λ column. length column ≡ z.scenarios) columns → ((c : ℕ) → f (some_signal z c) ≡ a) →
        total (class_clauses z columns) ≡ z.classes * a + (z.bits + z.gates) * (sum_by (λ column. count_by is_given column) columns * one_entry)
    unfolding class_clauses
    total-classes columns a len fit h =
        total-classes_of columns a h (λ c l. fit c [] l) z.classes (omega arith)
        ∙ ap (λ k. z.classes * a + (z.bits + z.gates) * (k * one_entry)) (ap (some_of columns) (sym len) ∙ some_is columns)

  -- ---- clauses of one literal

  pub total-zeros : (z : Shape) → ((i : ℕ) → f (complemented (X 0 i) ∷ []) ≡ 1) → total (all_zero_clauses z) ≡ z.bits
  unfolding all_zero_clauses
  total-zeros z h = total-each (λ i. (complemented (X 0 i) ∷ []) ∷ []) z.bits 1 (λ i. one_is (complemented (X 0 i) ∷ []) ∙ h i) ∙ times_one z.bits
    where
      times_one : (n : ℕ) → n * 1 ≡ n
      times_one n = omega arith

  module _ (z : Shape) (single : (x : NamedLiteral) → f (x ∷ []) ≡ 1) where
    given_total : (s i : ℕ) (e : Bit3) → total (given_bit s i e) ≡ (if is_given e then 1 else 0)
    unfolding total
    given_total s i Free = refl
    given_total s i One = omega (arith, single (plain (X s i)))
    given_total s i Zero = omega (arith, single (complemented (X s i)))

    given_below : (s : ℕ) (pattern : List Bit3) (m : ℕ) → total (each_below (λ i. given_bit s i (entry_at pattern i)) m) ≡ length (each_below (λ i. if is_given (entry_at pattern i) then i ∷ [] else []) m)
    given_below s pattern zero = none_is 0 ∙ refl
    given_below s pattern (suc m) =
        total-append (each_below (λ i. given_bit s i (entry_at pattern i)) m) (given_bit s m (entry_at pattern m))
        ∙ ap₂ (λ a b. a + b) (given_below s pattern m) (given_total s m (entry_at pattern m) ∙ choice (is_given (entry_at pattern m)))
        ∙ sym (length-append (each_below (λ i. if is_given (entry_at pattern i) then i ∷ [] else []) m) (if is_given (entry_at pattern m) then m ∷ [] else []))
      where
        choice : (b : Bool) → (if b then 1 else 0) ≡ length (if b then m ∷ [] else [])
        choice true = refl
        choice false = refl

    total-pattern : (s : ℕ) (pattern : List Bit3) → length pattern ≡ z.bits → total (given_pattern z s pattern) ≡ count_by is_given pattern
    total-pattern s pattern l = given_below s pattern z.bits ∙ ap (λ m. length (each_below (λ i. if is_given (entry_at pattern i) then i ∷ [] else []) m)) (sym l) ∙ count_is pattern

    total-patterns : (patterns : List (List Bit3)) → ((s : ℕ) → s < length patterns → length (get_or patterns s []) ≡ z.bits) → (n : ℕ) → n ≤ length patterns → total (each_below (λ s. given_pattern z s (get_or patterns s [])) n) ≡ some_of patterns n
    unfolding sum_to
    total-patterns patterns l zero le = none_is 0 ∙ refl
    total-patterns patterns l (suc n) le =
        total-append (each_below (λ s. given_pattern z s (get_or patterns s [])) n) (given_pattern z n (get_or patterns n []))
        ∙ ap₂ (λ a b. a + b) (total-patterns patterns l n (omega arith)) (total-pattern n (get_or patterns n []) (l n (omega arith)))

    pub total-given : (patterns : List (List Bit3)) → length patterns ≡ z.scenarios → All (λ pattern. length pattern ≡ z.bits) patterns → total (given_clauses z patterns) ≡ sum_by (λ pattern. count_by is_given pattern) patterns
    unfolding given_clauses
    total-given patterns len fit = total-patterns patterns (λ s l. fit s [] l) z.scenarios (omega arith) ∙ ap (some_of patterns) (sym len) ∙ some_is patterns

    open_below : (patterns : List (List Bit3)) (m : ℕ) → total (each_below (λ i. if gives patterns i then [] else (complemented (X 0 i) ∷ []) ∷ []) m) ≡ length (each_below (λ i. if gives patterns i then [] else i ∷ []) m)
    open_below patterns zero = none_is 0 ∙ refl
    open_below patterns (suc m) =
        total-append (each_below (λ i. if gives patterns i then [] else (complemented (X 0 i) ∷ []) ∷ []) m) (if gives patterns m then [] else (complemented (X 0 m) ∷ []) ∷ [])
        ∙ ap₂ (λ a b. a + b) (open_below patterns m) (choice (gives patterns m))
        ∙ sym (length-append (each_below (λ i. if gives patterns i then [] else i ∷ []) m) (if gives patterns m then [] else m ∷ []))
      where
        choice : (b : Bool) → total (if b then [] else (complemented (X 0 m) ∷ []) ∷ []) ≡ length (if b then [] else m ∷ [])
        choice true = none_is 0 ∙ refl
        choice false = one_is (complemented (X 0 m) ∷ []) ∙ single (complemented (X 0 m))

    pub total-open : (patterns : List (List Bit3)) → total (zero_clauses z patterns) ≡ length (each_below (λ i. if gives patterns i then [] else i ∷ []) z.bits)
    unfolding zero_clauses
    total-open patterns = open_below patterns z.bits

    pub total-further : (kind : Template) (patterns : List (List Bit3)) → length patterns ≡ z.scenarios → All (λ pattern. length pattern ≡ z.bits) patterns → total (further_clauses kind z patterns) ≡ further_count kind z.bits patterns
    unfolding further_count
    total-further First patterns len fit = none_is 0 ∙ refl
    total-further Second patterns len fit = total-zeros z (λ i. single (complemented (X 0 i)))
    total-further Third patterns len fit = total-append (given_clauses z patterns) (zero_clauses z patterns) ∙ ap₂ (λ a b. a + b) (total-given patterns len fit) (total-open patterns)

-- ---- the two measures

total_same : (f g : List NamedLiteral → ℕ) (cs : List (List NamedLiteral)) → ((c : List NamedLiteral) → f c ≡ g c) → total f cs ≡ total g cs
unfolding total
total_same f g [] h = refl
total_same f g (c ∷ cs) h = ap₂ (λ a b. a + b) (h c) (total_same f g cs h)

pub length-as_clauses : (z : Shape) (cs : List (List NamedLiteral)) → length (as_clauses z cs) ≡ total (λ c. 1) cs
unfolding as_clauses total
length-as_clauses z [] = refl
length-as_clauses z (c ∷ cs) = suc_is (length (as_clauses z cs)) ∙ ap (λ k. 1 + k) (length-as_clauses z cs)
  where
    suc_is : (n : ℕ) → suc n ≡ 1 + n
    suc_is n = omega arith

pub literals-as_clauses : (z : Shape) (cs : List (List NamedLiteral)) → sum_by (λ c. length c) (as_clauses z cs) ≡ total (λ c. length c) cs
unfolding as_clauses as_clause total
literals-as_clauses z [] = refl
literals-as_clauses z (c ∷ cs) = sum_by-cons (λ c. length c) (as_clause z c) (as_clauses z cs) ∙ ap₂ (λ a b. a + b) (length-map c (numbered z)) (literals-as_clauses z cs)

module _ (kind : Template) (z : Shape) (patterns columns : List (List Bit3)) (patterns_len : length patterns ≡ z.scenarios) (patterns_fit : All (λ pattern. length pattern ≡ z.bits) patterns)
    (columns_len : length columns ≡ z.classes) (columns_fit : All (λ column. length column ≡ z.scenarios) columns) where
  parts : (f : List NamedLiteral → ℕ) → total f (named_template kind z patterns columns) ≡ total f (code_clauses z) + (total f (gate_clauses z) + (total f (class_clauses z columns) + total f (further_clauses kind z patterns)))
  parts f =
      let more = further_clauses kind z patterns in
      total-append f (code_clauses z) (gate_clauses z ++ (class_clauses z columns ++ more)) ∙ ap (λ k. total f (code_clauses z) + k)
      (total-append f (gate_clauses z) (class_clauses z columns ++ more) ∙ ap (λ k. total f (gate_clauses z) + k) (total-append f (class_clauses z columns) more))

  one : List NamedLiteral → ℕ
  one c = 1

  two_1 : (s t i : ℕ) → total one (differ_at s t i) ≡ 2
  unfolding total one
  two_1 s t i = refl

  seven_1 : (g j k s : ℕ) → total one (gate_clauses_at z g j k s) ≡ 7
  unfolding total one
  seven_1 g j k s = refl

  entry_1 : (c n s : ℕ) (e : Bit3) → total one (class_clauses_at z c n s e) ≡ (if is_given e then 2 else 0)
  unfolding total one
  entry_1 c n s Free = refl
  entry_1 c n s One = refl
  entry_1 c n s Zero = refl

  pub clauses_are : length (as_clauses z (named_template kind z patterns columns)) ≡
      pairs z.scenarios * (z.bits * 2 + 1) + ((z.gates * 1 + selections z.bits z.gates * (z.scenarios * 7 + 0))
      + ((z.classes * 1 + (z.bits + z.gates) * (sum_by (λ column. count_by is_given column) columns * 2)) + further_count kind z.bits patterns))
  unfolding one
  clauses_are = length-as_clauses z (named_template kind z patterns columns) ∙ parts one
      ∙ ap₂ (λ a b. a + b) (total-codes one z 2 7 2 two_1 seven_1 entry_1 1 (λ s t. refl))
      (ap₂ (λ a b. a + b) (total-gates one z 2 7 2 two_1 seven_1 entry_1 1 0 (λ g. once (pairs (z.bits + g))))
      (ap₂ (λ a b. a + b) (total-classes one z 2 7 2 two_1 seven_1 entry_1 columns 1 columns_len columns_fit (λ c. refl)) (total-further one z (λ x. refl) kind patterns patterns_len patterns_fit)))
    where
      once : (p : ℕ) → 1 ≡ 1 + p * 0
      once p = omega arith

  long : List NamedLiteral → ℕ
  long c = length c

  two_2 : (s t i : ℕ) → total long (differ_at s t i) ≡ 6
  unfolding total long
  two_2 s t i = refl

  seven_2 : (g j k s : ℕ) → total long (gate_clauses_at z g j k s) ≡ 34
  unfolding total long
  seven_2 g j k s = refl

  entry_2 : (c n s : ℕ) (e : Bit3) → total long (class_clauses_at z c n s e) ≡ (if is_given e then 6 else 0)
  unfolding total long
  entry_2 c n s Free = refl
  entry_2 c n s One = refl
  entry_2 c n s Zero = refl

  pub literals_are : sum_by (λ c. length c) (as_clauses z (named_template kind z patterns columns)) ≡
      pairs z.scenarios * (z.bits * 6 + z.bits) + ((z.gates * 0 + selections z.bits z.gates * (z.scenarios * 34 + 1))
      + ((z.classes * (z.bits + z.gates) + (z.bits + z.gates) * (sum_by (λ column. count_by is_given column) columns * 6)) + further_count kind z.bits patterns))
  unfolding long
  literals_are = literals-as_clauses z (named_template kind z patterns columns) ∙ parts long
      ∙ ap₂ (λ a b. a + b) (total-codes long z 6 34 6 two_2 seven_2 entry_2 z.bits (λ s t. ones (λ i. plain (D s t i)) z.bits))
      (ap₂ (λ a b. a + b) (total-gates long z 6 34 6 two_2 seven_2 entry_2 0 1 (λ g. length-rows (λ j k. plain (Sel g j k) ∷ []) (z.bits + g) (z.bits + g) 1 (λ j k. refl) ∙ once (pairs (z.bits + g))))
      (ap₂ (λ a b. a + b) (total-classes long z 6 34 6 two_2 seven_2 entry_2 columns (z.bits + z.gates) columns_len columns_fit (λ c. ones (λ n. plain (O c n)) (z.bits + z.gates))) (total-further long z (λ x. refl) kind patterns patterns_len patterns_fit)))
    where
      once : (p : ℕ) → p * 1 ≡ 0 + p * 1
      once p = omega arith
