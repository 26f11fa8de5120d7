-- A text has one reading, and one fault at most.
use Rattle.std.specs.Prelude.{◌≡◌, ℕ, ◌+◌, ◌<◌, ◌≤◌, List, [], ◌∷◌, ◌++◌, length, Option, refl}
use Rattle.std.proofs.Common.{sym, ◌∙◌, ap, ap₂, subst, arith}
use Rattle.std.specs.List.{AllByRecursion}
use Rattle.cpog_base.specs.declared.limits.Counted.{Counted}
use Rattle.cpog_base.specs.declared.limits.Counted.TheVariants as counted
use Rattle.pg_text.specs.declared.fault.FileFault.{FileFault}
use Rattle.pg_text.specs.declared.fault.FileFault.TheVariants as fault
use Rattle.pg_text.specs.Lines.{graph_lines, IsFirstBad}
use Rattle.pg_text.specs.Sentences.{Sentence}
use Rattle.pg_text.specs.Contents.{Contents}
use Rattle.pg_text.specs.Text.{IsGoodLine, AreSpelled, statements_from, names_after, count_of, IsReadAs, IsFileOf, IsFirstPassed, IsFileFault}
use Rattle.pg_text.proofs.SentenceLaws.{same_line}

same_sentences : (xs ys : List (Option Sentence)) (lines : List (List ℕ)) → AreSpelled xs lines → AreSpelled ys lines → xs ≡ ys
same_sentences [] [] lines h k = refl
same_sentences [] (y ∷ ys) [] h k = absurd k
same_sentences [] (y ∷ ys) (line ∷ lines) h k = absurd h
same_sentences (x ∷ xs) [] [] h k = absurd h
same_sentences (x ∷ xs) [] (line ∷ lines) h k = absurd k
same_sentences (x ∷ xs) (y ∷ ys) [] h k = absurd h
same_sentences (x ∷ xs) (y ∷ ys) (line ∷ lines) h k = ap₂ (λ z zs. z ∷ zs) (same_line x y line h.0 k.0) (same_sentences xs ys lines h.1 k.1)

same_contents : (a b : Contents) → a.statements ≡ b.statements → a.operations ≡ b.operations → a ≡ b
same_contents a b s o = λ i. record { statements = s i; operations = o i }

pub one_reading : (bytes : List ℕ) (a b : Contents) → IsReadAs bytes a → IsReadAs bytes b → a ≡ b
one_reading bytes a b h k =
    let same = same_sentences h.sentences k.sentences (graph_lines bytes) h.spelled k.spelled in
    same_contents a b (h.statements ∙ ap (statements_from 1 []) same ∙ sym k.statements) (h.operations ∙ ap (names_after []) same ∙ sym k.operations)

pub one_file : (bytes : List ℕ) (a b : Contents) → IsFileOf bytes a → IsFileOf bytes b → a ≡ b
one_file bytes a b h k = one_reading bytes a b h.reads k.reads

-- ---- the first bad line

split_good : (Good : List ℕ → Type 0) (xs : List (List ℕ)) (line : List ℕ) (ys : List (List ℕ)) → AllByRecursion Good (xs ++ line ∷ ys) → Good line
split_good Good [] line ys h = h.0
split_good Good (x ∷ xs) line ys h = split_good Good xs line ys h.1

pub no_bad : (Good : List ℕ → Type 0) (lines : List (List ℕ)) (n : ℕ) → AllByRecursion Good lines → IsFirstBad Good lines n → ⊥
no_bad Good lines n all bad = bad.bad (split_good Good bad.before bad.line bad.after (subst (AllByRecursion Good) bad.whole all))

head_of : (x y : List ℕ) (xs ys : List (List ℕ)) → x ∷ xs ≡ y ∷ ys → x ≡ y
head_of x y xs ys e = cc

tail_of : (x y : List ℕ) (xs ys : List (List ℕ)) → x ∷ xs ≡ y ∷ ys → xs ≡ ys
tail_of x y xs ys e = cc

same_length : (Good : List ℕ → Type 0) (xs ys : List (List ℕ)) (x y : List ℕ) (more others : List (List ℕ))
    → xs ++ x ∷ more ≡ ys ++ y ∷ others → AllByRecursion Good xs → AllByRecursion Good ys → (Good x → ⊥) → (Good y → ⊥) → length xs ≡ length ys
same_length Good [] [] x y more others e h k hx hy = refl
same_length Good [] (z ∷ ys) x y more others e h k hx hy = absurd (hx (subst Good (sym (head_of x z more (ys ++ y ∷ others) e)) k.0))
same_length Good (z ∷ xs) [] x y more others e h k hx hy = absurd (hy (subst Good (head_of z y (xs ++ x ∷ more) others e) h.0))
same_length Good (z ∷ xs) (w ∷ ys) x y more others e h k hx hy =
    let same = same_length Good xs ys x y more others (tail_of z w (xs ++ x ∷ more) (ys ++ y ∷ others) e) h.1 k.1 hx hy in omega arith

pub one_first_bad : (Good : List ℕ → Type 0) (lines : List (List ℕ)) (m n : ℕ) → IsFirstBad Good lines m → IsFirstBad Good lines n → m ≡ n
one_first_bad Good lines m n h k =
    let same = same_length Good h.before k.before h.line k.line h.after k.after (sym h.whole ∙ k.whole) h.good k.good h.bad k.bad in
    h.number ∙ ap (λ i. i + 1) same ∙ sym k.number

pub good_lines : (xs : List (Option Sentence)) (lines : List (List ℕ)) → AreSpelled xs lines → AllByRecursion IsGoodLine lines
good_lines [] [] h = tt
good_lines [] (line ∷ lines) h = absurd h
good_lines (x ∷ xs) [] h = absurd h
good_lines (x ∷ xs) (line ∷ lines) h = ((x, h.0), good_lines xs lines h.1)

pub no_bad_line : (bytes : List ℕ) (f : Contents) (n : ℕ) → IsReadAs bytes f → IsFirstBad IsGoodLine (graph_lines bytes) n → ⊥
no_bad_line bytes f n reads bad = no_bad IsGoodLine (graph_lines bytes) n (good_lines reads.sentences (graph_lines bytes) reads.spelled) bad

-- ---- one fault

-- of two readings of a text what is counted is the same
few_or_many : (count : Contents → ℕ) (limit : ℕ) (bytes : List ℕ) (a b : Contents) → IsReadAs bytes a → IsReadAs bytes b → count a ≤ limit → limit < count b → ⊥
few_or_many count limit bytes a b h k few many = let same = ap count (one_reading bytes a b h k) in omega arith

abbrev params : Contents → ℕ
params f = count_of counted.Params f.statements

abbrev graphs : Contents → ℕ
graphs f = count_of counted.Graphs f.statements

abbrev scenarios : Contents → ℕ
scenarios f = count_of counted.Scenarios f.statements

abbrev operations : Contents → ℕ
operations f = length f.operations

-- which counts are within their limits where one is the first to pass
module _ (bytes : List ℕ) (a b : Contents) (h : IsReadAs bytes a) (k : IsReadAs bytes b) where
  -- a file whose first counts are within their limits has no such count that passes in another reading
  one_first : (what other : Counted) (m n : ℕ) → IsFirstPassed a what m → IsFirstPassed b other n → (what ≡ other) × (m ≡ n)
  one_first counted.Params counted.Params m n p q = (refl, p.1 ∙ sym q.1)
  one_first counted.Params counted.Graphs m n p q = absurd (few_or_many params 6 bytes b a k h q.0 p.0)
  one_first counted.Params counted.Scenarios m n p q = absurd (few_or_many params 6 bytes b a k h q.0 p.0)
  one_first counted.Params counted.Operations m n p q = absurd (few_or_many params 6 bytes b a k h q.0 p.0)
  one_first counted.Graphs counted.Params m n p q = absurd (few_or_many params 6 bytes a b h k p.0 q.0)
  one_first counted.Graphs counted.Graphs m n p q = (refl, p.2 ∙ sym q.2)
  one_first counted.Graphs counted.Scenarios m n p q = absurd (few_or_many graphs 256 bytes b a k h q.1 p.1)
  one_first counted.Graphs counted.Operations m n p q = absurd (few_or_many graphs 256 bytes b a k h q.1 p.1)
  one_first counted.Scenarios counted.Params m n p q = absurd (few_or_many params 6 bytes a b h k p.0 q.0)
  one_first counted.Scenarios counted.Graphs m n p q = absurd (few_or_many graphs 256 bytes a b h k p.1 q.1)
  one_first counted.Scenarios counted.Scenarios m n p q = (refl, p.3 ∙ sym q.3)
  one_first counted.Scenarios counted.Operations m n p q = absurd (few_or_many scenarios 64 bytes b a k h q.2 p.2)
  one_first counted.Operations counted.Params m n p q = absurd (few_or_many params 6 bytes a b h k p.0 q.0)
  one_first counted.Operations counted.Graphs m n p q = absurd (few_or_many graphs 256 bytes a b h k p.1 q.1)
  one_first counted.Operations counted.Scenarios m n p q = absurd (few_or_many scenarios 64 bytes a b h k p.2 q.2)
  one_first counted.Operations counted.Operations m n p q = (refl, p.4 ∙ sym q.4)
  one_first counted.Params counted.Input m n p q = absurd q
  one_first counted.Params counted.Bits m n p q = absurd q
  one_first counted.Params counted.Template m n p q = absurd q
  one_first counted.Params counted.Variables m n p q = absurd q
  one_first counted.Graphs counted.Input m n p q = absurd q
  one_first counted.Graphs counted.Bits m n p q = absurd q
  one_first counted.Graphs counted.Template m n p q = absurd q
  one_first counted.Graphs counted.Variables m n p q = absurd q
  one_first counted.Scenarios counted.Input m n p q = absurd q
  one_first counted.Scenarios counted.Bits m n p q = absurd q
  one_first counted.Scenarios counted.Template m n p q = absurd q
  one_first counted.Scenarios counted.Variables m n p q = absurd q
  one_first counted.Operations counted.Input m n p q = absurd q
  one_first counted.Operations counted.Bits m n p q = absurd q
  one_first counted.Operations counted.Template m n p q = absurd q
  one_first counted.Operations counted.Variables m n p q = absurd q
  one_first counted.Input other m n p q = absurd p
  one_first counted.Bits other m n p q = absurd p
  one_first counted.Template other m n p q = absurd p
  one_first counted.Variables other m n p q = absurd p

-- want of memory aside, a text has one fault at most
pub one_fault : (bytes : List ℕ) (f g : FileFault) → IsFileFault bytes f → IsFileFault bytes g → (f ≡ fault.Memory → ⊥) → (g ≡ fault.Memory → ⊥) → f ≡ g
one_fault bytes (fault.BadLine m) (fault.BadLine n) h k a b = ap fault.BadLine (one_first_bad IsGoodLine (graph_lines bytes) m n h k)
one_fault bytes (fault.BadLine m) (fault.Limit what limit) h k a b = absurd (no_bad_line bytes k.file m k.reads h)
one_fault bytes (fault.BadLine m) fault.Memory h k a b = absurd (b refl)
one_fault bytes (fault.Limit what limit) (fault.BadLine n) h k a b = absurd (no_bad_line bytes h.file n h.reads k)
one_fault bytes (fault.Limit what limit) (fault.Limit other bound) h k a b = let e = one_first bytes h.file k.file h.reads k.reads what other limit bound h.passes k.passes in ap₂ fault.Limit e.0 e.1
one_fault bytes (fault.Limit what limit) fault.Memory h k a b = absurd (b refl)
one_fault bytes fault.Memory g h k a b = absurd (a refl)

no_first : (bytes : List ℕ) (c f : Contents) (what : Counted) (limit : ℕ) → IsFileOf bytes c → IsReadAs bytes f → IsFirstPassed f what limit → ⊥
no_first bytes c f counted.Params limit h k p = few_or_many params 6 bytes c f h.reads k h.few_params p.0
no_first bytes c f counted.Graphs limit h k p = few_or_many graphs 256 bytes c f h.reads k h.few_graphs p.1
no_first bytes c f counted.Scenarios limit h k p = few_or_many scenarios 64 bytes c f h.reads k h.few_scenarios p.2
no_first bytes c f counted.Operations limit h k p = few_or_many operations 64 bytes c f h.reads k h.few_operations p.3
no_first bytes c f counted.Input limit h k p = p
no_first bytes c f counted.Bits limit h k p = p
no_first bytes c f counted.Template limit h k p = p
no_first bytes c f counted.Variables limit h k p = p

-- a text with a file has no fault but want of memory
pub file_has_no_fault : (bytes : List ℕ) (c : Contents) (f : FileFault) → IsFileOf bytes c → IsFileFault bytes f → f ≡ fault.Memory
file_has_no_fault bytes c (fault.BadLine n) h k = absurd (no_bad_line bytes c n h.reads k)
file_has_no_fault bytes c (fault.Limit what limit) h k = absurd (no_first bytes c k.file what limit h k.reads k.passes)
file_has_no_fault bytes c fault.Memory h k = refl
