-- Lists of words up to `0`, and the lines of a log.
use Rattle.std.proofs.Common.{◌≡◌, ℕ, ◌<◌, ◌≤◌, ◌^◌, Bool, true, false, List, [], ◌∷◌, ◌++◌, map, refl, sym, ap, ◌∙◌, arith, append_assoc}
use Rattle.std.specs.Prelude.{codes}
use Rattle.std.specs.List.{AllByRecursion}
use Rattle.std.specs.Fmt.{decimal}
use Rattle.std.proofs.lemmas.List.{append-nil}
use Rattle.std.proofs.lemmas.Fmt.{decimal_injective, decimal_nonempty}
use Rattle.clause_arena.specs.Clauses.{Lit, Clause}
use Rattle.proof_check.specs.Lines.{Line}
use Rattle.text_rows.specs.Words.{signed_word}
use Rattle.dimacs_text.specs.Logs.{ended, lit_word, IsLitWithin, LitsWithin, IsId, AreIds, SpellsLine}
use Rattle.text_rows.proofs.PlainLemmas.{no_minus, digit_in}

abbrev pub Words : Type 0
Words = List (List ℕ)

-- words of items, of which each tells its item and none is the end's
pub record Tells {X : Type 0} (word : X → List ℕ) (Fits : X → Type 0) : Type 0 where
  pub same : (a b : X) → Fits a → Fits b → word a ≡ word b → a ≡ b
  pub not_end : (a : X) → Fits a → word a ≡ decimal 0 → ⊥

-- what was read, and what is left
pub record IsRead {X : Type 0} (word : X → List ℕ) (Fits : X → Type 0) (words : Words) (items : List X) (rest : Words) : Type 0 where
  pub fit : AllByRecursion Fits items
  pub front : words ≡ map word items ++ rest

pub read_start : {X : Type 0} (word : X → List ℕ) (Fits : X → Type 0) (words rest : Words) → rest ≡ words → IsRead word Fits words [] rest
read_start word Fits words rest e = record { fit = tt; front = sym e }

map_push : {X : Type 0} (word : X → List ℕ) (items : List X) (x : X) (rest : Words) → map word (items ++ x ∷ []) ++ rest ≡ map word items ++ (word x ∷ rest)
map_push word [] x rest = refl
map_push word (y ∷ items) x rest = ap (λ (t : Words). word y ∷ t) (map_push word items x rest)

all_push : {X : Type 0} (Fits : X → Type 0) (items : List X) (x : X) → AllByRecursion Fits items → Fits x → AllByRecursion Fits (items ++ x ∷ [])
all_push Fits [] x h f = (f, tt)
all_push Fits (y ∷ items) x h f = (h.0, all_push Fits items x h.1 f)

pub read_more : {X : Type 0} (word : X → List ℕ) (Fits : X → Type 0) (words : Words) (items : List X) (x : X) (now rest : Words) → IsRead word Fits words items now → now ≡ word x ∷ rest → Fits x → IsRead word Fits words (items ++ x ∷ []) rest
read_more word Fits words items x now rest r e f = record {
  fit = all_push Fits items x r.fit f;
  front = r.front ∙ (ap (λ (t : Words). map word items ++ t) e ∙ sym (map_push word items x rest));
}

pub read_end : {X : Type 0} (word : X → List ℕ) (Fits : X → Type 0) (words : Words) (items : List X) (now rest : Words) → IsRead word Fits words items now → now ≡ decimal 0 ∷ rest → words ≡ ended (map word items) ++ rest
read_end word Fits words items now rest r e = r.front ∙ (ap (λ (t : Words). map word items ++ t) e ∙ sym (append_assoc (map word items) (decimal 0 ∷ []) rest))

-- other items that the words spell begin with what was read
pub told : {X : Type 0} (word : X → List ℕ) (Fits : X → Type 0) → Tells word Fits → (items ns : List X) (rest ws : Words) → AllByRecursion Fits items → AllByRecursion Fits ns → map word items ++ rest ≡ map word ns ++ (decimal 0 ∷ ws) → (more : List X) × AllByRecursion Fits more × (rest ≡ map word more ++ (decimal 0 ∷ ws))
told word Fits tells [] ns rest ws hi hn e = (ns, hn, e)
told word Fits tells (x ∷ items) [] rest ws hi hn e = absurd (tells.not_end x hi.0 (let h : word x ≡ decimal 0 = cc in h))
told {X} word Fits tells (x ∷ items) (n ∷ ns) rest ws hi hn e = told word Fits tells items ns rest ws hi.1 hn.1 (let h : map word items ++ rest ≡ map word ns ++ (decimal 0 ∷ ws) = cc in h)

ended_flat : (ws rest : Words) → ended ws ++ rest ≡ ws ++ (decimal 0 ∷ rest)
ended_flat ws rest = append_assoc ws (decimal 0 ∷ []) rest

-- no items are spelled where what is left begins with neither an item's word nor the end's
pub read_none : {X : Type 0} (word : X → List ℕ) (Fits : X → Type 0) → Tells word Fits → (words : Words) (items : List X) (rest : Words) → IsRead word Fits words items rest → ((t : Words) → rest ≡ decimal 0 ∷ t → ⊥) → ((x : X) (t : Words) → Fits x → rest ≡ word x ∷ t → ⊥) → (ns : List X) (ws : Words) → AllByRecursion Fits ns → words ≡ ended (map word ns) ++ ws → ⊥
read_none {X} word Fits tells words items rest r no_end no_item ns ws hn e =
    let t = told word Fits tells items ns rest ws r.fit hn (sym r.front ∙ (e ∙ ended_flat (map word ns) ws)) in
    left t.0 t.1 t.2
  where
    left : (more : List X) → AllByRecursion Fits more → rest ≡ map word more ++ (decimal 0 ∷ ws) → ⊥
    left [] h f = no_end ws f
    left (x ∷ more) h f = no_item x (map word more ++ (decimal 0 ∷ ws)) h.0 f

pub ids_tell : Tells decimal IsId
ids_tell = record {
  same = λ a b fa fb e. decimal_injective a b (omega (arith, fa.1)) (omega (arith, fb.1)) e;
  not_end = λ a fa e. absurd (omega (arith, fa.0, decimal_injective a 0 (omega (arith, fa.1)) (omega arith) e));
}

pub signed_same : (p q : Bool) (m n : ℕ) → m < 10000000000 → n < 10000000000 → signed_word p m ≡ signed_word q n → (p ≡ q) × (m ≡ n)
signed_same true true m n lm ln e = (refl, decimal_injective m n (omega arith) (omega arith) (let h : decimal m ≡ decimal n = cc in h))
signed_same false false m n lm ln e = (refl, decimal_injective m n (omega arith) (omega arith) e)
signed_same true false m n lm ln e = absurd (no_minus n (decimal m) [] ln (e ∙ sym (append-nil (decimal n))))
signed_same false true m n lm ln e = absurd (no_minus m (decimal n) [] lm (sym e ∙ sym (append-nil (decimal m))))

pub lits_tell : (variables : ℕ) → variables < 10000000000 → Tells lit_word (IsLitWithin variables)
lits_tell variables small = record {
  same = λ a b fa fb e. let s = signed_same a.negated b.negated a.var b.var (omega (arith, fa.1)) (omega (arith, fb.1)) e in λ i. record { var = s.1 i; negated = s.0 i };
  not_end = λ a fa e. absurd (omega (arith, fa.0, (signed_same a.negated false a.var 0 (omega (arith, fa.1)) (omega arith) e).1));
}

-- ---- where reading stops: what is left begins with a number that is no item, or with none

pub ids_stop : (words : Words) (items : List ℕ) (rest : Words) → IsRead decimal IsId words items rest → ((n : ℕ) (t : Words) → n < 10000000000 → rest ≡ decimal n ∷ t → (n ≡ 0 → ⊥) × (n < 4294967296 → ⊥)) → (ns : List ℕ) (ws : Words) → AreIds ns → words ≡ ended (map decimal ns) ++ ws → ⊥
ids_stop words items rest r stop ns ws hn e =
    read_none decimal IsId ids_tell words items rest r
    (λ t f. (stop 0 t (omega arith) f).0 refl)
    (λ x t fx f. (stop x t (omega (arith, fx.1)) f).1 fx.1) ns ws hn e

pub lits_stop : (variables : ℕ) → variables < 10000000000 → (words : Words) (items : List Lit) (rest : Words) → IsRead lit_word (IsLitWithin variables) words items rest → ((p : Bool) (n : ℕ) (t : Words) → n < 10000000000 → (p ≡ true → 0 < n) → rest ≡ signed_word p n ∷ t → (n ≡ 0 → ⊥) × (n ≤ variables → ⊥)) → (ns : List Lit) (ws : Words) → LitsWithin variables ns → words ≡ ended (map lit_word ns) ++ ws → ⊥
lits_stop variables small words items rest r stop ns ws hn e =
    read_none lit_word (IsLitWithin variables) (lits_tell variables small) words items rest r
    (λ t f. (stop false 0 t (omega arith) (λ h. let g : false ≡ true = h in absurd cc) f).0 refl)
    (λ x t fx f. (stop x.negated x.var t (omega (arith, fx.1)) (λ h. fx.0) f).1 fx.1) ns ws hn e

pub same_first : (m n : ℕ) (s t rest : Words) → m < 10000000000 → n < 10000000000 → rest ≡ decimal m ∷ s → rest ≡ decimal n ∷ t → m ≡ n
same_first m n s t rest lm ln e f = let g : (decimal m ∷ s) ≡ (decimal n ∷ t) = sym e ∙ f in decimal_injective m n (omega arith) (omega arith) (let h : decimal m ≡ decimal n = cc in h)

pub same_signed : (p q : Bool) (m n : ℕ) (s t rest : Words) → m < 10000000000 → n < 10000000000 → rest ≡ signed_word p m ∷ s → rest ≡ signed_word q n ∷ t → m ≡ n
same_signed p q m n s t rest lm ln e f = let g : (signed_word p m ∷ s) ≡ (signed_word q n ∷ t) = sym e ∙ f in (signed_same p q m n lm ln (let h : signed_word p m ≡ signed_word q n = cc in h)).1

-- ---- one line

abbrev pub NoLine : ℕ → ℕ → Words → Type 0
NoLine variables last words = (line : Line) → SpellsLine variables last line words → ⊥

pub heads : (a b : List ℕ) (s t words : Words) → words ≡ a ∷ s → words ≡ b ∷ t → a ≡ b
heads a b s t words e f = let g : (a ∷ s) ≡ (b ∷ t) = sym e ∙ f in cc

pub tails : (a b : List ℕ) (s t words : Words) → words ≡ a ∷ s → words ≡ b ∷ t → s ≡ t
tails a b s t words e f = let g : (a ∷ s) ≡ (b ∷ t) = sym e ∙ f in cc

-- a line begins with an id
pub no_id : (variables last : ℕ) (words : Words) → ((n : ℕ) (t : Words) → n < 10000000000 → words ≡ decimal n ∷ t → (0 < n → n < 4294967296 → ⊥)) → NoLine variables last words
no_id variables last words none (Line.Add id lits hints) s = none id _ (omega (arith, s.1)) s.4 (omega (arith, s.0)) s.1
no_id variables last words none (Line.Del ids) s = none s.1.0 _ (omega (arith, s.1.2)) s.1.3 s.1.1 s.1.2

letter_no_number : (n : ℕ) → n < 10000000000 → decimal n ≡ codes "d" → ⊥
letter_no_number n lt e = absurd (omega (arith, digit_in (codes "d") [] n 0 lt (decimal_nonempty n (let h : n < 2 ^ 64 = omega arith in h)) (sym e ∙ sym (append-nil (decimal n)))))

letter_no_signed : (p : Bool) (n : ℕ) → n < 10000000000 → signed_word p n ≡ codes "d" → ⊥
letter_no_signed true n lt e = absurd (apart 45 100 (decimal n) [] (omega arith) e)
  where
    apart : (a b : ℕ) (s t : List ℕ) → (a ≡ b → ⊥) → (a ∷ s) ≡ (b ∷ t) → ⊥
    apart a b s t ne f = ne (let g : a ≡ b = cc in g)
letter_no_signed false n lt e = letter_no_number n lt e

lits_small : (variables : ℕ) → variables < 10000000000 → (l : Lit) (ls : List Lit) → LitsWithin variables (l ∷ ls) → l.var < 10000000000
lits_small variables small l ls h = omega (arith, h.0.1)

-- behind the letter stand the ids of a deletion
pub no_deletion : (variables last id : ℕ) (words rest after : Words) → words ≡ decimal id ∷ rest → rest ≡ codes "d" ∷ after → variables < 10000000000 → ((ns : List ℕ) → AreIds ns → after ≡ ended (map decimal ns) → ⊥) → NoLine variables last words
no_deletion variables last id words rest after e d small none (Line.Del ids) s =
    none ids s.0 (tails (codes "d") (codes "d") after (ended (map decimal ids)) rest d (tails (decimal id) (decimal s.1.0) rest (codes "d" ∷ ended (map decimal ids)) words e s.1.3))
no_deletion variables last id words rest after e d small none (Line.Add i lits hints) s =
    let t : rest ≡ ended (map lit_word lits) ++ ended (map decimal hints) = tails (decimal id) (decimal i) rest _ words e s.4 in
    first_apart lits s.2 t
  where
    first_apart : (ls : List Lit) → LitsWithin variables ls → rest ≡ ended (map lit_word ls) ++ ended (map decimal hints) → ⊥
    first_apart [] w t = letter_no_number 0 (omega arith) (sym (heads (codes "d") (decimal 0) after _ rest d t))
    first_apart (l ∷ ls) w t = letter_no_signed l.negated l.var (lits_small variables small l ls w) (sym (heads (codes "d") (lit_word l) after _ rest d t))

abbrev pub NoLetter : Words → Type 0
NoLetter rest = (t : Words) → rest ≡ codes "d" ∷ t → ⊥

-- without the letter stand the literals and the hints of an addition, whose id is above the last
pub no_addition : (variables last id : ℕ) (words rest : Words) → words ≡ decimal id ∷ rest → id < 10000000000 → NoLetter rest → ((lits : List Lit) (hints : List ℕ) → last < id → LitsWithin variables lits → AreIds hints → rest ≡ ended (map lit_word lits) ++ ended (map decimal hints) → ⊥) → NoLine variables last words
no_addition variables last id words rest e lt letter none (Line.Del ids) s = letter _ (tails (decimal id) (decimal s.1.0) rest (codes "d" ∷ ended (map decimal ids)) words e s.1.3)
no_addition variables last id words rest e lt letter none (Line.Add i lits hints) s =
    let same : id ≡ i = same_first id i rest _ words lt (omega (arith, s.1)) e s.4 in
    none lits hints (omega (arith, s.0, same)) s.2 s.3 (tails (decimal id) (decimal i) rest _ words e s.4)

-- two lists of items up to the end are one, and what is behind them
pub same_items : {X : Type 0} (word : X → List ℕ) (Fits : X → Type 0) → Tells word Fits → (xs ys : List X) (s t : Words) → AllByRecursion Fits xs → AllByRecursion Fits ys → ended (map word xs) ++ s ≡ ended (map word ys) ++ t → s ≡ t
same_items {X} word Fits tells xs ys s t hx hy e =
    let r = told word Fits tells xs ys (decimal 0 ∷ s) t hx hy (sym (ended_flat (map word xs) s) ∙ (e ∙ ended_flat (map word ys) t)) in
    rest r.0 r.1 r.2
  where
    rest : (more : List X) → AllByRecursion Fits more → (decimal 0 ∷ s) ≡ map word more ++ (decimal 0 ∷ t) → s ≡ t
    rest [] h f = cc
    rest (x ∷ more) h f = absurd (tells.not_end x h.0 (let g : word x ≡ decimal 0 = cc in g))

ids_alone : (xs : List ℕ) (rest : Words) → ended (map decimal xs) ≡ ended (map decimal xs) ++ []
ids_alone xs rest = sym (append-nil (ended (map decimal xs)))

-- a deletion
pub is_deletion : (variables last id : ℕ) (words rest after last_words : Words) (ids : List ℕ) → words ≡ decimal id ∷ rest → rest ≡ codes "d" ∷ after → 0 < id → id < 4294967296 → AreIds ids → after ≡ ended (map decimal ids) ++ last_words → last_words ≡ [] → SpellsLine variables last (Line.Del ids) words
is_deletion variables last id words rest after end ids e d some lt h f none =
    (h, (id, some, lt, e ∙ ap (λ (t : Words). decimal id ∷ t) (d ∙ ap (λ (t : Words). codes "d" ∷ t) (f ∙ (ap (λ (t : Words). ended (map decimal ids) ++ t) none ∙ append-nil (ended (map decimal ids)))))))

-- an addition
pub is_addition : (variables last id : ℕ) (words rest after last_words : Words) (lits : List Lit) (hints : List ℕ) → words ≡ decimal id ∷ rest → last < id → id < 4294967296 → LitsWithin variables lits → AreIds hints → rest ≡ ended (map lit_word lits) ++ after → after ≡ ended (map decimal hints) ++ last_words → last_words ≡ [] → SpellsLine variables last (Line.Add id lits hints) words
is_addition variables last id words rest after end lits hints e above lt hl hh f g none =
    (above, lt, hl, hh, e ∙ ap (λ (t : Words). decimal id ∷ t) (f ∙ ap (λ (t : Words). ended (map lit_word lits) ++ t) (g ∙ (ap (λ (t : Words). ended (map decimal hints) ++ t) none ∙ append-nil (ended (map decimal hints))))))

-- something is left behind the ids
pub ids_left : (ids ns : List ℕ) (words rest : Words) → AreIds ids → AreIds ns → words ≡ ended (map decimal ids) ++ rest → (rest ≡ [] → ⊥) → words ≡ ended (map decimal ns) → ⊥
ids_left ids ns words rest hi hn e some f = some (same_items decimal IsId ids_tell ids ns rest [] hi hn (sym e ∙ (f ∙ sym (append-nil (ended (map decimal ns))))))

-- behind the literals that were read stands what the hints spell
pub lits_behind : (variables : ℕ) → variables < 10000000000 → (lits ls : List Lit) (rest after : Words) (hints : List ℕ) → LitsWithin variables lits → LitsWithin variables ls → rest ≡ ended (map lit_word lits) ++ after → rest ≡ ended (map lit_word ls) ++ ended (map decimal hints) → after ≡ ended (map decimal hints)
lits_behind variables small lits ls rest after hints hl hs e f = same_items lit_word (IsLitWithin variables) (lits_tell variables small) lits ls after (ended (map decimal hints)) hl hs (sym e ∙ f)

-- words tell the items up to the end
items_told : {X : Type 0} (word : X → List ℕ) (Fits : X → Type 0) → Tells word Fits → (xs ys : List X) (s t : Words) → AllByRecursion Fits xs → AllByRecursion Fits ys → map word xs ++ (decimal 0 ∷ s) ≡ map word ys ++ (decimal 0 ∷ t) → xs ≡ ys
items_told word Fits tells [] [] s t hx hy e = refl
items_told word Fits tells [] (y ∷ ys) s t hx hy e = absurd (tells.not_end y hy.0 (let h : word y ≡ decimal 0 = cc in h))
items_told word Fits tells (x ∷ xs) [] s t hx hy e = absurd (tells.not_end x hx.0 (let h : word x ≡ decimal 0 = cc in h))
items_told {X} word Fits tells (x ∷ xs) (y ∷ ys) s t hx hy e =
    let first : x ≡ y = tells.same x y hx.0 hy.0 (let h : word x ≡ word y = cc in h) in
    let rest : xs ≡ ys = items_told word Fits tells xs ys s t hx.1 hy.1 (let h : map word xs ++ (decimal 0 ∷ s) ≡ map word ys ++ (decimal 0 ∷ t) = cc in h) in
    λ i. first i ∷ rest i

pub ended_told : {X : Type 0} (word : X → List ℕ) (Fits : X → Type 0) → Tells word Fits → (xs ys : List X) (s t : Words) → AllByRecursion Fits xs → AllByRecursion Fits ys → ended (map word xs) ++ s ≡ ended (map word ys) ++ t → xs ≡ ys
ended_told word Fits tells xs ys s t hx hy e = items_told word Fits tells xs ys s t hx hy (sym (ended_flat (map word xs) s) ∙ (e ∙ ended_flat (map word ys) t))

ids_told : (xs ys : List ℕ) → AreIds xs → AreIds ys → ended (map decimal xs) ≡ ended (map decimal ys) → xs ≡ ys
ids_told xs ys hx hy e = ended_told decimal IsId ids_tell xs ys [] [] hx hy (append-nil (ended (map decimal xs)) ∙ (e ∙ sym (append-nil (ended (map decimal ys)))))

add_no_del : (variables : ℕ) → variables < 10000000000 → (last : ℕ) (words : Words) (i : ℕ) (ls : Clause) (hs ids : List ℕ) → SpellsLine variables last (Line.Add i ls hs) words → SpellsLine variables last (Line.Del ids) words → ⊥
add_no_del variables small last words i ls hs ids a b = first_apart ls a.2 (tails (decimal b.1.0) (decimal i) (codes "d" ∷ ended (map decimal ids)) _ words b.1.3 a.4)
  where
    first_apart : (ms : List Lit) → LitsWithin variables ms → (codes "d" ∷ ended (map decimal ids)) ≡ ended (map lit_word ms) ++ ended (map decimal hs) → ⊥
    first_apart [] w t = letter_no_number 0 (omega arith) (sym (heads (codes "d") (decimal 0) (ended (map decimal ids)) _ (codes "d" ∷ ended (map decimal ids)) refl t))
    first_apart (l ∷ ms) w t = letter_no_signed l.negated l.var (lits_small variables small l ms w) (sym (heads (codes "d") (lit_word l) (ended (map decimal ids)) _ (codes "d" ∷ ended (map decimal ids)) refl t))

-- the words of a line tell the line
pub line_told : (variables : ℕ) → variables < 10000000000 → (last : ℕ) (words : Words) (d e : Line) → SpellsLine variables last d words → SpellsLine variables last e words → d ≡ e
line_told variables small last words (Line.Add i ls hs) (Line.Add j ms ks) a b =
    let id : i ≡ j = same_first i j _ _ words (omega (arith, a.1)) (omega (arith, b.1)) a.4 b.4 in
    let rest : ended (map lit_word ls) ++ ended (map decimal hs) ≡ ended (map lit_word ms) ++ ended (map decimal ks) = tails (decimal i) (decimal j) _ _ words a.4 b.4 in
    let lits : ls ≡ ms = ended_told lit_word (IsLitWithin variables) (lits_tell variables small) ls ms (ended (map decimal hs)) (ended (map decimal ks)) a.2 b.2 rest in
    let behind : ended (map decimal hs) ≡ ended (map decimal ks) = same_items lit_word (IsLitWithin variables) (lits_tell variables small) ls ms (ended (map decimal hs)) (ended (map decimal ks)) a.2 b.2 rest in
    let hints : hs ≡ ks = ids_told hs ks a.3 b.3 behind in
    λ x. Line.Add (id x) (lits x) (hints x)
line_told variables small last words (Line.Del ids) (Line.Del others) a b =
    let rest : (codes "d" ∷ ended (map decimal ids)) ≡ (codes "d" ∷ ended (map decimal others)) = tails (decimal a.1.0) (decimal b.1.0) _ _ words a.1.3 b.1.3 in
    let same : ids ≡ others = ids_told ids others a.0 b.0 (tails (codes "d") (codes "d") (ended (map decimal ids)) (ended (map decimal others)) (codes "d" ∷ ended (map decimal ids)) refl rest) in
    λ x. Line.Del (same x)
line_told variables small last words (Line.Add i ls hs) (Line.Del ids) a b = absurd (add_no_del variables small last words i ls hs ids a b)
line_told variables small last words (Line.Del ids) (Line.Add i ls hs) a b = absurd (add_no_del variables small last words i ls hs ids b a)
