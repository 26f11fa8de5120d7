-- What is written is read.
use Rattle.std.proofs.Common.{◌≡◌, ◌≢◌, ℕ, ◌+◌, ◌<◌, ◌^◌, Bool, true, false, ◌==◌, List, [], ◌∷◌, ◌++◌, length, map, take, get_or, slice_index_or, refl, sym, ap, ap₂, ◌∙◌, subst, arith, append_assoc, lit<}
use Rattle.std.specs.Prelude.{codes, slice_index}
use Rattle.std.specs.List.{AllByRecursion, flat_map}
use Rattle.std.specs.Fmt.{decimal}
use Rattle.std.proofs.lemmas.Bool.{ne_eqb}
use Rattle.std.proofs.lemmas.List.{append-nil, take_more, get_or_append_left}
use Rattle.std.proofs.lemmas.Fmt.{decimal_nonempty, decimal_digit}
use Rattle.clause_arena.specs.Clauses.{Clause}
use Rattle.line_text.specs.Lines.{text_of}
use Rattle.proof_check.specs.Lines.{Line, no_line, line_at, Rise, last_id, ArePositive, LinesPositive}
use Rattle.text_rows.specs.Words.{tokens, spaced, IsWord, signed_word}
use Rattle.text_rows.specs.Lines.{free_lines, IsUnbroken}
use Rattle.text_rows.proofs.PlainLemmas.{digit_in}
use Rattle.text_rows.proofs.WritingLemmas.{words_read, lines_read, decimal_word, spaced_unbroken}
use Rattle.dimacs_text.specs.Logs.{ended, lit_word, LitsWithin, AreIds, SpellsLog, is_passed}
use Rattle.dimacs_text.specs.Formulas.{body_words, clause_words, clauses_words, AreClauses, header_words, SpellsFormula}
use Rattle.dimacs_text.specs.Writing.{blanked, formula_lines, written_words, written_lines, log_lines, LineFits, line_within, LinesWithin}
use Rattle.dimacs_text.proofs.EntryLemmas.{Words}

-- ---- words up to `0`

pub spaced_cons : (w x : List ℕ) (ws : Words) → spaced (w ∷ x ∷ ws) ≡ (w ++ 32 ∷ []) ++ spaced (x ∷ ws)
spaced_cons w x ws = sym (append_assoc w (32 ∷ []) (spaced (x ∷ ws)))

pub spaced_behind : (ws : Words) (x : List ℕ) (more : Words) → spaced (ws ++ x ∷ more) ≡ blanked ws ++ spaced (x ∷ more)
spaced_behind [] x more = refl
spaced_behind (w ∷ []) x more = spaced_cons w x more ∙ ap (λ (t : List ℕ). t ++ spaced (x ∷ more)) (sym (append-nil (w ++ 32 ∷ [])))
spaced_behind (w ∷ v ∷ ws) x more = spaced_cons w v (ws ++ x ∷ more) ∙ (ap (λ (t : List ℕ). (w ++ 32 ∷ []) ++ t) (spaced_behind (v ∷ ws) x more) ∙ sym (append_assoc (w ++ 32 ∷ []) (blanked (v ∷ ws)) (spaced (x ∷ more))))

pub spaced_ended : (ws : Words) → spaced (ended ws) ≡ blanked ws ++ decimal 0
spaced_ended ws = spaced_behind ws (decimal 0) []

zero_text : decimal 0 ≡ 48 ∷ []
zero_text = decimal_digit 0 (lit< tt)

-- a clause
pub clause_written : (start now new : List ℕ) (c : Clause) → now ≡ start ++ blanked (map lit_word c) → new ≡ now ++ (48 ∷ 10 ∷ []) → new ≡ start ++ (spaced (clause_words c) ++ 10 ∷ [])
clause_written start now new c e f =
    let b = blanked (map lit_word c) in
    f ∙ (ap (λ (t : List ℕ). t ++ (48 ∷ 10 ∷ [])) e ∙ (append_assoc start b (48 ∷ 10 ∷ [])
    ∙ ap (λ (t : List ℕ). start ++ t) (sym (ap (λ (t : List ℕ). t ++ 10 ∷ []) (spaced_ended (map lit_word c) ∙ ap (λ (t : List ℕ). b ++ t) zero_text) ∙ append_assoc b (48 ∷ []) (10 ∷ [])))))

-- an addition
addition_spaced : (d : List ℕ) (ls hs : Words) → spaced (d ∷ (ended ls ++ ended hs)) ≡ ((d ++ 32 ∷ []) ++ blanked ls) ++ ((((48 ∷ []) ++ 32 ∷ []) ++ blanked hs) ++ 48 ∷ [])
addition_spaced d ls hs =
    ap (λ (t : Words). spaced (d ∷ t)) (append_assoc ls (decimal 0 ∷ []) (ended hs))
    ∙ (spaced_behind (d ∷ ls) (decimal 0) (ended hs)
    ∙ (ap (λ (t : List ℕ). ((d ++ 32 ∷ []) ++ blanked ls) ++ t) (spaced_ended (decimal 0 ∷ hs))
    ∙ ap (λ (z : List ℕ). ((d ++ 32 ∷ []) ++ blanked ls) ++ (((z ++ 32 ∷ []) ++ blanked hs) ++ z)) zero_text))

flat : (a d bl z bh y : List ℕ) → ((((a ++ d) ++ bl) ++ z) ++ bh) ++ y ≡ a ++ (d ++ (bl ++ (z ++ (bh ++ y))))
flat a d bl z bh y = append_assoc (((a ++ d) ++ bl) ++ z) bh y ∙ (append_assoc ((a ++ d) ++ bl) z (bh ++ y) ∙ (append_assoc (a ++ d) bl (z ++ (bh ++ y)) ∙ append_assoc a d (bl ++ (z ++ (bh ++ y)))))

nested : (d bl z bh e t : List ℕ) → ((d ++ bl) ++ ((z ++ bh) ++ e)) ++ t ≡ d ++ (bl ++ (z ++ (bh ++ (e ++ t))))
nested d bl z bh e t =
    append_assoc (d ++ bl) ((z ++ bh) ++ e) t ∙ (append_assoc d bl (((z ++ bh) ++ e) ++ t)
    ∙ ap (λ (x : List ℕ). d ++ (bl ++ x)) (append_assoc (z ++ bh) e t ∙ append_assoc z bh (e ++ t)))

pub addition_written : (start n1 n2 n3 n4 new d : List ℕ) (ls hs : Words) → n1 ≡ start ++ (d ++ 32 ∷ []) → n2 ≡ n1 ++ blanked ls → n3 ≡ n2 ++ (48 ∷ 32 ∷ []) → n4 ≡ n3 ++ blanked hs → new ≡ n4 ++ (48 ∷ 10 ∷ []) → new ≡ start ++ (spaced (d ∷ (ended ls ++ ended hs)) ++ 10 ∷ [])
addition_written start n1 n2 n3 n4 new d ls hs a b c e f =
    f ∙ (ap (λ (t : List ℕ). t ++ (48 ∷ 10 ∷ [])) (e ∙ ap (λ (t : List ℕ). t ++ blanked hs) (c ∙ ap (λ (t : List ℕ). t ++ (48 ∷ 32 ∷ [])) (b ∙ ap (λ (t : List ℕ). t ++ blanked ls) a)))
    ∙ (flat start (d ++ 32 ∷ []) (blanked ls) (48 ∷ 32 ∷ []) (blanked hs) (48 ∷ 10 ∷ [])
    ∙ ap (λ (t : List ℕ). start ++ t) (sym (ap (λ (t : List ℕ). t ++ 10 ∷ []) (addition_spaced d ls hs) ∙ nested (d ++ 32 ∷ []) (blanked ls) (48 ∷ 32 ∷ []) (blanked hs) (48 ∷ []) (10 ∷ [])))))

-- a deletion
pub deletion_written : (start n1 n2 new d : List ℕ) (is : Words) → n1 ≡ start ++ (d ++ 32 ∷ 100 ∷ 32 ∷ []) → n2 ≡ n1 ++ blanked is → new ≡ n2 ++ (48 ∷ 10 ∷ []) → new ≡ start ++ (spaced (d ∷ codes "d" ∷ ended is) ++ 10 ∷ [])
deletion_written start n1 n2 new d is a b f =
    let front = d ++ 32 ∷ 100 ∷ 32 ∷ [] in
    let words : spaced (d ∷ codes "d" ∷ ended is) ≡ front ++ (blanked is ++ 48 ∷ []) =
    spaced_behind (d ∷ codes "d" ∷ is) (decimal 0) []
    ∙ (ap (λ (z : List ℕ). ((d ++ 32 ∷ []) ++ (100 ∷ 32 ∷ blanked is)) ++ z) zero_text
    ∙ (append_assoc (d ++ 32 ∷ []) (100 ∷ 32 ∷ blanked is) (48 ∷ []) ∙ (append_assoc d (32 ∷ []) (100 ∷ 32 ∷ (blanked is ++ 48 ∷ [])) ∙ sym (append_assoc d (32 ∷ 100 ∷ 32 ∷ []) (blanked is ++ 48 ∷ []))))) in
    f ∙ (ap (λ (t : List ℕ). t ++ (48 ∷ 10 ∷ [])) (b ∙ ap (λ (t : List ℕ). t ++ blanked is) a)
    ∙ (append_assoc (start ++ front) (blanked is) (48 ∷ 10 ∷ []) ∙ (append_assoc start front (blanked is ++ (48 ∷ 10 ∷ []))
    ∙ ap (λ (t : List ℕ). start ++ t) (sym (ap (λ (t : List ℕ). t ++ 10 ∷ []) words ∙ (append_assoc front (blanked is ++ 48 ∷ []) (10 ∷ []) ∙ ap (λ (t : List ℕ). front ++ t) (append_assoc (blanked is) (48 ∷ []) (10 ∷ []))))))))

-- ---- lines, one after another

pub text_more : (xs : Words) (y : List ℕ) → text_of (xs ++ y ∷ []) ≡ text_of xs ++ (y ++ 10 ∷ [])
text_more [] y = append-nil (y ++ 10 ∷ [])
text_more (x ∷ xs) y = ap (λ (t : List ℕ). (x ++ 10 ∷ []) ++ t) (text_more xs y) ∙ sym (append_assoc (x ++ 10 ∷ []) (text_of xs) (y ++ 10 ∷ []))

map_more : (f : Clause → List ℕ) (xs : List Clause) (x : Clause) → map f (xs ++ x ∷ []) ≡ map f xs ++ f x ∷ []
map_more f [] x = refl
map_more f (y ∷ xs) x = ap (λ (t : Words). f y ∷ t) (map_more f xs x)

abbrev pub clause_lines : List Clause → Words
clause_lines cs = map (λ c. spaced (clause_words c)) cs

pub clauses_more : (cs : List Clause) (i : ℕ) (c : Clause) (start now new : List ℕ) → i < length cs → c ≡ slice_index_or cs i [] → now ≡ start ++ text_of (clause_lines (take i cs)) → new ≡ now ++ (spaced (clause_words c) ++ 10 ∷ []) → new ≡ start ++ text_of (clause_lines (take (i + 1) cs))
clauses_more cs i c start now new lt at e g =
    let more : take (i + 1) cs ≡ take i cs ++ c ∷ [] = take_more cs i [] lt ∙ ap (λ (y : Clause). take i cs ++ y ∷ []) (sym at) in
    g ∙ (ap (λ (t : List ℕ). t ++ (spaced (clause_words c) ++ 10 ∷ [])) e ∙ (append_assoc start (text_of (clause_lines (take i cs))) (spaced (clause_words c) ++ 10 ∷ [])
    ∙ ap (λ (t : List ℕ). start ++ t) (sym (ap (λ (ys : List Clause). text_of (clause_lines ys)) more ∙ (ap text_of (map_more (λ d. spaced (clause_words d)) (take i cs) c) ∙ text_more (clause_lines (take i cs)) (spaced (clause_words c)))))))

pub written_more : (w : ℕ) (ls : List Line) (l : Line) → written_lines w (ls ++ l ∷ []) ≡ written_lines w ls ++ spaced (written_words (last_id w ls) l) ∷ []
written_more w [] (Line.Add id lits hints) = refl
written_more w [] (Line.Del ids) = refl
written_more w (Line.Add id lits hints ∷ ls) l = ap (λ (t : Words). spaced (written_words w (Line.Add id lits hints)) ∷ t) (written_more id ls l)
written_more w (Line.Del ids ∷ ls) l = ap (λ (t : Words). spaced (written_words w (Line.Del ids)) ∷ t) (written_more w ls l)

pub one_more : (lines : List Line) (i : ℕ) (l : Line) → i < length lines → l ≡ line_at lines i → take (i + 1) lines ≡ take i lines ++ l ∷ []
one_more lines i l lt at = take_more lines i no_line lt ∙ ap (λ (y : Line). take i lines ++ y ∷ []) (sym at)

pub lines_more : (lines : List Line) (i last : ℕ) (l : Line) (start now new : List ℕ) → i < length lines → l ≡ line_at lines i → last ≡ last_id 1 (take i lines) → now ≡ start ++ text_of (written_lines 1 (take i lines)) → new ≡ now ++ (spaced (written_words last l) ++ 10 ∷ []) → new ≡ start ++ text_of (written_lines 1 (take (i + 1) lines))
lines_more lines i last l start now new lt at last_is e g =
    let t = take i lines in
    let written : written_lines 1 (take (i + 1) lines) ≡ written_lines 1 t ++ spaced (written_words last l) ∷ [] =
    ap (written_lines 1) (one_more lines i l lt at) ∙ (written_more 1 t l ∙ ap (λ (k : ℕ). written_lines 1 t ++ spaced (written_words k l) ∷ []) (sym last_is)) in
    g ∙ (ap (λ (x : List ℕ). x ++ (spaced (written_words last l) ++ 10 ∷ [])) e ∙ (append_assoc start (text_of (written_lines 1 t)) (spaced (written_words last l) ++ 10 ∷ [])
    ∙ ap (λ (x : List ℕ). start ++ x) (sym (ap text_of written ∙ text_more (written_lines 1 t) (spaced (written_words last l))))))

fit_push : (lines : List Line) (l : Line) → AllByRecursion LineFits lines → LineFits l → AllByRecursion LineFits (lines ++ l ∷ [])
fit_push [] l h f = (f, tt)
fit_push (x ∷ lines) l h f = (h.0, fit_push lines l h.1 f)

pub fit_more : (lines : List Line) (i : ℕ) (l : Line) → i < length lines → l ≡ line_at lines i → AllByRecursion LineFits (take i lines) → LineFits l → AllByRecursion LineFits (take (i + 1) lines)
fit_more lines i l lt at h f = subst (AllByRecursion LineFits) (sym (one_more lines i l lt at)) (fit_push (take i lines) l h f)

within_push : (v : ℕ) (lines : List Line) (l : Line) → LinesWithin v lines → line_within v l → LinesWithin v (lines ++ l ∷ [])
within_push v [] l h f = (f, tt)
within_push v (x ∷ lines) l h f = (h.0, within_push v lines l h.1 f)

pub within_more : (lines : List Line) (i : ℕ) (l : Line) → i < length lines → l ≡ line_at lines i → LinesWithin 2147483647 (take i lines) → line_within 2147483647 l → LinesWithin 2147483647 (take (i + 1) lines)
within_more lines i l lt at h f = subst (LinesWithin 2147483647) (sym (one_more lines i l lt at)) (within_push 2147483647 (take i lines) l h f)

-- ---- the words are words

signed_is_word : (b : Bool) (n : ℕ) → n < 10000000000 → IsWord (signed_word b n)
signed_is_word true n lt = let w = decimal_word n (let h : n < 2 ^ 64 = omega arith in h) in (omega arith, (omega arith, w.1))
signed_is_word false n lt = decimal_word n (let h : n < 2 ^ 64 = omega arith in h)

number_is_word : (n : ℕ) → n < 10000000000 → IsWord (decimal n)
number_is_word n lt = decimal_word n (let h : n < 2 ^ 64 = omega arith in h)

ended_words : (ws : Words) → AllByRecursion IsWord ws → AllByRecursion IsWord (ended ws)
ended_words [] h = (number_is_word 0 (omega arith), tt)
ended_words (w ∷ ws) h = (h.0, ended_words ws h.1)

both_words : (xs ys : Words) → AllByRecursion IsWord xs → AllByRecursion IsWord ys → AllByRecursion IsWord (xs ++ ys)
both_words [] ys hx hy = hy
both_words (x ∷ xs) ys hx hy = (hx.0, both_words xs ys hx.1 hy)

lits_words : (v : ℕ) → v < 10000000000 → (c : Clause) → LitsWithin v c → AllByRecursion IsWord (map lit_word c)
lits_words v small [] h = tt
lits_words v small (l ∷ c) h = (signed_is_word l.negated l.var (omega (arith, h.0.1)), lits_words v small c h.1)

ids_words : (is : List ℕ) → AllByRecursion (λ n. n < 4294967296) is → AllByRecursion IsWord (map decimal is)
ids_words [] h = tt
ids_words (n ∷ is) h = (number_is_word n (omega (arith, h.0)), ids_words is h.1)

header_fine : (v n : ℕ) → v < 10000000000 → n < 10000000000 → AllByRecursion IsWord (header_words v n)
header_fine v n lv ln = ((omega arith, (omega arith, tt)), ((omega arith, (omega arith, (omega arith, (omega arith, tt)))), (number_is_word v lv, (number_is_word n ln, tt))))

-- ---- a line that is no comment

first_of : (w : List ℕ) (ws : Words) → 0 < length w → get_or (spaced (w ∷ ws)) 0 0 ≡ get_or w 0 0
first_of w [] some = refl
first_of w (x ∷ ws) some = get_or_append_left w (32 ∷ spaced (x ∷ ws)) 0 0 some

no_comment : (w : List ℕ) (ws : Words) → 0 < length w → (get_or w 0 0 ≡ 99 → ⊥) → (slice_index (spaced (w ∷ ws)) 0 == 99) ≡ false
no_comment w ws some other = rw (first_of w ws some) (ne_eqb (get_or w 0 0) 99 other)

no_letter : (b : Bool) (n : ℕ) → n < 10000000000 → get_or (signed_word b n) 0 0 ≡ 99 → ⊥
no_letter true n lt e = absurd (omega (arith, e))
no_letter false n lt e =
    let fits : n < 2 ^ 64 = omega arith in
    absurd (omega (arith, e, digit_in (decimal n) [] n 0 lt (decimal_nonempty n fits) (sym (append-nil (decimal n)))))

not_passed : (line w : List ℕ) (ws : Words) → (slice_index line 0 == 99) ≡ false → tokens line ≡ w ∷ ws → is_passed line ≡ false
not_passed line w ws a b = let some : length (w ∷ ws) ≢ 0 = omega arith in rw (a, b, ne_eqb (length (w ∷ ws)) 0 some) refl

body_line : (v : ℕ) → v < 10000000000 → (c : Clause) → LitsWithin v c → body_words (spaced (clause_words c)) ≡ clause_words c
body_line v small [] h = rw (no_comment (decimal 0) [] (number_is_word 0 (omega arith)).0 (no_letter false 0 (omega arith))) (words_read (clause_words []) (ended_words [] tt))
body_line v small (l ∷ c) h =
    let lt : l.var < 10000000000 = omega (arith, h.0.1) in
    rw (no_comment (lit_word l) (ended (map lit_word c)) (signed_is_word l.negated l.var lt).0 (no_letter l.negated l.var lt)) (words_read (clause_words (l ∷ c)) (ended_words (map lit_word (l ∷ c)) (lits_words v small (l ∷ c) h)))

body_lines : (v : ℕ) → v < 10000000000 → (cs : List Clause) → AreClauses v cs → flat_map body_words (clause_lines cs) ≡ clauses_words cs
body_lines v small [] h = refl
body_lines v small (c ∷ cs) h = ap₂ (λ (x y : Words). x ++ y) (body_line v small c h.0) (body_lines v small cs h.1)

clauses_unbroken : (v : ℕ) → v < 10000000000 → (cs : List Clause) → AreClauses v cs → AllByRecursion IsUnbroken (clause_lines cs)
clauses_unbroken v small [] h = tt
clauses_unbroken v small (c ∷ cs) h = (spaced_unbroken (clause_words c) (ended_words (map lit_word c) (lits_words v small c h.0)), clauses_unbroken v small cs h.1)

formula_spelled : (comment : List ℕ) (v : ℕ) (cs : List Clause) → v < 10000000000 → length cs < 10000000000 → AreClauses v cs → SpellsFormula (formula_lines comment v cs) v cs
formula_spelled comment v cs lv ln h =
    let n = length cs in
    let words = words_read (header_words v n) (header_fine v n lv ln) in
    let line = spaced (header_words v n) in
    let passed : is_passed line ≡ false = not_passed line (codes "p") (codes "cnf" ∷ decimal v ∷ decimal n ∷ []) refl words in
    rw passed (lv, ln, words, h, body_lines v lv cs h)

-- what is written of a formula is read as it
pub cnf_spelled : (comment text : List ℕ) (v : ℕ) (cs : List Clause) → text ≡ text_of (formula_lines comment v cs) → IsUnbroken comment → v < 10000000000 → length cs < 10000000000 → AreClauses v cs → SpellsFormula (free_lines text) v cs
cnf_spelled comment text v cs e plain lv ln h =
    let ten : 99 ≢ 10 = omega arith in
    let thirteen : 99 ≢ 13 = omega arith in
    let ten' : 32 ≢ 10 = omega arith in
    let thirteen' : 32 ≢ 13 = omega arith in
    subst (λ (ls : Words). SpellsFormula ls v cs)
    (sym (ap free_lines e ∙ lines_read (formula_lines comment v cs) (((ten, thirteen), ((ten', thirteen'), plain)), (spaced_unbroken (header_words v (length cs)) (header_fine v (length cs) lv ln), clauses_unbroken v lv cs h))))
    (formula_spelled comment v cs lv ln h)

-- ---- the lines of a log

pub are_ids : (is : List ℕ) → ArePositive is → AllByRecursion (λ n. n < 4294967296) is → AreIds is
are_ids [] p f = tt
are_ids (n ∷ is) p f = ((p.0, f.0), are_ids is p.1 f.1)

pub line_words : (v w : ℕ) → v < 10000000000 → w < 4294967296 → (l : Line) → LineFits l → line_within v l → AllByRecursion IsWord (written_words w l)
line_words v w small lw (Line.Add id lits hints) f h = (number_is_word id (omega (arith, f.0)), both_words (ended (map lit_word lits)) (ended (map decimal hints)) (ended_words (map lit_word lits) (lits_words v small lits h)) (ended_words (map decimal hints) (ids_words hints f.1)))
line_words v w small lw (Line.Del ids) f h = (number_is_word w (omega arith), ((omega arith, (omega arith, tt)), ended_words (map decimal ids) (ids_words ids f)))

number_line : (n : ℕ) (ws : Words) → n < 10000000000 → AllByRecursion IsWord (decimal n ∷ ws) → is_passed (spaced (decimal n ∷ ws)) ≡ false
number_line n ws lt h = not_passed (spaced (decimal n ∷ ws)) (decimal n) ws (no_comment (decimal n) ws h.0.0 (no_letter false n lt)) (words_read (decimal n ∷ ws) h)

pub log_spelled : (v last w : ℕ) → v < 10000000000 → 0 < w → w < 4294967296 → (lines : List Line) → Rise last lines → LinesPositive lines → AllByRecursion LineFits lines → LinesWithin v lines → SpellsLog v last (written_lines w lines) lines
log_spelled v last w small some lw [] r p f h = refl
log_spelled v last w small some lw (Line.Add id lits hints ∷ lines) r p f h =
    let l = Line.Add id lits hints in
    let fine = line_words v w small lw l f.0 h.0 in
    rw (number_line id (ended (map lit_word lits) ++ ended (map decimal hints)) (omega (arith, f.0.0)) fine)
    (l, lines, refl, (r.0, f.0.0, h.0, are_ids hints p.0 f.0.1, words_read (written_words w l) fine), log_spelled v id id small (omega (arith, r.0)) f.0.0 lines r.1 p.1 f.1 h.1)
log_spelled v last w small some lw (Line.Del ids ∷ lines) r p f h =
    let l = Line.Del ids in
    let fine = line_words v w small lw l f.0 h.0 in
    rw (number_line w (codes "d" ∷ ended (map decimal ids)) (omega arith) fine)
    (l, lines, refl, (are_ids ids p.0 f.0, (w, some, lw, words_read (written_words w l) fine)), log_spelled v last w small some lw lines r p.1 f.1 h.1)

log_unbroken : (v w : ℕ) → v < 10000000000 → w < 4294967296 → (lines : List Line) → AllByRecursion LineFits lines → LinesWithin v lines → AllByRecursion IsUnbroken (written_lines w lines)
log_unbroken v w small lw [] f h = tt
log_unbroken v w small lw (Line.Add id lits hints ∷ lines) f h = (spaced_unbroken (written_words w (Line.Add id lits hints)) (line_words v w small lw (Line.Add id lits hints) f.0 h.0), log_unbroken v id small f.0.0 lines f.1 h.1)
log_unbroken v w small lw (Line.Del ids ∷ lines) f h = (spaced_unbroken (written_words w (Line.Del ids)) (line_words v w small lw (Line.Del ids) f.0 h.0), log_unbroken v w small lw lines f.1 h.1)

-- the lines of what is written are those written
pub text_lines : (text : List ℕ) (lines : List Line) → text ≡ text_of (log_lines lines) → AllByRecursion LineFits lines → LinesWithin 2147483647 lines → free_lines text ≡ log_lines lines
text_lines text lines e f h = ap free_lines e ∙ lines_read (log_lines lines) (log_unbroken 2147483647 1 (omega arith) (omega arith) lines f h)

-- what is written of a log is read as it
pub text_spelled : (v first : ℕ) (text : List ℕ) (lines : List Line) → text ≡ text_of (log_lines lines) → v < 10000000000 → Rise first lines → LinesPositive lines → AllByRecursion LineFits lines → LinesWithin v lines → SpellsLog v first (free_lines text) lines
text_spelled v first text lines e small r p f h =
    subst (λ (ls : Words). SpellsLog v first ls lines) (sym (ap free_lines e ∙ lines_read (log_lines lines) (log_unbroken v 1 small (omega arith) lines f h)))
    (log_spelled v first 1 small (omega arith) (omega arith) lines r p f h)
