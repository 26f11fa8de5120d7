-- The texts of what is found.
use Rattle.std.proofs.Common.{◌≡◌, ℕ, zero, suc, ◌+◌, ◌<◌, ◌≤◌, Bool, false, List, [], ◌∷◌, ◌++◌, length, map, take, slice_index_or, refl, sym, ap, subst, ◌∙◌, arith, append_assoc, lit<, inl, inr}
use Rattle.std.specs.Prelude.{codes, not}
use Rattle.std.specs.Fmt.{decimal}
use Rattle.std.proofs.lemmas.Fmt.{decimal_digit}
use Rattle.std.proofs.lemmas.List.{append-nil}
use Rattle.clause_arena.specs.Clauses.{Lit, Clause, In}
use Rattle.line_text.specs.Lines.{text_of}
use Rattle.proof_check.specs.Lines.{Line}
use Rattle.proof_check.specs.Following.{Live, first_live, after, AllFollow}
use Rattle.proof_check.specs.Progress.{IsProgress}
use Rattle.proof_check.proofs.RefuteLemmas.{no_solution}
use Rattle.dimacs_text.specs.Logs.{lit_word, LitsWithin, SpellsLog}
use Rattle.dimacs_text.specs.Writing.{blanked, log_lines, LinesWithin}
use Rattle.dimacs_text.proofs.WritingLemmas.{spaced_behind}
use Rattle.formula_answers.specs.Solved.{true_literals, values_line, values_text, outcome_text, IsFound}
use Rattle.formula_answers.specs.Written.{IsWritten, IsFindWritten}
use Rattle.sat_engine.specs.declared.outcome.Outcome.{Outcome}
use Rattle.sat_engine.specs.declared.outcome.Outcome.TheVariants.{Sat, Refuted, Open}
use Rattle.sat_engine.specs.Outcomes.{IsOutcomeOf}

-- ---- the literals of values

-- one value more gives one literal more
literals_more : (n : ℕ) (values : List Bool) (i : ℕ) → i < length values →
    true_literals n (take (i + 1) values) ≡ true_literals n (take i values) ++ record { var = n + i; negated = not (slice_index_or values i false) } ∷ []
literals_more n [] i l = absurd (omega (arith, l))
literals_more n (value ∷ values) zero l =
    let same : n ≡ n + 0 = omega arith in
    ap (λ m. record { var = m; negated = not value } ∷ []) same
literals_more n (value ∷ values) (suc i) l =
    let same : (n + 1) + i ≡ n + suc i = omega arith in
    let more : suc i + 1 ≡ suc (i + 1) = omega arith in
    ap (λ m. true_literals n (take m (value ∷ values))) more
    ∙ ap (λ lits. record { var = n; negated = not value } ∷ lits)
    (literals_more (n + 1) values i (omega (arith, l))
    ∙ ap (λ m. true_literals (n + 1) (take i values) ++ record { var = m; negated = not (slice_index_or values i false) } ∷ []) same)

blanked_more : (lits : List Lit) (l : Lit) → blanked (map lit_word (lits ++ l ∷ [])) ≡ blanked (map lit_word lits) ++ (lit_word l ++ 32 ∷ [])
blanked_more [] l = append-nil (lit_word l ++ 32 ∷ [])
blanked_more (m ∷ lits) l =
    ap (λ t. (lit_word m ++ 32 ∷ []) ++ t) (blanked_more lits l) ∙ sym (append_assoc (lit_word m ++ 32 ∷ []) (blanked (map lit_word lits)) (lit_word l ++ 32 ∷ []))

-- one more is written behind the others
pub value_written : (values : List Bool) (i variable : ℕ) (value : Bool) (start now new : List ℕ) → i < length values → variable ≡ i + 1 → value ≡ slice_index_or values i false →
    now ≡ start ++ blanked (map lit_word (true_literals 1 (take i values))) → new ≡ now ++ (lit_word (record { var = variable; negated = not value }) ++ 32 ∷ []) →
    new ≡ start ++ blanked (map lit_word (true_literals 1 (take (i + 1) values)))
value_written values i variable value start now new l number is e g =
    let lits = true_literals 1 (take i values) in
    let last : Lit = record { var = 1 + i; negated = not (slice_index_or values i false) } in
    let place : variable ≡ 1 + i = omega (arith, number) in
    let same : record { var = variable; negated = not value } ≡ last = (λ j. record { var = place j; negated = not (is j) }) in
    g ∙ (ap (λ (lit : Lit). now ++ (lit_word lit ++ 32 ∷ [])) same ∙ (ap (λ t. t ++ (lit_word last ++ 32 ∷ [])) e
    ∙ (append_assoc start (blanked (map lit_word lits)) (lit_word last ++ 32 ∷ [])
    ∙ ap (λ t. start ++ t) (sym (ap (λ ls. blanked (map lit_word ls)) (literals_more 1 values i l) ∙ blanked_more lits last)))))

-- ---- a satisfying assignment

-- a line feed behind the last word ends the text
closed : (b : List ℕ) → b ++ 48 ∷ 10 ∷ [] ≡ ((b ++ decimal 0) ++ 10 ∷ []) ++ []
closed b =
    let zero_text : decimal 0 ≡ 48 ∷ [] = decimal_digit 0 (lit< tt) in
    sym (append-nil ((b ++ decimal 0) ++ 10 ∷ []) ∙ (ap (λ d. (b ++ d) ++ 10 ∷ []) zero_text ∙ append_assoc b (48 ∷ []) (10 ∷ [])))

pub values_written : (values : List Bool) (n1 n2 n3 : List ℕ) → n1 ≡ codes "s SATISFIABLE\nv " → n2 ≡ n1 ++ blanked (map lit_word (true_literals 1 values)) → n3 ≡ n2 ++ (48 ∷ 10 ∷ []) → n3 ≡ values_text values
values_written values n1 n2 n3 first second third =
    let words = map lit_word (true_literals 1 values) in
    let line : values_line values ≡ codes "v " ++ (blanked words ++ decimal 0) = spaced_behind (codes "v" ∷ words) (decimal 0) [] in
    third ∙ (ap (λ t. t ++ 48 ∷ 10 ∷ []) (second ∙ ap (λ t. t ++ blanked words) first)
    ∙ (ap (λ t. codes "s SATISFIABLE\nv " ++ t) (closed (blanked words)) ∙ sym (ap (λ t. text_of (codes "s SATISFIABLE" ∷ t ∷ [])) line)))

-- ---- the lines of a log

lits_within : (v : ℕ) (c : Clause) → ((l : Lit) → In l c → l.var ≤ v) → LitsWithin 2147483647 c → LitsWithin v c
lits_within v [] few h = tt
lits_within v (l ∷ c) few h = ((h.0.0, few l (inl refl)), lits_within v c (λ m i. few m (inr i)) h.1)

-- where all lines follow, no variable is greater than those of the formula
all_within : (v n : ℕ) (live : Live) (lines : List Line) → AllFollow v n live lines → LinesWithin 2147483647 lines → LinesWithin v lines
all_within v n live [] follow h = tt
all_within v n live (Line.Add id lits hints ∷ lines) follow h =
    (lits_within v lits follow.0.0.within h.0, all_within v n (after live (Line.Add id lits hints)) lines follow.1 h.1)
all_within v n live (Line.Del ids ∷ lines) follow h = (tt, all_within v n (after live (Line.Del ids)) lines follow.1 h.1)

progress_follows : (v n : ℕ) (live : Live) (known : List Clause) (lines : List Line) → IsProgress v n live known lines → AllFollow v n live lines
progress_follows v n live known [] p = tt
progress_follows v n live known (Line.Add id lits hints ∷ lines) p =
    (p.0, progress_follows v n (after live (Line.Add id lits hints)) (lits ∷ known) lines p.2)
progress_follows v n live known (Line.Del ids ∷ lines) p = absurd p

-- so they spell the log
log_spelled : (v first : ℕ) (cs : List Clause) (log : List Line) → v ≤ 16777216 → first ≡ length cs → AllFollow v (length cs) (first_live cs) log → IsWritten first log → SpellsLog v (length cs) (log_lines log) log
log_spelled v first cs log few same follow written =
    subst (λ (n : ℕ). SpellsLog v n (log_lines log) log) same
    (written.1 v (omega (arith, few)) (all_within v (length cs) (first_live cs) log follow written.0))

-- ---- what is found

-- the text of an outcome says what it is
pub outcome_found : (budget v : ℕ) (cs : List Clause) (o : Outcome) (x : List ℕ) → v ≤ 16777216 → IsOutcomeOf v cs budget o → x ≡ outcome_text o → IsFindWritten o → IsFound budget v cs x
outcome_found budget v cs (Sat values) x few h e written = inl (record { values = values.items; each = h.0; satisfies = h.1; output_is = e })
outcome_found budget v cs (Refuted log) x few h e written =
    let spells = log_spelled v log.first cs log.lines few h.0 h.1.follow written in
    inr (inl (record { log = log.lines; spells = spells; refutes = h.1; unsatisfiable = no_solution v cs log.lines h.1; below = h.2; output_is = e }))
outcome_found budget v cs (Open log) x few h e written =
    let follow = progress_follows v (length cs) (first_live cs) cs log.lines h.1 in
    let spells = log_spelled v log.first cs log.lines few h.0 follow written in
    inr (inr (record { log = log.lines; spells = spells; progress = h.1; spends = h.2; small = h.3; output_is = e }))
