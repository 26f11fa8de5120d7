-- A text spells one formula and log.
use Rattle.std.proofs.Common.{◌≡◌, ℕ, ◌<◌, Bool, true, false, List, [], ◌∷◌, ◌++◌, length, refl, sym, ap, ◌∙◌, subst, arith}
use Rattle.std.specs.Prelude.{codes}
use Rattle.std.specs.List.{AllByRecursion, flat_map}
use Rattle.clause_arena.specs.Clauses.{Clause}
use Rattle.proof_check.specs.Lines.{Line}
use Rattle.text_rows.specs.Words.{tokens}
use Rattle.dimacs_text.specs.Logs.{LitsWithin, SpellsIf, SpellsLine, SpellsLog, is_passed, id_after}
use Rattle.dimacs_text.specs.Formulas.{body_words, clause_words, clauses_words, AreClauses, header_words, SpellsFormula}
use Rattle.dimacs_text.specs.Texts.{SpellsJoined}
use Rattle.dimacs_text.proofs.EntryLemmas.{Words, line_told}
use Rattle.dimacs_text.proofs.BodyLemmas.{AllOthers}
use Rattle.dimacs_text.proofs.CnfLemmas.{header_told, lrat_no_number, clauses_told}
use Rattle.dimacs_text.proofs.JoinedReadLemmas.{header_other}

-- ---- one formula

-- what the `p` line and the lines behind it say
abbrev IsHeaded : List ℕ → List (List ℕ) → ℕ → List Clause → Type 0
IsHeaded l ls v cs = (v < 10000000000) × (length cs < 10000000000) × (tokens l ≡ header_words v (length cs)) × AreClauses v cs × (flat_map body_words ls ≡ clauses_words cs)

pub one_formula : (lines : List (List ℕ)) (v w : ℕ) (cs ds : List Clause) → SpellsFormula lines v cs → SpellsFormula lines w ds → (v ≡ w) × (cs ≡ ds)
one_formula [] v w cs ds h k = absurd h
one_formula (l ∷ ls) v w cs ds h k = by (one_formula ls v w cs ds) (is_passed l) h k
  where
    by : (SpellsFormula ls v cs → SpellsFormula ls w ds → (v ≡ w) × (cs ≡ ds)) → (b : Bool) → SpellsIf b (SpellsFormula ls v cs) (IsHeaded l ls v cs) → SpellsIf b (SpellsFormula ls w ds) (IsHeaded l ls w ds) → (v ≡ w) × (cs ≡ ds)
    by behind true h k = behind h k
    by behind false h k =
        let same = header_told v w (length cs) (length ds) h.0 k.0 h.1 k.1 (sym h.2 ∙ k.2) in
        (same.0, clauses_told v h.0 cs ds h.3 (subst (λ (n : ℕ). AreClauses n ds) (sym same.0) k.3) (sym h.4 ∙ k.4))

-- ---- none of its lines is `lrat`

-- no word is
abbrev AreOthers : Words → Type 0
AreOthers words = AllByRecursion (λ w. w ≡ codes "lrat" → ⊥) words

others_append : (xs ys : Words) → AreOthers xs → AreOthers ys → AreOthers (xs ++ ys)
others_append [] ys h k = k
others_append (x ∷ xs) ys h k = (h.0, others_append xs ys h.1 k)

others_behind : (xs ys : Words) → AreOthers (xs ++ ys) → AreOthers ys
others_behind [] ys h = h
others_behind (x ∷ xs) ys h = others_behind xs ys h.1

clause_others : (v : ℕ) → v < 10000000000 → (c : Clause) → LitsWithin v c → AreOthers (clause_words c)
clause_others v small [] h = ((λ e. lrat_no_number false 0 [] (omega arith) (ap (λ (w : List ℕ). w ∷ []) (sym e))), tt)
clause_others v small (l ∷ c) h =
    ((λ e. lrat_no_number l.negated l.var [] (omega (arith, h.0.1, small)) (ap (λ (w : List ℕ). w ∷ []) (sym e))), clause_others v small c h.1)

clauses_others : (v : ℕ) → v < 10000000000 → (cs : List Clause) → AreClauses v cs → AreOthers (clauses_words cs)
clauses_others v small [] h = tt
clauses_others v small (c ∷ cs) h = others_append (clause_words c) (clauses_words cs) (clause_others v small c h.0) (clauses_others v small cs h.1)

-- the line `lrat` adds the word `lrat`
body_others : (lines : List (List ℕ)) → AreOthers (flat_map body_words lines) → AllOthers lines
body_others [] h = tt
body_others (l ∷ ls) h =
    ((λ e. let at : AreOthers (codes "lrat" ∷ flat_map body_words ls) = subst (λ (x : List ℕ). AreOthers (body_words x ++ flat_map body_words ls)) e h in at.0 refl), body_others ls (others_behind (body_words l) (flat_map body_words ls) h))

pub formula_others : (lines : List (List ℕ)) (v : ℕ) (cs : List Clause) → SpellsFormula lines v cs → AllOthers lines
formula_others [] v cs h = tt
formula_others (l ∷ ls) v cs h = by (formula_others ls v cs) (is_passed l) refl h
  where
    by : (SpellsFormula ls v cs → AllOthers ls) → (b : Bool) → is_passed l ≡ b → SpellsIf b (SpellsFormula ls v cs) (IsHeaded l ls v cs) → AllOthers (l ∷ ls)
    by behind true e h = ((λ f. absurd (let g : false ≡ true = sym (ap is_passed f) ∙ e in cc)), behind h)
    by behind false e h = (header_other l v (length cs) h.2, body_others ls (subst AreOthers (sym h.4) (clauses_others v h.0 cs h.3)))

-- so it stands at one place
one_place : (xs ys a b : List (List ℕ)) → AllOthers xs → AllOthers ys → xs ++ codes "lrat" ∷ a ≡ ys ++ codes "lrat" ∷ b → (xs ≡ ys) × (a ≡ b)
one_place [] [] a b h k e = (refl, (let g : a ≡ b = cc in g))
one_place [] (y ∷ ys) a b h k e = absurd (k.0 (let g : y ≡ codes "lrat" = cc in g))
one_place (x ∷ xs) [] a b h k e = absurd (h.0 (let g : x ≡ codes "lrat" = cc in g))
one_place (x ∷ xs) (y ∷ ys) a b h k e =
    let same : x ≡ y = cc in
    let rest = one_place xs ys a b h.1 k.1 (let g : xs ++ codes "lrat" ∷ a ≡ ys ++ codes "lrat" ∷ b = cc in g) in
    ((λ i. same i ∷ rest.0 i), rest.1)

-- ---- one log

-- a line of the log, and the lines behind it
abbrev IsStep : ℕ → ℕ → List ℕ → List (List ℕ) → List Line → Type 0
IsStep v last l ls log = (e : Line) × (others : List Line) × (log ≡ e ∷ others) × SpellsLine v last e (tokens l) × SpellsLog v (id_after last e) ls others

pub one_log : (v : ℕ) → v < 10000000000 → (last : ℕ) (lines : List (List ℕ)) (a b : List Line) → SpellsLog v last lines a → SpellsLog v last lines b → a ≡ b
one_log v small last [] a b h k = h ∙ sym k
one_log v small last (l ∷ ls) a b h k = by (λ n. one_log v small n ls) (is_passed l) h k
  where
    by : ((n : ℕ) (c d : List Line) → SpellsLog v n ls c → SpellsLog v n ls d → c ≡ d) → (t : Bool) → SpellsIf t (SpellsLog v last ls a) (IsStep v last l ls a) → SpellsIf t (SpellsLog v last ls b) (IsStep v last l ls b) → a ≡ b
    by behind true h k = behind last a b h k
    by behind false h k =
        let same : h.0 ≡ k.0 = line_told v small last (tokens l) h.0 k.0 h.3 k.3 in
        let rest : h.1 ≡ k.1 = behind (id_after last h.0) h.1 k.1 h.4 (subst (λ (e : Line). SpellsLog v (id_after last e) ls k.1) (sym same) k.4) in
        h.2 ∙ ((λ i. same i ∷ rest i) ∙ sym k.2)

-- ---- one formula and log

small_of : (lines : List (List ℕ)) (v : ℕ) (cs : List Clause) → SpellsFormula lines v cs → v < 10000000000
small_of [] v cs h = absurd h
small_of (l ∷ ls) v cs h = by (small_of ls v cs) (is_passed l) h
  where
    by : (SpellsFormula ls v cs → v < 10000000000) → (b : Bool) → SpellsIf b (SpellsFormula ls v cs) (IsHeaded l ls v cs) → v < 10000000000
    by behind true h = behind h
    by behind false h = h.0

pub one_joined : (lines : List (List ℕ)) (v w : ℕ) (cs ds : List Clause) (a b : List Line) → SpellsJoined lines v cs a → SpellsJoined lines w ds b → (v ≡ w) × (cs ≡ ds) × (a ≡ b)
one_joined lines v w cs ds a b h k =
    let place = one_place h.0 k.0 h.1 k.1 (formula_others h.0 v cs h.3) (formula_others k.0 w ds k.3) (sym h.2 ∙ k.2) in
    let same = one_formula h.0 v w cs ds h.3 (subst (λ (ls : List (List ℕ)). SpellsFormula ls w ds) (sym place.0) k.3) in
    let log : SpellsLog v (length cs) h.1 b = read_there place.1 same.0 same.1 in
    (same.0, same.1, one_log v (small_of h.0 v cs h.3) (length cs) h.1 a b h.4 log)
  where
    read_there : h.1 ≡ k.1 → v ≡ w → cs ≡ ds → SpellsLog v (length cs) h.1 b
    read_there at numbers clauses =
        subst (λ (ls : List (List ℕ)). SpellsLog v (length cs) ls b) (sym at)
        (subst (λ (n : ℕ). SpellsLog n (length cs) k.1 b) (sym numbers) (subst (λ (c : List Clause). SpellsLog w (length c) k.1 b) (sym clauses) k.4))
