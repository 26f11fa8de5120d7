-- A formula and a log together.
use Rattle.std.proofs.Common.{◌≡◌, ℕ, ◌+◌, ◌-◌, ◌<◌, ◌≤◌, List, [], ◌∷◌, ◌++◌, length, refl, sym, ap, ◌∙◌, subst, arith, append_assoc, length-append}
use Rattle.std.specs.Prelude.{codes, Err}
use Rattle.std.specs.List.{flat_map}
use Rattle.std.proofs.lemmas.List.{append-nil}
use Rattle.clause_arena.specs.Clauses.{Clause}
use Rattle.cpog_base.specs.declared.limits.TheConstants.{VARIABLE_LIMIT}
use Rattle.proof_check.specs.Lines.{Line}
use Rattle.text_rows.specs.Words.{tokens}
use Rattle.text_rows.specs.FirstBad.{IsFirstBad, NoneBegins}
use Rattle.dimacs_text.specs.declared.body.Body.{Body}
use Rattle.dimacs_text.specs.declared.cnf.CnfFault.{CnfFault}
use Rattle.dimacs_text.specs.declared.cnf.CnfFault.TheVariants as faults
use Rattle.dimacs_text.specs.declared.log.LogFault.{LogFault}
use Rattle.dimacs_text.specs.declared.log.LogFault.TheVariants as log_faults
use Rattle.dimacs_text.specs.Logs.{SpellsLog}
use Rattle.dimacs_text.specs.LogTexts.{IsLogText, IsLogRead, IsLogJudged}
use Rattle.dimacs_text.specs.Formulas.{body_words, header_words, SpellsFormula}
use Rattle.dimacs_text.specs.Texts.{IsFormulaText, SpellsJoined, IsJoinedText, IsFront}
use Rattle.dimacs_text.specs.Bodies.{IsGood, IsBodyRead}
use Rattle.dimacs_text.specs.CnfTexts.{fault_of, IsJudgedFault, IsJoinedRead}
use Rattle.dimacs_text.proofs.EntryLemmas.{heads}
use Rattle.dimacs_text.proofs.BodyLemmas.{AllOthers}
use Rattle.dimacs_text.proofs.JoinedLemmas.{split_front, passed_others, joined_begins, joined_bad}
use Rattle.dimacs_text.proofs.CnfLemmas.{behind_front, good_begins, formula_behind, whole_found, only_formula, not_whole, lrat_none}

others_both : (xs ys : List (List ℕ)) → AllOthers xs → AllOthers ys → AllOthers (xs ++ ys)
others_both [] ys hx hy = hy
others_both (x ∷ xs) ys hx hy = (hx.0, others_both xs ys hx.1 hy)

pub header_other : (p : List ℕ) (v count : ℕ) → tokens p ≡ header_words v count → p ≡ codes "lrat" → ⊥
header_other p v count e same =
    let h : codes "p" ≡ codes "lrat" = heads (codes "p") (codes "lrat") _ [] (tokens p) e (ap tokens same) in
    absurd (omega (arith, ap length h))

-- no line of what was read is `lrat`
pub others_front : (front : List (List ℕ)) (p : List ℕ) (v count : ℕ) (good : List (List ℕ)) (ds : List Clause) (os : Clause) → IsFront front p v count → IsGood v count good ds os → AllOthers (front ++ p ∷ good)
others_front front p v count good ds os f g = others_both front (p ∷ good) (passed_others front f.passed) (header_other p v count f.words, g.others)

-- the line `lrat` stands at one place
pub split_told : (front : List (List ℕ)) (p : List ℕ) (v count : ℕ) (good : List (List ℕ)) (ds : List Clause) (os : Clause) → IsFront front p v count → IsGood v count good ds os → (rest f log : List (List ℕ)) → (front ++ p ∷ good) ++ codes "lrat" ∷ rest ≡ f ++ codes "lrat" ∷ log → (v' : ℕ) (cs : List Clause) → SpellsFormula f v' cs → (f ≡ front ++ p ∷ good) × (log ≡ rest)
split_told front p v count good ds os is_front is_good rest f log e v' cs s =
    let r = split_front (front ++ p ∷ good) (codes "lrat" ∷ rest) f log (others_front front p v count good ds os is_front is_good) e in
    go r.0 r.1 r.2
  where
    go : (more : List (List ℕ)) → f ≡ (front ++ p ∷ good) ++ more → (codes "lrat" ∷ rest) ≡ more ++ codes "lrat" ∷ log → (f ≡ front ++ p ∷ good) × (log ≡ rest)
    go [] a b = (a ∙ append-nil (front ++ p ∷ good), (let h : log ≡ rest = cc in h))
    go (y ∷ more) a b =
        let same : codes "lrat" ≡ y = cc in
        let at : f ≡ front ++ p ∷ (good ++ codes "lrat" ∷ more) = a ∙ (behind_front front p good (y ∷ more) ∙ ap (λ (x : List ℕ). front ++ p ∷ (good ++ x ∷ more)) (sym same)) in
        let t = formula_behind front p v count (good ++ codes "lrat" ∷ more) v' cs is_front (subst (λ (ls : List (List ℕ)). SpellsFormula ls v' cs) at s) in
        absurd (lrat_none v count is_front.few_variables good ds os is_good more cs t.0 t.1 (ap (flat_map body_words) (append_assoc good (codes "lrat" ∷ []) more) ∙ t.2))

-- what is spelled is this formula and a log of what follows
pub joined_told : (front : List (List ℕ)) (p : List ℕ) (v count : ℕ) (good : List (List ℕ)) (ds : List Clause) (os : Clause) → IsFront front p v count → IsGood v count good ds os → os ≡ [] → (rest : List (List ℕ)) (v' : ℕ) (cs : List Clause) (log : List Line) → SpellsJoined ((front ++ p ∷ good) ++ codes "lrat" ∷ rest) v' cs log → (v' ≡ v) × (cs ≡ ds) × SpellsLog v (length ds) rest log
joined_told front p v count good ds os f g none rest v' cs log s =
    let at = split_told front p v count good ds os f g rest s.0 s.1 s.2 v' cs s.3 in
    let only = only_formula front p v count (front ++ p ∷ good) good ds os f refl g none v' cs (subst (λ (ls : List (List ℕ)). SpellsFormula ls v' cs) at.0 s.3) in
    (only.0, only.1, subst (λ (ls : List (List ℕ)). SpellsLog v (length ds) ls log) at.1 (subst (λ (k : ℕ). SpellsLog k (length ds) s.1 log) only.0 (subst (λ (d : List Clause). SpellsLog v' (length d) s.1 log) only.1 s.4)))

-- the line `lrat` where the formula isn't whole
pub lrat_first : (front : List (List ℕ)) (p : List ℕ) (v count n : ℕ) (all good rest : List (List ℕ)) (ds : List Clause) (os : Clause) → IsFront front p v count → all ≡ (front ++ p ∷ good) ++ codes "lrat" ∷ rest → n ≡ length front + 1 + length good + 1 → IsGood v count good ds os → (length ds ≡ count → os ≡ [] → ⊥) → IsFirstBad IsJoinedText all n
lrat_first front p v count n all good rest ds os f e k g wanting = record {
  good = front ++ p ∷ good;
  after = codes "lrat" ∷ rest;
  parts = e;
  number = omega (arith, k, length-append front (p ∷ good));
  begins = joined_begins (front ++ p ∷ good) (good_begins front p v count good ds os f g);
  none = λ tail t.
      let s = t.3 in
      let at = split_told front p v count good ds os f g tail s.0 s.1 s.2 t.0 t.1 s.3 in
      not_whole front p v count good ds os f g wanting (t.0, t.1, subst (λ (ls : List (List ℕ)). SpellsFormula ls t.0 t.1) at.0 s.3);
}

-- a bad line of the log
pub log_first : (front : List (List ℕ)) (p : List ℕ) (v count before n : ℕ) (all good rest : List (List ℕ)) (ds : List Clause) (os : Clause) → IsFront front p v count → all ≡ (front ++ p ∷ good) ++ codes "lrat" ∷ rest → before ≡ length front + 1 + length good + 1 → IsGood v count good ds os → length ds ≡ count → os ≡ [] → before ≤ n → IsFirstBad (IsLogText v (length ds)) rest (n - before) → IsFirstBad IsJoinedText all n
log_first front p v count before n all good rest ds os f e k g whole none le b = record {
  good = (front ++ p ∷ good) ++ codes "lrat" ∷ b.good;
  after = b.after;
  parts = e ∙ (ap (λ (t : List (List ℕ)). (front ++ p ∷ good) ++ codes "lrat" ∷ t) b.parts ∙ sym (behind b.after));
  number = omega (arith, k, le, b.number, length-append front (p ∷ good), length-append (front ++ p ∷ good) (codes "lrat" ∷ b.good));
  begins = (b.begins.0, (v, ds, b.begins.1.0, (front ++ p ∷ good, b.good ++ b.begins.0, behind b.begins.0, whole_found front p v count (front ++ p ∷ good) good ds os f refl g whole none, b.begins.1.1)));
  none = none_of b.after b.none;
}
  where
    behind : (tail : List (List ℕ)) → ((front ++ p ∷ good) ++ codes "lrat" ∷ b.good) ++ tail ≡ (front ++ p ∷ good) ++ codes "lrat" ∷ (b.good ++ tail)
    behind tail = append_assoc (front ++ p ∷ good) (codes "lrat" ∷ b.good) tail

    log_of : (ls : List (List ℕ)) → IsJoinedText ((front ++ p ∷ good) ++ codes "lrat" ∷ ls) → IsLogText v (length ds) ls
    log_of ls t = (t.2, (joined_told front p v count good ds os f g none ls t.0 t.1 t.2 t.3).2)

    none_of : (after : List (List ℕ)) → NoneBegins (IsLogText v (length ds)) b.good after → NoneBegins IsJoinedText ((front ++ p ∷ good) ++ codes "lrat" ∷ b.good) after
    none_of [] h = λ t. h (log_of b.good t)
    none_of (l ∷ after) h = λ more t. h more (log_of (b.good ++ l ∷ more) (subst IsJoinedText (behind (l ∷ more)) t))

pub joined_err : (v count k : ℕ) (front : List (List ℕ)) (p : List ℕ) (all lines : List (List ℕ)) (body : Body) (fault : CnfFault) → IsFront front p v count → all ≡ front ++ p ∷ lines → k ≡ length front + 1 → IsBodyRead v count k lines body (Err fault) → IsJoinedRead all (Err fault)
joined_err v count k front p all lines body (faults.BadLine n) f e m b =
    let others = others_front front p v count b.good b.clauses b.open_lits f b.is_good in
    joined_bad all n (front ++ p ∷ b.good) b.line b.after
    (e ∙ (ap (λ (t : List (List ℕ)). front ++ p ∷ t) b.parts ∙ sym (behind_front front p b.good (b.line ∷ b.after))))
    (omega (arith, b.number, m, length-append front (p ∷ b.good))) others b.other (good_begins front p v count b.good b.clauses b.open_lits f b.is_good) none_of
  where
    none_of : (more : List (List ℕ)) → IsFormulaText ((front ++ p ∷ b.good) ++ b.line ∷ more) → ⊥
    none_of more t =
        let h = formula_behind front p v count (b.good ++ b.line ∷ more) t.0 t.1 f (subst (λ (ls : List (List ℕ)). SpellsFormula ls t.0 t.1) (behind_front front p b.good (b.line ∷ more)) t.2) in
        b.none more t.1 h.0 h.1 (ap (flat_map body_words) (append_assoc b.good (b.line ∷ []) more) ∙ h.2)
joined_err v count k front p all lines body faults.Limit f e m b = absurd b
joined_err v count k front p all lines body faults.Memory f e m b = tt

-- the whole text
pub joined_found : (front : List (List ℕ)) (p : List ℕ) (v count n first : ℕ) (all good rest : List (List ℕ)) (ds cs : List Clause) (os : Clause) (log : List Line) → IsFront front p v count → all ≡ (front ++ p ∷ good) ++ codes "lrat" ∷ rest → IsGood v count good ds os → length ds ≡ count → os ≡ [] → v ≤ VARIABLE_LIMIT → cs ≡ ds
    → n ≡ length cs → SpellsLog v n rest log → first ≡ n → ((other : List Line) → SpellsLog v n rest other → other ≡ log)
    → SpellsJoined all v cs log × (v ≤ VARIABLE_LIMIT) × (first ≡ length cs) × ((v' : ℕ) (cs' : List Clause) (log' : List Line) → SpellsJoined all v' cs' log' → (v' ≡ v) × (cs' ≡ cs) × (log' ≡ log))
joined_found front p v count n first all good rest ds cs os log f e g whole none fits same counted spells at only = (
  (front ++ p ∷ good, rest, e, subst (SpellsFormula (front ++ p ∷ good) v) (sym same) (whole_found front p v count (front ++ p ∷ good) good ds os f refl g whole none), subst (λ (k : ℕ). SpellsLog v k rest log) counted spells),
  fits,
  at ∙ counted,
  λ v' cs' log' s.
      let t = joined_told front p v count good ds os f g none rest v' cs' log' (subst (λ (ls : List (List ℕ)). SpellsJoined ls v' cs' log') e s) in
      (t.0, t.1 ∙ sym same, only log' (subst (λ (k : ℕ). SpellsLog v k rest log') (ap length (sym same) ∙ sym counted) t.2)),
)

-- a fault of the log
pub log_err : (front : List (List ℕ)) (p : List ℕ) (v count before k : ℕ) (all good rest : List (List ℕ)) (ds : List Clause) (os : Clause) (fault : LogFault) → IsFront front p v count → all ≡ (front ++ p ∷ good) ++ codes "lrat" ∷ rest → before ≡ length front + 1 + length good + 1 → IsGood v count good ds os → length ds ≡ count → os ≡ [] → k ≡ length ds → IsLogRead v k rest before (Err fault) → IsJoinedRead all (Err (fault_of fault))
log_err front p v count before k all good rest ds os (log_faults.BadLine n) f e at g whole none counted bad =
    log_first front p v count before n all good rest ds os f e at g whole none bad.0 (subst (λ (m : ℕ). IsFirstBad (IsLogText v m) rest (n - before)) counted bad.1)
log_err front p v count before k all good rest ds os log_faults.Memory f e at g whole none counted bad = tt

-- a fault of a log that is only judged
pub fault_judged : (v c before : ℕ) (lines : List (List ℕ)) (fault : LogFault) → IsLogJudged v c lines before (Err fault) → IsJudgedFault v c lines before (fault_of fault)
fault_judged v c before lines (log_faults.BadLine n) h = h
fault_judged v c before lines log_faults.Memory h = tt

-- and the text with it
pub judged_err : (front : List (List ℕ)) (p : List ℕ) (v count before : ℕ) (all good rest : List (List ℕ)) (ds : List Clause) (os : Clause) (fault : CnfFault) → IsFront front p v count → all ≡ (front ++ p ∷ good) ++ codes "lrat" ∷ rest → before ≡ length front + 1 + length good + 1 → IsGood v count good ds os → length ds ≡ count → os ≡ [] → VARIABLE_LIMIT < v → IsJudgedFault v count rest before fault → IsJoinedRead all (Err fault)
judged_err front p v count before all good rest ds os (faults.BadLine n) f e at g whole none over bad =
    log_first front p v count before n all good rest ds os f e at g whole none bad.0 (subst (λ (m : ℕ). IsFirstBad (IsLogText v m) rest (n - before)) (sym whole) bad.1)
judged_err front p v count before all good rest ds os faults.Limit f e at g whole none over t =
    (v, ds, t.0, (front ++ p ∷ good, rest, e, whole_found front p v count (front ++ p ∷ good) good ds os f refl g whole none, subst (λ (m : ℕ). SpellsLog v m rest t.0) (sym whole) t.1), over)
judged_err front p v count before all good rest ds os faults.Memory f e at g whole none over t = tt
