-- A formula's lines together.
use Rattle.std.proofs.Common.{◌≡◌, ℕ, zero, suc, ◌+◌, ◌-◌, ◌<◌, ◌≤◌, ◌^◌, Bool, true, false, List, [], ◌∷◌, ◌++◌, length, map, replicate, refl, sym, ap, ◌∙◌, subst, arith, append_assoc, length-append, lit<}
use Rattle.std.specs.Prelude.{codes}
use Rattle.std.specs.List.{flat_map}
use Rattle.std.specs.Fmt.{decimal}
use Rattle.std.proofs.lemmas.Fmt.{decimal_digit, decimal_injective, decimal_nonempty}
use Rattle.std.proofs.lemmas.List.{append-nil}
use Rattle.clause_arena.specs.Clauses.{Clause}
use Rattle.text_rows.specs.Words.{signed_word}
use Rattle.dimacs_text.specs.Logs.{ended, lit_word, LitsWithin, IsLitWithin}
use Rattle.dimacs_text.specs.Formulas.{body_words, clause_words, clauses_words, AreClauses, header_words, SpellsFormula}
use Rattle.dimacs_text.specs.Streams.{stream}
use Rattle.std.specs.Prelude.{Err}
use Rattle.cpog_base.specs.declared.limits.TheConstants.{VARIABLE_LIMIT}
use Rattle.dimacs_text.specs.declared.body.Body.{Body}
use Rattle.dimacs_text.specs.declared.cnf.CnfFault.{CnfFault}
use Rattle.dimacs_text.specs.declared.cnf.CnfFault.TheVariants as faults
use Rattle.dimacs_text.specs.CnfTexts.{IsFrontRead, IsCnfRead}
use Rattle.dimacs_text.specs.Bodies.{IsGood, NoneBegin, IsBodyRead}
use Rattle.text_rows.specs.FirstBad.{IsFirstBad}
use Rattle.dimacs_text.specs.Texts.{IsFormulaText, IsFront}
use Rattle.dimacs_text.proofs.EntryLemmas.{Words, heads, tails, told, lits_tell, ended_told, same_items}
use Rattle.text_rows.proofs.PlainLemmas.{digit_in}
use Rattle.dimacs_text.proofs.StreamLemmas.{lits_within, clauses_within, whole_told, none_go_on, stream_more}
use Rattle.dimacs_text.proofs.BodyLemmas.{flat_append, none_begin}
use Rattle.dimacs_text.proofs.FrontLemmas.{spells_behind, spells_before}

-- so many lines `0` give so many empty clauses
zeros : (k : ℕ) → flat_map body_words (replicate k (codes "0")) ≡ clauses_words (replicate k [])
zeros zero = refl
zeros (suc k) =
    let one : body_words (codes "0") ≡ clause_words [] = ap (λ (d : List ℕ). d ∷ []) (sym (decimal_digit 0 (lit< tt))) in
    ap (λ (t : Words). t ++ flat_map body_words (replicate k (codes "0"))) one ∙ ap (λ (t : Words). clause_words [] ++ t) (zeros k)

flat_clauses : (xs ys : List Clause) → clauses_words (xs ++ ys) ≡ clauses_words xs ++ clauses_words ys
flat_clauses [] ys = refl
flat_clauses (x ∷ xs) ys = ap (λ (t : Words). clause_words x ++ t) (flat_clauses xs ys) ∙ sym (append_assoc (clause_words x) (clauses_words xs) (clauses_words ys))

empties : (v k : ℕ) → AreClauses v (replicate k [])
empties v zero = tt
empties v (suc k) = (tt, empties v k)

all_both : (v : ℕ) (xs ys : List Clause) → AreClauses v xs → AreClauses v ys → AreClauses v (xs ++ ys)
all_both v [] ys hx hy = hy
all_both v (x ∷ xs) ys hx hy = (hx.0, all_both v xs ys hx.1 hy)

length_replicate : (k : ℕ) → length (replicate {A = Clause} k []) ≡ k
length_replicate zero = refl
length_replicate (suc k) = ap suc (length_replicate k)

-- a good beginning can be completed
pub completed : (v count : ℕ) (good : List (List ℕ)) (ds : List Clause) (os : Clause) → IsGood v count good ds os → (more : List (List ℕ)) × (all : List Clause) × AreClauses v all × (length all ≡ count) × (flat_map body_words (good ++ more) ≡ clauses_words all)
completed v count good ds os g = by (count - length ds) refl
  where
    by : (k : ℕ) → k ≡ count - length ds → (more : List (List ℕ)) × (all : List Clause) × AreClauses v all × (length all ≡ count) × (flat_map body_words (good ++ more) ≡ clauses_words all)
    by zero e =
        let n : length ds ≡ count = omega (arith, e, g.left.most) in
        let none : os ≡ [] = g.left.full n in
        ([], ds, clauses_within v ds g.within, n, ap (flat_map body_words) (append-nil good) ∙ (g.read ∙ (ap (λ (o : Clause). stream ds o []) none ∙ append-nil (clauses_words ds))))
    by (suc k) e = (
      codes "0" ∷ replicate k (codes "0"),
      ds ++ (os ∷ replicate k []),
      all_both v ds (os ∷ replicate k []) (clauses_within v ds g.within) (lits_within v os g.open_within, empties v k),
      omega (arith, e, length-append ds (os ∷ replicate k []), length_replicate k),
      flat_append good (codes "0" ∷ replicate k (codes "0"))
          ∙ (ap (λ (t : Words). t ++ flat_map body_words (codes "0" ∷ replicate k (codes "0"))) g.read
          ∙ (sym (stream_more ds os [] (flat_map body_words (codes "0" ∷ replicate k (codes "0"))))
          ∙ (ap (λ (t : Words). stream ds os t) (zeros (suc k)) ∙ closed k))),
    )
      where
        closed : (k : ℕ) → stream ds os (clauses_words (replicate (suc k) [])) ≡ clauses_words (ds ++ (os ∷ replicate k []))
        closed k = ap (λ (t : Words). clauses_words ds ++ t) (sym (append_assoc (map lit_word os) (decimal 0 ∷ []) (clauses_words (replicate k [])))) ∙ sym (flat_clauses ds (os ∷ replicate k []))

pub header_told : (v v' n n' : ℕ) → v < 10000000000 → v' < 10000000000 → n < 10000000000 → n' < 10000000000 → header_words v n ≡ header_words v' n' → (v ≡ v') × (n ≡ n')
header_told v v' n n' lv lv' ln ln' e =
    let one = tails (codes "p") (codes "p") (codes "cnf" ∷ decimal v ∷ decimal n ∷ []) (codes "cnf" ∷ decimal v' ∷ decimal n' ∷ []) (header_words v n) refl e in
    let two = tails (codes "cnf") (codes "cnf") (decimal v ∷ decimal n ∷ []) (decimal v' ∷ decimal n' ∷ []) (codes "cnf" ∷ decimal v ∷ decimal n ∷ []) refl one in
    let a : decimal v ≡ decimal v' = heads (decimal v) (decimal v') (decimal n ∷ []) (decimal n' ∷ []) (decimal v ∷ decimal n ∷ []) refl two in
    let three = tails (decimal v) (decimal v') (decimal n ∷ []) (decimal n' ∷ []) (decimal v ∷ decimal n ∷ []) refl two in
    let b : decimal n ≡ decimal n' = heads (decimal n) (decimal n') [] [] (decimal n ∷ []) refl three in
    (decimal_injective v v' (omega arith) (omega arith) a, decimal_injective n n' (omega arith) (omega arith) b)

pub formula_behind : (front : List (List ℕ)) (p : List ℕ) (v count : ℕ) (ls : List (List ℕ)) (v' : ℕ) (cs : List Clause) → IsFront front p v count → SpellsFormula (front ++ p ∷ ls) v' cs → AreClauses v cs × (length cs ≡ count) × (flat_map body_words ls ≡ clauses_words cs) × (v' ≡ v)
formula_behind front p v count ls v' cs f s =
    let t = rw f.header at (spells_behind front (p ∷ ls) v' cs f.passed s) in
    let h = header_told v v' count (length cs) f.few_variables t.0 f.few t.1 (sym f.words ∙ t.2) in
    (subst (λ (k : ℕ). AreClauses k cs) (sym h.0) t.3, sym h.1, t.4, sym h.0)

pub formula_found : (front : List (List ℕ)) (p : List ℕ) (v count : ℕ) (ls : List (List ℕ)) (cs : List Clause) → IsFront front p v count → AreClauses v cs → length cs ≡ count → flat_map body_words ls ≡ clauses_words cs → SpellsFormula (front ++ p ∷ ls) v cs
formula_found front p v count ls cs f hc n e =
    spells_before front (p ∷ ls) v cs f.passed (rw f.header (f.few_variables, omega (arith, n, f.few), f.words ∙ ap (header_words v) (sym n), hc, e))

pub behind_front : (front : List (List ℕ)) (p : List ℕ) (good tail : List (List ℕ)) → (front ++ p ∷ good) ++ tail ≡ front ++ p ∷ (good ++ tail)
behind_front front p good tail = append_assoc front (p ∷ good) tail

pub good_begins : (front : List (List ℕ)) (p : List ℕ) (v count : ℕ) (good : List (List ℕ)) (ds : List Clause) (os : Clause) → IsFront front p v count → IsGood v count good ds os → (more : List (List ℕ)) × IsFormulaText ((front ++ p ∷ good) ++ more)
good_begins front p v count good ds os f g =
    let c = completed v count good ds os g in
    (c.0, (v, c.1, subst (λ (ls : List (List ℕ)). SpellsFormula ls v c.1) (sym (behind_front front p good c.0)) (formula_found front p v count (good ++ c.0) c.1 f c.2 c.3 c.4)))

pub line_first : (front : List (List ℕ)) (p : List ℕ) (v count n : ℕ) (all good : List (List ℕ)) (l : List ℕ) (after : List (List ℕ)) (ds : List Clause) (os : Clause) → IsFront front p v count → all ≡ front ++ p ∷ (good ++ l ∷ after) → n ≡ length front + 1 + length good + 1 → IsGood v count good ds os → NoneBegin v count (good ++ l ∷ []) → IsFirstBad IsFormulaText all n
line_first front p v count n all good l after ds os f e k g none = record {
  good = front ++ p ∷ good;
  after = l ∷ after;
  parts = e ∙ sym (behind_front front p good (l ∷ after));
  number = omega (arith, k, length-append front (p ∷ good));
  begins = good_begins front p v count good ds os f g;
  none = λ tail t.
      let b = formula_behind front p v count (good ++ l ∷ tail) t.0 t.1 f (subst (λ (ls : List (List ℕ)). SpellsFormula ls t.0 t.1) (behind_front front p good (l ∷ tail)) t.2) in
      none tail t.1 b.0 b.1 (ap (flat_map body_words) (append_assoc good (l ∷ []) tail) ∙ b.2);
}

-- a clause is open or wanting
pub not_whole : (front : List (List ℕ)) (p : List ℕ) (v count : ℕ) (good : List (List ℕ)) (ds : List Clause) (os : Clause) → IsFront front p v count → IsGood v count good ds os → (length ds ≡ count → os ≡ [] → ⊥) → IsFormulaText (front ++ p ∷ good) → ⊥
not_whole front p v count good ds os f g wanting t =
    let b = formula_behind front p v count good t.0 t.1 f t.2 in
    let r = whole_told v f.few_variables ds t.1 (map lit_word os ++ []) (clauses_within v ds g.within) b.0 (sym g.read ∙ b.2) in
    left os r.0 (omega (arith, r.2, b.1)) r.3 (lits_within v os g.open_within) r.1 wanting
  where
    nothing : (xs ys t : Words) → xs ≡ ys ++ (decimal 0 ∷ t) → xs ≡ [] → ⊥
    nothing xs [] t h z = absurd cc
    nothing xs (y ∷ ys) t h z = absurd cc

    left : (o : Clause) (rest : List Clause) → length ds + length rest ≡ count → map lit_word o ++ [] ≡ clauses_words rest → LitsWithin v o → AreClauses v rest → (length ds ≡ count → o ≡ [] → ⊥) → ⊥
    left [] [] n h wo wr w = w (omega (arith, n)) refl
    left (l ∷ o) [] n h wo wr w = absurd cc
    left o (c ∷ rest) n h wo wr w =
        let t = told lit_word (IsLitWithin v) (lits_tell v f.few_variables) o c [] (clauses_words rest) wo wr.0 (h ∙ append_assoc (map lit_word c) (decimal 0 ∷ []) (clauses_words rest)) in
        nothing [] (map lit_word t.0) (clauses_words rest) t.2 refl

-- the end, where a clause is open or wanting
pub end_first : (front : List (List ℕ)) (p : List ℕ) (v count n : ℕ) (all good : List (List ℕ)) (ds : List Clause) (os : Clause) → IsFront front p v count → all ≡ front ++ p ∷ good → n ≡ length front + 1 + length good + 1 → IsGood v count good ds os → (length ds ≡ count → os ≡ [] → ⊥) → IsFirstBad IsFormulaText all n
end_first front p v count n all good ds os f e k g wanting = record {
  good = front ++ p ∷ good;
  after = [];
  parts = e ∙ sym (append-nil (front ++ p ∷ good));
  number = omega (arith, k, length-append front (p ∷ good));
  begins = good_begins front p v count good ds os f g;
  none = not_whole front p v count good ds os f g wanting;
}

pub whole_found : (front : List (List ℕ)) (p : List ℕ) (v count : ℕ) (all good : List (List ℕ)) (ds : List Clause) (os : Clause) → IsFront front p v count → all ≡ front ++ p ∷ good → IsGood v count good ds os → length ds ≡ count → os ≡ [] → SpellsFormula all v ds
whole_found front p v count all good ds os f e g n none =
    subst (λ (ls : List (List ℕ)). SpellsFormula ls v ds) (sym e) (formula_found front p v count good ds f (clauses_within v ds g.within) n (g.read ∙ (ap (λ (o : Clause). stream ds o []) none ∙ append-nil (clauses_words ds))))

pub lrat_no_number : (p : Bool) (n : ℕ) (t : Words) → n < 10000000000 → (codes "lrat" ∷ []) ≡ signed_word p n ∷ t → ⊥
lrat_no_number true n t lt e = apart 108 45 (codes "rat") (decimal n) (omega arith) (heads (codes "lrat") (signed_word true n) [] t (codes "lrat" ∷ []) refl e)
  where
    apart : (a b : ℕ) (s t : List ℕ) → (a ≡ b → ⊥) → (a ∷ s) ≡ (b ∷ t) → ⊥
    apart a b s t ne f = ne (let g : a ≡ b = cc in g)
lrat_no_number false n t lt e =
    let same : codes "lrat" ≡ decimal n = heads (codes "lrat") (decimal n) [] t (codes "lrat" ∷ []) refl e in
    absurd (omega (arith, digit_in (codes "lrat") [] n 0 lt (decimal_nonempty n (let h : n < 2 ^ 64 = omega arith in h)) (same ∙ sym (append-nil (decimal n)))))

pub lrat_none : (v count : ℕ) → v < 10000000000 → (good : List (List ℕ)) (ds : List Clause) (os : Clause) → IsGood v count good ds os → NoneBegin v count (good ++ codes "lrat" ∷ [])
lrat_none v count small good ds os g =
    none_begin v count good (codes "lrat") ds os g (none_go_on v count small ds os (codes "lrat" ∷ []) g.within g.open_within (λ z. absurd (filled z)) (λ lt p n t ln some e. absurd (lrat_no_number p n t ln e)))
  where
    filled : (codes "lrat" ∷ []) ≡ [] → ⊥
    filled z = cc

filled : (ws t : Words) → ended ws ++ t ≡ [] → ⊥
filled [] t f = absurd cc
filled (w ∷ ws) t f = absurd cc

-- the words tell the clauses
pub clauses_told : (v : ℕ) → v < 10000000000 → (xs ys : List Clause) → AreClauses v xs → AreClauses v ys → clauses_words xs ≡ clauses_words ys → xs ≡ ys
clauses_told v small [] [] hx hy e = refl
clauses_told v small [] (y ∷ ys) hx hy e = absurd (filled (map lit_word y) (clauses_words ys) (sym e))
clauses_told v small (x ∷ xs) [] hx hy e = absurd (filled (map lit_word x) (clauses_words xs) e)
clauses_told v small (x ∷ xs) (y ∷ ys) hx hy e =
    let first : x ≡ y = ended_told lit_word (IsLitWithin v) (lits_tell v small) x y (clauses_words xs) (clauses_words ys) hx.0 hy.0 e in
    let rest : xs ≡ ys = clauses_told v small xs ys hx.1 hy.1 (same_items lit_word (IsLitWithin v) (lits_tell v small) x y (clauses_words xs) (clauses_words ys) hx.0 hy.0 e) in
    λ i. first i ∷ rest i

-- no other formula is spelled
pub only_formula : (front : List (List ℕ)) (p : List ℕ) (v count : ℕ) (all good : List (List ℕ)) (ds : List Clause) (os : Clause) → IsFront front p v count → all ≡ front ++ p ∷ good → IsGood v count good ds os → os ≡ [] → (v' : ℕ) (cs : List Clause) → SpellsFormula all v' cs → (v' ≡ v) × (cs ≡ ds)
only_formula front p v count all good ds os f e g none v' cs s =
    let b = formula_behind front p v count good v' cs f (subst (λ (ls : List (List ℕ)). SpellsFormula ls v' cs) e s) in
    let words : clauses_words ds ≡ clauses_words cs = sym (append_nil_of ds) ∙ (ap (λ (o : Clause). stream ds o []) (sym none) ∙ (sym g.read ∙ b.2)) in
    (b.3, sym (clauses_told v f.few_variables ds cs (clauses_within v ds g.within) b.0 words))
  where
    append_nil_of : (ds : List Clause) → clauses_words ds ++ [] ≡ clauses_words ds
    append_nil_of ds = append-nil (clauses_words ds)

pub err_read : (v count k : ℕ) (front : List (List ℕ)) (p : List ℕ) (all lines : List (List ℕ)) (body : Body) (fault : CnfFault) → IsFront front p v count → all ≡ front ++ p ∷ lines → k ≡ length front + 1 → IsBodyRead v count k lines body (Err fault) → IsCnfRead all (Err fault)
err_read v count k front p all lines body (faults.BadLine n) f e m b = line_first front p v count n all b.good b.line b.after b.clauses b.open_lits f (e ∙ ap (λ (t : List (List ℕ)). front ++ p ∷ t) b.parts) (omega (arith, b.number, m)) b.is_good b.none
err_read v count k front p all lines body faults.Limit f e m b = absurd b
err_read v count k front p all lines body faults.Memory f e m b = tt

-- a fault of the lines up to the `p` line
pub front_err : (all : List (List ℕ)) (fault : CnfFault) → IsFrontRead all (Err fault) → IsCnfRead all (Err fault)
front_err all (faults.BadLine n) b = b.0
front_err all faults.Limit b = absurd b
front_err all faults.Memory b = absurd b

-- a whole formula with too many variables
pub limit_found : (front : List (List ℕ)) (p : List ℕ) (v count : ℕ) (all good : List (List ℕ)) (ds : List Clause) (os : Clause) → IsFront front p v count → all ≡ front ++ p ∷ good → IsGood v count good ds os → length ds ≡ count → os ≡ [] → VARIABLE_LIMIT < v → IsCnfRead all (Err faults.Limit)
limit_found front p v count all good ds os f e g n none over = (v, ds, whole_found front p v count all good ds os f e g n none, over)

-- a whole formula, kept as these clauses
pub read_found : (front : List (List ℕ)) (p : List ℕ) (v count : ℕ) (all good : List (List ℕ)) (ds cs : List Clause) (os : Clause) → IsFront front p v count → all ≡ front ++ p ∷ good → IsGood v count good ds os → length ds ≡ count → os ≡ [] → v ≤ VARIABLE_LIMIT → cs ≡ ds
    → SpellsFormula all v cs × (v ≤ VARIABLE_LIMIT) × ((v' : ℕ) (cs' : List Clause) → SpellsFormula all v' cs' → (v' ≡ v) × (cs' ≡ cs))
read_found front p v count all good ds cs os f e g n none fits same = (
  subst (SpellsFormula all v) (sym same) (whole_found front p v count all good ds os f e g n none),
  fits,
  λ v' cs' s. let o = only_formula front p v count all good ds os f e g none v' cs' s in (o.0, o.1 ∙ sym same),
)
