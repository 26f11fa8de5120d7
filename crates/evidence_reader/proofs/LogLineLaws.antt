-- A line of a log is read exactly.
use Rattle.std.proofs.Common.{◌≡◌, ℕ, ◌+◌, ◌<◌, ◌≤◌, Bool, true, false, List, [], ◌∷◌, ◌++◌, map, Option, Some, None, refl, sym, ap, subst, ◌∙◌, arith, inl, inr, ◌⊎◌}
use Rattle.std.specs.Prelude.{codes, nat_lt}
use Rattle.std.specs.Fmt.{decimal}
use Rattle.std.specs.Str.{bytes_eq}
use Rattle.std.specs.List.{AllByRecursion}
use Rattle.std.proofs.lemmas.Bool.{cases_Bool, lt-ltb, ltb-true}
use Rattle.std.proofs.lemmas.List.{append-nil}
use Rattle.std.proofs.lemmas.Slice.Eq.{bytes_eq-Decides}
use Rattle.clause_arena.specs.Clauses.{Lit, Clause}
use Rattle.proof_check.specs.Lines.{Line, ArePositive}
use Rattle.text_rows.specs.Words.{tokens, spaced, signed_word}
use Rattle.dimacs_text.specs.Logs.{ended, lit_word, IsLitWithin, LitsWithin, IsId, AreIds, SpellsLine}
use Rattle.dimacs_text.proofs.EntryLemmas.{ids_tell, lits_tell}
use Rattle.report_text.specs.Spelling.{IsSingleSpaced}
use Rattle.line_rows.specs.Words.{◌>>=?◌, number_in, behind, behind_of, made_of}
use Rattle.line_rows.proofs.Exact.{IsExact, number_exact, exact-where, some_of, some_is, chosen, same_bytes, behind_again, behind_takes}
use Rattle.line_rows.proofs.LinedLaws.{IsExactOf}
use Rattle.evidence_reader.specs.LogLines.{first_of, id_in, variable_in, lit_of, lit_in, items_in, at_end, deletion_in, addition_in, line_of_words, log_line_in}

abbrev Words : Type 0
Words = List (List ℕ)

pub bytes_apart : (a b : List ℕ) → (a ≡ b → ⊥) → bytes_eq a b ≡ false
bytes_apart a b ne = elim (cases_Bool (bytes_eq a b)) [
  | inl t ↦ absurd (ne ((bytes_eq-Decides a b).0 t))
  | inr f ↦ f
]

pub first_from : {A : Type 0} (a b : Option A) (x : A) → first_of a b ≡ Some x → (a ≡ Some x) ⊎ ((a ≡ None) × (b ≡ Some x))
first_from (Some y) b x e = inl e
first_from None b x e = inr (refl, e)

-- ---- numbers and literals

pub id_exact : IsExact IsId decimal id_in
id_exact = record {
  again = λ n fits. base.again n (fits.1, lt-ltb 0 n fits.0);
  takes = λ bytes n e. let t = base.takes bytes n e in ((ltb-true 0 n t.0.1, t.0.0), t.1);
}
  where
    base : IsExact (λ n. (n < 4294967296) × (nat_lt 0 n ≡ true)) decimal id_in
    base = exact-where (nat_lt 0) (number_exact 4294967296 (omega arith))

abbrev IsVariable : ℕ → ℕ → Type 0
IsVariable variables n = (0 < n) × (n ≤ variables)

variable_exact : (variables : ℕ) → variables < 10000000000 → IsExact (IsVariable variables) decimal (variable_in variables)
variable_exact variables small = record {
  again = λ n fits. base.again n (omega (arith, fits.1), lt-ltb 0 n fits.0);
  takes = λ bytes n e. let t = base.takes bytes n e in ((ltb-true 0 n t.0.1, omega (arith, t.0.0)), t.1);
}
  where
    base : IsExact (λ n. (n < variables + 1) × (nat_lt 0 n ≡ true)) decimal (variable_in variables)
    base = exact-where (nat_lt 0) (number_exact (variables + 1) (omega (arith, small)))

no_minus_number : (bound : ℕ) (bs : List ℕ) → number_in bound (45 ∷ bs) ≡ None
unfolding number_in
no_minus_number bound bs = refl

lit_again : (variables : ℕ) → variables < 10000000000 → (negated : Bool) (n : ℕ) → IsVariable variables n → lit_in variables (signed_word negated n) ≡ Some (record { var = n; negated = negated })
lit_again variables small false n h = rw ((variable_exact variables small).again n h) refl
lit_again variables small true n h = rw (no_minus_number (variables + 1) (decimal n), behind_again (codes "-") (decimal n), (variable_exact variables small).again n h) refl

lit_takes : (variables : ℕ) → variables < 10000000000 → (word : List ℕ) (l : Lit) → lit_in variables word ≡ Some l → IsLitWithin variables l × (word ≡ lit_word l)
lit_takes variables small word l e =
    elim (first_from (made_of (lit_of false) (variable_in variables) word) (behind_of (codes "-") (made_of (lit_of true) (variable_in variables)) word) l e) [
      | inl h ↦
          let n = some_of (variable_in variables word) (lit_of false) l h in
          let t = (variable_exact variables small).takes word n.0 n.1 in
          subst (λ (x : Lit). IsLitWithin variables x × (word ≡ lit_word x)) (some_is (record { var = n.0; negated = false }) l n.2) t
      | inr h ↦
          let r = some_of (behind (codes "-") word) (made_of (lit_of true) (variable_in variables)) l h.1 in
          let n = some_of (variable_in variables r.0) (lit_of true) l r.2 in
          let t = (variable_exact variables small).takes r.0 n.0 n.1 in
          let whole : word ≡ 45 ∷ decimal n.0 = behind_takes (codes "-") word r.0 r.1 ∙ ap (λ (x : List ℕ). 45 ∷ x) t.1 in
          subst (λ (x : Lit). IsLitWithin variables x × (word ≡ lit_word x)) (some_is (record { var = n.0; negated = true }) l n.2) (t.0, whole)
    ]

pub lit_exact : (variables : ℕ) → variables < 10000000000 → IsExact (IsLitWithin variables) lit_word (lit_in variables)
lit_exact variables small = record {
  again = λ l fits. lit_again variables small l.negated l.var fits;
  takes = λ word l e. lit_takes variables small word l e;
}

-- ---- lists up to `0`

items_again : {X : Type 0} (Fits : X → Type 0) (text : X → List ℕ) (read : List ℕ → Option X) → IsExact Fits text read → ((x : X) → Fits x → text x ≡ decimal 0 → ⊥) → (xs : List X) (rest : Words) → AllByRecursion Fits xs → items_in read (ended (map text xs) ++ rest) ≡ Some (xs, rest)
items_again Fits text read exact ne [] rest h = rw (same_bytes (decimal 0)) refl
items_again Fits text read exact ne (x ∷ xs) rest h =
    rw (bytes_apart (text x) (decimal 0) (ne x h.0), exact.again x h.0, items_again Fits text read exact ne xs rest h.1) refl

items_whole : {X : Type 0} (Fits : X → Type 0) (text : X → List ℕ) (read : List ℕ → Option X) → IsExact Fits text read → ((x : X) → Fits x → text x ≡ decimal 0 → ⊥) → (xs : List X) → AllByRecursion Fits xs → items_in read (ended (map text xs)) ≡ Some (xs, [])
items_whole Fits text read exact ne xs h = ap (items_in read) (sym (append-nil (ended (map text xs)))) ∙ items_again Fits text read exact ne xs [] h

items_takes : {X : Type 0} (Fits : X → Type 0) (text : X → List ℕ) (read : List ℕ → Option X) → IsExact Fits text read → (words : Words) (x : List X × Words) → items_in read words ≡ Some x → AllByRecursion Fits x.0 × (words ≡ ended (map text x.0) ++ x.1)
items_takes Fits text read exact [] x e = absurd cc
items_takes {X = X} Fits text read exact (w ∷ ws) x e =
    elim (chosen (bytes_eq w (decimal 0)) ([], ws) (read w >>=? λ y. items_in read ws >>=? λ ys. Some (y ∷ ys.0, ys.1)) x e) [
      | inl h ↦ subst (λ (z : List X × Words). AllByRecursion Fits z.0 × ((w ∷ ws) ≡ ended (map text z.0) ++ z.1)) h.1 (tt, ap (λ (v : List ℕ). v ∷ ws) ((bytes_eq-Decides w (decimal 0)).0 h.0))
      | inr h ↦
          let a = some_of (read w) (λ y. items_in read ws >>=? λ ys. Some (y ∷ ys.0, ys.1)) x h.1 in
          let b = some_of (items_in read ws) (λ ys. Some (a.0 ∷ ys.0, ys.1)) x a.2 in
          let r = items_takes Fits text read exact ws b.0 b.1 in
          let t = exact.takes w a.0 a.1 in
          let both : (w ∷ ws) ≡ text a.0 ∷ (ended (map text b.0.0) ++ b.0.1) = λ i. t.1 i ∷ r.1 i in
          subst (λ (z : List X × Words). AllByRecursion Fits z.0 × ((w ∷ ws) ≡ ended (map text z.0) ++ z.1)) (some_is (a.0 ∷ b.0.0, b.0.1) x b.2) ((t.0, r.0), both)
    ]

end_takes : {X Y : Type 0} (make : X → Y) (x : X × Words) (y : Y) → at_end make x ≡ Some y → (x.1 ≡ []) × (make x.0 ≡ y)
end_takes make (x, []) y e = (refl, some_is (make x) y e)
end_takes make (x, w ∷ ws) y e = absurd cc

whole_takes : {X Y : Type 0} (Fits : X → Type 0) (text : X → List ℕ) (read : List ℕ → Option X) → IsExact Fits text read → (make : List X → Y) (words : Words) (y : Y) → (items_in read words >>=? at_end make) ≡ Some y → (xs : List X) × AllByRecursion Fits xs × (words ≡ ended (map text xs)) × (make xs ≡ y)
whole_takes Fits text read exact make words y e =
    let a = some_of (items_in read words) (at_end make) y e in
    let t = items_takes Fits text read exact words a.0 a.1 in
    let end = end_takes make a.0 y a.2 in
    (a.0.0, t.0, t.1 ∙ ap (λ (ws : Words). ended (map text a.0.0) ++ ws) end.0 ∙ append-nil (ended (map text a.0.0)), end.1)

-- ---- deletions and additions

deletion_again : (ids : List ℕ) → AreIds ids → deletion_in (codes "d" ∷ ended (map decimal ids)) ≡ Some (Line.Del ids)
deletion_again ids h = rw (items_whole IsId decimal id_in id_exact ids_tell.not_end ids h) refl

deletion_takes : (words : Words) (l : Line) → deletion_in words ≡ Some l → (ids : List ℕ) × AreIds ids × (words ≡ codes "d" ∷ ended (map decimal ids)) × (Line.Del ids ≡ l)
deletion_takes [] l e = absurd cc
deletion_takes (w ∷ ws) l e =
    elim (cases_Bool (bytes_eq w (codes "d"))) [
      | inl t ↦
          let r = whole_takes IsId decimal id_in id_exact Line.Del ws l (sym (rw t refl) ∙ e) in
          let both : (w ∷ ws) ≡ codes "d" ∷ ended (map decimal r.0) = let first : w ≡ codes "d" = (bytes_eq-Decides w (codes "d")).0 t in λ i. first i ∷ r.2 i in
          (r.0, r.1, both, r.3)
      | inr f ↦ let none : None ≡ Some l = sym (rw f refl) ∙ e in absurd cc
    ]

no_letter : (variables : ℕ) → lit_in variables (codes "d") ≡ None
unfolding number_in behind
no_letter variables = refl

lit_no_letter : (variables : ℕ) → variables < 10000000000 → (l : Lit) → IsLitWithin variables l → lit_word l ≡ codes "d" → ⊥
lit_no_letter variables small l fits e =
    let none : None ≡ Some l = sym (no_letter variables) ∙ ap (lit_in variables) (sym e) ∙ (lit_exact variables small).again l fits in
    absurd cc

abbrev none_of : (A : Type 0) → Option A
none_of A = None

letter_no_number : number_in 1 (codes "d") ≡ None
unfolding number_in
letter_no_number = refl

zero_no_letter : decimal 0 ≡ codes "d" → ⊥
zero_no_letter e =
    let none : none_of ℕ ≡ Some 0 = sym letter_no_number ∙ ap (number_in 1) (sym e) ∙ (number_exact 1 (omega arith)).again 0 (omega arith) in
    absurd cc

no_deletion : (variables : ℕ) → variables < 10000000000 → (lits : Clause) (rest : Words) → LitsWithin variables lits → deletion_in (ended (map lit_word lits) ++ rest) ≡ None
no_deletion variables small [] rest h = rw (bytes_apart (decimal 0) (codes "d") zero_no_letter) refl
no_deletion variables small (l ∷ lits) rest h = rw (bytes_apart (lit_word l) (codes "d") (lit_no_letter variables small l h.0)) refl

addition_again : (variables : ℕ) → variables < 10000000000 → (last id : ℕ) (lits : Clause) (hints : List ℕ) → last < id → LitsWithin variables lits → AreIds hints → addition_in variables last id (ended (map lit_word lits) ++ ended (map decimal hints)) ≡ Some (Line.Add id lits hints)
addition_again variables small last id lits hints lt hl hh =
    rw (lt-ltb last id lt, items_again (IsLitWithin variables) lit_word (lit_in variables) (lit_exact variables small) (lits_tell variables small).not_end lits (ended (map decimal hints)) hl, items_whole IsId decimal id_in id_exact ids_tell.not_end hints hh) refl

addition_takes : (variables : ℕ) → variables < 10000000000 → (last id : ℕ) (words : Words) (l : Line) → addition_in variables last id words ≡ Some l
    → (lits : Clause) × (hints : List ℕ) × (last < id) × LitsWithin variables lits × AreIds hints × (words ≡ ended (map lit_word lits) ++ ended (map decimal hints)) × (Line.Add id lits hints ≡ l)
addition_takes variables small last id words l e =
    elim (cases_Bool (nat_lt last id)) [
      | inl t ↦
          let a = some_of (items_in (lit_in variables) words) (λ lits. items_in id_in lits.1 >>=? at_end (Line.Add id lits.0)) l (sym (rw t refl) ∙ e) in
          let f = items_takes (IsLitWithin variables) lit_word (lit_in variables) (lit_exact variables small) words a.0 a.1 in
          let r = whole_takes IsId decimal id_in id_exact (Line.Add id a.0.0) a.0.1 l a.2 in
          (a.0.0, r.0, ltb-true last id t, f.0, r.1, f.1 ∙ ap (λ (ws : Words). ended (map lit_word a.0.0) ++ ws) r.2, r.3)
      | inr f ↦ let none : None ≡ Some l = sym (rw f refl) ∙ e in absurd cc
    ]

-- ---- lines

words_again : (variables : ℕ) → variables < 10000000000 → (last : ℕ) (e : Line) (words : Words) → SpellsLine variables last e words → line_of_words variables last words ≡ Some e
words_again variables small last (Line.Add id lits hints) words h =
    rw (h.4, id_exact.again id (omega (arith, h.0), h.1), no_deletion variables small lits (ended (map decimal hints)) h.2, addition_again variables small last id lits hints h.0 h.2 h.3) refl
words_again variables small last (Line.Del ids) words h =
    rw (h.1.3, id_exact.again h.1.0 (h.1.1, h.1.2), deletion_again ids h.0) refl

words_takes : (variables : ℕ) → variables < 10000000000 → (last : ℕ) (words : Words) (e : Line) → line_of_words variables last words ≡ Some e → SpellsLine variables last e words
words_takes variables small last [] e h = absurd cc
words_takes variables small last (w ∷ ws) e h =
    let a = some_of (id_in w) (λ id. first_of (deletion_in ws) (addition_in variables last id ws)) e h in
    let t = id_exact.takes w a.0 a.1 in
    elim (first_from (deletion_in ws) (addition_in variables last a.0 ws) e a.2) [
      | inl d ↦
          let r = deletion_takes ws e d in
          let both : (w ∷ ws) ≡ decimal a.0 ∷ codes "d" ∷ ended (map decimal r.0) = λ i. t.1 i ∷ r.2 i in
          subst (λ (l : Line). SpellsLine variables last l (w ∷ ws)) r.3 (r.1, (a.0, t.0.0, t.0.1, both))
      | inr d ↦
          let r = addition_takes variables small last a.0 ws e d.1 in
          let both : (w ∷ ws) ≡ decimal a.0 ∷ (ended (map lit_word r.0) ++ ended (map decimal r.1)) = λ i. t.1 i ∷ r.5 i in
          subst (λ (l : Line). SpellsLine variables last l (w ∷ ws)) r.6 (r.2, t.0.1, r.3, r.4, both)
    ]

-- a line with single blanks that spells a line of a log
abbrev pub SpellsLogLine : ℕ → ℕ → Line → List ℕ → Type 0
SpellsLogLine variables last e l = IsSingleSpaced l × SpellsLine variables last e (tokens l)

log_line_again : (variables : ℕ) → variables < 10000000000 → (last : ℕ) (e : Line) (l : List ℕ) → SpellsLogLine variables last e l → log_line_in variables last l ≡ Some e
unfolding log_line_in
log_line_again variables small last e l h = rw ((bytes_eq-Decides l (spaced (tokens l))).1 h.0) (words_again variables small last e (tokens l) h.1)

log_line_takes : (variables : ℕ) → variables < 10000000000 → (last : ℕ) (l : List ℕ) (e : Line) → log_line_in variables last l ≡ Some e → SpellsLogLine variables last e l
unfolding log_line_in
log_line_takes variables small last l e h =
    elim (cases_Bool (bytes_eq l (spaced (tokens l)))) [
      | inl t ↦ ((bytes_eq-Decides l (spaced (tokens l))).0 t, words_takes variables small last (tokens l) e (sym (rw t refl) ∙ h))
      | inr f ↦ let none : None ≡ Some e = sym (rw f refl) ∙ h in absurd cc
    ]

pub log_line_exact : (variables : ℕ) → variables < 10000000000 → (last : ℕ) → IsExactOf (SpellsLogLine variables last) (log_line_in variables last)
log_line_exact variables small last = record {
  again = λ e l h. log_line_again variables small last e l h;
  takes = λ l e h. log_line_takes variables small last l e h;
}

-- the line that ends a log is none of its lines
pub no_end_line : (variables last : ℕ) → log_line_in variables last (codes "end") ≡ None
unfolding log_line_in number_in
no_end_line variables last = refl

pub ids_positive : (ids : List ℕ) → AreIds ids → ArePositive ids
ids_positive [] h = tt
ids_positive (n ∷ ids) h = (h.0.0, ids_positive ids h.1)

-- what is read of a line is what a function finds that tells exactly
pub log_line_found : (variables : ℕ) → variables < 10000000000 → (last : ℕ) (l : List ℕ) (e : Line) → IsSingleSpaced l → SpellsLine variables last e (tokens l) → log_line_in variables last l ≡ Some e
log_line_found variables small last l e single h = log_line_again variables small last e l (single, h)

none_where : {V : Type 0} (o : Option V) → ((v : V) → o ≡ Some v → ⊥) → o ≡ None
none_where None h = refl
none_where (Some v) h = absurd (h v refl)

pub log_line_none : (variables : ℕ) → variables < 10000000000 → (last : ℕ) (l : List ℕ) → ((e : Line) → SpellsLine variables last e (tokens l) → ⊥) → log_line_in variables last l ≡ None
log_line_none variables small last l none = none_where (log_line_in variables last l) (λ e h. none e (log_line_takes variables small last l e h).1)

pub log_line_not_single : (variables : ℕ) → variables < 10000000000 → (last : ℕ) (l : List ℕ) → (IsSingleSpaced l → ⊥) → log_line_in variables last l ≡ None
log_line_not_single variables small last l none = none_where (log_line_in variables last l) (λ e h. none (log_line_takes variables small last l e h).0)
