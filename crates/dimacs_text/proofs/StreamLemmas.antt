-- Clauses as far as they were read, and what may go on.
use Rattle.std.proofs.Common.{◌≡◌, ℕ, ◌+◌, ◌<◌, ◌≤◌, Bool, true, false, leb, List, [], ◌∷◌, ◌++◌, length, map, refl, sym, ap, ap₂, ◌∙◌, arith, append_assoc, length-append, inl, inr}
use Rattle.std.specs.Fmt.{decimal}
use Rattle.std.proofs.lemmas.List.{append-nil}
use Rattle.std.proofs.lemmas.Bool.{and_parts, leb-true, le-leb, cases_eq, eq-eqb, ne_eqb}
use Rattle.clause_arena.specs.Clauses.{Lit, Clause}
use Rattle.clause_arena.specs.Formulas.{is_lit_within, is_within, are_within}
use Rattle.text_rows.specs.Words.{signed_word}
use Rattle.dimacs_text.specs.Logs.{ended, lit_word, IsLitWithin, LitsWithin}
use Rattle.dimacs_text.specs.Formulas.{clause_words, clauses_words, AreClauses}
use Rattle.std.specs.Bool.{MatchBool}
use Rattle.dimacs_text.specs.Streams.{stream, IsRoom, NoneGoOn, with_clause, with_literal}
use Rattle.dimacs_text.specs.Keeping.{Holds, IsFor, IsFitting, count_of, Stands, IsTaken}
use Rattle.dimacs_text.specs.declared.body.Body.{Body}
use Rattle.dimacs_text.specs.declared.body.Body.TheVariants as bodies
use Rattle.std.proofs.lemmas.List.Folds.{list_all-append}
use Rattle.dimacs_text.proofs.EntryLemmas.{Words, lits_tell, told, same_items}

pub lits_within : (v : ℕ) (c : Clause) → is_within v c ≡ true → LitsWithin v c
lits_within v [] h = tt
lits_within v (l ∷ c) h =
    let a = and_parts (is_lit_within v l) (is_within v c) h in
    let b = and_parts (leb 1 l.var) (leb l.var v) a.0 in
    ((omega (arith, leb-true 1 l.var b.0), leb-true l.var v b.1), lits_within v c a.1)

pub clauses_within : (v : ℕ) (cs : List Clause) → are_within v cs ≡ true → AreClauses v cs
clauses_within v [] h = tt
clauses_within v (c ∷ cs) h = let a = and_parts (is_within v c) (are_within v cs) h in (lits_within v c a.0, clauses_within v cs a.1)

-- whole clauses are the first of those that have the words
pub whole_told : (v : ℕ) → v < 10000000000 → (ds all : List Clause) (s : Words) → AreClauses v ds → AreClauses v all → clauses_words ds ++ s ≡ clauses_words all → (rest : List Clause) × AreClauses v rest × (length all ≡ length ds + length rest) × (s ≡ clauses_words rest)
whole_told v small [] all s hd ha e = (all, ha, omega arith, e)
whole_told v small (d ∷ ds) [] s hd ha e = absurd (filled (map lit_word d) ((clauses_words ds) ++ s) (sym (append_assoc (clause_words d) (clauses_words ds) s) ∙ e))
  where
    filled : (ws t : Words) → ended ws ++ t ≡ [] → ⊥
    filled [] t f = absurd cc
    filled (w ∷ ws) t f = absurd cc
whole_told v small (d ∷ ds) (a ∷ all) s hd ha e =
    let f : ended (map lit_word d) ++ (clauses_words ds ++ s) ≡ ended (map lit_word a) ++ clauses_words all = sym (append_assoc (clause_words d) (clauses_words ds) s) ∙ e in
    let g = same_items lit_word (IsLitWithin v) (lits_tell v small) d a (clauses_words ds ++ s) (clauses_words all) hd.0 ha.0 f in
    let r = whole_told v small ds all s hd.1 ha.1 g in
    (r.0, r.1, omega (arith, r.2), r.3)

-- no text goes on where the next word is neither a literal nor the end of a clause, or no clause is left
pub none_go_on : (v count : ℕ) → v < 10000000000 → (ds : List Clause) (os : Clause) (words : Words) → are_within v ds ≡ true → is_within v os ≡ true → (words ≡ [] → ⊥)
    → (length ds < count → (p : Bool) (n : ℕ) (t : Words) → n < 10000000000 → (p ≡ true → 0 < n) → words ≡ signed_word p n ∷ t → (n ≡ 0 → ⊥) × (n ≤ v → ⊥)) → NoneGoOn v count ds os words
none_go_on v count small ds os [] wd wo some stop more all ha n e = some refl
none_go_on v count small ds os (w ∷ words) wd wo some stop more all ha n e =
    let r = whole_told v small ds all (map lit_word os ++ (w ∷ (words ++ more))) (clauses_within v ds wd) ha e in
    go r.0 r.1 r.2 r.3
  where
    first : (length ds < count) → (ms : List Lit) (t : Words) → LitsWithin v ms → (w ∷ (words ++ more)) ≡ map lit_word ms ++ (decimal 0 ∷ t) → ⊥
    first lt [] t hm f = (stop lt false 0 words (omega arith) (λ h. let g : false ≡ true = h in absurd cc) (ap (λ (x : List ℕ). x ∷ words) (let g : w ≡ decimal 0 = cc in g))).0 refl
    first lt (m ∷ ms) t hm f = (stop lt m.negated m.var words (omega (arith, hm.0.1)) (λ h. hm.0.0) (ap (λ (x : List ℕ). x ∷ words) (let g : w ≡ lit_word m = cc in g))).1 hm.0.1

    go : (rest : List Clause) → AreClauses v rest → length all ≡ length ds + length rest → map lit_word os ++ (w ∷ (words ++ more)) ≡ clauses_words rest → ⊥
    go [] hr len f = nothing (map lit_word os) f
      where
        nothing : (xs : Words) → xs ++ (w ∷ (words ++ more)) ≡ [] → ⊥
        nothing [] g = absurd cc
        nothing (x ∷ xs) g = absurd cc
    go (c ∷ rest) hr len f =
        let flat : map lit_word os ++ (w ∷ (words ++ more)) ≡ map lit_word c ++ (decimal 0 ∷ clauses_words rest) = f ∙ append_assoc (map lit_word c) (decimal 0 ∷ []) (clauses_words rest) in
        let t = told lit_word (IsLitWithin v) (lits_tell v small) os c (w ∷ (words ++ more)) (clauses_words rest) (lits_within v os wo) hr.0 flat in
        first (omega (arith, n, len)) t.0 (clauses_words rest) t.1 t.2

-- a stream that was read on
pub stream_more : (ds : List Clause) (os : Clause) (words more : Words) → stream ds os (words ++ more) ≡ stream ds os words ++ more
stream_more ds os words more = sym (append_assoc (clauses_words ds) (map lit_word os ++ words) more ∙ ap (λ (t : Words). clauses_words ds ++ t) (append_assoc (map lit_word os) words more))

pub none_before : (v count : ℕ) (ds ds' : List Clause) (os os' : Clause) (words words' : Words) → stream ds' os' words' ≡ stream ds os words → NoneGoOn v count ds' os' words' → NoneGoOn v count ds os words
none_before v count ds ds' os os' words words' e none more all ha n f =
    none more all ha n (stream_more ds' os' words' more ∙ (ap (λ (t : Words). t ++ more) e ∙ (sym (stream_more ds os words more) ∙ f)))

map_end : (os : Clause) (l : Lit) (words : Words) → map lit_word (os ++ l ∷ []) ++ words ≡ map lit_word os ++ (lit_word l ∷ words)
map_end [] l words = refl
map_end (o ∷ os) l words = ap (λ (t : Words). lit_word o ∷ t) (map_end os l words)

pub flat_end : (ds : List Clause) (c : Clause) (words : Words) → clauses_words (ds ++ c ∷ []) ++ words ≡ clauses_words ds ++ (clause_words c ++ words)
flat_end [] c words = ap (λ (t : Words). t ++ words) (append-nil (clause_words c))
flat_end (d ∷ ds) c words = append_assoc (clause_words d) (clauses_words (ds ++ c ∷ [])) words ∙ (ap (λ (t : Words). clause_words d ++ t) (flat_end ds c words) ∙ sym (append_assoc (clause_words d) (clauses_words ds) (clause_words c ++ words)))

abbrev Taken : ℕ → Bool → List Clause → Clause → List Clause → Clause → Type 0
Taken n negated ds os ds' os' = (ds' ≡ with_clause n ds os) × (os' ≡ with_literal n negated os)

-- one more number
pub stream_step : (n : ℕ) (negated : Bool) (ds ds' : List Clause) (os os' : Clause) (words rest : Words) → (negated ≡ true → 0 < n) → words ≡ signed_word negated n ∷ rest → Taken n negated ds os ds' os' → stream ds' os' rest ≡ stream ds os words
stream_step n negated ds ds' os os' words rest some e taken = elim (cases_eq n 0) [
  | inl z ↦
      let d : ds' ≡ ds ++ os ∷ [] = taken.0 ∙ rw (eq-eqb n 0 z) refl in
      let o : os' ≡ [] = taken.1 ∙ rw (eq-eqb n 0 z) refl in
      let w : words ≡ decimal 0 ∷ rest = e ∙ ap (λ (x : List ℕ). x ∷ rest) (plus negated some z) in
      ap₂ (λ (a : List Clause) (b : Clause). stream a b rest) d o ∙ (flat_end ds os rest ∙ ap (λ (t : Words). clauses_words ds ++ t) (append_assoc (map lit_word os) (decimal 0 ∷ []) rest ∙ ap (λ (t : Words). map lit_word os ++ t) (sym w)))
  | inr nz ↦
      let d : ds' ≡ ds = taken.0 ∙ rw (ne_eqb n 0 nz) refl in
      let o : os' ≡ os ++ record { var = n; negated = negated } ∷ [] = taken.1 ∙ rw (ne_eqb n 0 nz) refl in
      ap₂ (λ (a : List Clause) (b : Clause). stream a b rest) d o ∙ ap (λ (t : Words). clauses_words ds ++ t) (map_end os (record { var = n; negated = negated }) rest ∙ ap (λ (t : Words). map lit_word os ++ t) (sym e))
]
  where
    plus : (b : Bool) → (b ≡ true → 0 < n) → n ≡ 0 → signed_word b n ≡ decimal 0
    plus true h z = absurd (omega (arith, h refl, z))
    plus false h z = ap decimal z

pub room_step : (n count : ℕ) (negated : Bool) (ds ds' : List Clause) (os os' : Clause) → length ds < count → Taken n negated ds os ds' os' → IsRoom count ds' os'
room_step n count negated ds ds' os os' lt taken = elim (cases_eq n 0) [
  | inl z ↦
      let d : ds' ≡ ds ++ os ∷ [] = taken.0 ∙ rw (eq-eqb n 0 z) refl in
      let o : os' ≡ [] = taken.1 ∙ rw (eq-eqb n 0 z) refl in
      record { most = omega (arith, ap length d, length-append ds (os ∷ []), lt); full = λ f. o }
  | inr nz ↦
      let d : ds' ≡ ds = taken.0 ∙ rw (ne_eqb n 0 nz) refl in
      record { most = omega (arith, ap length d, lt); full = λ f. absurd (omega (arith, ap length d, lt, f)) }
]

pub holds_count : (body : Body) (ds : List Clause) (os : Clause) → Holds body ds os → count_of body ≡ length ds
holds_count (bodies.Kept clauses open_lits) ds os h = ap length h.0
holds_count (bodies.Counted clauses is_open) ds os h = h.0

pub fitting : (v n : ℕ) (body : Body) → IsFor v body → n ≤ v → IsFitting n body
fitting v n (bodies.Kept clauses open_lits) h le = omega arith
fitting v n (bodies.Counted clauses is_open) h le = tt

open_step : (v n : ℕ) (negated : Bool) (os : Clause) → n ≤ v → is_within v os ≡ true → is_within v (with_literal n negated os) ≡ true
open_step v n negated os le w = elim (cases_eq n 0) [
  | inl z ↦ rw (eq-eqb n 0 z) refl
  | inr nz ↦ rw (ne_eqb n 0 nz, list_all-append (is_lit_within v) os (record { var = n; negated = negated } ∷ []), w, le-leb 1 n (omega (arith, nz)), le-leb n v le) refl
]

clauses_step : (v n : ℕ) (ds : List Clause) (os : Clause) → are_within v ds ≡ true → is_within v os ≡ true → are_within v (with_clause n ds os) ≡ true
clauses_step v n ds os wd wo = elim (cases_eq n 0) [
  | inl z ↦ rw (eq-eqb n 0 z, list_all-append (is_within v) ds (os ∷ []), wd, wo) refl
  | inr nz ↦ rw (ne_eqb n 0 nz) wd
]

-- what stands after one more number
pub stands_step : (v count n : ℕ) (negated : Bool) (body body' : Body) (ds : List Clause) (os : Clause) → Stands v count body ds os → length ds < count → n ≤ v → Holds body' (with_clause n ds os) (with_literal n negated os) → Stands v count body' (with_clause n ds os) (with_literal n negated os)
stands_step v count n negated body body' ds os s lt le h = record {
  holds = h;
  left = room_step n count negated ds (with_clause n ds os) os (with_literal n negated os) lt (refl, refl);
  within = clauses_step v n ds os s.within s.open_within;
  open_within = open_step v n negated os le s.open_within;
}

pub words_step : (n : ℕ) (negated : Bool) (ds : List Clause) (os : Clause) (words rest : Words) → (negated ≡ true → 0 < n) → words ≡ signed_word negated n ∷ rest → stream (with_clause n ds os) (with_literal n negated os) rest ≡ stream ds os words
words_step n negated ds os words rest some e = stream_step n negated ds (with_clause n ds os) os (with_literal n negated os) words rest some e (refl, refl)

-- the words as far as they were taken
abbrev pub IsReached : ℕ → ℕ → Body → Body → Words → Words → Type 0
IsReached v count old new words rest = (ds : List Clause) (os : Clause) → Stands v count old ds os → (ds' : List Clause) × (os' : Clause) × Stands v count new ds' os' × (stream ds' os' rest ≡ stream ds os words)

-- a word that may not stand
pub word_bad : (v count : ℕ) → v < 10000000000 → (old new : Body) (words rest : Words) → IsReached v count old new words rest → (rest ≡ [] → ⊥)
    → (count_of new < count → (p : Bool) (n : ℕ) (t : Words) → n < 10000000000 → (p ≡ true → 0 < n) → rest ≡ signed_word p n ∷ t → (n ≡ 0 → ⊥) × (n ≤ v → ⊥)) → IsTaken v count old new words false
word_bad v count small old new words rest reached some stop ds os s =
    let r = reached ds os s in
    none_before v count ds r.0 os r.1 words rest r.3 (none_go_on v count small r.0 r.1 rest r.2.within r.2.open_within some (λ lt. stop (omega (arith, lt, holds_count new r.0 r.1 r.2.holds))))

pub end_taken : (v count : ℕ) → v < 10000000000 → (old new : Body) (words rest : Words) (b : Bool) → MatchBool b (rest ≡ []) (rest ≡ [] → ⊥) → IsReached v count old new words rest
    → ((p : Bool) (n : ℕ) (t : Words) → n < 10000000000 → (p ≡ true → 0 < n) → rest ≡ signed_word p n ∷ t → ⊥) → IsTaken v count old new words b
end_taken v count small old new words rest true blank reached none = λ ds os s. let r = reached ds os s in (r.0, r.1, r.2, ap (stream r.0 r.1) (sym blank) ∙ r.3)
end_taken v count small old new words rest false blank reached none = word_bad v count small old new words rest reached blank (λ lt p n t ln some f. absurd (none p n t ln some f))

pub not_nothing : (w : List ℕ) (t words : Words) → words ≡ w ∷ t → words ≡ [] → ⊥
not_nothing w t words e f = let g : (w ∷ t) ≡ [] = sym e ∙ f in absurd cc
