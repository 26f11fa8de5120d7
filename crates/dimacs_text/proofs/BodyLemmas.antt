-- Lines behind the `p` line, one after another.
use Rattle.std.proofs.Common.{◌≡◌, ℕ, ◌+◌, true, false, List, [], ◌∷◌, ◌++◌, length, refl, sym, ap, ◌∙◌, arith, append_assoc}
use Rattle.std.specs.Prelude.{codes}
use Rattle.std.specs.Str.{bytes_eq}
use Rattle.std.proofs.lemmas.Slice.Eq.{bytes_eq-Decides}
use Rattle.std.proofs.lemmas.Bool.{false≢true}
use Rattle.std.specs.List.{AllByRecursion, flat_map}
use Rattle.std.proofs.lemmas.List.{append-nil}
use Rattle.clause_arena.specs.Clauses.{Clause}
use Rattle.clause_arena.specs.Formulas.{is_within, are_within}
use Rattle.dimacs_text.specs.Formulas.{body_words}
use Rattle.dimacs_text.specs.Streams.{stream, IsRoom, NoneGoOn}
use Rattle.dimacs_text.specs.Bodies.{IsGood, NoneBegin, IsBodyBad}
use Rattle.dimacs_text.proofs.EntryLemmas.{Words}
use Rattle.dimacs_text.proofs.StreamLemmas.{stream_more}

pub flat_append : (xs ys : List (List ℕ)) → flat_map body_words (xs ++ ys) ≡ flat_map body_words xs ++ flat_map body_words ys
flat_append [] ys = refl
flat_append (x ∷ xs) ys = ap (λ (t : Words). body_words x ++ t) (flat_append xs ys) ∙ sym (append_assoc (body_words x) (flat_map body_words xs) (flat_map body_words ys))

front_more : (good : List (List ℕ)) (l : List ℕ) (tail : List (List ℕ)) → (good ++ l ∷ []) ++ tail ≡ good ++ (l ∷ tail)
front_more good l tail = append_assoc good (l ∷ []) tail

-- no line is `lrat`
abbrev pub AllOthers : List (List ℕ) → Type 0
AllOthers lines = AllByRecursion (λ l. l ≡ codes "lrat" → ⊥) lines

pub others_push : (good : List (List ℕ)) (l : List ℕ) → AllOthers good → (l ≡ codes "lrat" → ⊥) → AllOthers (good ++ l ∷ [])
others_push [] l h o = (o, tt)
others_push (x ∷ good) l h o = (h.0, others_push good l h.1 o)

pub good_start : (v count : ℕ) → IsGood v count [] [] []
good_start v count = record { others = tt; read = refl; left = record { most = omega arith; full = λ e. refl }; within = refl; open_within = refl }

pub good_more : (v count : ℕ) (good : List (List ℕ)) (l : List ℕ) (ds ds' : List Clause) (os os' : Clause) → IsGood v count good ds os → (l ≡ codes "lrat" → ⊥) → stream ds' os' [] ≡ stream ds os (body_words l) → IsRoom count ds' os' → are_within v ds' ≡ true → is_within v os' ≡ true → IsGood v count (good ++ l ∷ []) ds' os'
good_more v count good l ds ds' os os' g other e room wd wo = record {
  others = others_push good l g.others other;
  read = flat_append good (l ∷ []) ∙ (ap (λ (t : Words). flat_map body_words good ++ t) (append-nil (body_words l)) ∙ (ap (λ (t : Words). t ++ body_words l) g.read ∙ (sym (stream_more ds os [] (body_words l)) ∙ sym e)));
  left = room;
  within = wd;
  open_within = wo;
}

pub none_begin : (v count : ℕ) (good : List (List ℕ)) (l : List ℕ) (ds : List Clause) (os : Clause) → IsGood v count good ds os → NoneGoOn v count ds os (body_words l) → NoneBegin v count (good ++ l ∷ [])
none_begin v count good l ds os g none tail all ha n e =
    none (flat_map body_words tail) all ha n
    (stream_more ds os [] (body_words l ++ flat_map body_words tail) ∙ (ap (λ (t : Words). t ++ (body_words l ++ flat_map body_words tail)) (sym g.read)
    ∙ (sym (flat_append good (l ∷ tail)) ∙ (ap (flat_map body_words) (sym (front_more good l tail)) ∙ e))))

pub body_bad : (v count front n : ℕ) (good all rest : List (List ℕ)) (l : List ℕ) (after : List (List ℕ)) (ds : List Clause) (os : Clause) → all ≡ good ++ rest → rest ≡ l ∷ after → n ≡ front + length good + 1 → IsGood v count good ds os → (l ≡ codes "lrat" → ⊥) → NoneGoOn v count ds os (body_words l) → IsBodyBad v count front all n
body_bad v count front n good all rest l after ds os e f k g other none = record {
  good = good;
  line = l;
  after = after;
  clauses = ds;
  open_lits = os;
  parts = e ∙ ap (λ (t : List (List ℕ)). good ++ t) f;
  number = k;
  is_good = g;
  other = other;
  none = none_begin v count good l ds os g none;
}

-- another line than a given one
pub told_other : (x y z : List ℕ) → false ≡ bytes_eq x y → y ≡ z → x ≡ z → ⊥
told_other x y z h same e = false≢true (h ∙ (bytes_eq-Decides x y).1 (e ∙ sym same))
