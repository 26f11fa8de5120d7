-- One pass over a line tells whether single blanks stand between its words.
use Rattle.std.proofs.Common.{◌≡◌, ℕ, ◌<◌, Bool, true, false, eqb, List, [], ◌∷◌, ◌++◌, length, refl, sym, ap, subst, ◌∙◌, arith, append_assoc, inl, inr}
use Rattle.std.specs.List.{AllByRecursion, slice_split, onto_first}
use Rattle.std.proofs.lemmas.Bool.{cases_Bool, eqb-true}
use Rattle.std.proofs.lemmas.List.{append-nil}
use Rattle.std.proofs.lemmas.List.Splits.{slice_split-cons_yes, slice_split-cons_no}
use Rattle.text_rows.specs.Words.{is_space, without_empty, tokens, NoSpace, spaced}
use Rattle.text_rows.proofs.TokenSplits.{tokens_word, tokens_space}
use Rattle.report_text.specs.Spelling.{IsSingleSpaced}
use Rattle.evidence_reader.specs.Spacing.{is_tight}

-- ---- words with single blanks between them are so

no_tab : (b : ℕ) → is_space b ≡ false → eqb b 9 ≡ false
no_tab b h = elim (cases_Bool (eqb b 9)) [
  | inl t ↦ let none : true ≡ false = sym (ap is_space (eqb-true b 9 t)) ∙ h in absurd cc
  | inr f ↦ f
]

no_blank : (b : ℕ) → is_space b ≡ false → eqb b 32 ≡ false
no_blank b h = elim (cases_Bool (eqb b 32)) [
  | inl t ↦ let none : true ≡ false = sym (ap is_space (eqb-true b 32 t)) ∙ h in absurd cc
  | inr f ↦ f
]

tight_byte : (after : Bool) (b : ℕ) (bs : List ℕ) → is_space b ≡ false → is_tight after (b ∷ bs) ≡ is_tight false bs
tight_byte after b bs h = rw (no_tab b h, no_blank b h) refl

tight_word : (word rest : List ℕ) → NoSpace word → is_tight false (word ++ rest) ≡ is_tight false rest
tight_word [] rest h = refl
tight_word (b ∷ bs) rest h = tight_byte false b (bs ++ rest) h.0 ∙ tight_word bs rest h.1

tight_start : (word rest : List ℕ) → 0 < length word → NoSpace word → is_tight true (word ++ rest) ≡ is_tight false rest
tight_start [] rest some h = absurd (omega arith)
tight_start (b ∷ bs) rest some h = tight_byte true b (bs ++ rest) h.0 ∙ tight_word bs rest h.1

spaced_tight : (w : List ℕ) (words : List (List ℕ)) → AllByRecursion (λ x. (0 < length x) × NoSpace x) (w ∷ words) → is_tight true (spaced (w ∷ words)) ≡ true
spaced_tight w [] h = ap (is_tight true) (sym (append-nil w)) ∙ tight_start w [] h.0.0 h.0.1
spaced_tight w (x ∷ words) h = tight_start w (32 ∷ spaced (x ∷ words)) h.0.0 h.0.1 ∙ spaced_tight x words h.1

-- ---- the words of a line hold no blank and no tab

onto_clean : (b : ℕ) (parts : List (List ℕ)) → is_space b ≡ false → AllByRecursion NoSpace parts → AllByRecursion NoSpace (onto_first b parts)
onto_clean b [] h all = ((h, tt), tt)
onto_clean b (part ∷ parts) h all = ((h, all.0), all.1)

parts_clean : (bytes : List ℕ) → AllByRecursion NoSpace (slice_split is_space bytes)
parts_clean [] = (tt, tt)
parts_clean (b ∷ bs) = elim (cases_Bool (is_space b)) [
  | inl t ↦ subst (AllByRecursion NoSpace) (sym (slice_split-cons_yes is_space b bs t)) (tt, parts_clean bs)
  | inr f ↦ subst (AllByRecursion NoSpace) (sym (slice_split-cons_no is_space b bs f)) (onto_clean b (slice_split is_space bs) f (parts_clean bs))
]

kept_good : (parts : List (List ℕ)) → AllByRecursion NoSpace parts → AllByRecursion (λ x. (0 < length x) × NoSpace x) (without_empty parts)
kept_good [] h = tt
kept_good ([] ∷ parts) h = kept_good parts h.1
kept_good ((b ∷ bs) ∷ parts) h = ((omega arith, h.0), kept_good parts h.1)

tokens_good : (bytes : List ℕ) → AllByRecursion (λ x. (0 < length x) × NoSpace x) (tokens bytes)
tokens_good bytes = kept_good (slice_split is_space bytes) (parts_clean bytes)

tight_again : (words : List (List ℕ)) (line : List ℕ) → line ≡ spaced words → AllByRecursion (λ x. (0 < length x) × NoSpace x) words → 0 < length line → is_tight true line ≡ true
tight_again [] line e h some = absurd (omega (arith, some, ap length e))
tight_again (w ∷ words) line e h some = ap (is_tight true) e ∙ spaced_tight w words h

pub single_is_tight : (line : List ℕ) → 0 < length line → IsSingleSpaced line → is_tight true line ≡ true
single_is_tight line some h = tight_again (tokens line) line h (tokens_good line) some

-- ---- and a line that is so has single blanks

no_space : (b : ℕ) → eqb b 9 ≡ false → eqb b 32 ≡ false → is_space b ≡ false
no_space b h k = rw (k, h) refl

push_clean : (word : List ℕ) (b : ℕ) → NoSpace word → is_space b ≡ false → NoSpace (word ++ b ∷ [])
push_clean [] b h k = (k, tt)
push_clean (x ∷ xs) b h k = (h.0, push_clean xs b h.1 k)

push_some : (word : List ℕ) (b : ℕ) → 0 < length (word ++ b ∷ [])
push_some [] b = omega arith
push_some (x ∷ xs) b = omega arith

-- behind a word and a blank
join : (word bs : List ℕ) (words : List (List ℕ)) → tokens bs ≡ words → is_tight true bs ≡ true → bs ≡ spaced words → spaced (word ∷ words) ≡ word ++ 32 ∷ bs
join word bs [] e h same = let none : false ≡ true = sym (ap (is_tight true) same) ∙ h in absurd cc
join word bs (w ∷ words) e h same = ap (λ (x : List ℕ). word ++ 32 ∷ x) (sym same)

-- from the start of a word on, and inside one
abbrev IsSingle : List ℕ → Type 0
IsSingle bs = (is_tight true bs ≡ true → IsSingleSpaced bs) × ((word : List ℕ) → 0 < length word → NoSpace word → is_tight false bs ≡ true → IsSingleSpaced (word ++ bs))

single_none : IsSingle []
single_none = (
  (λ h. let none : false ≡ true = h in absurd cc),
  (λ word some clean h.
      let one : tokens (word ++ []) ≡ word ∷ [] = tokens_word word [] some clean tt in
      append-nil word ∙ sym (ap spaced one)),
)

single_more : (b : ℕ) (bs : List ℕ) → IsSingle bs → IsSingle (b ∷ bs)
single_more b bs more = (start, inside)
  where
    start : is_tight true (b ∷ bs) ≡ true → IsSingleSpaced (b ∷ bs)
    start h = elim (cases_Bool (eqb b 9)) [
      | inl t ↦ let none : false ≡ true = sym (rw t refl) ∙ h in absurd cc
      | inr f ↦ elim (cases_Bool (eqb b 32)) [
        | inl s ↦ let none : false ≡ true = sym (rw (f, s) refl) ∙ h in absurd cc
        | inr s ↦
            let rest : is_tight false bs ≡ true = sym (rw (f, s) refl) ∙ h in
            more.1 (b ∷ []) (omega arith) (no_space b f s, tt) rest
      ]
    ]

    inside : (word : List ℕ) → 0 < length word → NoSpace word → is_tight false (b ∷ bs) ≡ true → IsSingleSpaced (word ++ b ∷ bs)
    inside word some clean h = elim (cases_Bool (eqb b 9)) [
      | inl t ↦ let none : false ≡ true = sym (rw t refl) ∙ h in absurd cc
      | inr f ↦ elim (cases_Bool (eqb b 32)) [
        | inl s ↦
            let rest : is_tight true bs ≡ true = sym (rw (f, s) refl) ∙ h in
            let one : tokens (word ++ 32 ∷ bs) ≡ word ∷ tokens bs = tokens_word word (32 ∷ bs) some clean refl ∙ ap (λ (t : List (List ℕ)). word ∷ t) (tokens_space 32 bs refl) in
            subst (λ (x : ℕ). IsSingleSpaced (word ++ x ∷ bs)) (sym (eqb-true b 32 s))
            (sym (ap spaced one ∙ join word bs (tokens bs) refl rest (more.0 rest)))
        | inr s ↦
            let rest : is_tight false bs ≡ true = sym (rw (f, s) refl) ∙ h in
            subst IsSingleSpaced (append_assoc word (b ∷ []) bs) (more.1 (word ++ b ∷ []) (push_some word b) (push_clean word b clean (no_space b f s)) rest)
      ]
    ]

single : (bs : List ℕ) → IsSingle bs
single [] = single_none
single (b ∷ bs) = single_more b bs (single bs)

pub tight_is_single : (line : List ℕ) → is_tight true line ≡ true → IsSingleSpaced line
tight_is_single line h = (single line).0 h

pub loose_is_not : (line : List ℕ) → 0 < length line → is_tight true line ≡ false → IsSingleSpaced line → ⊥
loose_is_not line some h is = let none : true ≡ false = sym (single_is_tight line some is) ∙ h in absurd cc
