-- A clause after two of its literals were exchanged.
use Rattle.std.proofs.Common.{◌≡◌, ◌≢◌, ℕ, zero, suc, ◌<◌, List, [], ◌∷◌, length, slice_set, refl, sym, ap, ◌∙◌, subst, inl, inr, arith, length-set, get_or-set_other, get_or-set_same}
use Rattle.sat_trail.specs.Trails.{lit_at, no_lit}
use Rattle.std.specs.List.{swap}
use Rattle.std.proofs.lemmas.Bool.{cases_eq}
use Rattle.std.proofs.lemmas.List.Edits.{swap_is, length-swap}
use Rattle.clause_arena.specs.Clauses.{Lit, Clause, In, HasEachVariableOnce}
use Rattle.clause_arena.specs.Arenas.{clause_at}
use Rattle.watch_lists.specs.Watched.{AreOfDifferentVariables, AreRearranged}

pub place_in : (c : Clause) (l : Lit) → In l c → (i : ℕ) × (i < length c) × (lit_at c i ≡ l)
place_in [] l h = absurd h
place_in (m ∷ c) l (inl e) = (0, omega arith, sym e)
place_in (m ∷ c) l (inr h) = let r = place_in c l h in (suc r.0, omega (arith, r.1), r.2)

pub in_place : (c : Clause) (i : ℕ) → i < length c → In (lit_at c i) c
in_place [] i h = absurd (omega (arith, h))
in_place (m ∷ c) zero h = inl refl
in_place (m ∷ c) (suc i) h = inr (in_place c i (omega (arith, h)))

module _ (c : Clause) (i j : ℕ) (il : i < length c) (jl : j < length c) (differ : i ≢ j) where
  pub at_first : lit_at (swap c i j) i ≡ lit_at c j
  at_first = ap (λ q. lit_at q i) (sym (swap_is c i j no_lit il jl)) ∙ get_or-set_other (slice_set c i (lit_at c j)) j i (lit_at c i) no_lit differ ∙ get_or-set_same c i (lit_at c j) no_lit il

  pub at_second : lit_at (swap c i j) j ≡ lit_at c i
  at_second = ap (λ q. lit_at q j) (sym (swap_is c i j no_lit il jl)) ∙ get_or-set_same (slice_set c i (lit_at c j)) j (lit_at c i) no_lit (omega (arith, jl, length-set c i (lit_at c j)))

  pub at_else : (k : ℕ) → k ≢ i → k ≢ j → lit_at (swap c i j) k ≡ lit_at c k
  at_else k ni nj = ap (λ q. lit_at q k) (sym (swap_is c i j no_lit il jl)) ∙ get_or-set_other (slice_set c i (lit_at c j)) j k (lit_at c i) no_lit nj ∙ get_or-set_other c i k (lit_at c j) no_lit ni

  -- where a literal stood before
  was_at : (k : ℕ) → k < length c → (p : ℕ) × (p < length c) × (lit_at (swap c i j) k ≡ lit_at c p) × (k ≡ i → p ≡ j) × (k ≡ j → p ≡ i) × (k ≢ i → k ≢ j → p ≡ k)
  was_at k kl = elim (cases_eq k i) [
    | inl e ↦ (j, jl, ap (lit_at (swap c i j)) e ∙ at_first, (λ _. refl), (λ f. absurd (differ (sym e ∙ f))), λ n _. absurd (n e))
    | inr ni ↦ elim (cases_eq k j) [
      | inl e ↦ (i, il, ap (lit_at (swap c i j)) e ∙ at_second, (λ f. absurd (ni f)), (λ _. refl), λ _ n. absurd (n e))
      | inr nj ↦ (k, kl, at_else k ni nj, (λ f. absurd (ni f)), (λ f. absurd (nj f)), λ _ _. refl)
    ]
  ]

  pub swap_different : AreOfDifferentVariables c → AreOfDifferentVariables (swap c i j)
  swap_different d p q pl ql ne =
      let p2 : p < length c = omega (arith, pl, length-swap c i j) in
      let q2 : q < length c = omega (arith, ql, length-swap c i j) in
      let a = was_at p p2 in
      let b = was_at q q2 in
      let apart : a.0 ≢ b.0 = differ_before p q a.0 b.0 ne a.3 a.4 a.5 b.3 b.4 b.5 in
      λ e. d a.0 b.0 a.1 b.1 apart (ap (λ (l : Lit). l.var) (sym a.2) ∙ e ∙ ap (λ (l : Lit). l.var) b.2)
    where
      differ_before : (p q a b : ℕ) → p ≢ q → (p ≡ i → a ≡ j) → (p ≡ j → a ≡ i) → (p ≢ i → p ≢ j → a ≡ p) → (q ≡ i → b ≡ j) → (q ≡ j → b ≡ i) → (q ≢ i → q ≢ j → b ≡ q) → a ≢ b
      differ_before p q a b ne a1 a2 a3 b1 b2 b3 e = elim (cases_eq p i) [
        | inl pi ↦ elim (cases_eq q j) [
          | inl qj ↦ differ (sym (b2 qj) ∙ sym e ∙ a1 pi)
          | inr nqj ↦ nqj (sym (b3 (λ qi. ne (pi ∙ sym qi)) nqj) ∙ sym e ∙ a1 pi)
        ]
        | inr npi ↦ elim (cases_eq p j) [
          | inl pj ↦ elim (cases_eq q i) [
            | inl qi ↦ differ (sym (a2 pj) ∙ e ∙ b1 qi)
            | inr nqi ↦ nqi (sym (b3 nqi (λ qj. ne (pj ∙ sym qj))) ∙ sym e ∙ a2 pj)
          ]
          | inr npj ↦ elim (cases_eq q i) [
            | inl qi ↦ npj (sym (a3 npi npj) ∙ e ∙ b1 qi)
            | inr nqi ↦ elim (cases_eq q j) [
              | inl qj ↦ npi (sym (a3 npi npj) ∙ e ∙ b2 qj)
              | inr nqj ↦ ne (sym (a3 npi npj) ∙ e ∙ b3 nqi nqj)
            ]
          ]
        ]
      ]

  pub swap_in : (l : Lit) → In l c → In l (swap c i j)
  swap_in l h =
      let r = place_in c l h in
      elim (cases_eq r.0 i) [
        | inl e ↦ subst (λ q. In q (swap c i j)) (at_second ∙ ap (lit_at c) (sym e) ∙ r.2) (in_place (swap c i j) j (omega (arith, jl, length-swap c i j)))
        | inr ni ↦ elim (cases_eq r.0 j) [
          | inl e ↦ subst (λ q. In q (swap c i j)) (at_first ∙ ap (lit_at c) (sym e) ∙ r.2) (in_place (swap c i j) i (omega (arith, il, length-swap c i j)))
          | inr nj ↦ subst (λ q. In q (swap c i j)) (at_else r.0 ni nj ∙ r.2) (in_place (swap c i j) r.0 (omega (arith, r.1, length-swap c i j)))
        ]
      ]

  pub swap_out : (l : Lit) → In l (swap c i j) → In l c
  swap_out l h =
      let r = place_in (swap c i j) l h in
      let a = was_at r.0 (omega (arith, r.1, length-swap c i j)) in
      subst (λ q. In q c) (sym a.2 ∙ r.2) (in_place c a.0 a.1)

-- the arena
pub clause_here : (clauses : List Clause) (id : ℕ) (c : Clause) → id < length clauses → clause_at (slice_set clauses id c) id ≡ c
clause_here clauses id c l = get_or-set_same clauses id c [] l

pub clause_else : (clauses : List Clause) (id k : ℕ) (c : Clause) → k ≢ id → clause_at (slice_set clauses id c) k ≡ clause_at clauses k
clause_else clauses id k c ne = get_or-set_other clauses id k c [] ne

pub same_sets : (clauses : List Clause) (id i j : ℕ) → id < length clauses → i < length (clause_at clauses id) → j < length (clause_at clauses id) → i ≢ j →
    AreRearranged clauses (slice_set clauses id (swap (clause_at clauses id) i j))
same_sets clauses id i j l il jl ne = record {
  count = length-set clauses id (swap (clause_at clauses id) i j);
  lengths = λ k kl. elim (cases_eq k id) [
    | inl e ↦ rw (e, clause_here clauses id (swap (clause_at clauses id) i j) l) (length-swap (clause_at clauses id) i j)
    | inr n ↦ ap length (clause_else clauses id k (swap (clause_at clauses id) i j) n)
  ];
  there = λ k kl m h. elim (cases_eq k id) [
    | inl e ↦ subst (λ q. In m (clause_at (slice_set clauses id (swap (clause_at clauses id) i j)) q)) (sym e) (subst (In m) (sym (clause_here clauses id (swap (clause_at clauses id) i j) l)) (swap_in (clause_at clauses id) i j il jl ne m (subst (λ q. In m (clause_at clauses q)) e h)))
    | inr n ↦ subst (In m) (sym (clause_else clauses id k (swap (clause_at clauses id) i j) n)) h
  ];
  back = λ k kl m h. elim (cases_eq k id) [
    | inl e ↦ subst (λ q. In m (clause_at clauses q)) (sym e) (swap_out (clause_at clauses id) i j il jl ne m (subst (In m) (clause_here clauses id (swap (clause_at clauses id) i j) l) (subst (λ q. In m (clause_at (slice_set clauses id (swap (clause_at clauses id) i j)) q)) e h)))
    | inr n ↦ subst (In m) (clause_else clauses id k (swap (clause_at clauses id) i j) n) h
  ];
}

pub sets_refl : (clauses : List Clause) → AreRearranged clauses clauses
sets_refl clauses = record { count = refl; lengths = λ k l. refl; there = λ k l m h. h; back = λ k l m h. h }

pub sets_trans : (a b c : List Clause) → AreRearranged a b → AreRearranged b c → AreRearranged a c
sets_trans a b c s t = record {
  count = t.count ∙ s.count;
  lengths = λ k l. t.lengths k (omega (arith, l, s.count)) ∙ s.lengths k l;
  there = λ k l m h. t.there k (omega (arith, l, s.count)) m (s.there k l m h);
  back = λ k l m h. s.back k l m (t.back k (omega (arith, l, s.count)) m h);
}

pub once_different : (c : Clause) → HasEachVariableOnce c → AreOfDifferentVariables c
once_different [] once i j il jl ne = absurd (omega (arith, il))
once_different (l ∷ c) once zero zero il jl ne = absurd (ne refl)
once_different (l ∷ c) once zero (suc j) il jl ne = λ e. once.0 (lit_at c j) (in_place c j (omega (arith, jl))) (sym e)
once_different (l ∷ c) once (suc i) zero il jl ne = λ e. once.0 (lit_at c i) (in_place c i (omega (arith, il))) e
once_different (l ∷ c) once (suc i) (suc j) il jl ne = once_different c once.1 i j (omega (arith, il)) (omega (arith, jl)) (λ e. ne (ap suc e))
