-- The parts after more literals, and after one part is overwritten.
use Rattle.std.proofs.Common.{◌≡◌, ◌≢◌, ℕ, zero, suc, ◌+◌, ◌-◌, ◌<◌, ◌≤◌, List, [], ◌∷◌, ◌++◌, length, map, take, drop, sum, sum_by, slice_index_or, slice_set, get_or, refl, sym, ap, ◌∙◌, inl, inr, arith, length-append, length-drop, length-set, get_or-take}
use Rattle.std.proofs.lemmas.List.{get_or-drop, drop-append-le, take-append-le, length-take-le, get_or-map, length-map, drop-set-lt, drop-set-add, take-set-le}
use Rattle.std.proofs.lemmas.List.Sums.{sum_by-append, sum-map}
use Rattle.std.proofs.lemmas.List.Edits.{swap_is}
use Rattle.std.proofs.Math.Seq.{take-set-lt}
use Rattle.std.specs.List.{swap}
use Rattle.std.proofs.Math.Seq.{drop-append_seam}
use Rattle.std.proofs.lemmas.Bool.{cases_eq, cases_lt}
use Rattle.clause_arena.specs.Clauses.{Lit, Clause}
use Rattle.clause_arena.specs.declared.span.Span.{Span}
use Rattle.clause_arena.specs.Arenas.{part, parts, span_at, no_span, IsLaidOut}

part_append : (lits more : List Lit) (s : Span) → s.start ≤ s.end → s.end ≤ length lits → part (lits ++ more) s ≡ part lits s
part_append lits more s p w =
    let a : s.start ≤ length lits = omega arith in
    let b : s.end - s.start ≤ length (drop s.start lits) = omega (arith, length-drop s.start lits) in
    ap (take (s.end - s.start)) (drop-append-le s.start lits more a) ∙ take-append-le (s.end - s.start) (drop s.start lits) more b

parts_append : (lits more : List Lit) (spans : List Span) → ((k : ℕ) → k < length spans → (span_at spans k).start ≤ (span_at spans k).end) → ((k : ℕ) → k < length spans → (span_at spans k).end ≤ length lits) → parts (lits ++ more) spans ≡ parts lits spans
parts_append lits more [] p w = refl
parts_append lits more (s ∷ spans) p w =
    let first : part (lits ++ more) s ≡ part lits s = part_append lits more s (p 0 (omega arith)) (w 0 (omega arith)) in
    let rest : parts (lits ++ more) spans ≡ parts lits spans = parts_append lits more spans (λ k l. p (suc k) (omega (arith, l))) (λ k l. w (suc k) (omega (arith, l))) in
    rw (first, rest) refl

map_push : (f : Span → Clause) (spans : List Span) (s : Span) → map f (spans ++ s ∷ []) ≡ map f spans ++ f s ∷ []
map_push f [] s = refl
map_push f (x ∷ spans) s = ap (λ l. f x ∷ l) (map_push f spans s)

last_part : (lits more : List Lit) (s : Span) → s.start ≡ length lits → s.end ≡ length lits + length more → part (lits ++ more) s ≡ more
last_part lits more s a b =
    let n : s.end - s.start ≡ length more = omega arith in
    let d : drop s.start (lits ++ more) ≡ more = rw a (drop-append_seam lits more) in
    rw (n, d) (whole more)
  where
    whole : (l : List Lit) → take (length l) l ≡ l
    whole [] = refl
    whole (x ∷ l) = ap (λ t. x ∷ t) (whole l)

pub parts_push : (lits more : List Lit) (spans : List Span) (s : Span) → IsLaidOut lits spans → s.start ≡ length lits → s.end ≡ length lits + length more → parts (lits ++ more) (spans ++ s ∷ []) ≡ parts lits spans ++ more ∷ []
parts_push lits more spans s laid a b =
    map_push (part (lits ++ more)) spans s ∙ rw (parts_append lits more spans laid.proper laid.within, last_part lits more s a b) refl

span_before : (spans : List Span) (s : Span) (k : ℕ) → k < length spans → span_at (spans ++ s ∷ []) k ≡ span_at spans k
span_before [] s k l = absurd (omega (arith, l))
span_before (x ∷ spans) s zero l = refl
span_before (x ∷ spans) s (suc k) l = span_before spans s k (omega (arith, l))

span_last : (spans : List Span) (s : Span) (k : ℕ) → k ≡ length spans → span_at (spans ++ s ∷ []) k ≡ s
span_last [] s zero e = refl
span_last [] s (suc k) e = absurd (omega (arith, e))
span_last (x ∷ spans) s zero e = absurd (omega (arith, e))
span_last (x ∷ spans) s (suc k) e = span_last spans s k (omega (arith, e))

below_push : (spans : List Span) (s : Span) (P : Span → Type 0) → ((k : ℕ) → k < length spans → P (span_at spans k)) → P s → (k : ℕ) → k < length (spans ++ s ∷ []) → P (span_at (spans ++ s ∷ []) k)
below_push spans s P each last k l = elim (cases_eq k (length spans)) [
  | inl same ↦ rw (span_last spans s k same) last
  | inr other ↦ let lt : k < length spans = omega (arith, l, other, length-append spans (s ∷ [])) in rw (span_before spans s k lt) (each k lt)
]

pub laid_push : (lits more : List Lit) (spans : List Span) (s : Span) → IsLaidOut lits spans → s.start ≡ length lits → s.end ≡ length lits + length more → length spans + 1 < 4294967295 → length lits + length more < 4294967295 → IsLaidOut (lits ++ more) (spans ++ s ∷ [])
laid_push lits more spans s laid a b few few_literals = record {
  few = omega (arith, few, length-append spans (s ∷ []));
  few_literals = omega (arith, few_literals, length-append lits more);
  proper = below_push spans s (λ t. t.start ≤ t.end) laid.proper (omega arith);
  within = below_push spans s (λ t. t.end ≤ length (lits ++ more)) (λ k l. omega (arith, laid.within k l, length-append lits more)) (omega (arith, length-append lits more));
  apart = λ j k lt l. elim (cases_eq k (length spans)) [
    | inl same ↦ let jl : j < length spans = omega (arith, lt, same) in rw (span_last spans s k same, span_before spans s j jl) (omega (arith, laid.within j jl, a))
    | inr other ↦
        let kl : k < length spans = omega (arith, l, other, length-append spans (s ∷ [])) in
        let jl : j < length spans = omega (arith, lt, kl) in
        rw (span_before spans s k kl, span_before spans s j jl) (laid.apart j k lt kl)
  ];
  filled = ap (sum_by (λ x. length x)) (parts_push lits more spans s laid a b) ∙ (sum_by-append (λ x. length x) (parts lits spans) (more ∷ []) ∙ omega (arith, laid.filled, length-append lits more));
}

part_before : (lits : List Lit) (s : Span) (p : ℕ) (y : Lit) → p < s.start → part (slice_set lits p y) s ≡ part lits s
part_before lits s p y l = ap (take (s.end - s.start)) (drop-set-lt s.start lits p y l)

part_after : (lits : List Lit) (s : Span) (p : ℕ) (y : Lit) → s.start ≤ p → s.end ≤ p → part (slice_set lits p y) s ≡ part lits s
part_after lits s p y a b =
    let e : p ≡ s.start + (p - s.start) = omega arith in
    let far : s.end - s.start ≤ p - s.start = omega arith in
    ap (λ q. take (s.end - s.start) (drop s.start (slice_set lits q y))) e
    ∙ ap (take (s.end - s.start)) (drop-set-add s.start lits (p - s.start) y)
    ∙ take-set-le (s.end - s.start) (drop s.start lits) (p - s.start) y far

part_here : (lits : List Lit) (s : Span) (i : ℕ) (y : Lit) → i < s.end - s.start → part (slice_set lits (s.start + i) y) s ≡ slice_set (part lits s) i y
part_here lits s i y l = ap (take (s.end - s.start)) (drop-set-add s.start lits i y) ∙ take-set-lt (s.end - s.start) (drop s.start lits) i y l

-- a map over spans that differs at one place
map_at : (f g : Span → Clause) (spans : List Span) (id : ℕ) (c : Clause) → id < length spans → g (span_at spans id) ≡ c → ((k : ℕ) → k < length spans → k ≢ id → g (span_at spans k) ≡ f (span_at spans k)) → map g spans ≡ slice_set (map f spans) id c
map_at f g [] id c l here others = absurd (omega (arith, l))
map_at f g (s ∷ spans) zero c l here others = let rest : map g spans ≡ map f spans = same f g spans (λ k kl. others (suc k) (omega (arith, kl)) (omega arith)) in rw (here, rest) refl
  where
    same : (f g : Span → Clause) (spans : List Span) → ((k : ℕ) → k < length spans → g (span_at spans k) ≡ f (span_at spans k)) → map g spans ≡ map f spans
    same f g [] h = refl
    same f g (s ∷ spans) h = let first : g s ≡ f s = h 0 (omega arith) in rw (first, same f g spans (λ k kl. h (suc k) (omega (arith, kl)))) refl
map_at f g (s ∷ spans) (suc id) c l here others =
    let first : g s ≡ f s = others 0 (omega arith) (omega arith) in
    rw (first, map_at f g spans id c (omega (arith, l)) here (λ k kl ne. others (suc k) (omega (arith, kl)) (omega (arith, ne)))) refl

length_part : (lits : List Lit) (s : Span) → s.start ≤ s.end → s.end ≤ length lits → length (part lits s) ≡ s.end - s.start
length_part lits s p w = length-take-le (s.end - s.start) (drop s.start lits) (omega (arith, length-drop s.start lits))

pub parts_set : (lits : List Lit) (spans : List Span) (id i : ℕ) (y : Lit) → IsLaidOut lits spans → id < length spans → i < length (part lits (span_at spans id)) →
    parts (slice_set lits ((span_at spans id).start + i) y) spans ≡ slice_set (parts lits spans) id (slice_set (part lits (span_at spans id)) i y)
parts_set lits spans id i y laid l il =
    let s = span_at spans id in
    let n : i < s.end - s.start = omega (arith, length_part lits s (laid.proper id l) (laid.within id l)) in
    map_at (part lits) (part (slice_set lits (s.start + i) y)) spans id (slice_set (part lits s) i y) l (part_here lits s i y n) (others n)
  where
    others : i < (span_at spans id).end - (span_at spans id).start → (k : ℕ) → k < length spans → k ≢ id → part (slice_set lits ((span_at spans id).start + i) y) (span_at spans k) ≡ part lits (span_at spans k)
    others n k kl ne = elim (cases_lt k id) [
      | inl before ↦ part_after lits (span_at spans k) ((span_at spans id).start + i) y (omega (arith, laid.apart k id before l, laid.proper k kl)) (omega (arith, laid.apart k id before l))
      | inr after ↦ let more : id < k = omega arith in part_before lits (span_at spans k) ((span_at spans id).start + i) y (omega (arith, laid.apart id k more kl, n))
    ]

lengths_same : (f g : Span → Clause) (spans : List Span) → ((k : ℕ) → k < length spans → length (g (span_at spans k)) ≡ length (f (span_at spans k))) → sum_by (λ x. length x) (map g spans) ≡ sum_by (λ x. length x) (map f spans)
lengths_same f g spans h = sym (sum-map (λ x. length x) (map g spans)) ∙ ap sum (each spans h) ∙ sum-map (λ x. length x) (map f spans)
  where
    each : (spans : List Span) → ((k : ℕ) → k < length spans → length (g (span_at spans k)) ≡ length (f (span_at spans k))) → map (λ x. length x) (map g spans) ≡ map (λ x. length x) (map f spans)
    each [] h = refl
    each (s ∷ spans) h = let first : length (g s) ≡ length (f s) = h 0 (omega arith) in rw (first, each spans (λ k kl. h (suc k) (omega (arith, kl)))) refl

pub laid_set : (lits : List Lit) (spans : List Span) (p : ℕ) (y : Lit) → IsLaidOut lits spans → IsLaidOut (slice_set lits p y) spans
laid_set lits spans p y laid = record {
  few = laid.few;
  few_literals = omega (arith, laid.few_literals, length-set lits p y);
  proper = laid.proper;
  within = λ k l. omega (arith, laid.within k l, length-set lits p y);
  apart = laid.apart;
  filled = lengths_same (part lits) (part (slice_set lits p y)) spans lengths ∙ omega (arith, laid.filled, length-set lits p y);
}
  where
    lengths : (k : ℕ) → k < length spans → length (part (slice_set lits p y) (span_at spans k)) ≡ length (part lits (span_at spans k))
    lengths k l =
        let s = span_at spans k in
        let w : s.end ≤ length (slice_set lits p y) = omega (arith, laid.within k l, length-set lits p y) in
        length_part (slice_set lits p y) s (laid.proper k l) w ∙ sym (length_part lits s (laid.proper k l) (laid.within k l))

set_twice : (cs : List Clause) (id : ℕ) (a b : Clause) → slice_set (slice_set cs id a) id b ≡ slice_set cs id b
set_twice [] id a b = refl
set_twice (c ∷ cs) zero a b = refl
set_twice (c ∷ cs) (suc id) a b = ap (λ l. c ∷ l) (set_twice cs id a b)

pub part_is : (lits : List Lit) (spans : List Span) (id : ℕ) → id < length spans → slice_index_or (parts lits spans) id [] ≡ part lits (span_at spans id)
part_is lits spans id l = get_or-map (part lits) spans id no_span [] l

pub parts_swap : (lits : List Lit) (spans : List Span) (id i j : ℕ) (d : Lit) → IsLaidOut lits spans → id < length spans → i < length (part lits (span_at spans id)) → j < length (part lits (span_at spans id)) →
    parts (slice_set (slice_set lits ((span_at spans id).start + i) (get_or (part lits (span_at spans id)) j d)) ((span_at spans id).start + j) (get_or (part lits (span_at spans id)) i d)) spans
    ≡ slice_set (parts lits spans) id (swap (part lits (span_at spans id)) i j)
parts_swap lits spans id i j d laid l il jl =
    let s = span_at spans id in
    let c = part lits s in
    let x = get_or c i d in
    let y = get_or c j d in
    let once = slice_set lits (s.start + i) y in
    let laid_once : IsLaidOut once spans = laid_set lits spans (s.start + i) y laid in
    let n : i < s.end - s.start = omega (arith, length_part lits s (laid.proper id l) (laid.within id l)) in
    let here : part once s ≡ slice_set c i y = part_here lits s i y n in
    let jn : j < length (part once s) = rw here (omega (arith, length-set c i y)) in
    parts_set once spans id j x laid_once l jn
    ∙ ap (λ q. slice_set (parts once spans) id (slice_set q j x)) here
    ∙ ap (λ q. slice_set q id (slice_set (slice_set c i y) j x)) (parts_set lits spans id i y laid l il)
    ∙ set_twice (parts lits spans) id (slice_set c i y) (slice_set (slice_set c i y) j x)
    ∙ ap (λ q. slice_set (parts lits spans) id q) (swap_is c i j d il jl)

part_reads : (lits : List Lit) (s : Span) (i : ℕ) (d : Lit) → i < s.end - s.start → get_or (part lits s) i d ≡ get_or lits (s.start + i) d
part_reads lits s i d l = get_or-take (s.end - s.start) (drop s.start lits) i d l ∙ get_or-drop s.start lits i d

pub exchange_is : (lits : List Lit) (spans : List Span) (clauses : List Clause) (id i j : ℕ) (x y : Lit) (s : Span) → IsLaidOut lits spans → parts lits spans ≡ clauses →
    id < length clauses → i < length (slice_index_or clauses id []) → j < length (slice_index_or clauses id []) →
    s ≡ slice_index_or spans id s → x ≡ slice_index_or lits (s.start + i) x → y ≡ slice_index_or lits (s.start + j) y →
    parts (slice_set (slice_set lits (s.start + i) y) (s.start + j) x) spans ≡ slice_set clauses id (swap (slice_index_or clauses id []) i j)
exchange_is lits spans clauses id i j x y s laid is l il jl at_s at_x at_y =
    let n : id < length spans = rw (← is, length-map) at l in
    let t = span_at spans id in
    let same : s ≡ t = at_s ∙ any_default spans id s no_span n in
    let c : slice_index_or clauses id [] ≡ part lits t = ap (λ q. slice_index_or q id []) (sym is) ∙ part_is lits spans id n in
    let il2 : i < length (part lits t) = rw c at il in
    let jl2 : j < length (part lits t) = rw c at jl in
    let wide = length_part lits t (laid.proper id n) (laid.within id n) in
    let x_is : x ≡ get_or (part lits t) i x = at_x ∙ ap (λ q. get_or lits (q.start + i) x) same ∙ sym (part_reads lits t i x (omega (arith, il2, wide))) in
    let y_is : y ≡ get_or (part lits t) j x = at_y ∙ ap (λ q. get_or lits (q.start + j) y) same ∙ sym (part_reads lits t j y (omega (arith, jl2, wide))) ∙ any_lit (part lits t) j y x jl2 in
    ap (λ q. parts (slice_set (slice_set lits (q.start + i) y) (q.start + j) x) spans) same
    ∙ ap (λ q. parts (slice_set (slice_set lits (t.start + i) y) (t.start + j) q) spans) x_is
    ∙ ap (λ q. parts (slice_set (slice_set lits (t.start + i) q) (t.start + j) (get_or (part lits t) i x)) spans) y_is
    ∙ parts_swap lits spans id i j x laid n il2 jl2
    ∙ ap (λ q. slice_set (parts lits spans) id (swap q i j)) (sym c)
    ∙ ap (λ q. slice_set q id (swap (slice_index_or clauses id []) i j)) is
  where
    any_default : (spans : List Span) (k : ℕ) (a b : Span) → k < length spans → slice_index_or spans k a ≡ slice_index_or spans k b
    any_default [] k a b l = absurd (omega (arith, l))
    any_default (x ∷ spans) zero a b l = refl
    any_default (x ∷ spans) (suc k) a b l = any_default spans k a b (omega (arith, l))

    any_lit : (c : List Lit) (k : ℕ) (a b : Lit) → k < length c → get_or c k a ≡ get_or c k b
    any_lit [] k a b l = absurd (omega (arith, l))
    any_lit (x ∷ c) zero a b l = refl
    any_lit (x ∷ c) (suc k) a b l = any_lit c k a b (omega (arith, l))

pub count_is : (lits : List Lit) (spans : List Span) (clauses : List Clause) → parts lits spans ≡ clauses → length spans ≡ length clauses
count_is lits spans clauses is = omega (arith, length-map spans (part lits), ap length is)

pub literals_is : (lits : List Lit) (spans : List Span) (clauses : List Clause) → IsLaidOut lits spans → parts lits spans ≡ clauses → length lits ≡ sum_by (λ c. length c) clauses
literals_is lits spans clauses laid is = sym laid.filled ∙ ap (sum_by (λ c. length c)) is
