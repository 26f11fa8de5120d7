-- Writes in the links.
use Rattle.std.proofs.Common.{◌≡◌, ◌≢◌, ℕ, ◌+◌, ◌<◌, List, length, slice_set, sym, ap, ◌∙◌, inl, inr, arith, length-set, get_or-set_other, get_or-set_same}
use Rattle.std.proofs.lemmas.Bool.{cases_eq}
use Rattle.clause_arena.specs.Clauses.{Lit}
use Rattle.clause_arena.specs.Lits.{code_of}
use Rattle.watch_lists.specs.declared.link.Link.{Link}
use Rattle.watch_lists.specs.Watched.{link_at, no_link, next_at, other_at, sibling, IsRelinked, IsInserted, IsLinked}

abbrev pub with_next : List Link → ℕ → ℕ → List Link
with_next links i n = slice_set links i (record (link_at links i) { next = n })

abbrev pub with_other : List Link → ℕ → Lit → List Link
with_other links i o = slice_set links i (record (link_at links i) { other = o })

module _ (links : List Link) (i : ℕ) (l : i < length links) where
  pub next_here : (n : ℕ) → next_at (with_next links i n) i ≡ n
  next_here n = ap (λ (q : Link). q.next) (get_or-set_same links i (record (link_at links i) { next = n }) no_link l)

  pub next_else : (n k : ℕ) → k ≢ i → next_at (with_next links i n) k ≡ next_at links k
  next_else n k ne = ap (λ (q : Link). q.next) (get_or-set_other links i k (record (link_at links i) { next = n }) no_link ne)

  pub other_stays : (n k : ℕ) → other_at (with_next links i n) k ≡ other_at links k
  other_stays n k = elim (cases_eq k i) [
    | inl e ↦ rw e (ap (λ (q : Link). q.other) (get_or-set_same links i (record (link_at links i) { next = n }) no_link l))
    | inr ne ↦ ap (λ (q : Link). q.other) (get_or-set_other links i k (record (link_at links i) { next = n }) no_link ne)
  ]

  pub other_here : (o : Lit) → other_at (with_other links i o) i ≡ o
  other_here o = ap (λ (q : Link). q.other) (get_or-set_same links i (record (link_at links i) { other = o }) no_link l)

  pub other_else : (o : Lit) (k : ℕ) → k ≢ i → other_at (with_other links i o) k ≡ other_at links k
  other_else o k ne = ap (λ (q : Link). q.other) (get_or-set_other links i k (record (link_at links i) { other = o }) no_link ne)

  pub next_stays : (o : Lit) (k : ℕ) → next_at (with_other links i o) k ≡ next_at links k
  next_stays o k = elim (cases_eq k i) [
    | inl e ↦ rw e (ap (λ (q : Link). q.next) (get_or-set_same links i (record (link_at links i) { other = o }) no_link l))
    | inr ne ↦ ap (λ (q : Link). q.next) (get_or-set_other links i k (record (link_at links i) { other = o }) no_link ne)
  ]

pub relinked_by : (links l1 l2 l3 l4 : List Link) (before m h s x y : ℕ) (c : Lit) → h ≡ code_of c → s ≡ sibling m →
    before < length links → m < length links → h < length links → s < length links → before ≢ m → h ≢ before → h ≢ m →
    x ≡ next_at links m → l1 ≡ with_next links before x → y ≡ next_at l1 h → l2 ≡ with_next l1 m y → l3 ≡ with_next l2 h m → l4 ≡ with_other l3 s c →
    IsRelinked links l4 before m c
relinked_by links l1 l2 l3 l4 before m h s x y c h_is s_is bl ml hl sl bm hb hm x_is e1 y_is e2 e3 e4 =
    let n1 : length l1 ≡ length links = ap length e1 ∙ length-set links before _ in
    let n2 : length l2 ≡ length l1 = ap length e2 ∙ length-set l1 m _ in
    let n3 : length l3 ≡ length l2 = ap length e3 ∙ length-set l2 h _ in
    let n4 : length l4 ≡ length l3 = ap length e4 ∙ length-set l3 s _ in
    let m1 : m < length l1 = omega arith in
    let h2 : h < length l2 = omega arith in
    let s3 : s < length l3 = omega arith in
    let next4 : (k : ℕ) → next_at l4 k ≡ next_at l3 k = λ k. ap (λ q. next_at q k) e4 ∙ next_stays l3 s s3 c k in
    let next3 : (k : ℕ) → k ≢ h → next_at l4 k ≡ next_at l2 k = λ k ne. next4 k ∙ ap (λ q. next_at q k) e3 ∙ next_else l2 h h2 m k ne in
    let next2 : (k : ℕ) → k ≢ h → k ≢ m → next_at l4 k ≡ next_at l1 k = λ k nh nm. next3 k nh ∙ ap (λ q. next_at q k) e2 ∙ next_else l1 m m1 y k nm in
    let next1 : (k : ℕ) → k ≢ before → next_at l1 k ≡ next_at links k = λ k nb. ap (λ q. next_at q k) e1 ∙ next_else links before bl x k nb in
    let others3 : (k : ℕ) → other_at l3 k ≡ other_at links k = λ k. ap (λ q. other_at q k) e3 ∙ other_stays l2 h h2 m k ∙ ap (λ q. other_at q k) e2 ∙ other_stays l1 m m1 y k ∙ ap (λ q. other_at q k) e1 ∙ other_stays links before bl x k in
    record {
      size = n4 ∙ n3 ∙ n2 ∙ n1;
      cut = next2 before (λ e. hb (sym e)) bm ∙ ap (λ q. next_at q before) e1 ∙ next_here links before bl x ∙ x_is;
      follows = next3 m (λ e. hm (sym e)) ∙ ap (λ q. next_at q m) e2 ∙ next_here l1 m m1 y ∙ y_is ∙ next1 h hb ∙ ap (next_at links) h_is;
      front = ap (next_at l4) (sym h_is) ∙ next4 h ∙ ap (λ q. next_at q h) e3 ∙ next_here l2 h h2 m;
      others = λ k nb nm nc. next2 k (λ e. nc (e ∙ h_is)) nm ∙ next1 k nb;
      watched = ap (other_at l4) (sym s_is) ∙ ap (λ q. other_at q s) e4 ∙ other_here l3 s s3 c;
      kept = λ k ns. ap (λ q. other_at q k) e4 ∙ other_else l3 s s3 c k (λ e. ns (e ∙ s_is)) ∙ others3 k;
    }

pub inserted_by : (links l1 l2 : List Link) (m h x : ℕ) → m < length links → h < length links → h ≢ m → x ≡ next_at links h → l1 ≡ with_next links m x → l2 ≡ with_next l1 h m → IsInserted links l2 m h
inserted_by links l1 l2 m h x ml hl hm x_is e1 e2 =
    let n1 : length l1 ≡ length links = ap length e1 ∙ length-set links m _ in
    let h1 : h < length l1 = omega arith in
    record {
      size = ap length e2 ∙ length-set l1 h _ ∙ n1;
      follows = ap (λ q. next_at q m) e2 ∙ next_else l1 h h1 m m (λ e. hm (sym e)) ∙ ap (λ q. next_at q m) e1 ∙ next_here links m ml x ∙ x_is;
      front = ap (λ q. next_at q h) e2 ∙ next_here l1 h h1 m;
      others = λ k nm nh. ap (λ q. next_at q k) e2 ∙ next_else l1 h h1 m k nh ∙ ap (λ q. next_at q k) e1 ∙ next_else links m ml x k nm;
      kept = λ k. ap (λ q. other_at q k) e2 ∙ other_stays l1 h h1 m k ∙ ap (λ q. other_at q k) e1 ∙ other_stays links m ml x k;
    }

pub linked_by : (links l1 l2 l3 l4 : List Link) (n : ℕ) (x y : Lit) → n + 1 < length links → l1 ≡ with_other links n y → l2 ≡ with_other l1 (n + 1) x → IsInserted l2 l3 n (code_of x) → IsInserted l3 l4 (n + 1) (code_of y) → IsLinked links l4 n x y
linked_by links l1 l2 l3 l4 n x y low e1 e2 one two =
    let n1 : length l1 ≡ length links = ap length e1 ∙ length-set links n _ in
    let nl : n < length links = omega arith in
    let n1l : n + 1 < length l1 = omega arith in
    let apart : n ≢ n + 1 = omega arith in
    record {
      between = l3;
      paired = l2;
      size = ap length e2 ∙ length-set l1 (n + 1) _ ∙ n1;
      nexts = λ k. ap (λ q. next_at q k) e2 ∙ next_stays l1 (n + 1) n1l x k ∙ ap (λ q. next_at q k) e1 ∙ next_stays links n nl y k;
      first = ap (λ q. other_at q n) e2 ∙ other_else l1 (n + 1) n1l x n apart ∙ ap (λ q. other_at q n) e1 ∙ other_here links n nl y;
      second = ap (λ q. other_at q (n + 1)) e2 ∙ other_here l1 (n + 1) n1l x;
      kept = λ k a b. ap (λ q. other_at q k) e2 ∙ other_else l1 (n + 1) n1l x k b ∙ ap (λ q. other_at q k) e1 ∙ other_else links n nl y k a;
      one = one;
      two = two;
    }
