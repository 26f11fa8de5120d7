-- Lists that are new, and more places.
use Rattle.std.proofs.Common.{◌≡◌, ◌≢◌, ℕ, ◌+◌, ◌-◌, ◌*◌, ◌<◌, ◌≤◌, ◌^◌, List, [], ◌++◌, length, None, slice_index_or, refl, sym, ap, ◌∙◌, inl, inr, arith, length-append, replicate}
use Rattle.std.proofs.lemmas.Bool.{cases_eq, cases_lt}
use Rattle.std.proofs.lemmas.List.{get_or-replicate, get_or_append_left, get_or-append_right, get_or_past, length-replicate}
use Rattle.clause_arena.specs.Clauses.{Lit}
use Rattle.clause_arena.specs.Lits.{code_of}
use Rattle.watch_lists.specs.declared.link.Link.{Link}
use Rattle.watch_lists.specs.Chains.{AreLists}
use Rattle.watch_lists.specs.Watched.{link_at, no_link, next_at, other_at, own_code, sibling, IsNode}
use Rattle.watch_lists.specs.Watching.{listed, reserved, pair_of, view_of, AreKept}
use Rattle.watch_lists.proofs.ChainLemmas.{lists_owners, lists_nexts}
use Rattle.watch_lists.proofs.FitLemmas.{listed_is, reserved_is, variables_is}

abbrev pub end_link : Lit → Link
end_link o = record { next = 0; other = o }

abbrev pub free_link : Lit → Link
free_link o = record { next = 1; other = o }

pub new_kept : (v heads : ℕ) (o : Lit) → heads ≡ 2 * v + 2 → heads < 2 ^ 32 → AreKept heads (replicate heads (end_link o))
new_kept v heads o even few = record {
  even = (v, even);
  whole = (0, omega (arith, length-replicate heads (end_link o)));
  few = omega (arith, length-replicate heads (end_link o), few);
  paired = λ m n. absurd (none m n.0 n.1);
  lists = (
    λ h. [],
    record {
      path = λ h low high. ap (λ (q : Link). q.next) (get_or-replicate heads h (end_link o) no_link high);
      sound = λ h m low high i. absurd i;
      complete = λ m f b l. absurd (none m f b);
      ranged = λ m f b l. absurd (none m f b);
      apart = λ h low high. tt;
    },
  );
}
  where
    none : (m : ℕ) → heads ≤ m → m < length (replicate heads (end_link o)) → ⊥
    none m f b = omega (arith, f, b, length-replicate heads (end_link o))

pub new_view : (v heads : ℕ) (o : Lit) → heads ≡ 2 * v + 2 → ((view_of heads (replicate heads (end_link o))).variables ≡ v) × ((k : ℕ) → listed (view_of heads (replicate heads (end_link o))) k ≡ None)
new_view v heads o even =
    let links = replicate heads (end_link o) in
    let size : length links ≡ heads + 2 * 0 = omega (arith, length-replicate heads (end_link o)) in (
      variables_is heads links ∙ omega arith,
      λ k. get_or_past (view_of heads links).pairs k None (omega (arith, reserved_is heads links 0 size)),
    )

lists_size : (heads size size2 : ℕ) (next own : ℕ → ℕ) (lists : ℕ → List ℕ) → AreLists heads size next own lists → size ≤ size2 → ((m : ℕ) → next m ≢ 1 → m < size) → AreLists heads size2 next own lists
lists_size heads size size2 next own lists are le low = record {
  path = are.path;
  sound = λ h m l g i. let s = are.sound h m l g i in (s.0, omega (arith, s.1, le), s.2, s.3);
  complete = λ m f b l. are.complete m f (low m l) l;
  ranged = λ m f b l. are.ranged m f (low m l) l;
  apart = are.apart;
}

module _ (links : List Link) (d : ℕ) (o : Lit) where
  pub next_more : (k : ℕ) → next_at (links ++ replicate d (free_link o)) k ≡ next_at links k
  next_more k = elim (cases_lt k (length links)) [
    | inl l ↦ ap (λ (q : Link). q.next) (get_or_append_left links (replicate d (free_link o)) no_link k l)
    | inr h ↦
        let there : link_at (links ++ replicate d (free_link o)) k ≡ slice_index_or (replicate d (free_link o)) (k - length links) no_link = get_or-append_right links (replicate d (free_link o)) (length links) k no_link refl h in
        let one : (slice_index_or (replicate d (free_link o)) (k - length links) no_link).next ≡ 1 = elim (cases_lt (k - length links) d) [
          | inl l ↦ ap (λ (q : Link). q.next) (get_or-replicate d (k - length links) (free_link o) no_link l)
          | inr g ↦ ap (λ (q : Link). q.next) (get_or_past (replicate d (free_link o)) (k - length links) no_link (omega (arith, g, length-replicate d (free_link o))))
        ] in
        ap (λ (q : Link). q.next) there ∙ one ∙ sym (ap (λ (q : Link). q.next) (get_or_past links k no_link h))
  ]

  pub other_more : (k : ℕ) → k < length links → other_at (links ++ replicate d (free_link o)) k ≡ other_at links k
  other_more k l = ap (λ (q : Link). q.other) (get_or_append_left links (replicate d (free_link o)) no_link k l)

  listed_low : (k : ℕ) → next_at links k ≢ 1 → k < length links
  listed_low k ne = elim (cases_lt k (length links)) [ inl l ↦ l | inr h ↦ absurd (ne (ap (λ (q : Link). q.next) (get_or_past links k no_link h))) ]

  pub more_kept : (heads r c : ℕ) → AreKept heads links → length links ≡ heads + 2 * r → heads + 2 * c ≡ length links + d → heads + 2 * c < 2 ^ 32 → AreKept heads (links ++ replicate d (free_link o))
  more_kept heads r c kept size grown few =
      let size2 : length (links ++ replicate d (free_link o)) ≡ heads + 2 * c = omega (arith, length-append links (replicate d (free_link o)), length-replicate d (free_link o), grown) in
      let le : length links ≤ length (links ++ replicate d (free_link o)) = omega (arith, length-append links (replicate d (free_link o))) in
      let even = kept.even.1 in
      let old : (m : ℕ) → IsNode heads (links ++ replicate d (free_link o)) m → IsNode heads links m = λ m n. (n.0, listed_low m (λ e. n.2 (next_more m ∙ e)), λ e. n.2 (next_more m ∙ e)) in
      record {
        even = kept.even;
        whole = (c, size2);
        few = omega (arith, size2, few);
        paired = λ m n. λ e. kept.paired m (old m n) (sym (next_more (sibling m)) ∙ e);
        lists = (
          kept.lists.0,
          lists_nexts heads (length (links ++ replicate d (free_link o))) (next_at links) (next_at (links ++ replicate d (free_link o))) (own_code (links ++ replicate d (free_link o))) kept.lists.0
              (lists_owners heads (length (links ++ replicate d (free_link o))) (next_at links) (own_code links) (own_code (links ++ replicate d (free_link o))) kept.lists.0
              (lists_size heads (length links) (length (links ++ replicate d (free_link o))) (next_at links) (own_code links) kept.lists.0 kept.lists.1 le listed_low)
              (λ k f b l.
              let low = listed_low k l in
              let sib : sibling k < length links = omega (arith, low, size, even) in
              ap code_of (other_more (sibling k) sib)))
              next_more,
        );
      }

  pub more_view : (heads r c k : ℕ) → AreKept heads links → length links ≡ heads + 2 * r → heads + 2 * c ≡ length links + d → listed (view_of heads (links ++ replicate d (free_link o))) k ≡ listed (view_of heads links) k
  more_view heads r c k kept size grown =
      let size2 : length (links ++ replicate d (free_link o)) ≡ heads + 2 * c = omega (arith, length-append links (replicate d (free_link o)), length-replicate d (free_link o), grown) in
      listed_is heads (links ++ replicate d (free_link o)) c k size2
      ∙ (elim (cases_eq (next_at links (heads + 2 * k)) 1) [
        | inl e ↦ let e2 : next_at (links ++ replicate d (free_link o)) (heads + 2 * k) ≡ 1 = next_more (heads + 2 * k) ∙ e in none _ _ _ _ _ _ e2 e
        | inr ne ↦
            let low = listed_low (heads + 2 * k) ne in
            let low2 : heads + 2 * k + 1 < length links = omega (arith, low, size) in
            same _ _ _ _ _ _ (next_more (heads + 2 * k)) (other_more (heads + 2 * k + 1) low2) (other_more (heads + 2 * k) low)
      ])
      ∙ sym (listed_is heads links r k size)
    where
      none : (n m : ℕ) (a b x y : Lit) → n ≡ 1 → m ≡ 1 → pair_of n a b ≡ pair_of m x y
      none n m a b x y e f = rw (e, f) refl

      same : (n m : ℕ) (a b x y : Lit) → n ≡ m → a ≡ x → b ≡ y → pair_of n a b ≡ pair_of m x y
      same n m a b x y e f g = rw (e, f, g) refl

  pub more_reserved : (heads c : ℕ) → heads + 2 * c ≡ length links + d → reserved (view_of heads (links ++ replicate d (free_link o))) ≡ c
  more_reserved heads c grown = reserved_is heads (links ++ replicate d (free_link o)) c (omega (arith, length-append links (replicate d (free_link o)), length-replicate d (free_link o), grown))
