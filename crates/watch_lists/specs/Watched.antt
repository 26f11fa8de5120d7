-- Which literals a clause is listed under, and what the trail says of them.
use Rattle.std.specs.Prelude.{◌≡◌, ◌≢◌, ℕ, ◌+◌, ◌-◌, ◌*◌, ◌/◌, ◌%◌, ◌<◌, ◌≤◌, List, ◌++◌, length, Option, Some, None, slice_index_or}
use Rattle.clause_arena.specs.Clauses.{Lit, opposite, Clause, In}
use Rattle.sat_trail.specs.Trails.{no_lit, lit_at, IsTrueBy, Entry, TrailState, entry_at, true_lits, IsTrail}
use Rattle.clause_arena.specs.Lits.{code_of}
use Rattle.clause_arena.specs.Arenas.{clause_at}
use Rattle.watch_lists.specs.Chains.{Has, AreLists, steps, end_of}
use Rattle.watch_lists.specs.declared.link.Link.{Link}

-- a link past the end stands in no list
abbrev pub no_link : Link
no_link = record { next = 1; other = no_lit }

-- the link at a place
abbrev pub link_at : List Link → ℕ → Link
link_at links n = slice_index_or links n no_link

-- the node that follows
abbrev pub next_at : List Link → ℕ → ℕ
next_at links n = (link_at links n).next

-- the other watched literal of the same clause
abbrev pub other_at : List Link → ℕ → Lit
other_at links n = (link_at links n).other

-- the other node of the same clause
abbrev pub sibling : ℕ → ℕ
sibling n = n + 1 - 2 * (n % 2)

-- the literal that a node watches
abbrev pub own_at : List Link → ℕ → Lit
own_at links n = other_at links (sibling n)

-- its code
abbrev pub own_code : List Link → ℕ → ℕ
own_code links n = code_of (own_at links n)

-- the clause of a node
abbrev pub place_of : ℕ → ℕ → ℕ
place_of heads n = (n - heads) / 2

-- the node stands in a list
abbrev pub IsListed : List Link → ℕ → Type 0
IsListed links n = next_at links n ≢ 1

-- a node that stands in a list
abbrev pub IsNode : ℕ → List Link → ℕ → Type 0
IsNode heads links n = (heads ≤ n) × (n < length links) × IsListed links n

-- no two places of the clause have one variable
abbrev pub AreOfDifferentVariables : Clause → Type 0
AreOfDifferentVariables c = (i j : ℕ) → i < length c → j < length c → i ≢ j → (lit_at c i).var ≢ (lit_at c j).var

-- each literal is of a variable of the trail
abbrev pub AreWithin : List Clause → ℕ → Type 0
AreWithin clauses n = (k : ℕ) → k < length clauses → (l : Lit) → In l (clause_at clauses k) → l.var ≤ n

-- the nodes agree with the arena
pub record AreTied (heads variables : ℕ) (links : List Link) (clauses : List Clause) : Type 0 where
  pub even : heads ≡ 2 * variables + 2
  pub whole : (reserved : ℕ) × (length links ≡ heads + 2 * reserved)
  pub paired : (m : ℕ) → IsNode heads links m → IsListed links (sibling m)
  pub held : (m : ℕ) → IsNode heads links m → (place_of heads m < length clauses) × (2 ≤ length (clause_at clauses (place_of heads m)))
  pub listing : (m : ℕ) → IsNode heads links m → lit_at (clause_at clauses (place_of heads m)) (m % 2) ≡ own_at links m
  pub apart : (m : ℕ) → IsNode heads links m → AreOfDifferentVariables (clause_at clauses (place_of heads m))
  pub within : AreWithin clauses variables

-- where x is false by one of the first n entries, y is true at a level that isn't higher
abbrev pub IsCovered : List Entry → ℕ → Lit → Lit → Type 0
IsCovered entries n x y = (p : ℕ) → p < n → p < length entries → (entry_at entries p).lit ≡ opposite x → IsTrueBy entries (entry_at entries p).level y

-- the watches fit the arena and the first n entries of the trail
pub record AreFitting (heads : ℕ) (links : List Link) (clauses : List Clause) (t : TrailState) (n : ℕ) (lists : ℕ → List ℕ) : Type 0 where
  pub tied : AreTied heads t.variables links clauses
  pub are : AreLists heads (length links) (next_at links) (own_code links) lists
  pub trail : IsTrail t
  pub cover : (m : ℕ) → IsNode heads links m → IsCovered t.entries n (own_at links m) (other_at links m)

-- the entries from this place on are of the present level
abbrev pub ArePendingFrom : TrailState → ℕ → Type 0
ArePendingFrom t n = (p : ℕ) → n ≤ p → p < length t.entries → (entry_at t.entries p).level ≡ t.level

-- on the way through the list of a, which the last given entry made false: the nodes up to `before` are done
pub record IsVisiting (heads : ℕ) (links : List Link) (clauses : List Clause) (t : TrailState) (a : Lit) (before : ℕ) (lists : ℕ → List ℕ) (done rest : List ℕ) : Type 0 where
  pub fitting : AreFitting heads links clauses t (t.given - 1) lists
  pub pending : ArePendingFrom t (t.given - 1)
  pub given : 0 < t.given
  pub here : (entry_at t.entries (t.given - 1)).lit ≡ opposite a
  pub low : 1 < code_of a
  pub high : code_of a < heads
  pub split : lists (code_of a) ≡ done ++ rest
  pub at_end : end_of (code_of a) done ≡ before
  pub seen : (m : ℕ) → Has m done → In (other_at links m) (true_lits t.entries)

-- as many clauses, each as long and the same set
pub record AreRearranged (clauses clauses2 : List Clause) : Type 0 where
  pub count : length clauses2 ≡ length clauses
  pub lengths : (k : ℕ) → k < length clauses → length (clause_at clauses2 k) ≡ length (clause_at clauses k)
  pub there : (k : ℕ) → k < length clauses → (l : Lit) → In l (clause_at clauses k) → In l (clause_at clauses2 k)
  pub back : (k : ℕ) → k < length clauses → (l : Lit) → In l (clause_at clauses2 k) → In l (clause_at clauses k)

-- the same nodes stand in lists
pub record AreSameListed (heads : ℕ) (links links2 : List Link) : Type 0 where
  pub size : length links2 ≡ length links
  pub there : (m : ℕ) → heads ≤ m → m < length links → IsListed links m → IsListed links2 m
  pub back : (m : ℕ) → heads ≤ m → m < length links → IsListed links2 m → IsListed links m

-- a node went from behind `before` to the front of the list of c, which it now watches
pub record IsRelinked (links links2 : List Link) (before m : ℕ) (c : Lit) : Type 0 where
  pub size : length links2 ≡ length links
  pub cut : next_at links2 before ≡ next_at links m
  pub follows : next_at links2 m ≡ next_at links (code_of c)
  pub front : next_at links2 (code_of c) ≡ m
  pub others : (k : ℕ) → k ≢ before → k ≢ m → k ≢ code_of c → next_at links2 k ≡ next_at links k
  pub watched : other_at links2 (sibling m) ≡ c
  pub kept : (k : ℕ) → k ≢ sibling m → other_at links2 k ≡ other_at links k

-- the place of a literal of the clause, from one place up to another, that isn't false
abbrev pub IsOpenBetween : Clause → List Lit → ℕ → ℕ → Option ℕ → Type 0
IsOpenBetween c T start end None = (i : ℕ) → start ≤ i → i < end → In (opposite (lit_at c i)) T
IsOpenBetween c T start end (Some i) = (start ≤ i) × (i < end) × (In (opposite (lit_at c i)) T → ⊥)

-- the place of a literal of the clause, from 2 on, that isn't false
abbrev pub IsReplacement : Clause → List Lit → Option ℕ → Type 0
IsReplacement c T None = (i : ℕ) → 2 ≤ i → i < length c → In (opposite (lit_at c i)) T
IsReplacement c T (Some i) = (2 ≤ i) × (i < length c) × (In (opposite (lit_at c i)) T → ⊥)

-- how many nodes follow n
abbrev pub count_left : List Link → ℕ → ℕ
count_left links n = steps (length links) (next_at links) n

-- a node came to the front of the list of a head
pub record IsInserted (links links2 : List Link) (m head : ℕ) : Type 0 where
  pub size : length links2 ≡ length links
  pub follows : next_at links2 m ≡ next_at links head
  pub front : next_at links2 head ≡ m
  pub others : (k : ℕ) → k ≢ m → k ≢ head → next_at links2 k ≡ next_at links k
  pub kept : (k : ℕ) → other_at links2 k ≡ other_at links k

-- the two nodes of a clause got each other's literals and came to the fronts of their own lists
pub record IsLinked (links links2 : List Link) (n : ℕ) (x y : Lit) : Type 0 where
  pub between : List Link
  pub paired : List Link
  pub size : length paired ≡ length links
  pub nexts : (k : ℕ) → next_at paired k ≡ next_at links k
  pub first : other_at paired n ≡ y
  pub second : other_at paired (n + 1) ≡ x
  pub kept : (k : ℕ) → k ≢ n → k ≢ n + 1 → other_at paired k ≡ other_at links k
  pub one : IsInserted paired between n (code_of x)
  pub two : IsInserted between links2 (n + 1) (code_of y)
