-- A phrase without the parentheses that it does not need: its tree and its names are the same, and it is no deeper.
use Rattle.std.specs.Prelude.{◌≡◌, ◌≤◌, ◌-◌, refl, ℕ, true, List, [], ◌∷◌}
use Rattle.std.proofs.Common.{ap, ap₂, sym, ◌∙◌, arith}
use Rattle.pg_algebra.specs.declared.cond.Cond.TheViews as cond
use Rattle.pg_algebra.specs.declared.expr.Expr.TheViews as expr
use Rattle.line_text.specs.Words.{is_free_name}
use Rattle.pg_text.specs.Grammar.{Side, condition, graph, Row, product, sum, Level, factor, row, member, Phrase, single, joined, named, group, bit, negated, empty, reference, under, IsWithin, names_after, Tree, join, members, tree}

-- a row of two or more, or a factor that is not in parentheses
pub data Natural (s : Side) : Type 0 where
  as_row : (r : Row) → Phrase s (row r) → Natural s
  as_factor : Phrase s factor → Natural s

-- it in a place of this level, in parentheses where it needs them
abbrev pub fit : {s : Side} → (l : Level) → Natural s → Phrase s l
fit factor (as_factor x) = x
fit factor (as_row product p) = group (single sum p)
fit factor (as_row sum p) = group p
fit (row product) (as_factor x) = single product x
fit (row product) (as_row product p) = p
fit (row product) (as_row sum p) = single product (group p)
fit (row sum) (as_factor x) = single sum (single product x)
fit (row sum) (as_row product p) = single sum p
fit (row sum) (as_row sum p) = p

abbrev mutual
  pub natural : {s : Side} {l : Level} → Phrase s l → Natural s
  natural (single r x) = natural x
  natural (joined r x y) = as_row r (joined r (fit (member r) (natural x)) (rows y))
  natural (named w) = as_factor (named w)
  natural (group x) = natural x
  natural (bit b) = as_factor (bit b)
  natural (negated x) = as_factor (negated (fit factor (natural x)))
  natural empty = as_factor empty
  natural (reference w) = as_factor (reference w)
  natural (under c x) = as_factor (under (fit (row sum) (natural c)) (fit factor (natural x)))

  -- a row with each member in its natural form
  pub rows : {s : Side} {l : Level} → Phrase s l → Phrase s l
  rows (single r x) = single r (fit (member r) (natural x))
  rows (joined r x y) = joined r (fit (member r) (natural x)) (rows y)
  rows (named w) = named w
  rows (group x) = group x
  rows (bit b) = bit b
  rows (negated x) = negated x
  rows empty = empty
  rows (reference w) = reference w
  rows (under c x) = under c x

-- ---- names

abbrev names_natural : {s : Side} → List (List ℕ) → Natural s → List (List ℕ)
names_natural names (as_row r p) = names_after names p
names_natural names (as_factor x) = names_after names x

names-fit : {s : Side} (l : Level) (names : List (List ℕ)) (n : Natural s) → names_after names (fit l n) ≡ names_natural names n
names-fit factor names (as_factor x) = refl
names-fit factor names (as_row product p) = refl
names-fit factor names (as_row sum p) = refl
names-fit (row product) names (as_factor x) = refl
names-fit (row product) names (as_row product p) = refl
names-fit (row product) names (as_row sum p) = refl
names-fit (row sum) names (as_factor x) = refl
names-fit (row sum) names (as_row product p) = refl
names-fit (row sum) names (as_row sum p) = refl

mutual
  names-natural : {s : Side} {l : Level} (names : List (List ℕ)) (p : Phrase s l) → names_natural names (natural p) ≡ names_after names p
  names-natural names (single r x) = names-natural names x
  names-natural names (joined r x y) =
      ap (λ n. names_after n (rows y)) (names-fit (member r) names (natural x) ∙ names-natural names x) ∙ names-rows (names_after names x) y
  names-natural names (named w) = refl
  names-natural names (group x) = names-natural names x
  names-natural names (bit b) = refl
  names-natural names (negated x) = refl
  names-natural names empty = refl
  names-natural names (reference w) = refl
  names-natural names (under c x) = names-fit factor names (natural x) ∙ names-natural names x

  names-rows : {s : Side} {l : Level} (names : List (List ℕ)) (p : Phrase s l) → names_after names (rows p) ≡ names_after names p
  names-rows names (single r x) = names-fit (member r) names (natural x) ∙ names-natural names x
  names-rows names (joined r x y) =
      ap (λ n. names_after n (rows y)) (names-fit (member r) names (natural x) ∙ names-natural names x) ∙ names-rows (names_after names x) y
  names-rows names (named w) = refl
  names-rows names (group x) = refl
  names-rows names (bit b) = refl
  names-rows names (negated x) = refl
  names-rows names empty = refl
  names-rows names (reference w) = refl
  names-rows names (under c x) = refl

pub names-plain : {s : Side} (l : Level) (names : List (List ℕ)) {k : Level} (p : Phrase s k) → names_after names (fit l (natural p)) ≡ names_after names p
names-plain l names p = names-fit l names (natural p) ∙ names-natural names p

-- ---- trees

-- one member stands for itself
pub one : (s : Side) (l : Level) (t : Tree s) → join s l (t ∷ []) ≡ t
one condition l t = refl
one graph l t = refl

abbrev tree_natural : {s : Side} → List (List ℕ) → Natural s → Tree s
tree_natural names (as_row r p) = tree names p
tree_natural names (as_factor x) = tree names x

tree-fit : {s : Side} (l : Level) (names : List (List ℕ)) (n : Natural s) → tree names (fit l n) ≡ tree_natural names n
tree-fit factor names (as_factor x) = refl
tree-fit {s} factor names (as_row product p) = one s factor (join s (row sum) (tree names p ∷ [])) ∙ one s (row sum) (tree names p)
tree-fit {s} factor names (as_row sum p) = one s factor (tree names p)
tree-fit {s} (row product) names (as_factor x) = one s (row product) (tree names x)
tree-fit (row product) names (as_row product p) = refl
tree-fit {s} (row product) names (as_row sum p) = one s (row product) (join s factor (tree names p ∷ [])) ∙ one s factor (tree names p)
tree-fit {s} (row sum) names (as_factor x) = one s (row sum) (join s (row product) (tree names x ∷ [])) ∙ one s (row product) (tree names x)
tree-fit {s} (row sum) names (as_row product p) = one s (row sum) (tree names p)
tree-fit (row sum) names (as_row sum p) = refl

mutual
  tree-natural : {s : Side} {l : Level} (names : List (List ℕ)) (p : Phrase s l) → tree_natural names (natural p) ≡ tree names p
  tree-natural names (single {s} r x) = tree-natural names x ∙ sym (one s (row r) (tree names x))
  tree-natural names (joined {s} r x y) =
      ap₂ (λ t ts. join s (row r) (t ∷ ts)) (tree-fit (member r) names (natural x) ∙ tree-natural names x)
      (ap (λ n. members n (rows y)) (names-fit (member r) names (natural x) ∙ names-natural names x) ∙ members-rows (names_after names x) y)
  tree-natural names (named w) = refl
  tree-natural names (group {s} x) = tree-natural names x ∙ sym (one s factor (tree names x))
  tree-natural names (bit b) = refl
  tree-natural names (negated x) = ap cond.Not (tree-fit factor names (natural x) ∙ tree-natural names x)
  tree-natural names empty = refl
  tree-natural names (reference w) = refl
  tree-natural names (under c x) = ap₂ expr.When (tree-fit (row sum) [] (natural c) ∙ tree-natural [] c) (tree-fit factor names (natural x) ∙ tree-natural names x)

  members-rows : {s : Side} {l : Level} (names : List (List ℕ)) (p : Phrase s l) → members names (rows p) ≡ members names p
  members-rows names (single r x) = ap (λ t. t ∷ []) (tree-fit (member r) names (natural x) ∙ tree-natural names x)
  members-rows names (joined r x y) =
      ap₂ (λ t ts. t ∷ ts) (tree-fit (member r) names (natural x) ∙ tree-natural names x)
      (ap (λ n. members n (rows y)) (names-fit (member r) names (natural x) ∙ names-natural names x) ∙ members-rows (names_after names x) y)
  members-rows names (named w) = refl
  members-rows names (group x) = refl
  members-rows names (bit b) = refl
  members-rows names (negated x) = refl
  members-rows names empty = refl
  members-rows names (reference w) = refl
  members-rows names (under c x) = refl

pub tree-plain : {s : Side} (l : Level) (names : List (List ℕ)) {k : Level} (p : Phrase s k) → tree names (fit l (natural p)) ≡ tree names p
tree-plain l names p = tree-fit l names (natural p) ∙ tree-natural names p

-- ---- levels

deeper : {s : Side} {l : Level} (m n : ℕ) (p : Phrase s l) → m ≤ n → IsWithin m p → IsWithin n p
deeper m n (single r x) le h = deeper m n x le h
deeper m n (joined r x y) le h = (deeper m n x le h.0, deeper m n y le h.1)
deeper m n (named w) le h = tt
deeper m n (group x) le h = (omega (arith, le, h.0), deeper (m - 1) (n - 1) x (omega (arith, le)) h.1)
deeper m n (bit b) le h = tt
deeper m n (negated x) le h = (omega (arith, le, h.0), deeper (m - 1) (n - 1) x (omega (arith, le)) h.1)
deeper m n empty le h = tt
deeper m n (reference w) le h = tt
deeper m n (under c x) le h = (omega (arith, le, h.0), deeper (m - 1) (n - 1) c (omega (arith, le)) h.1, deeper (m - 1) (n - 1) x (omega (arith, le)) h.2)

-- in a looser place it is no deeper
looser : {s : Side} (r : Row) (n : ℕ) (x : Natural s) → IsWithin n (fit (member r) x) → IsWithin n (fit (row r) x)
looser product n (as_factor x) h = h
looser product n (as_row product p) h = deeper (n - 1) n p (omega arith) h.1
looser product n (as_row sum p) h = h
looser sum n (as_factor x) h = h
looser sum n (as_row product p) h = h
looser sum n (as_row sum p) h = deeper (n - 1) n p (omega arith) h.1

enclosed : {s : Side} (n : ℕ) (x : Natural s) → 1 ≤ n → IsWithin (n - 1) (fit (row sum) x) → IsWithin n (fit factor x)
enclosed n (as_factor x) le h = deeper (n - 1) n x (omega arith) h
enclosed n (as_row product p) le h = (le, h)
enclosed n (as_row sum p) le h = (le, h)

itself : {s : Side} (r : Row) (n : ℕ) (p : Phrase s (row r)) → IsWithin n p → IsWithin n (fit (row r) (as_row r p))
itself product n p h = h
itself sum n p h = h

mutual
  pub within-plain : {s : Side} {l : Level} (n : ℕ) (p : Phrase s l) → IsWithin n p → IsWithin n (fit l (natural p))
  within-plain n (single r x) h = looser r n (natural x) (within-plain n x h)
  within-plain n (joined r x y) h = itself r n (joined r (fit (member r) (natural x)) (rows y)) (within-plain n x h.0, within-rows n y h.1)
  within-plain n (named w) h = tt
  within-plain n (group x) h = enclosed n (natural x) h.0 (within-plain (n - 1) x h.1)
  within-plain n (bit b) h = tt
  within-plain n (negated x) h = (h.0, within-plain (n - 1) x h.1)
  within-plain n empty h = tt
  within-plain n (reference w) h = tt
  within-plain n (under c x) h = (h.0, within-plain (n - 1) c h.1, within-plain (n - 1) x h.2)

  within-rows : {s : Side} {l : Level} (n : ℕ) (p : Phrase s l) → IsWithin n p → IsWithin n (rows p)
  within-rows n (single r x) h = within-plain n x h
  within-rows n (joined r x y) h = (within-plain n x h.0, within-rows n y h.1)
  within-rows n (named w) h = h
  within-rows n (group x) h = h
  within-rows n (bit b) h = h
  within-rows n (negated x) h = h
  within-rows n empty h = h
  within-rows n (reference w) h = h
  within-rows n (under c x) h = h

-- ---- its names are names

abbrev pub HasNames : {s : Side} {l : Level} → Phrase s l → Type 0
HasNames (single r x) = HasNames x
HasNames (joined r x y) = HasNames x × HasNames y
HasNames (named w) = is_free_name w ≡ true
HasNames (group x) = HasNames x
HasNames (bit b) = Unit {0}
HasNames (negated x) = HasNames x
HasNames empty = Unit {0}
HasNames (reference w) = is_free_name w ≡ true
HasNames (under c x) = HasNames c × HasNames x

abbrev HasNames_natural : {s : Side} → Natural s → Type 0
HasNames_natural (as_row r p) = HasNames p
HasNames_natural (as_factor x) = HasNames x

has_names-fit : {s : Side} (l : Level) (n : Natural s) → HasNames_natural n → HasNames (fit l n)
has_names-fit factor (as_factor x) h = h
has_names-fit factor (as_row product p) h = h
has_names-fit factor (as_row sum p) h = h
has_names-fit (row product) (as_factor x) h = h
has_names-fit (row product) (as_row product p) h = h
has_names-fit (row product) (as_row sum p) h = h
has_names-fit (row sum) (as_factor x) h = h
has_names-fit (row sum) (as_row product p) h = h
has_names-fit (row sum) (as_row sum p) h = h

mutual
  has_names-natural : {s : Side} {l : Level} (p : Phrase s l) → HasNames p → HasNames_natural (natural p)
  has_names-natural (single r x) h = has_names-natural x h
  has_names-natural (joined r x y) h = (has_names-fit (member r) (natural x) (has_names-natural x h.0), has_names-rows y h.1)
  has_names-natural (named w) h = h
  has_names-natural (group x) h = has_names-natural x h
  has_names-natural (bit b) h = tt
  has_names-natural (negated x) h = has_names-fit factor (natural x) (has_names-natural x h)
  has_names-natural empty h = tt
  has_names-natural (reference w) h = h
  has_names-natural (under c x) h = (has_names-fit (row sum) (natural c) (has_names-natural c h.0), has_names-fit factor (natural x) (has_names-natural x h.1))

  has_names-rows : {s : Side} {l : Level} (p : Phrase s l) → HasNames p → HasNames (rows p)
  has_names-rows (single r x) h = has_names-fit (member r) (natural x) (has_names-natural x h)
  has_names-rows (joined r x y) h = (has_names-fit (member r) (natural x) (has_names-natural x h.0), has_names-rows y h.1)
  has_names-rows (named w) h = h
  has_names-rows (group x) h = h
  has_names-rows (bit b) h = h
  has_names-rows (negated x) h = h
  has_names-rows empty h = h
  has_names-rows (reference w) h = h
  has_names-rows (under c x) h = h

pub has_names-plain : {s : Side} (l : Level) {k : Level} (p : Phrase s k) → HasNames p → HasNames (fit l (natural p))
has_names-plain l p h = has_names-fit l (natural p) (has_names-natural p h)
