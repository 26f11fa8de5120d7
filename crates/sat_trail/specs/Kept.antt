-- How a trail is kept: by variable, by literal, and in order.
use Rattle.std.specs.Prelude.{◌≡◌, ◌≢◌, ℕ, ◌+◌, ◌-◌, ◌*◌, ◌<◌, ◌≤◌, ◌^◌, List, map, length, sum_by, None, slice_index_or}
use Rattle.clause_arena.specs.Clauses.{Lit, opposite, In}
use Rattle.sat_trail.specs.Trails.{Entry, lit_at}
use Rattle.clause_arena.specs.Lits.{code_of}
use Rattle.sat_trail.specs.declared.info.Info.{Info}
use Rattle.sat_trail.specs.declared.value.Value.{Value}
use Rattle.sat_trail.specs.declared.value.Value.TheVariants.{Open, True, False}

-- what is kept of a variable that isn't there
abbrev pub no_info : Info
no_info = record { level = 0; reason = None }

-- what is kept of a variable
abbrev pub info_of : List Info → ℕ → Info
info_of infos var = slice_index_or infos (var - 1) no_info

-- the entry of a true literal
abbrev pub entry_of : List Info → Lit → Entry
entry_of infos l = record { lit = l; level = (info_of infos l.var).level; reason = (info_of infos l.var).reason }

-- the entries of the true literals
abbrev pub entries_of : List Lit → List Info → List Entry
entries_of lits infos = map (entry_of infos) lits

-- what a literal is
abbrev pub value_at : List Value → Lit → Value
value_at values l = slice_index_or values (code_of l) Open

-- 1 for a place that is open
abbrev pub one_if_open : Value → ℕ
one_if_open Open = 1
one_if_open True = 0
one_if_open False = 0

-- the lists by variable and by literal agree with the list in order; the two places of variable 0 aren't open
pub record IsKept (lits : List Lit) (values : List Value) (infos : List Info) (starts : List ℕ) (given room_lits room_starts : ℕ) : Type 0 where
  pub same : length values ≡ 2 * length infos + 2
  pub few : length infos < 2 ^ 31
  pub count : sum_by one_if_open values + 2 * length lits ≡ 2 * length infos
  pub signs : (p : ℕ) → p < length lits → (0 < (lit_at lits p).var) × ((lit_at lits p).var ≤ length infos) × (value_at values (lit_at lits p) ≡ True) × (value_at values (opposite (lit_at lits p)) ≡ False)
  pub backed_true : (l : Lit) → 0 < l.var → l.var ≤ length infos → value_at values l ≡ True → In l lits
  pub backed_false : (l : Lit) → 0 < l.var → l.var ≤ length infos → value_at values l ≡ False → In (opposite l) lits
  pub distinct : (p q : ℕ) → p < q → q < length lits → (lit_at lits p).var ≢ (lit_at lits q).var
  pub below : (p : ℕ) → p < length lits → (info_of infos (lit_at lits p).var).level ≤ length starts
  pub cuts : (k : ℕ) → k < length starts → slice_index_or starts k 0 ≤ length lits
  pub cut_low : (k p : ℕ) → k < length starts → p < slice_index_or starts k 0 → (info_of infos (lit_at lits p).var).level ≤ k
  pub cut_high : (k p : ℕ) → k < length starts → slice_index_or starts k 0 ≤ p → p < length lits → k < (info_of infos (lit_at lits p).var).level
  pub levels : length starts ≤ length lits
  pub rising : (k : ℕ) → k < length starts → k ≤ slice_index_or starts k 0
  pub given_in : given ≤ length lits
  pub room_of_lits : length infos ≤ room_lits
  pub room_of_starts : length infos ≤ room_starts
