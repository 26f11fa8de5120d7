-- Trails: the true literals in the order in which they came, and what their reasons say.
use Rattle.std.specs.Prelude.{◌≡◌, ◌≢◌, ℕ, ◌<◌, ◌≤◌, Bool, true, false, List, ◌++◌, map, length, Option, Some, None, slice_index_or}
use Rattle.clause_arena.specs.Clauses.{Lit, opposite, In}

-- a true literal, its level, and the place of the clause that made it true
pub record Entry : Type 0 where
  pub lit : Lit
  pub level : ℕ
  pub reason : Option ℕ

-- the entries in the order in which they came, the present level, how many were given out, and the number of variables
pub record TrailState : Type 0 where
  pub entries : List Entry
  pub level : ℕ
  pub given : ℕ
  pub variables : ℕ

-- what stands at a place past the end
abbrev pub no_entry : Entry
no_entry = record { lit = record { var = 0; negated = false }; level = 0; reason = None }

-- a literal past the end
abbrev pub no_lit : Lit
no_lit = record { var = 0; negated = false }

-- the literal at a place of a clause or of a list of literals
abbrev pub lit_at : List Lit → ℕ → Lit
lit_at lits p = slice_index_or lits p no_lit

-- the literal of an entry
abbrev pub lit_of_entry : Entry → Lit
lit_of_entry e = e.lit

-- the true literals
abbrev pub true_lits : List Entry → List Lit
true_lits entries = map lit_of_entry entries

-- the entry at a place
abbrev pub entry_at : List Entry → ℕ → Entry
entry_at entries p = slice_index_or entries p no_entry

-- the literal stands at this place
abbrev pub IsAt : List Entry → ℕ → Lit → Type 0
IsAt entries q l = (q < length entries) × ((entry_at entries q).lit ≡ l)

-- the literal is true at a level that isn't above j
abbrev pub IsTrueBy : List Entry → ℕ → Lit → Type 0
IsTrueBy entries j l = (q : ℕ) × IsAt entries q l × ((entry_at entries q).level ≤ j)

-- neither the literal nor its complement is true
abbrev pub IsUnassigned : List Entry → Lit → Type 0
IsUnassigned entries l = (In l (true_lits entries) → ⊥) × (In (opposite l) (true_lits entries) → ⊥)

-- this is the literal's value
abbrev pub IsValue : List Entry → Lit → Option Bool → Type 0
IsValue entries l None = IsUnassigned entries l
IsValue entries l (Some true) = In l (true_lits entries)
IsValue entries l (Some false) = In (opposite l) (true_lits entries)

-- the variable has a value
abbrev pub IsAssigned : List Entry → ℕ → Type 0
IsAssigned entries var = (q : ℕ) × (q < length entries) × ((entry_at entries q).lit.var ≡ var)

-- no variable stands twice, each is one of the trail's, no level is above the present one, and none that isn't there was given out
pub record IsTrail (t : TrailState) : Type 0 where
  pub distinct : (p q : ℕ) → p < q → q < length t.entries → (entry_at t.entries p).lit.var ≢ (entry_at t.entries q).lit.var
  pub within : (p : ℕ) → p < length t.entries → (0 < (entry_at t.entries p).lit.var) × ((entry_at t.entries p).lit.var ≤ t.variables)
  pub below : (p : ℕ) → p < length t.entries → (entry_at t.entries p).level ≤ t.level
  pub given_in : t.given ≤ length t.entries
  pub few : length t.entries ≤ t.variables

-- exactly the entries of levels above this one are gone
pub record IsCutTo (old new : TrailState) (level : ℕ) : Type 0 where
  pub rest : List Entry
  pub split : old.entries ≡ new.entries ++ rest
  pub low : (p : ℕ) → p < length new.entries → (entry_at new.entries p).level ≤ level
  pub high : (p : ℕ) → p < length rest → level < (entry_at rest p).level
  pub level_is : new.level ≡ level
  pub given_first : new.given ≤ old.given
  pub given_is : (old.given ≤ length new.entries → new.given ≡ old.given) × (length new.entries ≤ old.given → new.given ≡ length new.entries)
  pub variables : new.variables ≡ old.variables
