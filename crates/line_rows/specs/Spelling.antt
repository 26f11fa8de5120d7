-- What lines spell a value where the value doesn't fix them.
use Rattle.std.specs.Prelude.{◌≡◌, ◌⊎◌, ℕ, zero, suc, List, [], ◌∷◌, ◌++◌, Result, Ok, Err}
use Rattle.line_rows.specs.declared.fault.ReadError.{ReadError}
use Rattle.line_rows.specs.declared.fault.ReadError.TheVariants as errors
use Rattle.text_rows.specs.FirstBad as texts

-- the lines are those that the value fixes
abbrev pub IsOf : {A : Type 0} → (A → Type 0) → (A → List (List ℕ)) → A → List (List ℕ) → Type 0
IsOf Fits lines v ls = Fits v × (ls ≡ lines v)

-- lines of the one, and behind them lines of the other
abbrev pub ThenSpells : {A B : Type 0} → (A → List (List ℕ) → Type 0) → (A → B → List (List ℕ) → Type 0) → A × B → List (List ℕ) → Type 0
ThenSpells Spells More v ls = (front : List (List ℕ)) × (rest : List (List ℕ)) × Spells v.0 front × More v.0 v.1 rest × (ls ≡ front ++ rest)

-- either of two
abbrev pub EitherSpells : {A : Type 0} → (A → List (List ℕ) → Type 0) → (A → List (List ℕ) → Type 0) → A → List (List ℕ) → Type 0
EitherSpells First Second v ls = First v ls ⊎ Second v ls

-- so many values, each in the state that those before it leave
abbrev pub SpellsMany : {S A : Type 0} → (S → A → List (List ℕ) → Type 0) → (S → A → S) → ℕ → S → List A → List (List ℕ) → Type 0
SpellsMany Spells next zero s [] ls = ls ≡ []
SpellsMany Spells next zero s (v ∷ vs) ls = ⊥
SpellsMany Spells next (suc n) s [] ls = ⊥
SpellsMany Spells next (suc n) s (v ∷ vs) ls = ThenSpells (Spells s) (λ a. SpellsMany Spells next n (next s a)) (v, vs) ls

-- at most so many values, and then what ends them
abbrev pub SpellsUntil : {S A E : Type 0} → (S → A → List (List ℕ) → Type 0) → (S → A → S) → (E → List (List ℕ) → Type 0) → ℕ → S → List A × E → List (List ℕ) → Type 0
SpellsUntil Spells next Ends n s ([], e) ls = Ends e ls
SpellsUntil Spells next Ends zero s (v ∷ vs, e) ls = ⊥
SpellsUntil Spells next Ends (suc n) s (v ∷ vs, e) ls = ThenSpells (Spells s) (λ a. SpellsUntil Spells next Ends n (next s a)) (v, (vs, e)) ls

-- some value is spelled by the lines
abbrev pub IsSpelledText : {A : Type 0} → (A → List (List ℕ) → Type 0) → List (List ℕ) → Type 0
IsSpelledText {A = A} Spells lines = (v : A) × Spells v lines

-- a bad line that is answered is the first
abbrev pub BadIsFirstOf : {X : Type 0} → (List (List ℕ) → Type 0) → List (List ℕ) → Result X ReadError → Type 0
BadIsFirstOf IsText text (Ok x) = Unit {0}
BadIsFirstOf IsText text (Err errors.Memory) = Unit {0}
BadIsFirstOf IsText text (Err (errors.BadLine k)) = texts.IsFirstBad IsText text k
