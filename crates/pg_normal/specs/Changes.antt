-- What one parameter alone changes among some valuations.
use Rattle.std.specs.Prelude.{◌≡◌, ◌≢◌, ℕ, ◌<◌, true}
use Rattle.std.specs.List.{AllByRecursion}
use Rattle.cpog_defs.specs.Codes.{bit}
use Rattle.pg_algebra.specs.Tables.{flip}
use Rattle.pg_normal.specs.Forms.{Form, vertex_table, arc_table}

-- the table differs where parameter k is turned, under one of these valuations
pub record Differs (table k among : ℕ) : Type 0 where
  pub valuation : ℕ
  pub below : valuation < 64
  pub chosen : bit among valuation ≡ true
  pub differs : bit table valuation ≢ bit table (flip valuation k)

-- it does under none
abbrev pub Keeps : ℕ → ℕ → ℕ → Type 0
Keeps table k among = (n : ℕ) → n < 64 → bit among n ≡ true → bit table n ≡ bit table (flip n k)

-- no vertex differs
abbrev pub KeepsVertices : Form → ℕ → ℕ → Type 0
KeepsVertices f k among = (v : ℕ) → Keeps (vertex_table f v) k among

-- no arc differs
abbrev pub KeepsArcs : Form → ℕ → ℕ → Type 0
KeepsArcs f k among = (u v : ℕ) → Keeps (arc_table f u v) k among

-- no vertex and no arc differs
abbrev pub KeepsGraph : Form → ℕ → ℕ → Type 0
KeepsGraph f k among = KeepsVertices f k among × KeepsArcs f k among

-- some vertex differs
pub record VertexDiffers (f : Form) (k among : ℕ) : Type 0 where
  pub vertex : ℕ
  pub differs : Differs (vertex_table f vertex) k among

-- some arc differs
pub record ArcDiffers (f : Form) (k among : ℕ) : Type 0 where
  pub first : ℕ
  pub second : ℕ
  pub differs : Differs (arc_table f first second) k among

-- each vertex is below the count
abbrev pub IsBelow : ℕ → Form → Type 0
IsBelow count f = AllByRecursion (λ e. e.0 < count) f.vertices
