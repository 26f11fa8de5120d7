-- Columns that ask for both bits.
use Rattle.std.specs.Prelude.{◌≡◌, ℕ, IsTrue, List, length, min}
use Rattle.std.specs.List.{list_any, count_by}
use Rattle.cpog_base.specs.Column.{is_one, is_zero}
use Rattle.cpog_defs.specs.declared.types.Bit3.{Bit3}

-- a column with so many entries, among them one that is 1 and one that is 0
pub record IsOpenColumn (n : ℕ) (column : List Bit3) : Type 0 where
  pub entries : length column ≡ n
  pub some_one : IsTrue (list_any is_one column)
  pub some_zero : IsTrue (list_any is_zero column)

-- how many scenarios are in the smaller set of a column: those where it asks for a 1, or those where it asks for a 0
abbrev pub smaller_set : List Bit3 → ℕ
smaller_set column = min (count_by is_one column) (count_by is_zero column)
