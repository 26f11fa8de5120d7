-- One pass that tells whether single blanks stand between the words of a line.
use Rattle.std.specs.Prelude.{ℕ, Bool, true, false, not, ◌==◌, List, [], ◌∷◌, if◌then◌else◌}

-- no tab, no blank behind another or at the start, and none at the end
abbrev pub is_tight : Bool → List ℕ → Bool
is_tight after [] = not after
is_tight after (b ∷ bs) = if b == 9 then false else if b == 32 then (if after then false else is_tight true bs) else is_tight false bs
