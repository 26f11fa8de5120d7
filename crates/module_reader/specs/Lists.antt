-- How lists in a line are read: item by item, as long as the next one stands there.
use Rattle.std.specs.Prelude.{ℕ, zero, suc, ◌+◌, ◌==◌, ◌&&◌, ◌||◌, not, Bool, true, false, List, [], ◌∷◌, ◌++◌, drop, Option, None, Some, codes, if◌then◌else◌}
use Rattle.std.specs.Fmt.{decimal}
use Rattle.std.specs.List.{position_or_len, before_first}
use Rattle.std.specs.FinSet as set
use Rattle.cpog_base.specs.Names.{has_text}
use Rattle.cpog_defs.specs.Orders.{Set}
use Rattle.line_text.specs.Words.{is_free_name}
use Rattle.line_rows.specs.Words.{behind}

-- to stop here, or to go on with what follows
abbrev pub next_or : {A : Type 0} → A → (List ℕ → A) → Option (List ℕ) → A
next_or stop go None = stop
next_or stop go (Some rest) = go rest

-- as many numbered items from i on as stand there, at most n: where it stops, and what is left
unfoldable pub run : (ℕ → List ℕ) → ℕ → ℕ → List ℕ → ℕ × List ℕ
run item zero i bytes = (i, bytes)
run item (suc n) i bytes = next_or (i, bytes) (λ rest. run item n (i + 1) rest) (behind (item i) bytes)

-- a comma
abbrev pub is_comma : ℕ → Bool
is_comma b = b == 44

-- whether the word is a name, and not yet there
abbrev pub is_new_name : List (List ℕ) → List ℕ → Bool
is_new_name done w = is_free_name w && not (has_text done w)

-- as many new names behind commas as stand there, at most n
unfoldable pub names_run : ℕ → List (List ℕ) → List ℕ → List (List ℕ) × List ℕ
names_run zero done bytes = (done, bytes)
names_run (suc n) done bytes = next_or (done, bytes) (λ more. if is_new_name done (before_first is_comma more) then names_run n (done ++ before_first is_comma more ∷ []) (drop (position_or_len is_comma more) more) else (done, bytes)) (behind (codes ", a_") bytes)

-- n steps, numbered from i on
abbrev pub steps : {S : Type 0} → (ℕ → S → S) → ℕ → ℕ → S → S
steps step zero i s = s
steps step (suc n) i s = steps step n (i + 1) (step i s)

-- a comma or a semicolon comes next
abbrev pub ends_item : List ℕ → Bool
ends_item [] = false
ends_item (b ∷ bytes) = is_comma b || (b == 59)

-- whether an item stands there, whole
abbrev pub mark : List ℕ → List ℕ → Bool × List ℕ
mark item bytes = next_or (false, bytes) (λ rest. if ends_item rest then (true, rest) else (false, bytes)) (behind item bytes)

-- the name of an arc wire, behind a comma
abbrev pub arc_item : ℕ → ℕ → List ℕ
arc_item u v = codes ", e" ++ (decimal u ++ (codes "_" ++ decimal v))

-- none leads from an operation to itself
abbrev pub arc_mark : ℕ → ℕ → List ℕ → Bool × List ℕ
arc_mark u v bytes = if u == v then (false, bytes) else mark (arc_item u v) bytes

-- what was read joins the list of those before it
abbrev pub with_mark : {A : Type 0} → List A → A × List ℕ → List A × List ℕ
with_mark done x = (done ++ x.0 ∷ [], x.1)

-- the arc wires from u to each of so many operations
abbrev pub arc_marks_from : ℕ → ℕ → List ℕ → List Bool × List ℕ
arc_marks_from count u bytes = steps (λ v s. with_mark s.0 (arc_mark u v s.1)) count 0 ([], bytes)

-- those of all
abbrev pub arc_marks : ℕ → List ℕ → List (List Bool) × List ℕ
arc_marks count bytes = steps (λ u s. with_mark s.0 (arc_marks_from count u s.1)) count 0 ([], bytes)

-- whether an operation is waited for, which it may be where its arc wire is declared
abbrev pub wait_mark : Bool → List ℕ → List ℕ → Bool × List ℕ
wait_mark declared item bytes = if declared then next_or (false, bytes) (λ rest. (true, rest)) (behind item bytes) else (false, bytes)

-- it then joins those before it
abbrev pub with_wait : ℕ → Set → Bool × List ℕ → Set × List ℕ
with_wait u waits x = (if x.0 then set.insert waits u else waits, x.1)
