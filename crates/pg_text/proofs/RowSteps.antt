-- A row is read member by member.
use Rattle.std.specs.Prelude.{◌≡◌, ℕ, List, [], ◌∷◌, ◌++◌, refl}
use Rattle.std.proofs.Common.{sym, ◌∙◌, ap, ap₂, subst, append_assoc}
use Rattle.pg_text.specs.declared.fault.LineFault.{LineFault}
use Rattle.pg_text.specs.declared.fault.LineFault.TheVariants as fault
use Rattle.pg_text.specs.Tokens.{sign, BeginsWith, BeginsWithAll}
use Rattle.pg_text.specs.Faults.{IsDue}
use Rattle.pg_text.specs.Grammar.{Side, condition, graph, Row, Level, row, member, joint, Phrase, single, joined, tokens, IsWithin, Tree, join, members, tree, names_after}
use Rattle.pg_text.specs.Reading.{Lacks, IsAtFront, Reads, ReadsMore, ReadsNone}
use Rattle.pg_text.proofs.PhraseLaws.{both_begin, parts_begin, after_token, same_phrase, member_stops, row_lacks, row_stops, stops_at_joint}

-- a row begins with its first member
row_begins : (s : Side) (r : Row) (room : ℕ) (left rest : List ℕ) (q : Phrase s (row r)) → IsAtFront room left q rest → ReadsNone s (member r) room left → ⊥
row_begins s r room left rest (single _ x) k none = none x rest (record { spelled = k.spelled; within = k.within; stops = member_stops s r rest k.stops })
row_begins s r room left rest (joined _ x y) k none =
    let p = parts_begin (tokens x) (sign (joint s r) ∷ tokens y) left rest k.spelled in
    none x p.0 (record { spelled = p.1; within = k.within.0; stops = stops_at_joint s r p.0 p.2.0 p.2.1 })

-- where the sign of a row follows its first member, the rest is a row
row_goes_on : (s : Side) (r : Row) (room : ℕ) (left after rest more : List ℕ) (first : Phrase s (member r)) (q : Phrase s (row r)) → IsAtFront room left first after
    → BeginsWith after (sign (joint s r)) rest → IsAtFront room left q more → (u : Phrase s (row r)) × IsAtFront room rest u more
row_goes_on s r room left after rest more first (single _ x) item goes_on k =
    absurd (subst (Lacks (sign (joint s r))) (sym (same_phrase first x left after more item.spelled k.spelled item.stops (member_stops s r more k.stops)).1) (row_lacks s r more k.stops) rest goes_on)
row_goes_on s r room left after rest more first (joined _ x u) item goes_on k =
    let p = parts_begin (tokens x) (sign (joint s r) ∷ tokens u) left more k.spelled in
    let same = (same_phrase first x left after p.0 item.spelled p.1 item.stops (stops_at_joint s r p.0 p.2.0 p.2.1)).1 in
    (u, record { spelled = after_token p.0 (sign (joint s r)) p.2.0 rest (tokens u) more p.2.1 (subst (λ x. BeginsWith x (sign (joint s r)) rest) same goes_on) p.2.2; within = k.within.1; stops = k.stops })

join_one : (s : Side) (l : Level) (t : Tree s) → join s l (t ∷ []) ≡ t
join_one condition l t = refl
join_one graph l t = refl

module _ (s : Side) (r : Row) (room : ℕ) where
  -- what a row of the rest makes of the whole: its members come after those that stand in front, of which the first stands before the whole
  abbrev pub FoundRow : Tree s → List (List ℕ) → List (List ℕ) → List ℕ → List ℕ → List (Tree s) → Type 0
  FoundRow first names0 names1 bytes left front =
      (p : Phrase s (row r)) (rest : List ℕ) → BeginsWithAll left (tokens p) rest → IsWithin room p
      → (whole : Phrase s (row r)) × BeginsWithAll bytes (tokens whole) rest × IsWithin room whole × (first ∷ members names0 whole ≡ front ++ members names1 p) × (names_after names0 whole ≡ names_after names1 p)

  -- where the whole has a row, the rest has one that ends there
  abbrev pub OnlyRow : List ℕ → List ℕ → Type 0
  OnlyRow bytes left = (p : Phrase s (row r)) (rest : List ℕ) → IsAtFront room bytes p rest → (q : Phrase s (row r)) × IsAtFront room left q rest

  pub only_at_first : (bytes : List ℕ) → OnlyRow bytes bytes
  only_at_first bytes p rest h = (p, h)

  pub no_row : (bytes left : List ℕ) → OnlyRow bytes left → (e : LineFault) → IsDue (ReadsNone s (member r) room left) e → IsDue (ReadsNone s (row r) room bytes) e
  no_row bytes left only fault.Memory h = tt
  no_row bytes left only fault.Bad h = λ p rest k. let q = only p rest k in row_begins s r room left rest q.0 q.1 h

  module _ (first : Tree s) (names0 names1 names2 : List (List ℕ)) (bytes left after : List ℕ) (front next : List (Tree s)) (e : Tree s)
      (found : FoundRow first names0 names1 bytes left front) (only : OnlyRow bytes left)
      (item : Reads s (member r) room names1 left e names2 after) (is : next ≡ front ++ e ∷ []) where
    pub found_more : (rest : List ℕ) → BeginsWith after (sign (joint s r)) rest → FoundRow first names0 names2 bytes rest next
    found_more rest goes_on p more h k =
        let w = found (joined r item.phrase p) more (both_begin (tokens item.phrase) (sign (joint s r) ∷ tokens p) left after more item.front.spelled (rest, goes_on, h)) (item.front.within, k) in (
          w.0,
          w.1,
          w.2,
          w.3 ∙ ap₂ (λ x n. front ++ x ∷ members n p) (sym item.means) (sym item.named) ∙ sym (append_assoc front (e ∷ []) (members names2 p)) ∙ ap (λ x. x ++ members names2 p) (sym is),
          w.4 ∙ ap (λ n. names_after n p) (sym item.named),
        )

    pub only_more : (rest : List ℕ) → BeginsWith after (sign (joint s r)) rest → OnlyRow bytes rest
    only_more rest goes_on p more h = let q = only p more h in row_goes_on s r room left after rest more item.phrase q.0 item.front goes_on q.1

    pub row_ends : (t : Tree s) → t ≡ join s (row r) next → Lacks (sign (joint s r)) after → ReadsMore s r room names0 first bytes t names2 after
    row_ends t joins stops =
        let w = found (single r item.phrase) after item.front.spelled item.front.within in
        record {
          others = w.0;
          front = record { spelled = w.1; within = w.2; stops = row_stops s r after item.front.stops stops };
          means = joins ∙ ap (join s (row r)) (is ∙ ap (λ x. front ++ x ∷ []) item.means ∙ sym w.3);
          named = item.named ∙ sym w.4;
        }

  module _ (names0 names1 : List (List ℕ)) (bytes after : List ℕ) (e : Tree s) (item : Reads s (member r) room names0 bytes e names1 after) where
    -- a member that no sign of the row follows is the row
    pub alone : Lacks (sign (joint s r)) after → Reads s (row r) room names0 bytes e names1 after
    alone stops = record {
      phrase = single r item.phrase;
      front = record { spelled = item.front.spelled; within = item.front.within; stops = row_stops s r after item.front.stops stops };
      means = item.means ∙ sym (join_one s (row r) (tree names0 item.phrase));
      named = item.named;
    }

    module _ (others : List ℕ) (goes_on : BeginsWith after (sign (joint s r)) others) where
      pub with_others : (t : Tree s) (names2 : List (List ℕ)) (rest : List ℕ) → ReadsMore s r room names1 e others t names2 rest → Reads s (row r) room names0 bytes t names2 rest
      with_others t names2 rest more = record {
        phrase = joined r item.phrase more.others;
        front = record {
          spelled = both_begin (tokens item.phrase) (sign (joint s r) ∷ tokens more.others) bytes after rest item.front.spelled (others, goes_on, more.front.spelled);
          within = (item.front.within, more.front.within);
          stops = more.front.stops;
        };
        means = more.means ∙ ap₂ (λ x n. join s (row r) (x ∷ members n more.others)) item.means item.named;
        named = more.named ∙ ap (λ n. names_after n more.others) item.named;
      }

      pub no_others : (f : LineFault) → IsDue (ReadsNone s (row r) room others) f → IsDue (ReadsNone s (row r) room bytes) f
      no_others fault.Memory h = tt
      no_others fault.Bad h = λ p rest k. let q = row_goes_on s r room bytes after others rest item.phrase p item.front goes_on k in h q.0 rest q.1
