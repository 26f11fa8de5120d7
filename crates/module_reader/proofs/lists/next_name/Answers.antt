use Rattle.std.proofs.Common.{◌≡◌, ℕ, true, false, take, drop, List, [], ◌∷◌, ◌++◌, sym, ap, ap₂, ◌∙◌}
use Rattle.std.specs.List.{before_first, position_or_len}
use Rattle.module_reader.specs.Lists.{is_comma, is_new_name, names_run}
use Rattle.module_reader.proofs.NameSteps.{place_within, word_stops, word_goes_on}
use Rattle.module_reader.proofs.lists.next_name.Goals as goal

pub split_at-requires : goal.split_at-requires
split_at-requires c = rw c.first_place-end.ensures (place_within c.in-Some.more.now)

pub returns-then-branch-clause-next : goal.returns-then-branch-clause-next
returns-then-branch-clause-next c = λ n.
    let more : List ℕ = c.in-Some.more.now in
    let word : c.split_at.result.0.now ≡ before_first is_comma more = c.split_at.ensures.front ∙ ap (λ (e : ℕ). take e more) c.first_place-end.ensures in
    let rest : c.split_at.result.1.now ≡ drop (position_or_len is_comma more) more = c.split_at.ensures.back ∙ ap (λ (e : ℕ). drop e more) c.first_place-end.ensures in
    let new : is_new_name c.args.names.now (before_first is_comma more) ≡ true = ap (is_new_name c.args.names.now) (sym word) ∙ sym c.in_ok-takes.ensures.new ∙ c.if-branch.true in
    word_goes_on c.args.names.now c.args.text.now more n (sym c.in-Some.ensures) new
    ∙ ap₂ (λ (w r : List ℕ). names_run n (c.args.names.now ++ w ∷ []) r) (sym word) (sym rest)
    ∙ ap (λ (names : List (List ℕ)). names_run n names c.split_at.result.1.now) (sym (c.in_ok-takes.ensures.taken c.if-branch.true))

pub returns-else-branch-clause-next : goal.returns-else-branch-clause-next
returns-else-branch-clause-next c = λ n.
    let more : List ℕ = c.in-Some.more.now in
    let word : c.split_at.result.0.now ≡ before_first is_comma more = c.split_at.ensures.front ∙ ap (λ (e : ℕ). take e more) c.first_place-end.ensures in
    let new : is_new_name c.args.names.now (before_first is_comma more) ≡ false = ap (is_new_name c.args.names.now) (sym word) ∙ sym c.in_ok-takes.ensures.new ∙ c.if-branch.false in
    word_stops c.args.names.now c.args.text.now more n (sym c.in-Some.ensures) new ∙ ap (λ (names : List (List ℕ)). pair names) (sym (c.in_ok-takes.ensures.left c.if-branch.false))
  where
    pair : List (List ℕ) → List (List ℕ) × List ℕ
    pair names = (names, c.args.text.now)
