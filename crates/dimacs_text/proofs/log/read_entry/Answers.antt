use Rattle.std.proofs.Common.{arith, sym, ◌∙◌, [], map}
use Rattle.std.proofs.lemmas.List.{append-nil}
use Rattle.std.specs.Fmt.{decimal}
use Rattle.text_rows.specs.Words.{tokens}
use Rattle.dimacs_text.specs.Logs.{ended}
use Rattle.dimacs_text.proofs.EntryLemmas.{no_id, no_deletion, no_addition, same_first, ids_left, lits_behind}
use Rattle.dimacs_text.proofs.log.read_entry.Goals as goal

pub returns-then-id-eq0-clause-entry : goal.returns-then-id-eq0-clause-entry
returns-then-id-eq0-clause-entry c =
    let f = c.in-Some.ensures.words in
    no_id c.args.variables c.args.last (tokens c.args.line.now) (λ n t lt e some small. omega (arith, some, c.if-id-eq0.true, same_first c.in-Some.id n (tokens c.in-Some.rest.now) t (tokens c.args.line.now) f.0 lt f.1 e))

pub returns-then-id-clause-entry : goal.returns-then-id-clause-entry
returns-then-id-clause-entry c =
    let f = c.in-Some.ensures.words in
    no_id c.args.variables c.args.last (tokens c.args.line.now) (λ n t lt e some small. omega (arith, small, c.if-id.true, same_first c.in-Some.id n (tokens c.in-Some.rest.now) t (tokens c.args.line.now) f.0 lt f.1 e))

pub returns-in_default-2-clause-entry : goal.returns-in_default-2-clause-entry
returns-in_default-2-clause-entry c =
    let f = c.in-Some.ensures.words in
    let none = rw c.in_default-2.is at c.in_ok-end.ensures in
    no_deletion c.args.variables c.args.last c.in-Some.id (tokens c.args.line.now) (tokens c.in-Some.rest.now) (tokens c.in-Some-after_word.words.now) f.1 c.in-Some-after_word.ensures.words c.requires.small
    (λ ns h e. none ns [] h (e ∙ sym (append-nil (ended (map decimal ns)))))

pub returns-then-not-is_blank-clause-entry : goal.returns-then-not-is_blank-clause-entry
returns-then-not-is_blank-clause-entry c =
    let f = c.in-Some.ensures.words in
    let r = rw c.in-Some-2.is at c.in_ok-end.ensures in
    no_deletion c.args.variables c.args.last c.in-Some.id (tokens c.args.line.now) (tokens c.in-Some.rest.now) (tokens c.in-Some-after_word.words.now) f.1 c.in-Some-after_word.ensures.words c.requires.small
    (λ ns h e. ids_left c.read_ids.new.ids.items ns (tokens c.in-Some-after_word.words.now) (tokens c.in-Some-2.end.now) r.0 h r.1 c.if-not-is_blank.ensures e)

pub returns-then-id-last-clause-entry : goal.returns-then-id-last-clause-entry
returns-then-id-last-clause-entry c =
    let f = c.in-Some.ensures.words in
    no_addition c.args.variables c.args.last c.in-Some.id (tokens c.args.line.now) (tokens c.in-Some.rest.now) f.1 f.0 c.in_default-after_word.ensures.words
    (λ lits hints above hl hh e. omega (arith, above, c.if-id-last.true))

pub returns-in_default-4-clause-entry : goal.returns-in_default-4-clause-entry
returns-in_default-4-clause-entry c =
    let f = c.in-Some.ensures.words in
    let l = rw c.in-Some-3.is at c.in_ok-words.ensures.read in
    let none = rw c.in_default-4.is at c.in_ok-end-2.ensures in
    no_addition c.args.variables c.args.last c.in-Some.id (tokens c.args.line.now) (tokens c.in-Some.rest.now) f.1 f.0 c.in_default-after_word.ensures.words
    (λ lits hints above hl hh e. none hints [] hh (lits_behind c.args.variables c.requires.small l.0 lits (tokens c.in-Some.rest.now) (tokens c.in-Some-3.words.now) hints l.2 hl l.3 e ∙ sym (append-nil (ended (map decimal hints)))))

pub returns-then-not-is_blank-2-clause-entry : goal.returns-then-not-is_blank-2-clause-entry
returns-then-not-is_blank-2-clause-entry c =
    let f = c.in-Some.ensures.words in
    let l = rw c.in-Some-3.is at c.in_ok-words.ensures.read in
    let r = rw c.in-Some-4.is at c.in_ok-end-2.ensures in
    no_addition c.args.variables c.args.last c.in-Some.id (tokens c.args.line.now) (tokens c.in-Some.rest.now) f.1 f.0 c.in_default-after_word.ensures.words
    (λ lits hints above hl hh e. ids_left c.read_ids-2.new.ids.items hints (tokens c.in-Some-3.words.now) (tokens c.in-Some-4.end.now) r.0 hh r.1 c.if-not-is_blank-2.ensures
    (lits_behind c.args.variables c.requires.small l.0 lits (tokens c.in-Some.rest.now) (tokens c.in-Some-3.words.now) hints l.2 hl l.3 e))
