use Rattle.std.proofs.Common.{◌≡◌, ◌-◌, true, false, map, length, take, drop, sym, ◌∙◌, ap, ap₂, subst, arith}
use Rattle.std.specs.Prelude.{option_and_then}
use Rattle.std.specs.String.{string_bytes}
use Rattle.command_words.specs.Words.{is_exact, joined, option_in, options_in}
use Rattle.command_words.proofs.WordLemmas.{same_first, one_first, two_first, options_joined, exact_joined}
use Rattle.command_words.proofs.words.+options_after.Goals as goal

pub returns-in_ok-both-in-len1-up : goal.returns-in_ok-both-in-len1-up
returns-in_ok-both-in-len1-up t c =
    let words = c.args.words.now in
    let word = c.word-item.result in
    let rest = take (length words - 1) (drop 1 words) in
    let split = one_first words word (omega (arith, c.in-len1-up.len_at_least)) c.word-item.is in
    let exact : is_exact (string_bytes word) ≡ true = subst (λ w. is_exact w ≡ true) c.as_str.ensures.value (sym c.if-eq.ensures) in
    subst (λ ws. c.options_after.result ≡ option_and_then (joined c.args.said) (options_in (map string_bytes ws))) (sym split)
    (exact_joined c.args.said c.in_ok-both-in-len1-up.both (string_bytes word) (map string_bytes rest) c.options_after.result exact
    c.in_ok-both-in-len1-up.ensures c.options_after.ensures)

pub returns-in_ok-both-in-len2-up : goal.returns-in_ok-both-in-len2-up
returns-in_ok-both-in-len2-up t c =
    let words = c.args.words.now in
    let name = c.name-item.result in
    let value = c.value-item.result in
    let rest = take (length words - 2) (drop 2 words) in
    let split = two_first words name value (omega (arith, c.in-len2-up.len_at_least)) c.name-item.is c.value-item.is in
    let same = ap string_bytes (same_first words c.word-item.result name (omega (arith, c.in-len1-up.len_at_least)) c.word-item.is c.name-item.is) in
    let other : is_exact (string_bytes name) ≡ false = subst (λ w. is_exact w ≡ false) (c.as_str.ensures.value ∙ same) (sym c.if-eq.ensures) in
    subst (λ ws. c.options_after-in-len2-up.result ≡ option_and_then (joined c.args.said) (options_in (map string_bytes ws))) (sym split)
    (options_joined c.args.said c.in_ok-one-in-len2-up.one c.in_ok-both-in-len2-up.both (string_bytes name) (string_bytes value) (map string_bytes rest) c.options_after-in-len2-up.result other
    (c.in_ok-one-in-len2-up.ensures ∙ ap₂ option_in c.as_str-in-len2-up.ensures.value c.as_str-in-len2-up-2.ensures.value) c.in_ok-both-in-len2-up.ensures c.options_after-in-len2-up.ensures)
