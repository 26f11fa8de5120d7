use Rattle.std.proofs.Common.{sym, ◌∙◌, ap, map, Some}
use Rattle.std.specs.List.{position_or_len}
use Rattle.std.specs.Str.{bytes_eq}
use Rattle.std.specs.String.{string_bytes}
use Rattle.cpog_base.specs.Names.{place_of, with_text}
use Rattle.cpog_base.proofs.NamesLemmas.{AreDistinct-map, keys-lt, texts-insert_key, place-with_text, position_or_len-map}
use Rattle.cpog_base.proofs.names.Names.insert.Goals as goal

pub invariant_of-self-2 : goal.invariant_of-self-2
invariant_of-self-2 c = (
  keys-lt c.self.inside.set.keys c.args.self.now _ c.in_ok-place.field-0-1 c.self.view_is c.requires c.in_ok-place.ensures.len,
  AreDistinct-map c.insert_full.new.self.keys c.in_ok-place.ensures.unique,
)

-- the names after the call
pub returns-clause-names : goal.returns-clause-names
returns-clause-names c =
    ap (λ ks. map string_bytes ks) c.in_ok-place.ensures.keys
    ∙ texts-insert_key c.self.inside.set.keys c.in_ok-text.text
    ∙ ap (λ names. with_text names (string_bytes c.in_ok-text.text)) c.self.view_is
    ∙ ap (λ name. with_text c.args.self.now name) c.in_ok-text.ensures.ok

pub returns-clause-place : goal.returns-clause-place
returns-clause-place c =
    ap (λ names. place_of names c.args.name.now) (returns-clause-names c)
    ∙ place-with_text c.args.self.now c.args.name.now
    ∙ ap Some (sym (c.in_ok-place.ensures.index
    ∙ sym (position_or_len-map string_bytes (bytes_eq (string_bytes c.in_ok-text.text)) c.self.inside.set.keys)
    ∙ ap (λ names. position_or_len (bytes_eq (string_bytes c.in_ok-text.text)) names) c.self.view_is
    ∙ ap (λ name. position_or_len (bytes_eq name) c.args.self.now) c.in_ok-text.ensures.ok))
