use Rattle.std.proofs.Common.{◌≡◌, ◌+◌, [], ◌∷◌, ◌++◌, sym, ap, ◌∙◌, arith, get_or}
use Rattle.cpog_defs.specs.Orders.{each_below}
use Rattle.gate_template.specs.Families.{as_clauses, class_signal, some_signal}
use Rattle.cnf_build.proofs.ClauseLemmas.{behind, one_clause}
use Rattle.cnf_build.proofs.classes.push_class.Goals as goal
use Rattle.cnf_build.proofs.ItemLemmas.{item_is}

pub returns : goal.returns
returns c =
    let z = c.args.numbers.now in
    let column = get_or c.args.columns.now c.args.c [] in
    let is : column ≡ c.index-columns-c.result = item_is c.args.columns.now c.args.c c.index-columns-c.result (omega (arith, c.requires.one_each, c.requires.class)) c.index-columns-c.is in
    behind z (some_signal z c.args.c ∷ []) (each_below (class_signal z c.args.c column) (z.bits + z.gates)) c.args.clauses.now.clauses c.push.new.self.clauses c.push_class_signals.new.clauses.clauses
    (one_clause z (some_signal z c.args.c) c.args.clauses.now.clauses c.push.new.self.clauses c.deref.result.now (c.deref.ensures.value ∙ c.in_ok-some.ensures) c.in_ok-push.ensures.ok)
    (c.in_ok-push_class_signals.ensures ∙ ap (λ col. c.push.new.self.clauses ++ as_clauses z (each_below (class_signal z c.args.c col) (z.bits + z.gates))) (sym is))
