use Rattle.std.proofs.Common.{map, sym, subst}
use Rattle.std.specs.String.{string_bytes}
use Rattle.cpog_app.specs.Allowed.{Input, Outlet, IsAllowed}
use Rattle.cpog_app.proofs.EndingLemmas.{ends_printed, no_write_fault, read_fault_is}
use Rattle.cpog_app.proofs.run.run.Goals as goal

pub returns-in-Ok-write_all-clause-ends : goal.returns-in-Ok-write_all-clause-ends
returns-in-Ok-write_all-clause-ends g c =
    let input : Input = record {
      left = g.S.Source.left c.args.source.now;
      left_after = g.S.Source.left c.make_answer.new.source;
      faults = g.S.Source.faults c.args.source.now;
      faults_after = g.S.Source.faults c.make_answer.new.source;
      steady = g.S.Source.steady c.args.source.now;
    } in
    let outlet : Outlet = record {
      taken = g.K.Sink.taken c.args.sink.now;
      taken_after = g.K.Sink.taken c.write_all.new.sink;
      faults = g.K.Sink.faults c.args.sink.now;
      faults_after = g.K.Sink.faults c.write_all.new.sink;
      room = g.K.Sink.room c.args.sink.now;
    } in
    ends_printed (map string_bytes c.args.words.now) input outlet c.in-Ok.answer.status c.as_slice.result.now
    (subst (λ output. IsAllowed (map string_bytes c.args.words.now) input c.in-Ok.answer.status output) (sym c.as_slice.ensures.value) c.in-Ok.ensures.allowed)
    c.in-Ok-write_all.ensures.ok c.write_all.ensures.quiet

pub returns-in-Ok-write_all-clause-read_fault : goal.returns-in-Ok-write_all-clause-read_fault
returns-in-Ok-write_all-clause-read_fault g c = λ e. (read_fault_is (map string_bytes c.args.words.now) _ c.in-Ok.answer.status c.in-Ok.answer.output.items c.in-Ok.ensures.allowed e).rose

pub returns-in-Ok-write_all-clause-write_fault : goal.returns-in-Ok-write_all-clause-write_fault
returns-in-Ok-write_all-clause-write_fault g c = λ e. absurd (no_write_fault (map string_bytes c.args.words.now) _ c.in-Ok.answer.status c.in-Ok.answer.output.items c.in-Ok.ensures.allowed e)

pub returns-in-Ok-write_all-clause-steady : goal.returns-in-Ok-write_all-clause-steady
returns-in-Ok-write_all-clause-steady g c = λ steady e. (read_fault_is (map string_bytes c.args.words.now) _ c.in-Ok.answer.status c.in-Ok.answer.output.items c.in-Ok.ensures.allowed e).unsteady steady
