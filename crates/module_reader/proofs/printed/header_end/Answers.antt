use Rattle.module_reader.proofs.PrintLaws.{header_end_put}
use Rattle.module_reader.proofs.printed.header_end.Goals as goal

pub returns : goal.returns
returns c = header_end_put c.args.names.now _ _ _ _ c.new-out.ensures.bytes c.in_ok-push_str.ensures.bytes c.in_ok-put_outputs.ensures c.in_ok-push_str-2.ensures.bytes
