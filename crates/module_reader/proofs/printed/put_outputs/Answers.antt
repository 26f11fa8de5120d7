use Rattle.module_reader.proofs.PrintLaws.{outputs_put}
use Rattle.module_reader.proofs.printed.put_outputs.Goals as goal

pub returns : goal.returns
returns c = outputs_put c.args.names.now c.len-first.result _ _ _ _ c.len-first.ensures.len c.separator.ensures c.in_ok-put_names.ensures c.in_ok-write.ensures.bytes
