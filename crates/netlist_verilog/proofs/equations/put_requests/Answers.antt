use Rattle.std.proofs.Common.{◌∙◌, ◌∷◌, []}
use Rattle.netlist_verilog.specs.Equations.{request_equation}
use Rattle.netlist_verilog.proofs.WritingLemmas.{equations_more}
use Rattle.netlist_verilog.proofs.equations.put_requests.Goals as goal

pub requests-preserved : goal.requests-preserved
requests-preserved c = c.in_ok-put_request.ensures ∙ equations_more c.args.design.now (λ v. request_equation c.args.design.now.netlist v ∷ []) c.requests.v _ _ c.requests.invariant
