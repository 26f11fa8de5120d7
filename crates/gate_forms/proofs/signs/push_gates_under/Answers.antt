use Rattle.std.proofs.Common.{◌≡◌, ℕ, ◌+◌, ◌<◌, List, [], ◌∷◌, ◌++◌, length, get_or, refl, sym, ap, ◌∙◌, subst, arith}
use Rattle.cpog_defs.specs.declared.types.Gate.{Gate}
use Rattle.cpog_defs.specs.Gates.{GateList, AreGatesFrom, signal_count}
use Rattle.gate_core.proofs.GateLemmas.{gate_reads}
use Rattle.gate_forms.specs.Forms.{new_flag}
use Rattle.gate_forms.proofs.FormLemmas.{new_table-lt}
use Rattle.gate_forms.proofs.MoveLemmas.{next_gates, next_flags, flags_so_far, gates_so_far}
use Rattle.gate_forms.proofs.signs.push_gates_under.Goals as goal

-- the gate at hand reads earlier signals
reads : (gates : GateList) (all : List Gate) (g : ℕ) → all ≡ gates.gates → AreGatesFrom gates.inputs gates.gates → g < length all → let gate = get_or all g (record { j = 0; k = 0; table = 0 }) in (gate.j < gate.k) × (gate.k < gates.inputs + g)
reads gates all g e ok l = gate_reads gates.inputs all g (record { j = 0; k = 0; table = 0 }) (subst (AreGatesFrom gates.inputs) (sym e) ok) l

pub flag_of-flag-requires-clause-lower : goal.flag_of-flag-requires-clause-lower
flag_of-flag-requires-clause-lower c = (reads c.args.gates.now c.gates-all.result.now c.loop-g.g c.gates-all.ensures.gates c.gates-all.ensures.earlier (omega arith)).0

pub flag_of-flag-requires-clause-earlier : goal.flag_of-flag-requires-clause-earlier
flag_of-flag-requires-clause-earlier c =
    omega (
      arith,
      (reads c.args.gates.now c.gates-all.result.now c.loop-g.g c.gates-all.ensures.gates c.gates-all.ensures.earlier (omega arith)).1,
      ap length c.deref.ensures.value,
      flags_so_far c.args.form c.args.flags.now.items c.loop-g.flags.items c.args.gates.now.gates c.args.gates.now.inputs c.loop-g.g c.requires.one_each (omega (arith, ap length c.gates-all.ensures.gates)) c.loop-g.invariant.flags,
    )

pub gate_under-requires-clause-lower : goal.gate_under-requires-clause-lower
gate_under-requires-clause-lower c = (reads c.args.gates.now c.gates-all.result.now c.loop-g.g c.gates-all.ensures.gates c.gates-all.ensures.earlier (omega arith)).0

pub gate_under-requires-clause-earlier : goal.gate_under-requires-clause-earlier
gate_under-requires-clause-earlier c =
    omega (
      arith,
      (reads c.args.gates.now c.gates-all.result.now c.loop-g.g c.gates-all.ensures.gates c.gates-all.ensures.earlier (omega arith)).1,
      ap length c.deref-in-loop-g.ensures.value,
      flags_so_far c.args.form c.args.flags.now.items c.loop-g.flags.items c.args.gates.now.gates c.args.gates.now.inputs c.loop-g.g c.requires.one_each (omega (arith, ap length c.gates-all.ensures.gates)) c.loop-g.invariant.flags,
    )

pub push-requires-clause-lower : goal.push-requires-clause-lower
push-requires-clause-lower c = omega (arith, ap (λ x. x.j) c.gate_under.ensures, ap (λ x. x.k) c.gate_under.ensures, (reads c.args.gates.now c.gates-all.result.now c.loop-g.g c.gates-all.ensures.gates c.gates-all.ensures.earlier (omega arith)).0)

pub push-requires-clause-earlier : goal.push-requires-clause-earlier
push-requires-clause-earlier c =
    omega (
      arith,
      ap (λ x. x.k) c.gate_under.ensures,
      (reads c.args.gates.now c.gates-all.result.now c.loop-g.g c.gates-all.ensures.gates c.gates-all.ensures.earlier (omega arith)).1,
      ap signal_count c.loop-g.invariant.list,
      gates_so_far c.args.form c.args.flags.now.items c.args.gates.now.gates c.loop-g.g (omega (arith, ap length c.gates-all.ensures.gates)),
    )

pub push-requires-clause-table : goal.push-requires-clause-table
push-requires-clause-table c = omega (arith, ap (λ x. x.table) c.gate_under.ensures, new_table-lt c.args.form c.deref-in-loop-g.result.now (get_or c.gates-all.result.now c.loop-g.g (record { j = 0; k = 0; table = 0 })))

pub push-requires-clause-room : goal.push-requires-clause-room
push-requires-clause-room c =
    omega (arith, ap signal_count c.loop-g.invariant.list, c.gates-all.ensures.fit, gates_so_far c.args.form c.args.flags.now.items c.args.gates.now.gates c.loop-g.g (omega (arith, ap length c.gates-all.ensures.gates)), ap length c.gates-all.ensures.gates)

pub loop-g-preserved : goal.loop-g-preserved
loop-g-preserved c =
    let gates = c.args.gates.now in
    let d : Gate = record { j = 0; k = 0; table = 0 } in
    let gate = get_or c.gates-all.result.now c.loop-g.g d in
    let is : gate ≡ get_or gates.gates c.loop-g.g d = ap (λ l. get_or l c.loop-g.g d) c.gates-all.ensures.gates in
    let lt : c.loop-g.g < length gates.gates = omega (arith, ap length c.gates-all.ensures.gates) in
    let make : List Gate → GateList = λ l. record { inputs = gates.inputs; gates = l } in
    record {
      list = c.in_ok-push.ensures.gates ∙ ap (λ (l : GateList). let made : GateList = record l { gates = l.gates ++ c.gate_under.result ∷ [] } in made) c.loop-g.invariant.list
          ∙ ap make (next_gates c.args.form c.args.flags.now.items gates.gates c.loop-g.g d gate lt is c.deref-in-loop-g.result.now (c.deref-in-loop-g.ensures.value ∙ c.loop-g.invariant.flags) c.gate_under.result c.gate_under.ensures _ refl);
      flags = c.in_ok-push-2.ensures.items
          ∙ next_flags c.args.form c.args.flags.now.items gates.gates c.loop-g.g d gate lt is c.loop-g.flags.items c.loop-g.invariant.flags c.flag_of-flag.result (c.flag_of-flag.ensures ∙ ap (λ l. new_flag c.args.form l gate) c.deref.ensures.value);
    }
