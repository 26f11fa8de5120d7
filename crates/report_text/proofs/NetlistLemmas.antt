-- An encoding has one netlist.
use Rattle.std.proofs.Common.{◌≡◌, ℕ, Bool, true, false, IsTrue, [], length, get_or, None, refl, sym, ap, ◌∙◌, arith}
use Rattle.std.specs.FinSet as set
use Rattle.std.specs.FinSet.{nat_cmp-IsAntisymmetric}
use Rattle.std.specs.Cmp.{nat_cmp_total}
use Rattle.std.proofs.lemmas.List.{ext_get_or}
use Rattle.cpog_defs.specs.Encodings.{Encoding}
use Rattle.handshake_eqs.specs.Netlists.{Netlist, waits_of, IsNetlistOf}

pub bool_same : (a b : Bool) → (a ≡ true → b ≡ true) → (b ≡ true → a ≡ true) → a ≡ b
bool_same true b f g = sym (f refl)
bool_same false true f g = g refl
bool_same false false f g = refl

same_wires : (e : Encoding) (n m : Netlist) → IsNetlistOf e n → IsNetlistOf e m → n.wires ≡ m.wires
same_wires e n m hn hm =
    let count : length n.conditions ≡ length m.conditions = ap length (hn.conditions ∙ sym hm.conditions) in
    ext_get_or [] n.wires m.wires (hn.netlist.wires ∙ count ∙ sym hm.netlist.wires) (λ u lt.
    ext_get_or None (get_or n.wires u []) (get_or m.wires u []) (hn.netlist.rows u (omega (arith, hn.netlist.wires))
    ∙ count ∙ sym (hm.netlist.rows u (omega (arith, hn.netlist.wires)))) (λ v lt'. hn.wires u v
    ∙ sym (hm.wires u v)))

-- what is waited for in one is waited for in the other
waited : (e : Encoding) (n m : Netlist) → IsNetlistOf e n → IsNetlistOf e m → (u v : ℕ) → IsTrue (set.contains (waits_of n v) u) → IsTrue (set.contains (waits_of m v) u)
waited e n m hn hm u v h = (hm.waits u v).1 (rw (hm.wires u v, ← hn.wires u v) ((hn.waits u v).0 h))

same_waits : (e : Encoding) (n m : Netlist) → IsNetlistOf e n → IsNetlistOf e m → n.waits ≡ m.waits
same_waits e n m hn hm =
    let count : length n.conditions ≡ length m.conditions = ap length (hn.conditions ∙ sym hm.conditions) in
    ext_get_or set.empty n.waits m.waits (hn.netlist.waits ∙ count ∙ sym hm.netlist.waits) (λ v lt.
    set.same_set nat_cmp_total nat_cmp-IsAntisymmetric (waits_of n v) (waits_of m v)
    (λ u. bool_same (set.contains (waits_of n v) u) (set.contains (waits_of m v) u) (waited e n m hn hm u v)
    (waited e m n hm hn u v)))

-- two netlists of one encoding are one
pub one_netlist : (e : Encoding) (n m : Netlist) → IsNetlistOf e n → IsNetlistOf e m → n ≡ m
one_netlist e n m hn hm =
    let gates = hn.gates ∙ sym hm.gates in
    let conditions = hn.conditions ∙ sym hm.conditions in
    let wires = same_wires e n m hn hm in
    let waits = same_waits e n m hn hm in
    λ i. record { gates = gates i; conditions = conditions i; wires = wires i; waits = waits i }
