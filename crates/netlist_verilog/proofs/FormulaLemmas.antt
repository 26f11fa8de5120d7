-- What formulas read, and comments name.
use Rattle.std.proofs.Common.{◌≡◌, ℕ, zero, suc, ◌<◌, Bool, true, false, cond, refl, arith, Option, None, Some}
use Rattle.cpog_defs.specs.declared.types.Ref.{Ref}
use Rattle.cpog_defs.specs.declared.types.Ref.TheVariants as references
use Rattle.cpog_defs.specs.Gates.{IsRefOver}
use Rattle.netlist_verilog.specs.Wires.{Wire, Signal}
use Rattle.netlist_verilog.specs.Formulas.{Formula, Bit, Read, Not, And, Xor, Or, ReadsOnly, NamesOnly}
use Rattle.netlist_verilog.specs.Equations.{gate_formula, ref_formula, and_each}

-- ---- formulas

pub function_reads : (P : Wire → Type 0) (b0 b1 b2 b3 : Bool) (p q : Wire) → P p → P q → ReadsOnly P (gate_formula b0 b1 b2 b3 p q)
function_reads P false false false false p q hp hq = tt
function_reads P false false false true p q hp hq = (hp, hq)
function_reads P false false true false p q hp hq = (hp, hq)
function_reads P false false true true p q hp hq = hp
function_reads P false true false false p q hp hq = (hp, hq)
function_reads P false true false true p q hp hq = hq
function_reads P false true true false p q hp hq = (hp, hq)
function_reads P false true true true p q hp hq = (hp, hq)
function_reads P true false false false p q hp hq = (hp, hq)
function_reads P true false false true p q hp hq = (hp, hq)
function_reads P true false true false p q hp hq = hq
function_reads P true false true true p q hp hq = (hp, hq)
function_reads P true true false false p q hp hq = hp
function_reads P true true false true p q hp hq = (hp, hq)
function_reads P true true true false p q hp hq = (hp, hq)
function_reads P true true true true p q hp hq = tt

pub ref_reads : (P : Wire → Type 0) (signals : ℕ) → ((k : ℕ) → k < signals → P (Signal k)) → (r : Ref) → IsRefOver signals r → ReadsOnly P (ref_formula r)
ref_reads P signals hs (references.Const b) h = tt
ref_reads P signals hs (references.Signal n false) h = hs n h
ref_reads P signals hs (references.Signal n true) h = hs n h

pub each_reads : (P : Wire → Type 0) (first : Formula) (passes : ℕ → Bool) (each : ℕ → Formula) (n : ℕ) →
    ReadsOnly P first → ((k : ℕ) → k < n → passes k ≡ true → ReadsOnly P (each k)) →
    ReadsOnly P (and_each first passes each n)
each_reads P first passes each zero h hs = h
each_reads P first passes each (suc n) h hs = chosen (passes n) refl (each_reads P first passes each n h (λ k lt. hs k (omega arith)))
  where
    chosen : (b : Bool) → passes n ≡ b → ReadsOnly P (and_each first passes each n) → ReadsOnly P (cond b (And (and_each first passes each n) (each n)) (and_each first passes each n))
    chosen true e s = (s, hs n (omega arith) e)
    chosen false e s = s

pub reads_more : (P Q : Wire → Type 0) → ((w : Wire) → P w → Q w) → (f : Formula) → ReadsOnly P f → ReadsOnly Q f
reads_more P Q h (Bit b) r = tt
reads_more P Q h (Read w) r = h w r
reads_more P Q h (Not f) r = reads_more P Q h f r
reads_more P Q h (And f g) r = (reads_more P Q h f r.0, reads_more P Q h g r.1)
reads_more P Q h (Xor f g) r = (reads_more P Q h f r.0, reads_more P Q h g r.1)
reads_more P Q h (Or f g) r = (reads_more P Q h f r.0, reads_more P Q h g r.1)

-- ---- comments

pub comment_names : (P : Wire → Type 0) (b : Bool) (p q : Wire) → P p → P q → NamesOnly P (cond b None (Some (p, q)))
comment_names P true p q hp hq = tt
comment_names P false p q hp hq = (hp, hq)

pub names_more : (P Q : Wire → Type 0) → ((w : Wire) → P w → Q w) → (c : Option (Wire × Wire)) → NamesOnly P c → NamesOnly Q c
names_more P Q h None r = tt
names_more P Q h (Some both) r = (h both.0 r.0, h both.1 r.1)
