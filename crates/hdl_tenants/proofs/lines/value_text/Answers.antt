use Rattle.std.proofs.Common.{◌≢◌, ℕ, List, [], subst, arith, rules}
use Rattle.hdl_value.specs.Fault.{Begins}
use Rattle.hdl_value.specs.declared.fault.ValueFault.TheVariants.{Memory}
use Rattle.hdl_tenants.proofs.Texts.{no_fault_of, whole_count, ok_is}
use Rattle.hdl_tenants.proofs.lines.value_text.Goals as goal

pub returns-then-count-len-clause-fault : goal.returns-then-count-len-clause-fault
returns-then-count-len-clause-fault c = λ v t.
    let same = ok_is _ t.octets c.in-Ok.octets.items t.decoded c.in-Ok.ensures.ok in
    let alone : Begins c.in-Ok.octets.items v [] = subst (λ (s : List ℕ). Begins s v []) same t.spelt in
    let front = rw c.deref.ensures.value at c.in-Ok-read_value.ensures.begins in
    let all = whole_count c.in-Ok.octets.items v c.in-Ok-read_value.value c.in-Ok-read_value.count c.in-Ok-read_value.ensures.count alone front in
    omega (arith, all, c.if-count-len.true, c.len.ensures)

pub returns-clause-fault : goal.returns-clause-fault
returns-clause-fault c = λ v t.
    let same = ok_is _ t.octets c.in-Ok.octets.items t.decoded c.in-Ok.ensures.ok in
    let alone : Begins c.in-Ok.octets.items v [] = subst (λ (s : List ℕ). Begins s v []) same t.spelt in
    let fault = rw c.deref.ensures.value at c.in-Err-read_value.ensures.fault in
    let other : c.in-Err-read_value.fault ≢ Memory = search rules in
    no_fault_of c.in-Ok.octets.items v c.in-Err-read_value.fault alone t.sound other fault
