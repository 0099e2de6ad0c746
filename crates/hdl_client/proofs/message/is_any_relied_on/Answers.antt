use Rattle.std.proofs.Common.{◌≡◌, [], ◌∷◌, refl, true≢false, rules}
use Rattle.hdl_msg.specs.Views.{values_of}
use Rattle.hdl_client.specs.RequestMessage.{IsPlain}
use Rattle.hdl_client.proofs.Listed.{one_more, one_not, to_the_end}
use Rattle.hdl_client.proofs.message.is_any_relied_on.Goals as goal

pub returns-then-is_relied_on : goal.returns-then-is_relied_on
returns-then-is_relied_on c =
    let cut : values_of c.loop-value.values ≡ c.in-Some.value ∷ values_of c.next.new.self = search rules in
    let other : ¬ (IsPlain c.in-Some.value) = search rules in
    let none = one_not IsPlain _ c.in-Some.value _ _ cut other c.loop-value.invariant in
    (λ t. absurd (true≢false t), λ all. absurd (none all))

pub loop-value-preserved : goal.loop-value-preserved
loop-value-preserved c =
    let cut : values_of c.loop-value.values ≡ c.in-Some.value ∷ values_of c.next.new.self = search rules in
    let own : IsPlain c.in-Some.value = search rules in
    one_more IsPlain _ c.in-Some.value _ _ cut own c.loop-value.invariant

pub returns : goal.returns
returns c =
    let over : values_of c.loop-value.values ≡ [] = search rules in
    let all = to_the_end IsPlain _ _ over c.loop-value.invariant in
    (λ _. all, λ _. refl)
