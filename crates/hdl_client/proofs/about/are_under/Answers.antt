use Rattle.std.proofs.Common.{◌≡◌, [], ◌∷◌, refl, sym, true≢false, rules}
use Rattle.hdl_msg.specs.Views.{strings_of}
use Rattle.hdl_client.specs.About.{IsUnder}
use Rattle.hdl_client.proofs.Listed.{one_more, one_not, to_the_end}
use Rattle.hdl_client.proofs.about.are_under.Goals as goal

pub returns-then-not-branch : goal.returns-then-not-branch
returns-then-not-branch c =
    let cut : strings_of c.loop-handle.handles ≡ c.in-Some.handle.now ∷ strings_of c.next.new.self = search rules in
    let other : ¬ (IsUnder c.args.prefix.now c.in-Some.handle.now) = search rules in
    let none = one_not (IsUnder c.args.prefix.now) _ c.in-Some.handle.now _ _ cut other c.loop-handle.invariant in
    (λ t. absurd (true≢false (sym t)), λ all. absurd (none all))

pub loop-handle-preserved : goal.loop-handle-preserved
loop-handle-preserved c =
    let cut : strings_of c.loop-handle.handles ≡ c.in-Some.handle.now ∷ strings_of c.next.new.self = search rules in
    let own : IsUnder c.args.prefix.now c.in-Some.handle.now = search rules in
    one_more (IsUnder c.args.prefix.now) _ c.in-Some.handle.now _ _ cut own c.loop-handle.invariant

pub returns : goal.returns
returns c =
    let over : strings_of c.loop-handle.handles ≡ [] = search rules in
    let all = to_the_end (IsUnder c.args.prefix.now) _ _ over c.loop-handle.invariant in
    (λ _. all, λ _. refl)
