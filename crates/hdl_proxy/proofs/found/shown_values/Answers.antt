use Rattle.std.proofs.Common.{◌≡◌, ◌≢◌, ◌∷◌, rules, arith}
use Rattle.std.proofs.lemmas.Grind.{common_steps}
use Rattle.hdl_msg.specs.Views.{values_of}
use Rattle.hdl_value.specs.declared.fault.ValueFault.TheVariants.{Memory}
use Rattle.hdl_value.specs.Fault.{IsSound}
use Rattle.hdl_proxy.proofs.Unsound.{unsound, sound_more, sound_none}
use Rattle.hdl_proxy.proofs.found.shown_values.Goals as goal

pub returns-in-Err : goal.returns-in-Err
returns-in-Err c =
    let cut : values_of c.loop-cut.values ≡ c.in-Some.cut ∷ values_of c.next.new.self = search rules in
    let other : c.in-Err.field-0 ≢ Memory = search rules in
    sound_none _ c.in-Some.cut _ _ cut (unsound _ _ c.in-Err.ensures.fault other) c.loop-cut.invariant.sound

pub loop-cut-preserved-in-Continue-1 : goal.loop-cut-preserved-in-Continue-1
loop-cut-preserved-in-Continue-1 c =
    let cut : values_of c.loop-cut.values ≡ c.in-Some.cut ∷ values_of c.next.new.self = search rules in
    let sound : IsSound c.in-Some.cut = search rules in
    record { shown = grind (arith, common_steps); sound = sound_more _ c.in-Some.cut _ _ cut sound c.loop-cut.invariant.sound }

pub loop-cut-preserved : goal.loop-cut-preserved
loop-cut-preserved c =
    let cut : values_of c.loop-cut.values ≡ c.in-Some.cut ∷ values_of c.next.new.self = search rules in
    let sound : IsSound c.in-Some.cut = search rules in
    record { shown = grind (arith, common_steps); sound = sound_more _ c.in-Some.cut _ _ cut sound c.loop-cut.invariant.sound }
