-- A request that is refused for a reason.
use Rattle.std.specs.Prelude.{ℕ, List, Result, Ok, Err, IfOk}
use Rattle.hdl_proxy.specs.Begin.{AsksFor, IsAnswered, IsReason, RefusesRequest}
use Rattle.hdl_proxy.specs.declared.proxy.Next.{Next}
use Rattle.hdl_proxy.specs.declared.proxy.Next.TheVariants.{Answer, Ask}
use Rattle.hdl_proxy.specs.declared.question.AnswerFormat.{AnswerFormat}

pub refused_for : {E : Type 0} (form : AnswerFormat) (name sent : List ℕ) (pairs : List (List ℕ × List ℕ)) (why : List ℕ) (result : Result Next E) → IsReason name form pairs why → IfOk result (IsAnswered (RefusesRequest form name sent why)) → IfOk result (AsksFor sent name form pairs)
refused_for form name sent pairs why (Ok (Answer answer)) reason h = (why, (reason, h))
refused_for form name sent pairs why (Ok (Ask question)) reason h = absurd h
refused_for form name sent pairs why (Err e) reason h = tt
