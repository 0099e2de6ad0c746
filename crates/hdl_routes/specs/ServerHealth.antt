-- When a server is left out.
use Rattle.std.specs.Prelude.{◌<◌, ◌+◌, ◌-◌, ◌^◌, ℕ, min}
use Rattle.hdl_routes.specs.declared.server_health.ServerHealth.{ServerHealth}
use Rattle.hdl_routes.specs.declared.server_health.ServerHealth.TheVariants.{Fit, Out, Tried}

-- so much later, or the last moment that there is
abbrev pub later : ℕ → ℕ → ℕ
later now time = min (now + time) (2 ^ 64 - 1)

-- it failed, and the moment isn't there yet until which nobody asks it, or one question does
abbrev pub IsLeftOut : ServerHealth → ℕ → Type 0
IsLeftOut Fit now = ⊥
IsLeftOut (Out until) now = now < until
IsLeftOut (Tried until) now = now < until

-- behind a question that was admitted: one that failed is tried by it alone until that is over
abbrev pub after_admission : ℕ → ServerHealth → ServerHealth
after_admission over Fit = Fit
after_admission over (Out until) = Tried over
after_admission over (Tried until) = Tried over
