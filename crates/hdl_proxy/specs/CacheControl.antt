-- How long others may keep an answer.
use Rattle.std.specs.Prelude.{◌≡◌, ◌≤◌, ◌==◌, ℕ, Bool, true, List, [], Option, Some, None, All, Contains, nat_lt, min, if◌then◌else◌}
use Rattle.hdl_value.specs.declared.value.Value.{Value}
use Rattle.hdl_proxy.specs.Words.{ttl_kind, ttl_seconds}
use Rattle.hdl_proxy.specs.declared.answer.CacheControl.{CacheControl}
use Rattle.hdl_proxy.specs.declared.answer.CacheControl.TheVariants.{Never, Seconds}

-- how many seconds others may keep what is made of a value: its TTL, a day at most; none where the TTL is a moment
abbrev pub fresh_for : Value → ℕ
fresh_for v = if ttl_kind v == 1 then 0 else min (ttl_seconds v) 86_400

-- it may be kept for less time than the one chosen so far, or none was chosen
abbrev pub comes_sooner : Value → Option Value → Bool
comes_sooner v None = true
comes_sooner v (Some chosen) = nat_lt (fresh_for v) (fresh_for chosen)

-- it is a value of these, and none of them may be kept for less time; or there is none
abbrev pub IsSoonest : List Value → Option Value → Type 0
IsSoonest values None = values ≡ []
IsSoonest values (Some soonest) = Contains values soonest × All (λ v. fresh_for soonest ≤ fresh_for v) values

abbrev pub cache_control_for : Option Value → CacheControl
cache_control_for None = Never
cache_control_for (Some soonest) = Seconds (fresh_for soonest)

-- the least of the times of these values, and not at all where there are none
abbrev pub IsCacheControlOf : List Value → CacheControl → Type 0
IsCacheControlOf values kept = (soonest : Option Value) × (IsSoonest values soonest × (kept ≡ cache_control_for soonest))

-- of what two things are made of: the lesser of their times, and not at all where one of them may not be
abbrev pub sooner : CacheControl → CacheControl → CacheControl
sooner Never other = Never
sooner (Seconds n) Never = Never
sooner (Seconds n) (Seconds m) = Seconds (min n m)
