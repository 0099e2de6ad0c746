-- Whom to ask for the handles of a prefix.
use Rattle.std.specs.Prelude.{◌==◌, ◌++◌, ◌&&◌, ℕ, Bool, true, false, not, List, [], ◌∷◌, map, filter, take, Option, Some, None, if◌then◌else◌}
use Rattle.std.specs.List.{list_any}
use Rattle.std.specs.Str.{bytes_eq}
use Rattle.hdl_routes.specs.declared.route.Route.{Route}

-- the server was named with this prefix
abbrev pub has : List ℕ → Route → Bool
has prefix route = list_any (λ own. bytes_eq own prefix) route.prefixes.items

-- it was named without prefixes
abbrev pub is_empty : List (List ℕ) → Bool
is_empty [] = true
is_empty (prefix ∷ prefixes) = false

abbrev pub is_open : Route → Bool
is_open route = is_empty route.prefixes.items

-- a server was named with this prefix
abbrev pub is_named : List ℕ → List Route → Bool
is_named prefix routes = list_any (has prefix) routes

-- those are asked that were named with the prefix, or where none was those that were named without prefixes
abbrev pub is_asked : List ℕ → Bool → Route → Bool
is_asked prefix named route = if named then has prefix route else is_open route

-- the servers that are asked for it and that are no standby, and the standbys among them, in the order of the command line
abbrev pub servers_for : List ℕ → List Route → List ℕ
servers_for prefix routes = map (λ route. route.place) (filter (λ route. is_asked prefix (is_named prefix routes) route && not route.is_standby) routes)

abbrev pub standbys_for : List ℕ → List Route → List ℕ
standbys_for prefix routes = map (λ route. route.place) (filter (λ route. is_asked prefix (is_named prefix routes) route && route.is_standby) routes)

-- the place that is known to have the prefix comes before the others
abbrev pub is_known : Option ℕ → ℕ → Bool
is_known None place = false
is_known (Some known) place = known == place

abbrev pub known_first : Option ℕ → List ℕ → List ℕ
known_first known places = filter (is_known known) places ++ filter (λ place. not (is_known known place)) places

-- standbys are asked behind all others
abbrev pub servers_to_ask : Option ℕ → List ℕ → List Route → List ℕ
servers_to_ask known prefix routes = known_first known (servers_for prefix routes) ++ standbys_for prefix routes

-- a change goes to no standby: to the first alone of the servers that were named with the prefix, and where none was to those that were named without prefixes, in turn
abbrev pub servers_to_change : List ℕ → List Route → List ℕ
servers_to_change prefix routes = if is_named prefix routes then take 1 (servers_for prefix routes) else servers_for prefix routes
