use Rattle.std.proofs.Common.{◌≡◌, List, ap, ◌∙◌, rules, map, take, Bor, ℕ}
use Rattle.std.specs.Prelude.{reverse, filter}
use Rattle.hdl_history.specs.Lines.{escaped}
use Rattle.hdl_history.specs.Last.{last_lines, lines, names}
use Rattle.hdl_history.proofs.Lists.{map-first}
use Rattle.hdl_history.proofs.find.last_lines.Goals as goal

pub returns : goal.returns
unfolding last_lines
returns c =
    let found : map (λ (line : Bor (List ℕ)). line.now) c.in_ok-found.found.items ≡ filter (names (escaped c.args.handle.now)) (lines c.args.octets.now) = search rules in
    rw (c.truncate.ensures.items, c.reverse.ensures.items) (map-first _ c.args.count c.in_ok-found.found.items ∙ ap (λ l. take c.args.count (reverse l)) found)
