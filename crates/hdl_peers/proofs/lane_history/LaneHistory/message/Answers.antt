use Rattle.std.proofs.Common.{◌∙◌, ◌<◌, List, ap, sym, get_or, length, None, arith}
use Rattle.std.proofs.lemmas.Bool.{lt-ltb}
use Rattle.std.proofs.lemmas.List.Quantifiers.{position-Some}
use Rattle.hdl_peers.specs.declared.kept.Mark.{Mark}
use Rattle.hdl_peers.specs.Followed.{is_of}
use Rattle.hdl_peers.proofs.KeptLemmas.{find_found, find_missed, some_copied}
use Rattle.hdl_peers.proofs.lane_history.LaneHistory.message.Goals as goal

pub returns-in_default : goal.returns-in_default
returns-in_default c = sym (find_missed c.args.key c.args.self.now.partials.items (sym c.place.ensures ∙ c.in_default.is))

pub returns : goal.returns
returns c =
    let items = c.args.self.now.partials.items in
    let place = c.in-Some.place in
    let none : Mark = record { key = c.args.key; length = 0; operation = None } in
    let at = sym c.place.ensures ∙ c.in-Some.is in
    let first = position-Some (is_of c.args.key) items place none at in
    let long : place < length c.deref.result.now = omega (arith, first.0, ap length c.deref.ensures.0) in
    c.copied.ensures
    ∙ some_copied c.get.result none (get_or items place none) (c.get.ensures.lookup.0 ∙ lt-ltb place (length c.deref.result.now) long)
    (c.get.ensures.lookup.4 (omega arith) none ∙ ap (λ (t : List Mark). get_or t place none) c.deref.ensures.0)
    ∙ sym (find_found c.args.key items place none at)
