-- How a journal grows.
use Rattle.std.proofs.Common.{◌≡◌, ◌+◌, List, [], ◌∷◌, ◌++◌, length, Bool, true, false, refl, sym, ap, ◌∙◌, subst, arith, append_assoc}
use Rattle.std.specs.Prelude.{◌==◌, if◌then◌else◌}
use Rattle.std.proofs.lemmas.Bool.{eq-eqb, eqb-true, ne_eqb}
use Rattle.std.proofs.lemmas.List.{append-nil, length-append}
use Rattle.hdl_rows.specs.Table.{Table}
use Rattle.hdl_rows.specs.Write.{Write, CanWrite, after_write}
use Rattle.hdl_journal.specs.Journal.{Put, after_put, after_puts, Begins, after_writes, AreAllowed, IsDecided}
use Rattle.hdl_journal.specs.Laws.{OnlyGrows, StandsBehind, MadeOnce, AllowedStays, OneIsEarlier, OneAtEachNumber, TablesFollow, put_behind}

begins_itself : (a : List Write) → Begins a a
begins_itself a = ([], sym (append-nil a))

begins_on : (a b c : List Write) → Begins a b → Begins b c → Begins a c
begins_on a b c ab bc = (ab.0 ++ bc.0, bc.1 ∙ ap (λ x. x ++ bc.0) ab.1 ∙ append_assoc a ab.0 bc.0)

chosen_grows : (b : Bool) (ws : List Write) (w : Write) → Begins ws (if b then ws ++ w ∷ [] else ws)
chosen_grows true ws w = (w ∷ [], refl)
chosen_grows false ws w = begins_itself ws

put_grows : (ws : List Write) (p : Put) → Begins ws (after_put ws p)
put_grows ws p = chosen_grows (length ws == p.behind) ws p.write

pub only_grows : OnlyGrows
only_grows ws [] = begins_itself ws
only_grows ws (p ∷ ps) = begins_on ws (after_put ws p) (after_puts (after_put ws p) ps) (put_grows ws p) (only_grows (after_put ws p) ps)

joined : (ws : List Write) (ps qs : List Put) → after_puts ws (ps ++ qs) ≡ after_puts (after_puts ws ps) qs
joined ws [] qs = refl
joined ws (p ∷ ps) qs = joined (after_put ws p) ps qs

pub one_is_earlier : OneIsEarlier
one_is_earlier ws ps qs = subst (λ x. Begins (after_puts ws ps) x) (sym (joined ws ps qs)) (only_grows (after_puts ws ps) qs)

-- a beginning that is as long is the whole
none_behind : (rest : List Write) → length rest ≡ 0 → rest ≡ []
none_behind [] e = refl
none_behind (w ∷ ws) e = absurd (omega (arith, e))

whole : (a b : List Write) → Begins a b → length b ≡ length a → b ≡ a
whole a b begins e =
    let long : length b ≡ length a + length begins.0 = ap length begins.1 ∙ length-append a begins.0 in
    begins.1 ∙ ap (λ r. a ++ r) (none_behind begins.0 (omega (arith, e, long))) ∙ append-nil a

-- two lists that begin one list, and are equally long
both_begin : (a b rest more : List Write) → a ++ rest ≡ b ++ more → length a ≡ length b → a ≡ b
both_begin [] [] rest more e long = refl
both_begin [] (v ∷ b) rest more e long = absurd (omega (arith, long))
both_begin (w ∷ a) [] rest more e long = absurd (omega (arith, long))
both_begin (w ∷ a) (v ∷ b) rest more e long = λ i. first (w ∷ a ++ rest) w (e i) ∷ both_begin a b rest more (ap behind_first e) (omega (arith, long)) i
  where
    first : List Write → Write → List Write → Write
    first whole default [] = default
    first whole default (x ∷ xs) = x

    behind_first : List Write → List Write
    behind_first [] = []
    behind_first (x ∷ xs) = xs

pub one_at_each_number : OneAtEachNumber
one_at_each_number ws a b ea eb long = both_begin a b ea.0 eb.0 (sym ea.1 ∙ eb.1) long

made : (ws : List Write) (p : Put) → length ws ≡ p.behind → after_put ws p ≡ ws ++ p.write ∷ []
made ws p e = ap (λ b. if b then ws ++ p.write ∷ [] else ws) (eq-eqb (length ws) p.behind e)

pub stands_behind : StandsBehind
stands_behind ws known before after w begins long =
    let p : Put = put_behind known w in
    let is : after_puts ws before ≡ known = whole known (after_puts ws before) begins long in
    let now : after_put (after_puts ws before) p ≡ known ++ w ∷ [] = made (after_puts ws before) p long ∙ ap (λ x. x ++ w ∷ []) is in
    subst (λ x. Begins (known ++ w ∷ []) x) (sym (joined ws before (p ∷ after)))
    (subst (λ x. Begins x (after_puts (after_put (after_puts ws before) p) after)) now (only_grows (after_put (after_puts ws before) p) after))

pub made_once : MadeOnce
made_once ws p since e =
    let ps = after_puts (after_put ws p) since in
    let grown = only_grows (after_put ws p) since in
    let long : length ps ≡ length (after_put ws p) + length grown.0 = ap length grown.1 ∙ length-append (after_put ws p) grown.0 in
    let one : length (after_put ws p) ≡ length ws + 1 = ap length (made ws p e) ∙ length-append ws (p.write ∷ []) in
    ap (λ b. if b then ps ++ p.write ∷ [] else ps) (ne_eqb (length ps) p.behind (λ same. omega (arith, e, long, one, same)))

pub tables_follow : TablesFollow
tables_follow t [] b = refl
tables_follow t (w ∷ a) b = tables_follow (after_write t w) a b

one_more : (t : Table) (ws : List Write) (w : Write) → AreAllowed t ws → CanWrite (after_writes t ws) w → AreAllowed t (ws ++ w ∷ [])
one_more t [] w all can = (can, tt)
one_more t (v ∷ ws) w all can = (all.0, one_more (after_write t v) ws w all.1 can)

chosen_allowed : (b : Bool) (t : Table) (ws : List Write) (w : Write) → AreAllowed t ws → (b ≡ true → CanWrite (after_writes t ws) w) → AreAllowed t (if b then ws ++ w ∷ [] else ws)
chosen_allowed true t ws w all can = one_more t ws w all (can refl)
chosen_allowed false t ws w all can = all

put_allowed : (t : Table) (ws : List Write) (p : Put) → AreAllowed t ws → IsDecided t ws p → AreAllowed t (after_put ws p)
put_allowed t ws p all it = chosen_allowed (length ws == p.behind) t ws p.write all (λ e.
    let is : ws ≡ it.known = whole it.known ws it.begins (eqb-true (length ws) p.behind e ∙ it.behind) in
    subst (λ x. CanWrite (after_writes t x) p.write) (sym is) it.allowed)

pub allowed_stays : AllowedStays
allowed_stays t ws [] all it = all
allowed_stays t ws (p ∷ ps) all it = allowed_stays t (after_put ws p) ps (put_allowed t ws p all it.0) it.1
