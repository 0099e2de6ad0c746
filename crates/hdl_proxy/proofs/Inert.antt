-- Text in a page begins no markup and ends no attribute.
use Rattle.std.proofs.Common.{ℕ, List, [], ◌∷◌, eqb, All, arith}
use Rattle.std.specs.List.{AllByRecursion}
use Rattle.std.proofs.lemmas.Bool.{cond_both, eqb-false}
use Rattle.std.proofs.lemmas.List.Elements.{All-from_recursion, All-append, All-nil}
use Rattle.hdl_proxy.specs.Escape.{entities, entity, escaped, visible, IsInert}

entity_inert : (octet : ℕ) → AllByRecursion IsInert (entity octet)
entity_inert octet =
    cond_both (eqb octet 38) _ _ (AllByRecursion IsInert) (λ _. omega arith) (λ _.
    cond_both (eqb octet 60) _ _ (AllByRecursion IsInert) (λ _. omega arith) (λ less.
    cond_both (eqb octet 62) _ _ (AllByRecursion IsInert) (λ _. omega arith) (λ greater.
    cond_both (eqb octet 34) _ _ (AllByRecursion IsInert) (λ _. omega arith) (λ quote.
    cond_both (eqb octet 39) _ _ (AllByRecursion IsInert) (λ _. omega arith) (λ mark.
    ((eqb-false octet 60 less, eqb-false octet 62 greater, eqb-false octet 34 quote, eqb-false octet 39 mark), tt))))))

entities_inert : (octets : List ℕ) → All IsInert (entities octets)
entities_inert [] = All-nil IsInert
entities_inert (octet ∷ octets) = All-append IsInert (entity octet) (entities octets) (All-from_recursion IsInert (entity octet) (entity_inert octet)) (entities_inert octets)

pub escaped_inert : (text : List ℕ) → All IsInert (escaped text)
unfolding escaped
escaped_inert text = entities_inert (visible text)
