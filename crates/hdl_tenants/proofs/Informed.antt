-- The site information of a publisher, as it is found and as it is listed.
use Rattle.std.proofs.Common.{◌≡◌, ◌∷◌, [], List, ℕ, ◌==◌, Bool, true, false, length, map, Contains, Option, None, Some, cond, MatchOption, IfSome, is_some, All, Bor, ◌≤◌, arith, sym, ap, ◌∙◌, true≢false, refl, eqb-true, inl, inr}
use Rattle.std.proofs.lemmas.Bool.Decides.{Decides-eqb}
use Rattle.std.proofs.lemmas.List.{get_or-map, length-map}
use Rattle.std.specs.Prelude.{find}
use Rattle.std.specs.Option.{option_map}
use Rattle.std.proofs.lemmas.List.Elements.{All-contains, Contains-append_cases, Contains-push_cases}
use Rattle.hdl_tenants.specs.declared.sites.TheConstants.{SITE_MAX}
use Rattle.hdl_tenants.specs.declared.sites.KeptSite.{KeptSite}
use Rattle.hdl_tenants.specs.Register.{Publisher, SiteInfo, AreDistinct, IsSite, informed, site_among}
use Rattle.hdl_tenants.specs.Record.{site_in, sites_in}
use Rattle.hdl_tenants.proofs.Distinct.{Contains-later, distinct_head, distinct_tail}

some_none : {A : Type 0} (x : A) → Some x ≡ None → ⊥
some_none x e = cc

some_is : {A : Type 0} (x y : A) → Some x ≡ Some y → x ≡ y
some_is x y e = cc

-- who has some is informed
pub found_informed : (sites : List SiteInfo) (u : ℕ) (octets : List ℕ) → site_among sites u ≡ Some octets → Contains (informed sites) u
found_informed [] u octets e = absurd (some_none octets (sym e))
found_informed (s ∷ sites) u octets e = by (s.publisher == u) refl (found_informed sites u octets)
  where
    by : (b : Bool) → (s.publisher == u) ≡ b → (site_among sites u ≡ Some octets → Contains (informed sites) u) → Contains (informed (s ∷ sites)) u
    by true t later = (0, omega arith, eqb-true s.publisher u t)
    by false t later = Contains-later s.publisher (informed sites) u (later (rw t at e))

-- and who has none is not
pub absent_informed : (sites : List SiteInfo) (u : ℕ) → site_among sites u ≡ None → Contains (informed sites) u → ⊥
absent_informed [] u e there = absurd (omega (arith, there.1))
absent_informed (s ∷ sites) u e there = by (s.publisher == u) refl (absent_informed sites u)
  where
    by : (b : Bool) → (s.publisher == u) ≡ b → (site_among sites u ≡ None → Contains (informed sites) u → ⊥) → ⊥
    by true t later = some_none s.octets (rw t at e)
    by false t later = elim (Contains-append_cases (s.publisher ∷ []) (informed sites) u there) [
      | inl first ↦ elim (Contains-push_cases [] s.publisher u first) [
        | inl none ↦ absurd (omega (arith, none.1))
        | inr same ↦ true≢false (sym ((Decides-eqb s.publisher u).1 same) ∙ t)
      ]
      | inr other ↦ later (rw t at e) other
    ]

-- the first site information of a publisher is the only one
pub site_given : (sites : List SiteInfo) (s : SiteInfo) → AreDistinct (informed sites) → Contains sites s → site_among sites s.publisher ≡ Some s.octets
site_given [] s distinct there = absurd (omega (arith, there.1))
site_given (t ∷ sites) s distinct there = elim (Contains-append_cases (t ∷ []) sites s there) [
  | inl first ↦ elim (Contains-push_cases [] t s first) [
    | inl none ↦ absurd (omega (arith, none.1))
    | inr same ↦ here same
  ]
  | inr later ↦ by (t.publisher == s.publisher) refl later (site_given sites s (distinct_tail t.publisher (informed sites) distinct) later)
]
  where
    here : t ≡ s → site_among (t ∷ sites) s.publisher ≡ Some s.octets
    here same = rw ((Decides-eqb t.publisher s.publisher).1 (ap (λ (x : SiteInfo). x.publisher) same)) (ap (λ (x : SiteInfo). Some x.octets) same)

    by : (b : Bool) → (t.publisher == s.publisher) ≡ b → Contains sites s → site_among sites s.publisher ≡ Some s.octets → site_among (t ∷ sites) s.publisher ≡ Some s.octets
    by true e later rest =
        absurd (distinct_head t.publisher (informed sites) distinct (
          later.0,
          omega (arith, later.1, length-map sites (λ (x : SiteInfo). x.publisher)),
          get_or-map (λ (x : SiteInfo). x.publisher) sites later.0 s t.publisher later.1 ∙ ap (λ (x : SiteInfo). x.publisher) later.2 ∙ sym (eqb-true t.publisher s.publisher e),
        ))
    by false e later rest = rw e rest

-- what is kept is what is listed
pub kept_listed : (kept : List KeptSite) (u : ℕ) → site_among (sites_in kept) u ≡ option_map (λ s. s.octets.items) (find (λ s. s.publisher == u) kept)
kept_listed [] u = refl
kept_listed (s ∷ kept) u = by (s.publisher == u) (kept_listed kept u)
  where
    by : (b : Bool) → site_among (sites_in kept) u ≡ option_map (λ x. x.octets.items) (find (λ x. x.publisher == u) kept)
        → option_map (λ (x : SiteInfo). x.octets) (cond b (Some (site_in s)) (find (λ x. x.publisher == u) (sites_in kept))) ≡ option_map (λ (x : KeptSite). x.octets.items) (cond b (Some s) (find (λ x. x.publisher == u) kept))
    by true e = refl
    by false e = e

found_there : (sites : List SiteInfo) (u : ℕ) (octets : List ℕ) → site_among sites u ≡ Some octets → (s : SiteInfo) × Contains sites s × (s.octets ≡ octets)
found_there [] u octets e = absurd (some_none octets (sym e))
found_there (s ∷ sites) u octets e = by (s.publisher == u) refl (found_there sites u octets)
  where
    by : (b : Bool) → (s.publisher == u) ≡ b → (site_among sites u ≡ Some octets → (x : SiteInfo) × Contains sites x × (x.octets ≡ octets)) → (x : SiteInfo) × Contains (s ∷ sites) x × (x.octets ≡ octets)
    by true t later = let same : Some s.octets ≡ Some octets = rw t at e in (s, (0, omega arith, refl), some_is s.octets octets same)
    by false t later = let rest = later (rw t at e) in (rest.0, Contains-later s sites rest.0 rest.1, rest.2)

-- what is found is few octets
pub few_found : (publishers : List Publisher) (sites : List SiteInfo) (u : ℕ) (o : Option (Bor (List ℕ))) → All (IsSite publishers) sites
    → MatchOption o (site_among sites u ≡ None) (λ octets. site_among sites u ≡ Some octets.now) → IfSome o (λ octets. length octets.now ≤ SITE_MAX)
few_found publishers sites u None all e = tt
few_found publishers sites u (Some octets) all e =
    let found = found_there sites u octets.now e in
    omega (arith, (All-contains (IsSite publishers) sites found.0 all found.1).few, ap length found.2)

-- a publisher of whom something is found, or nothing
pub some_informed : (sites : List SiteInfo) (u : ℕ) (o : Option (Bor (List ℕ))) → MatchOption o (site_among sites u ≡ None) (λ octets. site_among sites u ≡ Some octets.now) → is_some o ≡ true → Contains (informed sites) u
some_informed sites u None e t = absurd (true≢false (sym t))
some_informed sites u (Some octets) e t = found_informed sites u octets.now e

pub none_informed : (sites : List SiteInfo) (u : ℕ) (o : Option (Bor (List ℕ))) → MatchOption o (site_among sites u ≡ None) (λ octets. site_among sites u ≡ Some octets.now) → is_some o ≡ false → Contains (informed sites) u → ⊥
none_informed sites u None e f = absent_informed sites u e
none_informed sites u (Some octets) e f = absurd (true≢false f)
