-- A register stays one when a line is added.
use Rattle.std.proofs.Common.{◌≡◌, ◌++◌, ◌∷◌, [], List, ℕ, zero, suc, ◌+◌, ◌<◌, ◌≤◌, true≢false, Bool, true, false, cond, length, map, sum_by, Contains, arith, sym, subst, ◌∙◌, refl, inl, inr, length-append}
use Rattle.std.specs.Str.{bytes_eq}
use Rattle.std.proofs.lemmas.List.{map-append}
use Rattle.std.proofs.lemmas.List.Elements.{All-push, All-nil, All-weaker, Contains-append_left, Contains-append_cases, Contains-push_cases}
use Rattle.std.proofs.lemmas.List.Sums.{sum_by-append}
use Rattle.std.proofs.lemmas.Slice.Eq.{bytes_eq-Decides}
use Rattle.hdl_auth.specs.declared.algorithm.Algorithm.{Algorithm}
use Rattle.hdl_name.specs.Name.{IsHandle, canonical, prefix}
use Rattle.hdl_value.specs.declared.value.Value.{Value}
use Rattle.hdl_value.specs.Spelling.{Fits}
use Rattle.hdl_value.specs.Fault.{IsSound}
use Rattle.hdl_value.proofs.Whole.{can_be_spelt}
use Rattle.hdl_limits.specs.declared.TheConstants.{VALUES_MAX}
use Rattle.hdl_tenants.specs.declared.sites.TheConstants.{SITE_MAX}
use Rattle.hdl_tenants.specs.Register.{Publisher, Hosting, Row, SiteInfo, Register, empty, names_of, prefixes_of, hosting_pair, informed, place, value_count, wire_among, IsPublisher, IsPrefix, IsHosting, IsSite, IsOpening, IsRegister}
use Rattle.hdl_tenants.specs.Text.{Line, skipped, publisher, hosted, sited, opened, IsLine, place_of, register_after, IsKnownRow, IsAllowed, Adds, AddsAll}
use Rattle.hdl_tenants.proofs.Distinct.{distinct_push, given_hosts}

-- who is named has a place
pub place_within : (publishers : List Publisher) (name : List ℕ) → Contains (names_of publishers) name → place_of name publishers < length publishers
place_within [] name there = absurd (omega (arith, there.1))
place_within (p ∷ publishers) name there = by (bytes_eq name p.name) refl (place_within publishers name) there
  where
    by : (b : Bool) → bytes_eq name p.name ≡ b → (Contains (names_of publishers) name → place_of name publishers < length publishers) → Contains (names_of (p ∷ publishers)) name → place_of name (p ∷ publishers) < length (p ∷ publishers)
    by true t later there = rw t (omega arith)
    by false t later there = elim (Contains-append_cases (p.name ∷ []) (names_of publishers) name there) [
      | inl first ↦ elim (Contains-push_cases [] p.name name first) [
        | inl none ↦ absurd (omega (arith, none.1))
        | inr same ↦ absurd (true≢false (sym ((bytes_eq-Decides name p.name).1 (sym same)) ∙ t))
      ]
      | inr other ↦ rw t (omega (arith, later other))
    ]

-- the layout of a publisher that is there is as it was
wire_before : (publishers : List Publisher) (p : Publisher) (place : ℕ) → place < length publishers → wire_among (publishers ++ p ∷ []) place ≡ wire_among publishers place
wire_before [] p place inside = absurd (omega (arith, inside))
wire_before (q ∷ publishers) p zero inside = refl
wire_before (q ∷ publishers) p (suc place) inside = wire_before publishers p place (omega (arith, inside))

pub publisher_added : (r : Register) (p : Publisher) → IsRegister r → IsPublisher p → IsAllowed r (publisher p) → IsRegister (register_after r (publisher p))
publisher_added r p is sound allowed = record {
  publishers = All-push IsPublisher r.publishers p is.publishers sound;
  names = rw (map-append {A = Publisher} {B = List ℕ} (λ q. q.name) r.publishers (p ∷ [])) (distinct_push (names_of r.publishers) p.name is.names allowed.0);
  lanes = rw (sum_by-append (λ (q : Publisher). q.lanes) r.publishers (p ∷ [])) (omega (arith, allowed.1));
  hostings = All-weaker (IsHosting r.publishers) (IsHosting (r.publishers ++ p ∷ [])) (λ h old. record { sound = old.sound; publisher = omega (arith, old.publisher, length-append r.publishers (p ∷ [])) }) r.hostings is.hostings;
  once = is.once;
  sites = All-weaker (IsSite r.publishers) (IsSite (r.publishers ++ p ∷ [])) (λ s old. record {
    publisher = omega (arith, old.publisher, length-append r.publishers (p ∷ []));
    layout = wire_before r.publishers p s.publisher old.publisher ∙ old.layout;
    few = old.few;
  }) r.sites is.sites;
  one_site = is.one_site;
  opening = is.opening;
  places = is.places;
  few = is.few;
}

prefixes-push : (hs : List Hosting) (h : Hosting) → prefixes_of (hs ++ h ∷ []) ≡ prefixes_of hs ++ h.prefix ∷ []
prefixes-push hs h = map-append {A = Hosting} {B = List ℕ} (λ x. x.prefix) hs (h ∷ [])

pub hosted_added : (r : Register) (prefix name : List ℕ) (a : Algorithm) → IsRegister r → IsPrefix prefix → IsAllowed r (hosted prefix name a) → IsRegister (register_after r (hosted prefix name a))
hosted_added r prefix name a is sound allowed =
    let h : Hosting = record { prefix = prefix; publisher = place_of name r.publishers; algorithm = a } in
    record {
      publishers = is.publishers;
      names = is.names;
      lanes = is.lanes;
      hostings = All-push (IsHosting r.publishers) r.hostings h is.hostings (record { sound = sound; publisher = place_within r.publishers name allowed.0 });
      once = rw (map-append {A = Hosting} {B = List ℕ × ℕ} hosting_pair r.hostings (h ∷ [])) (distinct_push (map hosting_pair r.hostings) (hosting_pair h) is.once (λ there. true≢false (sym (given_hosts r.hostings (place_of name r.publishers) prefix there) ∙ allowed.1)));
      sites = is.sites;
      one_site = is.one_site;
      opening = All-weaker (IsOpening r.hostings) (IsOpening (r.hostings ++ h ∷ [])) (λ row old. record { handle = old.handle; hosted = rw (prefixes-push r.hostings h) (Contains-append_left (prefixes_of r.hostings) (prefix ∷ []) _ old.hosted); sound = old.sound; fits = old.fits; spelt = old.spelt }) r.opening is.opening;
      places = is.places;
      few = is.few;
    }

pub sited_added : (r : Register) (name octets : List ℕ) → IsRegister r → length octets ≤ SITE_MAX → IsAllowed r (sited name octets) → IsRegister (register_after r (sited name octets))
sited_added r name octets is few allowed =
    let s : SiteInfo = record { publisher = place_of name r.publishers; octets = octets } in
    record {
      publishers = is.publishers;
      names = is.names;
      lanes = is.lanes;
      hostings = is.hostings;
      once = is.once;
      sites = All-push (IsSite r.publishers) r.sites s is.sites (record { publisher = place_within r.publishers name allowed.0.there; layout = allowed.0.layout; few = few });
      one_site = rw (map-append {A = SiteInfo} {B = ℕ} (λ x. x.publisher) r.sites (s ∷ [])) (distinct_push (informed r.sites) s.publisher is.one_site allowed.1);
      opening = is.opening;
      places = is.places;
      few = is.few;
    }

pub opened_added : (r : Register) (handle : List ℕ) (v : Value) → IsRegister r → IsHandle handle → IsSound v → Fits v → IsKnownRow r (handle, v) → IsRegister (register_after r (opened handle v))
opened_added r handle v is named sound fits known =
    let row : Row = (handle, v) in
    record {
      publishers = is.publishers;
      names = is.names;
      lanes = is.lanes;
      hostings = is.hostings;
      once = is.once;
      sites = is.sites;
      one_site = is.one_site;
      opening = All-push (IsOpening r.hostings) r.opening row is.opening (record { handle = named; hosted = known.hosted; sound = sound; fits = fits; spelt = can_be_spelt v fits });
      places = rw (map-append place r.opening (row ∷ [])) (distinct_push (map place r.opening) (place row) is.places known.once);
      few = λ h. rw (sum_by-append (λ (x : Row). cond (bytes_eq (canonical x.0) h) 1 0) r.opening (row ∷ [])) (one_more h (bytes_eq (canonical handle) h) refl);
    }
  where
    one_more : (h : List ℕ) (b : Bool) → bytes_eq (canonical handle) h ≡ b → value_count h r.opening + sum_by (λ (x : Row). cond (bytes_eq (canonical x.0) h) 1 0) ((handle, v) ∷ []) ≤ VALUES_MAX
    one_more h true t =
        let same : canonical handle ≡ h = (bytes_eq-Decides (canonical handle) h).0 t in
        let room : value_count h r.opening < VALUES_MAX = subst (λ x. value_count x r.opening < VALUES_MAX) same known.room in
        rw t (omega arith)
    one_more h false t = rw t (omega (arith, is.few h))

pub line_added : (r : Register) (text : List ℕ) (line : Line) → IsRegister r → IsLine text line → IsAllowed r line → IsRegister (register_after r line)
line_added r text skipped is says allowed = is
line_added r text (publisher p) is says allowed = publisher_added r p is says.sound allowed
line_added r text (hosted prefix name a) is says allowed = hosted_added r prefix name a is says.sound allowed
line_added r text (sited name octets) is says allowed = sited_added r name octets is says.text.few allowed
line_added r text (opened handle v) is says allowed = opened_added r handle v is says.named says.value.sound says.value.spelt.fits allowed

pub empty_is : IsRegister empty
empty_is = record {
  publishers = All-nil IsPublisher;
  names = λ i j d below inside. absurd (omega arith);
  lanes = omega arith;
  hostings = All-nil (IsHosting []);
  once = λ i j d below inside. absurd (omega arith);
  sites = All-nil (IsSite []);
  one_site = λ i j d below inside. absurd (omega arith);
  opening = All-nil (IsOpening []);
  places = λ i j d below inside. absurd (omega arith);
  few = λ h. omega arith;
}

pub all_added : (before : Register) (texts : List (List ℕ)) (after : Register) → IsRegister before → AddsAll before texts after → IsRegister after
all_added before [] after is adds = subst IsRegister (sym adds) is
all_added before (text ∷ texts) after is adds =
    let step = adds.1 in
    all_added adds.0 texts after (subst IsRegister (sym step.3) (line_added before text step.0 is step.1 step.2)) adds.2

-- one line more
pub AddsAll-push : (before : Register) (texts : List (List ℕ)) (between : Register) (text : List ℕ) (after : Register) → AddsAll before texts between → Adds between text after → AddsAll before (texts ++ text ∷ []) after
AddsAll-push before [] between text after adds more = (after, subst (λ r. Adds r text after) adds more, refl)
AddsAll-push before (first ∷ texts) between text after adds more = (adds.0, adds.1, AddsAll-push adds.0 texts between text after adds.2 more)
