-- What a line says, from what its fields say.
use Rattle.std.proofs.Common.{◌≡◌, ◌≢◌, ◌∷◌, [], List, ℕ, Contains, Result, Ok, Err, OnOk, IfErr, IsTrue, codes, length, arith, sym, ap, subst, ◌∙◌}
use Rattle.hdl_auth.specs.declared.algorithm.Algorithm.{Algorithm}
use Rattle.hdl_name.specs.Name.{IsHandle}
use Rattle.hdl_value.specs.declared.value.Value.{Value}
use Rattle.hdl_tenants.specs.declared.fault.TenantFault.{TenantFault}
use Rattle.hdl_tenants.specs.declared.fault.TenantFault.TheVariants.{BadLine, TwicePrefix, TwicePublisher, TwiceSite, TooMany, Memory}
use Rattle.hdl_tenants.specs.Register.{Publisher, Register, names_of, hosts, informed}
use Rattle.hdl_tenants.specs.Lines.{fields_of, IsPublisherLine, IsPrefixLine, IsSiteLine, IsSiteText, IsValueLine, IsValueText}
use Rattle.hdl_tenants.specs.Text.{Line, skipped, publisher, hosted, sited, opened, place_of, IsLine, IsSkipped, IsKnown, IsKnownRow, SpeaksHandleNet, HasSite, HasFault, Adds}
use Rattle.hdl_tenants.specs.Steps.{IsPublisherFault, IsPrefixFault, IsDigitsFault, IsSiteFault, IsSiteTextFault, IsHostedFault, IsSitedFault, IsOpenedFault, Opens, Informs}

pub both_ok : {A E : Type 0} (P Q R : Type 0) (r : Result A E) → OnOk r P → OnOk r Q → (P → Q → R) → OnOk r R
both_ok P Q R (Ok x) p q f = f p q
both_ok P Q R (Err e) p q f = tt

pub if_ok : {A E : Type 0} (P R : Type 0) (r : Result A E) → OnOk r P → (P → R) → OnOk r R
if_ok P R (Ok x) p f = f p
if_ok P R (Err e) p f = tt

pub if_fault : {A : Type 0} (P Q : TenantFault → Type 0) (r : Result A TenantFault) → IfErr r P → ((e : TenantFault) → P e → Q e) → IfErr r Q
if_fault P Q (Ok x) p f = tt
if_fault P Q (Err e) p f = f e p

pub from_digits : (r : Register) (handle digits : List ℕ) (e : TenantFault) → IsDigitsFault digits e → IsOpenedFault r handle digits e
from_digits r handle digits BadLine f = λ v named t known. f v t
from_digits r handle digits Memory f = tt
from_digits r handle digits TwicePrefix f = absurd f
from_digits r handle digits TwicePublisher f = absurd f
from_digits r handle digits TwiceSite f = absurd f
from_digits r handle digits TooMany f = absurd f

-- a prefix that the named publisher has
pub from_prefix : (r : Register) (prefix name : List ℕ) (u : ℕ) → u ≡ place_of name r.publishers → Contains (names_of r.publishers) name → (e : TenantFault) → IsPrefixFault r.hostings u prefix e → IsHostedFault r prefix name e
from_prefix r prefix name u is there BadLine f = absurd f
from_prefix r prefix name u is there TwicePrefix f = (there, subst (λ v. IsTrue (hosts r v prefix)) is f)
from_prefix r prefix name u is there TwicePublisher f = absurd f
from_prefix r prefix name u is there TwiceSite f = absurd f
from_prefix r prefix name u is there TooMany f = absurd f
from_prefix r prefix name u is there Memory f = tt

-- digits that spell no site information
pub from_site_digits : (r : Register) (name digits : List ℕ) (e : TenantFault) → IsSiteTextFault digits e → IsSitedFault r name digits e
from_site_digits r name digits BadLine f = λ octets text known. f octets text
from_site_digits r name digits Memory f = tt
from_site_digits r name digits TwicePrefix f = absurd f
from_site_digits r name digits TwicePublisher f = absurd f
from_site_digits r name digits TwiceSite f = absurd f
from_site_digits r name digits TooMany f = absurd f

-- the named publisher has site information
pub from_site : (r : Register) (name digits octets : List ℕ) (u : ℕ) → u ≡ place_of name r.publishers → IsSiteText digits octets → SpeaksHandleNet r name → (e : TenantFault) → IsSiteFault r.sites u e → IsSitedFault r name digits e
from_site r name digits octets u is text known BadLine f = absurd f
from_site r name digits octets u is text known Memory f = tt
from_site r name digits octets u is text known TwicePrefix f = absurd f
from_site r name digits octets u is text known TwicePublisher f = absurd f
from_site r name digits octets u is text known TwiceSite f = (octets, text, known, subst (λ v. Contains (informed r.sites) v) is f)
from_site r name digits octets u is text known TooMany f = absurd f

-- fields are those of one site line
one_site_line : (fields : List (List ℕ)) (name digits n octets : List ℕ) → fields ≡ codes "site" ∷ name ∷ digits ∷ [] → IsSiteLine fields n octets → (n ≡ name) × IsSiteText digits octets
one_site_line fields name digits n octets is line =
    let same : codes "site" ∷ n ∷ line.digits ∷ [] ≡ codes "site" ∷ name ∷ digits ∷ [] = sym line.split ∙ is in
    let names : n ≡ name = cc in
    let texts : line.digits ≡ digits = cc in
    (names, subst (λ d. IsSiteText d octets) texts line.text)

-- fields are those of one value line
one_value_line : (fields : List (List ℕ)) (handle digits h : List ℕ) (v : Value) → fields ≡ codes "value" ∷ handle ∷ digits ∷ [] → IsValueLine fields h v → (h ≡ handle) × IsHandle handle × IsValueText digits v
one_value_line fields handle digits h v is line =
    let same : codes "value" ∷ h ∷ line.digits ∷ [] ≡ codes "value" ∷ handle ∷ digits ∷ [] = sym line.split ∙ is in
    let handles : h ≡ handle = cc in
    let texts : line.digits ≡ digits = cc in
    (handles, subst IsHandle handles line.named, subst (λ d. IsValueText d v) texts line.value)

one_name : (fields : List (List ℕ)) (q n prefix name : List ℕ) (a b : Algorithm) → IsPrefixLine fields q n a → IsPrefixLine fields prefix name b → n ≡ name
one_name fields q n prefix name a b says line =
    let same : codes "prefix" ∷ q ∷ n ∷ says.more ≡ codes "prefix" ∷ prefix ∷ name ∷ line.more = sym says.split ∙ line.split in
    cc

-- a line of one kind is of no other
pub prefix_or_site : (fields : List (List ℕ)) (prefix name : List ℕ) (a : Algorithm) (n octets : List ℕ) → IsPrefixLine fields prefix name a → IsSiteLine fields n octets → ⊥
prefix_or_site fields prefix name a n octets line says =
    let same : codes "site" ∷ n ∷ says.digits ∷ [] ≡ codes "prefix" ∷ prefix ∷ name ∷ line.more = sym says.split ∙ line.split in
    let words : codes "site" ≡ codes "prefix" = cc in
    absurd (omega (arith, ap length words))

pub site_or_value : (fields : List (List ℕ)) (n octets h : List ℕ) (v : Value) → IsSiteLine fields n octets → IsValueLine fields h v → ⊥
site_or_value fields n octets h v line says =
    let same : codes "value" ∷ h ∷ says.digits ∷ [] ≡ codes "site" ∷ n ∷ line.digits ∷ [] = sym says.split ∙ line.split in
    let words : codes "value" ≡ codes "site" = cc in
    absurd (omega (arith, ap length words))

pub prefix_or_value : (fields : List (List ℕ)) (prefix name : List ℕ) (a : Algorithm) (h : List ℕ) (v : Value) → IsPrefixLine fields prefix name a → IsValueLine fields h v → ⊥
prefix_or_value fields prefix name a h v line says =
    let same : codes "value" ∷ h ∷ says.digits ∷ [] ≡ codes "prefix" ∷ prefix ∷ name ∷ line.more = sym says.split ∙ line.split in
    let words : codes "value" ≡ codes "prefix" = cc in
    absurd (omega (arith, ap length words))

module _ (r : Register) (text : List ℕ) (shown : ¬ (IsSkipped text)) where
  pub publisher_fault : (p : Publisher) → IsPublisherLine (fields_of text) p → (e : TenantFault) → IsPublisherFault r.publishers p e → HasFault r text e
  publisher_fault p line BadLine f = absurd f
  publisher_fault p line TwicePrefix f = absurd f
  publisher_fault p line TwicePublisher f = (p, line, f)
  publisher_fault p line TwiceSite f = absurd f
  publisher_fault p line TooMany f = (p, line, f.0, f.1)
  publisher_fault p line Memory f = shown

  module _ (no_publisher : (p : Publisher) → ¬ (IsPublisherLine (fields_of text) p)) where
    pub hosted_fault : (prefix name : List ℕ) (a : Algorithm) → IsPrefixLine (fields_of text) prefix name a → (e : TenantFault) → IsHostedFault r prefix name e → HasFault r text e
    hosted_fault prefix name a line BadLine f = bad
      where
        bad : (said : Line) → IsLine text said → ¬ (IsKnown r said)
        bad skipped says known = shown says
        bad (publisher p) says known = no_publisher p says
        bad (hosted q n b) says known = f (subst (Contains (names_of r.publishers)) (one_name (fields_of text) q n prefix name b a says line) known)
        bad (sited n octets) says known = prefix_or_site (fields_of text) prefix name a n octets line says
        bad (opened h v) says known = prefix_or_value (fields_of text) prefix name a h v line says
    hosted_fault prefix name a line TwicePrefix f = (prefix, name, a, line, f.0, f.1)
    hosted_fault prefix name a line TwicePublisher f = absurd f
    hosted_fault prefix name a line TwiceSite f = absurd f
    hosted_fault prefix name a line TooMany f = absurd f
    hosted_fault prefix name a line Memory f = shown

    module _ (no_prefix : (prefix name : List ℕ) (a : Algorithm) → ¬ (IsPrefixLine (fields_of text) prefix name a)) where
      bad_line : ((n octets : List ℕ) → IsSiteLine (fields_of text) n octets → ¬ (SpeaksHandleNet r n)) → ((h : List ℕ) (v : Value) → IsValueLine (fields_of text) h v → ¬ (IsKnownRow r (h, v))) → HasFault r text BadLine
      bad_line unsited unknown skipped says known = shown says
      bad_line unsited unknown (publisher p) says known = no_publisher p says
      bad_line unsited unknown (hosted prefix name a) says known = no_prefix prefix name a says
      bad_line unsited unknown (sited n octets) says known = unsited n octets says known
      bad_line unsited unknown (opened h v) says known = unknown h v says known

      pub sited_fault : (name digits : List ℕ) → fields_of text ≡ codes "site" ∷ name ∷ digits ∷ [] → (e : TenantFault) → IsSitedFault r name digits e → HasFault r text e
      sited_fault name digits is BadLine f = bad_line
          (λ n octets says known.
          let one = one_site_line (fields_of text) name digits n octets is says in
          f octets one.1 (subst (λ (x : List ℕ). SpeaksHandleNet r x) one.0 known))
          (λ h v says known. words h v says)
        where
          words : (h : List ℕ) (v : Value) → IsValueLine (fields_of text) h v → ⊥
          words h v says =
              let same : codes "value" ∷ h ∷ says.digits ∷ [] ≡ codes "site" ∷ name ∷ digits ∷ [] = sym says.split ∙ is in
              let first : codes "value" ≡ codes "site" = cc in
              absurd (omega (arith, ap length first))
      sited_fault name digits is TwiceSite f = (name, f.0, record { digits = digits; split = is; text = f.1 }, f.2, f.3)
      sited_fault name digits is TwicePrefix f = absurd f
      sited_fault name digits is TwicePublisher f = absurd f
      sited_fault name digits is TooMany f = absurd f
      sited_fault name digits is Memory f = shown

      module _ (no_site : (name digits : List ℕ) → fields_of text ≢ codes "site" ∷ name ∷ digits ∷ []) where
        pub opened_fault : (handle digits : List ℕ) → fields_of text ≡ codes "value" ∷ handle ∷ digits ∷ [] → (e : TenantFault) → IsOpenedFault r handle digits e → HasFault r text e
        opened_fault handle digits is BadLine f = bad_line (λ n octets says known. no_site n says.digits says.split) (λ h v says known.
            let one = one_value_line (fields_of text) handle digits h v is says in
            f v one.1 one.2 (subst (λ (x : List ℕ). IsKnownRow r (x, v)) one.0 known))
        opened_fault handle digits is TwicePrefix f = absurd f
        opened_fault handle digits is TwicePublisher f = absurd f
        opened_fault handle digits is TwiceSite f = absurd f
        opened_fault handle digits is TooMany f = absurd f
        opened_fault handle digits is Memory f = shown

        pub no_line : ((handle digits : List ℕ) → fields_of text ≢ codes "value" ∷ handle ∷ digits ∷ []) → HasFault r text BadLine
        no_line no_value = bad_line (λ n octets says known. no_site n says.digits says.split) (λ h v says known. no_value h says.digits says.split)

-- what is added
pub opens_adds : (before : Register) (text handle digits : List ℕ) (after : Register) → fields_of text ≡ codes "value" ∷ handle ∷ digits ∷ [] → Opens before handle digits after → Adds before text after
opens_adds before text handle digits after is opens = (opened handle opens.0, record { digits = digits; split = is; named = opens.1; value = opens.2 }, opens.3, opens.4)

pub informs_adds : (before : Register) (text name digits : List ℕ) (after : Register) → fields_of text ≡ codes "site" ∷ name ∷ digits ∷ [] → Informs before name digits after → Adds before text after
informs_adds before text name digits after is informs = (sited name informs.0, record { digits = digits; split = is; text = informs.1 }, (informs.2, informs.3), informs.4)
