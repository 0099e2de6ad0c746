-- A line says one thing, and so does a text.
use Rattle.std.proofs.Common.{◌≡◌, ◌≢◌, ◌++◌, ◌∷◌, [], List, ℕ, ◌==◌, false, true≢false, length, codes, Contains, Some, arith, sym, ap, subst, ◌∙◌, refl, inl, inr}
use Rattle.std.specs.List.{onto_first}
use Rattle.std.specs.Str.Parse.{digits_value}
use Rattle.std.proofs.lemmas.List.Splits.{slice_split-cons_no}
use Rattle.hdl_auth.specs.declared.algorithm.Algorithm.{Algorithm}
use Rattle.hdl_value.specs.declared.value.Value.{Value}
use Rattle.hdl_tenants.specs.declared.fault.TenantFault.{TenantFault}
use Rattle.hdl_tenants.specs.declared.fault.TenantFault.TheVariants.{BadLine, TwicePrefix, TwicePublisher, TwiceSite, TooMany, Memory}
use Rattle.hdl_tenants.specs.Register.{Publisher, Register, names_of}
use Rattle.hdl_tenants.specs.Lines.{fields_of, algorithm_in, IsPublisherLine, IsPrefixLine, IsSiteLine, IsSiteText, IsValueLine, IsValueText, wire_in}
use Rattle.hdl_value.specs.declared.wire.Wire.{Wire}
use Rattle.hdl_tenants.specs.Text.{Line, skipped, publisher, hosted, sited, opened, IsLine, IsSkipped, IsKnown, IsAllowed, HasFault, Adds, AddsAll, register_after}
use Rattle.hex.specs.Hex.{decode_of}
use Rattle.hdl_tenants.proofs.Texts.{ok_is, one_text}
use Rattle.hdl_tenants.proofs.Sayings.{prefix_or_site, prefix_or_value, site_or_value}

first_of : (x y : ℕ) (parts : List (List ℕ)) (field : List ℕ) (more : List (List ℕ)) → onto_first x parts ≡ (y ∷ field) ∷ more → x ≡ y
first_of x y [] field more e = let front : x ∷ [] ≡ y ∷ field = cc in cc
first_of x y (part ∷ parts) field more e = let front : x ∷ part ≡ y ∷ field = cc in cc

-- what is skipped begins no field but with '#'
skipped_first : (text : List ℕ) (y : ℕ) (field : List ℕ) (more : List (List ℕ)) → IsSkipped text → fields_of text ≡ (y ∷ field) ∷ more → y ≡ 35
skipped_first [] y field more s e = let front : [] ≡ y ∷ field = cc in absurd cc
skipped_first (x ∷ xs) y field more (inl s) e = absurd cc
skipped_first (x ∷ xs) y field more (inr s) e =
    let same : x ≡ 35 = cc in
    let no : (x == 32) ≡ false = rw same refl in
    sym (first_of x y (fields_of xs) field more (sym (slice_split-cons_no (λ b. b == 32) x xs no) ∙ e)) ∙ same

one_wire : (a b : Wire) → Some a ≡ Some b → a ≡ b
one_wire a b e = cc

one_publisher : (fields : List (List ℕ)) (p q : Publisher) → IsPublisherLine fields p → IsPublisherLine fields q → p ≡ q
one_publisher fields p q a b =
    let same : codes "publisher" ∷ p.name ∷ a.lanes_text ∷ a.port_text ∷ a.more ≡ codes "publisher" ∷ q.name ∷ b.lanes_text ∷ b.port_text ∷ b.more = sym a.split ∙ b.split in
    let names : p.name ≡ q.name = cc in
    let lanes_texts : a.lanes_text ≡ b.lanes_text = cc in
    let port_texts : a.port_text ≡ b.port_text = cc in
    let lanes : p.lanes ≡ q.lanes = a.lanes_read.value ∙ ap (digits_value 10) lanes_texts ∙ sym b.lanes_read.value in
    let ports : p.port ≡ q.port = a.port_read.value ∙ ap (digits_value 10) port_texts ∙ sym b.port_read.value in
    let others : a.more ≡ b.more = cc in
    let wires : p.wire ≡ q.wire = one_wire p.wire q.wire (sym a.layout ∙ ap wire_in others ∙ b.layout) in
    λ i. record { name = names i; lanes = lanes i; port = ports i; wire = wires i }

one_hash : (a b : Algorithm) → Some a ≡ Some b → a ≡ b
one_hash a b e = cc

one_prefix : (fields : List (List ℕ)) (p n q m : List ℕ) (c d : Algorithm) → IsPrefixLine fields p n c → IsPrefixLine fields q m d → hosted p n c ≡ hosted q m d
one_prefix fields p n q m c d a b =
    let same : codes "prefix" ∷ p ∷ n ∷ a.more ≡ codes "prefix" ∷ q ∷ m ∷ b.more = sym a.split ∙ b.split in
    let prefixes : p ≡ q = cc in
    let names : n ≡ m = cc in
    let others : a.more ≡ b.more = cc in
    let hashes : c ≡ d = one_hash c d (sym a.hash ∙ ap algorithm_in others ∙ b.hash) in
    λ i. hosted (prefixes i) (names i) (hashes i)

one_value_said : (fields : List (List ℕ)) (h g : List ℕ) (v w : Value) → IsValueLine fields h v → IsValueLine fields g w → opened h v ≡ opened g w
one_value_said fields h g v w a b =
    let same : codes "value" ∷ h ∷ a.digits ∷ [] ≡ codes "value" ∷ g ∷ b.digits ∷ [] = sym a.split ∙ b.split in
    let handles : h ≡ g = cc in
    let digits : b.digits ≡ a.digits = cc in
    let values : v ≡ w = one_text a.digits v w a.value (subst (λ d. IsValueText d w) digits b.value) in
    λ i. opened (handles i) (values i)

one_site_said : (fields : List (List ℕ)) (n m o q : List ℕ) → IsSiteLine fields n o → IsSiteLine fields m q → sited n o ≡ sited m q
one_site_said fields n m o q a b =
    let same : codes "site" ∷ n ∷ a.digits ∷ [] ≡ codes "site" ∷ m ∷ b.digits ∷ [] = sym a.split ∙ b.split in
    let names : n ≡ m = cc in
    let digits : b.digits ≡ a.digits = cc in
    let other : IsSiteText a.digits q = subst (λ d. IsSiteText d q) digits b.text in
    let octets : o ≡ q = ok_is (decode_of a.digits) o q a.text.decoded other.decoded in
    λ i. sited (names i) (octets i)

-- the first words differ
publisher_or_prefix : (fields : List (List ℕ)) (p : Publisher) (q n : List ℕ) (c : Algorithm) → IsPublisherLine fields p → IsPrefixLine fields q n c → ⊥
publisher_or_prefix fields p q n c a b =
    let same : codes "publisher" ∷ p.name ∷ a.lanes_text ∷ a.port_text ∷ a.more ≡ codes "prefix" ∷ q ∷ n ∷ b.more = sym a.split ∙ b.split in
    let words : codes "publisher" ≡ codes "prefix" = cc in
    absurd (omega (arith, ap length words))

-- four fields and more are not three
publisher_or_site : (fields : List (List ℕ)) (p : Publisher) (n octets : List ℕ) → IsPublisherLine fields p → IsSiteLine fields n octets → ⊥
publisher_or_site fields p n octets a b =
    let three : length fields ≡ 3 = ap length b.split in
    absurd (omega (arith, ap length a.split, three))

publisher_or_value : (fields : List (List ℕ)) (p : Publisher) (h : List ℕ) (v : Value) → IsPublisherLine fields p → IsValueLine fields h v → ⊥
publisher_or_value fields p h v a b =
    let three : length fields ≡ 3 = ap length b.split in
    absurd (omega (arith, ap length a.split, three))

-- what is skipped is no line of another kind
skipped_or : (text : List ℕ) (line : Line) → IsSkipped text → IsLine text line → line ≡ skipped
skipped_or text skipped s says = refl
skipped_or text (publisher p) s says = absurd (omega (arith, skipped_first text _ _ _ s says.split))
skipped_or text (hosted prefix name a) s says = absurd (omega (arith, skipped_first text _ _ _ s says.split))
skipped_or text (sited name octets) s says = absurd (omega (arith, skipped_first text _ _ _ s says.split))
skipped_or text (opened handle v) s says = absurd (omega (arith, skipped_first text _ _ _ s says.split))

pub one_line : (text : List ℕ) (a b : Line) → IsLine text a → IsLine text b → a ≡ b
one_line text skipped b s says = sym (skipped_or text b s says)
one_line text (publisher p) skipped says s = skipped_or text (publisher p) s says
one_line text (publisher p) (publisher q) a b = ap publisher (one_publisher (fields_of text) p q a b)
one_line text (publisher p) (hosted q n c) a b = absurd (publisher_or_prefix (fields_of text) p q n c a b)
one_line text (publisher p) (sited n o) a b = absurd (publisher_or_site (fields_of text) p n o a b)
one_line text (publisher p) (opened h v) a b = absurd (publisher_or_value (fields_of text) p h v a b)
one_line text (hosted p n c) skipped says s = skipped_or text (hosted p n c) s says
one_line text (hosted p n c) (publisher q) a b = absurd (publisher_or_prefix (fields_of text) q p n c b a)
one_line text (hosted p n c) (hosted q m d) a b = one_prefix (fields_of text) p n q m c d a b
one_line text (hosted p n c) (sited m o) a b = absurd (prefix_or_site (fields_of text) p n c m o a b)
one_line text (hosted p n c) (opened h v) a b = absurd (prefix_or_value (fields_of text) p n c h v a b)
one_line text (sited n o) skipped says s = skipped_or text (sited n o) s says
one_line text (sited n o) (publisher q) a b = absurd (publisher_or_site (fields_of text) q n o b a)
one_line text (sited n o) (hosted q m c) a b = absurd (prefix_or_site (fields_of text) q m c n o b a)
one_line text (sited n o) (sited m q) a b = one_site_said (fields_of text) n m o q a b
one_line text (sited n o) (opened h v) a b = absurd (site_or_value (fields_of text) n o h v a b)
one_line text (opened h v) skipped says s = skipped_or text (opened h v) s says
one_line text (opened h v) (publisher q) a b = absurd (publisher_or_value (fields_of text) q h v b a)
one_line text (opened h v) (hosted q m c) a b = absurd (prefix_or_value (fields_of text) q m c h v b a)
one_line text (opened h v) (sited n o) a b = absurd (site_or_value (fields_of text) n o h v b a)
one_line text (opened h v) (opened g w) a b = one_value_said (fields_of text) h g v w a b

one_step : (before : Register) (text : List ℕ) (a b : Register) → Adds before text a → Adds before text b → a ≡ b
one_step before text a b p q = p.3 ∙ ap (register_after before) (one_line text p.0 q.0 p.1 q.1) ∙ sym q.3

pub one_register : (before : Register) (texts : List (List ℕ)) (a b : Register) → AddsAll before texts a → AddsAll before texts b → a ≡ b
one_register before [] a b p q = p ∙ sym q
one_register before (text ∷ texts) a b p q =
    let same : q.0 ≡ p.0 = one_step before text q.0 p.0 q.1 p.1 in
    one_register p.0 texts a b p.2 (subst (λ r. AddsAll r texts b) same q.2)

-- ---- faults

known : (r : Register) (line : Line) → IsAllowed r line → IsKnown r line
known r skipped allowed = tt
known r (publisher p) allowed = tt
known r (hosted prefix name a) allowed = allowed.0
known r (sited name octets) allowed = allowed.0
known r (opened handle v) allowed = allowed

-- a line that is allowed has no fault
pub no_fault : (r : Register) (text : List ℕ) (line : Line) → IsLine text line → IsAllowed r line → (e : TenantFault) → HasFault r text e → e ≡ Memory
no_fault r text line says allowed BadLine f = absurd (f line says (known r line allowed))
no_fault r text line says allowed TwicePrefix f = absurd (true≢false (sym f.5 ∙ (subst (IsAllowed r) (one_line text line (hosted f.0 f.1 f.2) says f.3) allowed).1))
no_fault r text line says allowed TwicePublisher f = absurd ((subst (IsAllowed r) (one_line text line (publisher f.0) says f.1) allowed).0 f.2)
no_fault r text line says allowed TwiceSite f = absurd ((subst (IsAllowed r) (one_line text line (sited f.0 f.1) says f.2) allowed).1 f.4)
no_fault r text line says allowed TooMany f =
    let room = (subst (IsAllowed r) (one_line text line (publisher f.0) says f.1) allowed).1 in
    absurd (omega (arith, room, f.3))
no_fault r text line says allowed Memory f = refl

-- a line has one fault at most
pub one_fault : (r : Register) (text : List ℕ) (e f : TenantFault) → HasFault r text e → HasFault r text f → e ≢ Memory → f ≢ Memory → e ≡ f
one_fault r text BadLine BadLine a b x y = refl
one_fault r text BadLine TwicePrefix a b x y = absurd (a (hosted b.0 b.1 b.2) b.3 b.4)
one_fault r text BadLine TwicePublisher a b x y = absurd (a (publisher b.0) b.1 tt)
one_fault r text BadLine TwiceSite a b x y = absurd (a (sited b.0 b.1) b.2 b.3)
one_fault r text BadLine TooMany a b x y = absurd (a (publisher b.0) b.1 tt)
one_fault r text TwicePrefix BadLine a b x y = absurd (b (hosted a.0 a.1 a.2) a.3 a.4)
one_fault r text TwicePrefix TwicePrefix a b x y = refl
one_fault r text TwicePrefix TwicePublisher a b x y = absurd (publisher_or_prefix (fields_of text) b.0 a.0 a.1 a.2 b.1 a.3)
one_fault r text TwicePrefix TwiceSite a b x y = absurd (prefix_or_site (fields_of text) a.0 a.1 a.2 b.0 b.1 a.3 b.2)
one_fault r text TwicePrefix TooMany a b x y = absurd (publisher_or_prefix (fields_of text) b.0 a.0 a.1 a.2 b.1 a.3)
one_fault r text TwicePublisher BadLine a b x y = absurd (b (publisher a.0) a.1 tt)
one_fault r text TwicePublisher TwicePrefix a b x y = absurd (publisher_or_prefix (fields_of text) a.0 b.0 b.1 b.2 a.1 b.3)
one_fault r text TwicePublisher TwicePublisher a b x y = refl
one_fault r text TwicePublisher TwiceSite a b x y = absurd (publisher_or_site (fields_of text) a.0 b.0 b.1 a.1 b.2)
one_fault r text TwicePublisher TooMany a b x y = absurd (b.2 (subst (λ (p : Publisher). Contains (names_of r.publishers) p.name) (one_publisher (fields_of text) a.0 b.0 a.1 b.1) a.2))
one_fault r text TwiceSite BadLine a b x y = absurd (b (sited a.0 a.1) a.2 a.3)
one_fault r text TwiceSite TwicePrefix a b x y = absurd (prefix_or_site (fields_of text) b.0 b.1 b.2 a.0 a.1 b.3 a.2)
one_fault r text TwiceSite TwicePublisher a b x y = absurd (publisher_or_site (fields_of text) b.0 a.0 a.1 b.1 a.2)
one_fault r text TwiceSite TwiceSite a b x y = refl
one_fault r text TwiceSite TooMany a b x y = absurd (publisher_or_site (fields_of text) b.0 a.0 a.1 b.1 a.2)
one_fault r text TooMany BadLine a b x y = absurd (b (publisher a.0) a.1 tt)
one_fault r text TooMany TwicePrefix a b x y = absurd (publisher_or_prefix (fields_of text) a.0 b.0 b.1 b.2 a.1 b.3)
one_fault r text TooMany TwicePublisher a b x y = absurd (a.2 (subst (λ (p : Publisher). Contains (names_of r.publishers) p.name) (one_publisher (fields_of text) b.0 a.0 b.1 a.1) b.2))
one_fault r text TooMany TwiceSite a b x y = absurd (publisher_or_site (fields_of text) a.0 b.0 b.1 a.1 b.2)
one_fault r text TooMany TooMany a b x y = refl
one_fault r text e Memory a b x y = absurd (y refl)
one_fault r text Memory f a b x y = absurd (x refl)

-- lines that are accepted have no fault among them
pub no_fault_among : (before : Register) (front : List (List ℕ)) (text : List ℕ) (back : List (List ℕ)) (between after : Register) (e : TenantFault) → AddsAll before (front ++ text ∷ back) after → AddsAll before front between → HasFault between text e → e ≡ Memory
no_fault_among before [] text back between after e all some fault = no_fault before text all.1.0 all.1.1 all.1.2 e (subst (λ r. HasFault r text e) some fault)
no_fault_among before (first ∷ front) text back between after e all some fault =
    let same : some.0 ≡ all.0 = one_step before first some.0 all.0 some.1 all.1 in
    no_fault_among all.0 front text back between after e all.2 (subst (λ r. AddsAll r front between) same some.2) fault

pub one_place : (before : Register) (front others : List (List ℕ)) (text other : List ℕ) (back behind : List (List ℕ)) (a b : Register) (e f : TenantFault)
    → front ++ text ∷ back ≡ others ++ other ∷ behind → AddsAll before front a → AddsAll before others b → HasFault a text e → HasFault b other f → e ≢ Memory → f ≢ Memory → (length front ≡ length others) × (e ≡ f)
one_place before [] [] text other back behind a b e f same p q x y ne nf =
    let lines : other ≡ text = cc in
    (refl, one_fault before text e f (subst (λ r. HasFault r text e) p x) (subst (λ t. HasFault before t f) lines (subst (λ r. HasFault r other f) q y)) ne nf)
one_place before [] (first ∷ others) text other back behind a b e f same p q x y ne nf =
    let lines : first ≡ text = cc in
    let step = subst (λ t. Adds before t q.0) lines q.1 in
    absurd (ne (no_fault before text step.0 step.1 step.2 e (subst (λ r. HasFault r text e) p x)))
one_place before (first ∷ front) [] text other back behind a b e f same p q x y ne nf =
    let lines : first ≡ other = cc in
    let step = subst (λ t. Adds before t p.0) lines p.1 in
    absurd (nf (no_fault before other step.0 step.1 step.2 f (subst (λ r. HasFault r other f) q y)))
one_place before (first ∷ front) (second ∷ others) text other back behind a b e f same p q x y ne nf =
    let lines : second ≡ first = cc in
    let rests : front ++ text ∷ back ≡ others ++ other ∷ behind = cc in
    let betweens : q.0 ≡ p.0 = one_step before first q.0 p.0 (subst (λ t. Adds before t q.0) lines q.1) p.1 in
    let later = one_place p.0 front others text other back behind a b e f rests p.2 (subst (λ r. AddsAll r others b) betweens q.2) x y ne nf in
    (omega (arith, later.0), later.1)
