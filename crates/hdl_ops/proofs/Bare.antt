-- A code depends on the heads of the handle's values alone.
use Rattle.std.proofs.Common.{◌≡◌, ℕ, List, [], ◌∷◌, Bool, true, false, cond, map, length, Option, Some, None, option_map, is_some, is_none, nat_lt, refl, sym, ap, ◌∙◌, ◌+◌, ◌==◌, ◌&&◌, ◌||◌, not, subst, true≢false}
use Rattle.std.specs.List.{list_any, list_all}
use Rattle.std.proofs.lemmas.List.{length-map}
use Rattle.hdl_limits.specs.declared.TheConstants.{VALUES_MAX}
use Rattle.hdl_value.specs.declared.value.Value.{Value}
use Rattle.hdl_value.specs.declared.permission.Permission.TheVariants.{AdminWrite}
use Rattle.hdl_value.specs.declared.permission.AdminPermission.TheVariants.{RemoveAdmin, DeleteValue, ModifyAdmin, ModifyValue}
use Rattle.hdl_value.specs.Permission.{permits, is_public, is_kept, mask_permits}
use Rattle.hdl_value.specs.Refs.{is_admin, is_secret_key}
use Rattle.hdl_rows.specs.Heads.{head}
use Rattle.hdl_rows.specs.Table.{Table, value_with}
use Rattle.hdl_auth.specs.declared.algorithm.Algorithm.{Algorithm}
use Rattle.hdl_msg.specs.Codes.{response_number}
use Rattle.hdl_msg.specs.declared.codes.ResponseCode.TheVariants.{Success, HandleNotFound, HandleAlreadyExists, ValueNotFound, ValueAlreadyExists, ValueInvalid, AccessDenied, AuthenticationFailed, UnableToAuthenticate, AuthenticationNeeded}
use Rattle.hdl_msg.specs.Message.{Content, Operation, resolution, site_info, create, delete, add, remove, modify, list, response, other}
use Rattle.hdl_ops.specs.First.{first, or_code}
use Rattle.hdl_ops.specs.Requests.{resolves, creates, is_public_only}
use Rattle.hdl_ops.specs.TableViews.{TableView, table_view, bare, passes, passes_at, is_named, asks}
use Rattle.hdl_ops.specs.Anyone.{is_left, is_open, is_open_write, code_for_anyone}
use Rattle.hdl_ops.specs.Proven.{Proof, code_before_key, code_after_key, code_for_key, key_of, value_at, is_right, misses_at, takes_at, misses, takes, remove_needs, modify_needs, is_allowed, is_locked_at, is_locked, overfills, is_asked, IsCodeForKey, IsCodeBy, IsCodeForProof}
use Rattle.hdl_ops.specs.Decisions.{Level, Anyone, Proven, Decision, decision}

-- ---- tests of heads

any_heads : (p : Value → Bool) → ((v : Value) → p (head v) ≡ p v) → (vs : List Value) → list_any p (map head vs) ≡ list_any p vs
any_heads p same [] = refl
any_heads p same (v ∷ vs) = λ k. same v k || any_heads p same vs k

length_heads : (vs : List Value) → length (map head vs) ≡ length vs
length_heads vs = length-map vs head

with_heads : (i : ℕ) (vs : List Value) → value_with i (map head vs) ≡ option_map head (value_with i vs)
with_heads i [] = refl
with_heads i (v ∷ vs) = by_test (v.index == i) (with_heads i vs)
  where
    by_test : (b : Bool) → value_with i (map head vs) ≡ option_map head (value_with i vs) → cond b (Some (head v)) (value_with i (map head vs)) ≡ option_map head (cond b (Some v) (value_with i vs))
    by_test true e = refl
    by_test false e = e

passes_head : (test : Value → Bool) → ((v : Value) → test (head v) ≡ test v) → (o : Option Value) → passes test (option_map head o) ≡ passes test o
passes_head test same None = refl
passes_head test same (Some v) = same v

passes_heads : (test : Value → Bool) → ((v : Value) → test (head v) ≡ test v) → (vs : List Value) (i : ℕ) → passes_at test (map head vs) i ≡ passes_at test vs i
passes_heads test same vs i = ap (passes test) (with_heads i vs) ∙ passes_head test same (value_with i vs)

some_head : (o : Option Value) → is_some (option_map head o) ≡ is_some o
some_head None = refl
some_head (Some v) = refl

none_head : (o : Option Value) → is_none (option_map head o) ≡ is_none o
none_head None = refl
none_head (Some v) = refl

takes_heads : (vs : List Value) (i : ℕ) → takes_at (map head vs) i ≡ takes_at vs i
takes_heads vs i = ap is_some (with_heads i vs) ∙ some_head (value_with i vs)

misses_heads : (vs : List Value) (i : ℕ) → misses_at (map head vs) i ≡ misses_at vs i
misses_heads vs i = ap is_none (with_heads i vs) ∙ none_head (value_with i vs)

admin_heads : (vs : List Value) (i : ℕ) → passes_at is_admin (map head vs) i ≡ passes_at is_admin vs i
admin_heads = passes_heads is_admin (λ v. refl)

locked_heads : (vs : List Value) (i : ℕ) → is_locked_at (map head vs) i ≡ is_locked_at vs i
locked_heads vs i = ap not (passes_heads (λ v. permits v AdminWrite) (λ v. refl) vs i)

-- ---- by operation

open_write : (o : Operation) (vs : List Value) → is_open_write o (map head vs) ≡ is_open_write o vs
open_write (resolution handle is ts) vs = refl
open_write (create handle news) vs = refl
open_write (delete handle) vs = refl
open_write (add handle news) vs = refl
open_write (remove handle is) vs = λ k. list_all (λ i. passes_heads is_open (λ v. refl) vs i k) is
open_write (modify handle news) vs = λ k. list_all (λ n. not (is_admin n) && passes_heads is_open (λ v. refl) vs n.index k) news
open_write (list handle) vs = refl
open_write (response kind handle index answer) vs = refl
open_write (site_info octets) vs = refl
open_write (other octets) vs = refl

missing : (o : Operation) (vs : List Value) → misses o (map head vs) ≡ misses o vs
missing (resolution handle is ts) vs = refl
missing (create handle news) vs = refl
missing (delete handle) vs = refl
missing (add handle news) vs = refl
missing (remove handle is) vs = λ k. list_any (λ i. misses_heads vs i k) is
missing (modify handle news) vs = λ k. list_any (λ n. misses_heads vs n.index k) news
missing (list handle) vs = refl
missing (response kind handle index answer) vs = refl
missing (site_info octets) vs = refl
missing (other octets) vs = refl

taking : (o : Operation) (vs : List Value) → takes o (map head vs) ≡ takes o vs
taking (resolution handle is ts) vs = refl
taking (create handle news) vs = refl
taking (delete handle) vs = refl
taking (add handle news) vs = λ k. list_any (λ n. takes_heads vs n.index k) news
taking (remove handle is) vs = refl
taking (modify handle news) vs = refl
taking (list handle) vs = refl
taking (response kind handle index answer) vs = refl
taking (site_info octets) vs = refl
taking (other octets) vs = refl

remove_need : (vs : List Value) (i : ℕ) → remove_needs (map head vs) i ≡ remove_needs vs i
remove_need vs i = ap (λ b. cond b RemoveAdmin DeleteValue) (admin_heads vs i)

modify_need : (vs : List Value) (n : Value) → modify_needs (map head vs) n ≡ modify_needs vs n
modify_need vs n = ap (λ b. cond (is_admin n || b) ModifyAdmin ModifyValue) (admin_heads vs n.index)

allowed : (o : Operation) (vs : List Value) (m : ℕ) → is_allowed o (map head vs) m ≡ is_allowed o vs m
allowed (resolution handle is ts) vs m = refl
allowed (create handle news) vs m = refl
allowed (delete handle) vs m = refl
allowed (add handle news) vs m = refl
allowed (remove handle is) vs m = λ k. list_all (λ i. mask_permits m (remove_need vs i k)) is
allowed (modify handle news) vs m = λ k. list_all (λ n. mask_permits m (modify_need vs n k)) news
allowed (list handle) vs m = refl
allowed (response kind handle index answer) vs m = refl
allowed (site_info octets) vs m = refl
allowed (other octets) vs m = refl

locked : (o : Operation) (vs : List Value) → is_locked o (map head vs) ≡ is_locked o vs
locked (resolution handle is ts) vs = refl
locked (create handle news) vs = refl
locked (delete handle) vs = refl
locked (add handle news) vs = refl
locked (remove handle is) vs = λ k. list_any (λ i. locked_heads vs i k) is
locked (modify handle news) vs = λ k. list_any (λ n. locked_heads vs n.index k) news
locked (list handle) vs = refl
locked (response kind handle index answer) vs = refl
locked (site_info octets) vs = refl
locked (other octets) vs = refl

overfilling : (o : Operation) (vs : List Value) → overfills o (map head vs) ≡ overfills o vs
overfilling (resolution handle is ts) vs = refl
overfilling (create handle news) vs = refl
overfilling (delete handle) vs = refl
overfilling (add handle news) vs = ap (λ n. nat_lt VALUES_MAX (n + length news)) (length_heads vs)
overfilling (remove handle is) vs = refl
overfilling (modify handle news) vs = refl
overfilling (list handle) vs = refl
overfilling (response kind handle index answer) vs = refl
overfilling (site_info octets) vs = refl
overfilling (other octets) vs = refl

-- ---- a resolution's tests don't see data: what it asks for is named by index and type

pub asks_head : (o : Operation) (v : Value) → asks o (head v) ≡ asks o v
unfolding is_named
asks_head (resolution handle is ts) v = refl
asks_head (create handle news) v = refl
asks_head (delete handle) v = refl
asks_head (add handle news) v = refl
asks_head (remove handle is) v = refl
asks_head (modify handle news) v = refl
asks_head (list handle) v = refl
asks_head (response kind handle index answer) v = refl
asks_head (site_info octets) v = refl
asks_head (other octets) v = refl

left_head : (r : Content) (v : Value) → is_left r (head v) ≡ is_left r v
left_head r v = λ k. asks_head r.operation v k && (is_public v || (is_kept v && not (is_public_only r)))

kept_head : (r : Content) (v : Value) → (is_left r (head v) && is_kept v) ≡ (is_left r v && is_kept v)
kept_head r v = ap (λ b. b && is_kept v) (left_head r v)

asked_head : (r : Content) (v : Value) → is_asked r (head v) ≡ is_asked r v
asked_head r v = λ k. asks_head r.operation v k && (is_public v || is_kept v)

-- ---- codes

pub anyone_bare : (s : TableView) (r : Content) → code_for_anyone (bare s) r ≡ code_for_anyone s r
unfolding code_for_anyone
anyone_bare s r = λ k. or_code (first
    ((creates r.operation && s.there, response_number HandleAlreadyExists)
    ∷ (not (creates r.operation) && not s.there, response_number HandleNotFound)
    ∷ (resolves r.operation && not (any_heads (is_left r) (left_head r) s.values k), response_number ValueNotFound)
    ∷ (resolves r.operation && any_heads (λ v. is_left r v && is_kept v) (kept_head r) s.values k, response_number AuthenticationNeeded)
    ∷ (resolves r.operation, response_number Success)
    ∷ (open_write r.operation s.values k, response_number Success)
    ∷ [])) (response_number AuthenticationNeeded)

pub before_bare : (s : TableView) (r : Content) (p : Proof) → code_before_key (bare s) r p ≡ code_before_key s r p
unfolding code_before_key
before_bare s r p = refl

behind_bare : (s : TableView) (r : Content) (p : Proof) (m : ℕ) (key : Option Value) → code_after_key (bare s) r p m key ≡ code_after_key s r p m key
unfolding code_after_key
behind_bare s r p m key = λ k. or_code (first
    ((not (passes is_secret_key key), response_number UnableToAuthenticate)
    ∷ (not (is_right key p), response_number AuthenticationFailed)
    ∷ (missing r.operation s.values k, response_number ValueNotFound)
    ∷ (taking r.operation s.values k, response_number ValueAlreadyExists)
    ∷ (not (allowed r.operation s.values m k) || locked r.operation s.values k, response_number AccessDenied)
    ∷ (overfilling r.operation s.values k, response_number ValueInvalid)
    ∷ (resolves r.operation && not (any_heads (is_asked r) (asked_head r) s.values k), response_number ValueNotFound)
    ∷ [])) (response_number Success)

key_bare : (s : TableView) (r : Content) (p : Proof) (m : Option ℕ) (k : Option Value) → code_for_key (bare s) r p m k ≡ code_for_key s r p m k
key_bare s r p None k = refl
key_bare s r p (Some m) k = behind_bare s r p m k

-- ---- the code for a proof, by heads alone

pub by_early : (t : Table) (r : Content) (p : Proof) (seen : TableView) (code : ℕ) → seen ≡ bare (table_view t r) → code_before_key seen r p ≡ Some code → IsCodeForProof t r p code
by_early t r p seen code is early =
    let e : code_before_key (table_view t r) r p ≡ Some code = sym (before_bare (table_view t r) r p) ∙ ap (λ (s : TableView). code_before_key s r p) (sym is) ∙ early in
    subst (λ (o : Option ℕ). IsCodeBy t r p o code) (sym e) refl

pub by_key : (t : Table) (r : Content) (p : Proof) (seen : TableView) (code : ℕ) → seen ≡ bare (table_view t r) → code_before_key seen r p ≡ None → IsCodeForKey t seen r p code → IsCodeForProof t r p code
by_key t r p seen code is early for_key =
    let e : code_before_key (table_view t r) r p ≡ None = sym (before_bare (table_view t r) r p) ∙ ap (λ (s : TableView). code_before_key s r p) (sym is) ∙ early in
    let v = value_at t (key_of p) in
    let same : code_for_key seen r p for_key.0 v ≡ code_for_key (table_view t r) r p for_key.0 v = ap (λ (s : TableView). code_for_key s r p for_key.0 v) is ∙ key_bare (table_view t r) r p for_key.0 v in
    subst (λ (o : Option ℕ). IsCodeBy t r p o code) (sym e) (for_key.0, for_key.1, for_key.2 ∙ same)

-- ---- what fails tells of nothing that is seen

one_branch : {A : Type 0} (b : Bool) (x y z : A) → b ≡ false → cond b x z ≡ cond b y z
one_branch true x y z e = absurd (true≢false e)
one_branch false x y z e = refl

pub failure_alike : (a : Algorithm) (s u : TableView) (r : Content) (level : Level) (code : ℕ) → (code == response_number Success) ≡ false → decision a s r level code ≡ decision a u r level code
unfolding decision
failure_alike a s u r level code e = one_branch (code == response_number Success) _ _ _ e

-- ---- the decision for anyone

pub anyone_failed : (a : Algorithm) (t : Table) (r : Content) (seen : TableView) (code : ℕ) (d : Decision) → seen ≡ bare (table_view t r) → code ≡ code_for_anyone seen r → (code == response_number Success) ≡ false
    → d ≡ decision a seen r Anyone code → d ≡ decision a (table_view t r) r Anyone (code_for_anyone (table_view t r) r)
anyone_failed a t r seen code d is coded fails decided =
    decided ∙ failure_alike a seen (table_view t r) r Anyone code fails ∙ ap (decision a (table_view t r) r Anyone) (coded ∙ ap (λ (s : TableView). code_for_anyone s r) is ∙ anyone_bare (table_view t r) r)

pub anyone_granted : (a : Algorithm) (t u : Table) (r : Content) (seen more : TableView) (code : ℕ) (d : Decision) → u ≡ t → seen ≡ bare (table_view t r) → code ≡ code_for_anyone seen r → code ≡ response_number Success
    → decision a more r Anyone (response_number Success) ≡ decision a (table_view u r) r Anyone (response_number Success) → d ≡ decision a more r Anyone code → d ≡ decision a (table_view t r) r Anyone (code_for_anyone (table_view t r) r)
anyone_granted a t u r seen more code d same is coded granted read decided =
    decided ∙ ap (decision a more r Anyone) granted ∙ read ∙ ap (λ (v : Table). decision a (table_view v r) r Anyone (response_number Success)) same
    ∙ ap (decision a (table_view t r) r Anyone) (sym granted ∙ coded ∙ ap (λ (s : TableView). code_for_anyone s r) is ∙ anyone_bare (table_view t r) r)

-- ---- the decision for a proof

pub proof_failed : (a : Algorithm) (t u : Table) (r : Content) (p : Proof) (seen : TableView) (code : ℕ) (d : Decision) → u ≡ t → IsCodeForProof u r p code → (code == response_number Success) ≡ false
    → d ≡ decision a seen r (Proven p) code → (c : ℕ) × IsCodeForProof t r p c × (d ≡ decision a (table_view t r) r (Proven p) c)
proof_failed a t u r p seen code d same coded fails decided =
    (code, subst (λ (v : Table). IsCodeForProof v r p code) same coded, decided ∙ failure_alike a seen (table_view t r) r (Proven p) code fails)

pub proof_granted : (a : Algorithm) (t u v : Table) (r : Content) (p : Proof) (more : TableView) (code : ℕ) (d : Decision) → u ≡ t → v ≡ t → IsCodeForProof u r p code → code ≡ response_number Success
    → decision a more r (Proven p) (response_number Success) ≡ decision a (table_view v r) r (Proven p) (response_number Success) → d ≡ decision a more r (Proven p) code
    → (c : ℕ) × IsCodeForProof t r p c × (d ≡ decision a (table_view t r) r (Proven p) c)
proof_granted a t u v r p more code d same again coded granted read decided = (
  code,
  subst (λ (w : Table). IsCodeForProof w r p code) same coded,
  decided ∙ ap (decision a more r (Proven p)) granted ∙ read ∙ ap (λ (w : Table). decision a (table_view w r) r (Proven p) (response_number Success)) again ∙ ap (decision a (table_view t r) r (Proven p)) (sym granted),
)
