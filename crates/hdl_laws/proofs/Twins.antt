-- Tables that are twins: what is read of them, what is decided on them, and what a write makes of them.
use Rattle.std.proofs.Common.{◌≡◌, ◌⊎◌, inl, inr, ℕ, List, [], ◌∷◌, Bool, true, false, cond, ◌&&◌, ◌||◌, ◌==◌, Option, Some, None, map, filter, refl, sym, ap, ◌∙◌, subst, is_eq, IsTrue, true≢false, option_map}
use Rattle.std.specs.Prelude.{if◌then◌else◌}
use Rattle.std.specs.Ordering.{nat_cmp}
use Rattle.std.specs.FinSet as set
use Rattle.hdl_name.specs.Name.{prefix, authority}
use Rattle.hdl_value.specs.declared.value.Value.{Value}
use Rattle.hdl_value.specs.Permission.{is_public, is_kept}
use Rattle.hdl_value.specs.Place.{Place, same_handle}
use Rattle.hdl_value.proofs.Places.{place_total, place_antisymmetric, handles_equal}
use Rattle.hdl_rows.specs.Table.{Table, at, values_of, names_of, in_order}
use Rattle.hdl_rows.specs.Write as write
use Rattle.hdl_rows.specs.Write.{Write, handle_of}
use Rattle.hdl_rows.proofs.Writes.{put_at, removed_at, at_after, at-after_write}
use Rattle.hdl_auth.specs.declared.algorithm.Algorithm.{Algorithm}
use Rattle.hdl_auth.specs.Digest.{algorithm_of}
use Rattle.hdl_msg.specs.Message.{Content, Operation, resolution, create, delete, add, remove, modify, list, response, other, site_info}
use Rattle.hdl_msg.specs.declared.replies.ReplyContent.TheVariants.{Values, Handles, Empty}
use Rattle.hdl_ops.specs.declared.change.Change.{Change}
use Rattle.hdl_ops.specs.Admission.{refusal, request_algorithm}
use Rattle.hdl_ops.specs.Requests as requests
use Rattle.hdl_ops.specs.Requests.{sent_handle, resolves, is_list, stored_operation}
use Rattle.hdl_ops.specs.TableViews.{TableView, table_view, asks}
use Rattle.hdl_ops.specs.Proven.{Proof}
use Rattle.hdl_ops.specs.Replies.{fits}
use Rattle.hdl_ops.specs.Decisions.{Level, Anyone, Proven, Decision, DecidesBy, decision, success, failure, show, carried_content, carried_by, may_read, change_of}
use Rattle.hdl_ops.specs.Tables.{write_of, stamped_write, apply_if}
use Rattle.hdl_ops.proofs.Codes.{decides_code}
use Rattle.hdl_laws.specs.Tasks.{Task, Ignore, Break, Malformed, Unknown, Late, Deny, Ask, Inform, Redeem}
use Rattle.hdl_laws.specs.Effects.{Effect, Does, ask_effect, answer_effect}
use Rattle.hdl_laws.specs.Isolation.{is_authorised, may_be_read, without_content, readable, AreTwins, code_of, proven_request}
use Rattle.hdl_laws.proofs.Maps.{get-retained, alike_values}
use Rattle.hdl_laws.proofs.Codes.{answer_code, ask_code}

-- ---- what may be read is the same

-- a level reads no more than may be read, where the handle is held or not
abbrev Reads : Bool → Level → Type 0
Reads held level = (v : Value) → (is_public v || (is_kept v && held)) ≡ false → may_read level v ≡ false

reads_public : (held : Bool) → Reads held Anyone
reads_public held v e = first_false (is_public v) _ e
  where
    first_false : (a b : Bool) → (a || b) ≡ false → a ≡ false
    first_false true b e = e
    first_false false b e = refl

reads_kept : (held : Bool) (p : Proof) → held ≡ true → Reads held (Proven p)
reads_kept held p e v f = ap (λ b. is_public v || b) (sym (with_true (is_kept v))) ∙ ap (λ b. is_public v || (is_kept v && b)) (sym e) ∙ f
  where
    with_true : (b : Bool) → (b && true) ≡ b
    with_true true = refl
    with_true false = refl

module _ (H : List (List ℕ)) (h : List ℕ) (level : Level) (o : Operation) (reads : Reads (is_authorised H h) level) where
  abbrev wanted : Value → Bool
  wanted v = asks o v && may_read level v

  and_false : (a c : Bool) → c ≡ false → (a && c) ≡ false
  and_false true c e = e
  and_false false c e = refl

  one_readable : (v : Value) (c : Bool) → may_be_read H h v ≡ c → (vs ws : List Value) → vs ≡ ws → cond (wanted (cond c v (without_content v))) ((cond c v (without_content v)) ∷ vs) vs ≡ cond (wanted v) (v ∷ ws) ws
  one_readable v true e vs ws same = ap (λ xs. cond (wanted v) (v ∷ xs) xs) same
  one_readable v false e vs ws same =
      let w : Value = without_content v in
      ap (λ t. cond t (w ∷ vs) vs) (and_false (asks o w) (may_read level w) (reads w e))
      ∙ same
      ∙ sym (ap (λ t. cond t (v ∷ ws) ws) (and_false (asks o v) (may_read level v) (reads v e)))

  wanted_readable : (vs : List Value) → filter wanted (map (readable H h) vs) ≡ filter wanted vs
  wanted_readable [] = refl
  wanted_readable (v ∷ vs) = one_readable v _ refl _ _ (wanted_readable vs)

gated_map : {X Y : Type 0} (f : X → Y) (b : Bool) (x y : Option X) → (b ≡ true → option_map f x ≡ option_map f y) → option_map f (cond b x None) ≡ option_map f (cond b y None)
gated_map f true x y e = e refl
gated_map f false x y e = refl

-- success, or a failure of another code that says nothing
abbrev IsFormOf : TableView → Content → Level → Decision → Type 0
IsFormOf s r level d = (d ≡ success s r level) ⊎ ((n : ℕ) × ((n == 1) ≡ false) × (d ≡ failure n Empty))

decision_form : (a : Algorithm) (s : TableView) (r : Content) (level : Level) (code : ℕ) → IsFormOf s r level (decision a s r level code)
unfolding decision
decision_form a s r level code = pick (code == 1) refl (fits a r (carried_content s r level))
  where
    pick : (b : Bool) → code == 1 ≡ b → (c : Bool) → IsFormOf s r level (cond {A = Decision} b (cond {A = Decision} c (success s r level) (failure 2 Empty)) (failure code Empty))
    pick true e true = inl refl
    pick true e false = inr (2, refl, refl)
    pick false e c = inr (code, e, refl)

forms_twin : (s s' : TableView) (r : Content) (level : Level) (d d' : Decision) → IsFormOf s r level d → IsFormOf s' r level d' → d.code ≡ d'.code → (d.code ≡ 1 → success s r level ≡ success s' r level) → d ≡ d'
forms_twin s s' r level d d' (inl a) (inl b) e f = a ∙ f (ap (λ (z : Decision). z.code) a) ∙ sym b
forms_twin s s' r level d d' (inl a) (inr b) e f =
    absurd (true≢false (ap (λ n. n == 1) (sym (ap (λ (z : Decision). z.code) a) ∙ e ∙ ap (λ (z : Decision). z.code) b.2) ∙ b.1))
forms_twin s s' r level d d' (inr a) (inl b) e f =
    absurd (true≢false (ap (λ n. n == 1) (sym (ap (λ (z : Decision). z.code) b) ∙ sym e ∙ ap (λ (z : Decision). z.code) a.2) ∙ a.1))
forms_twin s s' r level d d' (inr a) (inr b) e f =
    a.2 ∙ ap (λ n. failure n Empty) (sym (ap (λ (z : Decision). z.code) a.2) ∙ e ∙ ap (λ (z : Decision). z.code) b.2) ∙ sym b.2

module _ (H : List (List ℕ)) (t t' : Table) (twins : AreTwins H t t') where
  values_twin : (h : List ℕ) → map (readable H h) (values_of t h) ≡ map (readable H h) (values_of t' h)
  values_twin h = alike_values place_total place_antisymmetric (readable H h) _ _ (λ p.
      ap (option_map (readable H h)) (get-retained place_antisymmetric t.values (λ q. same_handle q.handle h) p)
      ∙ gated_map (readable H h) (same_handle p.handle h) (at t p) (at t' p) (λ e. subst (λ g. option_map (readable H g) (at t p) ≡ option_map (readable H g) (at t' p)) (handles_equal _ _ e) (twins.values p))
      ∙ sym (ap (option_map (readable H h)) (get-retained place_antisymmetric t'.values (λ q. same_handle q.handle h) p)))

  show_twin : (r : Content) (level : Level) → Reads (is_authorised H (requests.handle_of r)) level → show (table_view t r) r level ≡ show (table_view t' r) r level
  unfolding table_view
  show_twin r level reads =
      let h = requests.handle_of r in
      sym (wanted_readable H h level r.operation reads (values_of t h))
      ∙ ap (filter (λ v. asks r.operation v && may_read level v)) (values_twin h)
      ∙ wanted_readable H h level r.operation reads (values_of t' h)

  names_twin : (a : List ℕ) → names_of t a ≡ names_of t' a
  names_twin a = ap (λ s. in_order (set.retain s (λ h. same_handle (authority h) a))) twins.handles

  sight_names_twin : (r : Content) → (table_view t r).names ≡ (table_view t' r).names
  unfolding table_view
  sight_names_twin r = ap (λ names. if is_list r.operation then names else []) (names_twin (prefix (sent_handle r.operation)))

  carried_twin : (o : Operation) (r : Content) (level : Level) → (IsTrue (resolves o) → Reads (is_authorised H (requests.handle_of r)) level) → carried_by o (table_view t r) r level ≡ carried_by o (table_view t' r) r level
  carried_twin (resolution handle indexes types) r level f = ap (Values r.wire handle) (show_twin r level (f refl))
  carried_twin (list handle) r level f = ap Handles (sight_names_twin r)
  carried_twin (create handle values) r level f = refl
  carried_twin (delete handle) r level f = refl
  carried_twin (add handle values) r level f = refl
  carried_twin (remove handle indexes) r level f = refl
  carried_twin (modify handle values) r level f = refl
  carried_twin (response kind handle index answer) r level f = refl
  carried_twin (site_info octets) r level f = refl
  carried_twin (other octets) r level f = refl

  success_twin : (r : Content) (level : Level) → (IsTrue (resolves r.operation) → Reads (is_authorised H (requests.handle_of r)) level) → success (table_view t r) r level ≡ success (table_view t' r) r level
  success_twin r level f = λ i. record { code = 1; content = carried_twin r.operation r level f i; change = change_of (stored_operation r) }

  -- decisions of one code are one
  decides_twin : (g : Algorithm) (r : Content) (level : Level) (d d' : Decision) (c : Option ℕ) → DecidesBy g t r level c d → DecidesBy g t' r level c d' → d.code ≡ d'.code → (d.code ≡ 1 → IsTrue (resolves r.operation) → Reads (is_authorised H (requests.handle_of r)) level) → d ≡ d'
  decides_twin g r level d d' (Some c) a b e f = a ∙ sym b
  decides_twin g r Anyone d d' None a b e f =
      forms_twin (table_view t r) (table_view t' r) r Anyone d d' (subst (IsFormOf (table_view t r) r Anyone) (sym a) (decision_form g (table_view t r) r Anyone _)) (subst (IsFormOf (table_view t' r) r Anyone) (sym b) (decision_form g (table_view t' r) r Anyone _)) e (λ is. success_twin r Anyone (f is))
  decides_twin g r (Proven p) d d' None a b e f =
      forms_twin (table_view t r) (table_view t' r) r (Proven p) d d' (subst (IsFormOf (table_view t r) r (Proven p)) (sym a.2) (decision_form g (table_view t r) r (Proven p) a.0)) (subst (IsFormOf (table_view t' r) r (Proven p)) (sym b.2) (decision_form g (table_view t' r) r (Proven p) b.0)) e (λ is. success_twin r (Proven p) (f is))

  abbrev effect_code : Effect → ℕ
  effect_code x = code_of x.outcome

  -- effects of one code are one
  pub does_twin : (hosted : List ℕ → Bool) (algorithms : List ℕ → Algorithm) (k : Task) (x y : Effect) → Does hosted algorithms t k x → Does hosted algorithms t' k y → code_of x.outcome ≡ code_of y.outcome
      → ((r : Content) → proven_request k ≡ Some r → IsTrue (resolves r.operation) → code_of x.outcome ≡ 1 → IsTrue (is_authorised H (requests.handle_of r))) → x ≡ y
  does_twin hosted algorithms (Ignore s) x y a b e f = a ∙ sym b
  does_twin hosted algorithms (Break session request s) x y a b e f = a ∙ sym b
  does_twin hosted algorithms (Malformed m s) x y a b e f = a ∙ sym b
  does_twin hosted algorithms (Unknown m r s) x y a b e f = a ∙ sym b
  does_twin hosted algorithms (Late m r g s) x y a b e f = a ∙ sym b
  does_twin hosted algorithms (Deny m r s) x y a b e f = a ∙ sym b
  does_twin hosted algorithms (Ask m r s) x y a b e f =
      let here : code_of x.outcome ≡ a.0.code = ap effect_code a.2 ∙ ask_code (request_algorithm algorithms r) s m r a.0 (decides_code hosted (request_algorithm algorithms r) t r Anyone a.0 a.1) in
      let there : code_of y.outcome ≡ b.0.code = ap effect_code b.2 ∙ ask_code (request_algorithm algorithms r) s m r b.0 (decides_code hosted (request_algorithm algorithms r) t' r Anyone b.0 b.1) in
      a.2 ∙ ap (ask_effect (request_algorithm algorithms r) s m r) (decides_twin (request_algorithm algorithms r) r Anyone a.0 b.0 (refusal hosted r) a.1 b.1 (sym here ∙ e ∙ there) (λ is res. reads_public (is_authorised H (requests.handle_of r)))) ∙ sym b.2
  does_twin hosted algorithms (Inform m r site s) x y a b e f = a ∙ sym b
  does_twin hosted algorithms (Redeem m r p s) x y a b e f =
      let here : code_of x.outcome ≡ a.0.code = ap effect_code a.2 ∙ answer_code (algorithm_of p.digest) s m r a.0 (decides_code hosted (algorithm_of p.digest) t r (Proven p) a.0 a.1) in
      let there : code_of y.outcome ≡ b.0.code = ap effect_code b.2 ∙ answer_code (algorithm_of p.digest) s m r b.0 (decides_code hosted (algorithm_of p.digest) t' r (Proven p) b.0 b.1) in
      a.2 ∙ ap (answer_effect (algorithm_of p.digest) s m r) (decides_twin (algorithm_of p.digest) r (Proven p) a.0 b.0 (refusal hosted r) a.1 b.1 (sym here ∙ e ∙ there) (λ is res. reads_kept (is_authorised H (requests.handle_of r)) p (f r refl res (here ∙ is)))) ∙ sym b.2

  -- ---- writes of twins

  put_twin : (f : Value → Value) (vs : List Value) (i : ℕ) (x y : Option Value) → option_map f x ≡ option_map f y → option_map f (put_at vs i x) ≡ option_map f (put_at vs i y)
  put_twin f [] i x y e = e
  put_twin f (v ∷ vs) i x y e = put_twin f vs i _ _ (pick (is_eq (nat_cmp i v.index)))
    where
      pick : (b : Bool) → option_map f (cond b (Some v) x) ≡ option_map f (cond b (Some v) y)
      pick true = refl
      pick false = e

  removed_twin : (f : Value → Value) (is : List ℕ) (i : ℕ) (x y : Option Value) → option_map f x ≡ option_map f y → option_map f (removed_at is i x) ≡ option_map f (removed_at is i y)
  removed_twin f [] i x y e = e
  removed_twin f (j ∷ js) i x y e = removed_twin f js i _ _ (pick (is_eq (nat_cmp i j)))
    where
      pick : (b : Bool) → option_map f (cond b None x) ≡ option_map f (cond b None y)
      pick true = refl
      pick false = e

  after_twin : (f : Value → Value) (w : Write) (i : ℕ) (x y : Option Value) → option_map f x ≡ option_map f y → option_map f (at_after w i x) ≡ option_map f (at_after w i y)
  after_twin f (write.Create h vs) i x y e = put_twin f vs i x y e
  after_twin f (write.Delete h) i x y e = refl
  after_twin f (write.Add h vs) i x y e = put_twin f vs i x y e
  after_twin f (write.Remove h is) i x y e = removed_twin f is i x y e
  after_twin f (write.Modify h vs) i x y e = put_twin f vs i x y e

  handles_twin : (w : Write) → (write.after_write t w).handles ≡ (write.after_write t' w).handles
  handles_twin (write.Create h vs) = ap (λ s. set.insert s h) twins.handles
  handles_twin (write.Delete h) = ap (λ s. set.remove s h) twins.handles
  handles_twin (write.Add h vs) = twins.handles
  handles_twin (write.Remove h is) = twins.handles
  handles_twin (write.Modify h vs) = twins.handles

  write_twin : (w : Write) → AreTwins H (write.after_write t w) (write.after_write t' w)
  write_twin w = record {
    handles = handles_twin w;
    values = λ p.
        ap (option_map (readable H p.handle)) (at-after_write t w p)
        ∙ either p (same_handle p.handle (handle_of w))
        ∙ sym (ap (option_map (readable H p.handle)) (at-after_write t' w p));
  }
    where
      either : (p : Place) (b : Bool) → option_map (readable H p.handle) (cond b (at_after w p.index (at t p)) (at t p)) ≡ option_map (readable H p.handle) (cond b (at_after w p.index (at t' p)) (at t' p))
      either p true = after_twin (readable H p.handle) w p.index (at t p) (at t' p) (twins.values p)
      either p false = twins.values p

  pub apply_twin : (moment : ℕ) (c : Option Change) → AreTwins H (apply_if t moment c) (apply_if t' moment c)
  apply_twin moment None = twins
  apply_twin moment (Some c) = write_twin (stamped_write moment (write_of c))
