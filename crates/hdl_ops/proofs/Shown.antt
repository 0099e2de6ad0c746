-- What is read of a request that is granted gives the decision.
use Rattle.std.proofs.Common.{◌≡◌, ◌≤◌, ◌<◌, ◌+◌, ◌*◌, ℕ, zero, suc, List, [], ◌∷◌, ◌++◌, Bool, true, false, cond, map, filter, take, length, sum_by, Option, Some, None, refl, sym, ap, ◌∙◌, inl, inr, ◌==◌, ◌&&◌, subst, arith, length-append, true≢false, get_or}
use Rattle.std.specs.Prelude.{nat_le}
use Rattle.std.specs.List.{AllByRecursion, flat_map}
use Rattle.std.proofs.lemmas.Bool.{leb-true, false_from_ne_true}
use Rattle.std.proofs.lemmas.List.{take_more, flat_map_more}
use Rattle.hdl_limits.specs.declared.TheConstants.{MESSAGE_MAX}
use Rattle.std.specs.Int.{w32, to_be_bytes}
use Rattle.std.proofs.lemmas.List.Sums.{sum_by-cons, sum_by-take-le, sum_by_more}
use Rattle.std.proofs.lemmas.List.Concat.{flat_map-cons}
use Rattle.hdl_name.specs.Name.{canonical, prefix}
use Rattle.hdl_value.specs.declared.references.RawRef.{RawRef}
use Rattle.hdl_value.specs.declared.value.Value.{Value}
use Rattle.hdl_value.specs.Spelling.{reference}
use Rattle.hdl_value.specs.declared.wire.Wire.{Wire}
use Rattle.hdl_value.specs.declared.wire.Wire.TheVariants.{Profile, HandleNet}
use Rattle.hdl_value.specs.Wires.{wire_spelling}
use Rattle.hdl_rows.specs.declared.reads.TheConstants.{CALL_OCTETS}
use Rattle.hdl_rows.specs.Heads.{head}
use Rattle.hdl_rows.specs.Reads.{of_value, value_octets, values_octets, reference_octets}
use Rattle.hdl_rows.specs.Table.{Table, place, at, values_of, names_of, HaveTheirIndexes}
use Rattle.hdl_rows.proofs.Indexed.{stand_at_their_own}
use Rattle.hdl_auth.specs.declared.algorithm.Algorithm.{Algorithm}
use Rattle.hdl_msg.specs.Codes.{response_number}
use Rattle.hdl_msg.specs.declared.codes.ResponseCode.TheVariants.{Success, Error}
use Rattle.hdl_msg.specs.Message.{Content, Operation, resolution, site_info, create, delete, add, remove, modify, list, response, other, count_prefixed}
use Rattle.hdl_msg.specs.Reply.{reply_message}
use Rattle.hdl_msg.specs.declared.fields.Header.{Header}
use Rattle.hdl_msg.specs.declared.replies.ReplyContent.TheVariants.{Values, Handles, Empty}
use Rattle.hdl_msg.proofs.Written.{length-spelling, length-reply_message}
use Rattle.hdl_ops.specs.declared.seeing.TheConstants.{READ_MAX}
use Rattle.hdl_ops.specs.Decisions.{Level, Anyone, Proven, may_read, carried_content, change_of, success, failure, decision}
use Rattle.hdl_ops.specs.Replies.{reply_to, fits}
use Rattle.hdl_ops.specs.Requests.{sent_handle, handle_of, resolves, is_list, stored_operation}
use Rattle.hdl_ops.specs.Seeing.{one_or_none, found_at, whole_of, cost_of_reading, IsEnough}
use Rattle.hdl_ops.specs.TableViews.{TableView, table_view, bare, asks}
use Rattle.hdl_ops.proofs.Bare.{asks_head}

-- ---- lists

kept : (P : Value → Type 0) (p : Value → Bool) (vs : List Value) → AllByRecursion P vs → AllByRecursion P (filter p vs)
kept P p [] all = tt
kept P p (v ∷ vs) all = by_test (p v) (kept P p vs all.1)
  where
    by_test : (b : Bool) → AllByRecursion P (filter p vs) → AllByRecursion P (cond b (v ∷ filter p vs) (filter p vs))
    by_test true rest = (all.0, rest)
    by_test false rest = rest

each_passes : (p : Value → Bool) (vs : List Value) → AllByRecursion (λ v. p v ≡ true) (filter p vs)
each_passes p [] = tt
each_passes p (v ∷ vs) = by_test (p v) refl (each_passes p vs)
  where
    by_test : (b : Bool) → p v ≡ b → AllByRecursion (λ v. p v ≡ true) (filter p vs) → AllByRecursion (λ v. p v ≡ true) (cond b (v ∷ filter p vs) (filter p vs))
    by_test true is rest = (is, rest)
    by_test false is rest = rest

all_pass : (p : Value → Bool) (vs : List Value) → AllByRecursion (λ v. p v ≡ true) vs → filter p vs ≡ vs
all_pass p [] all = refl
all_pass p (v ∷ vs) all = ap (λ b. cond b (v ∷ filter p vs) (filter p vs)) all.0 ∙ ap (λ ws. v ∷ ws) (all_pass p vs all.1)

taken : (P : Value → Type 0) (k : ℕ) (vs : List Value) → AllByRecursion P vs → AllByRecursion P (take k vs)
taken P zero vs all = tt
taken P (suc k) [] all = tt
taken P (suc k) (v ∷ vs) all = (all.0, taken P k vs all.1)

take_heads : (k : ℕ) (vs : List Value) → take k (map head vs) ≡ map head (take k vs)
take_heads zero vs = refl
take_heads (suc k) [] = refl
take_heads (suc k) (v ∷ vs) = ap (λ ws. head v ∷ ws) (take_heads k vs)

filter_heads : (p : Value → Bool) → ((v : Value) → p (head v) ≡ p v) → (vs : List Value) → filter p (map head vs) ≡ map head (filter p vs)
filter_heads p same [] = refl
filter_heads p same (v ∷ vs) = (λ k. cond (same v k) (head v ∷ filter_heads p same vs k) (filter_heads p same vs k)) ∙ by_test (p v)
  where
    by_test : (b : Bool) → cond b (head v ∷ map head (filter p vs)) (map head (filter p vs)) ≡ map head (cond b (v ∷ filter p vs) (filter p vs))
    by_test true = refl
    by_test false = refl

-- ---- heads of values that stand at their own indexes are read as these values

abbrev Stands : Table → List ℕ → Value → Type 0
Stands t h v = at t (place h v.index) ≡ Some v

whole_heads : (t : Table) (h : List ℕ) (vs : List Value) → AllByRecursion (Stands t h) vs → whole_of t h (map head vs) ≡ vs
whole_heads t h [] all = refl
whole_heads t h (v ∷ vs) all = λ k. one_or_none (all.0 k) ++ whole_heads t h vs all.1 k

-- a call for each of these values, and the value
abbrev pub call_octets : Value → ℕ
call_octets v = CALL_OCTETS + value_octets v

abbrev pub cost_of_shown : List Value → ℕ
cost_of_shown vs = sum_by call_octets vs

abbrev read_octets : Table → List ℕ → Value → ℕ
read_octets t h v = CALL_OCTETS + values_octets (found_at t h v)

pub reading_costs : (t : Table) (h : List ℕ) (vs : List Value) → AllByRecursion (Stands t h) vs → cost_of_reading t h (map head vs) ≡ cost_of_shown vs
reading_costs t h [] all = refl
reading_costs t h (v ∷ vs) all =
    let one : values_octets (one_or_none (at t (place h v.index))) ≡ value_octets v = ap (λ o. values_octets (one_or_none o)) all.0 ∙ omega arith in
    sum_by-cons (read_octets t h) (head v) (map head vs) ∙ (λ k. (CALL_OCTETS + one k) + reading_costs t h vs all.1 k) ∙ sym (sum_by-cons call_octets v vs)

-- ---- what is too much for a message

length_more : {A : Type 0} (w : A → List ℕ) (x : A) (xs : List A) → length (flat_map w (x ∷ xs)) ≡ length (w x) + length (flat_map w xs)
length_more w x xs = ap length (flat_map-cons w x xs) ∙ length-append (w x) (flat_map w xs)

weighs_reference : (r : RawRef) → reference_octets r ≤ length (reference r)
weighs_reference r = omega (arith, length-append r.handle (to_be_bytes w32 r.index))

each_weighs : {A : Type 0} (f : A → ℕ) (w : A → List ℕ) → ((x : A) → f x ≤ length (w x)) → (xs : List A) → sum_by f xs ≤ length (flat_map w xs)
each_weighs f w each [] = omega arith
each_weighs f w each (x ∷ xs) = omega (arith, each x, each_weighs f w each xs, length_more w x xs, sum_by-cons f x xs)

weighs_references : (rs : List RawRef) → sum_by reference_octets rs ≤ length (flat_map reference rs)
weighs_references rs = each_weighs reference_octets reference weighs_reference rs

all_by_parts : {A : Type 0} (f : A → ℕ) (w : A → List ℕ) → ((x : A) → 21 * f x ≤ 46 * length (w x)) → (xs : List A) → 21 * sum_by f xs ≤ 46 * length (flat_map w xs)
all_by_parts f w each [] = omega arith
all_by_parts f w each (x ∷ xs) = omega (arith, each x, all_by_parts f w each xs, length_more w x xs, sum_by-cons f x xs)

weighs : (wire : Wire) (v : Value) → 21 * call_octets v ≤ 46 * length (wire_spelling wire v)
weighs Profile v = omega (arith, length-spelling Profile v, weighs_references v.references)
weighs HandleNet v = omega (arith, length-spelling HandleNet v, weighs_references v.references)

all_weigh : (wire : Wire) (vs : List Value) → 21 * cost_of_shown vs ≤ 46 * length (flat_map (wire_spelling wire) vs)
all_weigh wire vs = all_by_parts call_octets (wire_spelling wire) (weighs wire) vs

too_long : (a : Algorithm) (r : Content) (wire : Wire) (handle : List ℕ) (vs : List Value) → READ_MAX < cost_of_shown vs → fits a r (Values wire handle vs) ≡ false
unfolding fits reply_to
too_long a r wire handle vs more =
    let y = reply_to a 0 0 0 r 0 (Values wire handle vs) in
    false_from_ne_true (nat_le (length (reply_message y)) MESSAGE_MAX) (λ e.
    let le = leb-true (length (reply_message y)) MESSAGE_MAX e in
    omega (arith, le, length-reply_message y, length-append handle (count_prefixed (wire_spelling wire) vs), all_weigh wire vs, more))

-- ---- a decision depends on what its reply carries

alike : (a : Algorithm) (s u : TableView) (r : Content) (level : Level) (code : ℕ) → carried_content s r level ≡ carried_content u r level → decision a s r level code ≡ decision a u r level code
unfolding decision
alike a s u r level code e =
    λ k. cond (code == response_number Success) (cond (fits a r (e k)) (record { code = response_number Success; content = e k; change = change_of (stored_operation r) }) (failure (response_number Error) Empty)) (failure code Empty)

both_too_long : (a : Algorithm) (s u : TableView) (r : Content) (level : Level) (code : ℕ) → fits a r (carried_content s r level) ≡ false → fits a r (carried_content u r level) ≡ false → decision a s r level code ≡ decision a u r level code
unfolding decision
both_too_long a s u r level code one second =
    ap (λ b. cond (code == response_number Success) (cond b (success s r level) (failure (response_number Error) Empty)) (failure code Empty)) one
    ∙ sym (ap (λ b. cond (code == response_number Success) (cond b (success u r level) (failure (response_number Error) Empty)) (failure code Empty)) second)

-- ---- a resolution that is granted

abbrev pub shows : Content → Level → Value → Bool
shows r level v = asks r.operation v && may_read level v

may_head : (level : Level) (v : Value) → may_read level (head v) ≡ may_read level v
may_head Anyone v = refl
may_head (Proven p) v = refl

shows_head : (r : Content) (level : Level) (v : Value) → shows r level (head v) ≡ shows r level v
shows_head r level v = λ k. asks_head r.operation v k && may_head level v k

module _ (a : Algorithm) (t : Table) (wire : Wire) (header : Header) (handle is : List ℕ) (ts : List (List ℕ)) (level : Level) where
  abbrev r : Content
  r = record { wire = wire; header = header; operation = resolution handle is ts }

  abbrev h : List ℕ
  h = canonical (sent_handle r.operation)

  abbrev shown : List Value
  shown = filter (shows r level) (values_of t h)

  pub shown_heads : filter (shows r level) (map head (values_of t h)) ≡ map head shown
  shown_heads = filter_heads (shows r level) (shows_head r level) (values_of t h)

  module _ (have : HaveTheirIndexes t h (values_of t h)) where
    each_stands : AllByRecursion (Stands t h) shown
    each_stands = kept (Stands t h) (shows r level) (values_of t h) (stand_at_their_own t h have)

    all_read : (s : TableView) → s.values ≡ whole_of t h (filter (shows r level) (map head (values_of t h))) → decision a s r level (response_number Success) ≡ decision a (table_view t r) r level (response_number Success)
    unfolding table_view handle_of
    all_read s read =
        let values : s.values ≡ shown = read ∙ ap (whole_of t h) shown_heads ∙ whole_heads t h shown each_stands in
        let same : filter (shows r level) s.values ≡ shown = ap (filter (shows r level)) values ∙ all_pass (shows r level) shown (each_passes (shows r level) (values_of t h)) in
        alike a s (table_view t r) r level (response_number Success) (ap (Values wire handle) same)

    too_much : (s : TableView) (k : ℕ) → s.values ≡ whole_of t h (take k (filter (shows r level) (map head (values_of t h)))) → READ_MAX < cost_of_reading t h (take k (filter (shows r level) (map head (values_of t h))))
        → decision a s r level (response_number Success) ≡ decision a (table_view t r) r level (response_number Success)
    unfolding table_view handle_of
    too_much s k read more =
        let heads : take k (filter (shows r level) (map head (values_of t h))) ≡ map head (take k shown) = ap (take k) shown_heads ∙ take_heads k shown in
        let stand : AllByRecursion (Stands t h) (take k shown) = taken (Stands t h) k shown each_stands in
        let values : s.values ≡ take k shown = read ∙ ap (whole_of t h) heads ∙ whole_heads t h (take k shown) stand in
        let same : filter (shows r level) s.values ≡ take k shown =
        ap (filter (shows r level)) values ∙ all_pass (shows r level) (take k shown) (taken (λ v. shows r level v ≡ true) k shown (each_passes (shows r level) (values_of t h))) in
        let some : READ_MAX < cost_of_shown (take k shown) = subst (λ n. READ_MAX < n) (ap (cost_of_reading t h) heads ∙ reading_costs t h (take k shown) stand) more in
        both_too_long a s (table_view t r) r level (response_number Success)
        (too_long a r wire handle (filter (shows r level) s.values) (subst (λ ws. READ_MAX < cost_of_shown ws) (sym same) some))
        (too_long a r wire handle shown (omega (arith, some, sum_by-take-le call_octets shown k)))

    pub resolution_read : (s : TableView) → IsEnough t h (filter (shows r level) (map head (values_of t h))) s.values → decision a s r level (response_number Success) ≡ decision a (table_view t r) r level (response_number Success)
    resolution_read s (inl all) = all_read s all
    resolution_read s (inr some) = too_much s some.0 some.1 some.2

-- ---- by operation

pub granted_resolution : (a : Algorithm) (t : Table) (wire : Wire) (header : Header) (o : Operation) (level : Level) (s : TableView) → resolves o ≡ true
    → HaveTheirIndexes t (canonical (sent_handle o)) (values_of t (canonical (sent_handle o)))
    → IsEnough t (canonical (sent_handle o)) (filter (λ v. asks o v && may_read level v) (map head (values_of t (canonical (sent_handle o))))) s.values
    → decision a s (record { wire = wire; header = header; operation = o }) level (response_number Success) ≡ decision a (table_view t (record { wire = wire; header = header; operation = o })) (record { wire = wire; header = header; operation = o }) level (response_number Success)
granted_resolution a t wire header (resolution handle is ts) level s e have enough = resolution_read a t wire header handle is ts level have s enough
granted_resolution a t wire header (create handle news) level s e have enough = absurd (true≢false (sym e))
granted_resolution a t wire header (delete handle) level s e have enough = absurd (true≢false (sym e))
granted_resolution a t wire header (add handle news) level s e have enough = absurd (true≢false (sym e))
granted_resolution a t wire header (remove handle is) level s e have enough = absurd (true≢false (sym e))
granted_resolution a t wire header (modify handle news) level s e have enough = absurd (true≢false (sym e))
granted_resolution a t wire header (list handle) level s e have enough = absurd (true≢false (sym e))
granted_resolution a t wire header (response kind handle index answer) level s e have enough = absurd (true≢false (sym e))
granted_resolution a t wire header (site_info octets) level s e have enough = absurd (true≢false (sym e))
granted_resolution a t wire header (other octets) level s e have enough = absurd (true≢false (sym e))

pub granted_list : (a : Algorithm) (t : Table) (wire : Wire) (header : Header) (o : Operation) (level : Level) (s : TableView) → is_list o ≡ true → s.names ≡ names_of t (prefix (sent_handle o))
    → decision a s (record { wire = wire; header = header; operation = o }) level (response_number Success) ≡ decision a (table_view t (record { wire = wire; header = header; operation = o })) (record { wire = wire; header = header; operation = o }) level (response_number Success)
unfolding table_view
granted_list a t wire header (list handle) level s e names = alike a s (table_view t (record { wire = wire; header = header; operation = list handle })) (record { wire = wire; header = header; operation = list handle }) level (response_number Success) (ap Handles names)
granted_list a t wire header (resolution handle is ts) level s e names = absurd (true≢false (sym e))
granted_list a t wire header (create handle news) level s e names = absurd (true≢false (sym e))
granted_list a t wire header (delete handle) level s e names = absurd (true≢false (sym e))
granted_list a t wire header (add handle news) level s e names = absurd (true≢false (sym e))
granted_list a t wire header (remove handle is) level s e names = absurd (true≢false (sym e))
granted_list a t wire header (modify handle news) level s e names = absurd (true≢false (sym e))
granted_list a t wire header (response kind handle index answer) level s e names = absurd (true≢false (sym e))
granted_list a t wire header (site_info octets) level s e names = absurd (true≢false (sym e))
granted_list a t wire header (other octets) level s e names = absurd (true≢false (sym e))

pub granted_write : (a : Algorithm) (t : Table) (wire : Wire) (header : Header) (o : Operation) (level : Level) (s : TableView) → resolves o ≡ false → is_list o ≡ false
    → decision a s (record { wire = wire; header = header; operation = o }) level (response_number Success) ≡ decision a (table_view t (record { wire = wire; header = header; operation = o })) (record { wire = wire; header = header; operation = o }) level (response_number Success)
granted_write a t wire header o level s e f = alike a s _ _ level (response_number Success) (nothing o e f)
  where
    nothing : (o : Operation) → resolves o ≡ false → is_list o ≡ false → carried_content s (record { wire = wire; header = header; operation = o }) level ≡ carried_content (table_view t (record { wire = wire; header = header; operation = o })) (record { wire = wire; header = header; operation = o }) level
    nothing (resolution handle is ts) e f = absurd (true≢false e)
    nothing (create handle news) e f = refl
    nothing (delete handle) e f = refl
    nothing (add handle news) e f = refl
    nothing (remove handle is) e f = refl
    nothing (modify handle news) e f = refl
    nothing (list handle) e f = absurd (true≢false f)
    nothing (response kind handle index answer) e f = refl
    nothing (site_info octets) e f = refl
    nothing (other octets) e f = refl

-- ---- what is seen of a request that is granted

pub see_resolution : (a : Algorithm) (t : Table) (r : Content) (level : Level) (before after : TableView) (place : List ℕ) (heads : List Value) → before ≡ bare (table_view t r) → place ≡ sent_handle r.operation → resolves r.operation ≡ true
    → HaveTheirIndexes t (handle_of r) (table_view t r).values → heads ≡ filter (λ v. asks r.operation v && may_read level v) before.values → IsEnough t (canonical place) heads after.values
    → decision a after r level (response_number Success) ≡ decision a (table_view t r) r level (response_number Success)
unfolding table_view handle_of
see_resolution a t r level before after place heads seen named e have kept enough =
    let all : heads ≡ filter (λ v. asks r.operation v && may_read level v) (map head (values_of t (canonical (sent_handle r.operation)))) =
    kept ∙ ap (λ (s : TableView). filter (λ v. asks r.operation v && may_read level v) s.values) seen in
    granted_resolution a t r.wire r.header r.operation level after e have
    (subst (λ hs. IsEnough t (canonical (sent_handle r.operation)) hs after.values) all (subst (λ p. IsEnough t (canonical p) heads after.values) named enough))

pub see_list : (a : Algorithm) (t : Table) (r : Content) (level : Level) (after : TableView) → is_list r.operation ≡ true → after.names ≡ names_of t (prefix (sent_handle r.operation))
    → decision a after r level (response_number Success) ≡ decision a (table_view t r) r level (response_number Success)
see_list a t r level after e names = granted_list a t r.wire r.header r.operation level after e names

pub see_write : (a : Algorithm) (t : Table) (r : Content) (level : Level) (after : TableView) → resolves r.operation ≡ false → is_list r.operation ≡ false
    → decision a after r level (response_number Success) ≡ decision a (table_view t r) r level (response_number Success)
see_write a t r level after e f = granted_write a t r.wire r.header r.operation level after e f

-- ---- one head more

pub read_more : (t : Table) (h : List ℕ) (heads : List Value) (i : ℕ) (d : Value) → i < length heads → whole_of t h (take (i + 1) heads) ≡ whole_of t h (take i heads) ++ found_at t h (get_or heads i d)
read_more t h heads i d low = ap (whole_of t h) (take_more heads i d low) ∙ sym (flat_map_more (found_at t h) [] (take i heads) (get_or heads i d))

pub costs_more : (t : Table) (h : List ℕ) (heads : List Value) (i : ℕ) (d : Value) → i < length heads
    → cost_of_reading t h (take (i + 1) heads) ≡ cost_of_reading t h (take i heads) + (CALL_OCTETS + values_octets (found_at t h (get_or heads i d)))
costs_more t h heads i d low = sum_by_more (λ v. CALL_OCTETS + values_octets (found_at t h v)) heads i d low

pub read_next : (t : Table) (h : List ℕ) (heads : List Value) (i : ℕ) (v : Value) (before after : List Value) (found : Option Value) → i < length heads → v ≡ get_or heads i v → before ≡ whole_of t h (take i heads) → found ≡ at t (place h v.index)
    → after ≡ before ++ one_or_none found → after ≡ whole_of t h (take (i + 1) heads)
read_next t h heads i v before after found low is read here pushed =
    pushed ∙ (λ k. read k ++ one_or_none (here k)) ∙ ap (λ w. whole_of t h (take i heads) ++ found_at t h w) is ∙ sym (read_more t h heads i v low)

one_octets : (o : Option Value) → values_octets (one_or_none o) ≡ of_value o
one_octets None = refl
one_octets (Some v) = omega arith

pub costs_next : (t : Table) (h : List ℕ) (heads : List Value) (i : ℕ) (v : Value) (found : Option Value) → i < length heads → v ≡ get_or heads i v → found ≡ at t (place h v.index)
    → cost_of_reading t h (take (i + 1) heads) ≡ cost_of_reading t h (take i heads) + (CALL_OCTETS + of_value found)
costs_next t h heads i v found low is here =
    costs_more t h heads i v low ∙ ap (λ w. cost_of_reading t h (take i heads) + (CALL_OCTETS + values_octets (found_at t h w))) (sym is)
    ∙ ap (λ n. cost_of_reading t h (take i heads) + (CALL_OCTETS + n)) (one_octets (at t (place h v.index)) ∙ ap of_value (sym here))
