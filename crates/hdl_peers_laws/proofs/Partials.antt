-- What a frame with TC leaves of the messages in pieces: the trail has it too.
use Rattle.std.proofs.Common.{◌≡◌, ℕ, zero, suc, ◌-◌, ◌*◌, ◌<◌, min, Bool, true, false, not, ◌&&◌, ◌||◌, cond, eqb, ltb, List, [], ◌∷◌, ◌++◌, length, map, filter, set, get_or, drop, replicate, find, Option, Some, None, is_some, is_none, option_map, refl, sym, ap, ◌∙◌, subst, arith}
use Rattle.std.specs.Prelude.{IfSome, unwrap_or}
use Rattle.std.specs.List.{AllByRecursion, list_any}
use Rattle.std.specs.Option.{option_and_then, option_map_or, option_or}
use Rattle.std.proofs.lemmas.Bool.{eqb-true, eq-eqb}
use Rattle.std.proofs.lemmas.Bool.Decides.{nat_tests}
use Rattle.std.proofs.lemmas.List.{length-set, length-map, length-drop, length-replicate}
use Rattle.hdl_frame.specs.declared.envelope.Envelope.{Envelope}
use Rattle.hdl_frame.specs.Envelope.{envelope_at, fault_of, is_truncated, payload_len}
use Rattle.hdl_frame.specs.Frames.{IsFrame}
use Rattle.hdl_frame.specs.Pieces.{piece_count}
use Rattle.hdl_pool.specs.declared.piece.MessageKey.{MessageKey}
use Rattle.hdl_pool.specs.Partial as pool
use Rattle.hdl_pool.specs.Partial.{Partial, Piece, piece_of, nothing_of, payload_at, whole}
use Rattle.hdl_pool.specs.Taking as taking
use Rattle.hdl_pool.specs.Taking.{Fate, made_whole, kept, ignored, displaced, so_far, is_ignored, replace_partial, store_partial, store_if_kept, take_piece, whole_message, free_partial}
use Rattle.hdl_peers.specs.declared.kept.Mark.{Mark}
use Rattle.hdl_peers.specs.declared.exchange.Exchange.{Exchange}
use Rattle.hdl_peers.specs.Exchange.{number_at}
use Rattle.hdl_peers.specs.Followed as lane_history
use Rattle.hdl_peers.specs.Followed.{with_frame_among, put_behind, operation_of, end_message}
use Rattle.hdl_peers.specs.Peers.{arrival}
use Rattle.hdl_peers_laws.specs.Follows.{mark_of, IsPartial}
use Rattle.hdl_peers_laws.proofs.Lists.{filter_seen, find_seen, any_seen, map_push, map_drop, each_push, each_drop, each_found}
use Rattle.hdl_peers_laws.proofs.Fronts.{Payloads, front_operation, brought, number_drop, front_after, front_again, front_of_whole, brought_or_there}

-- ---- a frame with TC

begins_before_end : (v : Envelope) → fault_of v ≡ None → is_truncated v ≡ true → 492 * v.sequence < v.length
unfolding fault_of
begins_before_end v accepted truncated = grind (arith, nat_tests, truncated)

piece_sized : (bytes : List ℕ) → IsFrame bytes → is_truncated (envelope_at bytes) ≡ true → length (drop 20 bytes) ≡ min 492 ((envelope_at bytes).length - 492 * (envelope_at bytes).sequence)
unfolding payload_len
piece_sized bytes frame truncated =
    let v = envelope_at bytes in
    let sized : payload_len v ≡ min 492 (v.length - 492 * v.sequence) = ap (λ (b : Bool). cond b (min 492 (v.length - 492 * v.sequence)) v.length) truncated in
    omega (arith, length-drop 20 bytes, frame.payload, sized)

-- ---- messages

no_front : (n k : ℕ) → get_or (replicate {A = Option (List ℕ)} n None) k None ≡ None
no_front zero k = refl
no_front (suc n) zero = refl
no_front (suc n) (suc k) = no_front n k

nothing_partial : (key : MessageKey) (len : ℕ) → IsPartial (nothing_of key len)
nothing_partial key len = record {
  places = length-replicate {A = Option (List ℕ)} (piece_count len) None;
  front = subst (λ (o : Option (List ℕ)). IfSome o (λ y. length y ≡ min 492 len)) (sym (no_front (piece_count len) 0)) tt;
}

nothing_counts : (piece : Piece) → is_ignored (nothing_of piece.key piece.length) piece ≡ false
nothing_counts piece = rw (eq-eqb piece.length piece.length refl, no_front (piece_count piece.length) piece.number) refl

parts_of : (b s : Bool) → not b || s ≡ false → (b ≡ true) × (s ≡ false)
parts_of true s e = (refl, e)
parts_of false s e = absurd (cc)

not_some : (o : Option (List ℕ)) → is_some o ≡ false → o ≡ None
not_some None e = refl
not_some (Some x) e = absurd (cc)

front_set : (len : ℕ) (ps : Payloads) (n : ℕ) (x : List ℕ) → IfSome (get_or ps 0 None) (λ y. length y ≡ min 492 len) → (n ≡ 0 → length x ≡ min 492 len)
    → IfSome (get_or (set ps n (Some x)) 0 None) (λ y. length y ≡ min 492 len)
front_set len [] n x first sized = tt
front_set len (q ∷ qs) zero x first sized = sized refl
front_set len (q ∷ qs) (suc n) x first sized = first

replaced_same : (key : MessageKey) (p : Partial) (lane : List Partial) → find (pool.is_of key) lane ≡ Some p → replace_partial key p lane ≡ lane
replaced_same key p [] found = refl
replaced_same key p (q ∷ qs) found = by_test (pool.is_of key q) refl found (λ below. replaced_same key p qs below)
  where
    by_test : (t : Bool) → pool.is_of key q ≡ t → cond t (Some q) (find (pool.is_of key) qs) ≡ Some p → (find (pool.is_of key) qs ≡ Some p → replace_partial key p qs ≡ qs) → replace_partial key p (q ∷ qs) ≡ q ∷ qs
    by_test true e found below = let same : q ≡ p = cc in rw e (ap (λ (r : Partial). r ∷ qs) (sym same))
    by_test false e found below = rw e (ap (λ (t : List Partial). q ∷ t) (below found))

each_replaced : (key : MessageKey) (more : Partial) (lane : List Partial) → AllByRecursion IsPartial lane → IsPartial more → AllByRecursion IsPartial (replace_partial key more lane)
each_replaced key more [] ps p = tt
each_replaced key more (q ∷ qs) ps p = by_test (pool.is_of key q) (each_replaced key more qs ps.1 p)
  where
    by_test : (t : Bool) → AllByRecursion IsPartial (replace_partial key more qs) → AllByRecursion IsPartial (cond t (more ∷ qs) (q ∷ replace_partial key more qs))
    by_test true below = (p, ps.1)
    by_test false below = (ps.0, below)

each_begun : (lane : List Partial) (first : Partial) → AllByRecursion IsPartial lane → IsPartial first → AllByRecursion IsPartial (taking.begin_partial lane first).1
each_begun lane first ps p = by_test (ltb (length lane) 4)
  where
    by_test : (t : Bool) → AllByRecursion IsPartial (cond {A = Fate × List Partial} t (kept, lane ++ first ∷ []) (displaced, drop 1 lane ++ first ∷ [])).1
    by_test true = each_push IsPartial lane first ps p
    by_test false = each_push IsPartial (drop 1 lane) first (each_drop IsPartial 1 lane ps) p

begun_seen : (lane : List Partial) (first : Partial) → put_behind 4 (map mark_of lane) (mark_of first) ≡ map mark_of (taking.begin_partial lane first).1
begun_seen lane first =
    ap (λ (n : ℕ). cond (ltb n 4) (map mark_of lane ++ mark_of first ∷ []) (drop 1 (map mark_of lane) ++ mark_of first ∷ [])) (length-map lane mark_of)
    ∙ by_test (ltb (length lane) 4)
  where
    by_test : (t : Bool) → cond t (map mark_of lane ++ mark_of first ∷ []) (drop 1 (map mark_of lane) ++ mark_of first ∷ []) ≡ map mark_of (cond {A = Fate × List Partial} t (kept, lane ++ first ∷ []) (displaced, drop 1 lane ++ first ∷ [])).1
    by_test true = sym (map_push mark_of lane first)
    by_test false = sym (map_push mark_of (drop 1 lane) first ∙ ap (λ (t : List Mark). t ++ mark_of first ∷ []) (map_drop mark_of 1 lane))

module _ (peer : ℕ) (bytes : List ℕ) where
  abbrev v : Envelope
  v = envelope_at bytes

  abbrev e : Exchange
  e = arrival bytes peer

  abbrev k : MessageKey
  k = pool.key_of peer v

  abbrev piece : Piece
  piece = piece_of peer bytes

  abbrev x : List ℕ
  x = drop 20 bytes

  abbrev mark : Partial → Option ℕ → Mark
  mark p o = record { key = record { number = p.key.peer; session = p.key.session; request = p.key.request }; length = p.length; operation = o }

  pub freed_seen : (lane : List Partial) → filter (λ m. not (lane_history.is_of e.key m)) (map mark_of lane) ≡ map mark_of (free_partial lane k)
  freed_seen lane = filter_seen mark_of (λ m. not (lane_history.is_of e.key m)) lane

  grown_replaced : (lane : List Partial) (p more : Partial) → find (pool.is_of k) lane ≡ Some p → lane_history.with_frame e (mark_of p) ≡ mark_of more → with_frame_among e (map mark_of lane) ≡ map mark_of (replace_partial k more lane)
  grown_replaced [] p more found is = absurd (cc)
  grown_replaced (q ∷ qs) p more found is = by_test (pool.is_of k q) found (λ later. grown_replaced qs p more later is)
    where
      by_test : (t : Bool) → cond t (Some q) (find (pool.is_of k) qs) ≡ Some p
          → (find (pool.is_of k) qs ≡ Some p → with_frame_among e (map mark_of qs) ≡ map mark_of (replace_partial k more qs))
          → cond t (lane_history.with_frame e (mark_of q) ∷ map mark_of qs) (mark_of q ∷ with_frame_among e (map mark_of qs)) ≡ map mark_of (cond t (more ∷ qs) (q ∷ replace_partial k more qs))
      by_test true found below = let same : q ≡ p = cc in ap (λ (m : Mark). m ∷ map mark_of qs) (ap (λ (r : Partial). lane_history.with_frame e (mark_of r)) same ∙ is)
      by_test false found below = ap (λ (t : List Mark). mark_of q ∷ t) (below found)

  module _ (frame : IsFrame bytes) (truncated : is_truncated v ≡ true) where
    operation_brought : e.operation ≡ brought v.sequence x
    operation_brought = ap (λ (b : Bool). cond (not b || eqb v.sequence 0) (number_at bytes 20) None) truncated ∙ ap (λ (o : Option ℕ). cond (eqb v.sequence 0) o None) (number_drop bytes)

    front_sized : (n : ℕ) → v.length ≡ n → v.sequence ≡ 0 → length x ≡ min 492 n
    front_sized n same none = omega (arith, piece_sized bytes frame truncated)

    same_length : (p : Partial) → eqb p.length v.length ≡ true → lane_history.with_frame e (mark_of p) ≡ mark p (cond (is_none (front_operation p.pieces)) (brought v.sequence x) (front_operation p.pieces))
    same_length p same =
        ap (λ (b : Bool). cond (b && is_none (front_operation p.pieces)) (mark p e.operation) (mark_of p)) same
        ∙ by_operation (front_operation p.pieces)
        ∙ ap (λ (o : Option ℕ). mark p (cond (is_none (front_operation p.pieces)) o (front_operation p.pieces))) operation_brought
      where
        by_operation : (o : Option ℕ) → cond (true && is_none o) (mark p e.operation) (mark p o) ≡ mark p (cond (is_none o) e.operation o)
        by_operation None = refl
        by_operation (Some n) = refl

    -- an ignored piece changes no mark
    stays : (p : Partial) → IsPartial p → is_ignored p piece ≡ true → lane_history.with_frame e (mark_of p) ≡ mark_of p
    stays p is ignores = by_length (eqb p.length v.length) refl
      where
        by_length : (b : Bool) → eqb p.length v.length ≡ b → lane_history.with_frame e (mark_of p) ≡ mark_of p
        by_length false other = ap (λ (b : Bool). cond (b && is_none (front_operation p.pieces)) (mark p e.operation) (mark_of p)) other
        by_length true same =
            let came : is_some (payload_at p v.sequence) ≡ true = ap (λ (b : Bool). not b || is_some (payload_at p v.sequence)) (sym same) ∙ ignores in
            same_length p same
            ∙ ap (mark p) (front_again p.length p.pieces v.sequence x came is.front (λ none. front_sized p.length (sym (eqb-true p.length v.length same)) none))

    -- a piece that counts grows its mark as its message
    module _ (p : Partial) (is : IsPartial p) (counts : is_ignored p piece ≡ false) where
      both : (eqb p.length v.length ≡ true) × (is_some (payload_at p v.sequence) ≡ false)
      both = parts_of (eqb p.length v.length) (is_some (payload_at p v.sequence)) counts

      length_is : p.length ≡ v.length
      length_is = eqb-true p.length v.length both.0

      places_some : 0 < length p.pieces
      places_some = omega (arith, begins_before_end v frame.accepted truncated, length_is, is.places)

      missing : get_or p.pieces v.sequence None ≡ None
      missing = not_some (payload_at p v.sequence) both.1

      grows : lane_history.with_frame e (mark_of p) ≡ mark_of (taking.with_piece p piece)
      grows = same_length p both.0 ∙ ap (mark p) (sym (front_after p.pieces v.sequence x places_some missing))

      partial_after : IsPartial (taking.with_piece p piece)
      partial_after = record {
        places = length-set p.pieces v.sequence (Some x) ∙ is.places;
        front = front_set p.length p.pieces v.sequence x is.front (λ none. front_sized p.length (sym length_is) none);
      }

      whole_operation : (message : List ℕ) → whole (taking.with_piece p piece) ≡ Some message → option_or e.operation (front_operation p.pieces) ≡ number_at message 0
      whole_operation message made =
          ap (λ (o : Option ℕ). option_or o (front_operation p.pieces)) operation_brought
          ∙ brought_or_there p.pieces v.sequence x places_some missing
          ∙ front_of_whole p.length (set p.pieces v.sequence (Some x)) message (omega (arith, begins_before_end v frame.accepted truncated, length_is)) partial_after.places partial_after.front made

    -- ---- the lane

    module _ (lane : List Partial) (each : AllByRecursion IsPartial lane) where
      abbrev marks : List Mark
      marks = map mark_of lane

      abbrev Left : Fate × List Partial → Type 0
      Left t = whole_message t.0 ≡ None → (lane_history.with_piece e marks ≡ map mark_of t.1) × AllByRecursion IsPartial t.1

      abbrev step : Fate × Partial → Fate × List Partial
      step g = store_if_kept lane k g.0 g.1

      abbrev after : Partial → Bool → Option (List ℕ) → Fate × Partial
      after p b w = cond b (ignored, p) (option_map_or (λ message. (made_whole message, p)) w (kept, taking.with_piece p piece))

      by_fate : (p : Partial) → (is_ignored p piece ≡ true → lane_history.with_piece e marks ≡ marks)
          → (is_ignored p piece ≡ false → (lane_history.with_piece e marks ≡ map mark_of (store_partial lane k (taking.with_piece p piece)).1) × AllByRecursion IsPartial (store_partial lane k (taking.with_piece p piece)).1)
          → (b : Bool) (w : Option (List ℕ)) → is_ignored p piece ≡ b → Left (step (after p b w))
      by_fate p same more true w ignores none = (same ignores, each)
      by_fate p same more false (Some message) ignores none = absurd (cc)
      by_fate p same more false None ignores none = more ignores

      any_is : list_any (lane_history.is_of e.key) marks ≡ is_some (find (pool.is_of k) lane)
      any_is = any_seen mark_of (lane_history.is_of e.key) lane

      with_any : (b : Bool) → is_some (find (pool.is_of k) lane) ≡ b → lane_history.with_piece e marks ≡ cond b (with_frame_among e marks) (put_behind 4 marks (lane_history.first_mark e))
      with_any b is = ap (λ (t : Bool). cond t (with_frame_among e marks) (put_behind 4 marks (lane_history.first_mark e))) (any_is ∙ is)

      found_left : (p : Partial) → find (pool.is_of k) lane ≡ Some p → Left (step (taking.after_piece p piece))
      found_left p found =
          let is : IsPartial p = each_found IsPartial (pool.is_of k) lane p each found in
          by_fate p
          (λ ignores. with_any true (ap is_some found) ∙ grown_replaced lane p p found (stays p is ignores) ∙ ap (map mark_of) (replaced_same k p lane found))
          (λ counts. kept_found is counts)
          (is_ignored p piece) (whole (taking.with_piece p piece)) refl
        where
          kept_found : IsPartial p → is_ignored p piece ≡ false → (lane_history.with_piece e marks ≡ map mark_of (store_partial lane k (taking.with_piece p piece)).1) × AllByRecursion IsPartial (store_partial lane k (taking.with_piece p piece)).1
          kept_found is counts =
              let more : Partial = taking.with_piece p piece in
              let kept_there : store_partial lane k more ≡ (kept, replace_partial k more lane) = ap (λ (o : Option Partial). cond {A = Fate × List Partial} (is_some o) (kept, replace_partial k more lane) (taking.begin_partial lane more)) found in
              rw kept_there ((
                with_any true (ap is_some found) ∙ grown_replaced lane p more found (grows p is counts),
                each_replaced k more lane each (partial_after p is counts),
              ))

      begun_left : find (pool.is_of k) lane ≡ None → Left (step (taking.after_piece (nothing_of k v.length) piece))
      begun_left missed =
          let p : Partial = nothing_of k v.length in
          by_fate p (λ ignores. absurd (let counts = nothing_counts piece in cc)) (λ counts. kept_new counts) (is_ignored p piece) (whole (taking.with_piece p piece)) refl
        where
          kept_new : is_ignored (nothing_of k v.length) piece ≡ false → (lane_history.with_piece e marks ≡ map mark_of (store_partial lane k (taking.with_piece (nothing_of k v.length) piece)).1) × AllByRecursion IsPartial (store_partial lane k (taking.with_piece (nothing_of k v.length) piece)).1
          kept_new counts =
              let p : Partial = nothing_of k v.length in
              let is : IsPartial p = nothing_partial k v.length in
              let more : Partial = taking.with_piece p piece in
              let begins : lane_history.first_mark e ≡ mark_of more =
              sym (ap (λ (o : Option (List ℕ)). mark p (cond (is_none (option_and_then (λ y. number_at y 0) o)) e.operation (option_and_then (λ y. number_at y 0) o))) (no_front (piece_count v.length) 0))
              ∙ ap (λ (o : Option ℕ). mark p (cond (is_none (front_operation p.pieces)) o (front_operation p.pieces))) operation_brought
              ∙ ap (mark p) (sym (front_after p.pieces v.sequence x (places_some p is counts) (missing p is counts))) in
              let kept_there : store_partial lane k more ≡ taking.begin_partial lane more = ap (λ (o : Option Partial). cond {A = Fate × List Partial} (is_some o) (kept, replace_partial k more lane) (taking.begin_partial lane more)) missed in
              rw kept_there ((
                with_any false (ap is_some missed) ∙ ap (put_behind 4 marks) begins ∙ begun_seen lane more,
                each_begun lane more each (partial_after p is counts),
              ))

      -- a piece that makes no message whole leaves the trail and the lane alike
      pub piece_left : whole_message (take_piece lane piece).0 ≡ None → (lane_history.with_piece e marks ≡ map mark_of (take_piece lane piece).1) × AllByRecursion IsPartial (take_piece lane piece).1
      piece_left none = by_found (find (pool.is_of k) lane) refl none
        where
          by_found : (o : Option Partial) → find (pool.is_of k) lane ≡ o → Left (step (taking.after_piece (unwrap_or o (nothing_of k v.length)) piece))
          by_found (Some p) found = found_left p found
          by_found None missed = begun_left missed

      -- ---- the whole

      stored_none : (more : Partial) → whole_message (store_partial lane k more).0 ≡ None
      stored_none more = by_tests (is_some (find (pool.is_of k) lane)) (ltb (length lane) 4)
        where
          by_tests : (a b : Bool) → whole_message (cond {A = Fate × List Partial} a (kept, replace_partial k more lane) (cond {A = Fate × List Partial} b (kept, lane ++ more ∷ []) (displaced, drop 1 lane ++ more ∷ []))).0 ≡ None
          by_tests true b = refl
          by_tests false true = refl
          by_tests false false = refl

      whole_by : (p : Partial) (message : List ℕ) (b : Bool) (w : Option (List ℕ)) → whole_message (step (after p b w)).0 ≡ Some message → (b ≡ false) × (w ≡ Some message)
      whole_by p message true w is = absurd (cc)
      whole_by p message false None is = absurd (let none = stored_none (taking.with_piece p piece) in cc)
      whole_by p message false (Some other) is = (refl, cc)

      -- the trail knows the operation of a message that is made whole
      pub whole_left : (message : List ℕ) → whole_message (take_piece lane piece).0 ≡ Some message → operation_of e marks ≡ number_at message 0
      whole_left message made =
          ap (λ (b : Bool). option_or e.operation (cond b (option_and_then (λ (m : Mark). m.operation) (find (lane_history.is_of e.key) marks)) None)) truncated
          ∙ ap (λ (o : Option Mark). option_or e.operation (option_and_then (λ (m : Mark). m.operation) o)) (find_seen mark_of (lane_history.is_of e.key) lane)
          ∙ by_found (find (pool.is_of k) lane) refl made
        where
          by_found : (o : Option Partial) → find (pool.is_of k) lane ≡ o → whole_message (step (taking.after_piece (unwrap_or o (nothing_of k v.length)) piece)).0 ≡ Some message
              → option_or e.operation (option_and_then (λ (m : Mark). m.operation) (option_map mark_of o)) ≡ number_at message 0
          by_found (Some p) found made =
              let is : IsPartial p = each_found IsPartial (pool.is_of k) lane p each found in
              let both = whole_by p message (is_ignored p piece) (whole (taking.with_piece p piece)) made in
              whole_operation p is both.0 message both.1
          by_found None missed made =
              let p : Partial = nothing_of k v.length in
              let both = whole_by p message (is_ignored p piece) (whole (taking.with_piece p piece)) made in
              sym (ap (λ (o : Option (List ℕ)). option_or e.operation (option_and_then (λ y. number_at y 0) o)) (no_front (piece_count v.length) 0))
              ∙ whole_operation p (nothing_partial k v.length) both.0 message both.1
