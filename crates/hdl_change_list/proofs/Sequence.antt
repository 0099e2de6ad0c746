-- What is read of the list, and what is put behind it.
use Rattle.std.proofs.Common.{◌≡◌, ℕ, zero, suc, ◌+◌, ◌<◌, ◌≤◌, List, [], ◌∷◌, ◌++◌, length, take, get_or, Option, Some, None, Ok, Bool, true, false, refl, sym, ap, ◌∙◌, subst, arith}
use Rattle.std.specs.Prelude.{Result, ok_or, nat_le, nat_lt, option_map}
use Rattle.std.specs.List.{AllZip, Any}
use Rattle.std.specs.Str.{bytes_eq}
use Rattle.std.proofs.lemmas.Slice.Eq.{bytes_eq-Decides}
use Rattle.std.proofs.lemmas.Grind.{common_steps}
use Rattle.std.proofs.lemmas.List.{take_all}
use Rattle.std.proofs.lemmas.List.Quantifiers.{Any-push}
use Rattle.std.proofs.Math.Seq.{take-suc}
use Rattle.hdl_limits.specs.Octets.{AreOctets}
use Rattle.hdl_value.specs.Reading.{whole_of, IsCodec}
use Rattle.hdl_value.proofs.DataRead.{whole_takes}
use Rattle.hdl_journal_entries.specs.declared.entry.Entry.{Entry}
use Rattle.hdl_journal_entries.specs.declared.entry.DatedMessage.{DatedMessage}
use Rattle.hdl_journal_entries.specs.declared.keys.Key.TheVariants as key
use Rattle.hdl_journal_entries.specs.declared.entry.EntryFault.TheVariants.{Malformed}
use Rattle.hdl_journal_entries.specs.declared.chain.Chain.{Chain}
use Rattle.hdl_journal_entries.specs.declared.chain.EntryOrder.TheVariants.{Next}
use Rattle.hdl_journal_entries.specs.Entries.{entry_at, entry_octets, entry_in, EntryFits, AreWritable}
use Rattle.hdl_journal_entries.specs.Keys.{key_octets, chain_octets}
use Rattle.hdl_journal_entries.specs.Chain.{place_of, after_entry, chain_after, AreChained}
use Rattle.hdl_etcd.specs.declared.asking.Operation.{Operation}
use Rattle.hdl_etcd.specs.declared.asking.Operation.TheVariants.{Put, Delete}
use Rattle.hdl_change_list.specs.declared.keyed.KeyWrite.{KeyWrite}
use Rattle.hdl_etcd.specs.declared.asking.Transaction.{Transaction}
use Rattle.hdl_etcd.specs.Asking.{transaction_json}
use Rattle.serde_json.specs.Read.{read}
use Rattle.hdl_change_list.specs.Sequence.{Follow, FollowsOne, Writes, Puts, Makes, IsAsTaken, IsFenced, IsPut}

-- ---- what is read

-- what was read as an entry is its octets
pub read_whole : IsCodec entry_at entry_octets EntryFits → (octets : List ℕ) (entry : Entry) → AreOctets octets → entry_in octets ≡ Ok entry → octets ≡ entry_octets entry
read_whole codec octets entry fit is = (whole_takes entry_at entry_octets EntryFits codec octets entry fit (some_of (whole_of entry_at octets) is)).0
  where
    some_of : (o : Option Entry) → ok_or o Malformed ≡ Ok entry → o ≡ Some entry
    some_of (Some x) e = cc
    some_of None e = absurd cc

pub follow_none : (old : Chain) → Follow old old []
follow_none old = (tt, refl)

chained_more : (old mid : Chain) (entries : List Entry) (next : Entry) → AreChained old entries → mid ≡ chain_after old entries → place_of mid next ≡ Next → AreChained old (entries ++ next ∷ [])
chained_more old mid [] next chained is place = (subst (λ c. place_of c next ≡ Next) is place, tt)
chained_more old mid (e ∷ es) next chained is place = (chained.0, chained_more (after_entry e.number (entry_octets e)) mid es next chained.1 is place)

after_more : (old : Chain) (entries : List Entry) (next : Entry) → chain_after old (entries ++ next ∷ []) ≡ after_entry next.number (entry_octets next)
after_more old [] next = refl
after_more old (e ∷ es) next = after_more (after_entry e.number (entry_octets e)) es next

pub follow_more : (old mid new : Chain) (entries : List Entry) (next : Entry) → Follow old mid entries → FollowsOne mid new (Some next) → Follow old new (entries ++ next ∷ [])
follow_more old mid new entries next before one = (chained_more old mid entries next before.0 before.1 one.0, one.1 ∙ sym (after_more old entries next))

-- ---- what is put

pub next_place : (chain : Chain) (entry : Entry) → entry.number ≡ chain.number + 1 → entry.before ≡ chain.sum → place_of chain entry ≡ Next
next_place chain entry number before =
    let past : nat_le entry.number chain.number ≡ false = grind (arith, common_steps) in
    let near : nat_lt (chain.number + 1) entry.number ≡ false = grind (arith, common_steps) in
    let same : bytes_eq entry.before chain.sum ≡ true = (bytes_eq-Decides entry.before chain.sum).1 before in
    rw (past, near, same) refl

pub follow_same : (old mid new : Chain) (entries : List Entry) → Follow old mid entries → FollowsOne mid new None → Follow old new entries
follow_same old mid new entries before same = (before.0, same ∙ before.1)

pub any_front : {X : Type 0} (P : X → Type 0) (xs more : List X) → Any P xs → Any P (xs ++ more)
any_front P xs more (k, x, lt, at, p) = (k, x, grind (arith, common_steps), grind (arith, common_steps), p)

one_made : (write : KeyWrite) (operation : Operation) (key value : List ℕ) → Makes write operation → Writes key value write → Puts key value operation
one_made write (Put at octets) key value makes writes = (makes.0 ∙ writes.0, cc)
one_made write (Delete at) key value makes writes = absurd cc

-- what one of the writes puts one of the operations puts
pub any_made : (writes : List KeyWrite) (operations : List Operation) (key value : List ℕ) → AllZip Makes writes operations → Any (Writes key value) writes → Any (Puts key value) operations
any_made [] operations key value made (k, x, lt, at, w) = absurd (omega (arith, lt))
any_made (write ∷ writes) [] key value made any = absurd made
any_made (write ∷ writes) (operation ∷ operations) key value made (zero, x, lt, at, w) = (0, operation, omega arith, refl, one_made write operation key value made.0 (subst (Writes key value) (sym at) w))
any_made (write ∷ writes) (operation ∷ operations) key value made (suc k, x, lt, at, w) =
    let later = any_made writes operations key value made.1 (k, x, omega (arith, lt), at, w) in
    (suc later.0, later.1, omega (arith, later.2), later.3, later.4)

zip_push : {A B : Type 0} (R : A → B → Type 0) (xs : List A) (ys : List B) (x : A) (y : B) → AllZip R xs ys → R x y → AllZip R (xs ++ x ∷ []) (ys ++ y ∷ [])
zip_push R [] [] x y all one = (one, tt)
zip_push R [] (b ∷ ys) x y all one = absurd all
zip_push R (a ∷ xs) [] x y all one = absurd all
zip_push R (a ∷ xs) (b ∷ ys) x y all one = (all.0, zip_push R xs ys x y all.1 one)

-- one more operation makes one more write, as a loop has it
pub makes_more : (writes : List KeyWrite) (i : ℕ) (write : KeyWrite) (operations new : List Operation) (operation : Operation) → i < length writes → write ≡ get_or writes i write
    → AllZip Makes (take i writes) operations → Makes write operation → new ≡ operations ++ operation ∷ [] → AllZip Makes (take (i + 1) writes) new
makes_more writes i write operations new operation lt item all one is =
    let next : i + 1 ≡ suc i = omega arith in
    let taken : take (i + 1) writes ≡ take i writes ++ write ∷ [] = ap (λ n. take n writes) next ∙ take-suc writes i write lt ∙ ap (λ (x : KeyWrite). take i writes ++ x ∷ []) (sym item) in
    subst (λ (os : List Operation). AllZip Makes (take (i + 1) writes) os) (sym is)
    (subst (λ (ws : List KeyWrite). AllZip Makes ws (operations ++ operation ∷ [])) (sym taken) (zip_push Makes (take i writes) operations write operation all one))

pub makes_all : (writes : List KeyWrite) (i : ℕ) (operations : List Operation) → length writes ≤ i → AllZip Makes (take i writes) operations → AllZip Makes writes operations
makes_all writes i operations few all = subst (λ (ws : List KeyWrite). AllZip Makes ws operations) (take_all _ _ few) all

pub writes_as : (write : KeyWrite) (key at value octets : List ℕ) → Writes key value write → key ≡ at → value ≡ octets → Writes at octets write
writes_as write key at value octets (k, v) is same = (k ∙ is, v ∙ ap (λ (x : List ℕ). Some x) same)

-- of two writes that are pushed, with others behind them, the first is there, and the second
pub put_first : (P : KeyWrite → Type 0) (old one two new more : List KeyWrite) (x y : KeyWrite) → one ≡ old ++ x ∷ [] → two ≡ one ++ y ∷ [] → new ≡ two ++ more → P x → Any P new
put_first P old one two new more x y first second last p =
    subst (Any P) (sym last) (any_front P two more (subst (Any P) (sym second) (any_front P one (y ∷ []) (subst (Any P) (sym first) (Any-push P old x p)))))

pub put_second : (P : KeyWrite → Type 0) (one two new more : List KeyWrite) (y : KeyWrite) → two ≡ one ++ y ∷ [] → new ≡ two ++ more → P y → Any P new
put_second P one two new more y second last p = subst (Any P) (sym last) (any_front P two more (subst (Any P) (sym second) (Any-push P one y p)))

pub writable : (changes : List DatedMessage) (change : DatedMessage) → changes ≡ change ∷ [] → length change.message ≤ 65536 → AreWritable changes
writable changes change is short = rw is (omega arith, (omega (arith, short), tt))

pub is_put : (name now : List ℕ) (chain left : Chain) (change : DatedMessage) (entry : Entry) (nonce octets : List ℕ) (behind : Chain) (writes all : List KeyWrite) (otherwise text : List ℕ) (t : Transaction)
    → now ≡ name → left ≡ chain → place_of chain entry ≡ Next → entry.changes ≡ change ∷ [] → entry.nonce ≡ nonce → octets ≡ entry_octets entry → behind ≡ after_entry entry.number octets
    → Any (Writes (key_octets now (key.Entry entry.number)) octets) writes → Any (Writes (key_octets now key.Head) (chain_octets behind)) writes → all ≡ writes
    → IsFenced now left all otherwise t → read text ≡ Some (transaction_json t) → IsPut name chain change nonce behind text
is_put name now chain left change entry nonce octets behind writes all otherwise text t named kept next changes own spelt after puts_entry puts_head same fenced reads =
    let made : AllZip Makes writes t.operations.now = subst (λ (ws : List KeyWrite). AllZip Makes ws t.operations.now) same fenced.operations in
    let the_entry : Any (Puts (key_octets now (key.Entry entry.number)) octets) t.operations.now = any_made writes t.operations.now _ _ made puts_entry in
    let the_head : Any (Puts (key_octets now key.Head) (chain_octets behind)) t.operations.now = any_made writes t.operations.now _ _ made puts_head in
    record {
      entry = entry;
      next = next;
      changes = changes;
      is_own = own;
      is_behind = after ∙ ap (after_entry entry.number) spelt;
      transaction = t;
      reads = reads;
      fence = subst (λ (n : List ℕ). IsAsTaken n chain t.fence) named (subst (λ (c : Chain). IsAsTaken now c t.fence) kept fenced.fence);
      puts_entry = subst (λ (n : List ℕ). Any (Puts (key_octets n (key.Entry entry.number)) (entry_octets entry)) t.operations.now) named
          (subst (λ (o : List ℕ). Any (Puts (key_octets now (key.Entry entry.number)) o) t.operations.now) spelt the_entry);
      puts_head = subst (λ (n : List ℕ). Any (Puts (key_octets n key.Head) (chain_octets behind)) t.operations.now) named the_head;
    }
