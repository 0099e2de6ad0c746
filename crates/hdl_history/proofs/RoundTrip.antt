-- The line of an entry says that entry.
use Rattle.std.proofs.Common.{◌≡◌, ℕ, ◌^◌, ◌<◌, true, false, eqb, List, [], ◌∷◌, ◌++◌, length, get_or, Option, Some, None, Ok, refl, sym, ap, subst, ◌∙◌, append_assoc, arith, inl, inr}
use Rattle.std.specs.Prelude.{decimal}
use Rattle.std.specs.List.{AllByRecursion, flat_map, slice_split}
use Rattle.std.specs.Str.{bytes_eq}
use Rattle.std.specs.Str.Parse.{AllDigits}
use Rattle.std.proofs.lemmas.Bool.{eq-eqb, ne_eqb}
use Rattle.std.proofs.lemmas.Fmt.{decimal_is_IsNumeral}
use Rattle.std.proofs.lemmas.List.{append-nil}
use Rattle.std.proofs.lemmas.List.Elements.{All-from_get_or, recursion_from_All}
use Rattle.std.proofs.lemmas.Slice.Eq.{bytes_eq-Decides}
use Rattle.std.proofs.lemmas.Str.Parse.{digit_from_value}
use Rattle.percent_encoding.specs.AsciiSet.{should_percent_encode}
use Rattle.percent_encoding.specs.Percent.{percent_decode}
use Rattle.percent_encoding.proofs.PercentLemmas.{round_trip, IsByte, IsEscapeByte, All-percent_encode}
use Rattle.hdl_limits.specs.Octets.{AreOctets}
use Rattle.hdl_value.specs.declared.references.RawRef.{RawRef}
use Rattle.hdl_value_lines.specs.Fields.{cut_at}
use Rattle.hdl_value_lines.proofs.Readings.{either, cut_again, number_again, decimal_lacks_colon}
use Rattle.hdl_history.specs.declared.fields.TheConstants.{ESCAPED}
use Rattle.hdl_history.specs.declared.entry.Operation.{Operation}
use Rattle.hdl_history.specs.declared.entry.Operation.TheVariants as operation
use Rattle.hdl_history.specs.declared.entry.Author.{Author}
use Rattle.hdl_history.specs.declared.entry.Author.TheVariants as author
use Rattle.hdl_history.specs.declared.entry.ValuesBefore.{ValuesBefore}
use Rattle.hdl_history.specs.declared.entry.ValuesBefore.TheVariants as before
use Rattle.hdl_history.specs.declared.entry.Entry.{Entry}
use Rattle.hdl_history.specs.Lines.{tab, comma, colon, left_out, operation_word, escaped, author_text, indexes_text, field, lines_text, before_text, line_of}
use Rattle.hdl_history.specs.Fields.{operation_named, unescaped, key_in, author_in, numbers_in, indexes_in, before_in, moment_at, operation_at, handle_at, author_at, first_field}
use Rattle.hdl_history.specs.Read.{entry_in}
use Rattle.hdl_history.specs.Laws.{Lacks, IsValueText, AuthorFits, BeforeFits, EntryFits}
use Rattle.hdl_history.proofs.Numbers.{long_again}

-- ---- octets that aren't there

lacks_joined : (stop : ℕ) (a b : List ℕ) → Lacks stop a → Lacks stop b → Lacks stop (a ++ b)
lacks_joined stop [] b h k = k
lacks_joined stop (octet ∷ a) b h k = (h.0, lacks_joined stop a b h.1 k)

cut_lacks : (stop : ℕ) (word : List ℕ) → Lacks stop word → cut_at stop word ≡ None
cut_lacks stop [] h = refl
cut_lacks stop (octet ∷ word) h = rw (h.0, cut_lacks stop word h.1) refl

digits_lack : (stop : ℕ) (ds : List ℕ) → stop < 48 → AllDigits 10 ds → Lacks stop ds
digits_lack stop [] below h = tt
digits_lack stop (d ∷ ds) below h =
    let range = digit_from_value d h.0 in
    (ne_eqb d stop (λ e. omega (arith, range.0, e)), digits_lack stop ds below h.1)

decimal_lacks : (stop n : ℕ) → stop < 48 → n < 2 ^ 64 → Lacks stop (decimal n)
decimal_lacks stop n below lt = digits_lack stop (decimal n) below (decimal_is_IsNumeral n (omega (arith, lt))).0.1

-- what begins with a digit is no sign
no_sign : (sign : ℕ) (ds rest : List ℕ) → 0 < length ds → Lacks sign ds → ds ++ rest ≡ sign ∷ [] → ⊥
no_sign sign [] rest some h e = absurd (omega (arith, some))
no_sign sign (d ∷ ds) rest some h e =
    let first : d ≡ sign = ap (λ (l : List ℕ). get_or l 0 0) e in
    let both = sym h.0 ∙ eq-eqb d sign first in absurd cc

other : (text word : List ℕ) → (text ≡ word → ⊥) → bytes_eq text word ≡ false
other text word differ = elim (either (bytes_eq text word)) [
  | inl same ↦ absurd (differ ((bytes_eq-Decides text word).0 same))
  | inr differs ↦ differs
]

number_is_no_sign : (sign n : ℕ) (rest : List ℕ) → sign < 48 → n < 2 ^ 64 → bytes_eq (decimal n ++ rest) (sign ∷ []) ≡ false
number_is_no_sign sign n rest below lt =
    other (decimal n ++ rest) (sign ∷ []) (no_sign sign (decimal n) rest (decimal_is_IsNumeral n (omega (arith, lt))).0.0 (decimal_lacks sign n below lt))

-- ---- handles

kept_is_no_tab : (b : ℕ) → should_percent_encode ESCAPED b ≡ false → eqb b tab ≡ false
unfolding should_percent_encode
kept_is_no_tab b kept = ne_eqb b tab (λ e. let at_tab : should_percent_encode ESCAPED tab ≡ false = subst (λ (c : ℕ). should_percent_encode ESCAPED c ≡ false) e kept in absurd cc)

escape_is_no_tab : (b : ℕ) → IsEscapeByte b → eqb b tab ≡ false
escape_is_no_tab b (inl e) = ne_eqb b tab (λ t. omega (arith, e, t))
escape_is_no_tab b (inr (inl range)) = ne_eqb b tab (λ t. omega (arith, range.0, t))
escape_is_no_tab b (inr (inr range)) = ne_eqb b tab (λ t. omega (arith, range.0, t))

escaped_lacks : (handle : List ℕ) → Lacks tab (escaped handle)
escaped_lacks handle = recursion_from_All _ _ (All-percent_encode (λ b. eqb b tab ≡ false) ESCAPED handle kept_is_no_tab escape_is_no_tab)

unescaped_again : (handle : List ℕ) → AreOctets handle → unescaped (escaped handle) ≡ Some handle
unfolding unescaped
unescaped_again handle octets =
    let small = All-from_get_or IsByte handle 0 (λ i within. octets i) in
    let back : percent_decode (escaped handle) ≡ handle = round_trip ESCAPED handle refl small in
    let same : bytes_eq (escaped handle) (escaped handle) ≡ true = (bytes_eq-Decides (escaped handle) (escaped handle)).1 refl in
    rw back (rw same refl)

-- ---- fields

cut_field : (a rest : List ℕ) → Lacks tab a → cut_at tab (field a ++ rest) ≡ Some (a, rest)
cut_field a rest h = rw (append_assoc a (tab ∷ []) rest) (cut_again tab a rest h)

moment_again : (n : ℕ) (rest : List ℕ) → n < 2 ^ 64 → moment_at (field (decimal n) ++ rest) ≡ Some (n, rest)
unfolding moment_at
moment_again n rest lt = rw (cut_field (decimal n) rest (decimal_lacks tab n (omega arith) lt)) (rw (long_again n lt) refl)

word_lacks : (o : Operation) → Lacks tab (operation_word o)
word_lacks operation.Create = (refl, (refl, (refl, (refl, (refl, (refl, tt))))))
word_lacks operation.Delete = (refl, (refl, (refl, (refl, (refl, (refl, tt))))))
word_lacks operation.Add = (refl, (refl, (refl, tt)))
word_lacks operation.Remove = (refl, (refl, (refl, (refl, (refl, (refl, tt))))))
word_lacks operation.Modify = (refl, (refl, (refl, (refl, (refl, (refl, tt))))))

word_again : (o : Operation) → operation_named (operation_word o) ≡ Some o
word_again operation.Create = refl
word_again operation.Delete = refl
word_again operation.Add = refl
word_again operation.Remove = refl
word_again operation.Modify = refl

operation_again : (o : Operation) (rest : List ℕ) → operation_at (field (operation_word o) ++ rest) ≡ Some (o, rest)
unfolding operation_at
operation_again o rest = rw (cut_field (operation_word o) rest (word_lacks o)) (rw (word_again o) refl)

handle_again : (handle rest : List ℕ) → AreOctets handle → handle_at (field (escaped handle) ++ rest) ≡ Some (handle, rest)
unfolding handle_at
handle_again handle rest octets = rw (cut_field (escaped handle) rest (escaped_lacks handle)) (rw (unescaped_again handle octets) refl)

key_again : (key : RawRef) → key.index < 2 ^ 32 → AreOctets key.handle → key_in (decimal key.index ++ colon ∷ escaped key.handle) ≡ Some key
unfolding key_in
key_again key lt octets =
    rw (cut_again colon (decimal key.index) (escaped key.handle) (decimal_lacks_colon key.index lt))
    (rw (number_again key.index lt, unescaped_again key.handle octets) refl)

author_lacks : (a : Author) → AuthorFits a → Lacks tab (author_text a)
author_lacks author.Anyone fits = (refl, tt)
author_lacks author.OtherServer fits = (refl, tt)
author_lacks (author.Key key) fits =
    lacks_joined tab (decimal key.index) (colon ∷ escaped key.handle) (decimal_lacks tab key.index (omega arith) (omega (arith, fits.0))) (refl, escaped_lacks key.handle)

author_in_again : (a : Author) → AuthorFits a → author_in (author_text a) ≡ Some a
author_in_again author.Anyone fits = refl
author_in_again author.OtherServer fits = refl
author_in_again (author.Key key) fits =
    let rest = colon ∷ escaped key.handle in
    rw (number_is_no_sign 45 key.index rest (omega arith) (omega (arith, fits.0)), number_is_no_sign 42 key.index rest (omega arith) (omega (arith, fits.0)))
    (rw (key_again key fits.0 fits.1) refl)

author_again : (a : Author) (rest : List ℕ) → AuthorFits a → author_at (field (author_text a) ++ rest) ≡ Some (a, rest)
unfolding author_at
author_again a rest fits = rw (cut_field (author_text a) rest (author_lacks a fits)) (rw (author_in_again a fits) refl)

-- ---- lists

split_word : (stop : ℕ) (word : List ℕ) → Lacks stop word → slice_split (λ octet. eqb octet stop) word ≡ word ∷ []
split_word stop [] h = refl
split_word stop (octet ∷ word) h = rw (h.0, split_word stop word h.1) refl

split_again : (stop : ℕ) (word rest : List ℕ) → Lacks stop word → slice_split (λ octet. eqb octet stop) (word ++ stop ∷ rest) ≡ word ∷ slice_split (λ octet. eqb octet stop) rest
split_again stop [] rest h = rw (eq-eqb stop stop refl) refl
split_again stop (octet ∷ word) rest h = rw (h.0, split_again stop word rest h.1) refl

split_lines : (line : List ℕ) (lines : List (List ℕ)) → Lacks tab line → AllByRecursion IsValueText lines → slice_split (λ octet. eqb octet tab) (line ++ lines_text lines) ≡ line ∷ lines
split_lines line [] h hs = rw (append-nil line) (split_word tab line h)
split_lines line (next ∷ lines) h hs = split_again tab line (next ++ lines_text lines) h ∙ ap (λ (l : List (List ℕ)). line ∷ l) (split_lines next lines hs.0.no_tab hs.1)

more : List ℕ → List ℕ
more indexes = flat_map (λ i. comma ∷ decimal i) indexes

split_numbers : (index : ℕ) (indexes : List ℕ) → index < 2 ^ 32 → AllByRecursion (λ i. i < 2 ^ 32) indexes → numbers_in (slice_split (λ octet. eqb octet comma) (decimal index ++ more indexes)) ≡ Some (index ∷ indexes)
unfolding more
split_numbers index [] lt lts = rw (append-nil (decimal index), split_word comma (decimal index) (decimal_lacks comma index (omega arith) (omega (arith, lt)))) (rw (number_again index lt) refl)
split_numbers index (next ∷ indexes) lt lts =
    rw (split_again comma (decimal index) (decimal next ++ more indexes) (decimal_lacks comma index (omega arith) (omega (arith, lt))))
    (rw (number_again index lt, split_numbers next indexes lts.0 lts.1) refl)

indexes_again : (indexes : List ℕ) → AllByRecursion (λ i. i < 2 ^ 32) indexes → indexes_in (indexes_text indexes) ≡ Some indexes
unfolding more
indexes_again [] lts = refl
indexes_again (index ∷ indexes) lts = rw (number_is_no_sign 45 index (more indexes) (omega arith) (omega (arith, lts.0))) (split_numbers index indexes lts.0 lts.1)

more_lacks : (indexes : List ℕ) → AllByRecursion (λ i. i < 2 ^ 32) indexes → Lacks tab (more indexes)
unfolding more
more_lacks [] lts = tt
more_lacks (index ∷ indexes) lts = (refl, lacks_joined tab (decimal index) (more indexes) (decimal_lacks tab index (omega arith) (omega (arith, lts.0))) (more_lacks indexes lts.1))

indexes_lack : (indexes : List ℕ) → AllByRecursion (λ i. i < 2 ^ 32) indexes → Lacks tab (indexes_text indexes)
unfolding more
indexes_lack [] lts = (refl, tt)
indexes_lack (index ∷ indexes) lts = lacks_joined tab (decimal index) (more indexes) (decimal_lacks tab index (omega arith) (omega (arith, lts.0))) (more_lacks indexes lts.1)

-- ---- the values before

-- the text behind the tab that ends the indexes
behind : ValuesBefore → Option (List ℕ)
behind (before.Lines []) = None
behind (before.Lines (line ∷ lines)) = Some (line ++ lines_text lines)
behind (before.LeftOut count) = Some (left_out ∷ decimal count)

first_again : (word : List ℕ) (b : ValuesBefore) → Lacks tab word → first_field (word ++ before_text b) ≡ (word, behind b)
unfolding behind
first_again word (before.Lines []) h = rw (append-nil word) (rw (cut_lacks tab word h) refl)
first_again word (before.Lines (line ∷ lines)) h = rw (cut_again tab word (line ++ lines_text lines) h) refl
first_again word (before.LeftOut count) h = rw (cut_again tab word (left_out ∷ decimal count) h) refl

starts : (line rest : List ℕ) → 0 < length line → eqb (get_or line 0 0) left_out ≡ false → eqb (get_or (line ++ rest) 0 0) left_out ≡ false
starts [] rest some h = absurd (omega (arith, some))
starts (octet ∷ line) rest some h = h

before_again : (b : ValuesBefore) → BeforeFits b → before_in (behind b) ≡ Some b
unfolding behind
before_again (before.Lines []) fits = refl
before_again (before.Lines (line ∷ lines)) fits =
    rw (starts line (lines_text lines) fits.0.something fits.0.value)
    (rw (split_lines line lines fits.0.no_tab fits.1) refl)
before_again (before.LeftOut count) fits = rw (long_again count fits) refl

-- ---- the whole

pub written_is_read_lem : (e : Entry) → EntryFits e → entry_in (line_of e) ≡ Ok e
unfolding entry_in line_of
written_is_read_lem e fits =
    let last = indexes_text e.indexes ++ before_text e.before in
    let authored = field (author_text e.author) ++ last in
    let handled = field (escaped e.handle) ++ authored in
    rw (moment_again e.moment (field (operation_word e.operation) ++ handled) fits.moment)
    (rw (operation_again e.operation handled)
    (rw (handle_again e.handle authored fits.handle)
    (rw (author_again e.author last fits.author)
    (rw (first_again (indexes_text e.indexes) e.before (indexes_lack e.indexes fits.indexes))
    (rw (indexes_again e.indexes fits.indexes, before_again e.before fits.before) refl)))))
