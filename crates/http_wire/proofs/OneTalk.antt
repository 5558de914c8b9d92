-- A connection's bytes have one first item, and one sequence of items.
use Rattle.std.proofs.Common.{◌≡◌, ℕ, ◌+◌, ◌<◌, ◌≤◌, ◌⊎◌, inl, inr, Bool, true, false, List, [], ◌∷◌, ◌++◌, length, take, map, refl, sym, ap, subst, ◌∙◌, arith, length-append}
use Rattle.std.specs.Bool.{MatchBool}
use Rattle.std.proofs.lemmas.Bool.{MatchBool-at_true, MatchBool-at_false}
use Rattle.std.proofs.lemmas.List.{take_at, append_cancel_left}
use Rattle.httparse.specs.Ascii.{line_feed}
use Rattle.httparse.specs.Grammar.{RequestHead, print_request}
use Rattle.httparse.specs.Spans.{name_and_value}
use Rattle.httparse.proofs.GrammarLemmas.{request_unique}
use Rattle.http_wire.specs.declared.framing.Framing.{Framing}
use Rattle.http_wire.specs.declared.framing.Framing.TheVariants.{Bad as BadFields, Coded as OtherCoding, TooLong as LongBody, Length, Chunked}
use Rattle.http_wire.specs.declared.request.Request.{Request}
use Rattle.http_wire.specs.Framing.{framing}
use Rattle.http_wire.specs.Heads.{HasNoHead}
use Rattle.http_wire.specs.ChunkedBodies.{ChunkedBody, print_chunked_body, ReadsChunkedBody, HasNoChunkedBody, ExceedsBodyLimit, chunk_data as joined}
use Rattle.http_wire.specs.inner.ChunkDecoder.{Decoding, decoding, initial_decoding}
use Rattle.http_wire.specs.declared.chunk_decoder.ChunkState.TheVariants.{Done, TooLong}
use Rattle.http_wire.specs.ConnectionItems.{Item, asks, bad, too_long, coded, request_of, BeginsWithFramedHead, HoldsAfterHead, HasFraming, AsksFor, with_length, in_chunks, IsBadRequest, no_head, bad_fields, body_cut, no_body, HasTooLongBody, long_body, long_chunks, IsFirstItem, HaveEqualRests, ends_connection, IsItemSequence}
use Rattle.http_wire.specs.inner.ReadBuffer.{HasNoBodyYet}
use Rattle.http_wire.proofs.Fronts.{head_feeds}
use Rattle.http_wire.proofs.BodyRuns.{settles_once, reads_body}
use Rattle.http_wire.proofs.BodyFacts.{short_settles, limit_settles}

-- a head has at least one byte
some_bytes : (bytes : List ℕ) (h : RequestHead) (f : Framing) (r : List ℕ) → BeginsWithFramedHead bytes h f r → 0 < length bytes
some_bytes bytes h f r opens =
    let feeds = head_feeds h in
    omega (arith, ap length opens.begins.reads.1, length-append (print_request h) r, ap length feeds.1, length-append feeds.0 (line_feed ∷ []))

-- two openings of the same bytes are equal
pub same_head : (bytes : List ℕ) (h k : RequestHead) (f g : Framing) (r q : List ℕ) → BeginsWithFramedHead bytes h f r → BeginsWithFramedHead bytes k g q → (h ≡ k) × (f ≡ g) × (r ≡ q)
same_head bytes h k f g r q x y =
    let one = request_unique bytes h k r q x.begins.reads y.begins.reads in
    let heads : h ≡ k = one.0 in
    (heads, sym x.framed ∙ ap (λ (d : RequestHead). framing d.minor (map name_and_value d.fields)) heads ∙ y.framed, one.1)

-- What comes after a head of a framing, by number: 0 a request, 1 bad, 2 too long, 3 coded.

-- a chunked body within the limit
abbrev HasShort : List ℕ → Type 0
HasShort bytes = (c : ChunkedBody) × (rest : List ℕ) × ReadsChunkedBody bytes c rest × (length (joined c.chunks) ≤ 262_144)

abbrev KindIs : Framing → List ℕ → ℕ → Type 0
KindIs BadFields behind k = k ≡ 1
KindIs OtherCoding behind k = k ≡ 3
KindIs LongBody behind k = k ≡ 2
KindIs (Length len) behind k = ((len ≤ length behind) × (k ≡ 0)) ⊎ ((length behind < len) × (k ≡ 1))
KindIs Chunked behind k = (HasShort behind × (k ≡ 0)) ⊎ ((ExceedsBodyLimit behind × (k ≡ 2)) ⊎ (HasNoBodyYet behind × (k ≡ 1)))

abbrev Begun : List ℕ → ℕ → Type 0
Begun bytes k = (head : RequestHead) × (what : Framing) × (behind : List ℕ) × BeginsWithFramedHead bytes head what behind × KindIs what behind k

abbrev HasKind : List ℕ → ℕ → Type 0
HasKind bytes k = ((0 < length bytes) × HasNoHead bytes × (k ≡ 1)) ⊎ Begun bytes k

abbrev kind : Item → ℕ
kind (asks request) = 0
kind bad = 1
kind too_long = 2
kind coded = 3

follows_kind : (bytes : List ℕ) (what : Framing) (P : List ℕ → Type 0) (k : ℕ) → HoldsAfterHead what bytes P → ((rest : List ℕ) → P rest → KindIs what rest k) → HasKind bytes k
follows_kind bytes what P k f each = inr (f.head, what, f.rest, f.opens, each f.rest f.behind)

framed_kind : (bytes : List ℕ) (what : Framing) (k : ℕ) → HasFraming what bytes → ((rest : List ℕ) → KindIs what rest k) → HasKind bytes k
framed_kind bytes what k f each = inr (f.0, what, f.1, f.2, each f.1)

bad_kind : (bytes : List ℕ) → IsBadRequest bytes → HasKind bytes 1
bad_kind bytes (no_head some none) = inl (some, none, refl)
bad_kind bytes (bad_fields f) = framed_kind bytes BadFields 1 f (λ rest. refl)
bad_kind bytes (body_cut len f) = follows_kind bytes (Length len) (λ rest. length rest < len) 1 f (λ rest fewer. inr (fewer, refl))
bad_kind bytes (no_body f) = follows_kind bytes Chunked (λ rest. HasNoChunkedBody rest × ¬ (ExceedsBodyLimit rest)) 1 f (λ rest none. inr (inr (none, refl)))

long_kind : (bytes : List ℕ) → HasTooLongBody bytes → HasKind bytes 2
long_kind bytes (long_body f) = framed_kind bytes LongBody 2 f (λ rest. refl)
long_kind bytes (long_chunks f) = follows_kind bytes Chunked ExceedsBodyLimit 2 f (λ rest passes. inr (inl (passes, refl)))

asks_kind : (before : ℕ) (bytes : List ℕ) (request : Request) (rest : List ℕ) → AsksFor before bytes request rest → HasKind bytes 0
asks_kind before bytes request rest (with_length head body opens is) = inr (head, Length (length body), body ++ rest, opens, inl (omega (arith, length-append body rest), refl))
asks_kind before bytes request rest (in_chunks head behind body opens reads short is) = inr (head, Chunked, behind, opens, inl ((body, rest, reads, short), refl))

has_kind : (before : ℕ) (bytes rest : List ℕ) (item : Item) → IsFirstItem before bytes item rest → HasKind bytes (kind item)
has_kind before bytes rest (asks request) first = asks_kind before bytes request rest first
has_kind before bytes rest bad first = bad_kind bytes first
has_kind before bytes rest too_long first = long_kind bytes first
has_kind before bytes rest coded first = framed_kind bytes OtherCoding 3 first (λ r. refl)

-- a body within the limit doesn't pass it
pub short_or_long : (bytes : List ℕ) → HasShort bytes → ExceedsBodyLimit bytes → ⊥
short_or_long bytes h passes =
    let x = short_settles bytes h.0 h.1 h.2 h.3 in
    let y = limit_settles bytes passes in
    let same = settles_once _ x.front y.front x.back y.back (decoding Done x.last) (decoding TooLong y.last) x.reads y.reads (sym x.split ∙ y.split) refl refl in
    apart (ap (λ d. d.stage) same.0)
  where
    apart : Done ≡ TooLong → ⊥
    apart e = cc

kind_once : (what : Framing) (behind : List ℕ) (j k : ℕ) → KindIs what behind j → KindIs what behind k → j ≡ k
kind_once BadFields behind j k x y = x ∙ sym y
kind_once OtherCoding behind j k x y = x ∙ sym y
kind_once LongBody behind j k x y = x ∙ sym y
kind_once (Length len) behind j k (inl x) (inl y) = x.1 ∙ sym y.1
kind_once (Length len) behind j k (inl x) (inr y) = absurd (omega (arith, x.0, y.0))
kind_once (Length len) behind j k (inr x) (inl y) = absurd (omega (arith, x.0, y.0))
kind_once (Length len) behind j k (inr x) (inr y) = x.1 ∙ sym y.1
kind_once Chunked behind j k (inl x) (inl y) = x.1 ∙ sym y.1
kind_once Chunked behind j k (inl x) (inr (inl y)) = absurd (short_or_long behind x.0 y.0)
kind_once Chunked behind j k (inl x) (inr (inr y)) = absurd (y.0.0 x.0.0 x.0.1 x.0.2)
kind_once Chunked behind j k (inr (inl x)) (inl y) = absurd (short_or_long behind y.0 x.0)
kind_once Chunked behind j k (inr (inl x)) (inr (inl y)) = x.1 ∙ sym y.1
kind_once Chunked behind j k (inr (inl x)) (inr (inr y)) = absurd (y.0.1 x.0)
kind_once Chunked behind j k (inr (inr x)) (inl y) = absurd (x.0.0 y.0.0 y.0.1 y.0.2)
kind_once Chunked behind j k (inr (inr x)) (inr (inl y)) = absurd (x.0.1 y.0)
kind_once Chunked behind j k (inr (inr x)) (inr (inr y)) = x.1 ∙ sym y.1

one_kind : (bytes : List ℕ) (j k : ℕ) → HasKind bytes j → HasKind bytes k → j ≡ k
one_kind bytes j k (inl x) (inl y) = x.2 ∙ sym y.2
one_kind bytes j k (inl x) (inr y) = absurd (x.1 y.0 y.2 y.3.begins)
one_kind bytes j k (inr x) (inl y) = absurd (y.1 x.0 x.2 x.3.begins)
one_kind bytes j k (inr x) (inr y) =
    let same = same_head bytes x.0 y.0 x.1 y.1 x.2 y.2 x.3 y.3 in
    kind_once y.1 y.2 j k (subst (λ (f : Framing). KindIs f y.2 j) same.1 (subst (λ (l : List ℕ). KindIs x.1 l j) same.2 x.4)) y.4

-- Two requests at the front are equal.

abbrev pub length_of : Framing → ℕ
length_of BadFields = 0
length_of OtherCoding = 0
length_of LongBody = 0
length_of (Length len) = len
length_of Chunked = 0

one_request : (before : ℕ) (bytes rest other : List ℕ) (a b : Request) → AsksFor before bytes a rest → AsksFor before bytes b other → (a ≡ b) × (rest ≡ other)
one_request before bytes rest other a b (with_length p body opens is) (with_length q body' opens' is') =
    let same = same_head bytes p q (Length (length body)) (Length (length body')) (body ++ rest) (body' ++ other) opens opens' in
    let heads : p ≡ q = same.0 in
    let size : length body ≡ length body' = ap length_of same.1 in
    let whole : body ++ rest ≡ body' ++ other = same.2 in
    let bodies : body ≡ body' = sym (take_at body rest (length body') size) ∙ ap (take (length body')) whole ∙ take_at body' other (length body') refl in (
      is ∙ ap (λ (h : RequestHead). request_of before h body) heads ∙ ap (request_of before q) bodies ∙ sym is',
      append_cancel_left body' rest other (subst (λ (l : List ℕ). l ++ rest ≡ body' ++ other) bodies whole),
    )
one_request before bytes rest other a b (with_length p body opens is) (in_chunks q behind body' opens' reads' short' is') =
    let same = same_head bytes p q (Length (length body)) Chunked (body ++ rest) behind opens opens' in
    absurd (apart (length body) same.1)
  where
    apart : (n : ℕ) → Length n ≡ Chunked → ⊥
    apart n e = cc
one_request before bytes rest other a b (in_chunks p behind body opens reads short is) (with_length q body' opens' is') =
    let same = same_head bytes p q Chunked (Length (length body')) behind (body' ++ other) opens opens' in
    absurd (apart (length body') same.1)
  where
    apart : (n : ℕ) → Chunked ≡ Length n → ⊥
    apart n e = cc
one_request before bytes rest other a b (in_chunks p behind body opens reads short is) (in_chunks q behind' body' opens' reads' short' is') =
    let same = same_head bytes p q Chunked Chunked behind behind' opens opens' in
    let heads : p ≡ q = same.0 in
    let one_behind : behind ≡ behind' = same.2 in
    let one = settles_once initial_decoding (print_chunked_body body) (print_chunked_body body') rest other (decoding Done (joined body.chunks)) (decoding Done (joined body'.chunks)) (reads_body body reads.0 short) (reads_body body' reads'.0 short') (sym reads.1 ∙ one_behind ∙ reads'.1) refl refl in
    let bodies : joined body.chunks ≡ joined body'.chunks = ap (λ (d : Decoding). d.body) one.0 in (
      is ∙ ap (λ (h : RequestHead). request_of before h (joined body.chunks)) heads ∙ ap (request_of before q) bodies ∙ sym is',
      one.2,
    )

pub one_first_item : (before : ℕ) (bytes rest other : List ℕ) (x y : Item) → IsFirstItem before bytes x rest → IsFirstItem before bytes y other → (x ≡ y) × HaveEqualRests x rest other
one_first_item before bytes rest other x y p q = by_kind x y p q (one_kind bytes (kind x) (kind y) (has_kind before bytes rest x p) (has_kind before bytes other y q))
  where
    by_kind : (x y : Item) → IsFirstItem before bytes x rest → IsFirstItem before bytes y other → kind x ≡ kind y → (x ≡ y) × HaveEqualRests x rest other
    by_kind (asks a) (asks b) p q same = let one = one_request before bytes rest other a b p q in (ap asks one.0, one.1)
    by_kind bad bad p q same = (refl, tt)
    by_kind too_long too_long p q same = (refl, tt)
    by_kind coded coded p q same = (refl, tt)
    by_kind (asks a) bad p q same = absurd (omega (arith, same))
    by_kind (asks a) too_long p q same = absurd (omega (arith, same))
    by_kind (asks a) coded p q same = absurd (omega (arith, same))
    by_kind bad (asks b) p q same = absurd (omega (arith, same))
    by_kind bad too_long p q same = absurd (omega (arith, same))
    by_kind bad coded p q same = absurd (omega (arith, same))
    by_kind too_long (asks b) p q same = absurd (omega (arith, same))
    by_kind too_long bad p q same = absurd (omega (arith, same))
    by_kind too_long coded p q same = absurd (omega (arith, same))
    by_kind coded (asks b) p q same = absurd (omega (arith, same))
    by_kind coded bad p q same = absurd (omega (arith, same))
    by_kind coded too_long p q same = absurd (omega (arith, same))

-- no item is first in no bytes
some_item_bytes : (before : ℕ) (bytes rest : List ℕ) (item : Item) → IsFirstItem before bytes item rest → 0 < length bytes
some_item_bytes before bytes rest item first = by_kind (has_kind before bytes rest item first)
  where
    by_kind : HasKind bytes (kind item) → 0 < length bytes
    by_kind (inl x) = x.0
    by_kind (inr x) = some_bytes bytes x.0 x.1 x.2 x.3

pub one_talk : (before : ℕ) (bytes : List ℕ) (xs ys : List Item) → IsItemSequence before bytes xs → IsItemSequence before bytes ys → xs ≡ ys
one_talk before bytes [] [] p q = refl
one_talk before bytes [] (y ∷ ys) p q = absurd (omega (arith, ap length p, some_item_bytes before bytes q.0 y q.1))
one_talk before bytes (x ∷ xs) [] p q = absurd (omega (arith, ap length q, some_item_bytes before bytes p.0 x p.1))
one_talk before bytes (x ∷ xs) (y ∷ ys) p q =
    let one = one_first_item before bytes p.0 q.0 x y p.1 q.1 in
    let items : x ≡ y = one.0 in
    let next = λ (l : List ℕ) (u : IsItemSequence (before + 1) l xs) (v : IsItemSequence (before + 1) l ys). one_talk (before + 1) l xs ys u v in
    let tails : xs ≡ ys = by_end next x (ends_connection x) refl one.1 p.2 (subst (λ (i : Item). MatchBool (ends_connection i) (ys ≡ []) (IsItemSequence (before + 1) q.0 ys)) (sym items) q.2) in
    cc
  where
    by_end : ((l : List ℕ) → IsItemSequence (before + 1) l xs → IsItemSequence (before + 1) l ys → xs ≡ ys) → (x : Item) (b : Bool) → ends_connection x ≡ b → HaveEqualRests x p.0 q.0 → MatchBool (ends_connection x) (xs ≡ []) (IsItemSequence (before + 1) p.0 xs) → MatchBool (ends_connection x) (ys ≡ []) (IsItemSequence (before + 1) q.0 ys) → xs ≡ ys
    by_end next (asks r) true ends same u v = MatchBool-at_true (xs ≡ []) (IsItemSequence (before + 1) p.0 xs) ends u ∙ sym (MatchBool-at_true (ys ≡ []) (IsItemSequence (before + 1) q.0 ys) ends v)
    by_end next (asks r) false ends same u v =
        next p.0 (MatchBool-at_false (xs ≡ []) (IsItemSequence (before + 1) p.0 xs) ends u)
        (subst (λ (l : List ℕ). IsItemSequence (before + 1) l ys) (sym same) (MatchBool-at_false (ys ≡ []) (IsItemSequence (before + 1) q.0 ys) ends v))
    by_end next bad b ends same u v = u ∙ sym v
    by_end next too_long b ends same u v = u ∙ sym v
    by_end next coded b ends same u v = u ∙ sym v
