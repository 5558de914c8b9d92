-- What is decided at each place up to which an item was read, and what is held then.
use Rattle.std.proofs.Common.{◌≡◌, ℕ, ◌+◌, ◌-◌, ◌<◌, ◌≤◌, ◌⊎◌, inl, inr, Bool, true, false, List, [], ◌∷◌, ◌++◌, length, take, drop, map, slice_range, Result, Ok, Err, IfOk, MatchResult, OnErr, refl, sym, ap, subst, ◌∙◌, arith, length-append, length-drop, append_assoc, take-append-drop}
use Rattle.std.proofs.lemmas.Bool.{cases_eq}
use Rattle.std.proofs.lemmas.List.{append-nil, drop-drop, length-take-le, take-append-le, drop-append-le, drop_all, take_rest}
use Rattle.httparse.specs.Ascii.{line_feed}
use Rattle.httparse.specs.Grammar.{RequestHead, print_request}
use Rattle.httparse.specs.Spans.{header_bytes, name_and_value}
use Rattle.httparse.specs.declared.spans.HeaderSpan.{HeaderSpan}
use Rattle.httparse.specs.declared.spans.RequestSpans.{RequestSpans}
use Rattle.xcap_io.specs.StreamStates.{InputState}
use Rattle.http_wire.specs.declared.framing.Framing.{Framing}
use Rattle.http_wire.specs.declared.framing.Framing.TheVariants.{Bad as BadFields, Coded as OtherCoding, TooLong as LongBody, Length, Chunked}
use Rattle.http_wire.specs.declared.chunk_decoder.ChunkState.{ChunkState}
use Rattle.http_wire.specs.declared.chunk_decoder.ChunkState.TheVariants.{Done, Bad as BadChunks, TooLong as LongChunks}
use Rattle.http_wire.specs.declared.head_scan.HeadScan.{HeadScan}
use Rattle.http_wire.specs.declared.head_scan.HeadScan.TheVariants.{Head as FoundHead, Open as NoneYet, Hopeless}
use Rattle.http_wire.specs.declared.request.Request.{Request}
use Rattle.http_wire.specs.declared.request.Asked.{Asked}
use Rattle.http_wire.specs.declared.request.Asked.TheVariants.{Request as Requested, Bad, TooLong, Coded}
use Rattle.http_wire.specs.Framing.{framing}
use Rattle.http_wire.specs.ChunkedBodies.{HasNoChunkedBody, MayBecomeChunkedBody, ExceedsBodyLimit, chunk_data}
use Rattle.http_wire.specs.Heads.{HasNoHead}
use Rattle.http_wire.specs.ConnectionItems.{BeginsWithFramedHead, HoldsAfterHead, AsksFor, with_length, in_chunks, IsBadRequest, no_head, bad_fields, body_cut, no_body, HasTooLongBody, long_body, long_chunks, HasFraming, HasNoCompleteItem, lacks_head, lacks_body, lacks_chunks, request_of}
use Rattle.http_wire.specs.inner.ChunkDecoder.{Decoding, initial_decoding, is_settled, DecodesBytes}
use Rattle.http_wire.specs.inner.ReadBuffer.{BeginsWithBody, HasNoBodyYet, IsHeadAt, IsHeadScanResult, IsFramedHeadAt, NeverHasHead}
use Rattle.http_wire.proofs.Steps.{reads_on}
use Rattle.http_wire.proofs.BodyFacts.{goes_on, no_body_ever, other_is_bad, passes_limit, whole_body}
use Rattle.http_wire.proofs.Fronts.{head_at_front, head_feeds, no_head_in_none}
use Rattle.http_wire.proofs.ItemLemmas.{asks_in_chunks, asks_plain, follows_at, framed_at, framed_on, lacks, open_at-append, opens_at}
use Rattle.http_wire.proofs.OneTalk.{same_head}
use Rattle.http_feed.specs.declared.item_reader.ReadPlace.{ReadPlace}
use Rattle.http_feed.specs.declared.item_reader.ReadPlace.TheVariants.{Head, Body, Chunks}
use Rattle.http_feed.specs.declared.item_reader.ReadStep.{ReadStep}
use Rattle.http_feed.specs.Feeds.{IsDecided, IsWaiting}
use Rattle.http_feed.specs.inner.Places.{IsInBody, IsInChunks, HoldsBytes, IsReachablePlace, HasWholeChunks, AnswersStep}
use Rattle.http_feed.specs.inner.Buffers.{ReadBufferState, ChunkDataState}

-- Items that are no request are first, whatever follows.

pub decided_bad : (before : ℕ) (given rest : List ℕ) → ((more : List ℕ) → IsBadRequest (given ++ more)) → IsDecided before given false Bad rest
decided_bad before given rest is = inl (λ more. ([], is more))

pub decided_long : (before : ℕ) (given rest : List ℕ) → ((more : List ℕ) → HasTooLongBody (given ++ more)) → IsDecided before given false TooLong rest
decided_long before given rest is = inl (λ more. ([], is more))

pub decided_coded : (before : ℕ) (given rest : List ℕ) → ((more : List ℕ) → HasFraming OtherCoding (given ++ more)) → IsDecided before given false Coded rest
decided_coded before given rest is = inl (λ more. ([], is more))

-- A head at the front.

module _ (bytes : List ℕ) (headers : List HeaderSpan) (spans : RequestSpans) (what : Framing) (o : IsFramedHeadAt bytes headers spans what) where
  pub inside_bytes : spans.len ≤ length bytes
  inside_bytes = o.at.within.section.len_fits

  pub is_there : {A : Type 0} → HasNoHead bytes → A
  is_there none = absurd (none o.head (drop spans.len bytes) o.at.begins)

  pub is_possible : {A : Type 0} → NeverHasHead bytes → A
  is_possible never = is_there (subst HasNoHead (append-nil bytes) (never []))

  printed : length (print_request o.head) ≡ spans.len
  printed = omega (arith, ap length o.at.begins.reads.1, length-append (print_request o.head) (drop spans.len bytes), length-drop spans.len bytes, inside_bytes)

  pub within_limit : spans.len ≤ 16_384
  within_limit = omega (arith, printed, o.at.begins.short)

  pub some_bytes : 0 < length bytes
  some_bytes =
      let feeds = head_feeds o.head in
      omega (arith, printed, inside_bytes, ap length feeds.1, length-append feeds.0 (line_feed ∷ []))

  -- it is found there again
  module _ (headers' : List HeaderSpan) (spans' : RequestSpans) (head : RequestHead) (at : IsHeadAt bytes headers' spans' head) where
    same : (o.head ≡ head) × (what ≡ framing head.minor (map name_and_value head.fields)) × (drop spans.len bytes ≡ drop spans'.len bytes)
    same = same_head bytes o.head head what (framing head.minor (map name_and_value head.fields)) (drop spans.len bytes) (drop spans'.len bytes) (opens_at bytes headers spans what o) (record { begins = at.begins; framed = refl })

    pub same_size : spans'.len ≡ spans.len
    same_size =
        let fits : spans'.len ≤ length bytes = at.within.section.len_fits in
        omega (arith, ap length same.2, length-drop spans.len bytes, length-drop spans'.len bytes, inside_bytes, fits)

    pub opens_again : IsFramedHeadAt bytes headers' spans' what
    opens_again = record { head = head; at = at; framed = sym same.1 }

  -- no other result of a scan is right
  pub head_is_found : {A : Type 0} (headers' : List HeaderSpan) (scan : HeadScan) → IsHeadScanResult bytes headers' scan → ((s : RequestSpans) → scan ≡ FoundHead s → ⊥) → A
  head_is_found headers' (FoundHead s) is none = absurd (none s refl)
  head_is_found headers' NoneYet is none = is_there is.0
  head_is_found headers' Hopeless is none = is_possible is.0

-- what the fields of a head found at the front say
pub opened : (bytes : List ℕ) (headers : List HeaderSpan) (spans : RequestSpans) (what : Framing) → (head : RequestHead) × IsHeadAt bytes headers spans head → framing spans.version (map (header_bytes bytes) (take spans.headers headers)) ≡ what → IsFramedHeadAt bytes headers spans what
opened bytes headers spans what found is = record {
  head = found.0;
  at = found.1;
  framed = sym (framed_at bytes headers spans found.0 found.1) ∙ is;
}

-- A body of a stated length.

module _ (head len : ℕ) (bytes given : List ℕ) (b : IsInBody head len bytes given) where
  pub body_head : IsFramedHeadAt given b.headers b.spans (Length len)
  body_head = subst (λ (l : List ℕ). IsFramedHeadAt l b.headers b.spans (Length len)) (sym b.same) b.opens

  pub body_waits : length bytes < head + len → IsWaiting given × IsInBody head len bytes given × (length bytes < 278_528)
  body_waits fewer = (
    record {
      unfinished = subst HasNoCompleteItem (sym b.same) (lacks_body len (lacks bytes b.headers b.spans len b.opens (omega (arith, b.size, fewer))));
      head_within = λ none. is_there given b.headers b.spans (Length len) body_head none;
    },
    b,
    omega (arith, within_limit bytes b.headers b.spans (Length len) b.opens, b.size, b.short, fewer),
  )

  -- the head was found again, and the body is there
  pub body_asks : (before : ℕ) (headers' : List HeaderSpan) (spans' : RequestSpans) (request : Request) → head + len ≤ length bytes → (found : (h : RequestHead) × IsHeadAt bytes headers' spans' h)
      → request ≡ request_of before found.0 (slice_range bytes head (head + len)) → AsksFor before given request (drop (head + len) bytes)
  unfolding opens_again
  body_asks before headers' spans' request enough found is =
      let o : IsFramedHeadAt bytes headers' spans' (Length len) = opens_again bytes b.headers b.spans (Length len) b.opens headers' spans' found.0 found.1 in
      let size : spans'.len ≡ head = same_size bytes b.headers b.spans (Length len) b.opens headers' spans' found.0 found.1 ∙ b.size in
      subst (λ (l : List ℕ). AsksFor before l request (drop (head + len) bytes)) (sym b.same)
      (subst (AsksFor before bytes request) (ap (λ (n : ℕ). drop (n + len) bytes) size)
      (asks_plain before bytes headers' spans' len request o (omega (arith, size, enough)) (is ∙ ap (λ (n : ℕ). request_of before found.0 (slice_range bytes n (n + len))) (sym size))))

-- A chunked body.

-- before its first byte
pub chunks_begin : (bytes : List ℕ) (headers : List HeaderSpan) (spans : RequestSpans) → IsFramedHeadAt bytes headers spans Chunked → IsInChunks spans.len bytes initial_decoding bytes
chunks_begin bytes headers spans o = record {
  raw = [];
  headers = headers;
  spans = spans;
  opens = record { head = o.head; at = head_at_front bytes headers spans o.head o.at; framed = o.framed };
  size = refl;
  inside = inside_bytes bytes headers spans Chunked o;
  split = sym (take-append-drop spans.len bytes);
  reads = refl;
}

module _ (head : ℕ) (bytes : List ℕ) (d : Decoding) (given : List ℕ) (c : IsInChunks head bytes d given) where
  abbrev front : List ℕ
  front = take head bytes

  front_size : length front ≡ head
  front_size = length-take-le head bytes c.inside

  front_is_head : drop c.spans.len front ≡ []
  front_is_head = drop_all c.spans.len front (omega (arith, front_size, c.size))

  pub chunks_head : IsFramedHeadAt given c.headers c.spans Chunked
  chunks_head = subst (λ (l : List ℕ). IsFramedHeadAt l c.headers c.spans Chunked) (sym c.split) (open_at-append front (c.raw ++ drop head bytes) c.headers c.spans Chunked c.opens)

  -- after some of the bytes were decoded
  module _ (used : ℕ) (d' : Decoding) (reads : DecodesBytes d (take used (drop head bytes)) d') where
    abbrev decoded : List ℕ
    decoded = c.raw ++ take used (drop head bytes)

    abbrev left : List ℕ
    left = drop used (drop head bytes)

    splits : given ≡ front ++ (decoded ++ left)
    splits = c.split ∙ ap (λ (l : List ℕ). front ++ l) (ap (λ (l : List ℕ). c.raw ++ l) (sym (take-append-drop used (drop head bytes))) ∙ sym (append_assoc c.raw (take used (drop head bytes)) left))

    all_reads : DecodesBytes initial_decoding decoded d'
    all_reads = reads_on initial_decoding d d' c.raw (take used (drop head bytes)) c.reads reads

    -- after the head come bytes with the property
    comes : (P : List ℕ → Type 0) (more : List ℕ) → P ((decoded ++ left) ++ more) → HoldsAfterHead Chunked (given ++ more) P
    comes P more p =
        subst (λ (l : List ℕ). HoldsAfterHead Chunked l P) (sym (ap (λ (l : List ℕ). l ++ more) splits ∙ append_assoc front (decoded ++ left) more))
        (follows_at front ((decoded ++ left) ++ more) c.headers c.spans Chunked P c.opens (subst (λ (l : List ℕ). P (l ++ ((decoded ++ left) ++ more))) (sym front_is_head) p))

    pub chunks_long : d'.stage ≡ LongChunks → (more : List ℕ) → HasTooLongBody (given ++ more)
    chunks_long is more = long_chunks (comes ExceedsBodyLimit more (subst ExceedsBodyLimit (sym (append_assoc decoded left more)) (passes_limit decoded (left ++ more) d' all_reads is)))

    pub chunks_bad : d'.stage ≡ BadChunks → (more : List ℕ) → IsBadRequest (given ++ more)
    chunks_bad is more = no_body (comes HasNoBodyYet more (subst HasNoBodyYet (sym (append_assoc decoded left more)) (no_body_ever decoded (left ++ more) d' all_reads is)))

    pub chunks_done : used ≤ length (drop head bytes) → d'.stage ≡ Done → HasWholeChunks head used bytes d'.body given
    chunks_done few is = record {
      raw = decoded ++ left;
      headers = c.headers;
      spans = c.spans;
      opens = c.opens;
      size = c.size;
      inside = omega (arith, length-drop head bytes, c.inside, few);
      split = splits;
      has = subst (BeginsWithBody (decoded ++ left) d'.body) (drop-drop used head bytes) (whole_body decoded left d' all_reads is);
    }

    -- all were decoded, and the body goes on
    module _ (all : used ≡ length (drop head bytes)) (going : is_settled d'.stage ≡ false) where
      none_left : left ≡ []
      none_left = drop_all used (drop head bytes) (omega (arith, all))

      all_decoded : decoded ++ left ≡ decoded
      all_decoded = ap (λ (l : List ℕ). decoded ++ l) none_left ∙ append-nil decoded

      take_front : take head front ≡ front
      take_front = sym (append-nil (take head front)) ∙ ap (λ (l : List ℕ). take head front ++ l) (sym (drop_all head front (omega (arith, front_size)))) ∙ take-append-drop head front

      pub chunks_wait : IsWaiting given
      chunks_wait =
          let on = goes_on decoded d' all_reads going in
          record {
            unfinished = subst HasNoCompleteItem (append-nil given) (lacks_chunks (comes (λ rest. MayBecomeChunkedBody rest × HasNoChunkedBody rest × ¬ (ExceedsBodyLimit rest)) []
                (subst (λ (l : List ℕ). MayBecomeChunkedBody l × HasNoChunkedBody l × ¬ (ExceedsBodyLimit l)) (sym (append-nil (decoded ++ left) ∙ all_decoded)) (on.0, on.1.0, on.1.1))));
            head_within = λ none. is_there given c.headers c.spans Chunked chunks_head none;
          }

      pub chunks_go_on : IsInChunks head front d' given
      chunks_go_on = record {
        raw = decoded;
        headers = c.headers;
        spans = c.spans;
        opens = subst (λ (l : List ℕ). IsFramedHeadAt l c.headers c.spans Chunked) (sym take_front) c.opens;
        size = c.size;
        inside = omega (arith, front_size);
        split = splits
            ∙ ap (λ (l : List ℕ). front ++ l) all_decoded
            ∙ ap (λ (l : List ℕ). l ++ decoded) (sym take_front)
            ∙ ap (λ (l : List ℕ). take head front ++ l) (sym (ap (λ (l : List ℕ). decoded ++ l) (drop_all head front (omega (arith, front_size))) ∙ append-nil decoded));
        reads = all_reads;
      }

      pub front_fits : length front < 278_528
      front_fits = omega (arith, front_size, within_limit given c.headers c.spans Chunked chunks_head, c.size)

-- a body that is neither complete nor refused goes on
pub goes_still : (s : ChunkState) → ¬ (s ≡ Done) → ¬ (s ≡ BadChunks) → ¬ (s ≡ LongChunks) → is_settled s ≡ false
goes_still s done bad long = by_settled (is_settled s) refl
  where
    by_settled : (t : Bool) → is_settled s ≡ t → t ≡ false
    by_settled true is = absurd (bad (other_is_bad s is done long))
    by_settled false is = refl

-- the bytes after the head, as they were lent
pub lent : (head : ℕ) (slice bytes : List ℕ) → slice ≡ bytes → take (length slice - head) (drop head slice) ≡ drop head bytes
lent head slice bytes is = take_rest slice head ∙ ap (drop head) is

-- the whole body was decoded
module _ (head used : ℕ) (bytes body given : List ℕ) (w : HasWholeChunks head used bytes body given) where
  pub whole_head : IsFramedHeadAt bytes w.headers w.spans Chunked
  whole_head = subst (λ (l : List ℕ). IsFramedHeadAt l w.headers w.spans Chunked) (take-append-drop head bytes) (open_at-append (take head bytes) (drop head bytes) w.headers w.spans Chunked w.opens)

  -- the head was found again
  pub chunks_ask : (before : ℕ) (headers' : List HeaderSpan) (spans' : RequestSpans) (request : Request) → (found : (h : RequestHead) × IsHeadAt bytes headers' spans' h) → request ≡ request_of before found.0 body
      → AsksFor before given request (drop (head + used) bytes)
  chunks_ask before headers' spans' request found is =
      let again = opens_again bytes w.headers w.spans Chunked whole_head headers' spans' found.0 found.1 in
      let framed = same_framing found in
      let size : spans'.len ≡ head = same_size bytes w.headers w.spans Chunked whole_head headers' spans' found.0 found.1 ∙ w.size in
      let o : IsFramedHeadAt (take head bytes) headers' spans' Chunked = record { head = found.0; at = subst (λ (n : ℕ). IsHeadAt (take n bytes) headers' spans' found.0) size (head_at_front bytes headers' spans' found.0 found.1); framed = framed } in
      let none : drop spans'.len (take head bytes) ≡ [] = drop_all spans'.len (take head bytes) (omega (arith, length-take-le head bytes (omega (arith, w.inside)), size)) in
      subst (λ (l : List ℕ). AsksFor before l request (drop (head + used) bytes)) (sym w.split)
      (asks_in_chunks before (take head bytes) w.raw headers' spans' request body (drop (head + used) bytes) o
      (subst (λ (l : List ℕ). BeginsWithBody (l ++ w.raw) body (drop (head + used) bytes)) (sym none) w.has) is)
    where
      same_framing : (found : (h : RequestHead) × IsHeadAt bytes headers' spans' h) → framing found.0.minor (map name_and_value found.0.fields) ≡ Chunked
      same_framing found = sym (same bytes w.headers w.spans Chunked whole_head headers' spans' found.0 found.1).1

-- What is held at a place.

pub placed : (place : ReadPlace) (bytes : List ℕ) (d : Decoding) (given : List ℕ) → HoldsBytes place bytes d given → IsReachablePlace place bytes
placed (Head seen) bytes d given h = (h.0, h.1)
placed (Body head len) bytes d given h = h.short
placed (Chunks head) bytes d given h = h.0.inside

-- more bytes are held with those before
pub holds_more : (place : ReadPlace) (bytes more : List ℕ) (d : Decoding) (given : List ℕ) → HoldsBytes place bytes d given → HoldsBytes place (bytes ++ more) d (given ++ more)
holds_more (Head seen) bytes more d given h =
    (omega (arith, length-append bytes more, h.0), subst HasNoHead (sym (take-append-le seen bytes more h.0)) h.1, ap (λ (l : List ℕ). l ++ more) h.2)
holds_more (Body head len) bytes more d given b = record {
  headers = b.headers;
  spans = b.spans;
  opens = open_at-append bytes more b.headers b.spans (Length len) b.opens;
  size = b.size;
  short = b.short;
  same = ap (λ (l : List ℕ). l ++ more) b.same;
}
holds_more (Chunks head) bytes more d given (c, going) =
    let front : take head (bytes ++ more) ≡ take head bytes = take-append-le head bytes more c.inside in (
      record {
        raw = c.raw;
        headers = c.headers;
        spans = c.spans;
        opens = subst (λ (l : List ℕ). IsFramedHeadAt l c.headers c.spans Chunked) (sym front) c.opens;
        size = c.size;
        inside = omega (arith, length-append bytes more, c.inside);
        split = ap (λ (l : List ℕ). l ++ more) c.split
            ∙ append_assoc (take head bytes) (c.raw ++ drop head bytes) more
            ∙ ap (λ (l : List ℕ). take head bytes ++ l) (append_assoc c.raw (drop head bytes) more)
            ∙ ap (λ (l : List ℕ). take head bytes ++ (c.raw ++ l)) (sym (drop-append-le head bytes more c.inside))
            ∙ ap (λ (l : List ℕ). l ++ (c.raw ++ drop head (bytes ++ more))) (sym front);
        reads = c.reads;
      },
      going,
    )

-- the bytes given are none just where none are in the buffer
length_none : (bytes : List ℕ) → bytes ≡ [] → length bytes ≡ 0
length_none bytes is = ap length is

pub none_given : (place : ReadPlace) (bytes : List ℕ) (d : Decoding) (given : List ℕ) → HoldsBytes place bytes d given → bytes ≡ [] → given ≡ []
none_given (Head seen) bytes d given h is = h.2 ∙ is
none_given (Body head len) bytes d given b is = absurd (omega (arith, some_bytes bytes b.headers b.spans (Length len) b.opens, length_none bytes is))
none_given (Chunks head) bytes d given (c, going) is =
    absurd (omega (arith, some_bytes (take head bytes) c.headers c.spans Chunked c.opens, length-take-le head bytes c.inside, c.inside, length_none bytes is))

pub none_held : (place : ReadPlace) (bytes : List ℕ) (d : Decoding) (given : List ℕ) → HoldsBytes place bytes d given → given ≡ [] → bytes ≡ []
none_held (Head seen) bytes d given h is = sym h.2 ∙ is
none_held (Body head len) bytes d given b is = sym b.same ∙ is
none_held (Chunks head) bytes d given (c, going) is = absurd (omega (arith, some_bytes given c.headers c.spans Chunked (chunks_head head bytes d given c), length_none given is))

-- where no bytes are held, the decoder doesn't matter
pub holds_none : (place : ReadPlace) (bytes : List ℕ) (d d' : Decoding) (given : List ℕ) → HoldsBytes place bytes d given → bytes ≡ [] → HoldsBytes place [] d' given
holds_none (Head seen) bytes d d' given h is = subst (λ (l : List ℕ). HoldsBytes (Head seen) l d' given) is h
holds_none (Body head len) bytes d d' given b is = absurd (omega (arith, some_bytes bytes b.headers b.spans (Length len) b.opens, length_none bytes is))
holds_none (Chunks head) bytes d d' given (c, going) is =
    absurd (omega (arith, some_bytes (take head bytes) c.headers c.spans Chunked c.opens, length-take-le head bytes c.inside, c.inside, length_none bytes is))

-- before the next item
pub holds_next : (bytes : List ℕ) (d : Decoding) → HoldsBytes (Head 0) bytes d bytes
holds_next bytes d = (omega arith, no_head_in_none, refl)

-- When out of memory the place is the same.

pub or_not : {E : Type 0} (before : ℕ) (given : List ℕ) (place : ReadPlace) (result : Result ReadStep E) (old new : ReadBufferState) (d d' : ChunkDataState) → HoldsBytes place old.bytes d.decoding given → IfOk result (λ step. AnswersStep before given step new.bytes d'.decoding)
    → OnErr result ((new ≡ old) × (d' ≡ d)) → MatchResult result (λ step. AnswersStep before given step new.bytes d'.decoding) (λ _. HoldsBytes place new.bytes d'.decoding given)
or_not before given place (Ok step) old new d d' holds answers unchanged = answers
or_not before given place (Err e) old new d d' holds answers unchanged =
    subst (λ (h : ReadBufferState). HoldsBytes place h.bytes d'.decoding given) (sym unchanged.0)
    (subst (λ (x : ChunkDataState). HoldsBytes place old.bytes x.decoding given) (sym unchanged.1) holds)

-- The end of the bytes.

pub ended_bad : (given : List ℕ) → 0 < length given → HasNoCompleteItem given → IsBadRequest given
ended_bad given some (lacks_head none) = no_head some none
ended_bad given some (lacks_body len b) = body_cut len b
ended_bad given some (lacks_chunks b) = no_body (record { head = b.head; rest = b.rest; opens = b.opens; behind = (b.behind.1, b.behind.2) })

-- The last request of a connection.

last_closes : (before : ℕ) (head : RequestHead) (body : List ℕ) → before ≡ 999 → (request_of before head body).closes ≡ true
last_closes before head body at = subst (λ (n : ℕ). (request_of n head body).closes ≡ true) (sym at) refl

no_last : (before : ℕ) (head : RequestHead) (body : List ℕ) (request : Request) → request ≡ request_of before head body → request.closes ≡ false → before ≡ 999 → ⊥
no_last before head body request is stays at =
    let no : true ≡ false = sym (last_closes before head body at) ∙ sym (ap (λ (r : Request). r.closes) is) ∙ stays in
    cc

not_last : (before : ℕ) (bytes : List ℕ) (request : Request) (rest : List ℕ) → AsksFor before bytes request rest → request.closes ≡ false → before ≡ 999 → ⊥
not_last before bytes request rest (with_length head body opens is) stays at = no_last before head body request is stays at
not_last before bytes request rest (in_chunks head behind body opens reads short is) stays at = no_last before head (chunk_data body.chunks) request is stays at

-- one that doesn't close isn't the last
pub leaves_requests : (before : ℕ) (bytes : List ℕ) (request : Request) (rest : List ℕ) → before < 1000 → AsksFor before bytes request rest → request.closes ≡ false → before + 1 < 1000
leaves_requests before bytes request rest few asked stays = elim (cases_eq before 999) [
  | inl same ↦ absurd (not_last before bytes request rest asked stays same)
  | inr other ↦ omega (arith, few, other)
]
