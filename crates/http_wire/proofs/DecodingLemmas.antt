-- The bytes after a head, decoded as they arrive.
use Rattle.std.proofs.Common.{◌≡◌, ℕ, ◌+◌, ◌-◌, ◌<◌, ◌≤◌, false, List, [], ◌++◌, length, take, drop, zero, suc, Ok, Err, refl, sym, ap, subst, ◌∙◌, arith, length-append, length-drop, append_assoc, take-append-drop}
use Rattle.std.proofs.lemmas.List.{append-nil, length-take-le, take_at, drop_at, drop_all, drop-drop, nil_from_length}
use Rattle.xcap_io.proofs.TrafficSums.{gave_none, gave_on}
use Rattle.xcap_io.specs.StreamStates.{InputState}
use Rattle.xcap_io.specs.StreamTraffic.{GivesBytes, IsEnded}
use Rattle.http_wire.specs.declared.chunk_decoder.ChunkState.TheVariants.{Done, Bad as BadStage, TooLong as LongStage}
use Rattle.http_wire.specs.declared.body_decoder.DecodeResult.TheVariants.{Whole, TooLong, Bad, Cut}
use Rattle.http_wire.specs.inner.ChunkDecoder.{Decoding, initial_decoding, is_settled, DecodesBytes}
use Rattle.http_wire.specs.ChunkedBodies.{ExceedsBodyLimit, MayBecomeChunkedBody}
use Rattle.http_wire.specs.inner.ReadBuffer.{BuffersMore, BeginsWithBody, HasNoBodyYet, DecodesBody, DecodesBodySoFar}
use Rattle.http_wire.proofs.Buffers.{buffered}
use Rattle.http_wire.proofs.Steps.{IsInLimits, reads_on, reads_in_limits, fewer_after, left_of}
use Rattle.http_wire.proofs.BodyReached.{start_in_limits}
use Rattle.http_wire.proofs.BodyFacts.{no_body_ever, whole_body, passes_limit, goes_on}

-- the bytes that are buffered at first
pub so_far_first : (head : ℕ) (held rest : List ℕ) (left : InputState) (d : Decoding) (used : ℕ) → head ≤ length held → rest ≡ drop head held → used ≤ length rest → DecodesBytes initial_decoding (take used rest) d → (is_settled d.stage ≡ false → used ≡ length rest) → length held ≤ 278_528
    → DecodesBodySoFar head (buffered held left) d (buffered held left) used
so_far_first head held rest left d used inside is few reads all room =
    let size : length rest ≡ length held - head = ap length is ∙ length-drop head held in
    record {
      raw = take used rest;
      read = [];
      given = gave_none left;
      same_head = refl;
      inside = omega arith;
      reads = reads;
      split = append-nil (drop head held) ∙ sym is ∙ sym (take-append-drop used rest) ∙ ap (λ (l : List ℕ). take used rest ++ drop used l) is ∙ ap (λ (l : List ℕ). take used rest ++ l) (drop-drop used head held);
      all = λ going. let enough : used ≡ length rest = all going in omega arith;
      room = room;
    }

-- all buffered bytes were decoded, and the state isn't settled
decoded_all : (head : ℕ) (held held1 : List ℕ) (left left1 : InputState) (d : Decoding) (used : ℕ) (s : DecodesBodySoFar head (buffered held left) d (buffered held1 left1) used) → is_settled d.stage ≡ false → drop head held ++ s.read ≡ s.raw
decoded_all head held held1 left left1 d used s going = s.split ∙ ap (λ (l : List ℕ). s.raw ++ l) (drop_all (head + used) held1 (omega (arith, s.all going))) ∙ append-nil s.raw

-- the bytes read then come after the head
read_behind : (head : ℕ) (held1 held2 read : List ℕ) → head ≤ length held1 → held2 ≡ take head held1 ++ read → (take head held2 ≡ take head held1) × (drop head held2 ≡ read)
read_behind head held1 held2 read inside added =
    let size : length (take head held1) ≡ head = length-take-le head held1 inside in
    (ap (take head) added ∙ take_at (take head held1) read head size, ap (drop head) added ∙ drop_at (take head held1) read head size)

-- some more reads
pub so_far_next : (head : ℕ) (held held1 held2 rest : List ℕ) (left left1 left2 : InputState) (d new : Decoding) (used used' : ℕ) → DecodesBodySoFar head (buffered held left) d (buffered held1 left1) used → is_settled d.stage ≡ false → BuffersMore (take head held1) held2 left1 left2 → rest ≡ drop head held2 → used' ≤ length rest → DecodesBytes d (take used' rest) new → (is_settled new.stage ≡ false → used' ≡ length rest) → length held2 ≤ 278_528
    → DecodesBodySoFar head (buffered held left) new (buffered held2 left2) used'
so_far_next head held held1 held2 rest left left1 left2 d new used used' s going gains is few reads all room =
    let inside : head ≤ length held1 = omega (arith, s.inside) in
    let behind = read_behind head held1 held2 gains.read inside gains.added in
    let same : rest ≡ gains.read = is ∙ behind.1 in
    let size : length rest ≡ length held2 - head = ap length is ∙ length-drop head held2 in
    let long : length held2 ≡ head + length gains.read = ap length gains.added ∙ length-append (take head held1) gains.read ∙ ap (λ (n : ℕ). n + length gains.read) (length-take-le head held1 inside) in
    let front : List ℕ = take used' rest in
    let back : drop used' rest ≡ drop (head + used') held2 = ap (drop used') is ∙ drop-drop used' head held2 in
    record {
      raw = s.raw ++ front;
      read = s.read ++ gains.read;
      given = gave_on left left1 left2 s.read gains.read s.given gains.given;
      same_head = behind.0 ∙ s.same_head;
      inside = omega (arith, size, long, few);
      reads = reads_on initial_decoding d new s.raw front s.reads reads;
      split =
          sym (append_assoc (drop head held) s.read gains.read)
          ∙ ap (λ (l : List ℕ). l ++ gains.read) (decoded_all head held held1 left left1 d used s going)
          ∙ ap (λ (l : List ℕ). s.raw ++ l) (sym same ∙ sym (take-append-drop used' rest) ∙ ap (λ (l : List ℕ). front ++ l) back)
          ∙ sym (append_assoc s.raw front (drop (head + used') held2));
      all = λ going_on. let enough : used' ≡ length rest = all going_on in omega (arith, size, long);
      room = room;
    }

-- a decoding of at least one byte leaves fewer
pub fewer_so_far : (head : ℕ) (held held1 rest : List ℕ) (left left1 : InputState) (d new : Decoding) (used used' : ℕ) → DecodesBodySoFar head (buffered held left) d (buffered held1 left1) used → is_settled d.stage ≡ false → 0 < length rest → used' ≤ length rest → DecodesBytes d (take used' rest) new → (is_settled new.stage ≡ false → used' ≡ length rest)
    → left_of new < left_of d
fewer_so_far head held held1 rest left left1 d new used used' s going some few reads all = by_used used' few reads all
  where
    fits : IsInLimits d
    fits = reads_in_limits initial_decoding s.raw d start_in_limits s.reads

    by_used : (n : ℕ) → n ≤ length rest → DecodesBytes d (take n rest) new → (is_settled new.stage ≡ false → n ≡ length rest) → left_of new < left_of d
    by_used zero few same all = absurd (let none : 0 ≡ length rest = all (subst (λ (x : Decoding). is_settled x.stage ≡ false) (sym same) going) in omega arith)
    by_used (suc n) few reads all = fewer_after d (take (suc n) rest) new fits (omega (arith, length-take-le (suc n) rest few)) reads

-- The result.

pub decodes_done : {E : Type 0} (head : ℕ) (held held1 : List ℕ) (left left1 : InputState) (d : Decoding) (used : ℕ) → DecodesBodySoFar head (buffered held left) d (buffered held1 left1) used → d.stage ≡ Done → DecodesBody {E = E} head (buffered held left) (Ok (Whole (head + used))) d.body (buffered held1 left1)
decodes_done head held held1 left left1 d used s done = record {
  read = s.read;
  given = s.given;
  same_head = s.same_head;
  inside = omega (arith, s.inside);
  outcome = (omega arith, s.inside, subst (λ (l : List ℕ). BeginsWithBody l d.body (drop (head + used) held1)) (sym s.split) (whole_body s.raw (drop (head + used) held1) d s.reads done));
}

pub decodes_long : {E : Type 0} (head : ℕ) (held held1 : List ℕ) (left left1 : InputState) (d : Decoding) (used : ℕ) → DecodesBodySoFar head (buffered held left) d (buffered held1 left1) used → d.stage ≡ LongStage → DecodesBody {E = E} head (buffered held left) (Ok TooLong) d.body (buffered held1 left1)
decodes_long head held held1 left left1 d used s long = record {
  read = s.read;
  given = s.given;
  same_head = s.same_head;
  inside = omega (arith, s.inside);
  outcome = subst ExceedsBodyLimit (sym s.split) (passes_limit s.raw (drop (head + used) held1) d s.reads long);
}

pub decodes_bad : {E : Type 0} (head : ℕ) (held held1 : List ℕ) (left left1 : InputState) (d : Decoding) (used : ℕ) → DecodesBodySoFar head (buffered held left) d (buffered held1 left1) used → d.stage ≡ BadStage → DecodesBody {E = E} head (buffered held left) (Ok Bad) d.body (buffered held1 left1)
decodes_bad head held held1 left left1 d used s bad = record {
  read = s.read;
  given = s.given;
  same_head = s.same_head;
  inside = omega (arith, s.inside);
  outcome = λ more. subst HasNoBodyYet (sym (append_assoc s.raw (drop (head + used) held1) more) ∙ ap (λ (l : List ℕ). l ++ more) (sym s.split)) (no_body_ever s.raw (drop (head + used) held1 ++ more) d s.reads bad);
}

-- nothing was read then
nothing_read : (held read : List ℕ) → held ≡ held ++ read → read ≡ []
nothing_read held read same = nil_from_length read (omega (arith, ap length same, length-append held read))

given_on : (left left1 left2 : InputState) (read more : List ℕ) → GivesBytes left left1 read → GivesBytes left1 left2 more → more ≡ [] → GivesBytes left left2 read
given_on left left1 left2 read more first next none = subst (GivesBytes left left2) (ap (λ (l : List ℕ). read ++ l) none ∙ append-nil read) (gave_on left left1 left2 read more first next)

pub decodes_cut : {E : Type 0} (head : ℕ) (held held1 held2 : List ℕ) (left left1 left2 : InputState) (d : Decoding) (used : ℕ) → DecodesBodySoFar head (buffered held left) d (buffered held1 left1) used → is_settled d.stage ≡ false → BuffersMore (take head held1) held2 left1 left2 → held2 ≡ take head held1 → IsEnded left2 → DecodesBody {E = E} head (buffered held left) (Ok Cut) d.body (buffered held2 left2)
decodes_cut head held held1 held2 left left1 left2 d used s going gains same ended =
    let inside : head ≤ length held1 = omega (arith, s.inside) in
    let none = nothing_read (take head held1) gains.read (sym same ∙ gains.added) in
    record {
      read = s.read;
      given = given_on left left1 left2 s.read gains.read s.given gains.given none;
      same_head = (read_behind head held1 held2 gains.read inside gains.added).0 ∙ s.same_head;
      inside = omega (arith, ap length same, length-take-le head held1 inside);
      outcome = (subst HasNoBodyYet (sym (decoded_all head held held1 left left1 d used s going)) (goes_on s.raw d s.reads going).1, ended);
    }

pub decodes_failed : {E : Type 0} (head : ℕ) (held held1 held2 : List ℕ) (left left1 left2 : InputState) (d : Decoding) (used : ℕ) (e : E) → DecodesBodySoFar head (buffered held left) d (buffered held1 left1) used → is_settled d.stage ≡ false → BuffersMore (take head held1) held2 left1 left2 → held2 ≡ take head held1 → DecodesBody head (buffered held left) (Err e) d.body (buffered held2 left2)
decodes_failed head held held1 held2 left left1 left2 d used e s going gains same =
    let inside : head ≤ length held1 = omega (arith, s.inside) in
    let none = nothing_read (take head held1) gains.read (sym same ∙ gains.added) in
    record {
      read = s.read;
      given = given_on left left1 left2 s.read gains.read s.given gains.given none;
      same_head = (read_behind head held1 held2 gains.read inside gains.added).0 ∙ s.same_head;
      inside = omega (arith, ap length same, length-take-le head held1 inside);
      outcome = subst (λ (l : List ℕ). MayBecomeChunkedBody l × HasNoBodyYet l) (sym (decoded_all head held held1 left left1 d used s going)) (goes_on s.raw d s.reads going);
    }
