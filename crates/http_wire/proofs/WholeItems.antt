-- Items that are complete in the first bytes stay so whatever follows, and unfinished bytes have
-- none.
use Rattle.std.proofs.Common.{◌≡◌, ℕ, ◌-◌, ◌<◌, inl, inr, List, [], ◌++◌, length, take, sym, ap, subst, ◌∙◌, arith, append_assoc, length-append}
use Rattle.std.proofs.lemmas.Bool.{cases_lt}
use Rattle.httparse.specs.Grammar.{RequestHead}
use Rattle.http_wire.specs.declared.framing.Framing.{Framing}
use Rattle.http_wire.specs.declared.framing.Framing.TheVariants.{Bad as BadFields, Coded as OtherCoding, TooLong as LongBody, Length, Chunked}
use Rattle.http_wire.specs.declared.request.Request.{Request}
use Rattle.http_wire.specs.ChunkedBodies.{print_chunk_line, print_chunks, print_chunked_body, ReadsChunkedBody, HasNoChunkedBody, MayBecomeChunkedBody, ExceedsBodyLimit}
use Rattle.http_wire.specs.ConnectionItems.{Item, asks, bad, too_long, coded, BeginsWithFramedHead, HoldsAfterHead, HasFraming, AsksFor, with_length, in_chunks, bad_fields, no_body, long_body, long_chunks, IsFirstItem, IsCompleteItem, HasNoCompleteItem, lacks_head, lacks_body, lacks_chunks}
use Rattle.http_wire.specs.inner.ReadBuffer.{HasNoBodyYet}
use Rattle.http_wire.proofs.Fronts.{lies_in_front}
use Rattle.http_wire.proofs.BodyReached.{becomes_body, becomes_line}
use Rattle.http_wire.proofs.ItemLemmas.{opens-append, passes-append}
use Rattle.http_wire.proofs.OneTalk.{same_head, length_of}

framed-append : (what : Framing) (bytes more : List ℕ) → HasFraming what bytes → HasFraming what (bytes ++ more)
framed-append what bytes more f = (f.0, f.1 ++ more, opens-append bytes more f.0 what f.1 f.2)

follows-append : (what : Framing) (bytes more : List ℕ) (P Q : List ℕ → Type 0) → ((rest : List ℕ) → P rest → Q (rest ++ more)) → HoldsAfterHead what bytes P → HoldsAfterHead what (bytes ++ more) Q
follows-append what bytes more P Q each f = record {
  head = f.head;
  rest = f.rest ++ more;
  opens = opens-append bytes more f.head what f.rest f.opens;
  behind = each f.rest f.behind;
}

-- where no chunked body continues like this, none comes, and the limit is never passed
never_body : (bytes more : List ℕ) → ¬ (MayBecomeChunkedBody bytes) → HasNoChunkedBody bytes → ¬ (ExceedsBodyLimit bytes) → HasNoBodyYet (bytes ++ more)
never_body bytes more never none not_long = (
  λ c rest reads. elim (cases_lt (length bytes) (length (print_chunked_body c))) [
    | inl longer ↦ (
        let split = lies_in_front (print_chunked_body c) rest bytes more (sym reads.1) (omega arith) in
        never (becomes_body bytes (take (length (print_chunked_body c) - length bytes) more) c reads.0 (sym split))
        )
    | inr within ↦ none c (take (length bytes - length (print_chunked_body c)) rest) (reads.0, lies_in_front bytes more (print_chunked_body c) rest reads.1 within)
  ],
  λ p. (
      let front : List ℕ = print_chunks p.chunks ++ print_chunk_line p.line in
      let all : bytes ++ more ≡ front ++ p.rest = p.reads ∙ sym (append_assoc (print_chunks p.chunks) (print_chunk_line p.line) p.rest) in
      elim (cases_lt (length bytes) (length front)) [
        | inl longer ↦ (
            let split = lies_in_front front p.rest bytes more (sym all) (omega arith) in
            never (becomes_line bytes (take (length front - length bytes) more) p.chunks p.line p.are_chunks p.is_line (sym split))
            )
        | inr within ↦ (
            let rest : List ℕ = take (length bytes - length front) p.rest in
            not_long (record {
              chunks = p.chunks;
              line = p.line;
              rest = rest;
              are_chunks = p.are_chunks;
              is_line = p.is_line;
              reads = lies_in_front bytes more front p.rest all within ∙ append_assoc (print_chunks p.chunks) (print_chunk_line p.line) rest;
              over = p.over;
            })
            )
      ]
      ),
)

pub asks-append : (before : ℕ) (bytes more : List ℕ) (request : Request) (rest : List ℕ) → AsksFor before bytes request rest → AsksFor before (bytes ++ more) request (rest ++ more)
asks-append before bytes more request rest (with_length head body opens is) =
    with_length head body (subst (BeginsWithFramedHead (bytes ++ more) head (Length (length body))) (append_assoc body rest more) (opens-append bytes more head (Length (length body)) (body ++ rest) opens)) is
asks-append before bytes more request rest (in_chunks head behind body opens reads short is) =
    in_chunks head (behind ++ more) body (opens-append bytes more head Chunked behind opens)
    (reads.0, ap (λ (l : List ℕ). l ++ more) reads.1 ∙ append_assoc (print_chunked_body body) rest more)
    short is

pub whole_stays : (before : ℕ) (bytes more : List ℕ) (item : Item) → IsCompleteItem before bytes item → (rest : List ℕ) × IsFirstItem before (bytes ++ more) item rest
whole_stays before bytes more (asks request) whole = (whole.0 ++ more, asks-append before bytes more request whole.0 whole.1)
whole_stays before bytes more bad (inl f) = ([], bad_fields (framed-append BadFields bytes more f))
whole_stays before bytes more bad (inr f) = ([], no_body (follows-append Chunked bytes more (λ rest. ¬ (MayBecomeChunkedBody rest) × HasNoChunkedBody rest × ¬ (ExceedsBodyLimit rest)) HasNoBodyYet (λ rest none. never_body rest more none.0 none.1 none.2) f))
whole_stays before bytes more too_long (long_body f) = ([], long_body (framed-append LongBody bytes more f))
whole_stays before bytes more too_long (long_chunks f) = ([], long_chunks (follows-append Chunked bytes more ExceedsBodyLimit ExceedsBodyLimit (λ rest passes. passes-append rest more passes) f))
whole_stays before bytes more coded f = ([], framed-append OtherCoding bytes more f)

-- Unfinished bytes.

-- a head of another framing is in front
other_framing : (bytes : List ℕ) (h k : RequestHead) (f g : Framing) (r q : List ℕ) → BeginsWithFramedHead bytes h f r → BeginsWithFramedHead bytes k g q → (f ≡ g → ⊥) → ⊥
other_framing bytes h k f g r q x y apart = apart (same_head bytes h k f g r q x y).1

length_and_chunks : (n : ℕ) → Length n ≡ Chunked → ⊥
length_and_chunks n e = cc

length_and_bad : (n : ℕ) → Length n ≡ BadFields → ⊥
length_and_bad n e = cc

length_and_coded : (n : ℕ) → Length n ≡ OtherCoding → ⊥
length_and_coded n e = cc

length_and_long : (n : ℕ) → Length n ≡ LongBody → ⊥
length_and_long n e = cc

chunks_and_bad : Chunked ≡ BadFields → ⊥
chunks_and_bad e = cc

chunks_and_coded : Chunked ≡ OtherCoding → ⊥
chunks_and_coded e = cc

chunks_and_long : Chunked ≡ LongBody → ⊥
chunks_and_long e = cc

body_lacks : (before len : ℕ) (bytes : List ℕ) (item : Item) → HoldsAfterHead (Length len) bytes (λ rest. length rest < len) → IsCompleteItem before bytes item → ⊥
body_lacks before len bytes (asks request) f (rest, with_length head body opens is) =
    let same = same_head bytes f.head head (Length len) (Length (length body)) f.rest (body ++ rest) f.opens opens in
    absurd (omega (arith, ap length_of same.1, ap length same.2, length-append body rest, f.behind))
body_lacks before len bytes (asks request) f (rest, in_chunks head behind body opens reads short is) = other_framing bytes f.head head (Length len) Chunked f.rest behind f.opens opens (length_and_chunks len)
body_lacks before len bytes bad f (inl w) = other_framing bytes f.head w.0 (Length len) BadFields f.rest w.1 f.opens w.2 (length_and_bad len)
body_lacks before len bytes bad f (inr w) = other_framing bytes f.head w.head (Length len) Chunked f.rest w.rest f.opens w.opens (length_and_chunks len)
body_lacks before len bytes too_long f (long_body w) = other_framing bytes f.head w.0 (Length len) LongBody f.rest w.1 f.opens w.2 (length_and_long len)
body_lacks before len bytes too_long f (long_chunks w) = other_framing bytes f.head w.head (Length len) Chunked f.rest w.rest f.opens w.opens (length_and_chunks len)
body_lacks before len bytes coded f w = other_framing bytes f.head w.0 (Length len) OtherCoding f.rest w.1 f.opens w.2 (length_and_coded len)

chunks_lack : (before : ℕ) (bytes : List ℕ) (item : Item) → HoldsAfterHead Chunked bytes (λ rest. MayBecomeChunkedBody rest × HasNoChunkedBody rest × ¬ (ExceedsBodyLimit rest)) → IsCompleteItem before bytes item → ⊥
chunks_lack before bytes (asks request) f (rest, with_length head body opens is) = other_framing bytes head f.head (Length (length body)) Chunked (body ++ rest) f.rest opens f.opens (length_and_chunks (length body))
chunks_lack before bytes (asks request) f (rest, in_chunks head behind body opens reads short is) =
    let same = same_head bytes f.head head Chunked Chunked f.rest behind f.opens opens in
    f.behind.1 body rest (subst (λ (l : List ℕ). ReadsChunkedBody l body rest) (sym same.2) reads)
chunks_lack before bytes bad f (inl w) = other_framing bytes f.head w.0 Chunked BadFields f.rest w.1 f.opens w.2 chunks_and_bad
chunks_lack before bytes bad f (inr w) =
    let same = same_head bytes f.head w.head Chunked Chunked f.rest w.rest f.opens w.opens in
    w.behind.0 (subst MayBecomeChunkedBody same.2 f.behind.0)
chunks_lack before bytes too_long f (long_body w) = other_framing bytes f.head w.0 Chunked LongBody f.rest w.1 f.opens w.2 chunks_and_long
chunks_lack before bytes too_long f (long_chunks w) =
    let same = same_head bytes f.head w.head Chunked Chunked f.rest w.rest f.opens w.opens in
    f.behind.2 (subst ExceedsBodyLimit (sym same.2) w.behind)
chunks_lack before bytes coded f w = other_framing bytes f.head w.0 Chunked OtherCoding f.rest w.1 f.opens w.2 chunks_and_coded

-- every complete item has a head
head_lacks : (before : ℕ) (bytes : List ℕ) (item : Item) → ((head : RequestHead) (what : Framing) (rest : List ℕ) → BeginsWithFramedHead bytes head what rest → ⊥) → IsCompleteItem before bytes item → ⊥
head_lacks before bytes (asks request) none (rest, with_length head body opens is) = none head (Length (length body)) (body ++ rest) opens
head_lacks before bytes (asks request) none (rest, in_chunks head behind body opens reads short is) = none head Chunked behind opens
head_lacks before bytes bad none (inl w) = none w.0 BadFields w.1 w.2
head_lacks before bytes bad none (inr w) = none w.head Chunked w.rest w.opens
head_lacks before bytes too_long none (long_body w) = none w.0 LongBody w.1 w.2
head_lacks before bytes too_long none (long_chunks w) = none w.head Chunked w.rest w.opens
head_lacks before bytes coded none w = none w.0 OtherCoding w.1 w.2

pub none_whole : (before : ℕ) (bytes : List ℕ) (item : Item) → HasNoCompleteItem bytes → ¬ (IsCompleteItem before bytes item)
none_whole before bytes item (lacks_head none) whole = head_lacks before bytes item (λ head what rest opens. none head rest opens.begins) whole
none_whole before bytes item (lacks_body len f) whole = body_lacks before len bytes item f whole
none_whole before bytes item (lacks_chunks f) whole = chunks_lack before bytes item f whole
