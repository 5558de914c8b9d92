-- What the parser's results on the first bytes imply for all bytes, and for those that follow.
use Rattle.std.proofs.Common.{◌≡◌, ℕ, ◌-◌, ◌<◌, ◌≤◌, min, inl, inr, Bool, true, false, ◌||◌, ◌==◌, List, [], ◌∷◌, ◌++◌, length, take, drop, map, ap, sym, subst, ◌∙◌, refl, arith, length-append, length-drop, length-take, take-append-drop, append_assoc}
use Rattle.std.proofs.lemmas.List.{length-take-le, take-append-le, take_at, drop-append-le, length-map}
use Rattle.std.proofs.lemmas.List.Elements.{recursion_from_All}
use Rattle.std.proofs.lemmas.Bool.{or_parts, cases_lt, true≢false}
use Rattle.std.specs.List.{AllByRecursion, list_any, flat_map}
use Rattle.std.proofs.Math.Seq.{take-append-add}
use Rattle.httparse.specs.Ascii.{line_feed, space}
use Rattle.httparse.specs.Grammar.{ResponseHead, LineEnd, crlf, lf, print_end, print_blank, print_version, print_reason, print_field, ReadsResponse, HasNoResponse, print_response}
use Rattle.httparse.specs.Spans.{ResponseOverflows, IsWithin, IsHeaderWithin, IsResponseWithin, IsResponseOf, span_bytes, header_bytes, name_and_value}
use Rattle.httparse.specs.declared.spans.Span.{Span}
use Rattle.httparse.specs.declared.spans.HeaderSpan.{HeaderSpan}
use Rattle.httparse.specs.declared.spans.ResponseSpans.{ResponseSpans}
use Rattle.httparse.proofs.GrammarLemmas.{ReadsResponse-append}
use Rattle.xcap_client.specs.ResponseHeads.{BeginsWithHead, HasNoHead}
use Rattle.xcap_client.specs.inner.ReadBuffer.{NeverHasHead}
use Rattle.xcap_client.specs.inner.ReadBuffer.{IsHeadAt}

-- bytes that begin with a head do so however they go on
pub begins-append : (bytes more : List ℕ) (head : ResponseHead) (rest : List ℕ) → BeginsWithHead bytes head rest → BeginsWithHead (bytes ++ more) head (rest ++ more)
begins-append bytes more head rest begins = record {
  reads = ReadsResponse-append bytes head rest more begins.reads;
  short = begins.short;
  few = begins.few;
}

-- a text that is no longer than the front is in it
pub lies_in_front : (front behind text rest : List ℕ) → front ++ behind ≡ text ++ rest → length text ≤ length front → front ≡ text ++ take (length front - length text) rest
lies_in_front front behind text rest same short =
    sym (take_at front behind (length front) refl)
    ∙ ap (take (length front)) same
    ∙ ap (λ (n : ℕ). take n (text ++ rest)) (omega arith)
    ∙ take-append-add text rest (length front - length text)

-- the first n bytes, the bytes after them, and more
split_at : (n : ℕ) (bytes more : List ℕ) → take n bytes ++ (drop n bytes ++ more) ≡ bytes ++ more
split_at n bytes more = sym (append_assoc (take n bytes) (drop n bytes) more) ∙ ap (λ (l : List ℕ). l ++ more) (take-append-drop n bytes)

-- with no head in the first `MAX_HEAD_BYTES` bytes there is none, whatever follows
pub never_behind_full : (bytes : List ℕ) → 16_384 ≤ length bytes → HasNoResponse (take 16_384 bytes) → NeverHasHead bytes
never_behind_full bytes long none more head rest begins =
    let front : List ℕ = take 16_384 bytes in
    let size : length front ≡ 16_384 = length-take-le 16_384 bytes long in
    none head (take (length front - length (print_response head)) rest) (
      begins.reads.0,
      lies_in_front front (drop 16_384 bytes ++ more) (print_response head) rest (split_at 16_384 bytes more ∙ begins.reads.1) (omega (arith, begins.short, size)),
    )

-- where the parser fails on the first n bytes there is none within the limits, whatever follows
pub never_behind_error : (bytes : List ℕ) (n : ℕ) → ResponseOverflows 64 (take n bytes) → NeverHasHead bytes
never_behind_error bytes n over more head rest begins =
    let many : 64 < length head.fields = over (drop n bytes ++ more) head rest (begins.reads.0, split_at n bytes more ∙ begins.reads.1) in
    absurd (omega (arith, many, begins.few))

-- spans within the front cover the same bytes however these go on
span_bytes-append : (front more : List ℕ) (s : Span) (n : ℕ) → IsWithin n s → n ≤ length front → span_bytes (front ++ more) s ≡ span_bytes front s
span_bytes-append front more s n inside fits =
    ap (take (s.end - s.start)) (drop-append-le s.start front more (omega arith))
    ∙ take-append-le (s.end - s.start) (drop s.start front) more (omega (arith, length-drop s.start front))

header_bytes-append : (front more : List ℕ) (headers : List HeaderSpan) (n : ℕ) → AllByRecursion (IsHeaderWithin n) headers → n ≤ length front → map (header_bytes (front ++ more)) headers ≡ map (header_bytes front) headers
header_bytes-append front more [] n inside fits = refl
header_bytes-append front more (h ∷ headers) n inside fits =
    let name = span_bytes-append front more h.name n inside.0.0 fits in
    let value = span_bytes-append front more h.value n inside.0.1 fits in
    let rest = header_bytes-append front more headers n inside.1 fits in
    cc

-- the spans of a head cover its parts however the bytes go on
pub head_at-append : (front more : List ℕ) (headers : List HeaderSpan) (spans : ResponseSpans) (head : ResponseHead) → IsHeadAt front headers spans head → IsHeadAt (front ++ more) headers spans head
head_at-append front more headers spans head at =
    let fits : spans.len ≤ length front = at.within.section.len_fits in
    let behind : drop spans.len (front ++ more) ≡ drop spans.len front ++ more = drop-append-le spans.len front more fits in
    record {
      begins = subst (BeginsWithHead (front ++ more) head) (sym behind) (begins-append front more head (drop spans.len front) at.begins);
      within = record {
        version = at.within.version;
        code = at.within.code;
        reason = at.within.reason;
        section = record {
          len_fits = omega (arith, length-append front more);
          count_fits = at.within.section.count_fits;
          headers_fit = at.within.section.headers_fit;
        };
      };
      parts = record {
        reads = subst (ReadsResponse (front ++ more) head) (sym behind) (ReadsResponse-append front head (drop spans.len front) more at.parts.reads);
        len = at.parts.len;
        version = at.parts.version;
        code = at.parts.code;
        reason = span_bytes-append front more spans.reason spans.len at.within.reason fits ∙ at.parts.reason;
        fields = header_bytes-append front more (take spans.headers headers) spans.len (recursion_from_All (IsHeaderWithin spans.len) (take spans.headers headers) at.within.section.headers_fit) fits ∙ at.parts.fields;
      };
    }

-- the head that the parser finds in the first n bytes, with `MAX_FIELD_LINES` header slots
pub head_in_front : (bytes : List ℕ) (n : ℕ) (headers : List HeaderSpan) (spans : ResponseSpans) → length headers ≡ 64 → length (take n bytes) ≤ 16_384 → IsResponseWithin (take n bytes) headers spans → IsResponseOf (take n bytes) headers spans → (head : ResponseHead) × IsHeadAt bytes headers spans head
head_in_front bytes n headers spans slots short inside (head, parts) =
    let front : List ℕ = take n bytes in
    let count : length head.fields ≡ min spans.headers (length headers) =
    sym (length-map head.fields name_and_value) ∙ sym (ap length parts.fields) ∙ length-map (take spans.headers headers) (header_bytes front) ∙ length-take spans.headers headers in
    let at : IsHeadAt front headers spans head = record {
      begins = record {
        reads = parts.reads;
        short = omega (arith, parts.len, inside.section.len_fits);
        few = omega (arith, count);
      };
      within = inside;
      parts = parts;
    } in
    (head, subst (λ (l : List ℕ). IsHeadAt l headers spans head) (take-append-drop n bytes) (head_at-append front (drop n bytes) headers spans head at))

-- A head ends with a line feed.

end_feeds : (end : LineEnd) → (front : List ℕ) × (print_end end ≡ front ++ line_feed ∷ [])
end_feeds crlf = (13 ∷ [], refl)
end_feeds lf = ([], refl)

pub head_feeds : (head : ResponseHead) → (front : List ℕ) × (print_response head ≡ front ++ line_feed ∷ [])
unfolding print_response
head_feeds head =
    let line : List ℕ = print_blank head.blank ++ print_version head.minor ++ space ∷ head.digits ++ print_reason head.reason ++ print_end head.line_end in
    let fields : List ℕ = flat_map print_field head.fields in
    let end = end_feeds head.last in (
      line ++ (fields ++ end.0),
      ap (λ (l : List ℕ). line ++ (fields ++ l)) end.1 ∙ ap (λ (l : List ℕ). line ++ l) (sym (append_assoc fields end.0 (line_feed ∷ []))) ∙ sym (append_assoc line (fields ++ end.0) (line_feed ∷ [])),
    )

-- no bytes are no head
pub no_head_in_none : HasNoHead []
no_head_in_none head rest begins =
    let feeds = head_feeds head in
    absurd (omega (arith, ap length begins.reads.1, length-append (print_response head) rest, ap length feeds.1, length-append feeds.0 (line_feed ∷ [])))

list_any-append : (p : ℕ → Bool) (xs ys : List ℕ) → list_any p (xs ++ ys) ≡ (list_any p xs || list_any p ys)
list_any-append p [] ys = refl
list_any-append p (x ∷ xs) ys = on (p x) (list_any-append p xs ys)
  where
    on : (b : Bool) → list_any p (xs ++ ys) ≡ (list_any p xs || list_any p ys) → (b || list_any p (xs ++ ys)) ≡ ((b || list_any p xs) || list_any p ys)
    on true same = refl
    on false same = same

-- where the first bytes are no head, and no line feed is among the others, there is none
pub no_head_without_feed : (bytes : List ℕ) (seen : ℕ) → seen ≤ length bytes → HasNoHead (take seen bytes) → list_any (λ b. b == line_feed) (drop seen bytes) ≡ false → HasNoHead bytes
no_head_without_feed bytes seen inside none no_feed head rest begins = elim (cases_lt seen (length (print_response head))) [
  | inl longer ↦ (
      let feeds = head_feeds head in
      let front : List ℕ = feeds.0 in
      let split : bytes ≡ front ++ (line_feed ∷ rest) = begins.reads.1 ∙ ap (λ (l : List ℕ). l ++ rest) feeds.1 ∙ append_assoc front (line_feed ∷ []) rest in
      let short : seen ≤ length front = omega (arith, longer, ap length feeds.1, length-append front (line_feed ∷ [])) in
      let back : drop seen bytes ≡ drop seen front ++ (line_feed ∷ rest) = ap (drop seen) split ∙ drop-append-le seen front (line_feed ∷ rest) short in
      let tests = or_parts (list_any (λ b. b == line_feed) (drop seen front)) true (sym (list_any-append (λ b. b == line_feed) (drop seen front) (line_feed ∷ rest)) ∙ ap (list_any (λ b. b == line_feed)) (sym back) ∙ no_feed) in
      true≢false tests.1
      )
  | inr within ↦ (
      let size : length (take seen bytes) ≡ seen = length-take-le seen bytes inside in
      none head (take (length (take seen bytes) - length (print_response head)) rest) (record {
        reads = (begins.reads.0, lies_in_front (take seen bytes) (drop seen bytes) (print_response head) rest (take-append-drop seen bytes ∙ begins.reads.1) (omega (arith, within, size)));
        short = begins.short;
        few = begins.few;
      })
      )
]
