-- The bytes of replies, one after the other, part in one way.
use Rattle.std.proofs.Common.{◌≡◌, ℕ, ◌+◌, ◌<◌, ◌^◌, ◌==◌, Bool, true, false, List, [], ◌∷◌, ◌++◌, length, map, take, codes, refl, sym, ap, subst, ◌∙◌, arith, append_assoc}
use Rattle.std.specs.Prelude.{decimal}
use Rattle.std.specs.List.{AllByRecursion}
use Rattle.std.proofs.lemmas.Fmt.{decimal_injective}
use Rattle.std.proofs.lemmas.List.{append_cancel_left, take_at}
use Rattle.httparse.specs.Grammar.{ResponseHead, print_response, status_code}
use Rattle.httparse.specs.Spans.{name_and_value}
use Rattle.httparse.proofs.GrammarLemmas.{response_unique}
use Rattle.http_wire.specs.Fields.{field_values}
use Rattle.reply_text.specs.ReplyHeads.{HeadFields, SentReply, reply_bytes, head_of, sent_reply}
use Rattle.xcap_client.proofs.Fronts.{no_head_in_none}
use Rattle.xcap_client.proofs.QuoteLemmas.{one_value}
use Rattle.xcap_client.specs.ResponseHeads.{BeginsWithHead}
use Rattle.xcap_laws.proofs.ReplyFields.{close_values, closings, length_values, lengths, parsed}
use Rattle.xcap_laws.proofs.ReplyKinds.{IsFramedReply, framed_reply}
use Rattle.xcap_laws.proofs.ReplyLines.{Line, lines_of, printed, tree_of}
use Rattle.xcap_laws.proofs.ReplyReadings.{IsFramedBy, begins, code_is}
use Rattle.xcap_laws.specs.ReadReplies.{IsCountableReply, joined_bytes}

same_closing : (b c : Bool) → closings b ≡ closings c → b ≡ c
same_closing true true is = refl
same_closing true false is = let z : codes "close" ∷ [] ≡ [] = is in absurd cc
same_closing false true is = let z : [] ≡ codes "close" ∷ [] = is in absurd cc
same_closing false false is = refl

same_size : (b : Bool) (m n : ℕ) → b ≡ false → m < 2 ^ 64 → n < 2 ^ 64 → lengths b m ≡ lengths b n → m ≡ n
same_size true m n other one two is = let z : true ≡ false = other in absurd cc
same_size false m n other one two is = decimal_injective m n one two (one_value (decimal m) (decimal n) is)

-- two framed replies whose heads have one tree
module _ (f g : HeadFields) (body other : List ℕ) (framed : IsFramedBy f body) (framed' : IsFramedBy g other) (same : tree_of f ≡ tree_of g) where
  same_status : f.status ≡ g.status
  same_status = sym (code_is f framed.lawful) ∙ ap status_code same ∙ code_is g framed'.lawful

  same_lines : lines_of f ≡ lines_of g
  same_lines = sym (parsed f) ∙ ap (λ (h : ResponseHead). map name_and_value h.fields) same ∙ parsed g

  same_head : head_of f ≡ head_of g
  same_head = sym (printed f) ∙ ap print_response same ∙ printed g

  same_closes : f.closes ≡ g.closes
  same_closes = same_closing f.closes g.closes (sym (close_values f) ∙ ap (field_values (codes "connection")) same_lines ∙ close_values g)

  same_lengths : lengths (f.status == 304) f.size ≡ lengths (f.status == 304) g.size
  same_lengths =
      sym (length_values f) ∙ ap (field_values (codes "content-length")) same_lines ∙ length_values g
      ∙ ap (λ (n : ℕ). lengths (n == 304) g.size) (sym same_status)

  same_bodies_len : length body < 2 ^ 64 → length other < 2 ^ 64 → length body ≡ length other
  same_bodies_len one two = by (f.status == 304) refl
    where
      by : (b : Bool) → (f.status == 304) ≡ b → length body ≡ length other
      by true is = ap length (framed.bodiless is) ∙ sym (ap length (framed'.bodiless (ap (λ (n : ℕ). n == 304) (sym same_status) ∙ is)))
      by false is =
          let sizes = same_size (f.status == 304) f.size g.size is (omega (arith, framed.size, one)) (omega (arith, framed'.size, two)) same_lengths in
          omega (arith, sizes, framed.size, framed'.size)

-- lists of the same length at the front of the same bytes
same_front : (xs ys us vs : List ℕ) → length xs ≡ length ys → xs ++ us ≡ ys ++ vs → xs ≡ ys
same_front xs ys us vs same is = sym (take_at xs us (length xs) refl) ∙ ap (take (length xs)) is ∙ take_at ys vs (length xs) (sym same)

same_rest : (xs ys us vs : List ℕ) → xs ≡ ys → xs ++ us ≡ ys ++ vs → us ≡ vs
same_rest xs ys us vs same is = append_cancel_left ys us vs (ap (λ (l : List ℕ). l ++ us) (sym same) ∙ is)

-- a framed reply at the front of some bytes
record IsAtFront (reply : SentReply) (rest bytes : List ℕ) : Type 0 where
  framed : IsFramedReply reply
  countable : length framed.body < 2 ^ 64
  is : bytes ≡ head_of framed.fields ++ (framed.body ++ rest)

at_front : (reply : SentReply) (rest : List ℕ) → IsCountableReply reply → IsAtFront reply rest (reply_bytes reply ++ rest)
at_front reply rest counted =
    let r = framed_reply reply counted.whole in
    record {
      framed = r;
      countable = subst (λ (x : SentReply). length x.body < 18446744073709551616) r.is_sent counted.countable;
      is = ap (λ (x : SentReply). reply_bytes x ++ rest) r.is_sent ∙ append_assoc (head_of r.fields) r.body rest;
    }

-- two replies at the front of the same bytes are one, and what follows them is the same
module _ (x y : SentReply) (us vs bytes : List ℕ) (one : IsAtFront x us bytes) (two : IsAtFront y vs bytes) where
  abbrev f : HeadFields
  f = one.framed.fields

  abbrev g : HeadFields
  g = two.framed.fields

  abbrev body : List ℕ
  body = one.framed.body

  abbrev other : List ℕ
  other = two.framed.body

  begins_one : BeginsWithHead bytes (tree_of f) (body ++ us)
  begins_one = subst (λ (l : List ℕ). BeginsWithHead l (tree_of f) (body ++ us)) (sym one.is) (begins f (body ++ us) one.framed.framed.lawful)

  begins_two : BeginsWithHead bytes (tree_of g) (other ++ vs)
  begins_two = subst (λ (l : List ℕ). BeginsWithHead l (tree_of g) (other ++ vs)) (sym two.is) (begins g (other ++ vs) two.framed.framed.lawful)

  unique : (tree_of f ≡ tree_of g) × (body ++ us ≡ other ++ vs)
  unique = response_unique bytes (tree_of f) (tree_of g) (body ++ us) (other ++ vs) begins_one.reads begins_two.reads

  same_body : body ≡ other
  same_body = same_front body other us vs (same_bodies_len f g body other one.framed.framed two.framed.framed unique.0 one.countable two.countable) unique.1

  abbrev reply_as : ℕ → Bool → List ℕ → List ℕ → SentReply
  reply_as status closes head text = record { status = status; closes = closes; head = head; body = text }

  same_reply : x ≡ y
  same_reply =
      one.framed.is_sent
      ∙ ap (λ (n : ℕ). reply_as n f.closes (head_of f) body) (same_status f g body other one.framed.framed two.framed.framed unique.0)
      ∙ ap (λ (c : Bool). reply_as g.status c (head_of f) body) (same_closes f g body other one.framed.framed two.framed.framed unique.0)
      ∙ ap (λ (h : List ℕ). reply_as g.status g.closes h body) (same_head f g body other one.framed.framed two.framed.framed unique.0)
      ∙ ap (λ (t : List ℕ). reply_as g.status g.closes (head_of g) t) same_body
      ∙ sym two.framed.is_sent

  same_later : us ≡ vs
  same_later = same_rest body other us vs same_body unique.1

-- no bytes are no reply
never_empty : (reply : SentReply) (rest : List ℕ) → IsCountableReply reply → reply_bytes reply ++ rest ≡ [] → ⊥
never_empty reply rest counted none =
    let front = at_front reply rest counted in
    let f : HeadFields = front.framed.fields in
    let starts = begins f (front.framed.body ++ rest) front.framed.framed.lawful in
    no_head_in_none (tree_of f) (front.framed.body ++ rest) (subst (λ (l : List ℕ). BeginsWithHead l (tree_of f) (front.framed.body ++ rest)) (sym front.is ∙ none) starts)

pub same_replies : (replies others : List SentReply) → AllByRecursion IsCountableReply replies → AllByRecursion IsCountableReply others → joined_bytes replies ≡ joined_bytes others → replies ≡ others
same_replies [] [] one two same = refl
same_replies [] (y ∷ ys) one two same = absurd (never_empty y (joined_bytes ys) two.0 (sym same))
same_replies (x ∷ xs) [] one two same = absurd (never_empty x (joined_bytes xs) one.0 same)
same_replies (x ∷ xs) (y ∷ ys) one two same =
    let bytes : List ℕ = reply_bytes y ++ joined_bytes ys in
    let first : IsAtFront x (joined_bytes xs) bytes = subst (λ (l : List ℕ). IsAtFront x (joined_bytes xs) l) same (at_front x (joined_bytes xs) one.0) in
    let second = at_front y (joined_bytes ys) two.0 in
    let later = same_replies xs ys one.1 two.1 (same_later x y (joined_bytes xs) (joined_bytes ys) bytes first second) in
    ap (λ (r : SentReply). r ∷ xs) (same_reply x y (joined_bytes xs) (joined_bytes ys) bytes first second) ∙ ap (λ (l : List SentReply). y ∷ l) later
