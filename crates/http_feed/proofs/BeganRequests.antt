-- The requests with which the bytes given begin, as more bytes and requests come.
use Rattle.std.proofs.Common.{◌≡◌, ℕ, ◌+◌, Bool, true, false, List, [], ◌∷◌, ◌++◌, length, if◌then◌else◌, refl, sym, ap, subst, ◌∙◌, arith, length-append}
use Rattle.http_wire.specs.declared.request.Request.{Request}
use Rattle.http_wire.specs.declared.request.Asked.TheVariants.{Request as Requested}
use Rattle.http_wire.specs.ConnectionItems.{AsksFor}
use Rattle.http_wire.specs.NextRequests.{RequestReaderState}
use Rattle.http_wire.proofs.WholeItems.{asks-append}
use Rattle.http_feed.specs.Feeds.{ReturnsItem, with_bytes}
use Rattle.http_feed.specs.GivenBytes.{BeginsWithRequests, HasReadRequests}

begin_more : (before : ℕ) (given bytes : List ℕ) (requests : List Request) (rest : List ℕ) → BeginsWithRequests before given requests rest → BeginsWithRequests before (given ++ bytes) requests (rest ++ bytes)
begin_more before given bytes [] rest is = ap (λ (l : List ℕ). l ++ bytes) is
begin_more before given bytes (request ∷ requests) rest (behind, asked, stays, others) =
    (behind ++ bytes, asks-append before given bytes request behind asked, stays, begin_more (before + 1) behind bytes requests rest others)

no_more : (before : ℕ) → before + 0 ≡ before
no_more before = omega arith

from_none : (n : ℕ) → n ≡ 0 + n
from_none n = omega arith

begin_next : (before : ℕ) (given : List ℕ) (requests : List Request) (held : List ℕ) (request : Request) (rest : List ℕ) → BeginsWithRequests before given requests held → AsksFor (before + length requests) held request rest → request.closes ≡ false → BeginsWithRequests before given (requests ++ request ∷ []) rest
begin_next before given [] held request rest is asked stays =
    (rest, subst (λ (l : List ℕ). AsksFor before l request rest) (sym is) (subst (λ (n : ℕ). AsksFor n held request rest) (no_more before) asked), stays, refl)
begin_next before given (first ∷ requests) held request rest (behind, asked_first, goes_on, others) asked stays =
    let count : before + length (first ∷ requests) ≡ before + 1 + length requests = omega arith in
    (behind, asked_first, goes_on, begin_next (before + 1) behind requests held request rest others (subst (λ (n : ℕ). AsksFor n held request rest) count asked) stays)

pub more_come : (given bytes : List ℕ) (requests : List Request) (feed : RequestReaderState) → HasReadRequests given requests feed → HasReadRequests (given ++ bytes) requests (with_bytes feed bytes)
more_come given bytes requests feed h = record { begin = begin_more 0 given bytes requests feed.held h.begin; count = h.count; unspent = h.unspent }

pub next_comes : (given : List ℕ) (requests : List Request) (request : Request) (old new : RequestReaderState) → HasReadRequests given requests old → ReturnsItem false old (Requested request) new → request.closes ≡ false → HasReadRequests given (requests ++ request ∷ []) new
next_comes given requests request old new h r stays =
    let stays_open : new.spent ≡ false = r.after.1 ∙ stays in
    let held : new.held ≡ r.rest = r.held ∙ ap (λ (t : Bool). if t then [] else r.rest) stays_open in
    record {
      begin = subst (BeginsWithRequests 0 given (requests ++ request ∷ [])) (sym held)
          (begin_next 0 given requests old.held request r.rest h.begin (subst (λ (n : ℕ). AsksFor n old.held request r.rest) (h.count ∙ from_none (length requests)) r.decided) stays);
      count = omega (arith, r.after.0, h.count, length-append requests (request ∷ []));
      unspent = stays_open;
    }
