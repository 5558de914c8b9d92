-- How what was read on a connection is answered. RFC 9112, sections 9.3 and 9.6.
use Rattle.std.specs.Prelude.{◌≡◌, ℕ, ◌⊎◌, true, List, Option, None}
use Rattle.reply_text.specs.ReplyHeads.{SentReply, reply_bytes, plain_reply}
use Rattle.http_wire.specs.declared.request.Request.{Request}
use Rattle.http_wire.specs.declared.request.Asked.{Asked}
use Rattle.http_wire.specs.declared.request.Asked.TheVariants.{Request as Requested, Bad, TooLong}
use Rattle.http_wire.specs.declared.request.Asked.TheVariants.{Coded, End, NoMemory}
use Rattle.http_serve.specs.ReadRequests.{IsReadRequest}

-- the reader's result is no request, or one that was read
abbrev pub IsNoneOrReadRequest : Asked → Type 0
IsNoneOrReadRequest (Requested request) = IsReadRequest request
IsNoneOrReadRequest Bad = Unit {0}
IsNoneOrReadRequest TooLong = Unit {0}
IsNoneOrReadRequest Coded = Unit {0}
IsNoneOrReadRequest End = Unit {0}
IsNoneOrReadRequest NoMemory = Unit {0}

-- the fixed reply of this status, which changes nothing
abbrev pub IsFixedReply : {M E : Type 0} → ℕ → M → SentReply → Option E → M → Type 0
IsFixedReply status machine reply edit next =
    (reply ≡ plain_reply status true) × (edit ≡ None) × (next ≡ machine)

module _ {M E : Type 0} (Step : M → Request → List ℕ → M → Option E → Type 0) where
  -- How the reader's result is answered: a request by the machine, or when out of memory by the
  -- fixed 503; at the end there is no reply.
  abbrev pub AnswersNextRequest : M → Asked → SentReply → Option E → M → Type 0
  AnswersNextRequest machine (Requested request) reply edit next =
      (Step machine request (reply_bytes reply) next edit × (reply.closes ≡ request.closes))
      ⊎ IsFixedReply 503 machine reply edit next
  AnswersNextRequest machine Bad reply edit next = IsFixedReply 400 machine reply edit next
  AnswersNextRequest machine TooLong reply edit next = IsFixedReply 413 machine reply edit next
  AnswersNextRequest machine Coded reply edit next = IsFixedReply 501 machine reply edit next
  AnswersNextRequest machine NoMemory reply edit next = IsFixedReply 503 machine reply edit next
  AnswersNextRequest machine End reply edit next = ⊥
