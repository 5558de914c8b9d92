-- Requests and their replies on many connections, in the one order in which a machine answered
-- them. RFC 9112, sections 2.1 and 9.3. The machine is any: its states are M, the edits that it
-- reports are E, and its step says which bytes answer a request, what the next state is, and which
-- edit was made.
use Rattle.std.specs.Prelude.{◌≡◌, ℕ, ◌==◌, Bool, true, false, if◌then◌else◌, List, [], ◌∷◌, ◌++◌}
use Rattle.std.specs.Prelude.{Option, None, option_to_list}
use Rattle.http_wire.specs.declared.request.Request.{Request}
use Rattle.http_wire.specs.ConnectionItems.{Item, asks, ends_connection}
use Rattle.http_wire.specs.ServedConnections.{AnswersItem}
use Rattle.http_serve.specs.FixedReplies.{fixed_reply}

-- A request, or what came in place of one, and its reply.
pub record Exchange (E : Type 0) : Type 0 where
  -- the number of the connection on which it came
  pub connection : ℕ
  pub item : Item
  -- the bytes of the reply
  pub reply : List ℕ
  -- the edit that was reported, if there was one
  pub edit : Option E
  -- the reply ends the connection
  pub closes : Bool

module _ {E : Type 0} where
  -- those of one connection, in order
  abbrev pub exchanges_on : ℕ → List (Exchange E) → List (Exchange E)
  exchanges_on n [] = []
  exchanges_on n (exchange ∷ exchanges) =
      if exchange.connection == n then exchange ∷ exchanges_on n exchanges
      else exchanges_on n exchanges

  -- their replies, joined
  abbrev pub replies : List (Exchange E) → List ℕ
  replies [] = []
  replies (exchange ∷ exchanges) = exchange.reply ++ replies exchanges

  -- their edits, in order
  abbrev pub edits : List (Exchange E) → List E
  edits [] = []
  edits (exchange ∷ exchanges) = option_to_list exchange.edit ++ edits exchanges

  -- the reply of the last of them ends the connection
  abbrev pub last_closes : List (Exchange E) → Bool
  last_closes [] = false
  last_closes (exchange ∷ []) = exchange.closes
  last_closes (exchange ∷ next ∷ exchanges) = last_closes (next ∷ exchanges)

module _ {M E : Type 0} (Step : M → Request → List ℕ → M → Option E → Type 0) where
  -- How the machine comes from one state to the next by an exchange: the item is answered; or, when
  -- out of memory, a request gets the fixed 503, which changes nothing and ends the connection.
  pub data IsExchange (machine : M) (exchange : Exchange E) (next : M) : Type 0 where
    answered : exchange.closes ≡ ends_connection exchange.item
        → AnswersItem Step fixed_reply machine exchange.item exchange.reply next exchange.edit
        → IsExchange machine exchange next
    no_memory : (request : Request) → exchange.item ≡ asks request → exchange.closes ≡ true
        → exchange.reply ≡ fixed_reply 503 → exchange.edit ≡ None → next ≡ machine
        → IsExchange machine exchange next

  -- The machine comes from one state to another by all of them, one after the other.
  abbrev pub AreExchanges : M → List (Exchange E) → M → Type 0
  AreExchanges machine [] next = next ≡ machine
  AreExchanges machine (exchange ∷ exchanges) next =
      (mid : M) × IsExchange machine exchange mid × AreExchanges mid exchanges next
