-- The results of the client's calls: the result of their exchange, judged by its status (RFC 9110,
-- section 15).
use Rattle.std.specs.Prelude.{◌≡◌, ℕ, Bool, true, false, ◌&&◌, nat_le, List, Option, Result, Ok}
use Rattle.std.specs.Prelude.{Err}
use Rattle.xcap_io.specs.StreamStates.{StreamState}
use Rattle.xcap_client.specs.declared.request.Ask.{Ask}
use Rattle.xcap_client.specs.declared.response.Response.{Response}
use Rattle.xcap_client.specs.declared.client_fault.ClientFault.{ClientFault}
use Rattle.xcap_client.specs.declared.client_fault.ClientFault.TheVariants.{NoMemory, Refused}
use Rattle.xcap_client.specs.ErrorDocuments.{NamesError}
use Rattle.xcap_client.specs.Exchanges.{MakesExchange}

-- 2xx (RFC 9110, section 15.3)
abbrev pub is_success : ℕ → Bool
is_success status = nat_le 200 status && nat_le status 299

-- A successful response is returned as it came. For any other, its status is returned, and the
-- error that its body names; but memory may run out while the body is parsed.
pub data JudgesResponse (response : Response) (result : Result Response ClientFault) : Type 0 where
  succeeds : is_success response.status ≡ true → result ≡ Ok response
      → JudgesResponse response result
  refuses : (name : Option (List ℕ)) → is_success response.status ≡ false
      → NamesError response.body name
      → result ≡ Err (Refused response.status name) → JudgesResponse response result
  lacks_memory : is_success response.status ≡ false → result ≡ Err NoMemory
      → JudgesResponse response result

-- the result of an exchange, judged: a fault is returned as it is
abbrev pub JudgesExchange : Result Response ClientFault → Result Response ClientFault → Type 0
JudgesExchange (Ok response) result = JudgesResponse response result
JudgesExchange (Err fault) result = result ≡ Err fault

-- A call: one exchange, whose result is judged.
pub record MakesCall (root : List ℕ) (ask : Ask) (old new : StreamState)
    (result : Result Response ClientFault) : Type 0 where
  pub given : Result Response ClientFault
  pub exchanges : MakesExchange root ask old new given
  pub judged : JudgesExchange given result
