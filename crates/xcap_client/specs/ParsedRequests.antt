-- Which requests a server parses as they were meant, and as what request. A server is one that
-- parses a connection's bytes as `http_wire` specifies (RFC 9112).
use Rattle.std.specs.Prelude.{◌≡◌, ℕ, ◌≤◌, ◌⊎◌, Bool, true, ◌||◌, ◌==◌, List, [], ◌∷◌, IfSome, map}
use Rattle.std.specs.Prelude.{length, codes}
use Rattle.std.specs.List.{list_any, list_all}
use Rattle.std.specs.Char.{is_ascii_alphanumeric}
use Rattle.http_wire.specs.declared.request.Request.{Request}
use Rattle.http_wire.specs.ConnectionItems.{asks, field_of, IsItemSequence}
use Rattle.http_wire.specs.declared.limits.TheConstants.{MAX_BODY_BYTES, MAX_HEAD_BYTES}
use Rattle.xcap_client.specs.declared.request.Ask.{Ask}
use Rattle.xcap_client.specs.Requests.{target_of, fields_of, head_bytes, request_bytes}

-- a letter, a digit, or one of a few others
abbrev pub is_plain_char : ℕ → Bool
is_plain_char c = is_ascii_alphanumeric c || list_any (λ d. c == d) (codes "/:@.-_~%=()?*+")

abbrev pub IsPlainText : List ℕ → Type 0
IsPlainText text = list_all is_plain_char text ≡ true

-- the method is one of three, the texts are plain, and the lengths are within the server's limits
pub record IsSendable (root : List ℕ) (ask : Ask) : Type 0 where
  pub method : (ask.method ≡ codes "GET")
      ⊎ ((ask.method ≡ codes "PUT") ⊎ (ask.method ≡ codes "DELETE"))
  pub path : IsPlainText ask.path
  pub user : IfSome ask.user IsPlainText
  pub media : IfSome ask.media IsPlainText
  pub short_body : length ask.body ≤ MAX_BODY_BYTES
  pub short_head : length (head_bytes root ask) ≤ MAX_HEAD_BYTES

-- the request that is meant: one that ends its connection, with the fields that were written
abbrev pub request_of_ask : List ℕ → Ask → Request
request_of_ask root ask = record {
  method = ask.method;
  target = target_of root ask;
  closes = true;
  fields = map field_of (fields_of root ask);
  body = ask.body;
}

-- the bytes of a connection are that request and nothing else
abbrev pub IsParsedAsMeant : List ℕ → Ask → Type 0
IsParsedAsMeant root ask =
    IsItemSequence 0 (request_bytes root ask) (asks (request_of_ask root ask) ∷ [])
