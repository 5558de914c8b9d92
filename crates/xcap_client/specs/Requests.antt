-- The requests of a client and their bytes (RFC 9112, sections 2.1, 3, 5 and 6.2; RFC 4825,
-- sections 6.1 and 7).
use Rattle.std.specs.Prelude.{◌≡◌, ◌≢◌, ◌↔◌, ℕ, List, [], ◌∷◌, ◌++◌, IsSome, flat_map, length}
use Rattle.std.specs.Prelude.{codes, decimal, encode_utf8_all}
use Rattle.std.specs.Option.{option_map_or}
use Rattle.httparse.specs.Ascii.{crlf_bytes, space}
use Rattle.xcap_uri.specs.Roots.{authority_of, path_of, slash}
use Rattle.xcap_client.specs.declared.request.Ask.{Ask}

-- it has a media type exactly where its method is PUT, and with no other method it has a body
pub record IsLawfulAsk (ask : Ask) : Type 0 where
  pub media : IsSome ask.media ↔ (ask.method ≡ codes "PUT")
  pub body : ask.method ≢ codes "PUT" → ask.body ≡ []

-- the target: the path of the root, a slash, and the path of the request
abbrev pub target_of : List ℕ → Ask → List ℕ
target_of root ask = encode_utf8_all (path_of root) ++ slash ∷ encode_utf8_all ask.path

-- the field that names the user
abbrev pub user_field : List ℕ → List (List ℕ × List ℕ)
user_field user = (codes "X-XCAP-User", encode_utf8_all user) ∷ []

-- the fields about the body
abbrev pub content_fields : List ℕ → List ℕ → List (List ℕ × List ℕ)
content_fields body media =
    (codes "Content-Type", encode_utf8_all media) ∷ (codes "Content-Length", decimal (length body))
    ∷ []

-- the names and values of the fields, in order
abbrev pub fields_of : List ℕ → Ask → List (List ℕ × List ℕ)
fields_of root ask =
    (codes "Host", encode_utf8_all (authority_of root))
    ∷ (option_map_or user_field ask.user []
    ++ (option_map_or (content_fields ask.body) ask.media []
    ++ (codes "Connection", codes "close") ∷ []))

-- field-line = field-name ": " field-value CRLF
abbrev pub field_line : List ℕ × List ℕ → List ℕ
field_line field = field.0 ++ (codes ": " ++ (field.1 ++ crlf_bytes))

-- request-line = method SP request-target SP "HTTP/1.1" CRLF
abbrev pub request_line : List ℕ → List ℕ → List ℕ
request_line method target = method ++ space ∷ (target ++ space ∷ (codes "HTTP/1.1" ++ crlf_bytes))

-- the head of a request: the request line, the field lines and an empty line
abbrev pub head_bytes : List ℕ → Ask → List ℕ
head_bytes root ask =
    request_line (encode_utf8_all ask.method) (target_of root ask)
    ++ (flat_map field_line (fields_of root ask) ++ crlf_bytes)

-- the whole request
abbrev pub request_bytes : List ℕ → Ask → List ℕ
request_bytes root ask = head_bytes root ask ++ ask.body
