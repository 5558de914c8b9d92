-- The requests of the client's calls (RFC 4825, section 7).
use Rattle.std.specs.Prelude.{ℕ, List, [], Option, None, Some, codes}
use Rattle.xcap_client.specs.declared.request.Ask.{Ask}

-- a request without a body
abbrev pub bodiless_ask : List ℕ → Option (List ℕ) → List ℕ → Ask
bodiless_ask method user path =
    record { method = method; path = path; user = user; media = None; body = [] }

-- GET
abbrev pub get_ask : Option (List ℕ) → List ℕ → Ask
get_ask user path = bodiless_ask (codes "GET") user path

-- DELETE
abbrev pub delete_ask : Option (List ℕ) → List ℕ → Ask
delete_ask user path = bodiless_ask (codes "DELETE") user path

-- PUT of a body of that media type
abbrev pub put_ask : Option (List ℕ) → List ℕ → List ℕ → List ℕ → Ask
put_ask user path media body =
    record { method = codes "PUT"; path = path; user = user; media = Some media; body = body }
