-- The requests of a sample, and the bytes of its connections. Addresses follow RFC 4825, section
-- 6, documents RFC 4826, section 3; which requests are made is the project's own.
use Rattle.std.specs.Prelude.{ℕ, zero, suc, ◌+◌, ◌-◌, ◌*◌, ◌/◌, ◌%◌, ◌==◌, min, List, [], ◌∷◌, ◌++◌}
use Rattle.std.specs.Prelude.{codes, decimal, length, if◌then◌else◌}
use Rattle.http_wire.specs.declared.limits.TheConstants.{MAX_REQUESTS}

-- the root of the server
unfoldable pub root_text : List ℕ
root_text = codes "http://xcap.example.com/xcap"

-- ---- addresses

-- the user with a number
unfoldable pub user_name : ℕ → List ℕ
user_name number = codes "sip:u" ++ (decimal number ++ codes "@example.com")

-- the user's document
unfoldable pub document_path : List ℕ → List ℕ
document_path user = codes "/xcap/resource-lists/users/" ++ (user ++ codes "/index")

-- the URI of the entry of a round
unfoldable pub entry_uri : ℕ → List ℕ
entry_uri round = codes "sip:e" ++ (decimal round ++ codes "@example.com")

-- the entry with that URI in the list of a document
unfoldable pub entry_path : List ℕ → List ℕ → List ℕ
entry_path document uri =
    document
    ++ (codes "/~~/resource-lists/list%5B@name=%22l%22%5D/entry%5B@uri=%22"
    ++ (uri ++ codes "%22%5D"))

-- ---- bodies

-- a document with an empty list
unfoldable pub document_body : List ℕ
document_body =
    codes "<resource-lists xmlns=\"urn:ietf:params:xml:ns:resource-lists\"><list name=\"l\"/></resource-lists>"

-- an entry with that URI
unfoldable pub entry_body : List ℕ → List ℕ
entry_body uri = codes "<entry uri=\"" ++ (uri ++ codes "\"/>")

-- ---- requests (RFC 9112, sections 3 to 6)

-- a PUT of a body of this media type
unfoldable pub put_bytes : List ℕ → List ℕ → List ℕ → List ℕ → List ℕ
put_bytes user path media body =
    codes "PUT " ++ (path
    ++ (codes " HTTP/1.1\r\nHost: xcap.example.com\r\nX-XCAP-User: " ++ (user
    ++ (codes "\r\nContent-Type: " ++ (media
    ++ (codes "\r\nContent-Length: " ++ (decimal (length body)
    ++ (codes "\r\n\r\n" ++ body))))))))

unfoldable pub delete_bytes : List ℕ → List ℕ → List ℕ
delete_bytes user path =
    codes "DELETE "
    ++ (path
    ++ (codes " HTTP/1.1\r\nHost: xcap.example.com\r\nX-XCAP-User: " ++ (user ++ codes "\r\n\r\n")))

-- A user's request of a round. In round 0 the document is put. In each third round after it the
-- entry of the round before is deleted, and in each other round the entry of the round is put.
abbrev pub round_request : List ℕ → ℕ → List ℕ
round_request user round =
    if round == 0
    then put_bytes user (document_path user) (codes "application/resource-lists+xml") document_body
    else if round % 3 == 0
    then delete_bytes user (entry_path (document_path user) (entry_uri (round - 1)))
    else put_bytes user (entry_path (document_path user) (entry_uri round))
    (codes "application/xcap-el+xml") (entry_body (entry_uri round))

-- The request with a number, counted from 0: a hundred users make one request each in every round.
abbrev pub numbered_request : ℕ → List ℕ
numbered_request number = round_request (user_name (number % 100)) (number / 100)

-- ---- connections

-- the bytes of this many requests, from this one on
abbrev pub requests_from : ℕ → ℕ → List ℕ
requests_from first zero = []
requests_from first (suc more) = numbered_request first ++ requests_from (first + 1) more

-- the bytes of a connection, of this many requests in all: it has as many as a connection may
-- have, and the last connection has the rest
abbrev pub connection_bytes : ℕ → ℕ → List ℕ
connection_bytes requests number =
    requests_from (number * MAX_REQUESTS) (min MAX_REQUESTS (requests - number * MAX_REQUESTS))

-- this many connections, from this one on
abbrev pub connections_from : ℕ → ℕ → ℕ → List (List ℕ)
connections_from requests number zero = []
connections_from requests number (suc more) =
    connection_bytes requests number ∷ connections_from requests (number + 1) more

-- all connections of this many requests
abbrev pub all_connections : ℕ → List (List ℕ)
all_connections requests =
    connections_from requests 0 ((requests + (MAX_REQUESTS - 1)) / MAX_REQUESTS)
