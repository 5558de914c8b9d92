-- Statuses and their reason phrases. RFC 9110, section 15; 507 is from RFC 4918, section 11.5.
use Rattle.std.specs.Prelude.{ℕ, Bool, ◌==◌, List, [], ◌∷◌, codes, if◌then◌else◌}
use Rattle.std.specs.List.{list_any}

-- the statuses that a reply may have
abbrev pub statuses : List ℕ
statuses =
    200 ∷ 201 ∷ 304 ∷ 400 ∷ 403 ∷ 404 ∷ 405 ∷ 409 ∷ 410 ∷ 412 ∷ 413 ∷ 415 ∷ 500 ∷ 501 ∷ 503 ∷ 507
    ∷ []

abbrev pub is_status : ℕ → Bool
is_status n = list_any (λ s. n == s) statuses

-- their reason phrases
unfoldable pub reason : ℕ → List ℕ
reason n =
    if n == 200 then codes "OK"
    else if n == 201 then codes "Created"
    else if n == 304 then codes "Not Modified"
    else if n == 400 then codes "Bad Request"
    else if n == 403 then codes "Forbidden"
    else if n == 404 then codes "Not Found"
    else if n == 405 then codes "Method Not Allowed"
    else if n == 409 then codes "Conflict"
    else if n == 410 then codes "Gone"
    else if n == 412 then codes "Precondition Failed"
    else if n == 413 then codes "Content Too Large"
    else if n == 415 then codes "Unsupported Media Type"
    else if n == 500 then codes "Internal Server Error"
    else if n == 501 then codes "Not Implemented"
    else if n == 503 then codes "Service Unavailable"
    else codes "Insufficient Storage"
