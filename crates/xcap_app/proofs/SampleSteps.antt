-- Requests and connections, made one after the other.
use Rattle.std.proofs.Common.{◌≡◌, ℕ, suc, ◌+◌, ◌-◌, ◌<◌, List, [], ◌∷◌, ◌++◌, sym, ap, ◌∙◌, arith, append_assoc}
use Rattle.xcap_app.specs.SampleRequests.{connection_bytes, connections_from, numbered_request, requests_from}

-- the next request is made
pub next_request : (bytes : List ℕ) (first made count : ℕ) → made < count
    → (bytes ++ numbered_request (first + made)) ++ requests_from (first + (made + 1)) (count - (made + 1)) ≡ bytes ++ requests_from (first + made) (count - made)
next_request bytes first made count more =
    let left : count - made ≡ suc (count - (made + 1)) = omega (arith, more) in
    let at : first + (made + 1) ≡ (first + made) + 1 = omega arith in
    append_assoc bytes (numbered_request (first + made)) (requests_from (first + (made + 1)) (count - (made + 1)))
    ∙ ap (λ (n : ℕ). bytes ++ (numbered_request (first + made) ++ requests_from n (count - (made + 1)))) at
    ∙ sym (ap (λ (n : ℕ). bytes ++ requests_from (first + made) n) left)

pub next_connection : (all : List (List ℕ)) (requests number count : ℕ) → number < count
    → (all ++ connection_bytes requests number ∷ []) ++ connections_from requests (number + 1) (count - (number + 1)) ≡ all ++ connections_from requests number (count - number)
next_connection all requests number count more =
    let left : count - number ≡ suc (count - (number + 1)) = omega (arith, more) in
    append_assoc all (connection_bytes requests number ∷ []) (connections_from requests (number + 1) (count - (number + 1)))
    ∙ sym (ap (λ (n : ℕ). all ++ connections_from requests number n) left)
