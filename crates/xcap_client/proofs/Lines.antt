-- The lines of a request, piece by piece.
use Rattle.std.proofs.Common.{◌≡◌, ℕ, ◌+◌, ◌<◌, List, [], ◌∷◌, ◌++◌, codes, flat_map, drop, get_or, length, sym, ap, ◌∙◌, append_assoc, append-nil}
use Rattle.std.proofs.lemmas.List.{drop_more}
use Rattle.std.proofs.lemmas.List.Concat.{flat_map-append}
use Rattle.httparse.specs.Ascii.{crlf_bytes}
use Rattle.xcap_client.specs.Requests.{field_line, request_line}

-- one piece more
pub flat_map_more : {X : Type 0} (f : X → List ℕ) (xs : List X) (i : ℕ) (d : X) → i < length xs → flat_map f (drop i xs) ≡ f (get_or xs i d) ++ flat_map f (drop (i + 1) xs)
flat_map_more f xs i d inside = ap (flat_map f) (drop_more xs i d inside)

-- the two lines about a body
pub content_is : (media digits : List ℕ) → codes "Content-Type: " ++ (media ++ (codes "\r\nContent-Length: " ++ (digits ++ crlf_bytes))) ≡ flat_map field_line ((codes "Content-Type", media) ∷ (codes "Content-Length", digits) ∷ [])
content_is media digits = simp (append_assoc, append-nil)

regroup : (method sp under sl path http name host end u0 u1 u2 c0 c1 c2 c3 c4 last body : List ℕ)
    → method ++ (sp ++ (under ++ (sl ++ (path ++ (http ++ (name ++ (host ++ (end ++ (u0 ++ (u1 ++ (u2 ++ (c0 ++ (c1 ++ (c2 ++ (c3 ++ (c4 ++ (last ++ (end ++ (body ++ [])))))))))))))))))))
    ≡ ((method ++ (sp ++ ((under ++ (sl ++ path)) ++ http))) ++ (((name ++ (host ++ end)) ++ ((u0 ++ (u1 ++ u2)) ++ ((c0 ++ (c1 ++ (c2 ++ (c3 ++ c4)))) ++ last))) ++ end)) ++ body
regroup method sp under sl path http name host end u0 u1 u2 c0 c1 c2 c3 c4 last body = simp (append_assoc, append-nil)

-- all pieces
pub request_is : (method under path host u0 u1 u2 c0 c1 c2 c3 c4 body : List ℕ) (user content : List (List ℕ × List ℕ))
    → u0 ++ (u1 ++ u2) ≡ flat_map field_line user → c0 ++ (c1 ++ (c2 ++ (c3 ++ c4))) ≡ flat_map field_line content
    → method ++ 32 ∷ (under ++ 47 ∷ (path ++ (codes " HTTP/1.1\r\nHost: " ++ (host ++ (crlf_bytes ++ (u0 ++ (u1 ++ (u2 ++ (c0 ++ (c1 ++ (c2 ++ (c3 ++ (c4 ++ (codes "Connection: close\r\n\r\n" ++ (body ++ [])))))))))))))))
    ≡ (request_line method (under ++ 47 ∷ path) ++ (flat_map field_line ((codes "Host", host) ∷ (user ++ (content ++ (codes "Connection", codes "close") ∷ []))) ++ crlf_bytes)) ++ body
request_is method under path host u0 u1 u2 c0 c1 c2 c3 c4 body user content users contents =
    let last : List (List ℕ × List ℕ) = (codes "Connection", codes "close") ∷ [] in
    let front : List ℕ = field_line (codes "Host", host) in
    let line : List ℕ = request_line method (under ++ 47 ∷ path) in
    let lines : flat_map field_line ((codes "Host", host) ∷ (user ++ (content ++ last))) ≡ front ++ ((u0 ++ (u1 ++ u2)) ++ ((c0 ++ (c1 ++ (c2 ++ (c3 ++ c4)))) ++ flat_map field_line last)) =
    ap (λ (l : List ℕ). front ++ l) (flat_map-append field_line user (content ++ last) ∙ ap (λ (l : List ℕ). l ++ flat_map field_line (content ++ last)) (sym users) ∙ ap (λ (l : List ℕ). (u0 ++ (u1 ++ u2)) ++ l) (flat_map-append field_line content last ∙ ap (λ (l : List ℕ). l ++ flat_map field_line last) (sym contents))) in
    regroup method (32 ∷ []) under (47 ∷ []) path (codes " HTTP/1.1\r\n") (codes "Host: ") host crlf_bytes u0 u1 u2 c0 c1 c2 c3 c4 (codes "Connection: close\r\n") body
    ∙ ap (λ (l : List ℕ). (line ++ (l ++ crlf_bytes)) ++ body) (sym lines)
