-- Texts of the code, read as characters, and which of the client's requests are lawful.
use Rattle.std.proofs.Common.{◌≡◌, ℕ, List, [], ◌∷◌, Option, Result, Ok, Err, IfOk, codes, refl, sym, ap, subst, arith}
use Rattle.std.proofs.lemmas.Bool.{true≢false}
use Rattle.std.specs.Str.{chars}
use Rattle.xcap_client.specs.declared.request.Ask.{Ask}
use Rattle.xcap_client.specs.Requests.{IsLawfulAsk}
use Rattle.xcap_client.specs.Asks.{bodiless_ask, get_ask, delete_ask, put_ask}

pub get : chars (codes "GET") ≡ codes "GET"
unfolding chars
get = refl

pub put : chars (codes "PUT") ≡ codes "PUT"
unfolding chars
put = refl

pub delete : chars (codes "DELETE") ≡ codes "DELETE"
unfolding chars
delete = refl

pub port : chars (codes ":80") ≡ codes ":80"
unfolding chars
port = refl

pub xcap_error : chars (codes "xcap-error") ≡ codes "xcap-error"
unfolding chars
xcap_error = refl

-- ---- lawful requests

-- a request is lawful where it equals a lawful one
pub is_lawful : {E : Type 0} (said : Ask) (result : Result Ask E) → IsLawfulAsk said → IfOk result (λ ask. ask ≡ said) → IfOk result IsLawfulAsk
is_lawful said (Ok ask) lawful same = subst IsLawfulAsk (sym same) lawful
is_lawful said (Err fault) lawful none = tt

abbrev first : List ℕ → ℕ
first [] = 0
first (c ∷ cs) = c

heads : (a b : ℕ) (xs ys : List ℕ) → a ∷ xs ≡ b ∷ ys → a ≡ b
heads a b xs ys same = ap first same

-- a request with another method than PUT
no_put : (method : List ℕ) (user : Option (List ℕ)) (path : List ℕ) → ((method ≡ codes "PUT") → ⊥) → IsLawfulAsk (bodiless_ask method user path)
no_put method user path other = record {
  media = (λ some. absurd (true≢false (sym some)), λ put. absurd (other put));
  body = λ _. refl;
}

pub getting_is_lawful : (user : Option (List ℕ)) (path : List ℕ) → IsLawfulAsk (get_ask user path)
getting_is_lawful user path = no_put (codes "GET") user path (λ same. let never : 71 ≡ 80 = heads 71 80 (69 ∷ 84 ∷ []) (85 ∷ 84 ∷ []) same in omega (arith, never))

pub removing_is_lawful : (user : Option (List ℕ)) (path : List ℕ) → IsLawfulAsk (delete_ask user path)
removing_is_lawful user path = no_put (codes "DELETE") user path (λ same. let never : 68 ≡ 80 = heads 68 80 (69 ∷ 76 ∷ 69 ∷ 84 ∷ 69 ∷ []) (85 ∷ 84 ∷ []) same in omega (arith, never))

pub putting_is_lawful : (user : Option (List ℕ)) (path media body : List ℕ) → IsLawfulAsk (put_ask user path media body)
putting_is_lawful user path media body = record {
  media = (λ _. refl, λ _. refl);
  body = λ other. absurd (other refl);
}
