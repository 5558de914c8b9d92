-- Quotes around the characters of an entity tag.
use Rattle.std.proofs.Common.{◌≡◌, ℕ, Bool, true, false, ◌&&◌, List, [], ◌∷◌, ◌++◌, refl, sym, ap, ◌∙◌}
use Rattle.std.proofs.lemmas.Bool.{and_parts, true≢false}
use Rattle.std.proofs.lemmas.List.{append_cancel_left, append_cancel_right}
use Rattle.std.specs.List.{list_all}
use Rattle.request_checks.specs.Tags.{AllBytesPass, is_tag_byte}
use Rattle.xcap_client.specs.inner.QuotedTags.{IsQuotedTag}

-- each element passes the test where the whole list does, and conversely
pub all_pass : (p : ℕ → Bool) (xs : List ℕ) → list_all p xs ≡ true → AllBytesPass p xs
all_pass p [] is = tt
all_pass p (x ∷ xs) is =
    let parts = and_parts (p x) (list_all p xs) is in
    (parts.0, all_pass p xs parts.1)

pub pass_all : (p : ℕ → Bool) (xs : List ℕ) → AllBytesPass p xs → list_all p xs ≡ true
pass_all p [] are = refl
pass_all p (x ∷ xs) are = ap (λ (b : Bool). b && list_all p xs) are.0 ∙ pass_all p xs are.1

-- the text between quotes is determined
pub quoted_is : (text opaque other : List ℕ) → text ≡ 34 ∷ (opaque ++ 34 ∷ []) → text ≡ 34 ∷ (other ++ 34 ∷ []) → opaque ≡ other
quoted_is text opaque other one two =
    append_cancel_right opaque other (34 ∷ []) (append_cancel_left (34 ∷ []) (opaque ++ 34 ∷ []) (other ++ 34 ∷ []) (sym one ∙ two))

-- the text has a byte that isn't allowed in a tag, so it is no quoted tag
pub not_quoted : (text opaque : List ℕ) → text ≡ 34 ∷ (opaque ++ 34 ∷ []) → list_all is_tag_byte opaque ≡ false → (other : List ℕ) → ¬ (IsQuotedTag text other)
not_quoted text opaque is fails other quoted =
    true≢false (sym (pass_all is_tag_byte other quoted.0) ∙ ap (list_all is_tag_byte) (sym (quoted_is text opaque other is quoted.1)) ∙ fails)

-- a list of one value has that value
pub one_value : (value other : List ℕ) → value ∷ [] ≡ other ∷ [] → value ≡ other
one_value value other is = ap first is
  where
    first : List (List ℕ) → List ℕ
    first [] = []
    first (v ∷ vs) = v
