-- A text's bytes with more bytes appended.
use Rattle.std.proofs.Common.{◌≡◌, ℕ, List, [], ◌∷◌, ◌++◌, ◌&&◌, true, Result, Ok, Err, OnOk, OnErr, chars, encode_utf8, IsUtf8, append-nil, sym, ap, subst, ◌∙◌}
use Rattle.std.proofs.Math.Utf8.{scalar}
use Rattle.std.proofs.lemmas.Str.{chars-append, chars-encodes, IsUtf8-append}

module _ {E : Type 0} (old more new : List ℕ) (u : IsUtf8 old) where
  pub kept : (r : Result (Unit {0}) E) → IsUtf8 more → OnOk r (new ≡ old ++ more) → OnErr r (new ≡ old) → IsUtf8 new
  kept (Ok x) v ok err = subst IsUtf8 (sym ok) (IsUtf8-append old more u v)
  kept (Err e) v ok err = subst IsUtf8 (sym err) u

  pub said : (r : Result (Unit {0}) E) (before : List ℕ) → chars old ≡ before → OnOk r (new ≡ old ++ more) → OnOk r (chars new ≡ before ++ chars more)
  said (Ok x) before is ok = ap chars ok ∙ chars-append old more u ∙ ap (λ cs. cs ++ chars more) is
  said (Err e) before is ok = tt

-- one character
pub one : (c : ℕ) → scalar c ≡ true → chars (encode_utf8 c) ≡ c ∷ []
one c valid = ap chars (sym (append-nil _)) ∙ chars-encodes (c ∷ []) (ap (λ t. t && true) valid)

pub one_utf8 : (c : ℕ) → scalar c ≡ true → IsUtf8 (encode_utf8 c)
one_utf8 c valid = (c ∷ [], (ap (λ t. t && true) valid, append-nil _))
