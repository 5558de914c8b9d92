-- The bytes of a connection have one meaning.
use Rattle.std.proofs.Common.{◌≡◌, ℕ, Bool, true, false, List, [], ◌∷◌, ◌++◌, map, Option, None, Some, Result, Ok, Err, chars, refl, sym, ap, subst, ◌∙◌, arith}
use Rattle.std.proofs.lemmas.List.{append_cancel_left, append_cancel_right}
use Rattle.httparse.specs.Grammar.{ResponseHead}
use Rattle.httparse.specs.Spans.{name_and_value}
use Rattle.httparse.proofs.GrammarLemmas.{response_unique}
use Rattle.request_checks.specs.Tags.{tag_text}
use Rattle.request_checks.specs.readers.Fields.{entity_tag}
use Rattle.xcap_client.specs.declared.response_fault.ResponseFault.{ResponseFault}
use Rattle.xcap_client.specs.declared.response.Response.{Response}
use Rattle.xcap_client.specs.ResponseHeads.{BeginsWithHead}
use Rattle.xcap_client.specs.ResponseTags.{HasTag, IsEntityTagOf, IsTagOf}
use Rattle.xcap_client.specs.BodyLengths.{body_result}
use Rattle.xcap_client.specs.Responses.{body_length_of_head, response_of, IsResponseOf, no_head, refused, responds}
use Rattle.xcap_client.proofs.QuoteLemmas.{one_value}

abbrev first_of_text : List ℕ → ℕ
first_of_text [] = 0
first_of_text (c ∷ cs) = c

heads : (a b : ℕ) (xs ys : List ℕ) → a ∷ xs ≡ b ∷ ys → a ≡ b
heads a b xs ys same = ap first_of_text same

-- the text between the quotes of a tag is determined
opaque_is : (value o p : List ℕ) (weak other : Bool) → value ≡ tag_text (entity_tag weak o) → value ≡ tag_text (entity_tag other p) → o ≡ p
opaque_is value o p true true one two = append_cancel_right o p (34 ∷ []) (append_cancel_left (87 ∷ 47 ∷ 34 ∷ []) (o ++ 34 ∷ []) (p ++ 34 ∷ []) (sym one ∙ two))
opaque_is value o p false false one two = append_cancel_right o p (34 ∷ []) (append_cancel_left (34 ∷ []) (o ++ 34 ∷ []) (p ++ 34 ∷ []) (sym one ∙ two))
opaque_is value o p true false one two = let same : 87 ∷ 47 ∷ 34 ∷ (o ++ 34 ∷ []) ≡ 34 ∷ (p ++ 34 ∷ []) = sym one ∙ two in
    let never : 87 ≡ 34 = heads 87 34 (47 ∷ 34 ∷ (o ++ 34 ∷ [])) (p ++ 34 ∷ []) same in absurd (omega (arith, never))
opaque_is value o p false true one two = let same : 34 ∷ (o ++ 34 ∷ []) ≡ 87 ∷ 47 ∷ 34 ∷ (p ++ 34 ∷ []) = sym one ∙ two in
    let never : 34 ≡ 87 = heads 34 87 (o ++ 34 ∷ []) (47 ∷ 34 ∷ (p ++ 34 ∷ [])) same in absurd (omega (arith, never))

opaque_of_one : (value o p : List ℕ) → IsEntityTagOf value o → IsEntityTagOf value p → o ≡ p
opaque_of_one value o p (weak, lawful, is) (other, lawful', is') = opaque_is value o p weak other is is'

gives_one : (fields : List (List ℕ × List ℕ)) (tag other : List ℕ) → HasTag fields tag → HasTag fields other → tag ≡ other
gives_one fields tag other one two =
    let value : one.value ≡ two.value = one_value one.value two.value (sym one.once ∙ two.once) in
    let opaque : one.opaque ≡ two.opaque = opaque_of_one two.value one.opaque two.opaque (subst (λ (v : List ℕ). IsEntityTagOf v one.opaque) value one.quoted) two.quoted in
    one.text ∙ ap chars opaque ∙ sym two.text

tag_is_one : (fields : List (List ℕ × List ℕ)) (tag other : Option (List ℕ)) → IsTagOf fields tag → IsTagOf fields other → tag ≡ other
tag_is_one fields None None one two = refl
tag_is_one fields None (Some t) one two = absurd (one t two)
tag_is_one fields (Some t) None one two = absurd (two t one)
tag_is_one fields (Some t) (Some u) one two = ap (λ (x : List ℕ). Some x) (gives_one fields t u one two)

-- two heads at the front of the same bytes are equal, and so are the bytes after them
same_body : (bytes : List ℕ) (head other : ResponseHead) (rest behind : List ℕ) → BeginsWithHead bytes head rest → BeginsWithHead bytes other behind → (head ≡ other) × (body_result (body_length_of_head head) rest ≡ body_result (body_length_of_head other) behind)
same_body bytes head other rest behind one two =
    let same = response_unique bytes head other rest behind one.reads two.reads in
    (same.0, ap (λ (h : ResponseHead). body_result (body_length_of_head h) rest) same.0 ∙ ap (body_result (body_length_of_head other)) same.1)

err_is : (f g : ResponseFault) (r s : Result (List ℕ) ResponseFault) → r ≡ s → r ≡ Err f → s ≡ Err g → f ≡ g
err_is f g r s same one two = let e : Err f ≡ s = sym one ∙ same in let e' = e ∙ two in cc

ok_is : (x y : List ℕ) (r s : Result (List ℕ) ResponseFault) → r ≡ s → r ≡ Ok x → s ≡ Ok y → x ≡ y
ok_is x y r s same one two = let e : Ok x ≡ s = sym one ∙ same in let e' = e ∙ two in cc

never_both : (x : List ℕ) (f : ResponseFault) (r s : Result (List ℕ) ResponseFault) → r ≡ s → r ≡ Ok x → s ≡ Err f → ⊥
never_both x f r s same one two = let e : Ok x ≡ Err f = sym one ∙ same ∙ two in cc

pub one_meaning : (bytes : List ℕ) (a b : Result Response ResponseFault) → IsResponseOf bytes a → IsResponseOf bytes b → a ≡ b
one_meaning bytes a b (no_head none is) (no_head none' is') = is ∙ sym is'
one_meaning bytes a b (no_head none is) (refused h r f begins said is') = absurd (none h r begins)
one_meaning bytes a b (no_head none is) (responds h r t x begins tagged said is') = absurd (none h r begins)
one_meaning bytes a b (refused h r f begins said is) (no_head none is') = absurd (none h r begins)
one_meaning bytes a b (responds h r t x begins tagged said is) (no_head none is') = absurd (none h r begins)
one_meaning bytes a b (refused h r f begins said is) (refused k s g begins' said' is') =
    is ∙ ap (λ (e : ResponseFault). Err e) (err_is f g _ _ (same_body bytes h k r s begins begins').1 said said') ∙ sym is'
one_meaning bytes a b (refused h r f begins said is) (responds k s u y begins' tagged' said' is') =
    absurd (never_both y f _ _ (sym (same_body bytes h k r s begins begins').1) said' said)
one_meaning bytes a b (responds h r t x begins tagged said is) (refused k s g begins' said' is') =
    absurd (never_both x g _ _ (same_body bytes h k r s begins begins').1 said said')
one_meaning bytes a b (responds h r t x begins tagged said is) (responds k s u y begins' tagged' said' is') =
    let same = same_body bytes h k r s begins begins' in
    let fields = ap (λ (head : ResponseHead). map name_and_value head.fields) same.0 in
    let tags : t ≡ u = tag_is_one (map name_and_value k.fields) t u (subst (λ (fs : List (List ℕ × List ℕ)). IsTagOf fs t) fields tagged) tagged' in
    let bodies : x ≡ y = ok_is x y _ _ same.1 said said' in
    is
    ∙ ap (λ (head : ResponseHead). Ok (response_of head t x)) same.0
    ∙ ap (λ (tag : Option (List ℕ)). Ok (response_of k tag x)) tags
    ∙ ap (λ (body : List ℕ). Ok (response_of k u body)) bodies
    ∙ sym is'
