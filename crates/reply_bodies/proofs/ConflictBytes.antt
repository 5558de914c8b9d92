-- The bytes of error documents are their prints.
use Rattle.std.proofs.Common.{◌≡◌, ℕ, List, [], ◌∷◌, ◌++◌, codes, encode_utf8_all, flat_map, refl, ap, sym, ◌∙◌, append_assoc, append-nil}
use Rattle.std.proofs.lemmas.Str.{encodes-append}
use lib.Utf8.{encode}
use Rattle.xml_names.specs.Markup.{print_text, text_escape, value_escape}
use Rattle.xml_tree.specs.Print.{document_print, print}
use Rattle.xml_names.proofs.Escapes.{encode-text, encode-value}
use Rattle.reply_bodies.specs.declared.conflicts.ErrorBody.{ErrorBody}
use Rattle.reply_bodies.specs.declared.conflicts.ErrorBody.TheVariants.{NotUtf8, NotWellFormed, NotXmlFrag, NotXmlAttValue, NoParent, Schema, CannotInsert, CannotDelete, Unique, Constraint}
use Rattle.reply_bodies.specs.Conflicts.{HasNonEmptyUri, conflict_element, conflict_root, conflict_bytes, child_bytes}

-- the bytes before and after the child of the root
abbrev opening_bytes : List ℕ
opening_bytes = codes "<?xml version=\"1.0\" encoding=\"UTF-8\"?>\n" ++ codes "<xcap-error xmlns=\"urn:ietf:params:xml:ns:xcap-error\">"

abbrev closing_bytes : List ℕ
closing_bytes = codes "</xcap-error>"

-- three texts, of which the first and the last are written out
three : (a b c x z : List ℕ) → encode_utf8_all a ≡ x → encode_utf8_all c ≡ z → encode_utf8_all (a ++ (b ++ c)) ≡ x ++ (encode_utf8_all b ++ z)
three a b c x z p q = encodes-append a (b ++ c) ∙ ap (λ y. encode_utf8_all a ++ y) (encodes-append b c) ∙ ap (λ y. y ++ (encode_utf8_all b ++ encode_utf8_all c)) p ∙ ap (λ y. x ++ (encode_utf8_all b ++ y)) q

opening_ascii : encode_utf8_all opening_bytes ≡ opening_bytes
unfolding encode
opening_ascii = refl

closing_ascii : encode_utf8_all closing_bytes ≡ closing_bytes
unfolding encode
closing_ascii = refl

document_parts : (body : ErrorBody) → document_print (conflict_root body) ≡ opening_bytes ++ ((print (conflict_element body) ++ []) ++ closing_bytes)
document_parts body = refl

no_parent_parts : (c : ℕ) (u : List ℕ) → print (conflict_element (NoParent (c ∷ u))) ≡ codes "<no-parent><ancestor>" ++ (((print_text (c ∷ u) ++ codes "</ancestor>") ++ []) ++ codes "</no-parent>")
no_parent_parts c u = refl

unique_parts : (f : List ℕ) → print (conflict_element (Unique f)) ≡ (codes "<uniqueness-failure><exists field=" ++ (34 ∷ [])) ++ (((((flat_map value_escape f ++ 34 ∷ []) ++ []) ++ codes "/>") ++ []) ++ codes "</uniqueness-failure>")
unique_parts f = refl

ancestor_start : encode_utf8_all (codes "<no-parent><ancestor>") ≡ codes "<no-parent><ancestor>"
unfolding encode
ancestor_start = refl

ancestor_end : encode_utf8_all (codes "</ancestor></no-parent>") ≡ codes "</ancestor></no-parent>"
unfolding encode
ancestor_end = refl

field_start : encode_utf8_all (codes "<uniqueness-failure><exists field=" ++ (34 ∷ [])) ≡ codes "<uniqueness-failure><exists field=" ++ (34 ∷ [])
unfolding encode
field_start = refl

field_end : encode_utf8_all (34 ∷ codes "/></uniqueness-failure>") ≡ 34 ∷ codes "/></uniqueness-failure>"
unfolding encode
field_end = refl

no_parent_is : (c : ℕ) (u : List ℕ) → encode_utf8_all (print (conflict_element (NoParent (c ∷ u)))) ≡ child_bytes (NoParent (c ∷ u))
no_parent_is c u =
    let t = print_text (c ∷ u) in
    let tail : ((t ++ codes "</ancestor>") ++ []) ++ codes "</no-parent>" ≡ t ++ codes "</ancestor></no-parent>" = simp (append-nil, append_assoc) in
    ap encode_utf8_all (no_parent_parts c u ∙ ap (λ x. codes "<no-parent><ancestor>" ++ x) tail)
    ∙ three (codes "<no-parent><ancestor>") t (codes "</ancestor></no-parent>") _ _ ancestor_start ancestor_end
    ∙ ap (λ x. codes "<no-parent><ancestor>" ++ (x ++ codes "</ancestor></no-parent>")) (encode-text (c ∷ u))
    ∙ sym (append_assoc (codes "<no-parent><ancestor>") (flat_map text_escape (encode_utf8_all (c ∷ u))) (codes "</ancestor></no-parent>"))

unique_is : (f : List ℕ) → encode_utf8_all (print (conflict_element (Unique f))) ≡ child_bytes (Unique f)
unique_is f =
    let v = flat_map value_escape f in
    let start = codes "<uniqueness-failure><exists field=" ++ (34 ∷ []) in
    let tail : ((((v ++ 34 ∷ []) ++ []) ++ codes "/>") ++ []) ++ codes "</uniqueness-failure>" ≡ v ++ (34 ∷ codes "/></uniqueness-failure>") = simp (append-nil, append_assoc) in
    ap encode_utf8_all (unique_parts f ∙ ap (λ x. start ++ x) tail)
    ∙ three start v (34 ∷ codes "/></uniqueness-failure>") _ _ field_start field_end
    ∙ ap (λ x. start ++ (x ++ (34 ∷ codes "/></uniqueness-failure>"))) (encode-value f)
    ∙ sym (append_assoc start (flat_map value_escape (encode_utf8_all f)) (34 ∷ codes "/></uniqueness-failure>"))

child_is : (body : ErrorBody) → HasNonEmptyUri body → encode_utf8_all (print (conflict_element body)) ≡ child_bytes body
unfolding encode
child_is NotUtf8 n = refl
child_is NotWellFormed n = refl
child_is NotXmlFrag n = refl
child_is NotXmlAttValue n = refl
child_is (NoParent []) n = absurd (n refl)
child_is (NoParent (c ∷ u)) n = no_parent_is c u
child_is Schema n = refl
child_is CannotInsert n = refl
child_is CannotDelete n = refl
child_is (Unique field) n = unique_is field
child_is Constraint n = refl

pub document_is : (body : ErrorBody) → HasNonEmptyUri body → conflict_bytes body ≡ encode_utf8_all (document_print (conflict_root body))
document_is body n =
    let c = print (conflict_element body) in
    append_assoc opening_bytes (child_bytes body) closing_bytes
    ∙ ap (λ x. opening_bytes ++ (x ++ closing_bytes)) (sym (child_is body n))
    ∙ sym (ap encode_utf8_all (document_parts body ∙ ap (λ x. opening_bytes ++ (x ++ closing_bytes)) (append-nil c)) ∙ three opening_bytes c closing_bytes _ _ opening_ascii closing_ascii)
