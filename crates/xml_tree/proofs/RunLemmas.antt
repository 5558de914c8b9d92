-- Runs of nodes, one after another.
use Rattle.std.proofs.Common.{◌≡◌, ℕ, zero, suc, ◌<◌, ◌≤◌, List, [], ◌∷◌, ◌++◌, length, take, drop, Some, None, false, true≢false, refl, sym, ap, ◌∙◌, arith}
use Rattle.xml_tree.specs.Tree.{Content, last, more, comment_node, more_of}
use Rattle.xml_tree.specs.Edits.{with_text_prepended}
use Rattle.xml_tree.specs.Nodes.{content_of, StartsWithoutText, AreNormalized, is_text, text_at}
use Rattle.xml_tree.specs.inner.Nodes.{ends_in_text}
use Rattle.xml_tree.specs.declared.tree.Node.{Node}
use Rattle.xml_tree.specs.declared.tree.Node.TheVariants.{Elem, Chars, Comment}
use Rattle.xml_tree.proofs.Places.{AreNormal-append, before-nil, before-before}

-- a content after another
abbrev followed : Content → Content → Content
followed (last t) d = with_text_prepended t d
followed (more t n ds ats c rest) d = more t n ds ats c (followed rest d)
followed (comment_node t c rest) d = comment_node t c (followed rest d)

followed-before : (t : List ℕ) (c d : Content) → followed (with_text_prepended t c) d ≡ with_text_prepended t (followed c d)
followed-before t (last u) d = before-before t u d
followed-before t (more u n ds ats c rest) d = refl
followed-before t (comment_node u c rest) d = refl

content_of-append : (xs ys : List Node) → content_of (xs ++ ys) ≡ followed (content_of xs) (content_of ys)
content_of-append [] ys = sym (before-nil (content_of ys))
content_of-append (Elem e ∷ xs) ys = ap (more_of [] e) (content_of-append xs ys)
content_of-append (Comment c ∷ xs) ys = ap (comment_node [] c) (content_of-append xs ys)
content_of-append (Chars t ∷ xs) ys = ap (with_text_prepended t) (content_of-append xs ys) ∙ sym (followed-before t (content_of xs) (content_of ys))

-- the nodes between are independent of the nodes before and after
pub content_of-between : (ws xs ys zs : List Node) → content_of xs ≡ content_of ys → content_of (ws ++ (xs ++ zs)) ≡ content_of (ws ++ (ys ++ zs))
content_of-between ws xs ys zs h =
    content_of-append ws (xs ++ zs) ∙ ap (followed (content_of ws)) (content_of-append xs zs ∙ ap (λ c. followed c (content_of zs)) h ∙ sym (content_of-append ys zs))
    ∙ sym (content_of-append ws (ys ++ zs))

pub content_of-front : (xs ys zs : List Node) → content_of xs ≡ content_of ys → content_of (xs ++ zs) ≡ content_of (ys ++ zs)
content_of-front xs ys zs h = content_of-append xs zs ∙ ap (λ c. followed c (content_of zs)) h ∙ sym (content_of-append ys zs)

-- normal runs between which no two texts meet are normal together
pub AreNormal-three : (xs ys zs : List Node) → AreNormalized xs → AreNormalized ys → AreNormalized zs → ends_in_text xs ≡ false → StartsWithoutText zs → AreNormalized (xs ++ (ys ++ zs))
AreNormal-three xs ys zs a b c e s =
    AreNormal-append xs (ys ++ zs) a (AreNormal-append ys zs b c (λ yes. s)) (λ yes. absurd (true≢false (sym yes ∙ e)))

StartsApart-take : (i : ℕ) (ns : List Node) → StartsWithoutText ns → StartsWithoutText (take i ns)
StartsApart-take zero ns s = tt
StartsApart-take (suc i) [] s = tt
StartsApart-take (suc i) (Elem e ∷ ns) s = tt
StartsApart-take (suc i) (Chars t ∷ ns) s = absurd s
StartsApart-take (suc i) (Comment c ∷ ns) s = tt

pub AreNormal-take : (i : ℕ) (ns : List Node) → AreNormalized ns → AreNormalized (take i ns)
AreNormal-take zero ns a = tt
AreNormal-take (suc i) [] a = tt
AreNormal-take (suc i) (Elem e ∷ ns) a = AreNormal-take i ns a
AreNormal-take (suc i) (Comment c ∷ ns) a = AreNormal-take i ns a
AreNormal-take (suc i) (Chars t ∷ ns) a = (a.0, StartsApart-take i ns a.1, AreNormal-take i ns a.2)

pub AreNormal-drop : (i : ℕ) (ns : List Node) → AreNormalized ns → AreNormalized (drop i ns)
AreNormal-drop zero ns a = a
AreNormal-drop (suc i) [] a = tt
AreNormal-drop (suc i) (Elem e ∷ ns) a = AreNormal-drop i ns a
AreNormal-drop (suc i) (Comment c ∷ ns) a = AreNormal-drop i ns a
AreNormal-drop (suc i) (Chars t ∷ ns) a = AreNormal-drop i ns a.2

-- ---- the text directly before a place, and at a place

pub text_there : (i : ℕ) (ns : List Node) (t : List ℕ) → text_at i ns ≡ Some t → i < length ns
text_there i [] t is = absurd (cc)
text_there zero (x ∷ ns) t is = omega arith
text_there (suc i) (x ∷ ns) t is = omega (arith, text_there i ns t is)

ends-take_one : (x : Node) (i : ℕ) (ns : List Node) → i < length ns → ends_in_text (take (suc (suc i)) (x ∷ ns)) ≡ ends_in_text (take (suc i) ns)
ends-take_one x i [] h = absurd (omega arith)
ends-take_one x i (y ∷ ns) h = refl

-- no text directly before a place: none is last among the nodes before it
pub ends-take_none : (i : ℕ) (ns : List Node) → suc i ≤ length ns → text_at i ns ≡ None → ends_in_text (take (suc i) ns) ≡ false
ends-take_none i [] h is = absurd (omega arith)
ends-take_none zero (Elem e ∷ ns) h is = refl
ends-take_none zero (Chars t ∷ ns) h is = cc
ends-take_none zero (Comment c ∷ ns) h is = refl
ends-take_none (suc i) (x ∷ ns) h is = ends-take_one x i ns (omega arith) ∙ ends-take_none i ns (omega arith) is

not_last : (x : Node) (i : ℕ) (ns : List Node) → i < length ns → ends_in_text (take i ns) ≡ false → (i ≡ 0 → is_text x ≡ false) → ends_in_text (take (suc i) (x ∷ ns)) ≡ false
not_last x zero ns h e f = f refl
not_last x (suc i) [] h e f = absurd (omega arith)
not_last x (suc i) (y ∷ ns) h e f = e

-- a text directly before a place: none is directly before that
pub ends-take_some : (i : ℕ) (ns : List Node) (t : List ℕ) → AreNormalized ns → text_at i ns ≡ Some t → ends_in_text (take i ns) ≡ false
ends-take_some zero ns t a is = refl
ends-take_some (suc i) [] t a is = refl
ends-take_some (suc i) (Elem e ∷ ns) t a is = not_last (Elem e) i ns (text_there i ns t is) (ends-take_some i ns t a is) (λ _. refl)
ends-take_some (suc i) (Comment c ∷ ns) t a is = not_last (Comment c) i ns (text_there i ns t is) (ends-take_some i ns t a is) (λ _. refl)
ends-take_some (suc zero) (Chars u ∷ Chars v ∷ ns) t a is = absurd a.1
ends-take_some (suc zero) (Chars u ∷ []) t a is = absurd (cc)
ends-take_some (suc zero) (Chars u ∷ Elem e ∷ ns) t a is = absurd (cc)
ends-take_some (suc zero) (Chars u ∷ Comment c ∷ ns) t a is = absurd (cc)
ends-take_some (suc (suc i)) (Chars u ∷ []) t a is = absurd (cc)
ends-take_some (suc (suc i)) (Chars u ∷ x ∷ ns) t a is = ends-take_some (suc i) (x ∷ ns) t a.2 is

pub StartsApart-drop_none : (i : ℕ) (ns : List Node) → text_at i ns ≡ None → StartsWithoutText (drop i ns)
StartsApart-drop_none zero [] is = tt
StartsApart-drop_none zero (Elem e ∷ ns) is = tt
StartsApart-drop_none zero (Chars t ∷ ns) is = cc
StartsApart-drop_none zero (Comment c ∷ ns) is = tt
StartsApart-drop_none (suc i) [] is = tt
StartsApart-drop_none (suc i) (x ∷ ns) is = StartsApart-drop_none i ns is

tail_normal : (x : Node) (ns : List Node) → AreNormalized (x ∷ ns) → AreNormalized ns
tail_normal (Elem e) ns a = a
tail_normal (Chars t) ns a = a.2
tail_normal (Comment c) ns a = a

pub StartsApart-drop_some : (i : ℕ) (ns : List Node) (t : List ℕ) → AreNormalized ns → text_at i ns ≡ Some t → StartsWithoutText (drop (suc i) ns)
StartsApart-drop_some i [] t a is = absurd (cc)
StartsApart-drop_some zero (Elem e ∷ ns) t a is = cc
StartsApart-drop_some zero (Chars u ∷ ns) t a is = a.1
StartsApart-drop_some zero (Comment c ∷ ns) t a is = cc
StartsApart-drop_some (suc i) (x ∷ ns) t a is = StartsApart-drop_some i ns t (tail_normal x ns a) is

-- the text at a place, beside the nodes before it and after it
pub take-text : (i : ℕ) (ns zs : List Node) (t : List ℕ) → text_at i ns ≡ Some t → take i ns ++ (Chars t ∷ zs) ≡ take (suc i) ns ++ zs
take-text i [] zs t is = absurd (cc)
take-text zero (Elem e ∷ ns) zs t is = cc
take-text zero (Chars u ∷ ns) zs t is = let same : t ≡ u = cc in ap (λ x. Chars x ∷ zs) same
take-text zero (Comment c ∷ ns) zs t is = cc
take-text (suc i) (x ∷ ns) zs t is = ap (λ l. x ∷ l) (take-text i ns zs t is)

pub drop-text : (i : ℕ) (ns : List Node) (t : List ℕ) → text_at i ns ≡ Some t → Chars t ∷ drop (suc i) ns ≡ drop i ns
drop-text i [] t is = absurd (cc)
drop-text zero (Elem e ∷ ns) t is = cc
drop-text zero (Chars u ∷ ns) t is = let same : t ≡ u = cc in ap (λ x. Chars x ∷ ns) same
drop-text zero (Comment c ∷ ns) t is = cc
drop-text (suc i) (x ∷ ns) t is = drop-text i ns t is
