-- What is read at the front of a part: blanks, and the bytes between two quotes.
use Rattle.std.proofs.Common.{◌≡◌, ℕ, suc, ◌+◌, ◌<◌, ◌==◌, Bool, true, false, cond, List, [], ◌∷◌, ◌++◌, drop, length, Option, None, Some, option_map, refl, sym, ap, ◌∙◌, subst, arith, append_assoc}
use Rattle.std.specs.Option.{option_and_then}
use Rattle.std.specs.List.{prefix_len}
use Rattle.std.proofs.lemmas.List.Sums.{take_while-cons}
use Rattle.std.proofs.lemmas.Bool.Decides.{nat_tests}
use Rattle.request_checks.specs.declared.entity_tags.EntityTag.{EntityTag}
use Rattle.request_checks.specs.Tags.{AllBytesPass, is_tag_byte, is_ows_byte as is_blank}
use Rattle.request_checks.specs.readers.Fields.{Before, Letter, Slash, Inside, AfterTag, IsTrimmed, after_blanks, after_byte, after_closing_quote, opaque_front, quoted_tag, first_tag, after_letter, after_slash, tags_from, with_tags, entity_tag as tag_of}

-- blanks are skipped, before a tag and after it
pub before-blanks : (bs s : List ℕ) → AllBytesPass is_blank bs → tags_from Before (bs ++ s) ≡ tags_from Before s
before-blanks [] s h = refl
before-blanks (b ∷ bs) s h = rw h.0 (before-blanks bs s h.1)

pub behind-blanks : (bs s : List ℕ) → AllBytesPass is_blank bs → tags_from AfterTag (bs ++ s) ≡ tags_from AfterTag s
behind-blanks [] s h = refl
behind-blanks (b ∷ bs) s h = rw h.0 (behind-blanks bs s h.1)

-- an allowed byte between quotes is no quote
quote_is_none : (c : ℕ) → is_tag_byte c ≡ true → (c == 34) ≡ false
quote_is_none c h = grind (arith, nat_tests)

-- the bytes between quotes are read as the tag's
pub inside-after_closing_quote : (o s : List ℕ) → AllBytesPass is_tag_byte o → tags_from Inside (o ++ 34 ∷ s) ≡ tags_from AfterTag s
inside-after_closing_quote [] s h = refl
inside-after_closing_quote (c ∷ o) s h = let e = quote_is_none c h.0 in rw (e, h.0) (inside-after_closing_quote o s h.1)

pub front-after_closing_quote : (o s : List ℕ) → AllBytesPass is_tag_byte o → opaque_front (o ++ 34 ∷ s) ≡ o
front-after_closing_quote [] s h = refl
front-after_closing_quote (c ∷ o) s h = take_while-cons is_tag_byte c (o ++ 34 ∷ s) ∙ rw h.0 (ap (λ r. c ∷ r) (front-after_closing_quote o s h.1))

-- ---- as the code reads it

-- between quotes: the bytes up to the quote, and the text after it
drop-more : (n c : ℕ) (cs : List ℕ) → drop (1 + n) (c ∷ cs) ≡ drop n cs
drop-more n c cs = let e : 1 + n ≡ suc n = omega arith in rw e refl

after_closing_quote-cons : (c : ℕ) (cs : List ℕ) → is_tag_byte c ≡ true → after_closing_quote (c ∷ cs) ≡ after_closing_quote cs
after_closing_quote-cons c cs h = rw h (ap (after_byte 34) (drop-more (prefix_len is_tag_byte cs) c cs))

choice : (b : Bool) (rest : List ℕ) → cond b (tags_from AfterTag rest) None ≡ option_and_then (λ r. tags_from AfterTag r) (cond b (Some rest) None)
choice true rest = refl
choice false rest = refl

inside-step : (c : ℕ) (cs : List ℕ) (b : Bool) → is_tag_byte c ≡ b → tags_from Inside cs ≡ option_and_then (λ rest. tags_from AfterTag rest) (after_closing_quote cs) → tags_from Inside (c ∷ cs) ≡ option_and_then (λ rest. tags_from AfterTag rest) (after_closing_quote (c ∷ cs))
inside-step c cs true h by =
    let e = quote_is_none c h in
    rw (after_closing_quote-cons c cs h) (rw (e, h) by)
inside-step c cs false h by = rw h (choice (c == 34) cs)

inside-reads : (s : List ℕ) → tags_from Inside s ≡ option_and_then (λ rest. tags_from AfterTag rest) (after_closing_quote s)
inside-reads [] = refl
inside-reads (c ∷ cs) = inside-step c cs (is_tag_byte c) refl (inside-reads cs)

-- the tags of the rest after a tag at the front
abbrev tags_after : Option (EntityTag × List ℕ) → Option (List EntityTag)
tags_after front = option_and_then (λ f. with_tags (f.0 ∷ []) (tags_from AfterTag f.1)) front

behind-front : (t : EntityTag) (rest : Option (List ℕ)) → with_tags (t ∷ []) (option_and_then (λ r. tags_from AfterTag r) rest) ≡ tags_after (option_map (λ r. (t, r)) rest)
behind-front t None = refl
behind-front t (Some r) = refl

quoted_tag-reads : (weak : Bool) (s : List ℕ) → with_tags (tag_of weak (opaque_front s) ∷ []) (tags_from Inside s) ≡ tags_after (quoted_tag weak s)
quoted_tag-reads weak s = ap (λ o. with_tags (tag_of weak (opaque_front s) ∷ []) o) (inside-reads s) ∙ behind-front (tag_of weak (opaque_front s)) (after_closing_quote s)

if-read : (b : Bool) (f : Option (EntityTag × List ℕ)) → cond b (tags_after f) None ≡ tags_after (cond b f None)
if-read true f = refl
if-read false f = refl

slash-reads : (s : List ℕ) → tags_from Slash s ≡ tags_after (after_slash s)
slash-reads [] = refl
slash-reads (c ∷ cs) = ap (λ o. cond (c == 34) o None) (quoted_tag-reads true cs) ∙ if-read (c == 34) (quoted_tag true cs)

letter-reads : (s : List ℕ) → tags_from Letter s ≡ tags_after (after_letter s)
letter-reads [] = refl
letter-reads (c ∷ cs) = ap (λ o. cond (c == 47) o None) (slash-reads cs) ∙ if-read (c == 47) (after_slash cs)

either-read : (b : Bool) (f g : Option (EntityTag × List ℕ)) → cond b (tags_after f) (tags_after g) ≡ tags_after (cond b f g)
either-read true f g = refl
either-read false f g = refl

first-reads : (c : ℕ) (cs : List ℕ) → cond (c == 34) (with_tags (tag_of false (opaque_front cs) ∷ []) (tags_from Inside cs)) (cond (c == 87) (tags_from Letter cs) None) ≡ tags_after (first_tag (c ∷ cs))
first-reads c cs =
    let e = quoted_tag-reads false cs in
    let l = ap (λ o. cond (c == 87) o None) (letter-reads cs) ∙ if-read (c == 87) (after_letter cs) in
    ap (λ o. cond (c == 34) o (cond (c == 87) (tags_from Letter cs) None)) e
    ∙ ap (λ o. cond (c == 34) (tags_after (quoted_tag false cs)) o) l
    ∙ either-read (c == 34) (quoted_tag false cs) (cond (c == 87) (after_letter cs) None)

trimmed-step : (c : ℕ) (cs : List ℕ) (b : Bool) → is_blank c ≡ b → IsTrimmed (after_blanks cs) → IsTrimmed (after_blanks (c ∷ cs))
trimmed-step c cs true h by = rw h by
trimmed-step c cs false h by = rw h h

pub trimmed : (s : List ℕ) → IsTrimmed (after_blanks s)
trimmed [] = tt
trimmed (c ∷ cs) = trimmed-step c cs (is_blank c) refl (trimmed cs)

before-step : (c : ℕ) (cs : List ℕ) (b : Bool) → is_blank c ≡ b → tags_from Before cs ≡ tags_from Before (after_blanks cs) → tags_from Before (c ∷ cs) ≡ tags_from Before (after_blanks (c ∷ cs))
before-step c cs true h by = rw h by
before-step c cs false h by = simp h

before-skips : (s : List ℕ) → tags_from Before s ≡ tags_from Before (after_blanks s)
before-skips [] = refl
before-skips (c ∷ cs) = before-step c cs (is_blank c) refl (before-skips cs)

behind-step : (c : ℕ) (cs : List ℕ) (b : Bool) → is_blank c ≡ b → tags_from AfterTag cs ≡ tags_from AfterTag (after_blanks cs) → tags_from AfterTag (c ∷ cs) ≡ tags_from AfterTag (after_blanks (c ∷ cs))
behind-step c cs true h by = rw h by
behind-step c cs false h by = simp h

behind-skips : (s : List ℕ) → tags_from AfterTag s ≡ tags_from AfterTag (after_blanks s)
behind-skips [] = refl
behind-skips (c ∷ cs) = behind-step c cs (is_blank c) refl (behind-skips cs)

trimmed-none : (s : List ℕ) → IsTrimmed s → first_tag s ≡ None → tags_from Before s ≡ tags_from AfterTag s
trimmed-none [] h e = refl
trimmed-none (c ∷ cs) h e = rw h (ap (λ o. cond (c == 44) (tags_from Before cs) o) (first-reads c cs ∙ ap tags_after e))

no-comma : (c : ℕ) (cs : List ℕ) (f : EntityTag × List ℕ) (b : Bool) → (c == 44) ≡ b → first_tag (c ∷ cs) ≡ Some f → (c == 44) ≡ false
no-comma c cs f true e h =
    let at : c ≡ 44 = grind (arith, nat_tests) in
    let g : first_tag (44 ∷ cs) ≡ Some f = subst (λ (x : ℕ). first_tag (x ∷ cs) ≡ Some f) at h in
    cc
no-comma c cs f false e h = e

trimmed-some : (s : List ℕ) (t : EntityTag) (r : List ℕ) → IsTrimmed s → first_tag s ≡ Some (t, r) → tags_from Before s ≡ with_tags (t ∷ []) (tags_from AfterTag r)
trimmed-some [] t r h e = cc
trimmed-some (c ∷ cs) t r h e =
    let k = no-comma c cs (t, r) (c == 44) refl e in
    rw (h, k) (first-reads c cs ∙ ap tags_after e)

front-none : (s : List ℕ) → first_tag (after_blanks s) ≡ None → tags_from Before s ≡ tags_from AfterTag (after_blanks s)
front-none s e = before-skips s ∙ trimmed-none (after_blanks s) (trimmed s) e

front-some : (s : List ℕ) (t : EntityTag) (r : List ℕ) → first_tag (after_blanks s) ≡ Some (t, r) → tags_from Before s ≡ with_tags (t ∷ []) (tags_from AfterTag (after_blanks r))
front-some s t r e =
    before-skips s ∙ trimmed-some (after_blanks s) t r (trimmed s) e
    ∙ ap (λ o. with_tags (t ∷ []) o) (behind-skips r)

with-more : (ts us : List EntityTag) (more : Option (List EntityTag)) → with_tags ts (with_tags us more) ≡ with_tags (ts ++ us) more
with-more ts us None = refl
with-more ts us (Some vs) = ap (λ l. Some l) (sym (append_assoc ts us vs))

-- a part without a tag, and one with a tag, of the text s; b is s without its blanks, q the text
-- after the part
pub part-none : (ts : List EntityTag) (s b : List ℕ) → b ≡ after_blanks s → first_tag b ≡ None → with_tags ts (tags_from Before s) ≡ with_tags ts (tags_from AfterTag b)
part-none ts s b e h = ap (λ o. with_tags ts o) (front-none s (ap first_tag (sym e) ∙ h) ∙ ap (λ r. tags_from AfterTag r) (sym e))

pub part-some : (ts us : List EntityTag) (s b r q : List ℕ) (t : EntityTag) → b ≡ after_blanks s → first_tag b ≡ Some (t, r) → q ≡ after_blanks r → us ≡ ts ++ t ∷ [] → with_tags ts (tags_from Before s) ≡ with_tags us (tags_from AfterTag q)
part-some ts us s b r q t e h f g =
    ap (λ o. with_tags ts o) (front-some s t r (ap first_tag (sym e) ∙ h))
    ∙ with-more ts (t ∷ []) (tags_from AfterTag (after_blanks r))
    ∙ ap (λ vs. with_tags vs (tags_from AfterTag (after_blanks r))) (sym g)
    ∙ ap (λ x. with_tags us (tags_from AfterTag x)) (sym f)

-- the text after a part: a comma and further parts
comma-step : (c : ℕ) (cs : List ℕ) (b : Bool) → (c == 44) ≡ b → cond b (tags_from Before cs) None ≡ option_and_then (λ r. tags_from Before r) (cond b (Some cs) None)
comma-step c cs true e = refl
comma-step c cs false e = refl

pub comma_reads : (s : List ℕ) → IsTrimmed s → 0 < length s → tags_from AfterTag s ≡ option_and_then (λ r. tags_from Before r) (after_byte 44 s)
comma_reads [] h some = absurd (omega arith)
comma_reads (c ∷ cs) h some = rw h (comma-step c cs (c == 44) refl)
