-- The grammar of lists of tags and the computed reading agree.
use Rattle.std.proofs.Common.{◌≡◌, ℕ, ◌==◌, Bool, true, false, cond, List, [], ◌∷◌, ◌++◌, map, Option, None, Some, refl, sym, ap, ◌∙◌, subst, arith, append_assoc}
use Rattle.std.specs.List.{AllByRecursion, filter_map, flat_map, cons_option}
use Rattle.std.specs.Option.{option_map_or, option_to_list, IfSome}
use Rattle.std.proofs.lemmas.Bool.Decides.{nat_tests}
use Rattle.request_checks.specs.declared.entity_tags.EntityTag.{EntityTag}
use Rattle.request_checks.specs.Tags.{AllBytesPass, IsListPart, SpellsTags, tag_text, join_with_commas, is_tag_byte, ListPart as Part, is_ows_byte as is_blank}
use Rattle.request_checks.specs.readers.Fields.{ListState, Before, Letter, Slash, Inside, AfterTag, opaque_front, tags_from, with_tags, entity_tag as tag_of}
use Rattle.request_checks.proofs.Fronts.{before-blanks, behind-blanks, inside-after_closing_quote, front-after_closing_quote}

-- a part as it is written
abbrev part_text : Part → List ℕ
part_text p = p.before ++ (option_map_or tag_text p.tag [] ++ p.after)

-- parts, a comma before each
abbrev rest_text : List Part → List ℕ
rest_text ps = flat_map (λ t. 44 ∷ t) (map part_text ps)

-- ---- what is spelled is read

rest-both_conditions : (ps : List Part) → tags_from Before (rest_text ps) ≡ tags_from AfterTag (rest_text ps)
rest-both_conditions [] = refl
rest-both_conditions (p ∷ ps) = refl

with-none : (o : Option (List EntityTag)) → with_tags [] o ≡ o
with-none None = refl
with-none (Some ts) = refl

tag-read : (weak : Bool) (o s : List ℕ) → AllBytesPass is_tag_byte o → tags_from Before (tag_text (tag_of weak o) ++ s) ≡ with_tags (tag_of weak o ∷ []) (tags_from AfterTag s)
tag-read true o s h =
    ap (λ r. with_tags (tag_of true (opaque_front r) ∷ []) (tags_from Inside r)) (append_assoc o (34 ∷ []) s)
    ∙ ap (λ q. with_tags (tag_of true q ∷ []) (tags_from Inside (o ++ 34 ∷ s))) (front-after_closing_quote o s h)
    ∙ ap (λ m. with_tags (tag_of true o ∷ []) m) (inside-after_closing_quote o s h)
tag-read false o s h =
    ap (λ r. with_tags (tag_of false (opaque_front r) ∷ []) (tags_from Inside r)) (append_assoc o (34 ∷ []) s)
    ∙ ap (λ q. with_tags (tag_of false q ∷ []) (tags_from Inside (o ++ 34 ∷ s))) (front-after_closing_quote o s h)
    ∙ ap (λ m. with_tags (tag_of false o ∷ []) m) (inside-after_closing_quote o s h)

part-read : (before : List ℕ) (tag : Option EntityTag) (behind : List ℕ) (ps : List Part) → AllBytesPass is_blank before → IfSome tag (λ t. AllBytesPass is_tag_byte t.opaque) → AllBytesPass is_blank behind → tags_from Before ((before ++ (option_map_or tag_text tag [] ++ behind)) ++ rest_text ps) ≡ with_tags (option_to_list tag) (tags_from AfterTag (rest_text ps))
part-read before None behind ps a t b =
    ap (λ s. tags_from Before s) (append_assoc before behind (rest_text ps))
    ∙ before-blanks before (behind ++ rest_text ps) a
    ∙ before-blanks behind (rest_text ps) b
    ∙ rest-both_conditions ps
    ∙ sym (with-none (tags_from AfterTag (rest_text ps)))
part-read before (Some tag) behind ps a t b =
    ap (λ s. tags_from Before s) (append_assoc before (tag_text tag ++ behind) (rest_text ps))
    ∙ before-blanks before ((tag_text tag ++ behind) ++ rest_text ps) a
    ∙ ap (λ s. tags_from Before s) (append_assoc (tag_text tag) behind (rest_text ps))
    ∙ tag-read tag.weak tag.opaque (behind ++ rest_text ps) t
    ∙ ap (λ o. with_tags (tag ∷ []) o) (behind-blanks behind (rest_text ps) b)

tagged : (tag : Option EntityTag) (ps : List Part) (ts : List EntityTag) → Some (option_to_list tag ++ ts) ≡ Some (cons_option tag ts)
tagged None ps ts = refl
tagged (Some t) ps ts = refl

rest-read : (ps : List Part) → AllByRecursion IsListPart ps → tags_from AfterTag (rest_text ps) ≡ Some (filter_map (λ p. p.tag) ps)
rest-read [] h = refl
rest-read (p ∷ ps) h =
    part-read p.before p.tag p.after ps h.0.before h.0.tag h.0.after
    ∙ ap (λ o. with_tags (option_to_list p.tag) o) (rest-read ps h.1)
    ∙ tagged p.tag ps (filter_map (λ q. q.tag) ps)

parts-read : (ps : List Part) → AllByRecursion IsListPart ps → tags_from Before (join_with_commas (map part_text ps)) ≡ Some (filter_map (λ p. p.tag) ps)
parts-read [] h = refl
parts-read (p ∷ ps) h = rest-read (p ∷ ps) h

pub spelled-reads : (text : List ℕ) (tags : List EntityTag) → SpellsTags text tags → tags_from Before text ≡ Some tags
spelled-reads text tags h = ap (λ s. tags_from Before s) h.spelled ∙ parts-read h.parts h.lawful ∙ ap (λ ts. Some ts) (sym h.tagged)

-- ---- what is read is spelled

-- the rest of a list after a tag
record Tail (s : List ℕ) (ts : List EntityTag) : Type 0 where
  blanks : List ℕ
  parts : List Part
  spelled : s ≡ blanks ++ rest_text parts
  tagged : ts ≡ filter_map (λ p. p.tag) parts
  blank : AllBytesPass is_blank blanks
  lawful : AllByRecursion IsListPart parts

-- a part and the rest
record Whole (s : List ℕ) (ts : List EntityTag) : Type 0 where
  part : Part
  parts : List Part
  spelled : s ≡ part_text part ++ rest_text parts
  tagged : ts ≡ filter_map (λ p. p.tag) (part ∷ parts)
  first : IsListPart part
  lawful : AllByRecursion IsListPart parts

-- the bytes between quotes, the quote, and the rest
record Quote (s : List ℕ) (ts : List EntityTag) : Type 0 where
  opaque : List ℕ
  rest : List ℕ
  spelled : s ≡ opaque ++ 34 ∷ rest
  lawful : AllBytesPass is_tag_byte opaque
  tail : Tail rest ts

-- the rest of a weak tag, and of the text
record Weak (front s : List ℕ) (ts : List EntityTag) : Type 0 where
  opaque : List ℕ
  others : List EntityTag
  rest : List ℕ
  spelled : s ≡ front ++ (34 ∷ (opaque ++ 34 ∷ rest))
  tagged : ts ≡ tag_of true opaque ∷ others
  lawful : AllBytesPass is_tag_byte opaque
  tail : Tail rest others

abbrev Shape : ListState → List ℕ → List EntityTag → Type 0
Shape Before s ts = Whole s ts
Shape Letter s ts = Weak (47 ∷ []) s ts
Shape Slash s ts = Weak [] s ts
Shape Inside s ts = Quote s ts
Shape AfterTag s ts = Tail s ts

abbrev Sound : ListState → List ℕ → Type 0
Sound place s = (ts : List EntityTag) → tags_from place s ≡ Some ts → Shape place s ts

-- a tag before the tags of the rest
record Gained (t : EntityTag) (more : Option (List EntityTag)) (ts : List EntityTag) : Type 0 where
  others : List EntityTag
  read : more ≡ Some others
  gained : ts ≡ t ∷ others

gained : (t : EntityTag) (more : Option (List EntityTag)) (ts : List EntityTag) → with_tags (t ∷ []) more ≡ Some ts → Gained t more ts
gained t None ts h = cc
gained t (Some us) ts h = record { others = us; read = refl; gained = cc }

is-code : (c n : ℕ) → (c == n) ≡ true → c ≡ n
is-code c n h = grind (arith, nat_tests)

empty-tail : (ts : List EntityTag) → Some [] ≡ Some ts → Tail [] ts
empty-tail ts h = record { blanks = []; parts = []; spelled = refl; tagged = cc; blank = tt; lawful = tt }

empty-whole : (ts : List EntityTag) → Some [] ≡ Some ts → Whole [] ts
empty-whole ts h =
    record {
      part = record { before = []; tag = None; after = [] };
      parts = [];
      spelled = refl;
      tagged = cc;
      first = record { before = tt; tag = tt; after = tt };
      lawful = tt;
    }

-- the part of a tag, and the rest after it
tag-whole : (t : EntityTag) (s rest : List ℕ) (ts us : List EntityTag) → s ≡ tag_text t ++ rest → ts ≡ t ∷ us → AllBytesPass is_tag_byte t.opaque → Tail rest us → Whole s ts
tag-whole t s rest ts us e g h tail =
    record {
      part = record { before = []; tag = Some t; after = tail.blanks };
      parts = tail.parts;
      spelled = e ∙ ap (λ r. tag_text t ++ r) tail.spelled ∙ sym (append_assoc (tag_text t) tail.blanks (rest_text tail.parts));
      tagged = g ∙ ap (λ r. t ∷ r) tail.tagged;
      first = record { before = tt; tag = h; after = tail.blank };
      lawful = tail.lawful;
    }

-- a tag's text with its quotes
strong-text : (o rest : List ℕ) → 34 ∷ (o ++ 34 ∷ rest) ≡ tag_text (tag_of false o) ++ rest
strong-text o rest = ap (λ r. 34 ∷ r) (sym (append_assoc o (34 ∷ []) rest))

weak-text : (o rest : List ℕ) → 87 ∷ 47 ∷ 34 ∷ (o ++ 34 ∷ rest) ≡ tag_text (tag_of true o) ++ rest
weak-text o rest = ap (λ r. 87 ∷ 47 ∷ 34 ∷ r) (sym (append_assoc o (34 ∷ []) rest))

-- one more blank before a part
blank-whole : (c : ℕ) (cs : List ℕ) (ts : List EntityTag) → is_blank c ≡ true → Whole cs ts → Whole (c ∷ cs) ts
blank-whole c cs ts h w =
    record {
      part = record { before = c ∷ w.part.before; tag = w.part.tag; after = w.part.after };
      parts = w.parts;
      spelled = ap (λ r. c ∷ r) w.spelled;
      tagged = w.tagged;
      first = record { before = (h, w.first.before); tag = w.first.tag; after = w.first.after };
      lawful = w.lawful;
    }

comma-whole : (cs : List ℕ) (ts : List EntityTag) → Whole cs ts → Whole (44 ∷ cs) ts
comma-whole cs ts w =
    record {
      part = record { before = []; tag = None; after = [] };
      parts = w.part ∷ w.parts;
      spelled = ap (λ r. 44 ∷ r) w.spelled;
      tagged = w.tagged;
      first = record { before = tt; tag = tt; after = tt };
      lawful = (w.first, w.lawful);
    }

blank-tail : (c : ℕ) (cs : List ℕ) (ts : List EntityTag) → is_blank c ≡ true → Tail cs ts → Tail (c ∷ cs) ts
blank-tail c cs ts h t =
    record {
      blanks = c ∷ t.blanks;
      parts = t.parts;
      spelled = ap (λ r. c ∷ r) t.spelled;
      tagged = t.tagged;
      blank = (h, t.blank);
      lawful = t.lawful;
    }

comma-tail : (cs : List ℕ) (ts : List EntityTag) → Whole cs ts → Tail (44 ∷ cs) ts
comma-tail cs ts w =
    record {
      blanks = [];
      parts = w.part ∷ w.parts;
      spelled = ap (λ r. 44 ∷ r) w.spelled;
      tagged = w.tagged;
      blank = tt;
      lawful = (w.first, w.lawful);
    }

strong-whole : (cs : List ℕ) (ts : List EntityTag) → with_tags (tag_of false (opaque_front cs) ∷ []) (tags_from Inside cs) ≡ Some ts → Sound Inside cs → Whole (34 ∷ cs) ts
strong-whole cs ts h by =
    let g = gained (tag_of false (opaque_front cs)) (tags_from Inside cs) ts h in
    let q = by g.others g.read in
    let same : opaque_front cs ≡ q.opaque = ap (λ s. opaque_front s) q.spelled ∙ front-after_closing_quote q.opaque q.rest q.lawful in
    tag-whole (tag_of false q.opaque) (34 ∷ cs) q.rest ts g.others (ap (λ s. 34 ∷ s) q.spelled ∙ strong-text q.opaque q.rest) (g.gained ∙ ap (λ o. tag_of false o ∷ g.others) same) q.lawful q.tail

weak-slash : (cs : List ℕ) (ts : List EntityTag) → with_tags (tag_of true (opaque_front cs) ∷ []) (tags_from Inside cs) ≡ Some ts → Sound Inside cs → Weak [] (34 ∷ cs) ts
weak-slash cs ts h by =
    let g = gained (tag_of true (opaque_front cs)) (tags_from Inside cs) ts h in
    let q = by g.others g.read in
    let same : opaque_front cs ≡ q.opaque = ap (λ s. opaque_front s) q.spelled ∙ front-after_closing_quote q.opaque q.rest q.lawful in
    record {
      opaque = q.opaque;
      others = g.others;
      rest = q.rest;
      spelled = ap (λ s. 34 ∷ s) q.spelled;
      tagged = g.gained ∙ ap (λ o. tag_of true o ∷ g.others) same;
      lawful = q.lawful;
      tail = q.tail;
    }

weak-letter : (cs : List ℕ) (ts : List EntityTag) → Weak [] cs ts → Weak (47 ∷ []) (47 ∷ cs) ts
weak-letter cs ts w =
    record {
      opaque = w.opaque;
      others = w.others;
      rest = w.rest;
      spelled = ap (λ s. 47 ∷ s) w.spelled;
      tagged = w.tagged;
      lawful = w.lawful;
      tail = w.tail;
    }

weak-whole : (cs : List ℕ) (ts : List EntityTag) → Weak (47 ∷ []) cs ts → Whole (87 ∷ cs) ts
weak-whole cs ts w =
    tag-whole (tag_of true w.opaque) (87 ∷ cs) w.rest ts w.others (ap (λ s. 87 ∷ s) w.spelled ∙ weak-text w.opaque w.rest) w.tagged w.lawful w.tail

-- ---- one character in each state

at : (P : ℕ → Type 0) (c n : ℕ) → (c == n) ≡ true → P n → P c
at P c n h p = subst P (sym (is-code c n h)) p

sound-letter : (c : ℕ) (cs : List ℕ) (b : Bool) → (c == 87) ≡ b → (ts : List EntityTag) → cond b (tags_from Letter cs) None ≡ Some ts → Sound Letter cs → Whole (c ∷ cs) ts
sound-letter c cs true e ts h by = at (λ (x : ℕ). Whole (x ∷ cs) ts) c 87 e (weak-whole cs ts (by ts h))
sound-letter c cs false e ts h by = cc

sound-quote : (c : ℕ) (cs : List ℕ) (b : Bool) → (c == 34) ≡ b → (ts : List EntityTag) → cond b (with_tags (tag_of false (opaque_front cs) ∷ []) (tags_from Inside cs)) (cond (c == 87) (tags_from Letter cs) None) ≡ Some ts → Sound Inside cs → Sound Letter cs → Whole (c ∷ cs) ts
sound-quote c cs true e ts h inside letter = at (λ (x : ℕ). Whole (x ∷ cs) ts) c 34 e (strong-whole cs ts h inside)
sound-quote c cs false e ts h inside letter = sound-letter c cs (c == 87) refl ts h letter

sound-comma : (c : ℕ) (cs : List ℕ) (b : Bool) → (c == 44) ≡ b → (ts : List EntityTag) → cond b (tags_from Before cs) (cond (c == 34) (with_tags (tag_of false (opaque_front cs) ∷ []) (tags_from Inside cs)) (cond (c == 87) (tags_from Letter cs) None)) ≡ Some ts → Sound Before cs → Sound Inside cs → Sound Letter cs → Whole (c ∷ cs) ts
sound-comma c cs true e ts h before inside letter = at (λ (x : ℕ). Whole (x ∷ cs) ts) c 44 e (comma-whole cs ts (before ts h))
sound-comma c cs false e ts h before inside letter = sound-quote c cs (c == 34) refl ts h inside letter

sound-before : (c : ℕ) (cs : List ℕ) (b : Bool) → is_blank c ≡ b → (ts : List EntityTag) → cond b (tags_from Before cs) (cond (c == 44) (tags_from Before cs) (cond (c == 34) (with_tags (tag_of false (opaque_front cs) ∷ []) (tags_from Inside cs)) (cond (c == 87) (tags_from Letter cs) None))) ≡ Some ts → Sound Before cs → Sound Inside cs → Sound Letter cs → Whole (c ∷ cs) ts
sound-before c cs true e ts h before inside letter = blank-whole c cs ts e (before ts h)
sound-before c cs false e ts h before inside letter = sound-comma c cs (c == 44) refl ts h before inside letter

sound-at-letter : (c : ℕ) (cs : List ℕ) (b : Bool) → (c == 47) ≡ b → (ts : List EntityTag) → cond b (tags_from Slash cs) None ≡ Some ts → Sound Slash cs → Weak (47 ∷ []) (c ∷ cs) ts
sound-at-letter c cs true e ts h by = at (λ (x : ℕ). Weak (47 ∷ []) (x ∷ cs) ts) c 47 e (weak-letter cs ts (by ts h))
sound-at-letter c cs false e ts h by = cc

sound-at-slash : (c : ℕ) (cs : List ℕ) (b : Bool) → (c == 34) ≡ b → (ts : List EntityTag) → cond b (with_tags (tag_of true (opaque_front cs) ∷ []) (tags_from Inside cs)) None ≡ Some ts → Sound Inside cs → Weak [] (c ∷ cs) ts
sound-at-slash c cs true e ts h by = at (λ (x : ℕ). Weak [] (x ∷ cs) ts) c 34 e (weak-slash cs ts h by)
sound-at-slash c cs false e ts h by = cc

end-quote : (cs : List ℕ) (ts : List EntityTag) → Tail cs ts → Quote (34 ∷ cs) ts
end-quote cs ts t = record { opaque = []; rest = cs; spelled = refl; lawful = tt; tail = t }

more-quote : (c : ℕ) (cs : List ℕ) (ts : List EntityTag) → is_tag_byte c ≡ true → Quote cs ts → Quote (c ∷ cs) ts
more-quote c cs ts h q =
    record {
      opaque = c ∷ q.opaque;
      rest = q.rest;
      spelled = ap (λ s. c ∷ s) q.spelled;
      lawful = (h, q.lawful);
      tail = q.tail;
    }

sound-tag-byte : (c : ℕ) (cs : List ℕ) (b : Bool) → is_tag_byte c ≡ b → (ts : List EntityTag) → cond b (tags_from Inside cs) None ≡ Some ts → Sound Inside cs → Quote (c ∷ cs) ts
sound-tag-byte c cs true e ts h by = more-quote c cs ts e (by ts h)
sound-tag-byte c cs false e ts h by = cc

sound-inside : (c : ℕ) (cs : List ℕ) (b : Bool) → (c == 34) ≡ b → (ts : List EntityTag) → cond b (tags_from AfterTag cs) (cond (is_tag_byte c) (tags_from Inside cs) None) ≡ Some ts → Sound AfterTag cs → Sound Inside cs → Quote (c ∷ cs) ts
sound-inside c cs true e ts h behind inside = at (λ (x : ℕ). Quote (x ∷ cs) ts) c 34 e (end-quote cs ts (behind ts h))
sound-inside c cs false e ts h behind inside = sound-tag-byte c cs (is_tag_byte c) refl ts h inside

sound-behind-comma : (c : ℕ) (cs : List ℕ) (b : Bool) → (c == 44) ≡ b → (ts : List EntityTag) → cond b (tags_from Before cs) None ≡ Some ts → Sound Before cs → Tail (c ∷ cs) ts
sound-behind-comma c cs true e ts h by = at (λ (x : ℕ). Tail (x ∷ cs) ts) c 44 e (comma-tail cs ts (by ts h))
sound-behind-comma c cs false e ts h by = cc

sound-behind : (c : ℕ) (cs : List ℕ) (b : Bool) → is_blank c ≡ b → (ts : List EntityTag) → cond b (tags_from AfterTag cs) (cond (c == 44) (tags_from Before cs) None) ≡ Some ts → Sound AfterTag cs → Sound Before cs → Tail (c ∷ cs) ts
sound-behind c cs true e ts h behind before = blank-tail c cs ts e (behind ts h)
sound-behind c cs false e ts h behind before = sound-behind-comma c cs (c == 44) refl ts h before

-- ---- every state

sound : (s : List ℕ) (place : ListState) → Sound place s
sound [] Before = empty-whole
sound [] Letter = λ ts h. cc
sound [] Slash = λ ts h. cc
sound [] Inside = λ ts h. cc
sound [] AfterTag = empty-tail
sound (c ∷ cs) Before = λ ts h. sound-before c cs (is_blank c) refl ts h (sound cs Before) (sound cs Inside) (sound cs Letter)
sound (c ∷ cs) Letter = λ ts h. sound-at-letter c cs (c == 47) refl ts h (sound cs Slash)
sound (c ∷ cs) Slash = λ ts h. sound-at-slash c cs (c == 34) refl ts h (sound cs Inside)
sound (c ∷ cs) Inside = λ ts h. sound-inside c cs (c == 34) refl ts h (sound cs AfterTag) (sound cs Inside)
sound (c ∷ cs) AfterTag = λ ts h. sound-behind c cs (is_blank c) refl ts h (sound cs AfterTag) (sound cs Before)

pub read-spells : (text : List ℕ) (tags : List EntityTag) → tags_from Before text ≡ Some tags → SpellsTags text tags
read-spells text tags h =
    let w = sound text Before tags h in
    record { parts = w.part ∷ w.parts; spelled = w.spelled; tagged = w.tagged; lawful = (w.first, w.lawful) }
