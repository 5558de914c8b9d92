-- The computed reading of a field is its reading by the grammar.
use Rattle.std.proofs.Common.{◌≡◌, ◌≢◌, IfOk, ℕ, Bool, true, false, cond, List, [], ◌∷◌, Option, None, Some, Result, Ok, Err, refl, ap, ◌∙◌, subst}
use Rattle.std.specs.Str.{bytes_eq}
use Rattle.std.proofs.lemmas.Slice.Eq.{bytes_eq-Decides}
use Rattle.request_checks.specs.declared.entity_tags.EntityTag.{EntityTag}
use Rattle.request_checks.specs.Tags.{join_with_commas}
use Rattle.request_checks.specs.Fields.{FieldValue, Missing, Star, Tags, Preconditions, HasFieldValue, HaveFieldValues, IsConditionsReading}
use Rattle.request_checks.specs.readers.Fields.{Before, tags_from, tags_value, text_value, field_value, both_conditions, conditions_of}
use Rattle.request_checks.proofs.Grammar.{spelled-reads, read-spells}

is-same : (a b : List ℕ) → bytes_eq a b ≡ true → a ≡ b
is-same a b h = (bytes_eq-Decides a b).0 h

-- ---- what is said is computed

tags_value-some : (ts : List EntityTag) → ts ≢ [] → tags_value (Some ts) ≡ Some (Tags ts)
tags_value-some [] h = absurd (h refl)
tags_value-some (t ∷ ts) h = refl

tags-text : (text : List ℕ) (ts : List EntityTag) (b : Bool) → bytes_eq text (42 ∷ []) ≡ b → tags_from Before text ≡ Some ts → ts ≢ [] → cond b (Some Star) (tags_value (tags_from Before text)) ≡ Some (Tags ts)
tags-text text ts true e h ne =
    let g : tags_from Before (42 ∷ []) ≡ Some ts = subst (λ (s : List ℕ). tags_from Before s ≡ Some ts) (is-same text (42 ∷ []) e) h in
    cc
tags-text text ts false e h ne = ap tags_value h ∙ tags_value-some ts ne

pub said-value : (lines : List (List ℕ)) (value : FieldValue) → HasFieldValue lines value → field_value lines ≡ Some value
said-value [] Missing h = refl
said-value [] Star h = cc
said-value [] (Tags ts) h = absurd (h.0 refl)
said-value (line ∷ lines) Missing h = cc
said-value (line ∷ lines) Star h = ap text_value h
said-value (line ∷ lines) (Tags ts) h =
    let text = join_with_commas (line ∷ lines) in
    tags-text text ts (bytes_eq text (42 ∷ [])) refl (spelled-reads text ts h.1) h.2

-- ---- what is computed is said

cons_is_some : (line : List ℕ) (lines : List (List ℕ)) → line ∷ lines ≢ []
cons_is_some line lines e = cc

tag_is_some : (t : EntityTag) (ts : List EntityTag) → t ∷ ts ≢ []
tag_is_some t ts e = cc

star-said : (line : List ℕ) (lines : List (List ℕ)) (value : FieldValue) → join_with_commas (line ∷ lines) ≡ 42 ∷ [] → Some Star ≡ Some value → HasFieldValue (line ∷ lines) value
star-said line lines Missing e h = cc
star-said line lines Star e h = e
star-said line lines (Tags ts) e h = cc

tags-said : (line : List ℕ) (lines : List (List ℕ)) (o : Option (List EntityTag)) (value : FieldValue) → tags_from Before (join_with_commas (line ∷ lines)) ≡ o → tags_value o ≡ Some value → HasFieldValue (line ∷ lines) value
tags-said line lines None value e h = cc
tags-said line lines (Some []) value e h = cc
tags-said line lines (Some (t ∷ ts)) Missing e h = cc
tags-said line lines (Some (t ∷ ts)) Star e h = cc
tags-said line lines (Some (t ∷ ts)) (Tags us) e h =
    let same : t ∷ ts ≡ us = cc in
    let said : HasFieldValue (line ∷ lines) (Tags (t ∷ ts)) = (cons_is_some line lines, read-spells (join_with_commas (line ∷ lines)) (t ∷ ts) e, tag_is_some t ts) in
    subst (λ (vs : List EntityTag). HasFieldValue (line ∷ lines) (Tags vs)) same said

text-said : (line : List ℕ) (lines : List (List ℕ)) (value : FieldValue) (b : Bool) → bytes_eq (join_with_commas (line ∷ lines)) (42 ∷ []) ≡ b → cond b (Some Star) (tags_value (tags_from Before (join_with_commas (line ∷ lines)))) ≡ Some value → HasFieldValue (line ∷ lines) value
text-said line lines value true e h = star-said line lines value (is-same (join_with_commas (line ∷ lines)) (42 ∷ []) e) h
text-said line lines value false e h = tags-said line lines (tags_from Before (join_with_commas (line ∷ lines))) value refl h

pub value-said : (lines : List (List ℕ)) (value : FieldValue) → field_value lines ≡ Some value → HasFieldValue lines value
value-said [] Missing h = refl
value-said [] Star h = cc
value-said [] (Tags ts) h = cc
value-said (line ∷ lines) value h = text-said line lines value (bytes_eq (join_with_commas (line ∷ lines)) (42 ∷ [])) refl h

-- ---- both fields

both_conditions-said : (ms ns : List (List ℕ)) (a b : Option FieldValue) (c : Preconditions) → field_value ms ≡ a → field_value ns ≡ b → both_conditions a b ≡ Some c → HaveFieldValues ms ns c
both_conditions-said ms ns None b c e f h = cc
both_conditions-said ms ns (Some a) None c e f h = cc
both_conditions-said ms ns (Some a) (Some b) c e f h =
    let same : record { if_match = a; if_none_match = b } ≡ c = cc in
    let said : HaveFieldValues ms ns (record { if_match = a; if_none_match = b }) = (value-said ms a e, value-said ns b f) in
    subst (λ (d : Preconditions). HaveFieldValues ms ns d) same said

pub conditions-said : (ms ns : List (List ℕ)) (c : Preconditions) → conditions_of ms ns ≡ Some c → HaveFieldValues ms ns c
conditions-said ms ns c h = both_conditions-said ms ns (field_value ms) (field_value ns) c refl refl h

pub said-conditions : (ms ns : List (List ℕ)) (c : Preconditions) → HaveFieldValues ms ns c → conditions_of ms ns ≡ Some c
said-conditions ms ns c h =
    ap (λ a. both_conditions a (field_value ns)) (said-value ms c.if_match h.0)
    ∙ ap (λ b. both_conditions (Some c.if_match) b) (said-value ns c.if_none_match h.1)

-- what a call returns is a reading by the grammar; and where nothing is computed there is no
-- reading
pub answer-said : {E : Type 0} (ms ns : List (List ℕ)) (r : Result Preconditions E) → IfOk r (λ c. conditions_of ms ns ≡ Some c) → IfOk r (λ c. HaveFieldValues ms ns c)
answer-said ms ns (Ok c) is = conditions-said ms ns c is
answer-said ms ns (Err f) is = tt

pub no_conditions : (ms ns : List (List ℕ)) → conditions_of ms ns ≡ None → IsConditionsReading ms ns None
no_conditions ms ns none c said = let same = said-conditions ms ns c said in cc

-- ---- one reading

some_of : (ms ns : List (List ℕ)) (a : Option Preconditions) → conditions_of ms ns ≡ a → (b : Option Preconditions) × IsConditionsReading ms ns b
some_of ms ns (Some c) is = (Some c, conditions-said ms ns c is)
some_of ms ns None is = (None, no_conditions ms ns is)

pub some_conditions : (ms ns : List (List ℕ)) → (a : Option Preconditions) × IsConditionsReading ms ns a
some_conditions ms ns = some_of ms ns (conditions_of ms ns) refl

pub one_conditions : (ms ns : List (List ℕ)) (a b : Option Preconditions) → IsConditionsReading ms ns a → IsConditionsReading ms ns b → a ≡ b
one_conditions ms ns (Some c) (Some d) p q = let x = said-conditions ms ns c p in let y = said-conditions ms ns d q in cc
one_conditions ms ns (Some c) None p q = absurd (q c p)
one_conditions ms ns None (Some d) p q = absurd (p d q)
one_conditions ms ns None None p q = refl
