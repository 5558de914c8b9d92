-- The widths of what is read: steps and what is left after them fill the text.
use Rattle.std.proofs.Common.{◌≡◌, ℕ, zero, suc, ◌+◌, ◌-◌, ◌≤◌, ◌<◌, ◌^◌, Bool, true, false, cond, List, [], ◌∷◌, length, encode_utf8_all, Option, Some, None, Result, Ok, Err, refl, ap, ◌∙◌, subst, arith, eqb-true}
use Rattle.std.specs.Prelude.{nat_eq}
use Rattle.xml_names.specs.declared.names.Name.{Name}
use Rattle.std.specs.Char.{is_ascii_digit as is_digit}
use Rattle.xml_grammar.specs.TextReading.{Stop, Syntax, Reader, ◌>>=◌, read_word, read_sequence, read_mapped}
use Rattle.xml_grammar.specs.readers.RuleReaders.{read_at_most, read_many, read_with_length, read_filtered, read_optional, read_name_rule, read_first, read_second, read_whole_text, require_end}
use Rattle.xml_tokens.specs.declared.fault_kind.FaultKind.{FaultKind}
use Rattle.xml_tokens.specs.Tokens.{is_quote, is_raw_value_char}
use Rattle.xml_tokens.specs.readers.Tokens.{reference_follows}
use Rattle.xml_tokens.proofs.TagLemmas.{shrinks_qname, shrinks_reference}
use Rattle.xml_grammar.specs.readers.Suffixes.{EndsWith}
use Rattle.xml_tokens.proofs.Shrinks.{Left, Shrinks, ok_left, ok_small, shrinks_one, shrinks_word, shrinks_run, shrinks_empty, shrinks_sequence, shrinks_valued, shrinks_either, shrinks_many}
use Rattle.node_select.specs.Grammar.{position_of, is_attribute_name, literal_value}
use Rattle.node_select.specs.readers.SelectorValues.{steps_from_parts}
use Rattle.node_select.specs.readers.Literals.{star, at_sign, open_bracket, close_bracket, equals_sign, slash}
use Rattle.node_select.specs.readers.RawSelectors.{RawStep, RawPatchEnd, steps_size, HaveFrontsWithin, HasPlacesInRange, RawSelector, RawPatchSelector, raw_step_of, raw_end_or_element, raw_patch_end_or_element, slash_width}
use Rattle.node_select.specs.readers.Selectors.{star_follows, position_follows, test_follows, slash_follows, read_node_name, read_position, read_attribute, read_inside_quotes, read_value, read_test, read_step, read_next_step, read_steps, read_end, read_selector, read_patch_end, read_patch_selector, step_follows, patch_step_follows}

-- ---- shapes
shrinks_behind : {A B : Type 0} {p : Reader FaultKind A} {q : Reader FaultKind B} → Shrinks p → Shrinks q → Shrinks (read_second p q)
shrinks_behind h i = shrinks_valued (λ x. x.1) (shrinks_sequence h (λ _. i))

shrinks_before : {A B : Type 0} {p : Reader FaultKind A} {q : Reader FaultKind B} → Shrinks p → Shrinks q → Shrinks (read_first p q)
shrinks_before h i = shrinks_valued (λ x. x.0) (shrinks_sequence h (λ _. i))

shrinks_optional : {A : Type 0} {p : Reader FaultKind A} (test : List ℕ → Bool) → Shrinks p → Shrinks (read_optional test p)
shrinks_optional test h = shrinks_either test (shrinks_valued Some h) (shrinks_empty None)

shrinks_name_of : (p q : ℕ → Bool) → Shrinks (read_name_rule p q)
shrinks_name_of p q = shrinks_valued (λ x. x.0 ∷ x.1) (shrinks_sequence (shrinks_one p) (λ _. shrinks_run q))

only_by : {A : Type 0} (text : List ℕ) (b : Bool) (x : A × List ℕ) → EndsWith text x.1 → Left text (cond b (Ok x) (Err (Syntax x.1)))
only_by text true x h = h
only_by text false x h = tt

only_left : {A : Type 0} (text : List ℕ) (t : A → Bool) (out : Result (A × List ℕ) (Stop FaultKind)) → Left text out → Left text (out >>= λ x. cond (t x.0) (Ok x) (Err (Syntax x.1)))
only_left text t (Ok x) h = only_by text (t x.0) x h
only_left text t (Err e) h = tt

shrinks_only : {A : Type 0} {p : Reader FaultKind A} (t : A → Bool) → Shrinks p → Shrinks (read_filtered t p)
shrinks_only {A} {p} t h = record { by = λ text. only_left text t (p text) (h.by text) }

-- ---- the parts of steps
shrinks_node_name : Shrinks read_node_name
shrinks_node_name = shrinks_either star_follows (shrinks_valued (λ _. None) (shrinks_word star)) (shrinks_valued Some shrinks_qname)

shrinks_position : Shrinks read_position
shrinks_position = shrinks_behind (shrinks_word open_bracket) (shrinks_before (shrinks_valued position_of (shrinks_name_of is_digit is_digit)) (shrinks_word close_bracket))

shrinks_attribute : Shrinks read_attribute
shrinks_attribute = shrinks_behind (shrinks_word at_sign) (shrinks_only is_attribute_name shrinks_qname)

shrinks_inside : (q : ℕ) → Shrinks (read_inside_quotes q)
shrinks_inside q = shrinks_valued literal_value (shrinks_sequence (shrinks_run (is_raw_value_char q)) (λ _. shrinks_many reference_follows (shrinks_sequence shrinks_reference (λ _. shrinks_run (is_raw_value_char q)))))

shrinks_value : Shrinks read_value
shrinks_value = shrinks_valued (λ x. x.1) (shrinks_sequence (shrinks_one is_quote) (λ q. shrinks_before (shrinks_inside q) (shrinks_word (q ∷ []))))

shrinks_test : Shrinks read_test
shrinks_test = shrinks_behind (shrinks_word open_bracket) (shrinks_before (shrinks_sequence shrinks_attribute (λ _. shrinks_behind (shrinks_word equals_sign) shrinks_value)) (shrinks_word close_bracket))

-- ---- steps
abbrev front_reader : Reader FaultKind (Option Name × Option ℕ)
front_reader = read_sequence read_node_name (λ _. read_optional position_follows read_position)

shrinks_front : Shrinks front_reader
shrinks_front = shrinks_sequence shrinks_node_name (λ _. shrinks_optional position_follows shrinks_position)

shrinks_optional_test : Shrinks (read_optional test_follows read_test)
shrinks_optional_test = shrinks_optional test_follows shrinks_test

-- ---- what was read before an answer
bind_ok : {A B : Type 0} (out : Result (A × List ℕ) (Stop FaultKind)) (f : A × List ℕ → Result (B × List ℕ) (Stop FaultKind)) (z : B × List ℕ) → out >>= f ≡ Ok z → (x : A × List ℕ) × (out ≡ Ok x) × (f x ≡ Ok z)
bind_ok (Ok x) f z h = (x, refl, h)
bind_ok (Err e) f z h = cc

ok_is : {A : Type 0} (x y : A × List ℕ) → (let p : Result (A × List ℕ) (Stop FaultKind) = Ok x in let q : Result (A × List ℕ) (Stop FaultKind) = Ok y in p ≡ q) → x ≡ y
ok_is x y h = cc

record Sequence {A B : Type 0} (p : Reader FaultKind A) (q : A → Reader FaultKind B) (text : List ℕ) (z : (A × B) × List ℕ) : Type 0 where
  first : A × List ℕ
  second : B × List ℕ
  first_is : p text ≡ Ok first
  second_is : q first.0 first.1 ≡ Ok second
  made : ((first.0, second.0), second.1) ≡ z

sequence_ok : {A B : Type 0} (p : Reader FaultKind A) (q : A → Reader FaultKind B) (text : List ℕ) (z : (A × B) × List ℕ) → read_sequence p q text ≡ Ok z → Sequence p q text z
sequence_ok {A} {B} p q text z h =
    let x = bind_ok (p text) (λ x. q x.0 x.1 >>= λ y. let w : (A × B) × List ℕ = ((x.0, y.0), y.1) in Ok w) z h in
    let y = bind_ok (q x.0.0 x.0.1) (λ y. let w : (A × B) × List ℕ = ((x.0.0, y.0), y.1) in Ok w) z x.2 in
    record { first = x.0; second = y.0; first_is = x.1; second_is = y.1; made = ok_is ((x.0.0, y.0.0), y.0.1) z y.2 }

valued_ok : {A B : Type 0} (f : A → B) (p : Reader FaultKind A) (text : List ℕ) (z : B × List ℕ) → read_mapped f p text ≡ Ok z → (x : A × List ℕ) × (p text ≡ Ok x) × ((f x.0, x.1) ≡ z)
valued_ok {A} {B} f p text z h =
    let x = bind_ok (p text) (λ x. let w : B × List ℕ = (f x.0, x.1) in Ok w) z h in
    (x.0, x.1, ok_is (f x.0.0, x.0.1) z x.2)

sized_ok : {A : Type 0} (p : Reader FaultKind A) (text : List ℕ) (z : (A × ℕ) × List ℕ) → read_with_length p text ≡ Ok z → (x : A × List ℕ) × (p text ≡ Ok x) × (((x.0, length text - length x.1), x.1) ≡ z)
sized_ok {A} p text z h =
    let x = bind_ok (p text) (λ x. let w : (A × ℕ) × List ℕ = ((x.0, length text - length x.1), x.1) in Ok w) z h in
    (x.0, x.1, ok_is ((x.0.0, length text - length x.0.1), x.0.1) z x.2)

-- ---- what is left after a step, and after its front, is a suffix of the text
pub front_ends : (text rest : List ℕ) (front : Option Name × Option ℕ) → front_reader text ≡ Ok (front, rest) → EndsWith text rest
front_ends text rest front h = ok_left shrinks_front text (front, rest) h

pub test_ends : (text rest : List ℕ) (test : Option (Name × List ℕ)) → read_optional test_follows read_test text ≡ Ok (test, rest) → EndsWith text rest
test_ends text rest test h = ok_left shrinks_optional_test text (test, rest) h

-- ---- a step and what is left fill the text, and its front is no wider than it
pub record Fills (text : List ℕ) (s : RawStep) (rest : List ℕ) : Type 0 where
  pub sizes : s.size + length rest ≡ length text
  pub front : s.front ≤ s.size

abbrev Whole : Type 0
Whole = (((Option Name × Option ℕ) × ℕ) × Option (Name × List ℕ)) × ℕ

pub step_fills : (text : List ℕ) (s : RawStep) (rest : List ℕ) → read_step text ≡ Ok (s, rest) → Fills text s rest
step_fills text s rest h =
    let whole = read_sequence (read_with_length front_reader) (λ _. read_optional test_follows read_test) in
    let v = valued_ok raw_step_of (read_with_length whole) text (s, rest) h in
    let z = sized_ok whole text v.0 v.1 in
    let q = sequence_ok (read_with_length front_reader) (λ _. read_optional test_follows read_test) text z.0 z.1 in
    let f = sized_ok front_reader text q.first q.first_is in
    let first = ok_small shrinks_front text f.0 f.1 in
    let second = ok_small shrinks_optional_test q.first.1 q.second q.second_is in
    let behind : length f.0.1 ≡ length q.first.1 = ap (λ (w : ((Option Name × Option ℕ) × ℕ) × List ℕ). length w.1) f.2 in
    let front : length text - length f.0.1 ≡ q.first.0.1 = ap (λ (w : ((Option Name × Option ℕ) × ℕ) × List ℕ). w.0.1) f.2 in
    let left : length q.second.1 ≡ length z.0.1 = ap (λ (w : (((Option Name × Option ℕ) × ℕ) × Option (Name × List ℕ)) × List ℕ). length w.1) q.made in
    let fronts : q.first.0.1 ≡ z.0.0.0.1 = ap (λ (w : (((Option Name × Option ℕ) × ℕ) × Option (Name × List ℕ)) × List ℕ). w.0.0.1) q.made in
    let size : length text - length z.0.1 ≡ v.0.0.1 = ap (λ (w : Whole × List ℕ). w.0.1) z.2 in
    let fronts' : z.0.0.0.1 ≡ v.0.0.0.0.1 = ap (λ (w : Whole × List ℕ). w.0.0.0.1) z.2 in
    let left' : length z.0.1 ≡ length v.0.1 = ap (λ (w : Whole × List ℕ). length w.1) z.2 in
    let size' : v.0.0.1 ≡ s.size = ap (λ (w : RawStep × List ℕ). w.0.size) v.2 in
    let fronts'' : v.0.0.0.0.1 ≡ s.front = ap (λ (w : RawStep × List ℕ). w.0.front) v.2 in
    let left'' : length v.0.1 ≡ length rest = ap (λ (w : RawStep × List ℕ). length w.1) v.2 in
    record { sizes = omega arith; front = omega arith }

-- after a slash
slash_ok : (b : Bool) (cs : List ℕ) (x : Unit {0} × List ℕ) (e : Stop FaultKind) → cond b (Ok (tt, cs)) (Err e) ≡ Ok x → x.1 ≡ cs
slash_ok true cs x e h = cc
slash_ok false cs x e h = cc

slash_width_is : (text : List ℕ) (x : Unit {0} × List ℕ) → read_word {Kind = FaultKind} slash text ≡ Ok x → length x.1 + 1 ≡ length text
slash_width_is [] x h = cc
slash_width_is (c ∷ cs) x h = let e = slash_ok (nat_eq 47 c) cs x (Syntax (c ∷ cs)) h in omega (arith, ap length e)

pub next_fills : (text : List ℕ) (s : RawStep) (rest : List ℕ) → read_next_step text ≡ Ok (s, rest) → (s.size + 1 + length rest ≡ length text) × (s.front ≤ s.size)
next_fills text s rest h =
    let v = valued_ok (λ (x : Unit {0} × RawStep). x.1) (read_sequence (read_word slash) (λ _. read_step)) text (s, rest) h in
    let q = sequence_ok (read_word slash) (λ _. read_step) text v.0 v.1 in
    let w = slash_width_is text q.first q.first_is in
    let f = step_fills q.first.1 q.second.0 q.second.1 q.second_is in
    let same : q.second.0 ≡ s = ap (λ (z : (Unit {0} × RawStep) × List ℕ). z.0.1) q.made ∙ ap (λ (z : RawStep × List ℕ). z.0) v.2 in
    let left : q.second.1 ≡ rest = ap (λ (z : (Unit {0} × RawStep) × List ℕ). z.1) q.made ∙ ap (λ (z : RawStep × List ℕ). z.1) v.2 in
    let size : q.second.0.size ≡ s.size = ap (λ (z : RawStep). z.size) same in
    let front : q.second.0.front ≡ s.front = ap (λ (z : RawStep). z.front) same in
    let lefts = ap length left in
    (omega (arith, f.sizes), omega (arith, f.front))

-- ---- repetitions
pub record AllFill (text : List ℕ) (ss : List RawStep) (rest : List ℕ) : Type 0 where
  pub sizes : steps_size ss + length rest ≡ length text
  pub whole : HaveFrontsWithin ss

none_fill : (text : List ℕ) (z : List RawStep × List ℕ) → (let w : List RawStep × List ℕ = ([], text) in w ≡ z) → AllFill text z.0 z.1
none_fill text z h = subst (λ (w : List RawStep × List ℕ). AllFill text w.0 w.1) h (record { sizes = omega arith; whole = tt })

at_most_fills : (test : List ℕ → Bool) (n : ℕ) (text : List ℕ) (z : List RawStep × List ℕ) → read_at_most test read_next_step n text ≡ Ok z → AllFill text z.0 z.1
at_most_fills test zero text z h = none_fill text z (ok_is ([], text) z h)
at_most_fills test (suc n) text z h = by (test text) h (at_most_fills test n)
  where
    by : (b : Bool) → cond b (read_next_step text >>= λ x. read_at_most test read_next_step n x.1 >>= λ y. let w : List RawStep × List ℕ = (x.0 ∷ y.0, y.1) in Ok w) (Ok ([], text)) ≡ Ok z
        → ((t : List ℕ) (y : List RawStep × List ℕ) → read_at_most test read_next_step n t ≡ Ok y → AllFill t y.0 y.1) → AllFill text z.0 z.1
    by false e rest = none_fill text z (ok_is ([], text) z e)
    by true e rest =
        let x = bind_ok (read_next_step text) (λ x. read_at_most test read_next_step n x.1 >>= λ y. let w : List RawStep × List ℕ = (x.0 ∷ y.0, y.1) in Ok w) z e in
        let y = bind_ok (read_at_most test read_next_step n x.0.1) (λ y. let w : List RawStep × List ℕ = (x.0.0 ∷ y.0, y.1) in Ok w) z x.2 in
        let f = next_fills text x.0.0 x.0.1 x.1 in
        let g = rest x.0.1 y.0 y.1 in
        subst (λ (w : List RawStep × List ℕ). AllFill text w.0 w.1) (ok_is (x.0.0 ∷ y.0.0, y.0.1) z y.2)
        (record { sizes = omega (arith, f.0, g.sizes); whole = (f.1, g.whole) })

-- all steps: a slash before each but the first
pub steps_fill : (test : List ℕ → Bool) (text : List ℕ) (z : List RawStep × List ℕ) → read_steps test text ≡ Ok z → (steps_size z.0 ≤ length text + 1) × HaveFrontsWithin z.0
steps_fill test text z h =
    let many = read_many test read_next_step in
    let v = valued_ok steps_from_parts (read_sequence read_step (λ _. many)) text z h in
    let q = sequence_ok read_step (λ _. many) text v.0 v.1 in
    let f = step_fills text q.first.0 q.first.1 q.first_is in
    let g = at_most_fills test (length (encode_utf8_all q.first.1)) q.first.1 q.second q.second_is in
    let P : List RawStep → Type 0 = λ ss. (steps_size ss ≤ length text + 1) × HaveFrontsWithin ss in
    let made : (q.first.0 ∷ q.second.0) ≡ z.0 = ap (λ (w : (RawStep × List RawStep) × List ℕ). steps_from_parts w.0) q.made ∙ ap (λ (w : List RawStep × List ℕ). w.0) v.2 in
    subst P made (omega (arith, f.sizes, g.sizes), (f.front, g.whole))

-- how wide all of them are, with a slash after each
pub steps_wide : (test : List ℕ → Bool) (text : List ℕ) (z : List RawStep × List ℕ) → read_steps test text ≡ Ok z → steps_size z.0 + length z.1 ≡ length text + 1
steps_wide test text z h =
    let many = read_many test read_next_step in
    let v = valued_ok steps_from_parts (read_sequence read_step (λ _. many)) text z h in
    let q = sequence_ok read_step (λ _. many) text v.0 v.1 in
    let f = step_fills text q.first.0 q.first.1 q.first_is in
    let g = at_most_fills test (length (encode_utf8_all q.first.1)) q.first.1 q.second q.second_is in
    let made : (q.first.0 ∷ q.second.0) ≡ z.0 = ap (λ (w : (RawStep × List RawStep) × List ℕ). steps_from_parts w.0) q.made ∙ ap (λ (w : List RawStep × List ℕ). w.0) v.2 in
    let left : length q.second.1 ≡ length z.1 = ap (λ (w : (RawStep × List RawStep) × List ℕ). length w.1) q.made ∙ ap (λ (w : List RawStep × List ℕ). length w.1) v.2 in
    let wide : steps_size (q.first.0 ∷ q.second.0) ≡ steps_size z.0 = ap steps_size made in
    omega (arith, f.sizes, g.sizes)

nothing_left : {A : Type 0} (x a : A) (left : List ℕ) → require_end {Kind = FaultKind} x left ≡ Ok a → x ≡ a
nothing_left x a [] h = cc
nothing_left x a (c ∷ cs) h = cc

whole_ok : {A : Type 0} (out : Result (A × List ℕ) (Stop FaultKind)) (a : A) → out >>= (λ x. require_end x.0 x.1) ≡ Ok a → (x : A × List ℕ) × (out ≡ Ok x) × (x.0 ≡ a)
whole_ok (Ok x) a h = (x, refl, nothing_left x.0 a x.1 h)
whole_ok (Err e) a h = cc

pub whole_read : {A : Type 0} (p : Reader FaultKind A) (text : List ℕ) (a : A) (rest : List ℕ) → p text ≡ Ok (a, rest) → nat_eq (length rest) 0 ≡ true → read_whole_text p text ≡ Ok a
whole_read {A} p text a [] h e = ap (λ (r : Result (A × List ℕ) (Stop FaultKind)). r >>= λ x. require_end x.0 x.1) h
whole_read {A} p text a (c ∷ cs) h e = absurd (omega (arith, eqb-true (length (c ∷ cs)) 0 e))

-- the places of all names of a selector fit in 64 bits
pub selector_room : (text : List ℕ) (raw : RawSelector) → length text < 2 ^ 63 → read_whole_text read_selector text ≡ Ok raw → HasPlacesInRange 0 raw.0
selector_room text raw lt h =
    let w = whole_ok (read_selector text) raw h in
    let q = sequence_ok (read_steps step_follows) (λ _. read_mapped raw_end_or_element (read_optional slash_follows (read_second (read_word slash) read_end))) text w.0 w.1 in
    let f = steps_fill step_follows text q.first q.first_is in
    let same : q.first.0 ≡ raw.0 = ap (λ (z : RawSelector × List ℕ). z.0.0) q.made ∙ ap (λ (z : RawSelector). z.0) w.2 in
    subst (λ (ss : List RawStep). HasPlacesInRange 0 ss) same (record { within = omega (arith, f.0); whole = f.1 })

slash_small : (out : Result (Option (Unit {0}) × List ℕ) (Stop FaultKind)) (x : ℕ × List ℕ) → out >>= (λ z. Ok (slash_width z.0, z.1)) ≡ Ok x → x.0 ≤ 1
slash_small (Ok z) x h = let e = ok_is (slash_width z.0, z.1) x h in let w = ap (λ (y : ℕ × List ℕ). y.0) e in let l = slash_le z.0 in omega arith
  where
    slash_le : (o : Option (Unit {0})) → slash_width o ≤ 1
    slash_le None = omega arith
    slash_le (Some _) = omega arith
slash_small (Err e) x h = cc

shrinks_slash : Shrinks (read_mapped slash_width (read_optional slash_follows (read_word slash)))
shrinks_slash = shrinks_valued slash_width (shrinks_optional slash_follows (shrinks_word slash))

pub patch_selector_room : (text : List ℕ) (raw : RawPatchSelector) → length text < 2 ^ 63 → read_whole_text read_patch_selector text ≡ Ok raw → HasPlacesInRange raw.0 raw.1.0
patch_selector_room text raw lt h =
    let w = whole_ok (read_patch_selector text) raw h in
    let behind = λ (_ : List RawStep). read_mapped raw_patch_end_or_element (read_optional slash_follows (read_second (read_word slash) read_patch_end)) in
    let q = sequence_ok (read_mapped slash_width (read_optional slash_follows (read_word slash))) (λ _. read_sequence (read_steps patch_step_follows) behind) text w.0 w.1 in
    let r = sequence_ok (read_steps patch_step_follows) behind q.first.1 q.second q.second_is in
    let f = steps_fill patch_step_follows q.first.1 r.first r.first_is in
    let s = ok_small shrinks_slash text q.first q.first_is in
    let one = slash_small (read_optional slash_follows (read_word slash) text) q.first q.first_is in
    let steps : r.first.0 ≡ raw.1.0 = ap (λ (z : (List RawStep × RawPatchEnd) × List ℕ). z.0.0) r.made ∙ ap (λ (z : RawPatchSelector × List ℕ). z.0.1.0) q.made ∙ ap (λ (z : RawPatchSelector). z.1.0) w.2 in
    let slashes : q.first.0 ≡ raw.0 = ap (λ (z : RawPatchSelector × List ℕ). z.0.0) q.made ∙ ap (λ (z : RawPatchSelector). z.0) w.2 in
    subst (λ (n : ℕ). HasPlacesInRange n raw.1.0) slashes (subst (λ (ss : List RawStep). HasPlacesInRange q.first.0 ss) steps (record { within = omega (arith, f.0); whole = f.1 }))
