-- The text of a path, alone or with an attribute after it, is read as the steps of that path.
use Rattle.std.proofs.Common.{◌≡◌, ℕ, suc, ◌+◌, ◌-◌, ◌*◌, ◌<◌, ◌≤◌, Bool, true, false, cond, List, [], ◌∷◌, ◌++◌, map, length, Some, None, Ok, refl, sym, ap, ◌∙◌, subst, append_assoc, append-nil, length-append, arith, le-leb, eqb-true}
use Rattle.std.specs.Prelude.{nat_eq, nat_le}
use Rattle.std.specs.Fmt.{decimal}
use Rattle.std.specs.Int.Digits.{digits_of, number_from_digits_after, AllBelowBase}
use Rattle.std.proofs.lemmas.Int.Digits.{all_below_base_digits_of, number_digits_of}
use Rattle.std.proofs.lemmas.Fmt.{decimal-digits_of, decimal_nonempty}
use Rattle.std.specs.Char.{is_ascii_digit as is_digit}
use Rattle.xml_grammar.specs.Digits as digits
use Rattle.xml_grammar.specs.Rules.{AllPass, number_of_digits}
use Rattle.xml_grammar.specs.TextReading.{Reader, first_char_is, read_word, read_sequence, read_mapped, read_one_or_more}
use Rattle.xml_grammar.specs.readers.RuleReaders.{read_empty, read_many, read_filtered, read_optional, read_second, read_whole_text}
use Rattle.xml_names.specs.Markup.{print_name}
use Rattle.xml_names.specs.declared.names.Name.{Name}
use Rattle.xml_tokens.specs.declared.fault_kind.FaultKind.{FaultKind}
use Rattle.xml_tokens.specs.readers.Tokens.{read_qname}
use Rattle.xml_tokens.proofs.ReadFronts.{Reads, AllRead, reads_before, reads_behind, reads_left, reads_many, reads_name_of, reads_right, reads_sequence, reads_sized, reads_valued, reads_word}
use Rattle.tree_text.proofs.PrintedNames.{IsWritten, reads_qname}
use Rattle.node_select.specs.Grammar.{is_attribute_name, position_of}
use Rattle.node_select.specs.declared.steps.TheConstants.{MAX_POSITION}
use Rattle.node_select.specs.readers.SelectorValues.{steps_from_parts}
use Rattle.node_select.specs.readers.Literals.{at_sign, close_bracket, open_bracket, slash, star}
use Rattle.node_select.specs.readers.RawSelectors.{RawStep, RawPatchEnd, PatchAttribute, PatchElement, raw_patch_end_or_element, raw_step_of, slash_width}
use Rattle.node_select.specs.readers.Selectors.{attribute_follows, patch_step_follows, position_follows, read_attribute, read_next_step, read_node_name, read_patch_end, read_patch_selector, read_position, read_step, read_steps, read_test, slash_follows, star_follows, test_follows}
use Rattle.xml_tree.specs.PathTexts.{path_text, steps_text}
use Rattle.edit_ops.specs.DiffOperations.{attr_path_text}
use Rattle.patch_laws.specs.Premises.{AreReadablePositions, IsReadablePosition}

-- ---- positions

digit : (d : ℕ) → d < 10 → is_digit (48 + d) ≡ true
digit d h = grind arith

digits_pass : (ds : List ℕ) → AllBelowBase 10 ds → AllPass is_digit (map (λ d. 48 + d) ds)
digits_pass [] h = tt
digits_pass (d ∷ ds) h = (digit d h.0, digits_pass ds h.1)

digits_worth : (ds : List ℕ) (n : ℕ) → number_of_digits digits.decimal_digits n (map (λ d. 48 + d) ds) ≡ number_from_digits_after 10 n ds
digits_worth [] n = refl
digits_worth (d ∷ ds) n =
    let back : 48 + d - 48 ≡ d = omega arith in
    ap (λ x. number_of_digits digits.decimal_digits (n * 10 + x) (map (λ k. 48 + k) ds)) back ∙ digits_worth ds (n * 10 + d)

written : (n : ℕ) → IsReadablePosition n → decimal (suc n) ≡ map (λ d. 48 + d) (digits_of 10 (suc n))
written n h = decimal-digits_of (suc n) (omega arith) (omega arith)

pass : (n : ℕ) → IsReadablePosition n → AllPass is_digit (decimal (suc n))
pass n h = subst (AllPass is_digit) (sym (written n h)) (digits_pass (digits_of 10 (suc n)) (all_below_base_digits_of 10 (suc n) (omega arith)))

worth : (n : ℕ) → IsReadablePosition n → number_of_digits digits.decimal_digits 0 (decimal (suc n)) ≡ suc n
worth n h = ap (number_of_digits digits.decimal_digits 0) (written n h) ∙ digits_worth (digits_of 10 (suc n)) 0 ∙ number_digits_of 10 (suc n) (omega arith)

within : (v m : ℕ) → v ≡ m → m ≤ MAX_POSITION → cond (nat_le v MAX_POSITION) v 0 ≡ m
within v m e h = rw e (rw (le-leb m MAX_POSITION h) refl)

position : (n : ℕ) → IsReadablePosition n → position_of (decimal (suc n)) ≡ suc n
position n h = within (number_of_digits digits.decimal_digits 0 (decimal (suc n))) (suc n) (worth n h) (omega arith)

some_read : (ds rest : List ℕ) → 0 < length ds → AllPass is_digit ds → first_char_is is_digit rest ≡ false → Reads (read_one_or_more is_digit) (ds ++ rest) ds rest
some_read [] rest h p e = absurd (omega arith)
some_read (d ∷ ds) rest h p e = reads_name_of is_digit is_digit d ds rest p.0 p.1 e

pub reads_position : (n : ℕ) (rest : List ℕ) → IsReadablePosition n → Reads read_position (91 ∷ (decimal (suc n) ++ 93 ∷ rest)) (suc n) rest
reads_position n rest h =
    let number = some_read (decimal (suc n)) (93 ∷ rest) (decimal_nonempty (suc n) (omega arith)) (pass n h) refl in
    let value : Reads (read_mapped position_of (read_one_or_more is_digit)) (decimal (suc n) ++ 93 ∷ rest) (suc n) (93 ∷ rest) =
    subst (λ v. Reads (read_mapped position_of (read_one_or_more is_digit)) (decimal (suc n) ++ 93 ∷ rest) v (93 ∷ rest)) (position n h) (reads_valued position_of number) in
    reads_behind (reads_word open_bracket (decimal (suc n) ++ 93 ∷ rest)) (reads_before value (reads_word close_bracket rest))

-- ---- steps

-- `*[n]`, and how it is read
abbrev pub step_text : ℕ → List ℕ
step_text n = 42 ∷ 91 ∷ (decimal (suc n) ++ 93 ∷ [])

abbrev pub first_step : RawStep
first_step = record { name = None; position = None; front = 1; test = None; size = 1 }

abbrev pub next_step : ℕ → RawStep
next_step n = record { name = None; position = Some (suc n); front = length (step_text n); test = None; size = length (step_text n) }

-- the text begins with neither a position nor a test
abbrev pub EndsStep : List ℕ → Type 0
EndsStep rest = test_follows rest ≡ false

reads_star : (rest : List ℕ) → Reads read_node_name (42 ∷ rest) None rest
reads_star rest = reads_left star_follows (read_mapped Some read_qname) refl (reads_valued (λ _. None) (reads_word star rest))

no_position : (rest : List ℕ) → EndsStep rest → position_follows rest ≡ false
no_position rest h = rw h refl

reads_first : (rest : List ℕ) → EndsStep rest → Reads read_step (42 ∷ rest) first_step rest
reads_first rest h =
    let front = reads_sequence (λ _. read_optional position_follows read_position) (reads_star rest) (reads_right position_follows (read_mapped Some read_position) (no_position rest h) (record { read = refl })) in
    let sized = reads_sized (42 ∷ []) front in
    let whole = reads_sequence (λ _. read_optional test_follows read_test) sized (reads_right test_follows (read_mapped Some read_test) h (record { read = refl })) in
    reads_valued raw_step_of (reads_sized (42 ∷ []) whole)

step_is : (n : ℕ) (rest : List ℕ) → step_text n ++ rest ≡ 42 ∷ 91 ∷ (decimal (suc n) ++ 93 ∷ rest)
step_is n rest = ap (λ (l : List ℕ). 42 ∷ 91 ∷ l) (append_assoc (decimal (suc n)) (93 ∷ []) rest)

-- a digit comes first, not `@`, so that what follows `[` is no test
digit_first : (ds rest : List ℕ) → 0 < length ds → AllPass is_digit ds → position_follows (91 ∷ (ds ++ rest)) ≡ true
digit_first [] rest h p = absurd (omega arith)
digit_first (d ∷ ds) rest h p = by (nat_eq 64 d) refl
  where
    by : (b : Bool) → nat_eq 64 d ≡ b → position_follows (91 ∷ ((d ∷ ds) ++ rest)) ≡ true
    by false e = rw e refl
    by true e = absurd (let z : is_digit 64 ≡ true = subst (λ x. is_digit x ≡ true) (sym (eqb-true 64 d e)) p.0 in cc)

reads_step_text : (n : ℕ) (rest : List ℕ) → IsReadablePosition n → EndsStep rest → Reads read_step (step_text n ++ rest) (next_step n) rest
reads_step_text n rest small h =
    let follows : position_follows (91 ∷ (decimal (suc n) ++ 93 ∷ rest)) ≡ true = digit_first (decimal (suc n)) (93 ∷ rest) (decimal_nonempty (suc n) (omega arith)) (pass n small) in
    let place = reads_left position_follows (read_empty None) follows (reads_valued Some (reads_position n rest small)) in
    let front = reads_sequence (λ _. read_optional position_follows read_position) (reads_star (91 ∷ (decimal (suc n) ++ 93 ∷ rest))) place in
    let front' = subst (λ (z : List ℕ). Reads (read_sequence read_node_name (λ _. read_optional position_follows read_position)) z (None, Some (suc n)) rest) (sym (step_is n rest)) front in
    let sized = reads_sized (step_text n) front' in
    let whole = reads_sequence (λ _. read_optional test_follows read_test) sized (reads_right test_follows (read_mapped Some read_test) h (record { read = refl })) in
    reads_valued raw_step_of (reads_sized (step_text n) whole)

-- ---- paths

abbrev pub raw_steps : List ℕ → List RawStep
raw_steps p = first_step ∷ map next_step p

-- the text after the steps begins no step
abbrev pub EndsSteps : List ℕ → Type 0
EndsSteps tail = EndsStep tail × (patch_step_follows tail ≡ false)

more_is : (n : ℕ) (p tail : List ℕ) → steps_text (n ∷ p) ++ tail ≡ 47 ∷ (step_text n ++ (steps_text p ++ tail))
more_is n p tail =
    ap (λ (l : List ℕ). 47 ∷ 42 ∷ 91 ∷ l)
    (append_assoc (decimal (suc n)) (93 ∷ steps_text p) tail ∙ sym (append_assoc (decimal (suc n)) (93 ∷ []) (steps_text p ++ tail)))

ends_step : (p tail : List ℕ) → EndsStep tail → EndsStep (steps_text p ++ tail)
ends_step [] tail h = h
ends_step (n ∷ p) tail h = refl

more_read : (p tail : List ℕ) → AreReadablePositions p → EndsSteps tail → AllRead patch_step_follows read_next_step (map next_step p) (steps_text p ++ tail) tail
more_read [] tail h e = (refl, e.1)
more_read (n ∷ p) tail h e =
    let next = steps_text p ++ tail in
    let one : Reads read_next_step (47 ∷ (step_text n ++ next)) (next_step n) next = reads_behind (reads_word slash (step_text n ++ next)) (reads_step_text n next h.0 (ends_step p tail e.0)) in
    let shorter : length next < length (47 ∷ (step_text n ++ next)) = omega (arith, length-append (step_text n) next) in
    let rest : (z : List ℕ) × (patch_step_follows (47 ∷ (step_text n ++ next)) ≡ true) × Reads read_next_step (47 ∷ (step_text n ++ next)) (next_step n) z × (length z < length (47 ∷ (step_text n ++ next)))
    × AllRead patch_step_follows read_next_step (map next_step p) z tail = (next, refl, one, shorter, more_read p tail h.1 e) in
    subst (λ (z : List ℕ). AllRead patch_step_follows read_next_step (map next_step (n ∷ p)) z tail) (sym (more_is n p tail)) rest

path_read : (p tail : List ℕ) → AreReadablePositions p → EndsSteps tail → Reads (read_steps patch_step_follows) (path_text p ++ tail) (raw_steps p) tail
path_read p tail h e =
    reads_valued (steps_from_parts {A = RawStep})
    (reads_sequence (λ _. read_many patch_step_follows read_next_step) (reads_first (steps_text p ++ tail) (ends_step p tail e.0))
    (reads_many patch_step_follows read_next_step (map next_step p) (steps_text p ++ tail) tail (more_read p tail h e)))

-- ---- whole selectors

whole_read : {A : Type 0} {p : Reader FaultKind A} {text : List ℕ} {a : A} → Reads p text a [] → read_whole_text p text ≡ Ok a
whole_read h = rw h.read refl

from_steps : (p tail : List ℕ) (end : RawPatchEnd) → AreReadablePositions p → EndsSteps tail
    → Reads (read_mapped raw_patch_end_or_element (read_optional slash_follows (read_second (read_word slash) read_patch_end))) tail end [] → read_whole_text read_patch_selector (path_text p ++ tail) ≡ Ok (0, (raw_steps p, end))
from_steps p tail end h e k =
    let none : Reads (read_mapped slash_width (read_optional slash_follows (read_word slash))) (path_text p ++ tail) 0 (path_text p ++ tail) = record { read = refl } in
    let steps = reads_sequence (λ _. read_mapped raw_patch_end_or_element (read_optional slash_follows (read_second (read_word slash) read_patch_end))) (path_read p tail h e) k in
    whole_read (reads_sequence (λ _. read_sequence (read_steps patch_step_follows) (λ _. read_mapped raw_patch_end_or_element (read_optional slash_follows (read_second (read_word slash) read_patch_end)))) none steps)

pub path_selector : (p : List ℕ) → AreReadablePositions p → read_whole_text read_patch_selector (path_text p) ≡ Ok (0, (raw_steps p, PatchElement))
path_selector p h =
    subst (λ (z : List ℕ). read_whole_text read_patch_selector z ≡ Ok (0, (raw_steps p, PatchElement))) (append-nil (path_text p)) (from_steps p [] PatchElement h (refl, refl) (record { read = refl }))

reads_only : {A : Type 0} {p : Reader FaultKind A} {text rest : List ℕ} {a : A} (test : A → Bool) → test a ≡ true → Reads p text a rest → Reads (read_filtered test p) text a rest
reads_only test t h = record { read = rw h.read (rw t refl) }

reads_named : (n : Name) → IsWritten n → is_attribute_name n ≡ true → Reads read_attribute (64 ∷ (print_name n ++ [])) n []
reads_named n w a = reads_behind (reads_word at_sign (print_name n ++ [])) (reads_only is_attribute_name a (reads_qname n [] w (refl, refl)))

pub attr_selector : (p : List ℕ) (n : Name) → AreReadablePositions p → IsWritten n → is_attribute_name n ≡ true
    → read_whole_text read_patch_selector (attr_path_text p n) ≡ Ok (0, (raw_steps p, PatchAttribute n))
attr_selector p n h w a =
    let name = subst (λ (z : List ℕ). Reads read_attribute (64 ∷ z) n []) (append-nil (print_name n)) (reads_named n w a) in
    let end : Reads read_patch_end (64 ∷ print_name n) (PatchAttribute n) [] = reads_left attribute_follows _ refl (reads_valued PatchAttribute name) in
    let behind = reads_behind (reads_word slash (64 ∷ print_name n)) end in
    from_steps p (47 ∷ 64 ∷ print_name n) (PatchAttribute n) h (refl, refl)
    (reads_valued raw_patch_end_or_element (reads_left slash_follows (read_empty None) refl (reads_valued Some behind)))
