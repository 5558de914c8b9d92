use Rattle.std.proofs.Common.{rules, ◌≡◌, ℕ, ◌-◌, List, [], ◌∷◌, ◌++◌, length, chars, encode_utf8_all, Result, Ok, Err, refl, sym, ap, subst, ◌∙◌, append_assoc, arith}
use Rattle.std.proofs.lemmas.Str.{encodes-chars}
use Rattle.xml_grammar.specs.TextReading.{Stop, ◌>>=◌, read_mapped}
use Rattle.xml_grammar.specs.readers.RuleReaders.{read_with_length}
use Rattle.xml_names.specs.declared.names.Name.{Name}
use Rattle.xml_tokens.specs.declared.fault_kind.FaultKind.{FaultKind}
use Rattle.std.proofs.lemmas.List.{append-nil}
use Rattle.std.proofs.lemmas.Result.{err_from_is_err_and}
use Rattle.tree_text.specs.declared.raw_attribute.RawAttribute.{RawAttribute}
use Rattle.xml_tokens.specs.readers.ReadResults.{IsSameStop}
use Rattle.tree_text.specs.readers.TagValues.{raw_attribute_of}
use Rattle.xml_tokens.specs.readers.Tokens.{read_required_spaces}
use Rattle.tree_text.specs.readers.Texts.{raw_attribute_follows, read_attribute, read_raw_attribute, read_raw_attributes}
use Rattle.xml_tokens.proofs.Loops.{finish, goes_on, ends, is_done, is_stopped, valued_ok, valued_fails}
use Rattle.tree_text.proofs.start_tags.fill_raw_attributes.Goals as goal
use Rattle.tree_text.proofs.start_tags.fill_raw_attributes.Goals.{else-loop-test, then-loop-test+in_default}

-- nothing comes before them
none_before : (r : Result (List RawAttribute × List ℕ) (Stop FaultKind)) → r ≡ finish (λ front all. front ++ all) [] r
none_before (Ok x) = refl
none_before (Err e) = refl

-- an attribute read after the white space at the front
abbrev read_on : List RawAttribute → Result (List ℕ × List ℕ) (Stop FaultKind) → Result (List RawAttribute × List ℕ) (Stop FaultKind)
read_on front r = ((r >>= λ x. read_with_length read_attribute x.1 >>= λ y. let z : (List ℕ × ((Name × List ℕ) × ℕ)) × List ℕ = ((x.0, y.0), y.1) in Ok z) >>= λ x. let z : RawAttribute × List ℕ = (raw_attribute_of x.0, x.1) in Ok z) >>= λ x. let z : List RawAttribute × List ℕ = (front ++ x.0 ∷ [], x.1) in Ok z

by_out : (front : List RawAttribute) (white : List ℕ) (out : Result (((Name × List ℕ) × ℕ) × List ℕ) (Stop FaultKind)) → ((out >>= λ y. let z : (List ℕ × ((Name × List ℕ) × ℕ)) × List ℕ = ((white, y.0), y.1) in Ok z) >>= λ x. let z : RawAttribute × List ℕ = (raw_attribute_of x.0, x.1) in Ok z) >>= (λ x. let z : List RawAttribute × List ℕ = (front ++ x.0 ∷ [], x.1) in Ok z) ≡ (out >>= λ x. let z : List RawAttribute × List ℕ = (front ++ raw_attribute_of (white, x.0) ∷ [], x.1) in Ok z)
by_out front white (Ok y) = refl
by_out front white (Err e) = refl

-- an attribute is read after the white space before it
behind_white : (front : List RawAttribute) (text white from : List ℕ) → read_required_spaces text ≡ Ok (white, from) → read_mapped (λ (one : RawAttribute). front ++ one ∷ []) read_raw_attribute text ≡ read_mapped (λ x. front ++ raw_attribute_of (white, x) ∷ []) (read_with_length read_attribute) from
behind_white front text white from h = ap (read_on front) h ∙ by_out front white (read_with_length read_attribute from)

pub returns-in_err-rest : goal.returns-in_err-rest
returns-in_err-rest c = record {
  reads_rule =
      let p = err_from_is_err_and c.from_residual.result c.from_residual.ensures.1 in
      let stop = c.in_err-rest.field-0.0 in
      let front = c.loop.all.items in
      let text = chars c.loop.rest.now in
      let add = λ (one : RawAttribute). front ++ one ∷ [] in
      let white = behind_white front text (chars c.in-Some.white.now) (chars c.in-Some.from.now) c.in-Some.ensures.reads_space in
      let fails = subst (λ (r : Result (List RawAttribute × List ℕ) (Stop FaultKind)). IsSameStop stop r) (sym white) c.in_err-rest.ensures.reads_rule in
      rw (p.1, p.2) (ends raw_attribute_follows read_raw_attribute (λ front all. front ++ all) stop front _ c.loop.counter text (read_raw_attributes (chars c.args.text.now)) c.loop-test.true (sym c.in-Some.ensures.some_iff_attribute)
      (valued_fails add read_raw_attribute text stop fails) c.loop.invariant.left);
}

one_more : (front more xs : List RawAttribute) (one : RawAttribute) → front ++ one ∷ [] ≡ more → front ++ one ∷ xs ≡ more ++ xs
one_more front more xs one h = sym (append_assoc front (one ∷ []) xs) ∙ ap (λ (z : List RawAttribute). z ++ xs) h

pub loop-init : goal.loop-init
loop-init c =
    let text = c.args.text.now in
    let all : length text - 0 ≡ length (encode_utf8_all (chars text)) = omega (arith, ap length (encodes-chars text c.utf8.text)) in
    record { utf8 = c.utf8.text; left = rw (c.requires, all) (none_before (read_raw_attributes (chars text))) }

pub loop-preserved : goal.loop-preserved
loop-preserved c =
    let front = c.loop.all.items in
    let more = c.push_raw_attribute.new.all.items in
    let text = chars c.loop.rest.now in
    let after = chars c.in_ok-rest.rest.now in
    let add = λ (one : RawAttribute). front ++ one ∷ [] in
    let white = behind_white front text (chars c.in-Some.white.now) (chars c.in-Some.from.now) c.in-Some.ensures.reads_space in
    let v = valued_ok add (read_raw_attribute text) more after (white ∙ c.in_ok-rest.ensures.reads_rule) in
    record {
      utf8 = search rules;
      left = goes_on raw_attribute_follows read_raw_attribute (λ front all. front ++ all) front more _ c.loop.counter text after v.value (read_raw_attributes (chars c.args.text.now)) c.loop-test.true (sym c.in-Some.ensures.some_iff_attribute) v.read
          (λ xs. one_more front more xs v.value v.made) c.loop.invariant.left;
    }

none_more : (front : List RawAttribute) → front ++ [] ≡ front
none_more front = append-nil front

pub returns : goal.returns
returns c = record {
  reads_rule = elim c.loop-test.branch [
    | else-loop-test w ↦ rw (none_more c.loop.all.items) at (is_done raw_attribute_follows read_raw_attribute (λ front all. front ++ all) c.loop.all.items _ c.loop.counter (chars c.loop.rest.now) (read_raw_attributes (chars c.args.text.now)) w.loop-test.false c.loop.invariant.left)
    | then-loop-test+in_default w ↦ rw (none_more c.loop.all.items) at (is_stopped raw_attribute_follows read_raw_attribute (λ front all. front ++ all) c.loop.all.items _ c.loop.counter (chars c.loop.rest.now) (read_raw_attributes (chars c.args.text.now)) (sym w.in_default.ensures.some_iff_attribute) c.loop.invariant.left)
  ];
}
