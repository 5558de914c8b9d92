-- What bytes spell and the result of reading them: the result is what they are read as, and all
-- that they are read as is one tree or value, or a fault of one kind.
use Rattle.std.proofs.Common.{◌≡◌, ℕ, suc, ◌+◌, ◌<◌, Bool, true, false, List, ◌⊎◌, inl, inr, Result, Ok, Err, refl, sym, ap, subst, ◌∙◌, arith}
use Rattle.std.specs.Prelude.{IsUtf8}
use Rattle.std.specs.Str.{is_utf8, chars}
use Rattle.std.proofs.lemmas.Str.{IsUtf8-from_is_utf8, is_utf8-from_IsUtf8}
use Rattle.xml_grammar.specs.ParseResults.{IsParseResult, IsFirstFault}
use Rattle.xml_grammar.specs.TextReading.{Stop, Syntax, Faulty}
use Rattle.xml_tree.specs.Tree.{Tree}
use Rattle.xml_names.specs.declared.names.Decl.{Decl}
use Rattle.xml_tokens.specs.declared.fault_kind.FaultKind.{FaultKind}
use Rattle.xml_tokens.specs.declared.fault_kind.FaultKind.TheVariants.{Encoded, Doctyped, Depth, Unbound, Repeated}
use Rattle.tree_text.specs.declared.fault.TextFault.{TextFault}
use Rattle.tree_text.specs.declared.fault.TextFault.TheVariants as texts
use Rattle.tree_text.specs.declared.fault.ValueFault.{ValueFault}
use Rattle.tree_text.specs.declared.fault.ValueFault.TheVariants as values
use Rattle.tree_text.specs.FaultKinds.{fault_ranking}
use Rattle.tree_text.specs.Faults.{IsBodyResult, IsTextResult, body_result, unquoted_body, text_result}
use Rattle.tree_text.specs.Grammar.{document, unquoted_value}
use Rattle.tree_text.specs.Spellings.{IsNotUtf8, ReadsTree, ReadsValue, SpellsTree, SpellsValue}
use Rattle.tree_text.proofs.OneAnswer.{one_body, one_text}

-- ---- documents and fragments

module _ (limit : ℕ) (scope : List (List Decl)) (bytes : List ℕ) where
  abbrev Read : Type 0
  Read = Result Tree TextFault

  abbrev Grammar : Result Tree (Stop FaultKind) → Type 0
  Grammar stated = (n : ℕ) → limit + 1 < n → IsParseResult (fault_ranking limit) (document n scope) (chars bytes) stated

  -- what is spelled is the result
  pub spelled_answer : (tree : Tree) → SpellsTree limit scope bytes tree → IsTextResult limit scope bytes (Ok tree)
  spelled_answer tree is = inl (is.utf8, record { stated = Ok tree; by_grammar = is.spelled; is_told = refl })

  declared : (b : Bool) → is_utf8 bytes ≡ b → (left : List ℕ) → ((n : ℕ) → limit + 1 < n → IsFirstFault (fault_ranking limit) (document n scope) (chars bytes) Encoded left) → IsTextResult limit scope bytes (Err texts.NotUtf8)
  declared true e left first = inl (IsUtf8-from_is_utf8 bytes e, record { stated = Err (Faulty Encoded left); by_grammar = first; is_told = refl })
  declared false e left first = inr (λ u. (let t = is_utf8-from_IsUtf8 bytes u in absurd cc), refl)

  pub not_utf8_answer : IsNotUtf8 limit scope bytes → IsTextResult limit scope bytes (Err texts.NotUtf8)
  not_utf8_answer (inl none) = inr (none, refl)
  not_utf8_answer (inr (left, first)) = declared (is_utf8 bytes) refl left first

  -- and the other way round
  tree_by : (tree : Tree) (utf8 : IsUtf8 bytes) (stated : Result Tree (Stop FaultKind)) → Grammar stated → ◌≡◌ {A = Read} (Ok tree) (text_result bytes stated) → SpellsTree limit scope bytes tree
  tree_by tree utf8 (Ok t) is e = let same : t ≡ tree = cc in subst (SpellsTree limit scope bytes) same (record { utf8 = utf8; spelled = is })
  tree_by tree utf8 (Err stop) is e = let never : ⊥ = cc in absurd never

  encoded_by : (stated : Result Tree (Stop FaultKind)) → Grammar stated → ◌≡◌ {A = Read} (Err texts.NotUtf8) (text_result bytes stated) → IsNotUtf8 limit scope bytes
  encoded_by (Ok t) is e = let never : ⊥ = cc in absurd never
  encoded_by (Err (Syntax left)) is e = let never : ⊥ = cc in absurd never
  encoded_by (Err (Faulty Encoded left)) is e = inr (left, is)
  encoded_by (Err (Faulty Doctyped left)) is e = let never : ⊥ = cc in absurd never
  encoded_by (Err (Faulty (Depth depth) left)) is e = let never : ⊥ = cc in absurd never
  encoded_by (Err (Faulty Unbound left)) is e = let never : ⊥ = cc in absurd never
  encoded_by (Err (Faulty Repeated left)) is e = let never : ⊥ = cc in absurd never

  other_fault : (fault : TextFault) → (fault ≡ texts.NotUtf8 → ⊥) → IsTextResult limit scope bytes (Err fault) → ((tree : Tree) → SpellsTree limit scope bytes tree → ⊥) × (IsNotUtf8 limit scope bytes → ⊥)
  other_fault fault other answer = (
    λ tree is. (let same = one_text limit scope bytes (Ok tree) (Err fault) (spelled_answer tree is) answer in absurd cc),
    λ is. (let same = one_text limit scope bytes (Err fault) (Err texts.NotUtf8) answer (not_utf8_answer is) in other cc),
  )

  pub reads_tree : (read : Read) → IsTextResult limit scope bytes read → ReadsTree limit scope bytes read
  reads_tree (Ok tree) (inl (utf8, is)) = tree_by tree utf8 is.stated is.by_grammar is.is_told
  reads_tree (Ok tree) (inr (none, e)) = let never : ⊥ = cc in absurd never
  reads_tree (Err texts.NotUtf8) (inl (utf8, is)) = encoded_by is.stated is.by_grammar is.is_told
  reads_tree (Err texts.NotUtf8) (inr (none, e)) = inl none
  reads_tree (Err (texts.NotWellFormed place)) answer = other_fault (texts.NotWellFormed place) (λ e. (let never : ⊥ = cc in never)) answer
  reads_tree (Err (texts.Doctype place)) answer = other_fault (texts.Doctype place) (λ e. (let never : ⊥ = cc in never)) answer
  reads_tree (Err (texts.TooDeep place)) answer = other_fault (texts.TooDeep place) (λ e. (let never : ⊥ = cc in never)) answer
  reads_tree (Err (texts.Namespace place)) answer = other_fault (texts.Namespace place) (λ e. (let never : ⊥ = cc in never)) answer
  reads_tree (Err (texts.RepeatedAttribute place)) answer = other_fault (texts.RepeatedAttribute place) (λ e. (let never : ⊥ = cc in never)) answer

  no_tree : {X : Type 0} (fault : TextFault) (tree : Tree) → ReadsTree limit scope bytes (Err fault) → IsTextResult limit scope bytes (Ok tree) → X
  no_tree texts.NotUtf8 tree reads answer = let same = one_text limit scope bytes (Ok tree) (Err texts.NotUtf8) answer (not_utf8_answer reads) in absurd cc
  no_tree (texts.NotWellFormed place) tree reads answer = absurd (reads.0 tree (reads_tree (Ok tree) answer))
  no_tree (texts.Doctype place) tree reads answer = absurd (reads.0 tree (reads_tree (Ok tree) answer))
  no_tree (texts.TooDeep place) tree reads answer = absurd (reads.0 tree (reads_tree (Ok tree) answer))
  no_tree (texts.Namespace place) tree reads answer = absurd (reads.0 tree (reads_tree (Ok tree) answer))
  no_tree (texts.RepeatedAttribute place) tree reads answer = absurd (reads.0 tree (reads_tree (Ok tree) answer))

  -- where the result is a tree, it is what the bytes are read as
  pub reads_one_tree : (read : Read) (tree : Tree) → ReadsTree limit scope bytes read → IsTextResult limit scope bytes (Ok tree) → read ≡ Ok tree
  reads_one_tree (Ok t) tree reads answer = one_text limit scope bytes (Ok t) (Ok tree) (spelled_answer t reads) answer
  reads_one_tree (Err fault) tree reads answer = no_tree fault tree reads answer

  -- What is told of a fault: of each one but `NotUtf8` the same.
  module _ {C : Type 0} (told : TextFault → C) (other : C) (elsewhere : (fault : TextFault) → (fault ≡ texts.NotUtf8 → ⊥) → told fault ≡ other) where
    abbrev pub tells : Read → Result Tree C
    tells (Ok tree) = Ok tree
    tells (Err fault) = Err (told fault)

    abbrev Told : Type 0
    Told = Result Tree C

    is_other : (fault : TextFault) → (fault ≡ texts.NotUtf8) ⊎ (fault ≡ texts.NotUtf8 → ⊥)
    is_other texts.NotUtf8 = inl refl
    is_other (texts.NotWellFormed place) = inr (λ e. (let never : ⊥ = cc in never))
    is_other (texts.Doctype place) = inr (λ e. (let never : ⊥ = cc in never))
    is_other (texts.TooDeep place) = inr (λ e. (let never : ⊥ = cc in never))
    is_other (texts.Namespace place) = inr (λ e. (let never : ⊥ = cc in never))
    is_other (texts.RepeatedAttribute place) = inr (λ e. (let never : ⊥ = cc in never))

    -- a fault that is read, and the fault that is the result
    fault_alike : (fault result : TextFault) → (fault ≡ texts.NotUtf8) ⊎ (fault ≡ texts.NotUtf8 → ⊥) → (result ≡ texts.NotUtf8) ⊎ (result ≡ texts.NotUtf8 → ⊥) → ReadsTree limit scope bytes (Err fault) → IsTextResult limit scope bytes (Err result) → told fault ≡ told result
    fault_alike fault result (inl f) (inl r) reads answer = ap told (f ∙ sym r)
    fault_alike fault result (inr f) (inr r) reads answer = elsewhere fault f ∙ sym (elsewhere result r)
    fault_alike fault result (inl f) (inr r) reads answer = absurd ((other_fault result r answer).1 (subst (λ (x : TextFault). ReadsTree limit scope bytes (Err x)) f reads))
    fault_alike fault result (inr f) (inl r) reads answer = absurd (refuted fault f reads (reads_tree (Err texts.NotUtf8) (subst (λ (x : TextFault). IsTextResult limit scope bytes (Err x)) r answer)))
      where
        refuted : (fault : TextFault) → (fault ≡ texts.NotUtf8 → ⊥) → ReadsTree limit scope bytes (Err fault) → IsNotUtf8 limit scope bytes → ⊥
        refuted texts.NotUtf8 f reads not = f refl
        refuted (texts.NotWellFormed place) f reads not = reads.1 not
        refuted (texts.Doctype place) f reads not = reads.1 not
        refuted (texts.TooDeep place) f reads not = reads.1 not
        refuted (texts.Namespace place) f reads not = reads.1 not
        refuted (texts.RepeatedAttribute place) f reads not = reads.1 not

    -- all that bytes are read as tells what the result tells
    pub one_tree_read : (read result : Read) → ReadsTree limit scope bytes read → IsTextResult limit scope bytes result → tells read ≡ tells result
    one_tree_read (Ok tree) result reads answer = ap tells (one_text limit scope bytes (Ok tree) result (spelled_answer tree reads) answer)
    one_tree_read (Err fault) (Ok tree) reads answer = no_tree fault tree reads answer
    one_tree_read (Err fault) (Err result) reads answer = ap (λ (x : C). let r : Told = Err x in r) (fault_alike fault result (is_other fault) (is_other result) reads answer)

-- ---- bodies that spell a value

module _ (bytes : List ℕ) where
  abbrev Body : Type 0
  Body = Result (List ℕ) ValueFault

  pub spelled_body : (value : List ℕ) → SpellsValue bytes value → IsBodyResult bytes (Ok value)
  spelled_body value is = inl (is.utf8, record { stated = Ok value; by_grammar = is.spelled; is_told = refl })

  value_by : (value : List ℕ) (utf8 : IsUtf8 bytes) (stated : Result (List ℕ) (Stop FaultKind)) → IsParseResult (fault_ranking 0) unquoted_value (unquoted_body (chars bytes)) stated → ◌≡◌ {A = Body} (Ok value) (body_result (chars bytes) bytes stated) → SpellsValue bytes value
  value_by value utf8 (Ok v) is e = let same : v ≡ value = cc in subst (SpellsValue bytes) same (record { utf8 = utf8; spelled = is })
  value_by value utf8 (Err (Syntax left)) is e = let never : ⊥ = cc in absurd never
  value_by value utf8 (Err (Faulty kind left)) is e = let never : ⊥ = cc in absurd never

  utf8_by : {X : Type 0} (stated : Result (List ℕ) (Stop FaultKind)) → ◌≡◌ {A = Body} (Err values.NotUtf8) (body_result (chars bytes) bytes stated) → X
  utf8_by (Ok v) e = let never : ⊥ = cc in absurd never
  utf8_by (Err (Syntax left)) e = let never : ⊥ = cc in absurd never
  utf8_by (Err (Faulty kind left)) e = let never : ⊥ = cc in absurd never

  pub reads_value : (read : Body) → IsBodyResult bytes read → ReadsValue bytes read
  reads_value (Ok value) (inl (utf8, is)) = value_by value utf8 is.stated is.by_grammar is.is_told
  reads_value (Ok value) (inr (none, e)) = let never : ⊥ = cc in absurd never
  reads_value (Err values.NotUtf8) (inl (utf8, is)) = utf8_by is.stated is.is_told
  reads_value (Err values.NotUtf8) (inr (none, e)) = none
  reads_value (Err (values.NotValue place)) (inl (utf8, is)) =
      (utf8, λ value spells. (let same = one_body bytes (Ok value) (Err (values.NotValue place)) (spelled_body value spells) (inl (utf8, is)) in absurd cc))
  reads_value (Err (values.NotValue place)) (inr (none, e)) = let never : ⊥ = cc in absurd never

  -- where the result is a value, it is what the body is read as
  pub reads_one_value : (read : Body) (value : List ℕ) → ReadsValue bytes read → IsBodyResult bytes (Ok value) → read ≡ Ok value
  reads_one_value (Ok v) value reads answer = one_body bytes (Ok v) (Ok value) (spelled_body v reads) answer
  reads_one_value (Err values.NotUtf8) value reads answer = absurd (reads (reads_value (Ok value) answer).utf8)
  reads_one_value (Err (values.NotValue place)) value reads answer = absurd (reads.1 value (reads_value (Ok value) answer))

  -- What is told of a fault: of each place the same.
  module _ {C : Type 0} (told : ValueFault → C) (other : C) (elsewhere : (place : ℕ) → told (values.NotValue place) ≡ other) where
    abbrev pub tells_value : Body → Result (List ℕ) C
    tells_value (Ok value) = Ok value
    tells_value (Err fault) = Err (told fault)

    abbrev ToldValue : Type 0
    ToldValue = Result (List ℕ) C

    -- all that a body is read as tells what the result tells
    by_result : (read result : Body) → ReadsValue bytes read → ReadsValue bytes result → tells_value read ≡ tells_value result
    by_result (Ok value) (Ok v) reads is = ap tells_value (one_body bytes (Ok value) (Ok v) (spelled_body value reads) (spelled_body v is))
    by_result (Ok value) (Err values.NotUtf8) reads is = absurd (is reads.utf8)
    by_result (Ok value) (Err (values.NotValue place)) reads is = absurd (is.1 value reads)
    by_result (Err values.NotUtf8) (Ok v) reads is = absurd (reads is.utf8)
    by_result (Err values.NotUtf8) (Err values.NotUtf8) reads is = refl
    by_result (Err values.NotUtf8) (Err (values.NotValue place)) reads is = absurd (reads is.0)
    by_result (Err (values.NotValue place)) (Ok v) reads is = absurd (reads.1 v is)
    by_result (Err (values.NotValue place)) (Err values.NotUtf8) reads is = absurd (is reads.0)
    by_result (Err (values.NotValue place)) (Err (values.NotValue at)) reads is = ap (λ (x : C). let r : ToldValue = Err x in r) (elsewhere place ∙ sym (elsewhere at))

    pub one_value_read : (read result : Body) → ReadsValue bytes read → IsBodyResult bytes result → tells_value read ≡ tells_value result
    one_value_read read result reads answer = by_result read result reads (reads_value result answer)
