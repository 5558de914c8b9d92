-- The selector of an operation: its form, what it ends in, and what it means, by what reading
-- gives.
use Rattle.std.proofs.Common.{◌≡◌, ℕ, Bool, true, false, cond, List, [], Option, None, Some, is_some, unwrap_or, Result, Ok, Err, chars, refl, sym, ap, ◌∙◌, subst}
use Rattle.xml_grammar.specs.TextReading.{Stop}
use Rattle.xml_grammar.specs.readers.RuleReaders.{read_whole_text}
use Rattle.xml_names.specs.ReadErrors.{ResultSatisfies}
use Rattle.xml_names.specs.declared.read_error.ReadError.{ReadError}
use Rattle.xml_names.specs.declared.read_error.ReadError.TheVariants.{Fault, NoMemory}
use Rattle.xml_tokens.specs.declared.fault_kind.FaultKind.{FaultKind}
use Rattle.xml_names.specs.Scopes.{in_scope_bindings, bound_uri}
use Rattle.xml_names.specs.declared.names.Decl.{Decl}
use Rattle.node_select.specs.Faults.{IsPatchSelectorAnswer}
use Rattle.node_select.specs.declared.fault.SelectorFault.{SelectorFault}
use Rattle.node_select.specs.declared.fault.SelectorFault.TheVariants.{BadSelector, UnboundPrefix}
use Rattle.node_select.specs.declared.selector.PatchSelector.{PatchSelector}
use Rattle.node_select.specs.readers.RawSelectors.{RawPatchSelector, RawPatchEnd, PatchElement, PatchAttribute, PatchChars, first_unbound_in_patch, resolved_patch_end, resolved_patch_selector}
use Rattle.node_select.specs.readers.Selectors.{read_patch_selector}
use Rattle.node_select.specs.readers.WholeSelectors.{resolved_or_unbound, parsed_patch_selector, patch_result}
use Rattle.node_select.proofs.ExactSelectors.{one_patch_selector, patch_selector_answer}
use Rattle.patch_rules.specs.PatchOperations.{OperationError, Directive, Prefix, PatchAction, Put, NewAttr, Replace, Remove, require_some, is_type_prefix_bound, accepts_form, require}
use Rattle.patch_rules.specs.Selectors.{Reading}
use Rattle.patch_rules.specs.readers.AppliedOperations.{selector_meaning, selector_reading, reading_of, reading_if_parsed}
use Rattle.patch_parse.specs.inner.SelectorErrors.{IsSelectorFault, HasUnboundPrefix, is_type_prefix_bound_by, unbound_error}
use Rattle.node_select.specs.Faults.{form_of as end_form}
use Rattle.node_select.specs.readers.WholeSelectors.{raw_form_of, raw_form_if_parsed}
use Rattle.patch_parse.specs.Operations.{checked_selector}
use Rattle.node_select.specs.declared.selector.PatchForm.{PatchForm}

-- ---- forms

pub form_stays : (b : List Decl) (end : RawPatchEnd) → end_form (resolved_patch_end b end) ≡ raw_form_of end
form_stays b PatchElement = refl
form_stays b (PatchAttribute name) = refl
form_stays b (PatchChars k) = refl

pub type_is_bound : (here : List (List Decl)) (task : PatchAction) → is_type_prefix_bound_by (in_scope_bindings here) task ≡ is_type_prefix_bound here task
type_is_bound here (Put position) = refl
type_is_bound here (NewAttr name) = refl
type_is_bound here Replace = refl
type_is_bound here (Remove before after) = refl

-- ---- tests of a selector

module _ (here : List (List Decl)) (sel : List ℕ) (task : PatchAction) where
  abbrev with_meaning : Option PatchSelector → Result PatchSelector OperationError
  with_meaning o = require_some o Prefix (λ s. require (is_type_prefix_bound here task) Prefix (Ok s))

  abbrev with_reading : Option Reading → Result PatchSelector OperationError
  with_reading o = require_some o Directive (λ r. require (accepts_form task r.ends) Directive (with_meaning (r.means here)))

  pub formless : selector_reading sel ≡ None → checked_selector here sel task ≡ Err Directive
  formless e = ap with_reading e

  pub unsuited : (r : Reading) → selector_reading sel ≡ Some r → accepts_form task r.ends ≡ false → checked_selector here sel task ≡ Err Directive
  unsuited r e refused = ap with_reading e ∙ ap (λ b. require b Directive (with_meaning (r.means here))) refused

  pub untyped : (r : Reading) (s : PatchSelector) → selector_reading sel ≡ Some r → accepts_form task r.ends ≡ true → r.means here ≡ Some s → is_type_prefix_bound here task ≡ false
      → checked_selector here sel task ≡ Err Prefix
  untyped r s e fits some refused =
      ap with_reading e ∙ ap (λ b. require b Directive (with_meaning (r.means here))) fits ∙ ap with_meaning some ∙ ap (λ b. require b Prefix (Ok s)) refused

  pub selecting : (r : Reading) (s : PatchSelector) → selector_reading sel ≡ Some r → accepts_form task r.ends ≡ true → r.means here ≡ Some s → is_type_prefix_bound here task ≡ true
      → checked_selector here sel task ≡ Ok s
  selecting r s e fits some bound_uri =
      ap with_reading e ∙ ap (λ b. require b Directive (with_meaning (r.means here))) fits ∙ ap with_meaning some ∙ ap (λ b. require b Prefix (Ok s)) bound_uri

  ended_so : (suit : Bool) → require suit Directive (with_meaning None) ≡ Err (cond suit Prefix Directive)
  ended_so true = refl
  ended_so false = refl

  -- with an unbound prefix, by what it ends in
  pub meaningless_so : (r : Reading) (form : PatchForm) → selector_reading sel ≡ Some r → r.ends ≡ form → r.means here ≡ None → checked_selector here sel task ≡ Err (unbound_error task form)
  meaningless_so r form e is none =
      ap with_reading e ∙ ap (λ (o : Option PatchSelector). require (accepts_form task r.ends) Directive (with_meaning o)) none ∙ ended_so (accepts_form task r.ends)
      ∙ ap (λ (f : PatchForm). Err (cond (accepts_form task f) Prefix Directive)) is

-- ---- what reading gives

module _ (b : List Decl) (d text : List ℕ) where
  -- a selector comes from a raw selector without an unbound prefix
  pub record IsOf (r : Result RawPatchSelector (Stop FaultKind)) (s : PatchSelector) : Type 0 where
    pub raw : RawPatchSelector
    pub is : r ≡ Ok raw
    pub unbound : first_unbound_in_patch b raw ≡ None
    pub means : resolved_patch_selector b d raw ≡ s

  of_meant : (raw : RawPatchSelector) (o : Option ℕ) (s : PatchSelector) → first_unbound_in_patch b raw ≡ o → Ok s ≡ resolved_or_unbound text o (resolved_patch_selector b d raw) → IsOf (Ok raw) s
  of_meant raw None s e is = record { raw = raw; is = refl; unbound = e; means = cc }
  of_meant raw (Some n) s e is = absurd (cc)

  pub read_ok : (r : Result RawPatchSelector (Stop FaultKind)) (s : PatchSelector) → Ok s ≡ patch_result b d text r → IsOf r s
  read_ok (Ok raw) s is = of_meant raw (first_unbound_in_patch b raw) s refl is
  read_ok (Err stop) s is = absurd (cc)

  no_form : (raw : RawPatchSelector) (o : Option ℕ) (n : ℕ) → Err (BadSelector n) ≡ resolved_or_unbound text o (resolved_patch_selector b d raw) → reading_if_parsed (Ok raw) ≡ None
  no_form raw None n is = absurd (cc)
  no_form raw (Some k) n is = absurd (cc)

  pub read_bad : (r : Result RawPatchSelector (Stop FaultKind)) (n : ℕ) → Err (BadSelector n) ≡ patch_result b d text r → reading_if_parsed r ≡ None
  read_bad (Ok raw) n is = no_form raw (first_unbound_in_patch b raw) n is
  read_bad (Err stop) n is = refl

  -- a prefix that isn't bound is in a raw selector
  pub record IsIn (r : Result RawPatchSelector (Stop FaultKind)) : Type 0 where
    pub raw : RawPatchSelector
    pub is : r ≡ Ok raw
    pub unbound : is_some (first_unbound_in_patch b raw) ≡ true

  in_meant : (raw : RawPatchSelector) (o : Option ℕ) (n : ℕ) → first_unbound_in_patch b raw ≡ o → Err (UnboundPrefix n) ≡ resolved_or_unbound text o (resolved_patch_selector b d raw) → IsIn (Ok raw)
  in_meant raw None n e is = absurd (cc)
  in_meant raw (Some k) n e is = record { raw = raw; is = refl; unbound = ap is_some e }

  pub read_unbound : (r : Result RawPatchSelector (Stop FaultKind)) (n : ℕ) → Err (UnboundPrefix n) ≡ patch_result b d text r → IsIn r
  read_unbound (Ok raw) n is = in_meant raw (first_unbound_in_patch b raw) n refl is
  read_unbound (Err stop) n is = absurd (cc)

-- ---- in the scope at an operation

module _ (here : List (List Decl)) (raw : RawPatchSelector) where
  abbrev meaning : PatchSelector
  meaning = resolved_patch_selector (in_scope_bindings here) (unwrap_or (bound_uri here []) []) raw

  pub means_this : (s : PatchSelector) → first_unbound_in_patch (in_scope_bindings here) raw ≡ None → meaning ≡ s → selector_meaning raw here ≡ Some s
  means_this s none is = ap (λ (o : Option ℕ). cond (is_some o) None (Some meaning)) none ∙ ap Some is

  pub means_nothing : is_some (first_unbound_in_patch (in_scope_bindings here) raw) ≡ true → selector_meaning raw here ≡ None
  means_nothing some = ap (λ x. cond x None (Some meaning)) some

-- ---- by what a call gives

pub fault_answered : {A F : Type 0} (P : Result A F → Type 0) (e : ReadError F) (f : F) → e ≡ Fault f → ResultSatisfies P (Err e) → P (Err f)
fault_answered P (Fault x) f is h = let same : x ≡ f = cc in subst (λ y. P (Err y)) same h
fault_answered P NoMemory f is h = absurd (cc)

module _ (here : List (List Decl)) (listed : List Decl) (unprefixed text sel : List ℕ) (same : listed ≡ in_scope_bindings here) (default : unprefixed ≡ unwrap_or (bound_uri here []) []) (letters : chars text ≡ sel) where
  abbrev reads : Result RawPatchSelector (Stop FaultKind)
  reads = read_whole_text read_patch_selector sel

  told : (r : Result PatchSelector SelectorFault) → IsPatchSelectorAnswer listed unprefixed text r → r ≡ patch_result (in_scope_bindings here) (unwrap_or (bound_uri here []) []) text reads
  told r a =
      one_patch_selector listed unprefixed text r (parsed_patch_selector listed unprefixed text) a (patch_selector_answer listed unprefixed text)
      ∙ (λ i. patch_result (same i) (default i) text (read_whole_text read_patch_selector (letters i)))

  -- a selector that is read is the meaning of its text
  pub record IsFound (s : PatchSelector) : Type 0 where
    pub reading : Reading
    pub form : selector_reading sel ≡ Some reading
    pub means : reading.means here ≡ Some s
    pub ends : end_form s.end ≡ reading.ends

  pub found : (s : PatchSelector) → IsPatchSelectorAnswer listed unprefixed text (Ok s) → IsFound s
  found s a =
      let x = read_ok (in_scope_bindings here) (unwrap_or (bound_uri here []) []) text reads s (told (Ok s) a) in
      record {
        reading = reading_of x.raw;
        form = ap reading_if_parsed x.is;
        means = means_this here x.raw s x.unbound x.means;
        ends = ap (λ (z : PatchSelector). end_form z.end) (sym x.means) ∙ form_stays (in_scope_bindings here) x.raw.1.1;
      }

  pub not_found : (n : ℕ) → IsPatchSelectorAnswer listed unprefixed text (Err (BadSelector n)) → selector_reading sel ≡ None
  not_found n a = read_bad (in_scope_bindings here) (unwrap_or (bound_uri here []) []) text reads n (told (Err (BadSelector n)) a)

  pub found_unbound : (n : ℕ) → IsPatchSelectorAnswer listed unprefixed text (Err (UnboundPrefix n)) → HasUnboundPrefix (selector_reading sel) here
  found_unbound n a =
      let x = read_unbound (in_scope_bindings here) (unwrap_or (bound_uri here []) []) text reads n (told (Err (UnboundPrefix n)) a) in
      subst (λ (o : Option Reading). HasUnboundPrefix o here) (sym (ap reading_if_parsed x.is)) (means_nothing here x.raw x.unbound)

  pub refused_so : (fault : SelectorFault) → IsPatchSelectorAnswer listed unprefixed text (Err fault) → IsSelectorFault (selector_reading sel) here fault
  refused_so (BadSelector n) a = not_found n a
  refused_so (UnboundPrefix n) a = found_unbound n a

-- ---- a selector with an unbound prefix

pub record IsNamed (here : List (List Decl)) (r : Result RawPatchSelector (Stop FaultKind)) (f : PatchForm) : Type 0 where
  pub reading : Reading
  pub form : reading_if_parsed r ≡ Some reading
  pub is : reading.ends ≡ f
  pub means : reading.means here ≡ None

pub named_form : (here : List (List Decl)) (r : Result RawPatchSelector (Stop FaultKind)) (f : PatchForm) → HasUnboundPrefix (reading_if_parsed r) here → Some f ≡ raw_form_if_parsed r → IsNamed here r f
named_form here (Ok raw) f h e = let same : f ≡ raw_form_of raw.1.1 = cc in record { reading = reading_of raw; form = refl; is = sym same; means = h }
named_form here (Err stop) f h e = absurd h

pub no_named_form : (here : List (List Decl)) (r : Result RawPatchSelector (Stop FaultKind)) → HasUnboundPrefix (reading_if_parsed r) here → raw_form_if_parsed r ≡ None → ⊥
no_named_form here (Ok raw) h e = absurd (cc)
no_named_form here (Err stop) h e = absurd h
