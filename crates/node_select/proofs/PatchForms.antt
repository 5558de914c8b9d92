-- The form of the last part of a patch's selector is read as the grammar says.
use Rattle.std.proofs.Common.{◌≡◌, ℕ, ◌+◌, false, List, [], ◌∷◌, Option, Some, None, Result, Ok, Err, IfOk, refl, sym, ap, ◌∙◌, subst}
use Rattle.std.specs.Str.{chars}
use Rattle.std.specs.declared.alloc.AllocError.{AllocError}
use Rattle.xml_grammar.specs.TextReading.{Stop, ◌>>=◌}
use Rattle.xml_grammar.specs.readers.RuleReaders.{require_end, read_whole_text}
use Rattle.xml_grammar.proofs.Whole.{told_alike}
use Rattle.xml_tokens.specs.declared.fault_kind.FaultKind.{FaultKind}
use Rattle.node_select.specs.declared.selector.PatchForm.{PatchForm}
use Rattle.node_select.specs.declared.selector.PatchSelector.{PatchSelector}
use Rattle.node_select.specs.Faults.{IsPatchFormAnswer, form_of, form_if_parsed, fault_ranking}
use Rattle.node_select.specs.Grammar.{patch_selector}
use Rattle.node_select.specs.readers.RawSelectors.{RawPatchEnd, RawPatchSelector, PatchElement, PatchAttribute, PatchChars, resolved_patch_end, resolved_patch_selector, unbound_in_steps, unbound_patch_end}
use Rattle.node_select.specs.readers.Selectors.{read_patch_selector}
use Rattle.node_select.specs.readers.WholeSelectors.{parsed_patch_form, raw_form_of, raw_form_if_parsed}
use Rattle.node_select.proofs.WidthReading.{Agrees, counted, verdict}
use Rattle.node_select.proofs.ExactSelectors.{patch_selector_answers}
use Rattle.node_select.proofs.NameReading.{judged_patch_selector}
use Rattle.node_select.proofs.ResolvedSelectors.{patch_selector_follows}

same_form : (end : RawPatchEnd) → raw_form_of end ≡ form_of (resolved_patch_end [] end)
same_form PatchElement = refl
same_form (PatchAttribute name) = refl
same_form (PatchChars position) = refl

module _ (text : List ℕ) where
  abbrev all_in : {C : Type 0} → Result (C × List ℕ) (Stop FaultKind) → Result C (Stop FaultKind)
  all_in out = out >>= λ x. require_end x.0 x.1

  -- where no name counts, reading doesn't depend on what its names mean
  abbrev alike : RawPatchSelector → Option ℕ → List ℕ → Result (PatchSelector × List ℕ) (Stop FaultKind)
  alike raw o rest = verdict false (chars text) (counted false (chars text) o) (resolved_patch_selector [] [] raw) rest

  ended : (raw : RawPatchSelector) (o : Option ℕ) → raw_form_if_parsed (Ok raw) ≡ form_if_parsed (all_in (alike raw o []))
  ended raw None = ap (λ (f : PatchForm). Some f) (same_form raw.1.1)
  ended raw (Some n) = ap (λ (f : PatchForm). Some f) (same_form raw.1.1)

  left_over : (raw : RawPatchSelector) (o : Option ℕ) (c : ℕ) (cs : List ℕ) → None ≡ form_if_parsed (all_in (alike raw o (c ∷ cs)))
  left_over raw None c cs = refl
  left_over raw (Some n) c cs = refl

  abbrev place : ℕ → RawPatchSelector → Option ℕ
  place n x = unbound_in_steps [] (n + x.0) x.1.0 (unbound_patch_end [] x.1.1)

  agreed : (out : Result (RawPatchSelector × List ℕ) (Stop FaultKind)) (other : Result (PatchSelector × List ℕ) (Stop FaultKind)) → Agrees false (chars text) (resolved_patch_selector [] []) place 0 (chars text) out other
      → raw_form_if_parsed (all_in out) ≡ form_if_parsed (all_in other)
  agreed (Ok (raw, [])) other h = ended raw (place 0 raw) ∙ ap (λ (r : Result (PatchSelector × List ℕ) (Stop FaultKind)). form_if_parsed (all_in r)) (sym h.1)
  agreed (Ok (raw, c ∷ cs)) other h = left_over raw (place 0 raw) c cs ∙ ap (λ (r : Result (PatchSelector × List ℕ) (Stop FaultKind)). form_if_parsed (all_in r)) (sym h.1)
  agreed (Err e) other h = ap (λ (r : Result (PatchSelector × List ℕ) (Stop FaultKind)). form_if_parsed (all_in r)) (sym (h refl))

  pub form_answer : IsPatchFormAnswer text (parsed_patch_form text)
  form_answer = record {
    stated = read_whole_text (judged_patch_selector [] [] false) (chars text);
    by_grammar = patch_selector_answers [] [] false (chars text);
    is_told = agreed (read_patch_selector (chars text)) (judged_patch_selector [] [] false (chars text)) ((patch_selector_follows [] [] false (chars text)).by 0 (chars text) refl);
  }

  pub one_form : (a b : Option PatchForm) → IsPatchFormAnswer text a → IsPatchFormAnswer text b → a ≡ b
  one_form a b x y =
      x.is_told ∙ told_alike (fault_ranking false) (patch_selector [] []) (chars text) form_if_parsed (λ kind other left k o same. refl) x.stated y.stated x.by_grammar y.by_grammar ∙ sym y.is_told

  pub form_answered : (r : Result (Option PatchForm) AllocError) → IfOk r (λ form. form ≡ parsed_patch_form text) → IfOk r (IsPatchFormAnswer text)
  form_answered (Ok form) h = subst (IsPatchFormAnswer text) (sym h) form_answer
  form_answered (Err e) h = tt
