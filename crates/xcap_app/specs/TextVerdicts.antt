-- Which texts are documents of a usage, and why others are not: by their grammar (XML 1.0;
-- Namespaces in XML 1.0), and then by the first fault of a tree (RFC 4826, sections 3.2, 3.4.5,
-- 4.2 and 4.4.5).
use Rattle.std.specs.Prelude.{◌≡◌, ℕ, List, [], Option, None, Some, Result, Ok, Err}
use Rattle.tree_text.specs.Faults.{IsTextResult}
use Rattle.tree_text.specs.declared.fault.TextFault.{TextFault}
use Rattle.tree_text.specs.declared.fault.TextFault.TheVariants as faults
use Rattle.usage_docs.specs.Validation.{HasFirstFault}
use Rattle.usage_docs.specs.declared.validation.Fault.{Fault}
use Rattle.doc_names.specs.declared.usages.Usage.{Usage}
use Rattle.xml_tree.specs.Tree.{Tree}
use Rattle.xml_names.specs.declared.limits.TheConstants.{MAX_LEVELS}
use Rattle.xcap_app.specs.declared.exit.Exit.{Exit}
use Rattle.xcap_app.specs.declared.exit.Exit.TheVariants as exits
use Rattle.xcap_app.specs.declared.refusal.Refusal.{Refusal}
use Rattle.xcap_app.specs.declared.refusal.Refusal.TheVariants as refusals

-- how `check` ends with the first fault of a tree, or none
abbrev pub exit_of_judgement : Option Fault → Exit
exit_of_judgement None = exits.Done
exit_of_judgement (Some fault) = exits.Refused (refusals.Faulty fault)

-- why a text that can't be parsed is refused
abbrev pub refusal_of_text : TextFault → Refusal
refusal_of_text faults.NotUtf8 = refusals.NotUtf8
refusal_of_text (faults.NotWellFormed place) = refusals.NotWellFormed place
refusal_of_text (faults.Namespace place) = refusals.NotWellFormed place
refusal_of_text (faults.RepeatedAttribute place) = refusals.NotWellFormed place
refusal_of_text (faults.TooDeep place) = refusals.NotWellFormed place
refusal_of_text (faults.Doctype place) = refusals.NotWellFormed place

-- the verdict on a tree, and on a text that can't be parsed
abbrev pub IsTreeVerdict : Usage → Result Tree TextFault → Exit → Type 0
IsTreeVerdict usage (Ok t) exit =
    (fault : Option Fault) × HasFirstFault usage t fault × (exit ≡ exit_of_judgement fault)
IsTreeVerdict usage (Err fault) exit = exit ≡ exits.Refused (refusal_of_text fault)

-- The verdict on a text, by the one answer of the grammar: the tree of at most `MAX_LEVELS` levels
-- that it is parsed as, or its first fault.
pub record IsTextVerdict (usage : Usage) (text : List ℕ) (exit : Exit) : Type 0 where
  pub answer : Result Tree TextFault
  pub by_grammar : IsTextResult MAX_LEVELS [] text answer
  pub verdict : IsTreeVerdict usage answer exit
