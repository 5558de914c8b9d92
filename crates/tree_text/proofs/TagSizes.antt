-- What was read of an attribute or a tag comes before what is left, so its size is known.
use Rattle.std.proofs.Common.{◌≡◌, ℕ, suc, ◌+◌, ◌≤◌, List, length, length-append, Result, Ok, ap, subst, arith}
use Rattle.xml_grammar.specs.TextReading.{Stop}
use Rattle.xml_grammar.proofs.Exact.{IsRead, Outcome}
use Rattle.xml_grammar.proofs.ClosedRules.{anything}
use Rattle.xml_names.specs.declared.names.Name.{Name}
use Rattle.xml_tokens.specs.declared.fault_kind.FaultKind.{FaultKind}
use Rattle.tree_text.specs.FaultKinds.{fault_ranking}
use Rattle.tree_text.specs.Grammar.{attribute, start_tag}
use Rattle.tree_text.specs.Names.{attributes_size}
use Rattle.xml_tokens.specs.Values.{qname_text}
use Rattle.tree_text.specs.ContentPieces.{StartTag}
use Rattle.xml_grammar.specs.readers.Suffixes.{EndsWith}
use Rattle.tree_text.specs.readers.Texts.{read_attribute, read_tag}
use Rattle.tree_text.proofs.JudgeTags.{tag_sizes}
use Rattle.tree_text.proofs.ReadParts.{closed_attribute, closed_tag}

pub attribute_ends : (text left : List ℕ) (a : Name × List ℕ) → read_attribute text ≡ Ok (a, left) → EndsWith text left
attribute_ends text left a h =
    let r : IsRead (fault_ranking 0) attribute (λ _. anything) text a left = subst (λ (out : Result ((Name × List ℕ) × List ℕ) (Stop FaultKind)). Outcome (fault_ranking 0) attribute (λ _. anything) text out) h ((closed_attribute (fault_ranking 0)).by text) in
    (r.used, r.joined)

-- the text contains the name of a tag and its raw attributes
pub tag_room : (text left : List ℕ) (t : StartTag) → read_tag text ≡ Ok (t, left) → suc (length (qname_text t.name)) + attributes_size t.raw_attribute ≤ length text
tag_room text left t h =
    let r : IsRead (fault_ranking 0) start_tag (λ _. anything) text t left = subst (λ (out : Result (StartTag × List ℕ) (Stop FaultKind)). Outcome (fault_ranking 0) start_tag (λ _. anything) text out) h ((closed_tag (fault_ranking 0)).by text) in
    let s = tag_sizes r.used t r.spelled in
    omega (arith, s.room, ap length r.joined, length-append r.used left)
