use Rattle.std.proofs.Common.{◌≡◌, drop, map}
use Rattle.std.specs.List.{list_all}
use Rattle.patch_rules.specs.Replay.{is_document}
use Rattle.patch_parse.proofs.document_elements.are_documents.Given as goal

abbrev pub invariant-loop-document : goal.invariant-loop-document
invariant-loop-document l = list_all (is_document l.scope) (map (λ x. x.now) (drop l.document-index l.documents)) ≡ list_all (is_document l.scope) (map (λ x. x.now) l.documents)
