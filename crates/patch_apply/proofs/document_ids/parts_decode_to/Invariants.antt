use Rattle.std.proofs.Common.{◌≡◌, Some, drop, map, option_map}
use Rattle.xcap_uri.specs.PrintedNames.{parts_decode_to}
use Rattle.patch_apply.proofs.document_ids.parts_decode_to.Given as goal

abbrev pub invariant-loop-text : goal.invariant-loop-text
invariant-loop-text l = parts_decode_to (map (λ x. x.now) (drop l.text-index l.texts)) (option_map (λ x. x.now) l.rest) ≡ parts_decode_to (map (λ x. x.now) l.texts) (Some l.address)
