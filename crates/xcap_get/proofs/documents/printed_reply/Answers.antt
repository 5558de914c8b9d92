use Rattle.std.proofs.Common.{◌≡◌, encode_utf8_all, sym, ◌∙◌}
use Rattle.std.proofs.lemmas.Option.{same_Some}
use Rattle.xml_tree.specs.Print.{document_print}
use Rattle.store_core.specs.DocumentChanges.{find_document, stored_id}
use Rattle.xcap_get.proofs.HeldOnes.{printed}
use Rattle.xcap_get.proofs.documents.printed_reply.Goals as goal

pub unreachable-requires : goal.unreachable-requires
unreachable-requires c =
    let held = c.requires.stored_there in
    let there = printed (find_document stored_id c.args.store.now.content.documents c.args.doc.now) held.0 c.args.tag held.1 in
    let none = sym c.in_default.is ∙ c.in_ok-text.ensures.prints_document ∙ there in
    cc

pub returns-clause-sends_printed : goal.returns-clause-sends_printed
returns-clause-sends_printed c =
    let held = c.requires.stored_there in
    let there = printed (find_document stored_id c.args.store.now.content.documents c.args.doc.now) held.0 c.args.tag held.1 in
    let text : c.in-Some.text ≡ encode_utf8_all (document_print held.0) =
    same_Some c.in-Some.text (encode_utf8_all (document_print held.0)) (sym c.in-Some.is ∙ c.in_ok-text.ensures.prints_document ∙ there) in
    (held.0, held.2, rw (c.document_media_type-media.ensures.exact, text) at c.text_reply.ensures.sends_as_asked)
