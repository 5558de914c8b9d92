use Rattle.std.proofs.Common.{sym}
use Rattle.xcap_get.proofs.HeldOnes.{led}
use Rattle.xcap_get.proofs.documents.stored_tag.Goals as goal

pub returns-in-Some : goal.returns-in-Some
returns-in-Some c = record {
  tag_of_stored =
      let root = c.in-Some.field-0-0.now in
      let version = sym (rw c.in-Some.is at c.get.ensures.stored_version) in
      (root, version, led c.args.store.now.content c.args.doc.now c.in-User.field-0 root c.in-Some.tag c.in-User.is version);
}
