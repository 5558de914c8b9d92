-- The result of reading the body of a PUT of a document. RFC 4825, sections 8.2.2 (what the body
-- has to be) and 11 (conflicts).
use Rattle.xml_tree.specs.Tree.{Tree}
use Rattle.doc_names.specs.declared.usages.Usage.{Usage}
use Rattle.store_core.specs.ChangePreconditions.{MayBeDocument}
use Rattle.xcap_machine.specs.Answers.{Answer, reply_only}
use Rattle.xcap_put.specs.declared.request_bodies.Body.{Body}
use Rattle.xcap_put.specs.declared.request_bodies.Body.TheVariants.{Refused, Document}

-- `Puts` gives the answer to the request from the answer to a tree that is a document of the
-- usage: the body is refused with this reply, whatever that answer is; or it is parsed as this
-- tree, which is a document of the usage.
abbrev pub IsReadBody : ((Tree → Answer) → Answer → Type 0) → Usage → Body → Type 0
IsReadBody Puts usage (Refused reply) = (answer : Tree → Answer) → Puts answer (reply_only reply)
IsReadBody Puts usage (Document t) =
    MayBeDocument usage t × ((answer : Tree → Answer) → Puts answer (answer t))
