-- HEAD and GET of one address. RFC 9110, section 9.3.2: HEAD is GET without the body.
use Rattle.std.specs.Prelude.{ℕ, List, []}
use Rattle.http_wire.specs.declared.request.Request.{Request}
use Rattle.xcap_machine.specs.Answers.{Answer, reply_only}

-- the request with another method (RFC 9110, section 9)
abbrev pub with_method : List ℕ → Request → Request
with_method name request = record request { method = name }

-- the reply of an answer without its body, and no change (RFC 9110, section 9.3.2)
abbrev pub without_body : Answer → Answer
without_body a = reply_only (record a.reply { body = [] })
