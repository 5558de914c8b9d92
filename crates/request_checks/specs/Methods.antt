-- The methods of requests. RFC 9110, section 9.3; RFC 4825, section 8.
use Rattle.std.specs.Prelude.{ℕ, Bool, true, false, List, [], codes, if◌then◌else◌, chars}
use Rattle.std.specs.Str.{bytes_eq}
use Rattle.reply_text.specs.ReplyHeads.{SentReply}
use Rattle.request_checks.specs.declared.method.Method.{Method}
use Rattle.request_checks.specs.declared.method.Method.TheVariants.{Get, Head, Put, Delete, Other}

-- methods are case-sensitive
unfoldable pub method_of : List ℕ → Method
method_of name =
    if bytes_eq name (chars (codes "GET")) then Get
    else if bytes_eq name (chars (codes "HEAD")) then Head
    else if bytes_eq name (chars (codes "PUT")) then Put
    else if bytes_eq name (chars (codes "DELETE")) then Delete
    else Other

-- it reads, and changes nothing
abbrev pub is_reading : Method → Bool
is_reading Get = true
is_reading Head = true
is_reading _ = false

-- it is one of the four supported ones
abbrev pub is_known : Method → Bool
is_known Other = false
is_known _ = true

-- ---- what a reading method is sent

-- GET's reply, or for HEAD GET's reply without its body (RFC 9110, section 9.3.2)
abbrev pub reply_for_method : Method → SentReply → SentReply
reply_for_method Head reply = record reply { body = [] }
reply_for_method _ reply = reply
