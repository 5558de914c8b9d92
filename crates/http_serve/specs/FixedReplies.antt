-- Replies without etag and body, after which the connection ends. RFC 9112, section 9.6.
use Rattle.std.specs.Prelude.{ℕ, List, true}
use Rattle.reply_text.specs.ReplyHeads.{reply_bytes, plain_reply}

abbrev pub fixed_reply : ℕ → List ℕ
fixed_reply status = reply_bytes (plain_reply status true)
