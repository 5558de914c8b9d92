-- Messages as bytes.
use Rattle.std.specs.Prelude.{ℕ, List, string_bytes}
use Rattle.xcap_app.specs.declared.exit.Message.{Message}
use Rattle.xcap_app.specs.declared.exit.Message.TheVariants.{Fixed, Made}

-- the bytes of a message
abbrev pub message_bytes : Message → List ℕ
message_bytes (Fixed words) = words.now
message_bytes (Made words) = string_bytes words
