-- The values that the types of the code represent in clauses.
use Rattle.std.specs.Prelude.{◌≡◌, ℕ, ◌-◌, List, [], length, take, chars}
use Rattle.tree_text.specs.declared.raw_attribute.RawAttribute.{RawAttribute}
use Rattle.tree_text.specs.declared.start_tags.RawStartTag.{RawStartTag as CodeTag}
use Rattle.tree_text.specs.ContentPieces.{StartTag}
use Rattle.xml_tokens.specs.readers.TokenViews.{raw_name_view}

-- where the name has no prefix, its local part is a prefix of the text from the name on
abbrev pub BeginsWithLocal : CodeTag → Type 0
BeginsWithLocal t =
    chars t.written.prefix.now ≡ []
    → t.written.local.now ≡ take (length t.written.local.now) t.from.now

-- the tag that the code has read from this text, with these raw attributes
abbrev pub tag_view : List ℕ → CodeTag → List RawAttribute → StartTag
tag_view text t raw_attribute =
    record {
      name = raw_name_view t.written;
      raw_attribute = raw_attribute;
      is_empty = t.is_empty;
      size = length text - length (chars t.after.now);
    }
