-- The bytes of a reply. RFC 9112, sections 2.1 (message), 4 (status line), 5 (field lines), 6.2
-- (Content-Length) and 9.6 (close); RFC 9110, sections 8.3 (Content-Type), 8.8.3 (ETag) and 10.2.1
-- (Allow).
use Rattle.std.specs.Prelude.{ℕ, ◌==◌, Bool, List, [], ◌++◌, Option, codes, decimal, None}
use Rattle.std.specs.Prelude.{if◌then◌else◌}
use Rattle.std.specs.Option.{option_map_or}
use Rattle.reply_text.specs.declared.media_types.MediaType.{MediaType}
use Rattle.reply_text.specs.MediaTypes.{media_type}
use Rattle.reply_text.specs.Statuses.{reason}

-- CR LF
abbrev pub line_end : List ℕ
line_end = codes "\r\n"

-- status-line = HTTP-version SP status-code SP reason-phrase CRLF
unfoldable pub status_line : ℕ → List ℕ
status_line n = codes "HTTP/1.1 " ++ decimal n ++ codes " " ++ reason n ++ line_end

-- the document's etag, a number in quotes
unfoldable pub etag_line : ℕ → List ℕ
etag_line n = codes "ETag: \"" ++ decimal n ++ codes "\"" ++ line_end

-- the methods that a resource takes: the reading ones, or all
unfoldable pub allow_line : Bool → List ℕ
allow_line read_only =
    codes "Allow: " ++ (if read_only then codes "GET, HEAD" else codes "GET, HEAD, PUT, DELETE")
    ++ line_end

unfoldable pub media_line : MediaType → List ℕ
media_line media = codes "Content-Type: " ++ media_type media ++ line_end

unfoldable pub length_line : ℕ → List ℕ
length_line n = codes "Content-Length: " ++ decimal n ++ line_end

unfoldable pub close_line : List ℕ
close_line = codes "Connection: close" ++ line_end

-- what a head says: the status; perhaps an etag, whether the resource is read-only, and a media
-- type; the length of the body, and whether the connection closes
pub record HeadFields : Type 0 where
  pub status : ℕ
  pub tag : Option ℕ
  pub read_only : Option Bool
  pub media : Option MediaType
  pub size : ℕ
  pub closes : Bool

-- the head, up to and including the empty line: the status line and the field lines that apply; a
-- 304 has no length
abbrev pub head_of : HeadFields → List ℕ
head_of fields =
    status_line fields.status
    ++ option_map_or etag_line fields.tag []
    ++ option_map_or allow_line fields.read_only []
    ++ option_map_or media_line fields.media []
    ++ (if fields.status == 304 then [] else length_line fields.size)
    ++ (if fields.closes then close_line else [])
    ++ line_end

-- a reply, seen as its status, whether it closes, and its bytes in two parts
pub record SentReply : Type 0 where
  pub status : ℕ
  pub closes : Bool
  pub head : List ℕ
  pub body : List ℕ

-- all bytes of a reply
abbrev pub reply_bytes : SentReply → List ℕ
reply_bytes r = r.head ++ r.body

-- the reply with this head and this body
abbrev pub sent_reply : HeadFields → List ℕ → SentReply
sent_reply fields body =
    record { status = fields.status; closes = fields.closes; head = head_of fields; body = body }

-- a reply without etag and body
abbrev pub plain_reply : ℕ → Bool → SentReply
plain_reply status closes =
    sent_reply (record {
      status = status;
      tag = None;
      read_only = None;
      media = None;
      size = 0;
      closes = closes;
    })
    []
