-- Requests for feeds. RFC 9110, section 9.3.1: GET; RFC 5875, section 4.3: the modes of diff
-- processing. That a feed has an address, and which, and how a request names its user, is this
-- server's own.
use Rattle.std.specs.Prelude.{◌≡◌, ℕ, true, false, List, [], ◌∷◌, ◌++◌, codes, encode_utf8_all}
use Rattle.std.specs.Prelude.{Some, Ok}
use Rattle.doc_names.specs.DocIds.{IsAddressable, id_text}
use Rattle.doc_names.specs.Usages.{usage_of}
use Rattle.doc_names.specs.declared.doc_id.DocId.{DocId}
use Rattle.doc_names.specs.declared.doc_id.Home.{Home}
use Rattle.doc_names.specs.declared.doc_id.Home.TheVariants.{Global, User}
use Rattle.doc_names.specs.declared.usages.Usage.{Usage}
use Rattle.xcap_uri.specs.Targets.{IsTargetResult}
use Rattle.xcap_uri.specs.declared.target.Mode.{Mode}
use Rattle.xcap_uri.specs.declared.target.Mode.TheVariants.{NoPatching, XcapPatching, Aggregate}
use Rattle.xcap_uri.specs.declared.target.Target.TheVariants.{Feed}
use Rattle.http_wire.specs.declared.request.Field.{Field}
use Rattle.http_wire.specs.declared.request.Request.{Request}
use Rattle.request_checks.specs.Methods.{method_of}
use Rattle.request_checks.specs.Rights.{is_allowed}
use Rattle.request_checks.specs.declared.method.Method.TheVariants.{Get}

-- the name of a mode
abbrev pub mode_text : Mode → List ℕ
mode_text NoPatching = codes "no-patching"
mode_text XcapPatching = codes "xcap-patching"
mode_text Aggregate = codes "aggregate"

-- the address of the feed of a document since the version with a tag
abbrev pub feed_address : List ℕ → Mode → List ℕ → DocId → List ℕ
feed_address root mode tag doc =
    root ++ codes "/~feed/" ++ mode_text mode ++ codes "/" ++ encode_utf8_all tag ++ codes "/"
    ++ id_text doc

-- the field that names a user
abbrev pub user_field : List ℕ → Field
user_field xui = record { name = codes "X-XCAP-User"; value = encode_utf8_all xui }

-- the field that names the user of a home; the global home has no user
abbrev pub user_fields : Home → List Field
user_fields Global = []
user_fields (User xui) = user_field xui ∷ []

-- the request of a document's user for the feed
abbrev pub feed_request : List ℕ → Mode → List ℕ → DocId → Request
feed_request root mode tag doc = record {
  method = codes "GET";
  target = feed_address root mode tag doc;
  closes = false;
  fields = user_fields doc.home;
  body = [];
}

-- documents that have feeds: a user's, in a usage that stores documents, and such that an address
-- can name them
pub record HasFeed (doc : DocId) : Type 0 where
  pub readable : IsAddressable doc
  pub xui : List ℕ
  pub users : doc.home ≡ User xui
  pub usage : Usage
  pub stored : usage_of doc.auid ≡ Some usage

-- the request asks to read the feed of the document in this mode, since the version with this tag,
-- and is allowed to
pub record AsksForFeed (root : List ℕ) (mode : Mode) (tag : ℕ) (doc : DocId)
    (request : Request) : Type 0 where
  pub target : IsTargetResult root request.target (Ok (Feed mode tag doc))
  pub method : method_of request.method ≡ Get
  pub allowed : is_allowed false doc.auid doc.home request.fields ≡ true
