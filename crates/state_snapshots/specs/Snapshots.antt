-- The parts of a snapshot of a state: a start, and each document. The form is this project's own;
-- RFC 4825, sections 6.2 and 8.5, say what a document's name and its etag are.
use Rattle.std.specs.Prelude.{ℕ, List, ◌∷◌, ◌++◌, [], length, map, encode_utf8_all, None}
use Rattle.std.specs.Int.{w64, to_be_bytes}
use Rattle.byte_blocks.specs.Blocks.{block}
use Rattle.xml_tree.specs.Print.{document_print}
use Rattle.doc_names.specs.declared.doc_id.Auid.{Auid}
use Rattle.doc_names.specs.declared.doc_id.Auid.TheVariants.{ResourceLists, RlsServices, XcapCaps}
use Rattle.doc_names.specs.declared.doc_id.DocId.{DocId}
use Rattle.doc_names.specs.declared.doc_id.Home.{Home}
use Rattle.doc_names.specs.declared.doc_id.Home.TheVariants.{Global, User}
use Rattle.store_core.specs.State.{Document, State}
use Rattle.state_snapshots.specs.declared.limits.TheConstants.{FORM_VERSION}

-- What a snapshot has besides the documents: how many these are, the number that the next change
-- gets, and the root of the server.
pub record Start : Type 0 where
  pub count : ℕ
  pub next : ℕ
  pub root : List ℕ

-- the start: the version of the form, two numbers in eight bytes each, and the root
abbrev pub start_part : Start → List ℕ
start_part start =
    FORM_VERSION ∷ (to_be_bytes w64 start.count ++ (to_be_bytes w64 start.next ++ start.root))

abbrev pub auid_number : Auid → ℕ
auid_number ResourceLists = 1
auid_number RlsServices = 2
auid_number XcapCaps = 3

-- whether there is a user, and the user as a block, in UTF-8
abbrev pub home_bytes : Home → List ℕ
home_bytes Global = 0 ∷ []
home_bytes (User xui) = 1 ∷ block (encode_utf8_all xui)

abbrev pub name_bytes : DocId → List ℕ
name_bytes id = auid_number id.auid ∷ (home_bytes id.home ++ block (encode_utf8_all id.name))

-- A document with its etag: the etag in eight bytes, the name, and the text.
pub record DocumentPart : Type 0 where
  pub id : DocId
  pub tag : ℕ
  pub text : List ℕ

abbrev pub document_part : DocumentPart → List ℕ
document_part part = to_be_bytes w64 part.tag ++ (name_bytes part.id ++ part.text)

-- the part of a stored document; its text is the print of its tree
abbrev pub part_of : Document → DocumentPart
part_of d = record {
  id = d.id;
  tag = d.now.tag;
  text = encode_utf8_all (document_print d.now.tree);
}

-- the start of a snapshot of a state, under this root
abbrev pub start_of : List ℕ → State → Start
start_of root m = record { count = length m.documents; next = m.next; root = root }

-- all parts, in the order of the documents' creation
abbrev pub snapshot_parts : List ℕ → State → List (List ℕ)
snapshot_parts root m =
    start_part (start_of root m) ∷ map (λ d. document_part (part_of d)) m.documents

-- ---- what a snapshot doesn't keep

-- a document with its present version alone
abbrev pub document_without_earlier : Document → Document
document_without_earlier d = record { id = d.id; now = record d.now { note = None }; earlier = [] }

-- the state without earlier versions
abbrev pub without_earlier : State → State
without_earlier m = record m { documents = map document_without_earlier m.documents }
