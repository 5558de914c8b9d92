-- Error documents. RFC 4825, section 11 (detailed conflict reports).
use Rattle.std.specs.Prelude.{◌≢◌, ℕ, List, [], ◌∷◌, ◌++◌, codes, encode_utf8_all, flat_map}
use Rattle.xml_tree.specs.Tree.{last, Tree, tree_of, more_of}
use Rattle.xml_names.specs.Markup.{text_escape, value_escape}
use Rattle.xml_tree.specs.Print.{header}
use Rattle.xml_names.specs.declared.names.Decl.{Decl}
use Rattle.xml_names.specs.ExpandedNames.{name_from_parts}
use Rattle.reply_bodies.specs.declared.conflicts.ErrorBody.{ErrorBody}
use Rattle.reply_bodies.specs.declared.conflicts.ErrorBody.TheVariants.{NotUtf8, NotWellFormed}
use Rattle.reply_bodies.specs.declared.conflicts.ErrorBody.TheVariants.{NotXmlFrag, NotXmlAttValue}
use Rattle.reply_bodies.specs.declared.conflicts.ErrorBody.TheVariants.{NoParent, Schema}
use Rattle.reply_bodies.specs.declared.conflicts.ErrorBody.TheVariants.{CannotInsert, CannotDelete}
use Rattle.reply_bodies.specs.declared.conflicts.ErrorBody.TheVariants.{Unique, Constraint}

-- the child of the root
abbrev pub child_bytes : ErrorBody → List ℕ
child_bytes NotUtf8 = codes "<not-utf-8/>"
child_bytes NotWellFormed = codes "<not-well-formed/>"
child_bytes NotXmlFrag = codes "<not-xml-frag/>"
child_bytes NotXmlAttValue = codes "<not-xml-att-value/>"
child_bytes (NoParent uri) =
    codes "<no-parent><ancestor>" ++ flat_map text_escape (encode_utf8_all uri)
    ++ codes "</ancestor></no-parent>"
child_bytes Schema = codes "<schema-validation-error/>"
child_bytes CannotInsert = codes "<cannot-insert/>"
child_bytes CannotDelete = codes "<cannot-delete/>"
child_bytes (Unique field) =
    codes "<uniqueness-failure><exists field=\"" ++ flat_map value_escape (encode_utf8_all field)
    ++ codes "\"/></uniqueness-failure>"
child_bytes Constraint = codes "<constraint-failure/>"

-- the bytes of an error document; there is no white space between the elements
abbrev pub conflict_bytes : ErrorBody → List ℕ
conflict_bytes body =
    header ++ codes "<xcap-error xmlns=\"urn:ietf:params:xml:ns:xcap-error\">" ++ child_bytes body
    ++ codes "</xcap-error>"

-- ---- the document as a tree

-- an empty element of this name
abbrev pub empty_element : List ℕ → Tree
empty_element local = tree_of (name_from_parts [] local) [] [] (last [])

-- an element with one child and no white space
abbrev pub wrap_element : List ℕ → Tree → Tree
wrap_element local child_element =
    tree_of (name_from_parts [] local) [] [] (more_of [] child_element (last []))

-- the child of the root that says what is wrong
abbrev pub conflict_element : ErrorBody → Tree
conflict_element NotUtf8 = empty_element (codes "not-utf-8")
conflict_element NotWellFormed = empty_element (codes "not-well-formed")
conflict_element NotXmlFrag = empty_element (codes "not-xml-frag")
conflict_element NotXmlAttValue = empty_element (codes "not-xml-att-value")
conflict_element (NoParent uri) =
    wrap_element (codes "no-parent")
    (tree_of (name_from_parts [] (codes "ancestor")) [] [] (last uri))
conflict_element Schema = empty_element (codes "schema-validation-error")
conflict_element CannotInsert = empty_element (codes "cannot-insert")
conflict_element CannotDelete = empty_element (codes "cannot-delete")
conflict_element (Unique field) =
    wrap_element (codes "uniqueness-failure")
    (tree_of (name_from_parts [] (codes "exists")) []
    (record { name = name_from_parts [] (codes "field"); value = field } ∷ []) (last []))
conflict_element Constraint = empty_element (codes "constraint-failure")

-- the default namespace of the document
abbrev pub error_decls : List Decl
error_decls = record { prefix = []; uri = codes "urn:ietf:params:xml:ns:xcap-error" } ∷ []

abbrev pub conflict_root : ErrorBody → Tree
conflict_root body =
    tree_of (name_from_parts [] (codes "xcap-error")) error_decls []
    (more_of [] (conflict_element body) (last []))

-- a URI, where there is one, is not empty
abbrev pub HasNonEmptyUri : ErrorBody → Type 0
HasNonEmptyUri (NoParent uri) = uri ≢ []
HasNonEmptyUri _ = Unit {0}
