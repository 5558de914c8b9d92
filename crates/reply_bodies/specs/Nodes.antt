-- The text of what a selector finds in a document. RFC 4825, sections 7.6, 7.9, 7.10 and 10.
use Rattle.std.specs.Prelude.{ℕ, List, [], Option, Some, option_map, option_and_then}
use Rattle.std.specs.Prelude.{encode_utf8_all, find}
use Rattle.xml_tree.specs.Tree.{Tree, at, last, tree_of}
use Rattle.xml_names.specs.Scopes.{in_scope_bindings}
use Rattle.xml_tree.specs.TreeScopes.{scope_at}
use Rattle.xml_tree.specs.Print.{print}
use Rattle.xml_names.specs.declared.names.Decl.{Decl}
use Rattle.tree_print.specs.AttributeBodyPrints.{body_print}
use Rattle.node_select.specs.Selection.{selected_element_path, is_attr_named}
use Rattle.node_select.specs.declared.selector.End.{End}
use Rattle.node_select.specs.declared.selector.End.TheVariants.{Element, Attribute, Namespaces}
use Rattle.node_select.specs.declared.selector.Selector.{Selector}
use Rattle.reply_text.specs.declared.media_types.MediaType.{MediaType}
use Rattle.reply_text.specs.declared.media_types.MediaType.TheVariants as media

-- of an element in its scope: the element as it is; the value of its attribute of this name, if it
-- has one, as a reply's body spells it; or an empty element with its name that declares all
-- bindings in scope, the default first and then the prefixes by code point
abbrev pub node_text : End → List (List Decl) → Tree → Option (List ℕ)
node_text Element c e = Some (print e)
node_text (Attribute uri local) c e =
    option_map (λ attr. body_print attr.value) (find (is_attr_named c uri local) e.attrs)
node_text Namespaces c e = Some (print (tree_of e.name (in_scope_bindings c) [] (last [])))

-- the text found at the element of a path
abbrev pub node_text_at : End → List ℕ → Tree → Option (List ℕ)
node_text_at end p t = option_and_then (node_text end (scope_at p t)) (at p t)

-- what a selector finds at the element that its steps select
abbrev pub found_text : Tree → Selector → Option (List ℕ)
found_text t selector =
    option_and_then (λ p. node_text_at selector.end p t) (selected_element_path selector.steps t)

-- an optional text in UTF-8
abbrev pub encode_optional : Option (List ℕ) → Option (List ℕ)
encode_optional text = option_map encode_utf8_all text

-- the media type of what a selector finds
abbrev pub node_media_type : End → MediaType
node_media_type Element = media.Element
node_media_type (Attribute uri local) = media.Attribute
node_media_type Namespaces = media.Namespaces
