-- The parts of a print that are still to come: what each prints, how many pieces it gives at most,
-- and how many places of the stack it takes at most while it does.
use Rattle.std.specs.Prelude.{ℕ, ◌+◌, ◌*◌, ◌<◌, ◌≤◌, List, [], ◌∷◌, ◌++◌, chars, flat_map, length}
use Rattle.std.specs.Prelude.{◌≡◌}
use Rattle.xml_names.specs.declared.names.Attr.{Attr}
use Rattle.xml_names.specs.declared.names.Decl.{Decl}
use Rattle.xml_names.specs.Markup.{byte_len, end_tag_text, print_attr, print_decl, print_name}
use Rattle.xml_tree.specs.Nodes.{content_of}
use Rattle.xml_tree.specs.Print.{rest_of_element, is_empty, print, print_content}
use Rattle.xml_tree.specs.Tree.{Content, last, more, comment_node, Tree, content_height}
use Rattle.xml_tree.specs.declared.tree.Node.{Node}
use Rattle.xml_tree.specs.declared.tree.Node.TheVariants.{Elem, Chars, Comment}
use Rattle.tree_print.specs.declared.parts.TheConstants.{CAPACITY}
use Rattle.tree_print.specs.declared.parts.Part.{Part}
use Rattle.tree_print.specs.declared.parts.Part.TheVariants.{Plain, Escaped, Broken, Named, Decls}
use Rattle.tree_print.specs.declared.parts.Part.TheVariants.{Attrs, Nodes, EndTag, Whole}
use Rattle.tree_print.specs.inner.Escapes.{escaped_char}

-- what follows the attributes of an element
abbrev pub ending_print : Tree → List ℕ
ending_print e = rest_of_element e.name (is_empty e.content) (print_content e.content)

-- what a part prints
abbrev pub part_print : Part → List ℕ
part_print (Plain text) = chars text.now
part_print (Escaped text place) = flat_map (escaped_char place) (chars text.now)
part_print (Broken text place) = flat_map (escaped_char place) (chars text.now)
part_print (Named name) = print_name name.now
part_print (Decls decls e) =
    flat_map print_decl decls.now ++ (flat_map print_attr e.now.attrs ++ ending_print e.now)
part_print (Attrs attrs e) = flat_map print_attr attrs.now ++ ending_print e.now
part_print (Nodes nodes) = print_content (content_of nodes.now)
part_print (EndTag name) = end_tag_text name.now
part_print (Whole e) = print e.now

-- ---- how many pieces there are at most

-- the sum of a number of each item
abbrev pub total : {A : Type 0} → (A → ℕ) → List A → ℕ
total f [] = 0
total f (x ∷ xs) = f x + total f xs

abbrev pub text_pieces : ℕ → ℕ
text_pieces len = 1 + 2 * len

abbrev pub decl_pieces : Decl → ℕ
decl_pieces d = 4 + text_pieces (byte_len d.uri)

abbrev pub attr_pieces : Attr → ℕ
attr_pieces a = 6 + text_pieces (byte_len a.value)

-- those of an element's front, up to and including its attributes
abbrev pub front_pieces : List Decl → List Attr → ℕ
front_pieces ds ats = total decl_pieces ds + total attr_pieces ats

abbrev pub content_pieces : Content → ℕ
content_pieces (last t) = 1 + text_pieces (byte_len t)
content_pieces (more t n ds ats c rest) =
    text_pieces (byte_len t) + (10 + front_pieces ds ats + content_pieces c) + content_pieces rest
content_pieces (comment_node t x rest) = text_pieces (byte_len t) + 3 + content_pieces rest

abbrev pub ending_pieces : Tree → ℕ
ending_pieces e = 6 + content_pieces e.content

abbrev pub element_pieces : Tree → ℕ
element_pieces e = 4 + front_pieces e.decls e.attrs + ending_pieces e

abbrev pub node_pieces : Node → ℕ
node_pieces (Elem e) = element_pieces e
node_pieces (Chars t) = text_pieces (byte_len t)
node_pieces (Comment x) = 3

abbrev pub part_pieces : Part → ℕ
part_pieces (Plain text) = 1
part_pieces (Escaped text place) = text_pieces (length text.now)
part_pieces (Broken text place) = text_pieces (length text.now)
part_pieces (Named name) = 3
part_pieces (Decls decls e) =
    total decl_pieces decls.now + (total attr_pieces e.now.attrs + ending_pieces e.now)
part_pieces (Attrs attrs e) = total attr_pieces attrs.now + ending_pieces e.now
part_pieces (Nodes nodes) = 1 + total node_pieces nodes.now
part_pieces (EndTag name) = 5
part_pieces (Whole e) = element_pieces e.now

-- ---- how many places of the stack a part takes at most

abbrev pub nodes_room : ℕ → ℕ
nodes_room levels = 8 + 2 * levels

abbrev pub part_room : Part → ℕ
part_room (Plain text) = 1
part_room (Escaped text place) = 2
part_room (Broken text place) = 2
part_room (Named name) = 2
part_room (Decls decls e) = 1 + nodes_room (content_height e.now.content)
part_room (Attrs attrs e) = 1 + nodes_room (content_height e.now.content)
part_room (Nodes nodes) = nodes_room (content_height (content_of nodes.now))
part_room (EndTag name) = 3
part_room (Whole e) = 1 + nodes_room (content_height e.now.content)

-- each part, with those below it, has the places that it may take
abbrev pub HaveRoom : List Part → Type 0
HaveRoom [] = Unit {0}
HaveRoom (part ∷ below) = (length below + part_room part ≤ CAPACITY) × HaveRoom below

-- What is still to come: its characters, how many pieces they are at most, and how many places of
-- the stack are taken.
pub record Pending : Type 0 where
  pub text : List ℕ
  pub pieces : ℕ
  pub taken : ℕ

-- what these parts are, the next one first
abbrev pub pending : List Part → Pending
pending parts =
    record {
      text = flat_map part_print parts;
      pieces = total part_pieces parts;
      taken = length parts;
    }

-- A part that is no more on the stack was opened: this piece is the front of its print, and the
-- rest of it is on the stack.
pub record Opens (text : List ℕ) (pieces : ℕ) (old : Pending) (piece : List ℕ) (new : Pending)
    : Type 0 where
  pub splits : text ++ old.text ≡ chars piece ++ new.text
  pub fewer : new.pieces < pieces + old.pieces
