-- What one patch operation makes of a tree, or the first thing that is wrong with it. RFC 5261,
-- sections 4 and 5, as far as they are implemented here.
use Rattle.std.specs.Prelude.{ℕ, zero, suc, ◌+◌, ◌-◌, ◌==◌, Bool, true, false, not, ◌&&◌, ◌||◌}
use Rattle.std.specs.Prelude.{nat_le, codes, List, [], ◌∷◌, ◌++◌, length, Option, None, Some}
use Rattle.std.specs.Prelude.{is_some, option_map, option_and_then, unwrap_or, slice_get, Result}
use Rattle.std.specs.Prelude.{Ok, Err, if◌then◌else◌, find}
use Rattle.std.specs.List.{list_all, list_any}
use Rattle.std.specs.Str.{bytes_eq}
use Rattle.xml_grammar.specs.TextReading.{take_while, drop_while}
use Rattle.xml_names.specs.Attributes.{remove_first, with_new_value, has_qname}
use Rattle.xml_names.specs.Characters.{is_name, is_space}
use Rattle.xml_tree.specs.Edits.{change_at, last_number, parent_path, put_over}
use Rattle.xml_names.specs.ExpandedNames.{element_name, attr_name, same_expanded}
use Rattle.xml_tree.specs.Nodes.{exchange_nodes, is_text, nodes_of, place, text_node, text_of}
use Rattle.xml_names.specs.Scopes.{in_scope_bindings, xmlns_prefix}
use Rattle.xml_tree.specs.TreeScopes.{scope_around, scope_at}
use Rattle.xml_tree.specs.Tree.{Content, last, more, comment_node, Tree, at, height, tree_of}
use Rattle.xml_names.specs.declared.names.Name.{Name}
use Rattle.xml_names.specs.declared.names.Decl.{Decl}
use Rattle.xml_names.specs.declared.names.Attr.{Attr}
use Rattle.xml_tree.specs.declared.tree.Node.{Node}
use Rattle.xml_names.specs.declared.limits.TheConstants.{MAX_LEVELS}
use Rattle.xml_tokens.specs.Tokens.{is_different_char}
use Rattle.node_select.specs.Names.{prefix_uri}
use Rattle.node_select.specs.Selection.{is_attr_named, selected_element_path}
use Rattle.node_select.specs.declared.selector.PatchEnd.{PatchEnd}
use Rattle.node_select.specs.declared.selector.PatchEnd.TheVariants.{Element, Attribute, Chars}
use Rattle.node_select.specs.declared.selector.PatchForm.{PatchForm}
use Rattle.node_select.specs.declared.selector.PatchForm.TheVariants as forms
use Rattle.node_select.specs.declared.selector.PatchSelector.{PatchSelector}
use Rattle.patch_rules.specs.Selectors.{Reading}

-- what is wrong with an operation (RFC 5261, section 5.1)
pub data OperationError : Type 0 where
  Directive : OperationError
  Prefix : OperationError
  Unlocated : OperationError
  RootTouched : OperationError
  WrongNodes : OperationError
  NoSpace : OperationError

-- a result once a test has passed, or once an optional value is there
abbrev pub require : {A : Type 0} → Bool → OperationError → Result A OperationError
    → Result A OperationError
require true w r = r
require false w r = Err w

abbrev pub require_some : {A B : Type 0} → Option A → OperationError → (A → Result B OperationError)
    → Result B OperationError
require_some None w k = Err w
require_some (Some x) w k = k x

-- ---- what an operation asks, by its name and its attributes

pub data OperationName : Type 0 where
  Add : OperationName
  Exchange : OperationName
  Cut : OperationName

abbrev pub parse_operation_name : List ℕ → Option OperationName
parse_operation_name local =
    if bytes_eq local (codes "add") then Some Add
    else if bytes_eq local (codes "replace") then Some Exchange
    else if bytes_eq local (codes "remove") then Some Cut
    else None

-- the value of the attribute of this local name that has no prefix, and so no namespace
abbrev pub plain_value : List ℕ → List Attr → Option (List ℕ)
plain_value local ats =
    option_map (λ a. a.value) (find (has_qname (record { prefix = []; local = local })) ats)

-- `sel`, `pos`, `type` and `ws` alone have no namespace
abbrev pub is_known_attribute : Attr → Bool
is_known_attribute a =
    not (bytes_eq a.name.prefix [])
    || (bytes_eq a.name.local (codes "sel")
    || (bytes_eq a.name.local (codes "pos")
    || (bytes_eq a.name.local (codes "type") || bytes_eq a.name.local (codes "ws"))))

-- where an `add` puts its content
pub data Position : Type 0 where
  Append : Position
  Prepend : Position
  Before : Position
  After : Position

abbrev pub parse_position : List ℕ → Option Position
parse_position text =
    if bytes_eq text (codes "prepend") then Some Prepend
    else if bytes_eq text (codes "before") then Some Before
    else if bytes_eq text (codes "after") then Some After
    else None

-- a name of two parts, of which each is an NCName
abbrev pub prefixed_name : List ℕ → List ℕ → Option Name
prefixed_name prefix local =
    if is_name prefix && is_name local then Some (record { prefix = prefix; local = local })
    else None

-- by the text before the first colon (58), and the text from it on: a name without a prefix where
-- there is no colon
abbrev pub name_of_parts : List ℕ → List ℕ → Option Name
name_of_parts local [] =
    if is_name local then Some (record { prefix = []; local = local }) else None
name_of_parts prefix (colon ∷ local) = prefixed_name prefix local

-- the QName of a text; none where a part is missing or is no NCName. Namespaces in XML 1.0,
-- section 4.
abbrev pub parse_qname : List ℕ → Option Name
parse_qname text =
    name_of_parts (take_while (is_different_char 58) text) (drop_while (is_different_char 58) text)

-- `@` (64) and a QName other than `xmlns`
abbrev pub reject_xmlns : Name → Option Name
reject_xmlns n = if bytes_eq n.prefix [] && bytes_eq n.local xmlns_prefix then None else Some n

abbrev pub parse_attr_name : List ℕ → Option Name
parse_attr_name [] = None
parse_attr_name (c ∷ cs) = if c == 64 then option_and_then reject_xmlns (parse_qname cs) else None

-- which white space a `remove` removes too: before the element, and after it
abbrev pub parse_ws : List ℕ → Option (Bool × Bool)
parse_ws text =
    if bytes_eq text (codes "before") then Some (true, false)
    else if bytes_eq text (codes "after") then Some (false, true)
    else if bytes_eq text (codes "both") then Some (true, true)
    else None

-- an operation as it is read: the action it asks for
pub data PatchAction : Type 0 where
  Put : Position → PatchAction
  NewAttr : Name → PatchAction
  Replace : PatchAction
  Remove : Bool → Bool → PatchAction

-- an `add`, by `pos` and `type`, of which at most one is there
abbrev pub add_action : Option (List ℕ) → Option (List ℕ) → Option PatchAction
add_action None None = Some (Put Append)
add_action (Some pos) None = option_map Put (parse_position pos)
add_action None (Some type) = option_map NewAttr (parse_attr_name type)
add_action (Some pos) (Some type) = None

abbrev pub remove_action : Option (List ℕ) → Option PatchAction
remove_action None = Some (Remove false false)
remove_action (Some ws) = option_map (λ s. Remove s.0 s.1) (parse_ws ws)

-- each word takes its own attributes and no others
abbrev pub action_by_name : OperationName → Option (List ℕ) → Option (List ℕ) → Option (List ℕ)
    → Option PatchAction
action_by_name Add pos type ws = if is_some ws then None else add_action pos type
action_by_name Exchange pos type ws =
    if is_some pos || (is_some type || is_some ws) then None else Some Replace
action_by_name Cut pos type ws = if is_some pos || is_some type then None else remove_action ws

-- an `add` selects an element, and so does a `remove` that removes white space; the text of a
-- selector alone decides what it ends in, whether or not its prefixes are bound
abbrev pub is_element_form : PatchForm → Bool
is_element_form forms.Element = true
is_element_form _ = false

abbrev pub accepts_form : PatchAction → PatchForm → Bool
accepts_form (Put position) end = is_element_form end
accepts_form (NewAttr type) end = is_element_form end
accepts_form Replace end = true
accepts_form (Remove before after) end = is_element_form end || not (before || after)

-- ---- what its selector selects

-- the number among the nodes of the k-th text, counted from 1; i nodes come before these
abbrev pub text_number : ℕ → ℕ → List Node → Option ℕ
text_number i k [] = None
text_number i k (n ∷ ns) =
    if is_text n then (if k == 1 then Some i else text_number (suc i) (k - 1) ns)
    else text_number (suc i) k ns

abbrev pub count_texts : List Node → ℕ
count_texts [] = 0
count_texts (n ∷ ns) = if is_text n then suc (count_texts ns) else count_texts ns

-- the text that is meant: the one at a position, or the only one
abbrev pub selected_text : Option ℕ → List Node → Option ℕ
selected_text (Some k) ns = if k == 0 then None else text_number 0 k ns
selected_text None ns = if count_texts ns == 1 then text_number 0 1 ns else None

-- what is selected: an element by its path, an attribute of it by a test, or one of its nodes, a
-- text
pub data Location : Type 0 where
  AtElement : List ℕ → Location
  AtAttr : List ℕ → (Attr → Bool) → Location
  AtText : List ℕ → ℕ → Location

abbrev pub locate_end : PatchEnd → List (List Decl) → List ℕ → Tree → Option Location
locate_end Element c p e = Some (AtElement p)
locate_end (Attribute uri local) c p e =
    if list_any (is_attr_named c uri local) e.attrs then Some (AtAttr p (is_attr_named c uri local))
    else None
locate_end (Chars k) c p e = option_map (AtText p) (selected_text k (nodes_of e.content))

abbrev pub locate : PatchSelector → Tree → Option Location
locate s t =
    option_and_then (λ p. option_and_then (locate_end s.end (scope_at p t) p) (at p t))
    (selected_element_path s.steps t)

-- ---- its content

-- the texts of a content joined, where no element is among its nodes; comments are ignored
abbrev pub content_value : Content → Option (List ℕ)
content_value (last t) = Some t
content_value (more t n ds ats c rest) = None
content_value (comment_node t x rest) = option_map (λ v. t ++ v) (content_value rest)

abbrev pub is_white_space : List ℕ → Bool
is_white_space t = list_all is_space t

-- the one element of a content that has at most white space and comments beside it
abbrev pub is_blank_content : Content → Bool
is_blank_content (last t) = is_white_space t
is_blank_content (more t n ds ats c rest) = false
is_blank_content (comment_node t x rest) = is_white_space t && is_blank_content rest

abbrev pub sole_element : Content → Option Tree
sole_element (last t) = None
sole_element (more t n ds ats c rest) =
    if is_white_space t && is_blank_content rest then Some (tree_of n ds ats c) else None
sole_element (comment_node t x rest) = if is_white_space t then sole_element rest else None

-- neither an element nor a text
abbrev pub has_only_comments : Content → Bool
has_only_comments (last []) = true
has_only_comments (last (x ∷ t)) = false
has_only_comments (more t n ds ats c rest) = false
has_only_comments (comment_node [] x rest) = has_only_comments rest
has_only_comments (comment_node (y ∷ t) x rest) = false

-- ---- the tree after it

abbrev pub nodes_at : List ℕ → Tree → List Node
nodes_at p t = unwrap_or (option_map (λ e. nodes_of e.content) (at p t)) []

-- the number of the element at a path among the nodes of its parent
abbrev pub index_in_parent : List ℕ → Tree → ℕ
index_in_parent p t = place (last_number p) (nodes_at (parent_path p) t)

-- nodes put before the i-th node of the element at a path, and the nodes from one number to
-- another taken out
abbrev pub put_nodes : List ℕ → ℕ → List Node → Tree → Tree
put_nodes p i ns = change_at p (exchange_nodes i i ns)

abbrev pub cut_nodes : List ℕ → ℕ → ℕ → Tree → Tree
cut_nodes p i j = change_at p (exchange_nodes i j [])

abbrev pub put_nodes_at : Position → List ℕ → List Node → Tree → Tree
put_nodes_at Append p ns t = put_nodes p (length (nodes_at p t)) ns t
put_nodes_at Prepend p ns t = put_nodes p 0 ns t
put_nodes_at Before p ns t = put_nodes (parent_path p) (index_in_parent p t) ns t
put_nodes_at After p ns t = put_nodes (parent_path p) (suc (index_in_parent p t)) ns t

-- the element at a path taken out, with the node before or after it, where white space is removed
-- too
abbrev pub cut_element : Bool → Bool → List ℕ → Tree → Tree
cut_element before after p t =
    let i = index_in_parent p t in
    cut_nodes (parent_path p) (i - (if before then 1 else 0)) (suc i + (if after then 1 else 0)) t

abbrev pub with_attrs : (List Attr → List Attr) → Tree → Tree
with_attrs f e = record e { attrs = f e.attrs }

abbrev pub attr_of : Name → List ℕ → Attr
attr_of name value = record { name = name; value = value }

-- the first attribute that passes gets the value; `f` passes for one of them
abbrev pub set_first_value : (Attr → Bool) → List ℕ → List Attr → List Attr
set_first_value f v [] = []
set_first_value f v (a ∷ ats) =
    if f a then (with_new_value v a ∷ ats) else (a ∷ set_first_value f v ats)

-- the white space that a `remove` asks for is there: the node of that number is a text of white
-- space alone
abbrev pub is_space_at : ℕ → List Node → Bool
is_space_at i ns =
    unwrap_or (option_map is_white_space (option_and_then text_of (slice_get ns i))) false

abbrev pub has_space_before : ℕ → List Node → Bool
has_space_before zero ns = false
has_space_before (suc i) ns = is_space_at i ns

abbrev pub has_requested_space : Bool → Bool → List ℕ → Tree → Bool
has_requested_space before after p t =
    let ns = nodes_at (parent_path p) t in
    let i = index_in_parent p t in
    (not before || has_space_before i ns) && (not after || is_space_at (suc i) ns)

-- ---- names that mean the same at the operation and at its place

-- each name of a content means the same in both scopes, extended by the same declarations
abbrev pub names_agree : List (List Decl) → List (List Decl) → Content → Bool
names_agree c d (last t) = true
names_agree c d (more t n ds ats k rest) =
    same_expanded (element_name (c ++ ds ∷ []) n) (element_name (d ++ ds ∷ []) n)
    && (list_all
    (λ a. same_expanded (attr_name (c ++ ds ∷ []) a.name) (attr_name (d ++ ds ∷ []) a.name)) ats
    && (names_agree (c ++ ds ∷ []) (d ++ ds ∷ []) k && names_agree c d rest))
names_agree c d (comment_node t x rest) = names_agree c d rest

-- the scope of the place where content goes
abbrev pub scope_of_put : Position → List ℕ → Tree → List (List Decl)
scope_of_put Append p t = scope_at p t
scope_of_put Prepend p t = scope_at p t
scope_of_put Before p t = scope_around p t
scope_of_put After p t = scope_around p t

-- ---- the remaining tests, in order, and the result; c is the scope at the operation

abbrev pub is_within_depth : Tree → Bool
is_within_depth t = nat_le (height t) MAX_LEVELS

abbrev pub is_not_beside_root : Position → List ℕ → Bool
is_not_beside_root Before [] = false
is_not_beside_root After [] = false
is_not_beside_root _ _ = true

abbrev pub is_below_root : List ℕ → Bool
is_below_root [] = false
is_below_root (n ∷ p) = true

-- the new tree, once it isn't too deep and the names mean the same in the scope of their place
abbrev pub check_tree : Tree → Bool → Result Tree OperationError
check_tree new alike = require (is_within_depth new) WrongNodes (require alike Prefix (Ok new))

abbrev pub put_result : List (List Decl) → Position → List ℕ → Content → Tree
    → Result Tree OperationError
put_result c position p content t =
    require (is_not_beside_root position p) RootTouched
    (require (is_some (slice_get (nodes_of content) 0)) WrongNodes
    (check_tree (put_nodes_at position p (nodes_of content) t)
    (names_agree c (scope_of_put position p t) content)))

-- whether the element at a path has an attribute of the expanded name that a name has in a scope
abbrev pub has_attr_named : List (List Decl) → Name → List ℕ → Tree → Bool
has_attr_named c name p t =
    list_any (λ a. same_expanded (attr_name (scope_at p t) a.name) (attr_name c name))
    (unwrap_or (option_map (λ e. e.attrs) (at p t)) [])

-- an attribute put after the others of the element at a path
abbrev pub add_attr_at : List ℕ → Name → List ℕ → Tree → Tree
add_attr_at p name value = change_at p (with_attrs (λ ats. ats ++ attr_of name value ∷ []))

abbrev pub new_attr_result : List (List Decl) → Name → List ℕ → Content → Tree
    → Result Tree OperationError
new_attr_result c name p content t =
    require_some (content_value content) WrongNodes (λ value.
    require (not (has_attr_named c name p t)) WrongNodes
    (check_tree (add_attr_at p name value t)
    (same_expanded (attr_name c name) (attr_name (scope_at p t) name))))

abbrev pub replace_result : List (List Decl) → Location → Content → Tree
    → Result Tree OperationError
replace_result c (AtElement p) content t =
    require_some (sole_element content) WrongNodes (λ e.
    check_tree (put_over p e t) (names_agree c (scope_around p t) content))
replace_result c (AtAttr p f) content t =
    require_some (content_value content) WrongNodes (λ v.
    check_tree (change_at p (with_attrs (set_first_value f v)) t) true)
replace_result c (AtText p i) content t =
    require_some (content_value content) WrongNodes (λ v.
    check_tree (change_at p (exchange_nodes i (suc i) (text_node v)) t) true)

abbrev pub remove_result : Bool → Bool → Location → Content → Tree → Result Tree OperationError
remove_result before after (AtElement p) content t =
    require (is_below_root p) RootTouched
    (require (has_only_comments content) WrongNodes
    (require (has_requested_space before after p t) NoSpace
    (check_tree (cut_element before after p t) true)))
remove_result before after (AtAttr p f) content t =
    require (has_only_comments content) WrongNodes
    (check_tree (change_at p (with_attrs (remove_first f)) t) true)
remove_result before after (AtText p i) content t =
    require (has_only_comments content) WrongNodes (check_tree (cut_nodes p i (suc i) t) true)

-- the path of the selected element, or of the element that has the selected attribute or text
abbrev pub location_path : Location → List ℕ
location_path (AtElement p) = p
location_path (AtAttr p f) = p
location_path (AtText p i) = p

abbrev pub apply_action : List (List Decl) → PatchAction → Location → Content → Tree
    → Result Tree OperationError
apply_action c (Put position) location content t =
    put_result c position (location_path location) content t
apply_action c (NewAttr name) location content t =
    new_attr_result c name (location_path location) content t
apply_action c Replace location content t = replace_result c location content t
apply_action c (Remove before after) location content t =
    remove_result before after location content t

-- ---- the whole operation

-- the prefix of a new attribute's name is bound at the operation
abbrev pub is_type_prefix_bound : List (List Decl) → PatchAction → Bool
is_type_prefix_bound c (NewAttr name) =
    bytes_eq name.prefix [] || is_some (prefix_uri (in_scope_bindings c) name.prefix)
is_type_prefix_bound c _ = true

-- the action, by the name and the attributes of an operation
abbrev pub operation_action : Name → List Attr → Option PatchAction
operation_action name attrs =
    option_and_then (λ w.
    action_by_name w (plain_value (codes "pos") attrs) (plain_value (codes "type") attrs)
    (plain_value (codes "ws") attrs))
    (parse_operation_name name.local)

-- an action at the location that its selector selects
abbrev pub locate_and_apply : List (List Decl) → PatchAction → PatchSelector → Content → Tree
    → Result Tree OperationError
locate_and_apply here task selector content t =
    require_some (locate selector t) Unlocated
    (λ location. apply_action here task location content t)

-- an action with a selector as it is read: its end suits the action, and the prefixes of its names
-- are bound
abbrev pub apply_by_reading : List (List Decl) → PatchAction → Reading → Content → Tree
    → Result Tree OperationError
apply_by_reading here task reading content t =
    require (accepts_form task reading.ends) Directive
    (require_some (reading.means here) Prefix (λ selector.
    require (is_type_prefix_bound here task) Prefix
    (locate_and_apply here task selector content t)))

-- an operation that has a selector, in the scope at it; `read` gives the meaning of a selector
abbrev pub apply_selected : (List ℕ → Option Reading) → List (List Decl) → List ℕ → Tree → Tree
    → Result Tree OperationError
apply_selected read here sel o t =
    require_some (operation_action o.name o.attrs) Directive (λ task.
    require_some (read sel) Directive (λ reading. apply_by_reading here task reading o.content t))

-- an operation in the scope c: the tree after it, or the first thing that is wrong with it
abbrev pub apply_operation : (List ℕ → Option Reading) → List (List Decl) → Tree → Tree
    → Result Tree OperationError
apply_operation read c o t =
    require_some (plain_value (codes "sel") o.attrs) Directive (λ sel.
    require (list_all is_known_attribute o.attrs) Directive
    (apply_selected read (c ++ o.decls ∷ []) sel o t))
