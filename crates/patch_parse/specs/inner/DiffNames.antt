-- The names of operations, and names in the namespace of diff documents.
use Rattle.patch_parse.specs.declared.patch_actions.OperationName.{OperationName}
use Rattle.std.specs.Prelude.{Bool, ◌&&◌, ◌||◌, codes, List, is_some}
use Rattle.std.specs.Str.{bytes_eq}
use Rattle.xml_names.specs.ExpandedNames.{element_name}
use Rattle.xml_names.specs.declared.names.Attr.{Attr}
use Rattle.xml_names.specs.declared.names.Decl.{Decl}
use Rattle.xml_names.specs.declared.names.Name.{Name}
use Rattle.node_select.specs.Names.{uri_or_empty}
use Rattle.patch_rules.specs.PatchOperations.{plain_value}
use Rattle.patch_rules.specs.Notices.{diff_uri}
use Rattle.patch_rules.specs.PatchOperations as words
use Rattle.patch_parse.specs.declared.patch_actions.OperationName.TheVariants as code_words

abbrev pub operation_name_view : OperationName → words.OperationName
operation_name_view code_words.Add = words.Add
operation_name_view code_words.Exchange = words.Exchange
operation_name_view code_words.Cut = words.Cut

-- a name in the namespace of diff documents, in the scope with the declarations of its element
abbrev pub is_diff_name : List (List Decl) → Name → Bool
is_diff_name c name = bytes_eq (uri_or_empty (element_name c name)) diff_uri

-- a document has a `sel` and at least one etag
abbrev pub is_tagged : List Attr → Bool
is_tagged attrs =
    is_some (plain_value (codes "sel") attrs)
    && (is_some (plain_value (codes "new-etag") attrs)
    || is_some (plain_value (codes "previous-etag") attrs))
