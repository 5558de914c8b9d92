-- The URIs in an error document for a missing parent. RFC 4825, section 11: the closest ancestor
-- that exists. A node's URI is the document's, the separator `~~` and the node selector (section
-- 6), in which `[` and `]` are escaped (RFC 3986, section 3.3).
use Rattle.std.specs.Prelude.{ℕ, nat_eq, List, [], ◌∷◌, ◌++◌, take, codes, flat_map, if◌then◌else◌}
use Rattle.std.specs.Option.{option_map_or}
use Rattle.xml_tree.specs.Tree.{Tree}
use Rattle.node_select.specs.Selection.{selected_element_path, longest_match_in}
use Rattle.xml_tree.specs.PathTexts.{path_text}
use Rattle.node_select.specs.declared.selector.Step.{Step}
use Rattle.doc_names.specs.DocIds.{id_text}
use Rattle.doc_names.specs.Usages.{auid_text}
use Rattle.doc_names.specs.declared.doc_id.Auid.{Auid}
use Rattle.doc_names.specs.declared.doc_id.Home.{Home}
use Rattle.doc_names.specs.declared.doc_id.Home.TheVariants.{Global, User}
use Rattle.doc_names.specs.declared.doc_id.DocId.{DocId}
use Rattle.doc_names.specs.PercentEscapes.{escape_part}

-- the URI of a home: the root, the AUID, and `global` or `users` and the user
abbrev pub home_uri : List ℕ → Auid → Home → List ℕ
home_uri root auid Global = root ++ (codes "/" ++ (auid_text auid ++ codes "/global"))
home_uri root auid (User xui) =
    root ++ (codes "/" ++ (auid_text auid ++ (codes "/users/" ++ escape_part xui)))

-- a character of a node selector in a URI: `[` (91) and `]` (93) are escaped
abbrev pub bracket_escape : ℕ → List ℕ
bracket_escape c =
    if nat_eq c 91 then codes "%5B" else (if nat_eq c 93 then codes "%5D" else c ∷ [])

-- the URI of the closest ancestor of a node that doesn't exist: of the element that the longest
-- prefix of the steps selects, or of the document where not even the first step selects the root
abbrev pub ancestor_uri : List ℕ → DocId → Tree → List Step → List ℕ
ancestor_uri root id t steps =
    (root ++ (codes "/" ++ id_text id))
    ++ option_map_or (λ p. codes "/~~/" ++ flat_map bracket_escape (path_text p))
    (selected_element_path (take (longest_match_in steps t) steps) t) []
