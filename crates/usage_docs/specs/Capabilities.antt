-- The capabilities document. RFC 4825, section 12 (the usage xcap-caps).
use Rattle.std.specs.Prelude.{ℕ, List, [], ◌∷◌, ◌++◌, codes, map}
use Rattle.xml_tree.specs.Tree.{Content, last, Tree, tree_of, content_of_children}
use Rattle.xml_names.specs.ExpandedNames.{name_from_parts}
use Rattle.xml_names.specs.Scopes.{decl_from_parts}

-- an element of this name and content, and nothing else
abbrev pub element_around : List ℕ → Content → Tree
element_around local content = tree_of (name_from_parts [] local) [] [] content

-- the application usages
abbrev pub auids_element : Tree
auids_element =
    element_around (codes "auids")
    (content_of_children (map (λ auid. element_around (codes "auid") (last auid))
    (codes "resource-lists" ∷ codes "rls-services" ∷ codes "xcap-caps" ∷ [])))

-- the namespaces that documents and replies may have
abbrev pub namespaces_element : Tree
namespaces_element =
    element_around (codes "namespaces")
    (content_of_children (map
    (λ word. element_around (codes "namespace") (last (codes "urn:ietf:params:xml:ns:" ++ word)))
    (codes "resource-lists" ∷ codes "rls-services" ∷ codes "xcap-caps" ∷ codes "xcap-diff"
    ∷ codes "xcap-error" ∷ [])))

-- the document; there are no extensions
abbrev pub capabilities : Tree
capabilities =
    tree_of (name_from_parts [] (codes "xcap-caps"))
    (decl_from_parts [] (codes "urn:ietf:params:xml:ns:xcap-caps") ∷ []) []
    (content_of_children
    (auids_element ∷ element_around (codes "extensions") (content_of_children [])
    ∷ namespaces_element ∷ []))

-- the print of the document, without the line before the root
abbrev pub capabilities_text : List ℕ
capabilities_text =
    codes "<xcap-caps xmlns=\"urn:ietf:params:xml:ns:xcap-caps\">"
    ++ codes "<auids><auid>resource-lists</auid><auid>rls-services</auid><auid>xcap-caps</auid></auids><extensions/>"
    ++ codes "<namespaces><namespace>urn:ietf:params:xml:ns:resource-lists</namespace><namespace>urn:ietf:params:xml:ns:rls-services</namespace>"
    ++ codes "<namespace>urn:ietf:params:xml:ns:xcap-caps</namespace><namespace>urn:ietf:params:xml:ns:xcap-diff</namespace>"
    ++ codes "<namespace>urn:ietf:params:xml:ns:xcap-error</namespace></namespaces></xcap-caps>"
