-- The diff document of change records, as a tree. RFC 5874, section 3; RFC 5875, sections 4.3 and
-- 4.7, on what each patching mode sends.
use Rattle.std.specs.Prelude.{◌≡◌, ℕ, zero, suc, ◌+◌, ◌<◌, Bool, true, false, ◌||◌, codes, decimal}
use Rattle.std.specs.Prelude.{List, [], ◌∷◌, ◌++◌, map, length, if◌then◌else◌}
use Rattle.std.specs.List.{list_any}
use Rattle.std.specs.Str.{bytes_eq}
use Rattle.xml_names.specs.declared.limits.TheConstants.{MAX_LEVELS}
use Rattle.xml_tree.specs.Tree.{Content, last, more, comment_node, Tree, tree_of}
use Rattle.xml_tree.specs.Tree.{content_of_children}
use Rattle.xml_names.specs.declared.names.Decl.{Decl}
use Rattle.xml_names.specs.ExpandedNames.{name_from_parts}
use Rattle.edit_ops.specs.Notes.{Note, tag_after}
use Rattle.edit_ops.specs.DiffOperations.{operation, plain_attr}

-- the namespace of diff documents (RFC 5874, section 7.2)
abbrev pub diff_uri : List ℕ
diff_uri = codes "urn:ietf:params:xml:ns:xcap-diff"

-- the greatest height of a diff document: the levels of a document, and the root, its `document`
-- and an operation around them
abbrev pub most_notice_levels : ℕ
most_notice_levels = MAX_LEVELS + 3

-- ---- the prefix of that namespace

-- whether some element of a content declares the prefix
abbrev pub declares_prefix : List ℕ → List Decl → Bool
declares_prefix prefix ds = list_any (λ d. bytes_eq d.prefix prefix) ds

abbrev pub content_declares_prefix : List ℕ → Content → Bool
content_declares_prefix prefix (last t) = false
content_declares_prefix prefix (more t n ds ats c rest) =
    declares_prefix prefix ds
    || (content_declares_prefix prefix c || content_declares_prefix prefix rest)
content_declares_prefix prefix (comment_node t x rest) = content_declares_prefix prefix rest

-- whether an operation, or an element in it, declares the prefix
abbrev pub is_prefix_declared : List Tree → List ℕ → Bool
is_prefix_declared operations prefix =
    list_any
    (λ o. declares_prefix prefix o.decls || content_declares_prefix prefix o.content) operations

-- `d`, `d1`, `d2`, and so on
abbrev pub candidate_prefix : ℕ → List ℕ
candidate_prefix zero = codes "d"
candidate_prefix (suc k) = codes "d" ++ decimal (suc k)

-- k is the number of the first candidate that isn't taken
pub record IsFirstFreeCandidate (taken : List ℕ → Bool) (k : ℕ) : Type 0 where
  pub free : taken (candidate_prefix k) ≡ false
  pub first : (j : ℕ) → j < k → taken (candidate_prefix j) ≡ true

-- that number computed, where at most the given number of candidates is taken
abbrev pub first_free_candidate : (List ℕ → Bool) → ℕ → ℕ → ℕ
first_free_candidate taken zero k = k
first_free_candidate taken (suc turns) k =
    if taken (candidate_prefix k) then first_free_candidate taken turns (suc k) else k

-- the number of declarations in a content and in operations
abbrev pub count_content_declarations : Content → ℕ
count_content_declarations (last t) = 0
count_content_declarations (more t n ds ats c rest) =
    length ds + count_content_declarations c + count_content_declarations rest
count_content_declarations (comment_node t x rest) = count_content_declarations rest

abbrev pub count_declarations : List Tree → ℕ
count_declarations [] = 0
count_declarations (o ∷ os) =
    length o.decls + count_content_declarations o.content + count_declarations os

-- the operations of change records with one prefix
abbrev pub operations : List ℕ → List Note → List Tree
operations prefix ns = map (operation prefix) ns

-- the prefix of a diff document with these records' operations; what they declare doesn't depend
-- on their own prefix
abbrev pub prefix_for : List Note → List ℕ
prefix_for ns =
    candidate_prefix
    (first_free_candidate (is_prefix_declared (operations [] ns))
    (count_declarations (operations [] ns)) 0)

-- ---- `document` elements and the whole diff document

-- what became of one document, by its printed id: from one tag to another by these operations
abbrev pub document : List ℕ → List ℕ → ℕ → ℕ → List Tree → Tree
document prefix sel from to os =
    tree_of (name_from_parts prefix (codes "document")) []
    (plain_attr (codes "sel") sel ∷ plain_attr (codes "new-etag") (decimal to)
    ∷ plain_attr (codes "previous-etag") (decimal from) ∷ [])
    (content_of_children os)

-- one document was removed
abbrev pub removed_document : List ℕ → List ℕ → ℕ → Tree
removed_document prefix sel from =
    tree_of (name_from_parts prefix (codes "document")) []
    (plain_attr (codes "sel") sel ∷ plain_attr (codes "previous-etag") (decimal from) ∷ [])
    (last [])

-- the diff document: the root's text and a slash, and the documents
abbrev pub diff : List ℕ → List ℕ → List Tree → Tree
diff prefix root ds =
    tree_of (name_from_parts prefix (codes "xcap-diff"))
    (record { prefix = prefix; uri = diff_uri } ∷ [])
    (plain_attr (codes "xcap-root") (root ++ codes "/") ∷ []) (content_of_children ds)

-- ---- the diff document of a list of change records since a tag, in each mode; without records it
-- has no document

-- `no-patching`: the tags alone
abbrev pub tags_documents : List ℕ → List ℕ → ℕ → List Note → List Tree
tags_documents prefix sel from [] = []
tags_documents prefix sel from (n ∷ ns) = document prefix sel from (tag_after from (n ∷ ns)) [] ∷ []

-- `xcap-patching`: one document for each change record, with its own tags
abbrev pub patching_documents : List ℕ → List ℕ → List Note → List Tree
patching_documents prefix sel ns =
    map (λ n. document prefix sel n.previous n.next (operation prefix n ∷ [])) ns

-- `aggregate`: one document with all operations in order
abbrev pub aggregate_documents : List ℕ → List ℕ → ℕ → List Note → List Tree
aggregate_documents prefix sel from [] = []
aggregate_documents prefix sel from (n ∷ ns) =
    document prefix sel from (tag_after from (n ∷ ns)) (operations prefix (n ∷ ns)) ∷ []

abbrev pub tags_notice : List ℕ → List ℕ → ℕ → List Note → Tree
tags_notice root sel from ns =
    diff (prefix_for []) root (tags_documents (prefix_for []) sel from ns)

abbrev pub patching_notice : List ℕ → List ℕ → ℕ → List Note → Tree
patching_notice root sel from ns =
    diff (prefix_for ns) root (patching_documents (prefix_for ns) sel ns)

abbrev pub aggregate_notice : List ℕ → List ℕ → ℕ → List Note → Tree
aggregate_notice root sel from ns =
    diff (prefix_for ns) root (aggregate_documents (prefix_for ns) sel from ns)

-- the document is gone
abbrev pub gone_notice : List ℕ → List ℕ → ℕ → Tree
gone_notice root sel from =
    diff (candidate_prefix 0) root (removed_document (candidate_prefix 0) sel from ∷ [])
