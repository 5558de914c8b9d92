-- Documents and diff documents by the attributes that they are given one after another.
use Rattle.std.proofs.Common.{◌≡◌, ℕ, true, false, List, [], ◌∷◌, ◌++◌, codes, refl, ap, ◌∙◌}
use Rattle.xml_tree.specs.Tree.{Tree}
use Rattle.xml_tree.specs.Edits.{with_elem}
use Rattle.xml_names.specs.ExpandedNames.{name_from_parts as in_diff}
use Rattle.edit_ops.specs.Notes.{Note, tag_after}
use Rattle.edit_ops.specs.DiffOperations.{plain_attr as plain}
use Rattle.patch_rules.specs.Notices.{aggregate_documents, diff, diff_uri, document, operations, prefix_for, tags_documents}
use Rattle.edit_ops.specs.RecordParts.{has_no_notes}
use Rattle.patch_rules.specs.inner.AppendedElements.{with_elements}
use Rattle.patch_write.specs.Modes.{notice_of}
use Rattle.patch_write.specs.inner.Modes.{mode_documents, reported_notes}
use Rattle.xcap_uri.specs.declared.target.Mode.{Mode}
use Rattle.xcap_uri.specs.declared.target.Mode.TheVariants.{NoPatching, XcapPatching, Aggregate}
use Rattle.patch_write.proofs.ElementLists.{all-listed}

-- ---- whole diff documents

by_mode : (mode : Mode) (root sel : List ℕ) (from : ℕ) (ns : List Note) → diff (prefix_for (reported_notes mode ns)) root (mode_documents mode (prefix_for (reported_notes mode ns)) sel from ns) ≡ notice_of mode root sel from ns
by_mode NoPatching root sel from ns = refl
by_mode XcapPatching root sel from ns = refl
by_mode Aggregate root sel from ns = refl

pub notice_is : (mode : Mode) (prefix name root sel : List ℕ) (from : ℕ) (told ns : List Note) (notice all : Tree) → told ≡ reported_notes mode ns → prefix ≡ prefix_for told → name ≡ sel → notice ≡ diff prefix root []
    → all ≡ with_elements (mode_documents mode prefix name from ns) notice → all ≡ notice_of mode root sel from ns
notice_is mode prefix name root sel from told ns notice all is_told is_prefix is_sel is_notice put =
    let first : prefix ≡ prefix_for (reported_notes mode ns) = is_prefix ∙ ap prefix_for is_told in
    put ∙ ap (with_elements (mode_documents mode prefix name from ns)) is_notice
    ∙ all-listed (in_diff prefix (codes "xcap-diff")) (record { prefix = prefix; uri = diff_uri } ∷ []) (plain (codes "xcap-root") (root ++ codes "/") ∷ []) (mode_documents mode prefix name from ns)
    ∙ (λ i. diff (first i) root (mode_documents mode (first i) (is_sel i) from ns)) ∙ by_mode mode root sel from ns

-- ---- documents by mode

pub none_told : (mode : Mode) (prefix sel : List ℕ) (from : ℕ) (ns : List Note) (t : Tree) → has_no_notes ns ≡ true → t ≡ with_elements (mode_documents mode prefix sel from ns) t
none_told NoPatching prefix sel from [] t h = refl
none_told XcapPatching prefix sel from [] t h = refl
none_told Aggregate prefix sel from [] t h = refl
none_told mode prefix sel from (n ∷ ns) t h = cc

pub tags_told : (prefix sel : List ℕ) (from : ℕ) (ns : List Note) (e t all : Tree) → has_no_notes ns ≡ false → e ≡ document prefix sel from (tag_after from ns) [] → all ≡ record t { content = with_elem e t.content }
    → all ≡ with_elements (tags_documents prefix sel from ns) t
tags_told prefix sel from [] e t all some is put = cc
tags_told prefix sel from (n ∷ ns) e t all some is put = put ∙ ap (λ (x : Tree). record t { content = with_elem x t.content }) is

pub all_told : (prefix sel : List ℕ) (from : ℕ) (ns : List Note) (e t all : Tree) → has_no_notes ns ≡ false → e ≡ document prefix sel from (tag_after from ns) (operations prefix ns) → all ≡ record t { content = with_elem e t.content }
    → all ≡ with_elements (aggregate_documents prefix sel from ns) t
all_told prefix sel from [] e t all some is put = cc
all_told prefix sel from (n ∷ ns) e t all some is put = put ∙ ap (λ (x : Tree). record t { content = with_elem x t.content }) is
