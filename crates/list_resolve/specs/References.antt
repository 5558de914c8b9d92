-- References, and their targets. RFC 4826, sections 3.4.5 (the `ref` of an entry-ref is relative
-- to the XCAP root, the `anchor` of an external list is an absolute HTTP URI) and 4.4.5 (so is the
-- text of a resource-list).
use Rattle.std.specs.Prelude.{ℕ, Bool, true, false, List, ◌∷◌, ◌++◌, Option, None, Some, option_map}
use Rattle.xml_tree.specs.Tree.{Content}
use Rattle.xml_names.specs.declared.names.Attr.{Attr}
use Rattle.usage_docs.specs.declared.schema_table.ElementKind.{ElementKind}
use Rattle.usage_docs.specs.declared.schema_table.ElementKind.TheVariants.{EntryList, Entry}
use Rattle.usage_docs.specs.declared.schema_table.ElementKind.TheVariants.{EntryRef, External}
use Rattle.usage_docs.specs.declared.schema_table.ElementKind.TheVariants.{ResourceList}
use Rattle.usage_docs.specs.declared.schema_table.Key.TheVariants.{Ref, Anchor}
use Rattle.usage_docs.specs.KeyAttributes.{value_of}
use Rattle.usage_docs.specs.ReferenceForms.{trim_text}
use Rattle.usage_docs.specs.ContentTexts.{content_text}
use Rattle.xcap_uri.specs.Roots.{slash}
use Rattle.list_resolve.specs.declared.reference.ReferenceTarget.{ReferenceTarget}
use Rattle.list_resolve.specs.declared.reference.ReferenceTarget.TheVariants.{AnEntry, AList}
use Rattle.list_resolve.specs.declared.reference.Reference.{Reference}

-- the reference that an element of this kind is, under this root; in a valid document its
-- attribute exists. The target of a `ref` is the root, a slash and the value.
abbrev pub reference_of : List ℕ → ElementKind → List Attr → Content → Option Reference
reference_of root EntryRef ats k =
    option_map (λ value. record { wanted = AnEntry; target = root ++ slash ∷ value })
    (value_of Ref ats)
reference_of root External ats k =
    option_map (λ value. record { wanted = AList; target = value }) (value_of Anchor ats)
reference_of root ResourceList ats k =
    Some (record { wanted = AList; target = trim_text (content_text k) })
reference_of root _ ats k = None

-- whether a reference to such a target may lead to an element of this kind
abbrev pub is_wanted : ReferenceTarget → ElementKind → Bool
is_wanted AnEntry Entry = true
is_wanted AList EntryList = true
is_wanted _ _ = false
