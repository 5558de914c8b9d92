-- The first fault of a tree as a document of its usage, or none. RFC 4826, sections 3.2 and 4.2
-- (the schemas), 3.4.5 and 4.4.5 (the form of references and the uniqueness of keys). The order
-- of the three tests is this server's own.
use Rattle.std.specs.Prelude.{Option, None, Some}
use Rattle.xml_tree.specs.Tree.{Tree}
use Rattle.doc_names.specs.declared.usages.Usage.{Usage}
use Rattle.usage_docs.specs.UniqueKeys.{HasUniqueKeys, IsFirstClash}
use Rattle.usage_docs.specs.ReferenceForms.{MeetsConstraints}
use Rattle.usage_docs.specs.Validity.{IsValidDocument}
use Rattle.usage_docs.specs.declared.validation.Fault.{Fault}
use Rattle.usage_docs.specs.declared.validation.Fault.TheVariants.{Invalid, Unformed, Repeated}

-- The first fault of a tree: it isn't valid; or it is, and a reference doesn't have its form; or
-- all references have, and this is the first element that repeats a sibling's key; or it has no
-- fault, and is a document of the usage.
abbrev pub HasFirstFault : Usage → Tree → Option Fault → Type 0
HasFirstFault usage t (Some Invalid) = IsValidDocument usage t → ⊥
HasFirstFault usage t (Some Unformed) = IsValidDocument usage t × (MeetsConstraints usage t → ⊥)
HasFirstFault usage t (Some (Repeated clash)) =
    IsValidDocument usage t × MeetsConstraints usage t × IsFirstClash usage t (Some clash)
HasFirstFault usage t None =
    IsValidDocument usage t × MeetsConstraints usage t × HasUniqueKeys usage t
