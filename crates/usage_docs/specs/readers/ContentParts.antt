-- Children by numbers, checked from left to right: the part of a child is the number of the item
-- of its parent's content model that takes it, counted from 1.
use Rattle.std.specs.Prelude.{ℕ, Bool, true, false, ◌&&◌, ◌||◌, not, nat_lt, nat_eq}
use Rattle.xml_names.specs.declared.names.Name.{Name}
use Rattle.usage_docs.specs.declared.schema_table.ElementKind.{ElementKind}
use Rattle.usage_docs.specs.declared.schema_table.ElementKind.TheVariants.{ResourceLists, EntryList}
use Rattle.usage_docs.specs.declared.schema_table.ElementKind.TheVariants.{Entry, EntryRef}
use Rattle.usage_docs.specs.declared.schema_table.ElementKind.TheVariants.{External, DisplayName}
use Rattle.usage_docs.specs.declared.schema_table.ElementKind.TheVariants.{RlsServices, Service}
use Rattle.usage_docs.specs.declared.schema_table.ElementKind.TheVariants.{ResourceList, Packages}
use Rattle.usage_docs.specs.declared.schema_table.ElementKind.TheVariants.{Package}
use Rattle.usage_docs.specs.SchemaTable.{Scope, Child, known, foreign, stray, child_class_of}

-- the part of a child of some kind; 0 if it isn't allowed
unfoldable pub part_of_kind : ElementKind → ElementKind → ℕ
part_of_kind ResourceLists EntryList = 1
part_of_kind EntryList DisplayName = 1
part_of_kind EntryList EntryList = 2
part_of_kind EntryList External = 2
part_of_kind EntryList Entry = 2
part_of_kind EntryList EntryRef = 2
part_of_kind Entry DisplayName = 1
part_of_kind EntryRef DisplayName = 1
part_of_kind External DisplayName = 1
part_of_kind RlsServices Service = 1
part_of_kind Service ResourceList = 1
part_of_kind Service EntryList = 1
part_of_kind Service Packages = 2
part_of_kind Packages Package = 1
part_of_kind row kind = 0

-- the part of the foreign elements; 0 if they aren't allowed
unfoldable pub foreign_part : ElementKind → ℕ
foreign_part ResourceLists = 0
foreign_part EntryList = 3
foreign_part Entry = 2
foreign_part EntryRef = 2
foreign_part External = 2
foreign_part DisplayName = 0
foreign_part RlsServices = 0
foreign_part Service = 3
foreign_part ResourceList = 0
foreign_part Packages = 1
foreign_part Package = 0

-- how many of the first parts take at most one child; the others take any number
unfoldable pub single_parts : ElementKind → ℕ
single_parts ResourceLists = 0
single_parts EntryList = 1
single_parts Entry = 1
single_parts EntryRef = 1
single_parts External = 1
single_parts DisplayName = 0
single_parts RlsServices = 0
single_parts Service = 2
single_parts ResourceList = 0
single_parts Packages = 0
single_parts Package = 0

-- the first part is required
unfoldable pub needs_first : ElementKind → Bool
needs_first Service = true
needs_first kind = false

-- a child of the part `next` may come directly after one of the part `before`, where 0 is the
-- beginning: its part comes later, or is the same and takes any number; and a required first part
-- isn't skipped
unfoldable pub may_follow : ElementKind → ℕ → ℕ → Bool
may_follow row before next =
    (nat_lt before next || (nat_eq before next && nat_lt (single_parts row) next))
    && not (needs_first row && nat_eq before 0 && nat_lt 1 next)

-- the end of the children, after every part
abbrev pub end_part : ℕ
end_part = 4

-- the part of a child; 0 if it isn't allowed
abbrev pub part_of_class : ElementKind → Child → ℕ
part_of_class row (known kind) = part_of_kind row kind
part_of_class row foreign = foreign_part row
part_of_class row stray = 0

unfoldable pub part_of : ElementKind → Scope → Name → ℕ
part_of row c n = part_of_class row (child_class_of row c n)
