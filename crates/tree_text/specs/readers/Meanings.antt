-- What the code keeps of the names of a tag: the bytes of the prefix that a declaration declares,
-- the expanded name of an attribute. Namespaces in XML 1.0, section 6.3.
use Rattle.std.specs.Prelude.{◌≡◌, ℕ, Bool, true, false, ◌&&◌, ◌==◌, not, List, Option, Some, None}
use Rattle.std.specs.Prelude.{option_map, option_and_then, encode_utf8_all}
use Rattle.std.specs.Str.{bytes_eq}
use Rattle.std.specs.List.{list_any}
use Rattle.std.specs.BTreeSet.{BTreeSet, contains}
use Rattle.xml_names.specs.ExpandedNames.{attr_name}
use Rattle.xml_names.specs.declared.names.Name.{Name}
use Rattle.tree_text.specs.declared.bindings.Bindings.{Bindings}
use Rattle.tree_text.specs.declared.attribute_meanings.Meaning.{Meaning}
use Rattle.tree_text.specs.declared.attribute_meanings.Meaning.TheVariants.{Declared, Named}
use Rattle.tree_text.specs.declared.raw_attribute.RawAttribute.{RawAttribute}
use Rattle.tree_text.specs.contracts.attribute_meanings.MeaningOrd.TheImpl.{cmp-value}
use Rattle.tree_text.specs.readers.Bindings.{lists, namespace_number}
use Rattle.tree_text.specs.Names.{raw_attribute_decl, is_xmlns_attr_name}

-- the number of the namespace of an attribute of this name
abbrev pub attr_number : Bindings → Name → Option ℕ
attr_number here n =
    option_and_then (namespace_number here.namespaces) (attr_name (lists here) n).uri

-- whether two numbers are equal
abbrev pub same_number : Option ℕ → Option ℕ → Bool
same_number None None = true
same_number None (Some m) = false
same_number (Some n) None = false
same_number (Some n) (Some m) = n == m

-- this is the meaning of a raw attribute
abbrev pub IsMeaningOf : Bindings → RawAttribute → Meaning → Type 0
IsMeaningOf here s (Declared prefix) =
    (is_xmlns_attr_name s.name ≡ true)
    × (prefix.now ≡ encode_utf8_all (raw_attribute_decl s).prefix)
IsMeaningOf here s (Named local n) =
    (is_xmlns_attr_name s.name ≡ false) × (local.now ≡ s.name.local)
    × (option_map Some n
    ≡ option_map (namespace_number here.namespaces) (attr_name (lists here) s.name).uri)

-- whether a raw attribute has this meaning
abbrev pub has_meaning : Bindings → Meaning → RawAttribute → Bool
has_meaning here (Declared prefix) s =
    is_xmlns_attr_name s.name && bytes_eq (encode_utf8_all (raw_attribute_decl s).prefix) prefix.now
has_meaning here (Named local n) s =
    not (is_xmlns_attr_name s.name)
    && (same_number (attr_number here s.name) n && bytes_eq s.name.local local.now)

-- a set holds exactly the meanings of these raw attributes
abbrev pub HoldsMeaningsOf : Bindings → List RawAttribute → BTreeSet Meaning → Type 0
HoldsMeaningsOf here es seen = (m : Meaning)
    → contains cmp-value.it seen m ≡ list_any (has_meaning here m) es
