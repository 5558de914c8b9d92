-- Repeated keys among siblings, as they are found: the keys of all children are sorted, and
-- neighbours are compared.
use Rattle.std.specs.Prelude.{◌≡◌, ◌≤◌, ◌<◌, ◌-◌, ℕ, List, [], ◌∷◌, ◌++◌, Option, None, Some}
use Rattle.std.specs.Prelude.{option_map, option_and_then, slice_index_or, length, if◌then◌else◌}
use Rattle.std.specs.Bool.{nat_le}
use Rattle.std.specs.List.{All, Contains}
use Rattle.xml_tree.specs.Tree.{Tree}
use Rattle.xml_names.specs.declared.names.Attr.{Attr}
use Rattle.usage_docs.specs.declared.key_repeats.KeyedChild.{KeyedChild}
use Rattle.usage_docs.specs.declared.key_repeats.KeyRepeat.{KeyRepeat}
use Rattle.usage_docs.specs.declared.schema_table.Key.{Key}
use Rattle.usage_docs.specs.declared.schema_table.ElementKind.{ElementKind}
use Rattle.usage_docs.specs.UniqueKeys.{SiblingKey, RepeatsKey, sibling_key, sibling_key_at}
use Rattle.usage_docs.specs.KeyAttributes.{key_value}
use Rattle.usage_docs.specs.SchemaTable.{Scope}

-- the kind and key of a stored entry
abbrev pub entry_sibling_key : KeyedChild → SiblingKey
entry_sibling_key k = sibling_key k.kind k.value.now

-- the kind and key of an element of this kind with these attributes
abbrev pub sibling_key_by_attrs : Option ElementKind → List Attr → Option SiblingKey
sibling_key_by_attrs kind ats =
    option_and_then (λ k. option_map (sibling_key k) (key_value k ats)) kind

-- a list with the key of the i-th child added, if it has one
abbrev pub EntersKey : Option SiblingKey → ℕ → List KeyedChild → List KeyedChild → Type 0
EntersKey None i old new = new ≡ old
EntersKey (Some m) i old new =
    (k : KeyedChild) × ((new ≡ old ++ k ∷ []) × (entry_sibling_key k ≡ m) × (k.child ≡ i))

-- a list has the keys of the first n siblings, and nothing else
pub record HoldsKeys (row : ElementKind) (c : Scope) (child_elements : List Tree) (n : ℕ)
    (keys : List KeyedChild) : Type 0 where
  pub each : All
      (λ k. sibling_key_at row c child_elements k.child ≡ Some (entry_sibling_key k)) keys
  pub all : (i : ℕ) (m : SiblingKey) → i < n → sibling_key_at row c child_elements i ≡ Some m
      → (k : KeyedChild) × (Contains keys k × (k.child ≡ i) × (entry_sibling_key k ≡ m))

-- ---- neighbours

-- two entries have the same kind and key, and the second child comes after the first
abbrev pub IsRepeatPair : KeyedChild → KeyedChild → Type 0
IsRepeatPair a b = (entry_sibling_key a ≡ entry_sibling_key b) × (a.child < b.child)

-- of two children, by number and kind, the earlier one
abbrev pub earlier_child : ℕ × ElementKind → Option (ℕ × ElementKind) → ℕ × ElementKind
earlier_child x None = x
earlier_child x (Some y) = if nat_le y.0 x.0 then y else x

-- the s-th entry of a list and the one before it are such a pair; d stands for a missing entry
abbrev pub ArePairAt : List KeyedChild → ℕ → KeyedChild → Type 0
ArePairAt keys s d = IsRepeatPair (slice_index_or keys (s - 1) d) (slice_index_or keys s d)

-- the same, and the second child has this number and kind
abbrev pub HasSecondAt : List KeyedChild → ℕ → ℕ × ElementKind → KeyedChild → Type 0
HasSecondAt keys s x d =
    ArePairAt keys s d × ((slice_index_or keys s d).child ≡ x.0)
    × ((slice_index_or keys s d).kind ≡ x.1)

-- some neighbours are such a pair, and its second child has this number and kind
abbrev pub IsSecondOfPair : List KeyedChild → ℕ × ElementKind → Type 0
IsSecondOfPair keys x =
    (s : ℕ) × ((0 < s) × (s < length keys) × ((d : KeyedChild) → HasSecondAt keys s x d))

-- this holds of the second child of each such pair among the first n entries
abbrev pub HoldsOfSeconds : List KeyedChild → ℕ → (ℕ → Type 0) → Type 0
HoldsOfSeconds keys n P =
    (s : ℕ) (d : KeyedChild) → 0 < s → s < n → ArePairAt keys s d
    → P (slice_index_or keys s d).child

-- of the neighbours up to the n-th entry of a list that are such a pair, the earliest second one,
-- by number and kind
abbrev pub IsLeastPair : List KeyedChild → ℕ → Option (ℕ × ElementKind) → Type 0
IsLeastPair keys n None = HoldsOfSeconds keys n (λ _. ⊥)
IsLeastPair keys n (Some least) =
    IsSecondOfPair keys least × HoldsOfSeconds keys n (λ i. least.0 ≤ i)

-- the first sibling that has the kind and the key of an earlier one
abbrev pub IsFirstRepeat : ElementKind → Scope → List Tree → Option KeyRepeat → Type 0
IsFirstRepeat row c child_elements None =
    (i : ℕ) (key : Key) → RepeatsKey row c child_elements i key → ⊥
IsFirstRepeat row c child_elements (Some r) =
    RepeatsKey row c child_elements r.child r.key
    × ((i : ℕ) (key : Key) → RepeatsKey row c child_elements i key → r.child ≤ i)
