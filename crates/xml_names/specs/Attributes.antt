-- The attributes of an element, distinguished by their names as written (XML 1.0, 3.1: no name
-- appears twice in one tag).
use Rattle.std.specs.Prelude.{ℕ, zero, suc, Bool, List, [], ◌∷◌, if◌then◌else◌, ◌&&◌}
use Rattle.std.specs.Str.{bytes_eq}
use Rattle.xml_names.specs.declared.names.Name.{Name}
use Rattle.xml_names.specs.declared.names.Attr.{Attr}

-- whether two names have the same prefix and the same local name
abbrev pub same_name : Name → Name → Bool
same_name a b = bytes_eq a.prefix b.prefix && bytes_eq a.local b.local

-- whether an attribute has this name
abbrev pub has_qname : Name → Attr → Bool
has_qname n a = same_name a.name n

-- the attribute with the value replaced
abbrev pub with_new_value : List ℕ → Attr → Attr
with_new_value v a = record a { value = v }

-- the first item that passes the test is changed by f; where none passes, x is appended
abbrev pub change_first : {A : Type 0} → (A → Bool) → (A → A) → A → List A → List A
change_first p f x [] = x ∷ []
change_first p f x (y ∷ ys) = if p y then (f y ∷ ys) else (y ∷ change_first p f x ys)

-- without the first item that passes the test
abbrev pub remove_first : {A : Type 0} → (A → Bool) → List A → List A
remove_first p [] = []
remove_first p (y ∷ ys) = if p y then ys else (y ∷ remove_first p ys)

-- the i-th item, counted from 0, is changed by f
abbrev pub change_item : {A : Type 0} → ℕ → (A → A) → List A → List A
change_item i f [] = []
change_item zero f (y ∷ ys) = f y ∷ ys
change_item (suc i) f (y ∷ ys) = y ∷ change_item i f ys

-- the attribute of this name gets the value, at its place; where there is none, a new one is
-- appended
abbrev pub with_attr : Name → List ℕ → List Attr → List Attr
with_attr n v ats =
    change_first (has_qname n) (with_new_value v) (record { name = n; value = v }) ats

-- without the attribute of this name
abbrev pub without_attr : Name → List Attr → List Attr
without_attr n ats = remove_first (has_qname n) ats

-- the i-th attribute gets the value
abbrev pub with_value_at : ℕ → List ℕ → List Attr → List Attr
with_value_at i v ats = change_item i (with_new_value v) ats
