-- Where no attribute has the value of a test, none passes the test.
use Rattle.std.proofs.Common.{◌≡◌, Bool, true, false, ◌&&◌, ◌||◌, List, [], ◌∷◌, refl, Some}
use Rattle.std.specs.List.{list_any}
use Rattle.std.specs.Str.{bytes_eq}
use Rattle.xml_names.specs.declared.names.Attr.{Attr}
use Rattle.xml_names.specs.declared.names.Decl.{Decl}
use Rattle.node_select.specs.declared.selector.AttrTest.{AttrTest}
use Rattle.node_select.specs.Selection.{some_attr_passes, is_attr_named}

one-less : (a r b c : Bool) → (a || b) ≡ false → (b ≡ false → c ≡ false) → ((a && r) || c) ≡ false
one-less true r b c h f = cc
one-less false r b c h f = f h

pub none_valued : (c : List (List Decl)) (test : AttrTest) (attrs : List Attr) → list_any (λ attr. bytes_eq attr.value test.value) attrs ≡ false → some_attr_passes c (Some test) attrs ≡ false
none_valued c test [] h = refl
none_valued c test (a ∷ attrs) h =
    one-less (bytes_eq a.value test.value) (is_attr_named c test.uri test.local a) (list_any (λ attr. bytes_eq attr.value test.value) attrs) (some_attr_passes c (Some test) attrs) h (none_valued c test attrs)
