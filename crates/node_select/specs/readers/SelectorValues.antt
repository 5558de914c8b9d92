-- The values that the grammar of selectors makes of their parts, by name for the reader.
use Rattle.std.specs.Prelude.{ℕ, List, ◌∷◌, Option, unwrap_or}
use Rattle.xml_names.specs.declared.names.Name.{Name}
use Rattle.xml_names.specs.declared.names.Decl.{Decl}
use Rattle.node_select.specs.declared.selector.NameTest.{NameTest}
use Rattle.node_select.specs.declared.selector.NameTest.TheVariants.{Named}
use Rattle.node_select.specs.declared.selector.AttrTest.{AttrTest}
use Rattle.node_select.specs.declared.selector.Step.{Step}
use Rattle.node_select.specs.declared.selector.End.{End}
use Rattle.node_select.specs.declared.selector.End.TheVariants.{Element, Attribute}
use Rattle.node_select.specs.declared.selector.Selector.{Selector}
use Rattle.node_select.specs.declared.selector.PatchEnd.{PatchEnd}
use Rattle.node_select.specs.declared.selector.PatchEnd.TheVariants as patch_ends
use Rattle.node_select.specs.declared.selector.PatchSelector.{PatchSelector}
use Rattle.node_select.specs.Names.{name_uri, attr_uri}

abbrev pub step_from_parts : (NameTest × Option ℕ) × Option AttrTest → Step
step_from_parts x = record { name = x.0.0; position = x.0.1; test = x.1 }

abbrev pub steps_from_parts : {A : Type 0} → A × List A → List A
steps_from_parts x = x.0 ∷ x.1

abbrev pub end_or_element : Option End → End
end_or_element o = unwrap_or o Element

abbrev pub selector_from_parts : List Step × End → Selector
selector_from_parts x = record { steps = x.0; end = x.1 }

abbrev pub patch_end_or_element : Option PatchEnd → PatchEnd
patch_end_or_element o = unwrap_or o patch_ends.Element

abbrev pub patch_selector_from_parts : List Step × PatchEnd → PatchSelector
patch_selector_from_parts x = record { steps = x.0; end = x.1 }

module _ (bindings : List Decl) (default : List ℕ) where
  abbrev pub element_test : Name → NameTest
  element_test name = Named (name_uri bindings default name) name.local

  abbrev pub attr_test : Name × List ℕ → AttrTest
  attr_test x = record { uri = attr_uri bindings x.0; local = x.0.local; value = x.1 }

  abbrev pub attribute_end : Name → End
  attribute_end name = Attribute (attr_uri bindings name) name.local

  abbrev pub patch_attribute_end : Name → PatchEnd
  patch_attribute_end name = patch_ends.Attribute (attr_uri bindings name) name.local
