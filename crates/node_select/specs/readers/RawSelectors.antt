-- Selectors as the code reads them: with the prefixes of their names, and with the widths that
-- give the place of each name.
use Rattle.std.specs.Prelude.{ℕ, suc, ◌+◌, ◌≤◌, ◌<◌, ◌^◌, List, [], ◌∷◌, Option, None, Some}
use Rattle.std.specs.Prelude.{option_map, if◌then◌else◌}
use Rattle.xml_names.specs.declared.names.Name.{Name}
use Rattle.xml_names.specs.declared.names.Decl.{Decl}
use Rattle.node_select.specs.declared.selector.NameTest.{NameTest}
use Rattle.node_select.specs.declared.selector.NameTest.TheVariants.{Any, Named}
use Rattle.node_select.specs.declared.selector.AttrTest.{AttrTest}
use Rattle.node_select.specs.declared.selector.Step.{Step}
use Rattle.node_select.specs.declared.selector.End.{End}
use Rattle.node_select.specs.declared.selector.End.TheVariants as ends
use Rattle.node_select.specs.declared.selector.Selector.{Selector}
use Rattle.node_select.specs.declared.selector.PatchEnd.{PatchEnd}
use Rattle.node_select.specs.declared.selector.PatchEnd.TheVariants as patch_ends
use Rattle.node_select.specs.declared.selector.PatchSelector.{PatchSelector}
use Rattle.node_select.specs.Names.{has_unbound_prefix, name_uri, attr_uri}

-- a step: its name, none for `*`; its position; how many characters these have; its test, an
-- attribute's name and its value; and how many characters the whole step has
pub record RawStep : Type 0 where
  pub name : Option Name
  pub position : Option ℕ
  pub front : ℕ
  pub test : Option (Name × List ℕ)
  pub size : ℕ

-- what a selector ends in, after its steps and a `/`
pub data RawEnd : Type 0 where
  AtElement : RawEnd
  AtAttribute : Name → RawEnd
  AtNamespaces : RawEnd

pub data RawPatchEnd : Type 0 where
  PatchElement : RawPatchEnd
  PatchAttribute : Name → RawPatchEnd
  PatchChars : Option ℕ → RawPatchEnd

-- how many characters steps have, each with one `/`
abbrev pub steps_size : List RawStep → ℕ
steps_size [] = 0
steps_size (step ∷ steps) = step.size + 1 + steps_size steps

-- each step is at least as wide as its front
abbrev pub HaveFrontsWithin : List RawStep → Type 0
HaveFrontsWithin [] = Unit {0}
HaveFrontsWithin (step ∷ steps) = (step.front ≤ step.size) × HaveFrontsWithin steps

-- the places of all names of steps fit in 64 bits, where the first step begins at `at`
pub record HasPlacesInRange (at : ℕ) (steps : List RawStep) : Type 0 where
  pub within : at + steps_size steps < 2 ^ 63 + 2
  pub whole : HaveFrontsWithin steps

-- ---- names, and their places

-- the place of a name, if its prefix isn't bound
abbrev pub unbound_at : List Decl → ℕ → Name → Option ℕ
unbound_at bindings n name = if has_unbound_prefix bindings name then Some n else None

-- the first of two places, if there is one
abbrev pub first_some : Option ℕ → Option ℕ → Option ℕ
first_some None later = later
first_some (Some n) later = Some n

-- the first unbound name of a step that begins at `at`, of its name and its test; the test's name
-- comes after `[@`
abbrev pub unbound_name : List Decl → ℕ → Option Name → Option ℕ
unbound_name bindings n None = None
unbound_name bindings n (Some name) = unbound_at bindings n name

abbrev pub unbound_test : List Decl → ℕ → Option (Name × List ℕ) → Option ℕ
unbound_test bindings n None = None
unbound_test bindings n (Some test) = unbound_at bindings n test.0

abbrev pub unbound_in_step : List Decl → ℕ → RawStep → Option ℕ
unbound_in_step bindings n step =
    first_some (unbound_name bindings n step.name)
    (unbound_test bindings (n + step.front + 2) step.test)

-- the first unbound name of steps, each after the one before and a `/`; then of the end, after
-- the steps
abbrev pub unbound_in_steps : List Decl → ℕ → List RawStep → (ℕ → Option ℕ) → Option ℕ
unbound_in_steps bindings n [] end = end n
unbound_in_steps bindings n (step ∷ steps) end =
    first_some (unbound_in_step bindings n step)
    (unbound_in_steps bindings (n + step.size + 1) steps end)

-- nothing follows the steps
abbrev pub no_unbound_end : ℕ → Option ℕ
no_unbound_end n = None

-- the unbound name of an end, which comes after `@`
abbrev pub unbound_end : List Decl → RawEnd → ℕ → Option ℕ
unbound_end bindings AtElement n = None
unbound_end bindings (AtAttribute name) n = unbound_at bindings (suc n) name
unbound_end bindings AtNamespaces n = None

abbrev pub unbound_patch_end : List Decl → RawPatchEnd → ℕ → Option ℕ
unbound_patch_end bindings PatchElement n = None
unbound_patch_end bindings (PatchAttribute name) n = unbound_at bindings (suc n) name
unbound_patch_end bindings (PatchChars position) n = None

-- ---- what names mean

abbrev pub name_test : List Decl → List ℕ → Option Name → NameTest
name_test bindings default None = Any
name_test bindings default (Some name) = Named (name_uri bindings default name) name.local

abbrev pub attr_test : List Decl → Name × List ℕ → AttrTest
attr_test bindings test =
    record { uri = attr_uri bindings test.0; local = test.0.local; value = test.1 }

abbrev pub resolved_step : List Decl → List ℕ → RawStep → Step
resolved_step bindings default step = record {
  name = name_test bindings default step.name;
  position = step.position;
  test = option_map (attr_test bindings) step.test;
}

abbrev pub resolved_steps : List Decl → List ℕ → List RawStep → List Step
resolved_steps bindings default [] = []
resolved_steps bindings default (step ∷ steps) =
    resolved_step bindings default step ∷ resolved_steps bindings default steps

abbrev pub resolved_end : List Decl → RawEnd → End
resolved_end bindings AtElement = ends.Element
resolved_end bindings (AtAttribute name) = ends.Attribute (attr_uri bindings name) name.local
resolved_end bindings AtNamespaces = ends.Namespaces

abbrev pub resolved_patch_end : List Decl → RawPatchEnd → PatchEnd
resolved_patch_end bindings PatchElement = patch_ends.Element
resolved_patch_end bindings (PatchAttribute name) =
    patch_ends.Attribute (attr_uri bindings name) name.local
resolved_patch_end bindings (PatchChars position) = patch_ends.Chars position

-- ---- whole selectors: steps and an end

abbrev pub RawSelector : Type 0
RawSelector = List RawStep × RawEnd

-- a selector of a patch may begin with `/`; the width of that
abbrev pub RawPatchSelector : Type 0
RawPatchSelector = ℕ × (List RawStep × RawPatchEnd)

abbrev pub resolved_selector : List Decl → List ℕ → RawSelector → Selector
resolved_selector bindings default raw =
    record { steps = resolved_steps bindings default raw.0; end = resolved_end bindings raw.1 }

abbrev pub resolved_patch_selector : List Decl → List ℕ → RawPatchSelector → PatchSelector
resolved_patch_selector bindings default raw =
    record {
      steps = resolved_steps bindings default raw.1.0;
      end = resolved_patch_end bindings
          raw.1.1;
    }

-- how many characters come before the first name whose prefix isn't bound
abbrev pub first_unbound : List Decl → RawSelector → Option ℕ
first_unbound bindings raw = unbound_in_steps bindings 0 raw.0 (unbound_end bindings raw.1)

abbrev pub first_unbound_in_patch : List Decl → RawPatchSelector → Option ℕ
first_unbound_in_patch bindings raw =
    unbound_in_steps bindings raw.0 raw.1.0 (unbound_patch_end bindings raw.1.1)

-- ---- the values made of the parts that are read

-- a step, with the width of its name and position, and of the whole step
abbrev pub raw_step_of : (((Option Name × Option ℕ) × ℕ) × Option (Name × List ℕ)) × ℕ → RawStep
raw_step_of x =
    record { name = x.0.0.0.0; position = x.0.0.0.1; front = x.0.0.1; test = x.0.1; size = x.1 }

abbrev pub raw_end_or_element : Option RawEnd → RawEnd
raw_end_or_element None = AtElement
raw_end_or_element (Some end) = end

abbrev pub raw_patch_end_or_element : Option RawPatchEnd → RawPatchEnd
raw_patch_end_or_element None = PatchElement
raw_patch_end_or_element (Some end) = end

-- how many characters a slash in front has
abbrev pub slash_width : Option (Unit {0}) → ℕ
slash_width None = 0
slash_width (Some _) = 1
