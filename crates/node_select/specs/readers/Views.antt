-- The values that the types of the code represent in clauses.
use Rattle.std.specs.Prelude.{ℕ, Bool, List, option_map, map}
use Rattle.xml_names.specs.declared.names.Name.{Name}
use Rattle.xml_tokens.specs.readers.TokenViews.{raw_name_view}
use Rattle.node_select.specs.declared.raw_selectors.Form.{Form}
use Rattle.node_select.specs.declared.raw_selectors.Form.TheVariants.{Node, Patch}
use Rattle.node_select.specs.declared.raw_selectors.RawTest.{RawTest as CodeTest}
use Rattle.node_select.specs.declared.raw_selectors.RawStep.{RawStep as CodeStep}
use Rattle.node_select.specs.declared.raw_selectors.RawEnd.{RawEnd as CodeEnd}
use Rattle.node_select.specs.declared.raw_selectors.RawEnd.TheVariants as ends
use Rattle.node_select.specs.declared.raw_selectors.RawPatchEnd.{RawPatchEnd as CodePatchEnd}
use Rattle.node_select.specs.declared.raw_selectors.RawPatchEnd.TheVariants as patch_ends
use Rattle.node_select.specs.declared.raw_selectors.RawSelector.{RawSelector as CodeSelector}
use Rattle.node_select.specs.declared.raw_selectors.RawPatchSelector.{
  RawPatchSelector as CodePatchSelector,
}
use Rattle.node_select.specs.readers.RawSelectors.{RawStep, RawEnd, AtElement, AtAttribute}
use Rattle.node_select.specs.readers.RawSelectors.{AtNamespaces}
use Rattle.node_select.specs.readers.RawSelectors.{RawPatchEnd, PatchElement, PatchAttribute}
use Rattle.node_select.specs.readers.RawSelectors.{PatchChars}
use Rattle.node_select.specs.readers.RawSelectors.{RawSelector, RawPatchSelector}
use Rattle.node_select.specs.readers.Selectors.{step_follows, patch_step_follows}

abbrev pub test_view : CodeTest → Name × List ℕ
test_view t = (raw_name_view t.name, t.value)

abbrev pub step_view : CodeStep → RawStep
step_view s =
    record {
      name = option_map raw_name_view s.name;
      position = s.position;
      front = s.front;
      test = option_map test_view s.test;
      size = s.size;
    }

abbrev pub end_view : CodeEnd → RawEnd
end_view ends.Element = AtElement
end_view (ends.Attribute name) = AtAttribute (raw_name_view name)
end_view ends.Namespaces = AtNamespaces

abbrev pub patch_end_view : CodePatchEnd → RawPatchEnd
patch_end_view patch_ends.Element = PatchElement
patch_end_view (patch_ends.Attribute name) = PatchAttribute (raw_name_view name)
patch_end_view (patch_ends.Chars position) = PatchChars position

-- the test of whether another step follows
abbrev pub step_follows_in : Form → List ℕ → Bool
step_follows_in Node = step_follows
step_follows_in Patch = patch_step_follows

abbrev pub selector_view : CodeSelector → RawSelector
selector_view s = (map step_view s.steps.items, end_view s.end)

abbrev pub patch_selector_view : CodePatchSelector → RawPatchSelector
patch_selector_view s = (s.slash, (map step_view s.steps.items, patch_end_view s.end))
