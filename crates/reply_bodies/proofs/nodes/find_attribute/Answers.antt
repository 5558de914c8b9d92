use Rattle.std.proofs.Common.{◌≡◌, List, None, Some, slice_get, sym, ap, ◌∙◌}
use Rattle.std.specs.List.{position}
use Rattle.std.specs.Option.{option_copied}
use Rattle.xml_names.specs.declared.names.Attr.{Attr}
use Rattle.node_select.specs.Selection.{is_attr_named}
use Rattle.reply_bodies.proofs.Attributes.{found_place, item_is, no_found_place}
use Rattle.reply_bodies.proofs.nodes.find_attribute.Goals as goal

pub returns-in_err-place : goal.returns-in_err-place
returns-in_err-place c = record {
  exact =
      let p = is_attr_named c.args.scope.now c.args.uri.now c.args.local.now in
      let place = rw (c.as_str.ensures.same_chars, c.as_str-2.ensures.same_chars) at c.find_attr.ensures.exact in
      let none : position p c.args.element.now.attrs ≡ None = sym place ∙ c.in_err-place.was {u = tt} in
      ap option_copied c.from_residual.ensures ∙ sym (no_found_place p c.args.element.now.attrs none);
}

pub returns : goal.returns
returns c = record {
  exact =
      let p = is_attr_named c.args.scope.now c.args.uri.now c.args.local.now in
      let place = rw (c.as_str.ensures.same_chars, c.as_str-2.ensures.same_chars) at c.find_attr.ensures.exact in
      let there : position p c.args.element.now.attrs ≡ Some c.in_ok-place.place = sym place ∙ c.in_ok-place.was {u = tt} in
      let found = found_place p c.args.element.now.attrs c.in_ok-place.place there in
      let got : option_copied c.get.result ≡ slice_get c.attrs.result.now c.in_ok-place.place = item_is c.attrs.result.now c.in_ok-place.place c.get.result c.get.ensures.lookup in
      got ∙ ap (λ (l : List Attr). slice_get l c.in_ok-place.place) c.attrs.ensures.exact ∙ sym found;
}
