use Rattle.std.proofs.Common.{◌≡◌, ℕ, List, Option, Some, get_or, position, IfOk, sym, ap, ◌∙◌, subst}
use Rattle.std.specs.Option.{option_map_or}
use Rattle.xml_names.specs.declared.names.Attr.{Attr}
use Rattle.xml_names.specs.declared.names.Decl.{Decl}
use Rattle.xml_names.specs.declared.names.Name.{Name}
use Rattle.node_select.specs.Selection.{is_attr_named}
use Rattle.edit_rules.specs.AttributePuts.{new_name}
use Rattle.edit_plans.proofs.TagLemmas.{found_at_position, none_at_position}
use Rattle.edit_plans.proofs.put_attribute.written_name.Goals as goal

-- where the attribute exists, by the texts as the code reads them
by_letters : (c : List (List Decl)) (uri uri' local local' : List ℕ) (attrs : List Attr) (o : Option ℕ) → uri' ≡ uri → local' ≡ local → o ≡ position (is_attr_named c uri' local') attrs → o ≡ position (is_attr_named c uri local) attrs
by_letters c uri uri' local local' attrs o u l is = is ∙ ap (λ (x : List ℕ). position (is_attr_named c x local') attrs) u ∙ ap (λ (x : List ℕ). position (is_attr_named c uri x) attrs) l

pub returns-in-None : goal.returns-in-None
returns-in-None c = record {
  ok =
      let scope = c.args.scope.now in
      let uri = c.args.uri.now in
      let local = c.args.local.now in
      let attrs = c.args.element.now.attrs in
      let place = by_letters scope uri _ local _ attrs c.find_attr.result c.as_str.ensures.same_chars c.as_str-2.ensures.same_chars c.find_attr.ensures.exact in
      let none = none_at_position (is_attr_named scope uri local) attrs (sym place ∙ c.in-None.is) in
      subst (λ (o : Option Name). IfOk c.new_name.result (λ name. name ≡ o)) (sym (ap (λ (found : Option Attr). option_map_or (λ (a : Attr). Some a.name) found (new_name scope uri local)) none)) c.new_name.ensures.ok;
}

pub returns-in_ok-name-in-Some : goal.returns-in_ok-name-in-Some
returns-in_ok-name-in-Some c = record {
  ok =
      let scope = c.args.scope.now in
      let uri = c.args.uri.now in
      let local = c.args.local.now in
      let attrs = c.args.element.now.attrs in
      let attr = c.index-attrs-place.result in
      let place = by_letters scope uri _ local _ attrs c.find_attr.result c.as_str.ensures.same_chars c.as_str-2.ensures.same_chars c.find_attr.ensures.exact in
      let found = found_at_position (is_attr_named scope uri local) attrs c.in-Some.place attr (sym place ∙ c.in-Some.is) (subst (λ (xs : List Attr). attr ≡ get_or xs c.in-Some.place attr) c.attrs.ensures.exact c.index-attrs-place.is) in
      ap (λ (n : Name). Some n) (c.in_ok-name-in-Some.ensures.equal_copy ∙ ap (λ (a : Attr). a.name) (sym c.index-attrs-place.is)) ∙ sym (ap (λ (o : Option Attr). option_map_or (λ (a : Attr). Some a.name) o (new_name scope uri local)) found);
}
