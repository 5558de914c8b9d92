use Rattle.std.proofs.Common.{◌≡◌, ℕ, Bool, true, false, if◌then◌else◌, List, [], Option, Some, bytes_eq, find, option_map, IfOk, refl, sym, ap, ◌∙◌, subst}
use Rattle.std.proofs.lemmas.Str.{chars-nil}
use Rattle.std.specs.Str.{chars}
use Rattle.xml_names.specs.Scopes.{in_scope_bindings, xml_prefix, xml_uri}
use Rattle.xml_names.specs.declared.names.Decl.{Decl}
use Rattle.edit_rules.specs.AttributePuts.{is_binding, new_prefix}
use Rattle.edit_plans.proofs.put_attribute.new_prefix.Goals as goal

letters : chars xml_prefix ≡ xml_prefix
unfolding chars
letters = refl

module _ (c : List (List Decl)) (uri : List ℕ) where
  abbrev other : Option (List ℕ)
  other = option_map (λ d. d.prefix) (find (is_binding uri) (in_scope_bindings c))

  no_space : bytes_eq uri [] ≡ true → Some [] ≡ new_prefix c uri
  no_space none = sym (ap (λ (b : Bool). if b then Some [] else if bytes_eq uri xml_uri then Some xml_prefix else other) none)

  some_space : bytes_eq uri [] ≡ false → (if bytes_eq uri xml_uri then Some xml_prefix else other) ≡ new_prefix c uri
  some_space some = sym (ap (λ (b : Bool). if b then Some [] else if bytes_eq uri xml_uri then Some xml_prefix else other) some)

  xml_space : bytes_eq uri [] ≡ false → bytes_eq uri xml_uri ≡ true → Some xml_prefix ≡ new_prefix c uri
  xml_space some is = sym (ap (λ (b : Bool). if b then Some xml_prefix else other) is) ∙ some_space some

  other_space : bytes_eq uri [] ≡ false → bytes_eq uri xml_uri ≡ false → other ≡ new_prefix c uri
  other_space some is_other = sym (ap (λ (b : Bool). if b then Some xml_prefix else other) is_other) ∙ some_space some

pub returns-then-is : goal.returns-then-is
returns-then-is c = record {
  ok =
      let uri = c.args.uri.now in
      ap (λ (s : List ℕ). Some s) (c.in_ok-none.ensures.same_chars ∙ chars-nil) ∙ no_space c.args.scope.now uri (sym (c.is.ensures.exact ∙ ap (bytes_eq uri) chars-nil) ∙ c.if-is.true);
}

pub returns-then-is_xml_space : goal.returns-then-is_xml_space
returns-then-is_xml_space c = record {
  ok =
      let uri = c.args.uri.now in
      ap (λ (s : List ℕ). Some s) (c.in_ok-xml.ensures.same_chars ∙ letters)
      ∙ xml_space c.args.scope.now uri (sym (c.is.ensures.exact ∙ ap (bytes_eq uri) chars-nil) ∙ c.if-is.false) (sym c.is_xml_space.ensures.exact ∙ c.if-is_xml_space.true);
}

pub returns : goal.returns
returns c = record {
  ok =
      let uri = c.args.uri.now in
      let all = ap (λ (ds : List Decl). option_map (λ d. d.prefix) (find (is_binding uri) ds)) (c.deref.ensures.value ∙ c.in_ok-bindings.ensures.ok) in
      let is = all ∙ other_space c.args.scope.now uri (sym (c.is.ensures.exact ∙ ap (bytes_eq uri) chars-nil) ∙ c.if-is.false) (sym c.is_xml_space.ensures.exact ∙ c.if-is_xml_space.false) in
      subst (λ (o : Option (List ℕ)). IfOk c.bound_prefix.result (λ prefix. prefix ≡ o)) is c.bound_prefix.ensures.ok;
}
