-- How a ghost variable stores a tree: an injective map into pairs and numbers.
use Rattle.std.specs.Prelude.{ℕ, List}
use Rattle.std.specs.Coded.{Coded, code_by, coded×, coded_ℕ, coded_list}
use mathlib.Core.Path.{refl}
use Rattle.xml_names.specs.declared.names.Name.{Name}
use Rattle.xml_names.specs.declared.names.Decl.{Decl}
use Rattle.xml_names.specs.declared.names.Attr.{Attr}

abbrev pub text_code : Coded (List ℕ)
text_code = coded_list coded_ℕ

abbrev pub name_code : Coded Name
name_code =
    code_by (List ℕ × List ℕ) (coded× text_code text_code) (λ n. (n.prefix, n.local))
    (λ p. record { prefix = p.0; local = p.1 }) (λ _. refl)

abbrev pub decl_code : Coded Decl
decl_code =
    code_by (List ℕ × List ℕ) (coded× text_code text_code) (λ d. (d.prefix, d.uri))
    (λ p. record { prefix = p.0; uri = p.1 }) (λ _. refl)

abbrev pub decls_code : Coded (List Decl)
decls_code = coded_list decl_code

abbrev pub attr_code : Coded Attr
attr_code =
    code_by (Name × List ℕ) (coded× name_code text_code) (λ a. (a.name, a.value))
    (λ p. record { name = p.0; value = p.1 }) (λ _. refl)

abbrev pub attrs_code : Coded (List Attr)
attrs_code = coded_list attr_code
