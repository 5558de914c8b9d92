use Rattle.std.proofs.Common.{ℕ, List, [], Option, refl, sym, ap, ◌∙◌, chars, option_map}
use Rattle.std.specs.Option.{unwrap_or}
use Rattle.xml_names.proofs.Letters.{chars_empty}
use Rattle.usage_docs.proofs.schema_table.element_namespace.Goals as goal

pub returns-in-None : goal.returns-in-None
returns-in-None c = record {
  exact =
      let e = ap (λ o. option_map (λ uri. chars uri.now) o) (sym c.in-None.is) ∙ c.resolve.ensures.resolves_as_bound in
      chars_empty [] refl ∙ ap (λ (o : Option (List ℕ)). unwrap_or o []) e;
}
