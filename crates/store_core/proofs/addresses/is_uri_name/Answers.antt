use Rattle.std.proofs.Common.{◌&&◌, sym, ap, ◌∙◌}
use Rattle.std.proofs.lemmas.Str.{chars-nil}
use Rattle.std.specs.Str.{bytes_eq}
use Rattle.usage_docs.specs.KeyAttributes.{attribute_name}
use Rattle.usage_docs.specs.declared.schema_table.Key.TheVariants.{Uri}
use Rattle.store_core.proofs.addresses.is_uri_name.Goals as goal

pub returns-then-is : goal.returns-then-is
returns-then-is c = record {
  exact =
      c.is_uri_local_name.ensures.exact ∙ ap (λ b. b && bytes_eq c.args.name.now.local (attribute_name Uri)) (sym c.if-is.true ∙ c.is.ensures.exact ∙ ap (bytes_eq c.args.name.now.prefix) chars-nil);
}

pub returns-else-is : goal.returns-else-is
returns-else-is c = record {
  exact =
      c.if-is.false ∙ ap (λ b. b && bytes_eq c.args.name.now.local (attribute_name Uri)) (sym c.if-is.false ∙ c.is.ensures.exact ∙ ap (bytes_eq c.args.name.now.prefix) chars-nil);
}
