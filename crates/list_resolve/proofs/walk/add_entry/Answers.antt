use Rattle.std.proofs.Common.{chars, ap, sym, ◌∙◌, option_map}
use Rattle.usage_docs.specs.declared.schema_table.Key.TheVariants.{Uri}
use Rattle.usage_docs.specs.KeyAttributes.{value_of}
use Rattle.list_resolve.specs.inner.Views.{context_view}
use Rattle.list_resolve.proofs.SkippedElements.{entry_gathered}
use Rattle.list_resolve.proofs.walk.add_entry.Goals as goal

pub returns-in_ok-add_uri-in-Some : goal.returns-in_ok-add_uri-in-Some
returns-in_ok-add_uri-in-Some c = record {
  gathers_address =
      entry_gathered (context_view c.args.ground.now) (chars c.in-Some.uri.now) (value_of Uri c.args.attrs.now) c.args.collector.now c.add_uri.new.self
      (ap (option_map (λ value. chars value.now)) (sym c.in-Some.is) ∙ c.value_of.ensures.exact) c.in_ok-add_uri-in-Some.ensures.ok c.requires.is_sound;
}
