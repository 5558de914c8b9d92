use Rattle.std.proofs.Common.{chars}
use Rattle.doc_names.specs.DocIds.{id_text}
use Rattle.element_watch.proofs.BuiltElements.{address_is}
use Rattle.element_watch.proofs.element_states.element_address.Goals as goal

pub returns : goal.returns
returns c = record {
  ok =
      address_is (id_text c.args.doc.now) c.in_ok-line.line c.push_str.new.self c.push_str-2.new.self c.args.raw.now (chars c.as_str.result.now) c.in_ok-line.ensures.ok c.in_ok-push_str.ensures.appends_chars c.as_str.ensures.same_chars c.in_ok-push_str-2.ensures.appends_chars;
}
