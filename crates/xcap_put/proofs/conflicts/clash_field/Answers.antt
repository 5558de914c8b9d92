use Rattle.xml_tree.specs.PathTexts.{path_text}
use Rattle.xcap_put.proofs.Fields.{field_is}
use Rattle.xcap_put.proofs.conflicts.clash_field.Goals as goal

pub returns : goal.returns
returns c = record {
  ok =
      field_is (path_text c.args.clash.now.path) c.in_ok-field.field c.push_str.new.self c.push_str-2.new.self c.attribute_name.result.now c.args.clash.now.key
      c.in_ok-field.ensures.ok c.in_ok-push_str.ensures.appends_chars c.in_ok-push_str-2.ensures.appends_chars c.attribute_name.ensures.expected_word c.attribute_name.ensures.is_ascii_alone;
}
