use Rattle.std.proofs.Common.{string_bytes}
use Rattle.std.proofs.lemmas.Str.{IsUtf8-string_bytes}
use Rattle.xml_names.proofs.TextGrows.{said}
use Rattle.tree_print.proofs.output.Output.push_str.Goals as goal

pub returns : goal.returns
returns c = record {
  appends_chars =
      let p = c.push_bytes in
      said (string_bytes c.self.inside.text) c.args.text.now (string_bytes p.new.string) (IsUtf8-string_bytes c.self.inside.text) p.result c.args.self.now c.self.view_is p.ensures.adds_bytes;
}
