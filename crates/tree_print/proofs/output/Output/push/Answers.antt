use Rattle.std.proofs.Common.{◌≡◌, ◌++◌, OnOk, chars, encode_utf8, string_bytes, subst}
use Rattle.std.proofs.lemmas.Str.{IsUtf8-string_bytes}
use Rattle.xml_names.proofs.TextGrows.{said, one}
use Rattle.tree_print.proofs.output.Output.push.Goals as goal

pub returns : goal.returns
returns c = record {
  appended =
      let p = c.push_encoded in
      let ok = said (string_bytes c.self.inside.text) (encode_utf8 c.args.c) (string_bytes p.new.string) (IsUtf8-string_bytes c.self.inside.text) p.result c.args.self.now c.self.view_is p.ensures.appends_bytes in
      subst (λ cs. OnOk p.result (chars (string_bytes p.new.string) ≡ c.args.self.now ++ cs)) (one c.args.c c.ranges.c.0) ok;
}
