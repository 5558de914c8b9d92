use Rattle.std.proofs.Common.{encode_utf8, subst, OnOk, chars, ◌≡◌, ◌++◌}
use Rattle.std.proofs.lemmas.Str.{IsUtf8-had}
use Rattle.xml_names.specs.inner.TextBytes.{storage_bytes}
use Rattle.xml_names.proofs.TextGrows.{kept, said, one, one_utf8}
use Rattle.xml_names.proofs.text.Text.push.Goals as goal

pub invariant_of-self : goal.invariant_of-self
invariant_of-self c =
    let p = c.push in
    ∣ kept (storage_bytes c.self.inside.bytes) (encode_utf8 c.args.c) (storage_bytes p.new.self) (IsUtf8-had _ c.self.invariant) p.result (one_utf8 c.args.c c.ranges.c.0) p.ensures.appended p.ensures.err_unchanged ∣₁

pub returns-clause-appended : goal.returns-clause-appended
returns-clause-appended c =
    let p = c.push in
    let ok = said (storage_bytes c.self.inside.bytes) (encode_utf8 c.args.c) (storage_bytes p.new.self) (IsUtf8-had _ c.self.invariant) p.result c.args.self.now c.self.view_is p.ensures.appended in
    subst (λ cs. OnOk p.result (chars (storage_bytes p.new.self) ≡ c.args.self.now ++ cs)) (one c.args.c c.ranges.c.0) ok
