use Rattle.std.proofs.lemmas.Str.{IsUtf8-had}
use Rattle.xml_names.specs.inner.TextBytes.{storage_bytes}
use Rattle.xml_names.proofs.TextGrows.{kept, said}
use Rattle.xml_names.proofs.text.Text.push_str.Goals as goal

pub invariant_of-self : goal.invariant_of-self
invariant_of-self c =
    let p = c.push_str in
    ∣ kept (storage_bytes c.self.inside.bytes) c.args.text.now (storage_bytes p.new.self) (IsUtf8-had _ c.self.invariant) p.result c.utf8.text p.ensures.appends_chars p.ensures.err_unchanged ∣₁

pub returns-clause-appends_chars : goal.returns-clause-appends_chars
returns-clause-appends_chars c =
    let p = c.push_str in
    said (storage_bytes c.self.inside.bytes) c.args.text.now (storage_bytes p.new.self) (IsUtf8-had _ c.self.invariant) p.result c.args.self.now c.self.view_is p.ensures.appends_chars
