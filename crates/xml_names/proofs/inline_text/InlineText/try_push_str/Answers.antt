use Rattle.std.proofs.Common.{◌≡◌, ◌+◌, ◌++◌, length, take, sym, ap, ◌∙◌, subst, arith, rules, IsUtf8}
use Rattle.std.proofs.lemmas.Str.{IsUtf8-had, IsUtf8-append}
use Rattle.std.proofs.lemmas.Slice.{take-put_mid}
use Rattle.xml_names.proofs.inline_text.InlineText.try_push_str.Goals as goal

pub invariant_of-self : goal.invariant_of-self
invariant_of-self g c =
    let held = c.self.inside in
    let text = c.args.text.now in
    let copied : c.copy_from_slice.new.self ≡ text = search rules in
    let size : held.len + length text ≡ held.len + length c.copy_from_slice.new.self = ap (λ ys. held.len + length ys) (sym copied) in
    let whole = take-put_mid held.len _ held.bytes c.copy_from_slice.new.self (held.len + length text) size (omega arith) ∙ ap (λ ys. take held.len held.bytes ++ ys) copied in
    (omega arith, c.self.invariant.1, ∣ subst IsUtf8 (sym whole) (IsUtf8-append _ _ (IsUtf8-had _ c.self.invariant.2) c.utf8.text) ∣₁)
