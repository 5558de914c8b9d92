use Rattle.std.proofs.Common.{◌≡◌, ◌≤◌, ℕ, List, length, take, sym, ap, ◌∙◌, subst, IsUtf8}
use Rattle.std.proofs.lemmas.List.{take-take}
use Rattle.xml_names.proofs.inline_text.InlineText.copy_front.Goals as goal

-- the copied bytes begin with the text
begins : (n : ℕ) (copied bytes text : List ℕ) → copied ≡ take n bytes → length text ≤ n → text ≡ take (length text) bytes → take (length text) copied ≡ text
begins n copied bytes text is fits front = ap (take (length text)) is ∙ take-take (length text) n bytes fits ∙ sym front

pub invariant_of-result : goal.invariant_of-result
invariant_of-result g c =
    let whole = begins g.row.N c.copy_from_slice.new.self c.args.bytes.now c.args.text.now c.copy_from_slice.ensures.after c.requires.fits c.requires.is_front in
    (c.requires.fits, c.requires.within_max, ∣ subst IsUtf8 (sym whole) c.utf8.text ∣₁)

pub returns : goal.returns
returns g c = record {
  same_bytes = begins g.row.N c.copy_from_slice.new.self c.args.bytes.now c.args.text.now c.copy_from_slice.ensures.after c.requires.fits c.requires.is_front;
}
