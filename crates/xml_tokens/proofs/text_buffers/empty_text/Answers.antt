use Rattle.std.proofs.Common.{◌≡◌, [], refl, ap, ◌∙◌}
use Rattle.std.specs.Str.{chars}
use Rattle.xml_tokens.proofs.text_buffers.empty_text.Goals as goal

nothing : chars [] ≡ []
unfolding chars
nothing = refl

pub returns : goal.returns
returns c = record { holds_no_characters = c.own.ensures.exact ∙ ap chars c.new.ensures.bytes ∙ nothing }
