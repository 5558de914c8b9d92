-- Characters as they are printed between tags, and in a value between double quotes.
use Rattle.std.specs.Prelude.{ℕ, List}
use Rattle.xml_names.specs.Markup.{text_escape, value_escape}
use Rattle.tree_print.specs.declared.escapes.EscapeContext.{EscapeContext}
use Rattle.tree_print.specs.declared.escapes.EscapeContext.TheVariants.{Content, Quotes}

-- a character as printed in this place
abbrev pub escaped_char : EscapeContext → ℕ → List ℕ
escaped_char Content c = text_escape c
escaped_char Quotes c = value_escape c
