-- The characters of a small text, in either representation.
use Rattle.std.specs.Prelude.{ℕ, List, chars}
use Rattle.xml_names.specs.declared.small_text_storage.SmallTextStorage.{SmallTextStorage}
use Rattle.xml_names.specs.declared.small_text_storage.SmallTextStorage.TheVariants.{Short, Long}

abbrev pub storage_chars : {N : ℕ} → SmallTextStorage N → List ℕ
storage_chars (Short text) = chars text
storage_chars (Long text) = text.value
