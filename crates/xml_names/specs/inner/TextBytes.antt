-- The bytes of a text, in either representation.
use Rattle.std.specs.Prelude.{ℕ, List, string_bytes}
use Rattle.xml_names.specs.declared.text_storage.TextStorage.{TextStorage}
use Rattle.xml_names.specs.declared.text_storage.TextStorage.TheVariants.{Short, Long}

abbrev pub storage_bytes : TextStorage → List ℕ
storage_bytes (Short alloc text) = text
storage_bytes (Long string) = string_bytes string
