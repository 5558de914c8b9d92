-- The errors that the code makes of stops.
use Rattle.std.specs.Prelude.{◌≡◌, ℕ, ◌-◌, List, length, chars}
use Rattle.xml_names.specs.declared.read_error.ReadError.{ReadError}
use Rattle.xml_names.specs.declared.read_error.ReadError.TheVariants.{Fault, NoMemory}
use Rattle.xml_tokens.specs.declared.parse_error.ParseError.{ParseError}
use Rattle.xml_tokens.specs.declared.parse_error.ParseError.TheVariants as stops
use Rattle.node_select.specs.declared.name_resolution.Unresolved.{Unresolved}
use Rattle.node_select.specs.declared.name_resolution.Unresolved.TheVariants as troubles
use Rattle.node_select.specs.declared.fault.SelectorFault.{SelectorFault}
use Rattle.node_select.specs.declared.fault.SelectorFault.TheVariants as faults
use Rattle.node_select.specs.Faults.{byte_offset}

abbrev pub IsErrorOfStop : List ℕ → ParseError → ReadError SelectorFault → Type 0
IsErrorOfStop text (stops.Syntax rest) error =
    error
    ≡ Fault (faults.BadSelector (byte_offset text (length (chars text) - length (chars rest.now))))
IsErrorOfStop text (stops.Faulty kind rest) error =
    error
    ≡ Fault (faults.BadSelector (byte_offset text (length (chars text) - length (chars rest.now))))
IsErrorOfStop text stops.Memory error = error ≡ NoMemory

abbrev pub IsErrorOfUnresolved : List ℕ → Unresolved → ReadError SelectorFault → Type 0
IsErrorOfUnresolved text (troubles.Prefix n) error =
    error ≡ Fault (faults.UnboundPrefix (byte_offset text n))
IsErrorOfUnresolved text troubles.Memory error = error ≡ NoMemory
