-- The result of reading all bytes, from left to right.
use Rattle.std.specs.Prelude.{◌≡◌, ℕ, ◌-◌, List, Result, Err, if◌then◌else◌, chars}
use Rattle.std.specs.Str.{is_utf8}
use Rattle.xml_grammar.specs.TextReading.{Syntax, Faulty}
use Rattle.xml_grammar.specs.readers.RuleReaders.{read_whole_text}
use Rattle.xml_tree.specs.Tree.{Tree}
use Rattle.xml_names.specs.declared.names.Decl.{Decl}
use Rattle.xml_names.specs.declared.read_error.ReadError.{ReadError}
use Rattle.xml_names.specs.declared.read_error.ReadError.TheVariants as errors
use Rattle.tree_text.specs.declared.fault.TextFault.{TextFault}
use Rattle.tree_text.specs.declared.fault.TextFault.TheVariants as texts
use Rattle.tree_text.specs.declared.fault.ValueFault.{ValueFault}
use Rattle.tree_text.specs.declared.fault.ValueFault.TheVariants as bodies
use Rattle.xml_tokens.specs.declared.parse_error.ParseError.{ParseError}
use Rattle.xml_tokens.specs.declared.parse_error.ParseError.TheVariants as stops
use Rattle.xml_tokens.specs.ByteOffsets.{byte_offset}
use Rattle.tree_text.specs.Faults.{stop_fault, unquoted_body, body_result, text_result}
use Rattle.tree_text.specs.readers.Texts.{read_text, read_unquoted_value}

-- ---- documents and fragments

-- with at most this many levels, and in this scope
abbrev pub read_document_text : ℕ → List (List Decl) → List ℕ → Result Tree TextFault
read_document_text limit scope bytes =
    if is_utf8 bytes then text_result bytes (read_whole_text (read_text limit scope) (chars bytes))
    else Err texts.NotUtf8

-- the error that the code makes of a stop
abbrev pub IsErrorOfStop : List ℕ → ParseError → ReadError TextFault → Type 0
IsErrorOfStop bytes (stops.Syntax rest) error =
    error ≡ errors.Fault (stop_fault bytes (Syntax (chars rest.now)))
IsErrorOfStop bytes (stops.Faulty kind rest) error =
    error ≡ errors.Fault (stop_fault bytes (Faulty kind (chars rest.now)))
IsErrorOfStop bytes stops.Memory error = error ≡ errors.NoMemory

-- ---- bodies that spell a value

abbrev pub read_body_text : List ℕ → Result (List ℕ) ValueFault
read_body_text bytes =
    if is_utf8 bytes
    then body_result (chars bytes) bytes
    (read_whole_text read_unquoted_value (unquoted_body (chars bytes)))
    else Err bodies.NotUtf8

-- the error that the code makes of a stop in a body after whose spelling this many bytes follow
abbrev pub IsBodyErrorOfStop : List ℕ → ℕ → ParseError → ReadError ValueFault → Type 0
IsBodyErrorOfStop bytes tail (stops.Syntax rest) error =
    error ≡ errors.Fault (bodies.NotValue (byte_offset bytes (chars rest.now) - tail))
IsBodyErrorOfStop bytes tail (stops.Faulty kind rest) error =
    error ≡ errors.Fault (bodies.NotValue (byte_offset bytes (chars rest.now) - tail))
IsBodyErrorOfStop bytes tail stops.Memory error = error ≡ errors.NoMemory
