-- What `check` does with its input and its output, by how it ends. The project's own.
use Rattle.std.specs.Prelude.{◌≡◌, ℕ, ◌+◌, ◌≤◌, List, codes, length}
use Rattle.doc_names.specs.declared.usages.Usage.{Usage}
use Rattle.xcap_io.specs.StreamStates.{StreamState}
use Rattle.store_core.specs.declared.limits.TheConstants.{MAX_DOCUMENT_BYTES}
use Rattle.client_commands.specs.InputTexts.{GaveBytesAndFailed, GaveText, GaveBytes}
use Rattle.client_commands.specs.OutputBytes.{WritesAllBytes, WritesSomeBytes}
use Rattle.xcap_app.specs.RunStates.{IoStreams}
use Rattle.xcap_app.specs.TextVerdicts.{IsTextVerdict}
use Rattle.xcap_app.specs.declared.exit.Exit.{Exit}
use Rattle.xcap_app.specs.declared.exit.Exit.TheVariants.{Done, InputFailed, OutputFailed, Refused}
use Rattle.xcap_app.specs.declared.exit.Exit.TheVariants.{OutOfMemory}
use Rattle.xcap_app.specs.declared.refusal.Refusal.TheVariants.{TooLarge}

-- the verdict on the text that the input gave
abbrev pub JudgesInput : Usage → Exit → StreamState → StreamState → Type 0
JudgesInput usage exit input input' =
    (text : List ℕ) × GaveText MAX_DOCUMENT_BYTES text input input' × IsTextVerdict usage text exit

-- the examination of the input, by how the command ends: a valid document, or why it is none; one
-- byte more than a document may have, after which no more are read; or a fault or out of memory
-- after some bytes
abbrev pub ExaminesInput : Usage → Exit → StreamState → StreamState → Type 0
ExaminesInput usage Done input input' = JudgesInput usage Done input input'
ExaminesInput usage InputFailed input input' =
    (front : List ℕ) × GaveBytesAndFailed front input input' × (length front ≤ MAX_DOCUMENT_BYTES)
ExaminesInput usage (Refused TooLarge) input input' =
    (front : List ℕ) × GaveBytes front input input' × (length front ≡ MAX_DOCUMENT_BYTES + 1)
ExaminesInput usage (Refused refusal) input input' =
    JudgesInput usage (Refused refusal) input input'
ExaminesInput usage OutOfMemory input input' =
    (front : List ℕ) × GaveBytes front input input' × (length front ≤ MAX_DOCUMENT_BYTES + 1)
ExaminesInput usage _ input input' = ⊥

-- for a valid document `valid` and a line end are written, and else nothing
abbrev pub ChecksCommand : Usage → Exit → IoStreams → IoStreams → Type 0
ChecksCommand usage Done old new =
    ExaminesInput usage Done old.input new.input
    × WritesAllBytes (codes "valid\n") old.output new.output
ChecksCommand usage InputFailed old new =
    ExaminesInput usage InputFailed old.input new.input × (new.output ≡ old.output)
ChecksCommand usage OutputFailed old new =
    ExaminesInput usage Done old.input new.input
    × WritesSomeBytes (codes "valid\n") old.output new.output
ChecksCommand usage (Refused refusal) old new =
    ExaminesInput usage (Refused refusal) old.input new.input × (new.output ≡ old.output)
ChecksCommand usage OutOfMemory old new =
    ExaminesInput usage OutOfMemory old.input new.input × (new.output ≡ old.output)
ChecksCommand usage _ old new = ⊥
