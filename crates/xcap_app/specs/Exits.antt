-- How a run of the program can end. The statuses and messages are the project's own.
use Rattle.std.specs.Prelude.{ℕ, List, [], ◌++◌, codes, decimal, encode_utf8_all}
use Rattle.xml_tree.specs.PathTexts.{path_text}
use Rattle.usage_docs.specs.KeyAttributes.{attribute_name}
use Rattle.usage_docs.specs.declared.validation.Fault.TheVariants.{Invalid, Unformed, Repeated}
use Rattle.client_commands.specs.FaultMessages.{fault_message, status_of_fault}
use Rattle.xcap_app.specs.declared.exit.Exit.{Exit}
use Rattle.xcap_app.specs.declared.exit.Exit.TheVariants.{Done, Usage, InputFailed, OutputFailed}
use Rattle.xcap_app.specs.declared.exit.Exit.TheVariants.{BadHostWords}
use Rattle.xcap_app.specs.declared.exit.Exit.TheVariants.{NetworkFailed, Refused, Client}
use Rattle.xcap_app.specs.declared.exit.Exit.TheVariants.{BadJournal, OutOfMemory}
use Rattle.xcap_app.specs.HostWords.{host_message}
use Rattle.xcap_app.specs.declared.journal_refusal.JournalRefusal.{JournalRefusal}
use Rattle.xcap_app.specs.declared.journal_refusal.JournalRefusal.TheVariants.{Damaged}
use Rattle.xcap_app.specs.declared.journal_refusal.JournalRefusal.TheVariants.{Refused as RefusedAt}
use Rattle.xcap_app.specs.declared.journal_refusal.JournalRefusal.TheVariants.{TooLong}
use Rattle.xcap_app.specs.declared.refusal.Refusal.{Refusal}
use Rattle.xcap_app.specs.declared.refusal.Refusal.TheVariants.{TooLarge, NotUtf8, NotWellFormed}
use Rattle.xcap_app.specs.declared.refusal.Refusal.TheVariants.{Faulty}

-- the commands, on one line
unfoldable pub usage_line : List ℕ
usage_line =
    codes "usage: xcapd replay ROOT | serve ADDR ROOT COUNT | keep ADDR ROOT COUNT | check AUID | sample N | fetch USER ROOT PATH | put USER ROOT PATH TYPE | delete USER ROOT PATH | follow USER ROOT DOCUMENT ROUNDS\n"

-- the status that the program exits with
abbrev pub status_of : Exit → ℕ
status_of Done = 0
status_of Usage = 2
status_of (BadHostWords fault) = 2
status_of InputFailed = 3
status_of OutputFailed = 4
status_of NetworkFailed = 5
status_of (Refused refusal) = 6
status_of (Client fault) = status_of_fault fault
status_of (BadJournal refusal) = 6
status_of OutOfMemory = 7

-- why the input is no valid document, on one line; for an element that repeats a sibling's key its
-- place as a positional selector, and the key
abbrev pub refusal_message : Refusal → List ℕ
refusal_message TooLarge = codes "too-large\n"
refusal_message NotUtf8 = codes "not-utf-8\n"
refusal_message (NotWellFormed place) = codes "not-well-formed " ++ (decimal place ++ codes "\n")
refusal_message (Faulty Invalid) = codes "schema-validation-error\n"
refusal_message (Faulty Unformed) = codes "constraint-failure\n"
refusal_message (Faulty (Repeated clash)) =
    codes "uniqueness-failure "
    ++ (encode_utf8_all (path_text clash.path)
    ++ (codes "/@" ++ (attribute_name clash.key ++ codes "\n")))

-- why the input is no journal, on one line
abbrev pub journal_message : JournalRefusal → List ℕ
journal_message (Damaged place) = codes "journal: damaged " ++ (decimal place ++ codes "\n")
journal_message (RefusedAt number) = codes "journal: refused " ++ (decimal number ++ codes "\n")
journal_message TooLong = codes "journal: too-long\n"

-- the message on the stream for errors, on one line; none after success
abbrev pub words_of : Exit → List ℕ
words_of Done = []
words_of Usage = usage_line
words_of (BadHostWords fault) = host_message fault
words_of InputFailed = codes "input failed\n"
words_of OutputFailed = codes "output failed\n"
words_of NetworkFailed = codes "network failed\n"
words_of (Refused refusal) = refusal_message refusal
words_of (Client fault) = fault_message fault
words_of (BadJournal refusal) = journal_message refusal
words_of OutOfMemory = codes "out of memory\n"

-- the message allocates: the input or the words after `host` were refused, or a call of the
-- client failed
abbrev pub HasAllocatedMessage : Exit → Type 0
HasAllocatedMessage (Refused refusal) = Unit {0}
HasAllocatedMessage (Client fault) = Unit {0}
HasAllocatedMessage (BadHostWords fault) = Unit {0}
HasAllocatedMessage (BadJournal refusal) = Unit {0}
HasAllocatedMessage _ = ⊥
