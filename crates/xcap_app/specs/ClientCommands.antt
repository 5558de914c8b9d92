-- What the commands of the client do, by how the run ends (RFC 4825, section 7). The commands are
-- the project's own.
use Rattle.std.specs.Prelude.{◌≡◌, ℕ, Bool, true, false, ◌&&◌, ◌∷◌, ◌++◌, List, Option, None, Some}
use Rattle.std.specs.Prelude.{is_some, Result, Ok, Err, encode_utf8_all, if◌then◌else◌}
use Rattle.doc_names.specs.Usages.{usage_of}
use Rattle.doc_names.specs.declared.doc_id.DocId.{DocId}
use Rattle.doc_names.specs.declared.doc_id.Home.{Home}
use Rattle.doc_names.specs.declared.doc_id.Home.TheVariants.{Global, User}
use Rattle.xcap_uri.specs.Roots.{slash}
use Rattle.xcap_uri.specs.Targets.{IsTargetResult}
use Rattle.xcap_uri.specs.declared.fault.UriFault.{UriFault}
use Rattle.xcap_uri.specs.declared.target.Target.{Target}
use Rattle.xcap_uri.specs.declared.target.Target.TheVariants.{Document}
use Rattle.client_commands.specs.CommandEnds.{CallStreams, CommandCall, MakesOneCall}
use Rattle.client_commands.specs.FollowCommand.{FollowOptions, FollowsDocument}
use Rattle.client_commands.specs.PutCommand.{AsksNothing, PutOptions, PutStreams, PutsFromInput}
use Rattle.client_commands.specs.PutCommand.{call_streams}
use Rattle.client_commands.specs.declared.requester.Requester.{Requester}
use Rattle.client_commands.specs.declared.command_end.CommandEnd.{CommandEnd}
use Rattle.client_commands.specs.declared.command_end.CommandEnd.TheVariants as ends
use Rattle.xcap_app.specs.ErrorMessages.{IsReportedAs}
use Rattle.xcap_app.specs.declared.exit.Exit.{Exit}
use Rattle.xcap_app.specs.declared.exit.Exit.TheVariants.{Done, Usage, InputFailed, OutputFailed}
use Rattle.xcap_app.specs.declared.exit.Exit.TheVariants.{Refused, Client, OutOfMemory}
use Rattle.xcap_app.specs.declared.refusal.Refusal.TheVariants.{TooLarge}

-- how a run ends with a command of the client
abbrev pub exit_of_client : CommandEnd → Exit
exit_of_client ends.Done = Done
exit_of_client ends.InputFailed = InputFailed
exit_of_client ends.OutputFailed = OutputFailed
exit_of_client ends.TooLarge = Refused TooLarge
exit_of_client (ends.Failed fault) = Client fault
exit_of_client ends.OutOfMemory = OutOfMemory

-- The command did what its end promises, and the exit reports that end, or that memory ran out for
-- the message; or memory ran out before, and nothing was done.
pub data ExitsAs (Did : CommandEnd → Type 0) (Nothing : Type 0) (exit : Exit) : Type 0 where
  ended_so : (ended : CommandEnd) → Did ended → IsReportedAs (exit_of_client ended) exit
      → ExitsAs Did Nothing exit
  lacks_memory : Nothing → exit ≡ OutOfMemory → ExitsAs Did Nothing exit

-- `fetch` or `delete`, which makes this call
abbrev pub RunsCall : CommandCall → Exit → CallStreams → CallStreams → Type 0
RunsCall call exit old new =
    ExitsAs (λ ended. MakesOneCall call ended old new) (AsksNothing old new) exit

-- `put`
abbrev pub RunsPut : PutOptions → Exit → PutStreams → PutStreams → Type 0
RunsPut options exit old new =
    ExitsAs (λ ended. PutsFromInput options ended old new)
    ((new.input ≡ old.input) × AsksNothing (call_streams old) (call_streams new)) exit

-- ---- the document of `follow`

abbrev pub is_user_home : Home → Bool
is_user_home Global = false
is_user_home (User xui) = true

-- the document of a target, where it can be followed: one under `users` of a usage whose documents
-- are stored
abbrev pub document_to_follow : Target → Option DocId
document_to_follow (Document doc) =
    if is_some (usage_of doc.auid) && is_user_home doc.home then Some doc else None
document_to_follow _ = None

abbrev pub document_of_result : Result Target UriFault → Option DocId
document_of_result (Ok target) = document_to_follow target
document_of_result (Err fault) = None

-- a target means this document under a root, or none that can be followed
pub record MeansDocument (root target : List ℕ) (doc : Option DocId) : Type 0 where
  pub answer : Result Target UriFault
  pub by_rules : IsTargetResult root (encode_utf8_all target) answer
  pub is : doc ≡ document_of_result answer

-- The arguments of `follow`: who asks, the document as the text after the root and a slash, and for
-- how many rounds.
pub record FollowArguments : Type 0 where
  pub requester : Requester
  pub document : List ℕ
  pub rounds : ℕ

-- the text means this document, or none that can be followed
abbrev pub NamesDocument : FollowArguments → Option DocId → Type 0
NamesDocument arguments doc =
    MeansDocument arguments.requester.root
    (arguments.requester.root ++ slash ∷ arguments.document) doc

-- the options to follow a document with
abbrev pub follow_options : FollowArguments → DocId → FollowOptions
follow_options arguments doc =
    record { requester = arguments.requester; doc = doc; rounds = arguments.rounds }

-- The text means a document, which was followed; or it means none, and the words spell no command;
-- or memory ran out before that was known.
pub data RunsFollow (arguments : FollowArguments) (exit : Exit)
    (old new : CallStreams) : Type 0 where
  follows : (doc : DocId) → NamesDocument arguments (Some doc)
      → ExitsAs (λ ended. FollowsDocument (follow_options arguments doc) ended old new)
      (AsksNothing old new) exit
      → RunsFollow arguments exit old new
  means_none : NamesDocument arguments None → exit ≡ Usage → AsksNothing old new
      → RunsFollow arguments exit old new
  knows_nothing : exit ≡ OutOfMemory → AsksNothing old new → RunsFollow arguments exit old new
