-- What a follower of a document holds, and which replies reach it. RFC 4825, section 7.3; RFC 5874,
-- section 3.
use Rattle.std.specs.Prelude.{◌≡◌, ◌<◌, ◌≤◌, ◌⊎◌, ℕ, List, ◌++◌, length, Option, None, Some}
use Rattle.xml_names.specs.Limits.{u64_max}
use Rattle.doc_names.specs.declared.doc_id.DocId.{DocId}
use Rattle.patch_rules.specs.Replay.{ReplicaContents}
use Rattle.reply_text.specs.ReplyHeads.{SentReply, reply_bytes}
use Rattle.store_core.specs.DocumentChanges.{find_document, document_id}
use Rattle.store_core.specs.State.{Document, State, Version}
use Rattle.store_core.specs.ValidStates.{IsValidState}
use Rattle.xcap_io.specs.ConnectionHistories.{Traffic}
use Rattle.xcap_client.specs.ParsedRequests.{request_of_ask}
use Rattle.xcap_client.specs.Requests.{request_bytes}
use Rattle.xcap_client.specs.declared.request.Ask.{Ask}
use Rattle.xcap_machine.specs.SubscriberReplicas.{replica_of_version}
use Rattle.xcap_machine.specs.Machine.{ValidStep}
use Rattle.xcap_machine.specs.ReachedStates.{ReachesByValidSteps, HasVersion}

-- a replica of a stored document has its present tag and tree, and one of no document is empty
abbrev pub replica_of : Option Document → ReplicaContents
replica_of None = None
replica_of (Some d) = replica_of_version d.now

-- the replica is the document of this name in the state
abbrev pub IsCurrentReplica : State → DocId → ReplicaContents → Type 0
IsCurrentReplica m id held = held ≡ replica_of (find_document document_id m.documents id)

-- the replica is empty, or a version that the document had in a state from which the machine of
-- this root came to the state `n`, with a tag of 64 bits
abbrev pub HoldsVersion : List ℕ → State → DocId → ReplicaContents → Type 0
HoldsVersion root n id held =
    (held ≡ None)
    ⊎ ((m : State) × (v : Version) × IsValidState m × ReachesByValidSteps root m n
    × HasVersion m id v
    × (v.tag ≤ u64_max) × (held ≡ replica_of_version v))

-- These bytes begin with a reply of the machine of this root in this state to what the client
-- asked, which changes nothing; its body's length is a number of 64 bits, as any body's in memory
-- is. Whatever may follow.
pub record IsAnsweredInState (root : List ℕ) (n : State) (ask : Ask) (given : List ℕ) : Type 0 where
  pub reply : SentReply
  pub answers : ValidStep root n (request_of_ask root ask) reply n None
  pub countable : length reply.body < 18446744073709551616
  pub more : List ℕ
  pub begins : given ≡ reply_bytes reply ++ more

-- What was given on this connection begins with a reply of the machine of this root in this state
-- to what the client asked on it.
abbrev pub IsServedInState : List ℕ → State → Traffic → Type 0
IsServedInState root n passed =
    (ask : Ask) → passed.taken ≡ request_bytes root ask → IsAnsweredInState root n ask passed.given
