-- The status that a program ends with where a call of the client failed, and its message. The
-- words on diff documents come from RFC 5261, section 5.1; the rest is the project's own.
use Rattle.std.specs.Prelude.{ℕ, List, ◌++◌, Option, None, Some, codes, decimal, encode_utf8_all}
use Rattle.xcap_client.specs.declared.response_fault.ResponseFault.{ResponseFault}
use Rattle.xcap_client.specs.declared.response_fault.ResponseFault.TheVariants as responses
use Rattle.patch_apply.specs.declared.fault.ApplyFault.{ApplyFault}
use Rattle.patch_apply.specs.declared.fault.ApplyFault.TheVariants as notices
use Rattle.xcap_client.specs.declared.client_fault.ClientFault.TheVariants as clients
use Rattle.client_follower.specs.declared.follower_fault.FollowerFault.{FollowerFault}
use Rattle.client_follower.specs.declared.follower_fault.FollowerFault.TheVariants as faults

-- the status
abbrev pub status_of_fault : FollowerFault → ℕ
status_of_fault (faults.Client clients.PeerFault) = 5
status_of_fault (faults.Client (clients.Refused status name)) = 6
status_of_fault (faults.Client clients.NoMemory) = 7
status_of_fault (faults.Client (clients.BadResponse fault)) = 8
status_of_fault (faults.BadNotice fault) = 6
status_of_fault (faults.Apply fault) = 6
status_of_fault faults.NoMemory = 7
status_of_fault faults.BadTag = 8
status_of_fault (faults.BadText fault) = 8

-- why there is no response
abbrev pub response_message : ResponseFault → List ℕ
response_message responses.ReadFailed = codes "network failed\n"
response_message responses.NoMemory = codes "out of memory\n"
response_message responses.Head = codes "bad response: head\n"
response_message responses.Coding = codes "bad response: coding\n"
response_message responses.Length = codes "bad response: length\n"
response_message (responses.TooLong n) =
    codes "bad response: too-long " ++ (decimal n ++ codes "\n")
response_message (responses.Short n m) =
    codes "bad response: short " ++ (decimal n ++ (codes " " ++ (decimal m ++ codes "\n")))

-- an etag, or a dash
abbrev pub tag_text : Option (List ℕ) → List ℕ
tag_text None = codes "-"
tag_text (Some tag) = encode_utf8_all tag

-- the number of an operation after its error
abbrev pub message_with_number : List ℕ → ℕ → List ℕ
message_with_number words n = words ++ (decimal n ++ codes "\n")

-- why a diff document can't be applied
abbrev pub apply_message : ApplyFault → List ℕ
apply_message notices.WrongDocument = codes "notice: wrong-document\n"
apply_message (notices.WrongTag held wanted) =
    codes "notice: wrong-tag "
    ++ (tag_text held ++ (codes " " ++ (encode_utf8_all wanted ++ codes "\n")))
apply_message (notices.Unlocated n) = message_with_number (codes "notice: unlocated-node ") n
apply_message (notices.NamespacePrefix n) =
    message_with_number (codes "notice: invalid-namespace-prefix ") n
apply_message (notices.Directive n) =
    message_with_number (codes "notice: invalid-patch-directive ") n
apply_message (notices.RootOperation n) =
    message_with_number (codes "notice: invalid-root-element-operation ") n
apply_message (notices.NodeTypes n) = message_with_number (codes "notice: invalid-node-types ") n
apply_message (notices.Whitespace n) =
    message_with_number (codes "notice: invalid-whitespace-directive ") n

-- the message, on one line; for a status that refuses, with the error that an error document names
abbrev pub fault_message : FollowerFault → List ℕ
fault_message (faults.Client clients.PeerFault) = codes "network failed\n"
fault_message (faults.Client clients.NoMemory) = codes "out of memory\n"
fault_message (faults.Client (clients.Refused status None)) =
    codes "refused " ++ (decimal status ++ codes "\n")
fault_message (faults.Client (clients.Refused status (Some name))) =
    codes "refused " ++ (decimal status ++ (codes " " ++ (encode_utf8_all name ++ codes "\n")))
fault_message (faults.Client (clients.BadResponse fault)) = response_message fault
fault_message faults.BadTag = codes "bad response: tag\n"
fault_message (faults.BadText fault) = codes "bad response: text\n"
fault_message (faults.BadNotice fault) = codes "notice: not-a-diff\n"
fault_message (faults.Apply fault) = apply_message fault
fault_message faults.NoMemory = codes "out of memory\n"
