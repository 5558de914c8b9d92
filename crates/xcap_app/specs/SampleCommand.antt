-- The result of a sample: the replies to its requests, and the contents of the store afterwards;
-- and what `sample` writes, by how it ends. The project's own.
use Rattle.std.specs.Prelude.{◌≡◌, ℕ, ◌-◌, ◌==◌, true, List, ◌++◌, codes, decimal, length, map}
use Rattle.std.specs.Prelude.{count_by, sum_by}
use Rattle.xcap_io.specs.ConnectionHistories.{Traffic}
use Rattle.http_wire.specs.ServedConnections.{ServesAll, machine_without_faults}
use Rattle.http_serve.specs.FixedReplies.{fixed_reply}
use Rattle.http_serve.specs.ReplyBytes.{StepsInBytes}
use Rattle.edit_ops.specs.declared.edit.Edit.{Edit}
use Rattle.store_core.specs.Contents.{StoreContents, contents_of}
use Rattle.store_core.specs.ValidStates.{IsValidState}
use Rattle.usage_docs.specs.Services.{document_len}
use Rattle.xcap_app.specs.StatusRecorders.{RecordedState, RecordedStep, initial_recorded_state}
use Rattle.xcap_app.specs.SampleRequests.{all_connections, root_text}
use Rattle.xcap_app.specs.declared.sample_summary.Summary.{Summary}
use Rattle.xcap_io.specs.StreamStates.{StreamState}
use Rattle.client_commands.specs.OutputBytes.{WritesAllBytes, WritesSomeBytes}
use Rattle.xcap_app.specs.declared.exit.Exit.{Exit}
use Rattle.xcap_app.specs.declared.exit.Exit.TheVariants.{Done, OutputFailed, OutOfMemory}

-- the number of replies with the status
abbrev pub count_status : ℕ → List ℕ → ℕ
count_status status statuses = count_by (λ s. s == status) statuses

-- The number of requests, of those that created what they put, of those that replaced or deleted
-- something, and of all others, which were refused; the documents stored afterwards, and the last
-- number that was given.
abbrev pub summary_of : ℕ → List ℕ → StoreContents → Summary
summary_of requests statuses held = record {
  requests = requests;
  created = count_status 201 statuses;
  changed = count_status 200 statuses;
  refused = requests - count_status 201 statuses - count_status 200 statuses;
  documents = length held.documents;
  bytes = sum_by (λ d. document_len d.tree) held.documents;
  last = held.next - 1;
}

-- The connections of this many requests were served to their end by the machine of the root, from
-- the state without documents on, one after the other, with no fault, and this is the summary of
-- its replies and of the state that they lead to.
pub record MakesSample (requests : ℕ) (summary : Summary) : Type 0 where
  pub connections : List Traffic
  pub all_bytes : map (λ c. c.given) connections ≡ all_connections requests
  pub all_ends : map (λ c. c.ended) connections ≡ map (λ c. true) connections
  pub next : RecordedState
  pub edits : List Edit
  pub kept : IsValidState next.state
  pub serves : ServesAll (StepsInBytes (RecordedStep root_text)) fixed_reply
      (machine_without_faults initial_recorded_state)
      (machine_without_faults next) connections edits
  pub sums : summary ≡ summary_of requests next.statuses (contents_of next.state)

-- the lines about the replies, four
unfoldable pub reply_lines_text : Summary → List ℕ
reply_lines_text s =
    codes "requests " ++ (decimal s.requests
    ++ (codes "\ncreated " ++ (decimal s.created
    ++ (codes "\nchanged " ++ (decimal s.changed
    ++ (codes "\nrefused " ++ (decimal s.refused
    ++ codes "\n")))))))

-- the lines about the stored documents, three
unfoldable pub document_lines_text : Summary → List ℕ
document_lines_text s =
    codes "documents " ++ (decimal s.documents
    ++ (codes "\nbytes " ++ (decimal s.bytes
    ++ (codes "\nlast " ++ (decimal s.last
    ++ codes "\n")))))

abbrev pub summary_text : Summary → List ℕ
summary_text s = reply_lines_text s ++ document_lines_text s

-- ---- what the command writes

-- The summary of the sample of this many requests was written, or a part of it where the output
-- failed; or memory ran out, and nothing was written.
abbrev pub RunsSample : ℕ → Exit → StreamState → StreamState → Type 0
RunsSample requests Done output output' =
    (summary : Summary) × MakesSample requests summary
    × WritesAllBytes (summary_text summary) output output'
RunsSample requests OutputFailed output output' =
    (summary : Summary) × MakesSample requests summary
    × WritesSomeBytes (summary_text summary) output output'
RunsSample requests OutOfMemory output output' = output' ≡ output
RunsSample requests _ output output' = ⊥
