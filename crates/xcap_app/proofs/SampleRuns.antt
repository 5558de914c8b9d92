-- A sample, from its connections to its summary.
use Rattle.std.proofs.Common.{◌≡◌, ℕ, zero, suc, ◌+◌, ◌/◌, ◌<◌, ◌≤◌, List, [], ◌∷◌, ◌++◌, length, Option, Some, refl, sym, ap, subst, ◌∙◌, arith}
use Rattle.std.proofs.lemmas.Nat.{div_below}
use Rattle.reply_text.specs.ReplyHeads.{SentReply}
use Rattle.http_wire.specs.declared.request.Request.{Request}
use Rattle.xcap_io.specs.StreamStates.{StreamState}
use Rattle.http_serve.specs.ServedPorts.{ServesPort}
use Rattle.http_serve.specs.ReplyBytes.{StepsInBytes}
use Rattle.http_serve.specs.declared.accept_loop.ServeSummary.{ServeSummary}
use Rattle.http_serve.proofs.Simulations.{port_by}
use Rattle.edit_ops.specs.declared.edit.Edit.{Edit}
use Rattle.store_core.specs.Contents.{Represents, StoreContents as Content}
use Rattle.store_core.specs.ValidStates.{IsValidState}
use Rattle.store_core.specs.State.{State}
use Rattle.xcap_machine.specs.Machine.{ValidStep}
use Rattle.xcap_machine.specs.ServerStates.{ServerState}
use Rattle.xcap_app.specs.StatusRecorders.{RecordedState, RecordedStep, initial_recorded_state}
use Rattle.xcap_app.specs.SampleRequests.{all_connections, connections_from, root_text}
use Rattle.xcap_app.specs.SampleCommand.{MakesSample, summary_of}
use Rattle.xcap_app.specs.declared.sample_summary.Summary.{Summary}
use Rattle.xcap_app.specs.inner.RecorderSteps.{AnswersRecording, RecorderState, ServesConnectionBytes, RepresentsRecorded, new_recorder_state}
use Rattle.xcap_app.proofs.StatusSteps.{new_stands, noted_step}
use Rattle.xcap_app.proofs.KnownConnections.{all_served}

-- the answer of a server, whose status was recorded
pub answers_noting : (old new : RecorderState) (server server' : ServerState) (statuses : List ℕ) (room : ℕ) (request : Request) (reply : SentReply) (status : ℕ) (edit : Option Edit)
    → record { server = server; statuses = statuses; room = room } ≡ old → new ≡ record { server = server'; statuses = statuses ++ status ∷ []; room = room } → status ≡ reply.status → server'.root ≡ server.root
    → ((m : State) → IsValidState m → Represents server.content m → (next : State) × ValidStep server.root m request reply next edit × Represents server'.content next) → AnswersRecording old request reply new edit
answers_noting old new server server' statuses room request reply status edit was is noted same steps =
    let before : RecorderState = record { server = server; statuses = statuses; room = room } in
    let after : RecorderState = record { server = server'; statuses = statuses ++ status ∷ []; room = room } in
    let one : AnswersRecording before request reply after edit = record {
      same_root = same;
      follows = λ m kept stands. let t = steps m kept stands in (t.0, t.1.2, t.2, t.1);
      notes = ap (λ (n : ℕ). statuses ++ n ∷ []) noted;
    } in
    subst (λ (o : RecorderState). AnswersRecording o request reply new edit) was (subst (λ (n : RecorderState). AnswersRecording before request reply n edit) (sym is) one)

-- what a port that never fails served
pub serves_them : {W : Type 0} (Keeps : List Edit → W → W → Type 0) (served : ServeSummary) (root : List ℕ) (all : List (List ℕ)) (s s' : RecorderState) (count : ℕ) (old new : StreamState) (w w' : W) (m : RecordedState)
    → count ≡ length all → old.port.to_come ≡ Some all → old.port.faults ≡ 0 → new.port.faults ≡ 0 → old.read_faults ≡ 0 → new.read_faults ≡ 0 → old.write_faults ≡ 0 → new.write_faults ≡ 0 → RepresentsRecorded root s m
    → ServesPort (StepsInBytes AnswersRecording) Keeps (record { most = count; served = served }) (record { machine = s; stream = old; watchers = w }) (record { machine = s'; stream = new; watchers = w' }) → ServesConnectionBytes root all s' m
serves_them Keeps served root all s s' count old new w w' m many told f f' r r' t t' stands v =
    let v' : ServesPort (StepsInBytes AnswersRecording) Keeps (record { most = length all; served = served }) (record { machine = s; stream = old; watchers = w }) (record { machine = s'; stream = new; watchers = w' }) = subst (λ (n : ℕ). ServesPort (StepsInBytes AnswersRecording) Keeps (record { most = n; served = served }) (record { machine = s; stream = old; watchers = w }) (record { machine = s'; stream = new; watchers = w' })) many v in
    let by = port_by (StepsInBytes AnswersRecording) (StepsInBytes (RecordedStep root)) (RepresentsRecorded root) (noted_step root) Keeps (length all) served s s' m old new w w' stands v' in
    let done = all_served (StepsInBytes (RecordedStep root)) Keeps served m by.0 all old new w w' told f f' r r' t t' by.2 in
    record { connections = done.0; all_bytes = done.1; all_ends = done.2; next = by.0; edits = done.3; stands = by.1; serves = done.4 }

-- the number of connections
many_connections : (requests number count : ℕ) → length (connections_from requests number count) ≡ count
many_connections requests number zero = refl
many_connections requests number (suc count) = ap suc (many_connections requests (number + 1) count)

pub few_connections : (requests : ℕ) → requests ≤ 4294967295 → length (all_connections requests) ≤ 4294968
few_connections requests few =
    let below : (requests + 999) / 1000 < 4294969 = div_below (requests + 999) 1000 4294969 (omega arith) (omega (arith, few)) in
    omega (arith, many_connections requests 0 ((requests + 999) / 1000), below)

-- and the summary of their results
pub sampled : (requests room : ℕ) (all : List (List ℕ)) (old new : RecorderState) (summary : Summary) → old ≡ new_recorder_state room → all ≡ all_connections requests
    → ((m : RecordedState) → RepresentsRecorded old.server.root old m → ServesConnectionBytes old.server.root all new m) → summary ≡ summary_of requests new.statuses new.server.content → MakesSample requests summary
sampled requests room all old new summary was are serves sums =
    let from_new : (m : RecordedState) → RepresentsRecorded root_text (new_recorder_state room) m → ServesConnectionBytes root_text all new m =
    subst (λ (o : RecorderState). (m : RecordedState) → RepresentsRecorded o.server.root o m → ServesConnectionBytes o.server.root all new m) was serves in
    let s = from_new initial_recorded_state (new_stands room) in
    record {
      connections = s.connections;
      all_bytes = s.all_bytes ∙ are;
      all_ends = s.all_ends;
      next = s.next;
      edits = s.edits;
      kept = s.stands.kept;
      serves = s.serves;
      sums = sums ∙ ap (λ (l : List ℕ). summary_of requests l new.server.content) (sym s.stands.noted) ∙ ap (λ (c : Content). summary_of requests s.next.statuses c) s.stands.stands;
    }
