use Rattle.std.proofs.Common.{◌≡◌, List, ℕ, [], ◌∷◌, ◌++◌, ap, ◌∙◌, subst, append_assoc}
use Rattle.std.specs.Prelude.{codes, decimal, Ok, Err}
use Rattle.std.proofs.lemmas.List.{append-nil}
use Rattle.std.proofs.lemmas.Result.{err_from_is_err_and}
use Rattle.xcap_io.specs.StreamWrites.{WritesAll}
use Rattle.xcap_io.proofs.BufferPieces.{adds_both, adds_stop, all_written}
use Rattle.xcap_app.specs.ServeCommand.{served_line}
use Rattle.xcap_app.proofs.serve.write_served_line.Goals as goal

-- the pieces, as one line
line_is : (word digits b : List ℕ) → digits ≡ b → (word ++ digits) ++ (10 ∷ []) ≡ word ++ (b ++ 10 ∷ [])
line_is word digits b is = append_assoc word digits (10 ∷ []) ∙ ap (λ (l : List ℕ). word ++ (l ++ 10 ∷ [])) is

pub returns-in_err-put-clause-all_or_prefix : goal.returns-in_err-put-clause-all_or_prefix
returns-in_err-put-clause-all_or_prefix g c =
    let o = g.O.Line.state in
    let p = err_from_is_err_and c.from_residual.result c.from_residual.ensures.1 in
    let stopped = adds_stop (o c.args.output.now) c.new-write_buffer.result (o c.put.new.sink) c.put.new.write_buffer c.put.new.write_buffer p.0 (codes "served ") (decimal c.args.connections ++ 10 ∷ []) c.in_err-put.ensures.appends_piece in
    rw p.1 (all_written (o c.args.output.now) (o c.put.new.sink) c.new-write_buffer.result c.put.new.write_buffer (Err p.0) (served_line c.args.connections) c.new-write_buffer.ensures.holds_nothing tt stopped)

pub returns-in_err-put-2-clause-all_or_prefix : goal.returns-in_err-put-2-clause-all_or_prefix
returns-in_err-put-2-clause-all_or_prefix g c =
    let o = g.O.Line.state in
    let digits : List ℕ = c.as_bytes.result.now in
    let printed : digits ≡ decimal c.args.connections = c.as_bytes.ensures.value ∙ c.format.ensures.text in
    let p = err_from_is_err_and c.from_residual-in_err-put-2.result c.from_residual-in_err-put-2.ensures.1 in
    let both = adds_both (o c.args.output.now) c.new-write_buffer.result (o c.put.new.sink) c.put.new.write_buffer (o c.put-2.new.sink) c.put-2.new.write_buffer (Err p.0) (codes "served ") digits c.in_ok-put.ensures.appends_piece c.in_err-put-2.ensures.appends_piece in
    let stopped = adds_stop (o c.args.output.now) c.new-write_buffer.result (o c.put-2.new.sink) c.put-2.new.write_buffer c.put-2.new.write_buffer p.0 (codes "served " ++ digits) (10 ∷ []) both in
    rw p.1 (subst (WritesAll (o c.args.output.now).taken (o c.put-2.new.sink).taken (Err p.0)) (line_is (codes "served ") digits (decimal c.args.connections) printed)
    (all_written (o c.args.output.now) (o c.put-2.new.sink) c.new-write_buffer.result c.put-2.new.write_buffer (Err p.0) ((codes "served " ++ digits) ++ 10 ∷ []) c.new-write_buffer.ensures.holds_nothing tt stopped))

pub returns-in_err-put-3-clause-all_or_prefix : goal.returns-in_err-put-3-clause-all_or_prefix
returns-in_err-put-3-clause-all_or_prefix g c =
    let o = g.O.Line.state in
    let digits : List ℕ = c.as_bytes.result.now in
    let printed : digits ≡ decimal c.args.connections = c.as_bytes.ensures.value ∙ c.format.ensures.text in
    let p = err_from_is_err_and c.from_residual-in_err-put-3.result c.from_residual-in_err-put-3.ensures.1 in
    let both = adds_both (o c.args.output.now) c.new-write_buffer.result (o c.put.new.sink) c.put.new.write_buffer (o c.put-2.new.sink) c.put-2.new.write_buffer (Ok tt) (codes "served ") digits c.in_ok-put.ensures.appends_piece c.in_ok-put-2.ensures.appends_piece in
    let all = adds_both (o c.args.output.now) c.new-write_buffer.result (o c.put-2.new.sink) c.put-2.new.write_buffer (o c.put-3.new.sink) c.put-3.new.write_buffer (Err p.0) (codes "served " ++ digits) (10 ∷ []) both c.in_err-put-3.ensures.appends_piece in
    rw p.1 (subst (WritesAll (o c.args.output.now).taken (o c.put-3.new.sink).taken (Err p.0)) (line_is (codes "served ") digits (decimal c.args.connections) printed)
    (all_written (o c.args.output.now) (o c.put-3.new.sink) c.new-write_buffer.result c.put-3.new.write_buffer (Err p.0) ((codes "served " ++ digits) ++ 10 ∷ []) c.new-write_buffer.ensures.holds_nothing tt all))

pub returns-clause-all_or_prefix : goal.returns-clause-all_or_prefix
returns-clause-all_or_prefix g c =
    let o = g.O.Line.state in
    let digits : List ℕ = c.as_bytes.result.now in
    let printed : digits ≡ decimal c.args.connections = c.as_bytes.ensures.value ∙ c.format.ensures.text in
    let two = adds_both (o c.args.output.now) c.new-write_buffer.result (o c.put.new.sink) c.put.new.write_buffer (o c.put-2.new.sink) c.put-2.new.write_buffer (Ok tt) (codes "served ") digits c.in_ok-put.ensures.appends_piece c.in_ok-put-2.ensures.appends_piece in
    let three = adds_both (o c.args.output.now) c.new-write_buffer.result (o c.put-2.new.sink) c.put-2.new.write_buffer (o c.put-3.new.sink) c.put-3.new.write_buffer (Ok tt) (codes "served " ++ digits) (10 ∷ []) two c.in_ok-put-3.ensures.appends_piece in
    let all = adds_both (o c.args.output.now) c.new-write_buffer.result (o c.put-3.new.sink) c.put-3.new.write_buffer (o c.flush.new.sink) c.flush.new.write_buffer c.flush.result ((codes "served " ++ digits) ++ 10 ∷ []) [] three c.flush.ensures.flushes_in_order in
    subst (WritesAll (o c.args.output.now).taken (o c.flush.new.sink).taken c.flush.result)
    (append-nil ((codes "served " ++ digits) ++ 10 ∷ []) ∙ line_is (codes "served ") digits (decimal c.args.connections) printed)
    (all_written (o c.args.output.now) (o c.flush.new.sink) c.new-write_buffer.result c.flush.new.write_buffer c.flush.result (((codes "served " ++ digits) ++ 10 ∷ []) ++ []) c.new-write_buffer.ensures.holds_nothing c.flush.ensures.leaves_nothing_gathered all)
