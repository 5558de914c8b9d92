use Rattle.std.proofs.Common.{◌≡◌, List, ℕ, ◌++◌, ap, ◌∙◌, subst}
use Rattle.xcap_io.specs.StreamWrites.{WritesAll}
use Rattle.http_wire.proofs.reply_writer.write_lent_through.Goals as goal

pub returns-clause-all_or_prefix : goal.returns-clause-all_or_prefix
returns-clause-all_or_prefix g c =
    let head : List ℕ = c.args.reply.now.head in
    let body : List ℕ = c.body.result.now in
    subst (WritesAll (g.S.Line.state c.args.sink.now).taken (g.S.Line.state c.write_and_clear.new.sink).taken c.write_and_clear.result)
    (ap (λ (l : List ℕ). l ++ body) c.head.ensures.exact ∙ ap (λ (l : List ℕ). head ++ l) c.body.ensures.exact)
    c.write_and_clear.ensures.all_or_prefix
