use Rattle.std.proofs.Common.{List, ℕ, encode_utf8_all, sym, ap, ◌∙◌, subst}
use Rattle.xcap_io.specs.BufferedWrites.{BuffersBytes}
use Rattle.tree_print.specs.inner.LentPrints.{lent_bytes}
use Rattle.tree_print.proofs.lent_print.LentPrint.write.Goals as goal

pub print_pieces-requires : goal.print_pieces-requires
print_pieces-requires g c = rw c.in-Document.is at c.self.invariant.1

pub print_pieces-requires-in-Element : goal.print_pieces-requires-in-Element
print_pieces-requires-in-Element g c = rw c.in-Element.is at c.self.invariant.1

pub returns-in-Made : goal.returns-in-Made
returns-in-Made g c = record {
  adds_print =
      subst (λ (l : List ℕ). BuffersBytes (record { sink = g.S.Line.state c.args.sink.now; held = c.args.write_buffer.now }) (record { sink = g.S.Line.state c.put.new.sink; held = c.put.new.write_buffer }) c.put.result l)
      (sym (ap lent_bytes c.in-Made.is) ∙ c.self.view_is) c.put.ensures.appends_piece;
}

pub returns-in-Document : goal.returns-in-Document
returns-in-Document g c = record {
  adds_print =
      subst (λ (l : List ℕ). BuffersBytes (record { sink = g.S.Line.state c.args.sink.now; held = c.args.write_buffer.now }) (record { sink = g.S.Line.state c.write_pieces.new.sink; held = c.write_pieces.new.write_buffer }) c.write_pieces.result l)
      (ap encode_utf8_all c.print_pieces.ensures.whole_print ∙ sym (ap lent_bytes c.in-Document.is) ∙ c.self.view_is) c.write_pieces.ensures.adds_pieces;
}

pub returns-in-Element : goal.returns-in-Element
returns-in-Element g c = record {
  adds_print =
      subst (λ (l : List ℕ). BuffersBytes (record { sink = g.S.Line.state c.args.sink.now; held = c.args.write_buffer.now }) (record { sink = g.S.Line.state c.write_pieces-in-Element.new.sink; held = c.write_pieces-in-Element.new.write_buffer }) c.write_pieces-in-Element.result l)
      (ap encode_utf8_all c.print_pieces-in-Element.ensures.whole_print ∙ sym (ap lent_bytes c.in-Element.is) ∙ c.self.view_is) c.write_pieces-in-Element.ensures.adds_pieces;
}
