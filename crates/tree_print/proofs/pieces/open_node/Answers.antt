use Rattle.std.proofs.Common.{◌≡◌, ◌+◌, ℕ, List, chars, flat_map, length, sym, ap, ◌∙◌, subst, arith}
use Rattle.xml_names.specs.Markup.{byte_len, print_text, text_escape}
use Rattle.xml_tree.specs.declared.tree.Node.{Node}
use Rattle.xml_tree.specs.declared.tree.Node.TheVariants.{Chars}
use Rattle.xml_tree.specs.inner.Print.{print_node}
use Rattle.tree_print.specs.inner.Parts.{Opens, Pending, node_pieces, text_pieces}
use Rattle.tree_print.proofs.PieceLemmas.{opens_same}
use Rattle.tree_print.proofs.pieces.open_node.Goals as goal

-- the same node
opens_node : (n m : Node) (old new : Pending) (piece : List ℕ) → n ≡ m → Opens (print_node m) (node_pieces m) old piece new → Opens (print_node n) (node_pieces n) old piece new
opens_node n m old new piece same opens = subst (λ (x : Node). Opens (print_node x) (node_pieces x) old piece new) (sym same) opens

pub open_element-requires : goal.open_element-requires
open_element-requires c = let fits = rw c.in-Elem.is at c.requires in omega (arith, fits)

pub open_text-requires : goal.open_text-requires
open_text-requires c = omega (arith, c.requires)

pub open_comment-requires : goal.open_comment-requires
open_comment-requires c = omega (arith, c.requires)

pub returns-in-Elem : goal.returns-in-Elem
returns-in-Elem c = record { opens = opens_node c.args.node.now _ c.args.parts.now c.open_element.new.parts c.open_element.result.now c.in-Elem.is c.open_element.ensures.opens }

pub returns-in-Chars : goal.returns-in-Chars
returns-in-Chars c = record {
  opens =
      let t = c.in-Chars.text in
      let s = c.as_str.result.now in
      opens_node c.args.node.now (Chars t) c.args.parts.now c.open_text.new.parts c.open_text.result.now c.in-Chars.is
      (opens_same (flat_map text_escape (chars s)) (print_text t) (text_pieces (length s)) (text_pieces (byte_len t)) c.args.parts.now c.open_text.new.parts c.open_text.result.now
      (ap (flat_map text_escape) (sym c.as_str.ensures.same_chars)) (ap (λ (l : List ℕ). text_pieces (length l)) (sym c.as_str.ensures.utf8_bytes)) c.open_text.ensures.opens);
}

pub returns-in-Comment : goal.returns-in-Comment
returns-in-Comment c = record { opens = opens_node c.args.node.now _ c.args.parts.now c.open_comment.new.parts c.open_comment.result.now c.in-Comment.is c.open_comment.ensures.opens }
