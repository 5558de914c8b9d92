use Rattle.std.proofs.Common.{List, [], ◌∷◌, ◌++◌, ◌+◌, ◌≡◌, ◌∙◌, true, false, is_some, take, min, ap, sym, subst}
use Rattle.std.proofs.lemmas.List.{take_more, take_all}
use Rattle.xml_names.specs.Scopes.{declared_uri}
use Rattle.xml_names.specs.declared.names.Decl.{Decl}
use Rattle.usage_docs.specs.readers.ServiceLengths.{bindings_of_prefix, decls_len, hidden_bindings}
use Rattle.usage_docs.proofs.HiddenLemmas.{HasSeen, hides_more, hides_same, lent, none_hidden, none_seen, seen_more, was_new, was_not_new}
use Rattle.usage_docs.proofs.LengthLemmas.{two_capped}
use Rattle.usage_docs.proofs.service_lengths.hidden_len.Goals as goal
use Rattle.usage_docs.proofs.service_lengths.hidden_len.Goals.{then-branch, else-branch}

pub loop-decl-init : goal.loop-decl-init
loop-decl-init c =
    record {
      seen = none_seen c.new-seen.result c.new-seen.ensures.empty;
      counted = sym (ap (λ (bs : List Decl). min (decls_len bs) 18446744073709551615) (none_hidden c.args.bindings.now));
    }

pub loop-decl-preserved : goal.loop-decl-preserved
loop-decl-preserved c =
    let own = c.args.own.now in
    let bs = c.args.bindings.now in
    let i = c.loop-decl.decl-index in
    let xs = take i own in
    let d = c.decl-item.result in
    let inv = c.loop-decl.invariant in
    let next : take (i + 1) own ≡ xs ++ d ∷ [] = take_more own i d c.loop-decl-test.true ∙ ap (λ (x : Decl). xs ++ x ∷ []) (sym c.decl-item.is) in
    record {
      seen = subst (λ (ds : List Decl). HasSeen ds c.insert.new.self) (sym next) (seen_more xs d c.loop-decl.seen c.insert.new.self inv.seen c.in_ok-insert.ensures.updates);
      counted = elim c.if-branch.branch [
        | then-branch w ↦ (
            let new : is_some (declared_uri xs d.prefix) ≡ false = was_new _ _ _ c.in_ok-insert.ensures.added (inv.seen (lent d.prefix)) w.if-branch.true in
            let more : decls_len (hidden_bindings (take (i + 1) own) bs) ≡ decls_len (hidden_bindings xs bs) + decls_len (bindings_of_prefix d.prefix bs) =
            ap (λ (ds : List Decl). decls_len (hidden_bindings ds bs)) next ∙ hides_more xs d new bs in
            two_capped 18446744073709551615 _ _ _ _ _ _ inv.counted w.binding_len.ensures.exact (w.total-is ∙ w.saturating_add-total.ensures) more)
        | else-branch w ↦ (
            let old : is_some (declared_uri xs d.prefix) ≡ true = was_not_new _ _ _ c.in_ok-insert.ensures.added (inv.seen (lent d.prefix)) w.if-branch.false in
            let same : hidden_bindings (take (i + 1) own) bs ≡ hidden_bindings xs bs = ap (λ (ds : List Decl). hidden_bindings ds bs) next ∙ hides_same xs d old bs in
            w.total-is ∙ inv.counted ∙ sym (ap (λ (ds : List Decl). min (decls_len ds) 18446744073709551615) same))
      ];
    }

pub returns : goal.returns
returns c = record {
  ok =
      c.loop-decl.invariant.counted
      ∙ ap (λ (ds : List Decl). min (decls_len (hidden_bindings ds c.args.bindings.now)) 18446744073709551615) (take_all c.loop-decl.decl-index c.args.own.now c.loop-decl-test.false);
}
