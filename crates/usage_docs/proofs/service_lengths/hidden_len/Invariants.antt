use Rattle.std.proofs.Common.{◌≡◌, take, min}
use Rattle.usage_docs.specs.readers.ServiceLengths.{decls_len, hidden_bindings}
use Rattle.usage_docs.proofs.HiddenLemmas.{HasSeen}
use Rattle.usage_docs.proofs.service_lengths.hidden_len.Given as goal

abbrev pub invariant-loop-decl : goal.invariant-loop-decl
invariant-loop-decl l =
    record {
      seen : HasSeen (take l.decl-index l.own) l.seen;
      counted : l.total ≡ min (decls_len (hidden_bindings (take l.decl-index l.own) l.bindings)) 18446744073709551615;
    }
