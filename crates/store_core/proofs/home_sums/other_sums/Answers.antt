use Rattle.std.proofs.Common.{ap, arith, length, List, sum_by}
use Rattle.doc_names.specs.declared.doc_id.DocId.{DocId}
use Rattle.store_core.specs.declared.entry.Entry.{Entry}
use Rattle.store_core.specs.inner.HomeSums.{others_at_home, stored_len}
use Rattle.store_core.proofs.HomeLists.{count-step, less-among, less-long, sum-step}
use Rattle.store_core.proofs.home_sums.other_sums.Goals as goal

pub loop-other-preserved : goal.loop-other-preserved
loop-other-preserved c =
    let doc = c.args.doc.now in
    let all = c.args.documents.now.entries in
    let rest = c.next.new.self in
    let row : DocId × Entry = (c.in-Some.other.now, c.in-Some.entry.now) in
    record {
      can = tt;
      finite = tt;
      counts =
          omega (
            arith,
            c.loop-other.invariant.counts,
            c.sums_with-sums.ensures.counts,
            c.len-count.ensures.len,
            less-long doc all,
            count-step doc row rest (c.is_other_at_home.result) c.is_other_at_home.ensures.exact,
            ap (λ (es : List (DocId × Entry)). length (others_at_home es doc)) c.in-Some.ensures.steps,
          );
      adds =
          omega (
            arith,
            c.loop-other.invariant.adds,
            c.sums_with-sums.ensures.adds_lengths,
            c.requires,
            less-among doc all,
            sum-step doc row rest (c.is_other_at_home.result) c.is_other_at_home.ensures.exact,
            ap (λ (es : List (DocId × Entry)). sum_by stored_len (others_at_home es doc)) c.in-Some.ensures.steps,
          );
    }
