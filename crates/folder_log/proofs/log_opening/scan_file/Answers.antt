use Rattle.std.proofs.Common.{◌∙◌, sym}
use Rattle.log_entries.specs.Entries.{Entry}
use Rattle.folder_log.specs.inner.Scanners.{scan_of}
use Rattle.folder_log.proofs.FileScans.{shorter, same_rest, one_more, refuses, at_end, refused_by, taken_by}
use Rattle.folder_log.proofs.log_opening.scan_file.Goals as goal

pub returns-then-not-scan_entry-clause-refused : goal.returns-then-not-scan_entry-clause-refused
returns-then-not-scan_entry-clause-refused c =
    let e : Entry = record { number = c.in-Some.number; content = c.in-Some.content.now } in
    sym c.loop-number.invariant.leads
    ∙ refuses c.args.mark.now c.loop-number.rest.now c.in-Some.after.now e c.in-Some.ensures.exact (scan_of c.loop-number.scanner)
    (refused_by c.scan_entry.result (scan_of c.scan_entry.new.self) _ c.scan_entry.ensures.scans c.if-not-scan_entry.true)

pub loop-number-smaller : goal.loop-number-smaller
loop-number-smaller c =
    shorter c.args.mark.now c.loop-number.rest.now c.in-Some.after.now (record { number = c.in-Some.number; content = c.in-Some.content.now }) c.in-Some.ensures.exact

pub loop-number-preserved : goal.loop-number-preserved
loop-number-preserved c =
    let e : Entry = record { number = c.in-Some.number; content = c.in-Some.content.now } in
    record {
      leads =
          one_more c.args.mark.now c.loop-number.rest.now c.in-Some.after.now e c.in-Some.ensures.exact (scan_of c.loop-number.scanner) (scan_of c.scan_entry.new.self)
          (taken_by c.scan_entry.result (scan_of c.scan_entry.new.self) _ c.scan_entry.ensures.scans c.if-not-scan_entry.false) ∙ c.loop-number.invariant.leads;
      rest = same_rest c.args.mark.now c.loop-number.rest.now c.in-Some.after.now e c.in-Some.ensures.exact ∙ c.loop-number.invariant.rest;
      agrees = c.scan_entry.ensures.agrees;
    }

pub returns-clause-scanned : goal.returns-clause-scanned
returns-clause-scanned c = sym c.loop-number.invariant.leads ∙ (at_end c.args.mark.now c.loop-number.rest.now (scan_of c.loop-number.scanner) c.in_default.ensures.exact).0

pub returns-clause-rest : goal.returns-clause-rest
returns-clause-rest c = sym (at_end c.args.mark.now c.loop-number.rest.now (scan_of c.loop-number.scanner) c.in_default.ensures.exact).1 ∙ c.loop-number.invariant.rest
