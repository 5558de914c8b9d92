use Rattle.std.proofs.Common.{rules, inl, refl, sym, ◌∙◌, arith}
use Rattle.edit_journal.specs.StreamJournals.{stream_journal_state}
use Rattle.edit_journal.specs.LoggedRequests.{AcceptsRequest}
use Rattle.xcap_machine.specs.Machine.{ValidStep}
use Rattle.xcap_app.proofs.KeepEndings.{fits_whole, holds_whole, kept_done, kept_failed, kept_port_failed}
use Rattle.xcap_app.proofs.keep.serve_logged.Goals as goal

pub serve_port_logged-served-requires-clause-fits : goal.serve_port_logged-served-requires-clause-fits
serve_port_logged-served-requires-clause-fits g c =
    let j = c.args.journal.now in
    fits_whole c.args.log.now (stream_journal_state (g.O.Line.state j.output.now) j.output.ghost_name j.len j.faults) c.requires.not_torn c.requires.fits

pub serve_port_logged-served-requires-clause-room_left : goal.serve_port_logged-served-requires-clause-room_left
serve_port_logged-served-requires-clause-room_left g c = omega (arith, c.requires.length_bounded, c.ranges.count.fits)

pub returns-in-Err-clause-keeps_on : goal.returns-in-Err-clause-keeps_on
returns-in-Err-clause-keeps_on g c = λ read kept stands redone recorded held.
    inl (c.in-Err.ensures.listens_or_fails, held, refl)

pub returns-then-has_failed-clause-keeps_on : goal.returns-then-has_failed-clause-keeps_on
returns-then-has_failed-clause-keeps_on g c = λ read kept stands redone recorded held.
    let p = g.P.Line.state in
    let s = c.args.server.now in
    let holds = holds_whole (AcceptsRequest (ValidStep s.root) read.state) c.args.log.now read.requests _ c.requires.not_torn c.requires.fits recorded held in
    kept_failed g.W.Watchers.keeps c.args.address.now c.args.count c.serve_port_logged-served.result read s c.serve_port_logged-served.new.server _ c.serve_port_logged-served.new.log _ _
    (record { port = p c.args.port.now; watchers = c.args.watchers.now }) (record { port = p c.serve_port_logged-served.new.port; watchers = c.serve_port_logged-served.new.watchers }) (p c.listen.new.self)
    c.requires.no_fault c.serve_port_logged-served.ensures.still_fits redone c.in_default.ensures.listens_or_fails (c.serve_port_logged-served.ensures.machine_session read.state read.requests kept stands holds)
    (sym c.has_failed.ensures.exact ∙ c.if-has_failed.true)

pub returns-in-PortFailed-clause-keeps_on : goal.returns-in-PortFailed-clause-keeps_on
returns-in-PortFailed-clause-keeps_on g c = λ read kept stands redone recorded held.
    let p = g.P.Line.state in
    let s = c.args.server.now in
    let holds = holds_whole (AcceptsRequest (ValidStep s.root) read.state) c.args.log.now read.requests _ c.requires.not_torn c.requires.fits recorded held in
    kept_port_failed g.W.Watchers.keeps c.args.address.now c.args.count c.serve_port_logged-served.result read s c.serve_port_logged-served.new.server _ c.serve_port_logged-served.new.log _ _
    (record { port = p c.args.port.now; watchers = c.args.watchers.now }) (record { port = p c.serve_port_logged-served.new.port; watchers = c.serve_port_logged-served.new.watchers }) (p c.listen.new.self)
    c.requires.no_fault c.serve_port_logged-served.ensures.still_fits redone c.in_default.ensures.listens_or_fails (c.serve_port_logged-served.ensures.machine_session read.state read.requests kept stands holds)
    (sym c.has_failed.ensures.exact ∙ c.if-has_failed.false) c.in-PortFailed.is

pub returns-in-Count-clause-keeps_on : goal.returns-in-Count-clause-keeps_on
returns-in-Count-clause-keeps_on g c = λ read kept stands redone recorded held.
    let p = g.P.Line.state in
    let s = c.args.server.now in
    let holds = holds_whole (AcceptsRequest (ValidStep s.root) read.state) c.args.log.now read.requests _ c.requires.not_torn c.requires.fits recorded held in
    kept_done g.W.Watchers.keeps c.args.address.now c.args.count c.serve_port_logged-served.result read s c.serve_port_logged-served.new.server _ c.serve_port_logged-served.new.log _ _
    (record { port = p c.args.port.now; watchers = c.args.watchers.now }) (record { port = p c.serve_port_logged-served.new.port; watchers = c.serve_port_logged-served.new.watchers }) (p c.listen.new.self)
    c.requires.no_fault c.serve_port_logged-served.ensures.still_fits redone c.in_default.ensures.listens_or_fails (c.serve_port_logged-served.ensures.machine_session read.state read.requests kept stands holds)
    (sym c.has_failed.ensures.exact ∙ c.if-has_failed.false) (search rules)
