use Rattle.xcap_server.proofs.ServerStates.{answered_addresses, answered_closes, answered_delete, answered_feed, answered_put, answered_second, answered_standard, answered_step}
use Rattle.xcap_server.proofs.server.answer.Goals as goal

pub returns-clause-standard_step : goal.returns-clause-standard_step
returns-clause-standard_step c = answered_standard c.server.inside.service c.args.server.now c.respond.new.self c.server.view_is c.args.request.now c.respond.result c.respond.ensures.machine_reply

pub returns-clause-machine_step : goal.returns-clause-machine_step
returns-clause-machine_step c = answered_step c.server.inside.service c.args.server.now c.respond.new.self c.server.view_is c.args.request.now c.respond.result c.respond.ensures.machine_reply

pub returns-clause-put_is_there : goal.returns-clause-put_is_there
returns-clause-put_is_there c = answered_put c.server.inside.service c.args.server.now c.respond.new.self c.server.view_is c.args.request.now c.respond.result c.respond.ensures.machine_reply

pub returns-clause-deleted_is_gone : goal.returns-clause-deleted_is_gone
returns-clause-deleted_is_gone c = answered_delete c.server.inside.service c.args.server.now c.respond.new.self c.server.view_is c.args.request.now c.respond.result c.respond.ensures.machine_reply

pub returns-clause-second_put_unchanged : goal.returns-clause-second_put_unchanged
returns-clause-second_put_unchanged c = answered_second c.server.inside.service c.args.server.now c.respond.new.self c.server.view_is c.args.request.now c.represents_valid_state.ensures.valid_state c.respond.result c.respond.ensures.machine_reply

pub returns-clause-key_addresses_stay : goal.returns-clause-key_addresses_stay
returns-clause-key_addresses_stay c = answered_addresses c.server.inside.service c.args.server.now c.respond.new.self c.server.view_is c.args.request.now c.represents_valid_state.ensures.valid_state c.respond.result c.respond.ensures.machine_reply

pub returns-clause-subscribers_hold_it : goal.returns-clause-subscribers_hold_it
returns-clause-subscribers_hold_it c = answered_feed c.server.inside.service c.args.server.now c.respond.new.self c.server.view_is c.args.request.now c.is_rooted.ensures.grammar_root c.respond.result c.respond.ensures.machine_reply

pub returns-clause-closes_as_asked : goal.returns-clause-closes_as_asked
returns-clause-closes_as_asked c = answered_closes c.server.inside.service c.args.server.now c.respond.new.self c.server.view_is c.args.request.now c.respond.result c.respond.ensures.machine_reply
