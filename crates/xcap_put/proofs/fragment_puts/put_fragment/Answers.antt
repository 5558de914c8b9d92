use Rattle.std.proofs.Common.{◌≡◌, true, sym, ap, ◌∙◌}
use Rattle.reply_bodies.specs.Nodes.{node_media_type}
use Rattle.reply_text.specs.declared.media_types.MediaType.{MediaType}
use Rattle.request_checks.specs.MediaTypes.{has_media_type}
use Rattle.xcap_put.proofs.BodyPlans.{of_type}
use Rattle.xcap_put.proofs.fragment_puts.put_fragment.Goals as goal

pub returns : goal.returns
returns c =
    let fields = c.args.request.now.fields in
    let is : has_media_type (node_media_type c.args.selector.now.end) fields ≡ true = ap (λ (m : MediaType). has_media_type m fields) (sym c.node_media_type.ensures.exact) ∙ sym c.has_media_type.ensures.exact ∙ c.if-not-has_media_type.false in
    record { plans_put = of_type c.args.usage c.args.selector.now c.args.tree.now c.args.request.now c.args.spot.now c.put_node_body.result is c.put_node_body.ensures.plans_put }
