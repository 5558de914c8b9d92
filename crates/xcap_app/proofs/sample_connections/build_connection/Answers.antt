use Rattle.std.proofs.Common.{◌≡◌, ℕ, ◌+◌, ◌-◌, ◌<◌, List, ◌++◌, ap, ◌∙◌, arith}
use Rattle.xcap_app.specs.SampleRequests.{numbered_request, requests_from}
use Rattle.xcap_app.proofs.SampleSteps.{next_request}
use Rattle.xcap_app.proofs.sample_connections.build_connection.Goals as goal

pub requests-preserved : goal.requests-preserved
requests-preserved c =
    let more : c.requests.made < c.args.count = c.requests-test.true in
    let number : ℕ = c.args.first + c.requests.made in
    let text : c.as_bytes.result.now ≡ numbered_request number = c.as_bytes.ensures.value ∙ c.as_str.ensures.value ∙ c.in_ok-text.ensures.ok in
    let added : c.extend.new.self ≡ c.requests.bytes ++ numbered_request number = c.in_ok-extend.ensures.appended_or_unchanged ∙ ap (λ (l : List ℕ). c.requests.bytes ++ l) text in
    record {
      within = omega (arith, more);
      all =
          ap (λ (l : List ℕ). l ++ requests_from (c.args.first + (c.requests.made + 1)) (c.args.count - (c.requests.made + 1))) added
          ∙ next_request c.requests.bytes c.args.first c.requests.made c.args.count more
          ∙ c.requests.invariant.all;
    }
