use Rattle.std.proofs.Common.{◌≡◌, ℕ, ◌+◌, ◌-◌, ◌*◌, ◌/◌, ◌<◌, min, List, [], ◌∷◌, ◌++◌, refl, ap, ◌∙◌, arith}
use Rattle.xcap_app.specs.SampleRequests.{connection_bytes, connections_from, requests_from}
use Rattle.xcap_app.proofs.SampleSteps.{next_connection}
use Rattle.xcap_app.proofs.sample_connections.build_connections.Goals as goal

pub connections-preserved : goal.connections-preserved
connections-preserved c =
    let requests : ℕ = c.args.requests in
    let number : ℕ = c.connections.number in
    let count : ℕ = (requests + 999) / 1000 in
    let more : number < count = c.connections-test.true in
    let made : c.min.result ≡ min 1000 (requests - number * 1000) = c.min.ensures ∙ ap (λ (n : ℕ). min 1000 n) c.saturating_sub.ensures in
    let bytes : c.in_ok-build_connection.field-0 ≡ connection_bytes requests number = c.in_ok-build_connection.ensures.ok ∙ ap (λ (n : ℕ). requests_from (number * 1000) n) made in
    let added : c.push.new.self.items ≡ c.connections.all.items ++ connection_bytes requests number ∷ [] =
    c.in_ok-push.ensures.items ∙ ap (λ (b : List ℕ). c.connections.all.items ++ b ∷ []) bytes in
    record {
      counted = refl;
      within = omega (arith, more);
      all =
          ap (λ (l : List (List ℕ)). l ++ connections_from requests (number + 1) (count - (number + 1))) added
          ∙ next_connection c.connections.all.items requests number count more
          ∙ c.connections.invariant.all;
    }
