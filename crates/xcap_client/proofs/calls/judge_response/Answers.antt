use Rattle.std.proofs.Common.{List, ℕ, refl, sym, subst, ◌∙◌}
use Rattle.xcap_client.specs.ErrorDocuments.{NamesError}
use Rattle.xcap_client.specs.Calls.{refuses}
use Rattle.xcap_client.proofs.calls.judge_response.Goals as goal

pub returns : goal.returns
returns c = record {
  judged_by_status =
      let other = sym c.is_success.ensures.exact ∙ c.if-is_success.false in
      refuses c.in_ok-name.name other (subst (λ (body : List ℕ). NamesError body c.in_ok-name.name) c.as_slice.ensures.exact c.in_ok-name.ensures.names_error) refl;
}
