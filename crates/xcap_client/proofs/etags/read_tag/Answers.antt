use Rattle.std.proofs.Common.{sym, ◌∙◌, subst}
use Rattle.xcap_client.specs.ResponseTags.{IsEntityTagOf}
use Rattle.xcap_client.proofs.QuoteLemmas.{one_value}
use Rattle.xcap_client.proofs.etags.read_tag.Goals as goal

pub returns-in_default-opaque_tag : goal.returns-in_default-opaque_tag
returns-in_default-opaque_tag c = record {
  tag_or_none = λ tag gives. c.in_default-opaque_tag.ensures.opaque_or_none gives.opaque (subst (λ v. IsEntityTagOf v gives.opaque) (one_value _ _ (sym gives.once ∙ c.in-Once.ensures.finds_values)) gives.quoted);
}
