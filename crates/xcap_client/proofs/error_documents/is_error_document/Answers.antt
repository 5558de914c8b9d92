use Rattle.std.proofs.Common.{◌≡◌, bytes_eq, codes, List, ℕ, Bool, true, ◌&&◌, Option, Some, sym, ap, ◌∙◌}
use Rattle.std.specs.Str.{chars}
use Rattle.xml_names.specs.ExpandedNames.{same_uri}
use Rattle.xml_names.specs.declared.names.Name.{Name}
use Rattle.xcap_client.specs.ErrorDocuments.{error_uri}
use Rattle.xcap_client.proofs.Words.{xcap_error}
use Rattle.xcap_client.proofs.error_documents.is_error_document.Goals as goal

pub returns-then-is_error_uri : goal.returns-then-is_error_uri
returns-then-is_error_uri c = record {
  exact =
      let local : List ℕ = c.args.root.now.name.local in
      let named : c.is.result ≡ bytes_eq local (codes "xcap-error") = c.is.ensures.exact ∙ ap (λ (n : Name). bytes_eq n.local (chars (codes "xcap-error"))) c.name.ensures.exact ∙ ap (bytes_eq local) xcap_error in
      let same : true ≡ bytes_eq (chars c.in-Some.uri.now) error_uri = sym c.if-is_error_uri.true ∙ c.is_error_uri.ensures.exact in
      named
      ∙ ap (λ (b : Bool). b && bytes_eq local (codes "xcap-error")) same
      ∙ ap (λ (uri : Option (List ℕ)). same_uri uri (Some error_uri) && bytes_eq local (codes "xcap-error")) c.in-Some.ensures.exact;
}
