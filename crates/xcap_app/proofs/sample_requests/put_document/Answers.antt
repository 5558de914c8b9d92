use Rattle.xcap_app.specs.SampleRequests.{document_body}
use Rattle.xcap_app.proofs.sample_requests.put_document.Goals as goal

pub returns : goal.returns
unfolding document_body
returns c = record { ok = rw (c.as_str.ensures.value, c.in_ok-path.ensures.ok) at c.put_request.ensures.ok }
