use Rattle.xcap_app.proofs.sample_requests.put_entry.Goals as goal

pub returns : goal.returns
returns c = record {
  ok =
      rw (c.as_str-3.ensures.value, c.in_ok-path.ensures.ok, c.as_str.ensures.value, c.as_str-4.ensures.value, c.in_ok-body.ensures.ok, c.as_str-2.ensures.value, c.in_ok-uri.ensures.ok)
      at c.put_request.ensures.ok;
}
