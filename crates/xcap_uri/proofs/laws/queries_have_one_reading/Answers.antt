use Rattle.xcap_uri.proofs.QueryAnswers.{query_is_read, one_query}
use Rattle.xcap_uri.proofs.laws.queries_have_one_reading.Goals as goal

pub returns : goal.returns
returns c = record {
  read_iff = query_is_read;
  at_most_one = one_query;
}
