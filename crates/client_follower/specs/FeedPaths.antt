-- The address of a feed: of all changes of a document since one of its versions, as one patch (RFC
-- 5875, section 4.3). The addresses of feeds are the project's own.
use Rattle.std.specs.Prelude.{ℕ, List, ◌++◌, codes}
use Rattle.doc_names.specs.declared.doc_id.DocId.{DocId}
use Rattle.doc_names.specs.PercentEscapes.{escape_part}
use Rattle.doc_names.specs.DocIds.{id_text}

abbrev pub feed_path : List ℕ → DocId → List ℕ
feed_path tag doc = codes "~feed/aggregate/" ++ (escape_part tag ++ (codes "/" ++ id_text doc))
