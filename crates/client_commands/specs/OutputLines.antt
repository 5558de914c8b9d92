-- What the commands of the client write about responses. The project's own.
use Rattle.std.specs.Prelude.{ℕ, List, [], ◌++◌, Option, None, Some, codes, decimal}
use Rattle.std.specs.Prelude.{encode_utf8_all}
use Rattle.xml_tree.specs.Print.{document_print}
use Rattle.patch_rules.specs.Replay.{ReplicaContents}

-- for a DELETE: the status
abbrev pub line_of_status : ℕ → List ℕ
line_of_status status = decimal status ++ codes "\n"

-- for a PUT: the status, and the etag in quotes where there is one
abbrev pub put_line : ℕ → Option (List ℕ) → List ℕ
put_line status None = line_of_status status
put_line status (Some tag) =
    decimal status ++ (codes " \"" ++ (encode_utf8_all tag ++ codes "\"\n"))

-- for a round: the replica's etag, or a dash
abbrev pub round_line : ReplicaContents → List ℕ
round_line None = codes "-\n"
round_line (Some held) = encode_utf8_all held.0 ++ codes "\n"

-- for a replica: the document as it is printed
abbrev pub replica_text : ReplicaContents → List ℕ
replica_text None = []
replica_text (Some held) = encode_utf8_all (document_print held.1)
