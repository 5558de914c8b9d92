-- The text about a server: a line for each number. The text is the project's own.
use Rattle.std.specs.Prelude.{ℕ, List, ◌++◌, Option, None, Some, codes, decimal, length, sum_by}
use Rattle.usage_docs.specs.Services.{document_len}
use Rattle.store_core.specs.Contents.{StoreContents}
use Rattle.store_core.specs.declared.limits.Limits.{Limits}
use Rattle.store_core.specs.declared.limits.TheConstants.{MAX_DOCUMENT_BYTES}
use Rattle.host_status.specs.declared.answer_counts.AnswerCounts.{AnswerCounts}

-- a name, and a number in decimal digits
unfoldable pub number_line : List ℕ → ℕ → List ℕ
number_line name number = name ++ codes " " ++ decimal number ++ codes "\n"

-- how many documents there are, how many bytes they have together, and the next number
unfoldable pub content_lines : StoreContents → List ℕ
content_lines c =
    number_line (codes "documents") (length c.documents)
    ++ number_line (codes "bytes") (sum_by (λ h. document_len h.tree) c.documents)
    ++ number_line (codes "next") c.next

-- a name, and a limit in decimal digits, or `none`
unfoldable pub limit_line : List ℕ → Option ℕ → List ℕ
limit_line name None = name ++ codes " none\n"
limit_line name (Some limit) = number_line name limit

-- how many documents there may be, how many bytes together, and how many each
unfoldable pub limit_lines : Limits → List ℕ
limit_lines limits =
    number_line (codes "documents-limit") limits.documents
    ++ number_line (codes "bytes-limit") limits.bytes
    ++ number_line (codes "document-bytes-limit") MAX_DOCUMENT_BYTES

-- how many documents one user may have, and how many bytes together
unfoldable pub home_limit_lines : Limits → List ℕ
home_limit_lines limits =
    limit_line (codes "home-documents-limit") limits.home_documents
    ++ limit_line (codes "home-bytes-limit") limits.home_bytes

-- how many requests were answered, by the class of the status (RFC 9110, section 15)
unfoldable pub answered_lines : AnswerCounts → List ℕ
answered_lines counts =
    number_line (codes "answered-2xx") counts.successes
    ++ number_line (codes "answered-3xx") counts.redirections
    ++ number_line (codes "answered-4xx") counts.client_errors
    ++ number_line (codes "answered-5xx") counts.server_errors

-- all lines
abbrev pub status_text : StoreContents → AnswerCounts → List ℕ
status_text c counts =
    content_lines c ++ limit_lines c.limits ++ home_limit_lines c.limits ++ answered_lines counts
