-- Lines that were appended one after the other.
use Rattle.std.proofs.Common.{◌≡◌, ℕ, ◌+◌, List, [], ◌++◌, codes, length, ap, ◌∙◌}
use Rattle.std.specs.Prelude.{sum_by}
use Rattle.std.proofs.lemmas.List.{append_assoc}
use Rattle.usage_docs.specs.Services.{document_len}
use Rattle.store_core.specs.Contents.{StoreContents}
use Rattle.store_core.specs.declared.limits.Limits.{Limits}
use Rattle.host_status.specs.StatusTexts.{content_lines, number_line}

pub two_added : (before one two a b : List ℕ) → one ≡ before ++ a → two ≡ one ++ b → two ≡ before ++ (a ++ b)
two_added before one two a b first second = second ∙ ap (λ (text : List ℕ). text ++ b) first ∙ append_assoc before a b

pub three_added : (before one two three a b c : List ℕ) → one ≡ before ++ a → two ≡ one ++ b → three ≡ two ++ c → three ≡ before ++ (a ++ b ++ c)
three_added before one two three a b c first second third = two_added before two three (a ++ b) c (two_added before one two a b first second) third

pub four_added : (before one two three four a b c d : List ℕ) → one ≡ before ++ a → two ≡ one ++ b → three ≡ two ++ c → four ≡ three ++ d → four ≡ before ++ (a ++ b ++ c ++ d)
four_added before one two three four a b c d first second third fourth = two_added before three four (a ++ b ++ c) d (three_added before one two three a b c first second third) fourth

pub added_first : (before one lines : List ℕ) → before ≡ [] → one ≡ before ++ lines → one ≡ lines
added_first before one lines none is = is ∙ ap (λ (text : List ℕ). text ++ lines) none

pub content_is : (c : StoreContents) (count total next : ℕ) → count ≡ length c.documents → total ≡ sum_by (λ h. document_len h.tree) c.documents → next ≡ c.next
    → number_line (codes "documents") count ++ number_line (codes "bytes") total ++ number_line (codes "next") next ≡ content_lines c
unfolding content_lines
content_is c count total next counts sums is =
    ap (λ (n : ℕ). number_line (codes "documents") n ++ number_line (codes "bytes") total ++ number_line (codes "next") next) counts
    ∙ ap (λ (n : ℕ). number_line (codes "documents") (length c.documents) ++ number_line (codes "bytes") n ++ number_line (codes "next") next) sums
    ∙ ap (λ (n : ℕ). number_line (codes "documents") (length c.documents) ++ number_line (codes "bytes") (sum_by (λ h. document_len h.tree) c.documents) ++ number_line (codes "next") n) is

-- lines of limits that were read
pub limits_are : (lines : Limits → List ℕ) (before one : List ℕ) (read limits : Limits) → read ≡ limits → one ≡ before ++ lines read → one ≡ before ++ lines limits
limits_are lines before one read limits same is = is ∙ ap (λ (l : Limits). before ++ lines l) same
