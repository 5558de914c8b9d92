-- The characters of a root's authority and path are visible ones.
use Rattle.std.proofs.Common.{◌≡◌, ℕ, Bool, true, List, [], ◌∷◌, refl, ap, ◌∙◌, arith}
use Rattle.std.proofs.lemmas.Bool.{and_parts, and_from}
use Rattle.std.proofs.lemmas.Bool.Decides.{nat_tests}
use Rattle.std.specs.List.{list_all}
use Rattle.xcap_uri.specs.Roots.{slash, is_authority_char, is_segment_char, is_one_or_more, path_of_segments, IsRoot}
use Rattle.xcap_client.proofs.Visible.{is_visible, each_true, visible-append}

authority_char : (c : ℕ) → is_authority_char c ≡ true → is_visible c ≡ true
authority_char c h = grind (arith, nat_tests)

segment_char : (c : ℕ) → is_segment_char c ≡ true → is_visible c ≡ true
segment_char c h = grind (arith, nat_tests)

some_visible : (p : ℕ → Bool) → ((c : ℕ) → p c ≡ true → is_visible c ≡ true) → (text : List ℕ) → is_one_or_more p text ≡ true → list_all is_visible text ≡ true
some_visible p seen [] is = refl
some_visible p seen (c ∷ cs) is =
    let both = and_parts (p c) (list_all p cs) is in
    and_from _ _ (seen c both.0) (each_true p is_visible seen cs both.1)

path_visible : (segments : List (List ℕ)) → list_all (is_one_or_more is_segment_char) segments ≡ true → list_all is_visible (path_of_segments segments) ≡ true
path_visible [] are = refl
path_visible (segment ∷ segments) are =
    let both = and_parts (is_one_or_more is_segment_char segment) (list_all (is_one_or_more is_segment_char) segments) are in
    visible-append (slash ∷ segment) (path_of_segments segments) (some_visible is_segment_char segment_char segment both.0) (path_visible segments both.1)

pub root_path_visible : (root authority path : List ℕ) → IsRoot root authority path → list_all is_visible path ≡ true
root_path_visible root authority path is = ap (list_all is_visible) is.path_is ∙ path_visible is.segments is.segments_are

pub root_authority_visible : (root authority path : List ℕ) → IsRoot root authority path → list_all is_visible authority ≡ true
root_authority_visible root authority path is = some_visible is_authority_char authority_char authority is.authority_is
