-- Diff documents of elements by the parts that they are given one after another.
use Rattle.std.proofs.Common.{◌≡◌, ℕ, Bool, List, [], ◌∷◌, ◌++◌, codes, refl, ap, ◌∙◌}
use Rattle.std.specs.Str.{chars}
use Rattle.xml_tree.specs.Tree.{Tree, last, tree_of}
use Rattle.xml_names.specs.declared.names.Attr.{Attr}
use Rattle.xml_names.specs.ExpandedNames.{name_from_parts as in_diff}
use Rattle.edit_ops.specs.DiffOperations.{plain_attr as plain}
use Rattle.patch_rules.specs.Notices.{candidate_prefix, diff}
use Rattle.patch_rules.specs.inner.AppendedElements.{with_elements}
use Rattle.element_watch.specs.ElementNotices.{existence_element, existence_elements, boolean_text}
use Rattle.element_watch.specs.declared.element_states.ElementState.{ElementState}
use Rattle.element_watch.specs.declared.element_states.ElementState.TheVariants.{Unchanged, Exists, Missing}
use Rattle.element_watch.proofs.ElementWords.{element, exists_word, separated}
use Rattle.patch_rules.proofs.Words.{letter, sel as sel_word}

abbrev gives : Attr → Tree → Tree
gives a t = record t { attrs = t.attrs ++ a ∷ [] }

pub told_is : (prefix sel word : List ℕ) (exists : Bool) (t a b : Tree) → t ≡ tree_of (in_diff prefix (chars (codes "element"))) [] [] (last []) → word ≡ boolean_text exists
    → a ≡ gives (plain (chars (codes "sel")) sel) t → b ≡ gives (plain (chars (codes "exists")) word) a → b ≡ existence_element prefix sel exists
told_is prefix sel word exists t a b made is_word first second =
    let x = plain (chars (codes "sel")) sel in let y = plain (chars (codes "exists")) word in
    second ∙ ap (gives y) (first ∙ ap (gives x) made)
    ∙ (λ i. tree_of (in_diff prefix (element i)) [] (plain (sel_word i) sel ∷ plain (exists_word i) (is_word i) ∷ []) (last []))

pub address_is : (id line longer whole raw written : List ℕ) → line ≡ id → longer ≡ line ++ chars (codes "/~~/") → written ≡ raw → whole ≡ longer ++ written → whole ≡ id ++ codes "/~~/" ++ raw
address_is id line longer whole raw written is_id between is_raw all =
    all ∙ ap (λ (l : List ℕ). l ++ written) (between ∙ (λ i. is_id i ++ separated i)) ∙ ap (λ (l : List ℕ). id ++ codes "/~~/" ++ l) is_raw

by_state : (state : ElementState) (prefix root sel : List ℕ) → with_elements (existence_elements prefix sel state) (diff prefix root []) ≡ diff prefix root (existence_elements prefix sel state)
by_state Unchanged prefix root sel = refl
by_state Exists prefix root sel = refl
by_state Missing prefix root sel = refl

pub notice_is : (state : ElementState) (prefix root line sel : List ℕ) (notice all : Tree) → prefix ≡ chars (codes "d") → line ≡ sel → notice ≡ diff prefix root [] → all ≡ with_elements (existence_elements prefix line state) notice
    → all ≡ diff (candidate_prefix 0) root (existence_elements (candidate_prefix 0) sel state)
notice_is state prefix root line sel notice all is_prefix is_sel is_notice put =
    let first : prefix ≡ candidate_prefix 0 = is_prefix ∙ letter in
    put ∙ ap (with_elements (existence_elements prefix line state)) is_notice
    ∙ (λ i. with_elements (existence_elements (first i) (is_sel i) state) (diff (first i) root [])) ∙ by_state state (candidate_prefix 0) root sel
