-- Plain characters before the end of their run are appended to content as they are.
use Rattle.std.proofs.Common.{◌≡◌, ℕ, true, List, [], Result, Ok, refl, ap, ◌∙◌}
use Rattle.xml_grammar.specs.TextReading.{Stop, ◌>>=◌}
use Rattle.xml_tree.specs.Tree.{Content, Tree}
use Rattle.xml_tree.proofs.Places.{with_text-nil}
use Rattle.xml_tokens.specs.declared.fault_kind.FaultKind.{FaultKind}
use Rattle.tree_text.specs.readers.ContentReaders.{tree_with_chars, read_chars_onto}
use Rattle.xml_tokens.specs.readers.Tokens.{read_chars}
use Rattle.xml_tokens.specs.readers.CharacterRuns.{ends_run}
use Rattle.xml_tokens.proofs.PlainFronts.{plain_chars}

-- characters that are read are appended to content
pub chars_onto : (tree : Tree) (text cs rest : List ℕ) → read_chars text ≡ Ok (cs, rest) → read_chars_onto tree text ≡ Ok (tree_with_chars tree cs, rest)
chars_onto tree text cs rest h = ap (λ (r : Result (List ℕ × List ℕ) (Stop FaultKind)). r >>= λ x. let z : Tree × List ℕ = (tree_with_chars tree x.0, x.1) in Ok z) h

pub nothing_onto : (tree : Tree) (text : List ℕ) → ends_run 60 text ≡ true → read_chars_onto tree text ≡ Ok (tree, text)
nothing_onto tree text e =
    chars_onto tree text [] text (plain_chars text [] text refl refl e)
    ∙ ap (λ (k : Content). let z : Tree × List ℕ = (record tree { content = k }, text) in Ok z) (with_text-nil tree.content)
