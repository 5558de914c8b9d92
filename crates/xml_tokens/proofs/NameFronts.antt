-- End tags as printed, and what ends a name.
use Rattle.std.proofs.Common.{ℕ, ◌+◌, List, ◌∷◌, ◌++◌, refl, ◌≡◌, true, false, arith}
use Rattle.xml_names.specs.Characters.{is_space, is_name_char}
use Rattle.xml_names.specs.declared.names.Name.{Name}
use Rattle.xml_tokens.specs.readers.Literals.{end_tag_start, greater}
use Rattle.xml_tokens.specs.Values.{qname_text}
use Rattle.xml_tokens.specs.readers.Tokens.{read_end_tag}
use Rattle.xml_tokens.proofs.ReadFronts.{Reads, reads_behind, reads_word, reads_none}
use Rattle.std.specs.Prelude.{◌==◌}
use Rattle.std.proofs.lemmas.Bool.Decides.{nat_tests}

pub end_read : (n : Name) (rest : List ℕ) → Reads (read_end_tag n) (60 ∷ 47 ∷ (qname_text n ++ 62 ∷ rest)) tt rest
end_read n rest = reads_behind (reads_word end_tag_start (qname_text n ++ 62 ∷ rest)) (reads_behind (reads_word (qname_text n) (62 ∷ rest)) (reads_behind (reads_none is_space (62 ∷ rest) refl) (reads_word greater rest)))

-- # Disjoint classes

abbrev pub NoName : ℕ → Type 0
NoName c = is_name_char c ≡ false

pub space_no_name : (c : ℕ) → is_space c ≡ true → NoName c
space_no_name c h = grind (arith, nat_tests)
