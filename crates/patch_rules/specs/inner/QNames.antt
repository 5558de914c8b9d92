-- A QName cut at its colon (58), one character after another.
use Rattle.std.specs.Prelude.{ℕ, ◌==◌, List, [], ◌∷◌, ◌++◌, Option, Some, None, if◌then◌else◌}
use Rattle.xml_names.specs.Characters.{is_name}
use Rattle.xml_names.specs.declared.names.Name.{Name}
use Rattle.patch_rules.specs.PatchOperations.{prefixed_name}

-- the rest of the name after these characters, none of which is a colon
abbrev pub cut_qname_from : List ℕ → List ℕ → Option Name
cut_qname_from seen [] = if is_name seen then Some (record { prefix = []; local = seen }) else None
cut_qname_from seen (c ∷ cs) =
    if c == 58 then prefixed_name seen cs else cut_qname_from (seen ++ c ∷ []) cs
