-- The printed id of a document with an empty name is its home's and a slash.
use Rattle.std.proofs.Common.{◌≡◌, ℕ, List, [], ◌∷◌, ◌++◌, codes, refl, sym, ap, ◌∙◌, append_assoc, append-nil}
use Rattle.doc_names.specs.DocIds.{id_text}
use Rattle.doc_names.specs.Usages.{auid_text}
use Rattle.doc_names.specs.declared.doc_id.Auid.{Auid}
use Rattle.doc_names.specs.declared.doc_id.Home.{Home}
use Rattle.doc_names.specs.declared.doc_id.Home.TheVariants.{Global, User}
use Rattle.doc_names.specs.PercentEscapes.{escape_part as part_text}
use Rattle.xcap_uri.specs.Ancestors.{home_uri}

-- the AUID and the home, without the slash after them
pub home_front : Auid → Home → List ℕ
home_front auid Global = auid_text auid ++ codes "/global"
home_front auid (User xui) = auid_text auid ++ (codes "/users/" ++ part_text xui)

pub unnamed_id : (auid : Auid) (home : Home) → id_text (record { auid = auid; home = home; name = [] }) ≡ home_front auid home ++ 47 ∷ []
unfolding home_front
unnamed_id auid Global = sym (append_assoc (auid_text auid) (codes "/global") (47 ∷ []))
unnamed_id auid (User xui) =
    let front = auid_text auid in let user = part_text xui in
    ap (λ (z : List ℕ). front ++ z) (append-nil (codes "/users/" ++ (user ++ codes "/")) ∙ sym (append_assoc (codes "/users/") user (codes "/")))
    ∙ sym (append_assoc front (codes "/users/" ++ user) (47 ∷ []))

pub uri_of_front : (root : List ℕ) (auid : Auid) (home : Home) → root ++ (codes "/" ++ home_front auid home) ≡ home_uri root auid home
unfolding home_front
uri_of_front root auid Global = refl
uri_of_front root auid (User xui) = refl
