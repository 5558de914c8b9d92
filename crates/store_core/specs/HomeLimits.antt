-- The documents of one home, of all application usages, and a limit that may be absent. Only the
-- home of a user has limits of its own; a document that is global belongs to no user.
use Rattle.std.specs.Prelude.{ℕ, ◌≤◌, nat_lt, Bool, false, List, filter, Option, None, Some}
use Rattle.doc_names.specs.NameEquality.{same_home}
use Rattle.doc_names.specs.declared.doc_id.DocId.{DocId}
use Rattle.doc_names.specs.declared.doc_id.Home.{Home}

-- of these documents those of this home
abbrev pub documents_of_home : {D : Type 0} → (D → DocId) → List D → Home → List D
documents_of_home id_of ds home = filter (λ d. same_home home (id_of d).home) ds

-- the number is at most the limit, if there is one
abbrev pub IsWithin : Option ℕ → ℕ → Type 0
IsWithin None n = Unit {0}
IsWithin (Some most) n = n ≤ most

-- the number is greater than the limit
abbrev pub is_above : Option ℕ → ℕ → Bool
is_above None n = false
is_above (Some most) n = nat_lt most n
