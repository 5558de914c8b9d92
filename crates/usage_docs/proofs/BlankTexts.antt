-- The concatenation of two texts is allowed in an element exactly when both are.
use Rattle.std.proofs.Common.{◌≡◌, ◌↔◌, ℕ, Bool, true, false, List, [], ◌∷◌, ◌++◌, ◌&&◌, ◌||◌, IsTrue, refl, sym, ap, ◌∙◌}
use Rattle.std.specs.List.{list_all}
use Rattle.xml_names.specs.Characters.{is_space}
use Rattle.usage_docs.specs.declared.schema_table.ElementKind.{ElementKind}
use Rattle.usage_docs.specs.SchemaTable.{content_model_of}
use Rattle.usage_docs.specs.Validity.{is_text_model, is_text_allowed}

both : (p q : Bool) → IsTrue (p && q) → IsTrue p × IsTrue q
both true true h = (refl, refl)
both true false h = cc
both false q h = cc

joined : (p q : Bool) → IsTrue p → IsTrue q → IsTrue (p && q)
joined true true h k = refl
joined true false h k = cc
joined false q h k = cc

and_assoc : (a b c : Bool) → (a && (b && c)) ≡ ((a && b) && c)
and_assoc true b c = refl
and_assoc false b c = refl

all_append : (p : ℕ → Bool) (t u : List ℕ) → list_all p (t ++ u) ≡ (list_all p t && list_all p u)
all_append p [] u = refl
all_append p (c ∷ t) u = ap (λ b. p c && b) (all_append p t u) ∙ and_assoc (p c) (list_all p t) (list_all p u)

-- the concatenation of two texts passes exactly when both pass
passes_two : (b : Bool) (p q pq : Bool) → pq ≡ (p && q) → IsTrue (b || pq) ↔ (IsTrue (b || p) × IsTrue (b || q))
passes_two true p q pq e = (λ _. (refl, refl), λ _. refl)
passes_two false p q pq e = (λ h. both p q (sym e ∙ h), λ h. e ∙ joined p q h.0 h.1)

pub passes_append : (row : ElementKind) (t u : List ℕ) → IsTrue (is_text_allowed row (t ++ u)) ↔ (IsTrue (is_text_allowed row t) × IsTrue (is_text_allowed row u))
unfolding is_text_allowed
passes_append row t u = passes_two (is_text_model (content_model_of row)) (list_all is_space t) (list_all is_space u) (list_all is_space (t ++ u)) (all_append is_space t u)

or_true : (b : Bool) → IsTrue (b || true)
or_true true = refl
or_true false = refl

pub passes_none : (row : ElementKind) → IsTrue (is_text_allowed row [])
unfolding is_text_allowed
passes_none row = or_true (is_text_model (content_model_of row))
