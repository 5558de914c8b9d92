-- Places of unbound prefixes in steps and then in an end, and the errors for them.
use Rattle.std.proofs.Common.{◌≡◌, ℕ, ◌+◌, List, [], ◌∷◌, Option, Some, None, refl, sym, ap, ◌∙◌, arith, add-zero}
use Rattle.xml_names.specs.declared.names.Decl.{Decl}
use Rattle.node_select.specs.declared.name_resolution.Unresolved.{Unresolved}
use Rattle.node_select.specs.declared.name_resolution.Unresolved.TheVariants.{Prefix, Memory}
use Rattle.node_select.specs.readers.NameResolution.{IsUnresolvedAt}
use Rattle.node_select.specs.readers.RawSelectors.{RawStep, steps_size, first_some, unbound_in_step, unbound_in_steps, no_unbound_end}

first_some-assoc : (a b c : Option ℕ) → first_some a (first_some b c) ≡ first_some (first_some a b) c
first_some-assoc None b c = refl
first_some-assoc (Some n) b c = refl

-- the end begins after the steps
pub steps_then_end : (bindings : List Decl) (n : ℕ) (steps : List RawStep) (end : ℕ → Option ℕ) → unbound_in_steps bindings n steps end ≡ first_some (unbound_in_steps bindings n steps no_unbound_end) (end (n + steps_size steps))
steps_then_end bindings n [] end = ap end (sym (add-zero n))
steps_then_end bindings n (s ∷ steps) end =
    let at : n + s.size + 1 + steps_size steps ≡ n + steps_size (s ∷ steps) = omega arith in
    ap (first_some (unbound_in_step bindings n s)) (steps_then_end bindings (n + s.size + 1) steps end ∙ ap (λ k. first_some (unbound_in_steps bindings (n + s.size + 1) steps no_unbound_end) (end k)) at)
    ∙ first_some-assoc (unbound_in_step bindings n s) (unbound_in_steps bindings (n + s.size + 1) steps no_unbound_end) (end (n + steps_size (s ∷ steps)))

-- an error of the steps is an error of the whole, and so is an error of the end where the steps
-- have none
pub steps_fail : (bindings : List Decl) (n : ℕ) (steps : List RawStep) (end : ℕ → Option ℕ) (why : Unresolved) → IsUnresolvedAt (unbound_in_steps bindings n steps no_unbound_end) why → IsUnresolvedAt (unbound_in_steps bindings n steps end) why
steps_fail bindings n steps end (Prefix k) h = steps_then_end bindings n steps end ∙ ap (λ o. first_some o (end (n + steps_size steps))) h
steps_fail bindings n steps end Memory h = tt

pub end_fails : (bindings : List Decl) (n at : ℕ) (steps : List RawStep) (end : ℕ → Option ℕ) (why : Unresolved) → unbound_in_steps bindings n steps no_unbound_end ≡ None → at ≡ n + steps_size steps → IsUnresolvedAt (end at) why → IsUnresolvedAt (unbound_in_steps bindings n steps end) why
end_fails bindings n at steps end (Prefix k) none same h = steps_then_end bindings n steps end ∙ ap (λ o. first_some o (end (n + steps_size steps))) none ∙ ap end (sym same) ∙ h
end_fails bindings n at steps end Memory none same h = tt
