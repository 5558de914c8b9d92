-- A list of requests leads the machine to one state.
use Rattle.std.proofs.Common.{◌≡◌, ℕ, List, [], ◌∷◌, ◌++◌, Some, refl, sym, subst, ◌∙◌}
use Rattle.http_wire.specs.declared.request.Request.{Request}
use Rattle.store_core.specs.State.{State}
use Rattle.xcap_machine.proofs.Steps.{one_step}
use Rattle.xcap_server.specs.ReplayedRequests.{AcceptsRequests}

-- the state is determined
pub one_way : (root : List ℕ) (requests : List Request) (m n n' : State) → AcceptsRequests root m requests n → AcceptsRequests root m requests n' → n ≡ n'
one_way root [] m n n' is is' = is ∙ sym is'
one_way root (request ∷ requests) m n n' (reply, mid, edit, step, more) (reply', mid', edit', step', more') =
    let same = (one_step root m request reply reply' mid mid' (Some edit) (Some edit') step.1 step'.1).1 in
    one_way root requests mid n n' more (subst (λ (s : State). AcceptsRequests root s requests n') (sym same) more')

-- through the state after the first of them
pub over : (root : List ℕ) (first left : List Request) (m n : State) → AcceptsRequests root m (first ++ left) n → (mid : State) × AcceptsRequests root m first mid × AcceptsRequests root mid left n
over root [] left m n way = (m, refl, way)
over root (request ∷ first) left m n (reply, mid, edit, step, more) =
    let behind = over root first left mid n more in
    (behind.0, (reply, mid, edit, step, behind.1), behind.2)
