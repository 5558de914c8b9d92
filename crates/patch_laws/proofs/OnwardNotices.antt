-- What a diff document leaves is proper and at most `MAX_LEVELS` levels deep, whoever wrote it.
use Rattle.std.proofs.Common.{◌≡◌, ℕ, suc, ◌+◌, Bool, true, false, cond, List, [], ◌∷◌, ◌++◌, filter, Option, Some, None, option_and_then, Result, Ok, Err, codes, refl, ap, ◌∙◌, subst}
use Rattle.std.specs.Str.{bytes_eq}
use Rattle.std.specs.Option.{option_map_or}
use Rattle.std.specs.List.{AllByRecursion, list_all}
use Rattle.xml_tree.specs.Proper.{IsProperTree}
use Rattle.xml_tree.specs.inner.Proper.{IsProperContent}
use Rattle.xml_tree.specs.Tree.{Content, last, more, comment_node, Tree, child_elements, child_elements_of}
use Rattle.xml_names.specs.declared.names.Decl.{Decl}
use Rattle.node_select.specs.declared.selector.PatchSelector.{PatchSelector}
use Rattle.patch_rules.specs.PatchOperations.{Location, PatchAction, OperationName, OperationError, Directive, Prefix, Unlocated, apply_action, require_some, is_type_prefix_bound, is_known_attribute, locate, plain_value, accepts_form, action_by_name, require, parse_operation_name, apply_operation}
use Rattle.patch_rules.specs.Selectors.{Reading}
use Rattle.patch_rules.specs.Replay.{ReplayAnswer, ReplayFault, WrongTag, WrongDocument, ReplicaContents, DocumentOutcome, Now, Missing, replay_answer, documents, replica_tag, are_all_mine, has_diff_name, is_in_diff_namespace, with_operation_number, operation_count, operations_of_document, is_body_unchanged, and_then_replay, continue_unless_missing, apply_operations, outcome_of_documents, outcome_by_previous_tag, change_outcome, renewed_contents, replay_outcome, outcome_of_document}
use Rattle.patch_laws.specs.Premises.{IsReplicaTree}
use Rattle.patch_laws.specs.ReplayLaws.{HasReplicaTree}
use Rattle.patch_laws.proofs.Onward.{done_sound, given_ok, task_named, tested_ok}

-- ---- one operation

module _ (sel : Option (List ℕ)) (known : Bool) (task : Option PatchAction) (read : List ℕ → Option Reading) (suit : PatchAction → Reading → Bool) (means : Reading → Option PatchSelector) (bnd : PatchAction → Bool)
    (loc : PatchSelector → Option Location) (fin : PatchAction → Location → Result Tree OperationError) (u : Tree) where
  abbrev from_selector : PatchAction → PatchSelector → Result Tree OperationError
  from_selector y s = require (bnd y) Prefix (require_some (loc s) Unlocated (fin y))

  abbrev from_form : PatchAction → Reading → Result Tree OperationError
  from_form y f = require (suit y f) Directive (require_some (means f) Prefix (from_selector y))

  abbrev from_task : List ℕ → PatchAction → Result Tree OperationError
  from_task x y = require_some (read x) Directive (from_form y)

  abbrev from_known : List ℕ → Result Tree OperationError
  from_known x = require_some task Directive (from_task x)

  chain : require_some sel Directive (λ x. require known Directive (from_known x)) ≡ Ok u → (y : PatchAction) × (location : Location) × (task ≡ Some y) × (bnd y ≡ true) × (fin y location ≡ Ok u)
  chain is =
      let a = given_ok sel Directive (λ x. require known Directive (from_known x)) u is in
      let b = tested_ok known Directive (from_known a.0) u a.2 in
      let c = given_ok task Directive (from_task a.0) u b.1 in
      let d = given_ok (read a.0) Directive (from_form c.0) u c.2 in
      let e = tested_ok (suit c.0 d.0) Directive (require_some (means d.0) Prefix (from_selector c.0)) u d.2 in
      let f = given_ok (means d.0) Prefix (from_selector c.0) u e.1 in
      let g = tested_ok (bnd c.0) Prefix (require_some (loc f.0) Unlocated (fin c.0)) u f.2 in
      let h = given_ok (loc f.0) Unlocated (fin c.0) u g.1 in
      (c.0, h.0, c.1, g.0, h.2)

word_there : (o : Option OperationName) (f : OperationName → Option PatchAction) (y : PatchAction) → option_and_then f o ≡ Some y → (w : OperationName) × (f w ≡ Some y)
word_there None f y h = cc
word_there (Some w) f y h = (w, h)

-- ---- what passes the steps, and the parts of a document

next_ok : {A B : Type 0} (r : Result A ReplayFault) (k : A → Result B ReplayFault) (u : B) → and_then_replay r k ≡ Ok u → (x : A) × (r ≡ Ok x) × (k x ≡ Ok u)
next_ok (Ok x) k u h = (x, refl, h)
next_ok (Err f) k u h = cc

numbered_ok : (n : ℕ) (r : Result Tree OperationError) (x : Tree) → with_operation_number n r ≡ Ok x → r ≡ Ok x
numbered_ok n (Ok y) x h = let same : y ≡ x = cc in ap (λ z. Ok z) same
numbered_ok n (Err w) x h = cc

pub kids_proper : (c : List (List Decl)) (k : Content) → IsProperContent c k → AllByRecursion (IsProperTree c) (child_elements k)
kids_proper c (last t) h = tt
kids_proper c (more t n ds ats k rest) h = ((h.1, h.2), kids_proper c rest h.3)
kids_proper c (comment_node t x rest) h = kids_proper c rest h.2

pub kept_proper : (c : List (List Decl)) (f : Tree → Bool) (es : List Tree) → AllByRecursion (IsProperTree c) es → AllByRecursion (IsProperTree c) (filter f es)
kept_proper c f [] h = tt
kept_proper c f (e ∷ es) h = by (f e) refl (kept_proper c f es h.1)
  where
    by : (b : Bool) → f e ≡ b → AllByRecursion (IsProperTree c) (filter f es) → AllByRecursion (IsProperTree c) (filter f (e ∷ es))
    by true is rest = rw is (h.0, rest)
    by false is rest = rw is rest

abbrev got : ReplicaContents → Result (ReplayAnswer × ReplicaContents) ReplayFault → ReplicaContents
got held (Ok x) = x.1
got held (Err f) = held

answered_sound : (ds : List Tree) (end : Option ReplicaContents) (held new : ReplicaContents) (answer : ReplayAnswer) → ◌≡◌ {A = Result (ReplayAnswer × ReplicaContents) ReplayFault} (Ok (replay_answer ds held end)) (Ok (answer, new)) → HasReplicaTree held
    → ((x : ReplicaContents) → end ≡ Some x → HasReplicaTree x) → HasReplicaTree new
answered_sound ds None held new answer e g f = subst HasReplicaTree (ap (got held) e) g
answered_sound [] (Some x) held new answer e g f = subst HasReplicaTree (ap (got held) e) (f x refl)
answered_sound (d ∷ ds) (Some x) held new answer e g f = subst HasReplicaTree (ap (got held) e) (f x refl)

-- ---- operations, documents and a whole diff document, whatever their selectors are taken to say

module _ (read : List ℕ → Option Reading) where
  pub applied_sound : (c : List (List Decl)) (o t u : Tree) → IsProperTree c o → IsProperTree [] t → apply_operation read c o t ≡ Ok u → IsReplicaTree u
  applied_sound c o t u h g is =
      let here = c ++ o.decls ∷ [] in
      let pos = plain_value (codes "pos") o.attrs in
      let type = plain_value (codes "type") o.attrs in
      let ws = plain_value (codes "ws") o.attrs in
      let r = chain (plain_value (codes "sel") o.attrs) (list_all is_known_attribute o.attrs) (option_and_then (λ w. action_by_name w pos type ws) (parse_operation_name o.name.local)) read (λ y f. accepts_form y f.ends) (λ f. f.means here)
      (is_type_prefix_bound here) (λ s. locate s t) (λ y location. apply_action here y location o.content t) u is in
      let w = word_there (parse_operation_name o.name.local) (λ x. action_by_name x pos type ws) r.0 r.2 in
      done_sound here r.0 r.1 o.content t u (λ n same. task_named w.0 pos type ws n (w.1 ∙ ap (λ x. Some x) same)) r.3 h.1 g r.4

  pub all_applied_sound : (n : ℕ) (c : List (List Decl)) (os : List Tree) (t u : Tree) → AllByRecursion (IsProperTree c) os → IsReplicaTree t → apply_operations read n c os t ≡ Ok u → IsReplicaTree u
  all_applied_sound n c [] t u h g is = let same : t ≡ u = cc in subst IsReplicaTree same g
  all_applied_sound n c (o ∷ os) t u h g is =
      let a = next_ok (with_operation_number n (apply_operation read c o t)) (apply_operations read (suc n) c os) u is in
      all_applied_sound (suc n) c os a.0 u h.1 (applied_sound c o t a.0 h.0 g.0 (numbered_ok n (apply_operation read c o t) a.0 a.1)) a.2

  changed_sound : (n : ℕ) (c : List (List Decl)) (os : List Tree) (tag : List ℕ) (held new : ReplicaContents) → AllByRecursion (IsProperTree c) os → HasReplicaTree held → change_outcome read n c os tag held ≡ Ok (Now new) → HasReplicaTree new
  changed_sound n c os tag None new h g is = absurd (cc)
  changed_sound n c [] tag (Some x) new h g is = absurd (cc)
  changed_sound n c (o ∷ os) tag (Some x) new h g is = by (is_body_unchanged c (o ∷ os)) is
    where
      by : (b : Bool) → cond b (Ok (Now (Some (tag, x.1)))) (and_then_replay (apply_operations read n c (o ∷ os) x.1) (λ t. Ok (Now (Some (tag, t))))) ≡ Ok (Now new) → HasReplicaTree new
      by true e = let same : Some (tag, x.1) ≡ new = cc in subst HasReplicaTree same g
      by false e =
          let a = next_ok (apply_operations read n c (o ∷ os) x.1) (λ t. Ok (Now (Some (tag, t)))) (Now new) e in
          let same : Some (tag, a.0) ≡ new = now_is (Some (tag, a.0)) new a.2 in
          subst HasReplicaTree same (all_applied_sound n c (o ∷ os) x.1 a.0 h g a.1)
        where
          now_is : (x y : ReplicaContents) → ◌≡◌ {A = Result DocumentOutcome ReplayFault} (Ok (Now x)) (Ok (Now y)) → x ≡ y
          now_is x y e = cc

  renewed_sound : (n : ℕ) (c : List (List Decl)) (os : List Tree) (tag : Option (List ℕ)) (held new : ReplicaContents) → AllByRecursion (IsProperTree c) os → HasReplicaTree held → renewed_contents read n c os tag held ≡ Ok (Now new) → HasReplicaTree new
  renewed_sound n c os None held new h g is = let same : None ≡ new = cc in subst HasReplicaTree same tt
  renewed_sound n c os (Some tag) held new h g is = changed_sound n c os tag held new h g is

  tags_sound : (n : ℕ) (c : List (List Decl)) (os : List Tree) (previous tag : Option (List ℕ)) (held new : ReplicaContents) → AllByRecursion (IsProperTree c) os → HasReplicaTree held → outcome_by_previous_tag read n c os previous tag held ≡ Ok (Now new) → HasReplicaTree new
  tags_sound n c os None tag held new h g is = absurd (cc)
  tags_sound n c os (Some previous) tag held new h g is = by (option_map_or (bytes_eq previous) (replica_tag held) false) is
    where
      by : (b : Bool) → cond b (renewed_contents read n c os tag held) (Err (WrongTag (replica_tag held) previous)) ≡ Ok (Now new) → HasReplicaTree new
      by true e = renewed_sound n c os tag held new h g e
      by false e = absurd (cc)

  taken_sound : (n : ℕ) (c : List (List Decl)) (d : Tree) (held new : ReplicaContents) → IsProperTree c d → HasReplicaTree held → outcome_of_document read n c d held ≡ Ok (Now new) → HasReplicaTree new
  taken_sound n c d held new h g is =
      let here = c ++ d.decls ∷ [] in
      tags_sound n here (operations_of_document c d) (plain_value (codes "previous-etag") d.attrs) (plain_value (codes "new-etag") d.attrs) held new
      (kept_proper here (is_in_diff_namespace here) (child_elements_of d) (kids_proper here d.content h.1)) g is

  all_taken_sound : (n : ℕ) (c : List (List Decl)) (ds : List Tree) (held new : ReplicaContents) → AllByRecursion (IsProperTree c) ds → HasReplicaTree held → outcome_of_documents read n c ds held ≡ Ok (Some new) → HasReplicaTree new
  all_taken_sound n c [] held new h g is = let same : held ≡ new = held_is held new is in subst HasReplicaTree same g
    where
      held_is : (x y : ReplicaContents) → ◌≡◌ {A = Result (Option ReplicaContents) ReplayFault} (Ok (Some x)) (Ok (Some y)) → x ≡ y
      held_is x y e = cc
  all_taken_sound n c (d ∷ ds) held new h g is =
      let m = n + operation_count c d in
      let a = next_ok (outcome_of_document read n c d held) (λ now. continue_unless_missing now (outcome_of_documents read m c ds)) (Some new) is in
      by a.0 a.1 a.2 (λ x s k. all_taken_sound m c ds x new h.1 s k)
    where
      by : (now : DocumentOutcome) → outcome_of_document read n c d held ≡ Ok now → continue_unless_missing now (outcome_of_documents read (n + operation_count c d) c ds) ≡ Ok (Some new)
          → ((x : ReplicaContents) → HasReplicaTree x → outcome_of_documents read (n + operation_count c d) c ds x ≡ Ok (Some new) → HasReplicaTree new) → HasReplicaTree new
      by Missing e k f = absurd (cc)
      by (Now x) e k f = f x (taken_sound n c d held x h.0 g e) k

  pub replayed_sound : (is_mine : List ℕ → Bool) (notice : Tree) (held new : ReplicaContents) (answer : ReplayAnswer) → IsProperTree [] notice → HasReplicaTree held → replay_outcome read is_mine notice held ≡ Ok (answer, new) → HasReplicaTree new
  replayed_sound is_mine notice held new answer h g is = by (are_all_mine is_mine (documents notice)) is
    where
      here : List (List Decl)
      here = notice.decls ∷ []

      docs : AllByRecursion (IsProperTree (notice.decls ∷ [])) (documents notice)
      docs = kept_proper (notice.decls ∷ []) (has_diff_name (notice.decls ∷ []) (codes "document")) (child_elements_of notice) (kids_proper (notice.decls ∷ []) notice.content h.1)

      by : (b : Bool) → cond b (and_then_replay (outcome_of_documents read 0 (notice.decls ∷ []) (documents notice) held) (λ end. Ok (replay_answer (documents notice) held end))) (Err WrongDocument) ≡ Ok (answer, new) → HasReplicaTree new
      by true e =
          let a = next_ok (outcome_of_documents read 0 (notice.decls ∷ []) (documents notice) held) (λ end. Ok (replay_answer (documents notice) held end)) (answer, new) e in
          answered_sound (documents notice) a.0 held new answer a.2 g (λ x same. all_taken_sound 0 (notice.decls ∷ []) (documents notice) held x docs g (a.1 ∙ ap (λ z. Ok z) same))
      by false e = absurd (cc)
