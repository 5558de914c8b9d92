-- The error that the body of a response names, by how the body was parsed.
use Rattle.std.proofs.Common.{◌≡◌, ℕ, List, [], Option, None, Result, Ok, Err, IfOk, refl, subst}
use Rattle.xml_names.specs.declared.limits.TheConstants.{MAX_LEVELS}
use Rattle.xml_names.specs.ReadErrors.{ResultSatisfies}
use Rattle.xml_tree.specs.Tree.{Tree}
use Rattle.xml_names.specs.declared.read_error.ReadError.{ReadError}
use Rattle.xml_names.specs.declared.read_error.ReadError.TheVariants.{Fault}
use Rattle.tree_text.specs.Faults.{IsTextResult}
use Rattle.tree_text.specs.declared.fault.TextFault.{TextFault}
use Rattle.xcap_client.specs.ErrorDocuments.{NamesError, error_name_of}

-- it is parsed as a tree
pub named : {E : Type 0} (body : List ℕ) (root : Tree) (result : Result (Option (List ℕ)) E) → IsTextResult MAX_LEVELS [] body (Ok root) → IfOk result (λ name. name ≡ error_name_of (Ok root)) → IfOk result (NamesError body)
named body root (Ok name) read told = record { document = Ok root; read = read; told = told }
named body root (Err error) read none = tt

-- it is no document
pub unnamed : (body : List ℕ) (error : ReadError TextFault) (fault : TextFault) → error ≡ Fault fault → ResultSatisfies {A = Tree} (IsTextResult MAX_LEVELS [] body) (Err error) → NamesError body None
unnamed body error fault is read = record {
  document = Err fault;
  read = subst (λ (e : ReadError TextFault). ResultSatisfies {A = Tree} (IsTextResult MAX_LEVELS [] body) (Err e)) is read;
  told = refl;
}
