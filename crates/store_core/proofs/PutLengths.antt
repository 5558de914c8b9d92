-- How long a printed document is, and which print a put element has.
use Rattle.std.proofs.Common.{◌≡◌, ℕ, ◌+◌, List, length, encode_utf8_all, Option, None, Some, refl, sym, ap, ◌∙◌}
use Rattle.xml_tree.specs.Tree.{Tree}
use Rattle.xml_names.specs.Markup.{byte_len}
use Rattle.xml_tree.specs.Print.{print, document_print, header}
use Rattle.xml_names.proofs.PrintLengths.{byte_len-append}
use Rattle.edit_ops.specs.PrintedLengths.{element_len}
use Rattle.edit_ops.specs.declared.change.Change.{Change}
use Rattle.edit_ops.specs.declared.change.Change.TheVariants.{CreateDocument, Insert, Replace, Remove, SetAttr, DropAttr, RemoveDocument}
use Rattle.edit_ops.specs.InsertedElements.{InsertsElement, inserted_element}
use Rattle.store_core.specs.inner.Prints.{IsInsertedPrint, IsPrintOf}

pub print_len : (t : Tree) (bytes : List ℕ) → bytes ≡ encode_utf8_all (document_print t) → length bytes ≡ 39 + byte_len (print t)
unfolding lib.Utf8.encode
print_len t bytes is = ap length is ∙ byte_len-append header (print t)

pub inserted_len : (change : Change) → InsertsElement change → element_len change ≡ byte_len (print (inserted_element change))
inserted_len (CreateDocument root) brings = refl
inserted_len (Insert parent gap element) brings = refl
inserted_len (Replace p element) brings = refl
inserted_len (Remove p) brings = absurd brings
inserted_len (SetAttr p name value) brings = absurd brings
inserted_len (DropAttr p name) brings = absurd brings
inserted_len RemoveDocument brings = absurd brings

pub brought_print : (change : Change) (t : Tree) (print : Option (List ℕ)) → t ≡ inserted_element change → IsInsertedPrint change print → IsPrintOf t print
brought_print change t None is printed = tt
brought_print change t (Some bytes) is printed = printed.1 ∙ ap (λ (x : Tree). encode_utf8_all (document_print x)) (sym is)

pub inserted_print : (change : Change) (t : Tree) (print : Option (List ℕ)) → InsertsElement change → t ≡ inserted_element change → IsPrintOf t print → IsInsertedPrint change print
inserted_print change t None brings is printed = tt
inserted_print change t (Some bytes) brings is printed = (brings, printed ∙ ap (λ (x : Tree). encode_utf8_all (document_print x)) is)
