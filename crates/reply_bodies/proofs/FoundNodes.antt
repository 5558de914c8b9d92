-- What has a text is what a selector finds.
use Rattle.std.proofs.Common.{◌≡◌, ℕ, Bool, true, false, cond, ◌||◌, List, [], ◌∷◌, Option, Some, None, IsSome, is_some, refl, sym, ap, ◌∙◌, option_map}
use Rattle.tree_print.specs.AttributeBodyPrints.{body_print}
use Rattle.std.specs.List.{find, list_any}
use Rattle.std.specs.Option.{option_and_then}
use Rattle.xml_tree.specs.Tree.{Tree, at}
use Rattle.xml_tree.specs.TreeScopes.{scope_at}
use Rattle.xml_names.specs.declared.names.Attr.{Attr}
use Rattle.xml_names.specs.declared.names.Decl.{Decl}
use Rattle.node_select.specs.Selection.{FindsNode, has_end, is_attr_named, selected_element_path}
use Rattle.node_select.specs.declared.selector.End.{End}
use Rattle.node_select.specs.declared.selector.End.TheVariants.{Element, Attribute, Namespaces}
use Rattle.node_select.specs.declared.selector.Selector.{Selector}
use Rattle.node_select.proofs.ReachLemmas.{path_is}
use Rattle.reply_bodies.specs.Nodes.{found_text, node_text, node_text_at}

-- something is found where an item passes
some_found : {A : Type 0} (f : A → Bool) (xs : List A) → is_some (find f xs) ≡ list_any f xs
some_found f [] = refl
some_found f (x ∷ xs) = by (f x) (some_found f xs)
  where
    by : (b : Bool) → is_some (find f xs) ≡ list_any f xs → is_some (cond b (Some x) (find f xs)) ≡ (b || list_any f xs)
    by true e = refl
    by false e = e

attribute_there : (o : Option Attr) → is_some (option_map (λ (attr : Attr). body_print attr.value) o) ≡ is_some o
attribute_there None = refl
attribute_there (Some attr) = refl

node_there : (end : End) (c : List (List Decl)) (e : Tree) → is_some (node_text end c e) ≡ has_end end c e
node_there Element c e = refl
node_there (Attribute uri local) c e = attribute_there (find (is_attr_named c uri local) e.attrs) ∙ some_found (is_attr_named c uri local) e.attrs
node_there Namespaces c e = refl

-- a chain that ends in a value begins with one
from_chain : {A B : Type 0} (o : Option A) (f : A → Option B) → IsSome (option_and_then f o) → (x : A) × (o ≡ Some x) × IsSome (f x)
from_chain None f h = absurd cc
from_chain (Some x) f h = (x, refl, h)

pub found_from_text : (root : Tree) (selector : Selector) → IsSome (found_text root selector) → FindsNode root selector
found_from_text root selector h =
    let place = from_chain (selected_element_path selector.steps root) (λ p. node_text_at selector.end p root) h in
    let there = from_chain (at place.0 root) (node_text selector.end (scope_at place.0 root)) place.2 in
    record {
      path = place.0;
      element = there.0;
      selects = (path_is selector.steps root place.0).0 place.1;
      there = there.1;
      has = sym (node_there selector.end (scope_at place.0 root) there.0) ∙ there.2;
    }

pub text_from_found : (root : Tree) (selector : Selector) → FindsNode root selector → IsSome (found_text root selector)
text_from_found root selector found =
    let c = scope_at found.path root in
    ap (λ (o : Option (List ℕ)). is_some (option_and_then (λ p. node_text_at selector.end p root) o)) ((path_is selector.steps root found.path).1 found.selects)
    ∙ ap (λ (o : Option Tree). is_some (option_and_then (node_text selector.end c) o)) found.there
    ∙ node_there selector.end c found.element ∙ found.has
