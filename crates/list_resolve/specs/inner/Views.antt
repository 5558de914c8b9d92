-- What the parts of the code mean in clauses.
use Rattle.list_resolve.specs.declared.resolution.ResolutionContext.{
  ResolutionContext as CodeGround,
}
use Rattle.list_resolve.specs.declared.resolution.ResolvedReference.{ResolvedReference as CodeLead}
use Rattle.list_resolve.specs.declared.scoped_element.ScopedElement.{ScopedElement as CodeSpot}
use Rattle.list_resolve.specs.ScopedElements.{ScopedElement}
use Rattle.list_resolve.specs.Resolution.{ResolutionContext, ResolvedReference}

abbrev pub scoped_element_view : CodeSpot → ScopedElement
scoped_element_view s = record { kind = s.kind; scope = s.scope; element = s.element.now }

abbrev pub resolved_view : CodeLead → ResolvedReference
resolved_view l = record { place = l.place; scoped_element = scoped_element_view l.scoped_element }

abbrev pub context_view : CodeGround → ResolutionContext
context_view g =
    record { documents = g.store.now.content.documents; root = g.root.now; home = g.home.now }
