use Rattle.std.proofs.Common.{chars, ap, sym, ◌∙◌, option_map}
use Rattle.list_resolve.specs.inner.Views.{scoped_element_view}
use Rattle.list_resolve.proofs.OneList.{no_service, of_service}
use Rattle.list_resolve.proofs.flat_lists.flat_list.Goals as goal

pub returns-in-None : goal.returns-in-None
returns-in-None c = record {
  as_specified =
      no_service c.args.store.now.content c.args.root.now c.args.doc.now (chars c.args.service.now) (ap (option_map scoped_element_view) (sym c.in-None.is) ∙ c.stored_service.ensures.exact);
}

pub returns-in-Some : goal.returns-in-Some
returns-in-Some c = record {
  as_specified =
      of_service c.args.store.now.content c.args.root.now c.args.doc.now (chars c.args.service.now) (scoped_element_view c.in-Some.service) c.flat_list_of.result
      (ap (option_map scoped_element_view) (sym c.in-Some.is) ∙ c.stored_service.ensures.exact) c.flat_list_of.ensures.flat_answer;
}
