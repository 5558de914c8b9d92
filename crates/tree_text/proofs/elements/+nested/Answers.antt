use Rattle.std.proofs.Common.{rules, ◌≡◌, ℕ, ◌+◌, List, [], ◌++◌, Ok, refl, sym, ap, ◌∙◌, arith, chars, length}
use denote.Text.{Utf8}
use denote.Shadow.{shadow}
use Rattle.std.proofs.lemmas.Str.{encodes-chars}
use Rattle.std.proofs.lemmas.Result.{err_from_is_err_and}
use Rattle.xml_tree.specs.Tree.{Tree, last, tree_of}
use Rattle.tree_text.specs.readers.Bindings.{lists}
use Rattle.tree_text.specs.readers.ContentReaders.{tree_with_pieces, tree_with_chars, tree_with_markup, read_markup_piece, read_tree_content}
use Rattle.tree_text.specs.Names.{attrs_of}
use Rattle.tree_text.specs.ContentPieces.{StartTag}
use Rattle.tree_text.specs.declared.raw_attribute.RawAttribute.{RawAttribute}
use Rattle.tree_text.specs.declared.start_tags.RawStartTag.{RawStartTag as CodeTag}
use Rattle.xml_tokens.specs.readers.Tokens.{read_chars}
use Rattle.tree_text.specs.readers.Texts.{markup_follows, read_tag, read_markup, read_element}
use Rattle.xml_tokens.specs.readers.TokenViews.{raw_name_view}
use Rattle.tree_text.specs.readers.Views.{tag_view}
use Rattle.tree_text.proofs.ChildLemmas.{there, is_bare, still_normal, in_place}
use Rattle.xml_tokens.proofs.Loops.{both_ok, first_stops, goes_on, ends, is_done, is_stopped, valued_ok, valued_fails}
use Rattle.tree_text.proofs.ElementLemmas.{begins, piece_more, judged_is, misjudged, element_ok, element_err, tag_err, untagged, child_ok, child_stops, level_ok, level_stops, onto_ok, onto_stops, still, back_again, closed}
use Rattle.tree_text.proofs.elements.+nested.Goals as goal
use Rattle.tree_text.proofs.elements.+nested.Goals.{content-else-loop-test, content-then-loop-test+then-not-markup_follows}

pub content-loop-init : goal.content-loop-init
content-loop-init t c =
    let start = c.in_ok-start.start.now in
    let text : shadow (Utf8 start) = search rules in
    record {
      utf8 = text;
      filled = begins (read_element c.args.levels (lists c.args.bindings.now) c.args.depth) c.args.element.now c.requires.1.1.1.1 (chars c.args.text.now) (chars start) c.push_run.new.element _ (omega (arith, ap length (encodes-chars start text))) c.in_ok-start.ensures.reads_onto;
      back = still c.args.bindings.now c.requires.1.1.0;
    }

pub content-returns-in_err-after-clause-reads_rule : goal.content-returns-in_err-after-clause-reads_rule
content-returns-in_err-after-clause-reads_rule t c =
    let p = err_from_is_err_and c.from_residual-in_err-after.result c.from_residual-in_err-after.ensures.1 in
    let inner = read_element c.args.levels (lists c.args.bindings.now) c.args.depth in
    let stop = c.in_err-after.field-0.0 in
    let stops = onto_stops c.args.levels c.args.depth c.loop.element (chars c.loop.rest.now) stop (lists c.loop.bindings) (lists c.args.bindings.now) c.loop.invariant.back.same c.in_err-after.ensures.reads_rule in
    rw (p.1, p.2) (ends markup_follows (read_markup_piece inner) tree_with_pieces stop c.loop.element _ c.loop.counter (chars c.loop.rest.now) (read_tree_content c.args.element.now inner (chars c.args.text.now)) c.loop-test.true (sym c.markup_follows.ensures.exact ∙ c.if-not-markup_follows.false)
    (first_stops (read_markup inner) (λ _. read_chars) (chars c.loop.rest.now) stop (valued_fails (tree_with_markup c.loop.element) (read_markup inner) (chars c.loop.rest.now) stop stops)) c.loop.invariant.filled)

pub content-loop-preserved : goal.content-loop-preserved
content-loop-preserved t c =
    let inner = read_element c.args.levels (lists c.args.bindings.now) c.args.depth in
    let after = (chars c.in_ok-after.after.now) in
    let left = (chars c.in_ok-rest.rest.now) in
    let added = c.push_markup.new.element in
    let more = c.push_run-in-loop.new.element in
    let so_far = c.loop.invariant in
    let one_read = onto_ok c.args.levels c.args.depth c.loop.element added (chars c.loop.rest.now) after (lists c.loop.bindings) (lists c.args.bindings.now) so_far.back.same c.in_ok-after.ensures.reads_rule in
    let one = valued_ok (tree_with_markup c.loop.element) (read_markup inner (chars c.loop.rest.now)) added after one_read in
    let run = valued_ok (tree_with_chars added) (read_chars after) more left c.in_ok-rest.ensures.reads_onto in
    record {
      utf8 = search rules;
      filled = goes_on markup_follows (read_markup_piece inner) tree_with_pieces c.loop.element more _ c.loop.counter (chars c.loop.rest.now) left (one.value, run.value) (read_tree_content c.args.element.now inner (chars c.args.text.now)) c.loop-test.true (sym c.markup_follows.ensures.exact ∙ c.if-not-markup_follows.false)
          (both_ok (read_markup inner) (λ _. read_chars) (chars c.loop.rest.now) after left one.value run.value one.read run.read)
          (λ xs. piece_more c.loop.element added one.value run.value xs one.made ∙ ap (λ (e : Tree). tree_with_pieces e xs) run.made) so_far.filled;
      back = back_again c.args.bindings.now c.loop.bindings c.push_markup.new.bindings so_far.back c.in_ok-after.ensures.bindings_restored;
    }

pub content-returns-clause-reads_rule : goal.content-returns-clause-reads_rule
content-returns-clause-reads_rule t c =
    let inner = read_element c.args.levels (lists c.args.bindings.now) c.args.depth in
    let total = read_tree_content c.args.element.now inner (chars c.args.text.now) in
    elim c.loop-test.branch [
      | content-else-loop-test w ↦ is_done markup_follows (read_markup_piece inner) tree_with_pieces c.loop.element _ c.loop.counter (chars c.loop.rest.now) total w.loop-test.false c.loop.invariant.filled
      | content-then-loop-test+then-not-markup_follows w ↦ is_stopped markup_follows (read_markup_piece inner) tree_with_pieces c.loop.element _ c.loop.counter (chars c.loop.rest.now) total (sym w.markup_follows.ensures.exact ∙ w.if-not-markup_follows.true) c.loop.invariant.filled
    ]

pub content-returns-clause-bindings_restored : goal.content-returns-clause-bindings_restored
content-returns-clause-bindings_restored t c = c.loop.invariant.back

-- the tag, as read
tagged : (text behind : List ℕ) (t : CodeTag) (all raw_attribute : List RawAttribute) → all ≡ raw_attribute → read_tag text ≡ Ok (tag_view text t raw_attribute, behind) → read_tag text ≡ Ok (tag_view text t all, behind)
tagged text behind t all raw_attribute same h = h ∙ ap (λ (z : List RawAttribute). let x : StartTag × List ℕ = (tag_view text t z, behind) in Ok x) (sym same)

pub fill_element-returns-in_err-check_tag_names-clause-reads_rule : goal.fill_element-returns-in_err-check_tag_names-clause-reads_rule
fill_element-returns-in_err-check_tag_names-clause-reads_rule t c =
    let p = err_from_is_err_and c.from_residual-in_err-check_tag_names.result c.from_residual-in_err-check_tag_names.ensures.1 in
    let stop = c.in_err-check_tag_names.field-0.0 in
    let scope = lists c.args.bindings.now in
    let all = c.as_slice-all.result.now in
    let behind = chars c.args.start_tag.now.after.now in
    rw (p.1, p.2) (tag_err (c.args.inner + 1) c.args.inner c.args.depth scope (chars c.args.text.now) stop refl
    (misjudged scope (lists c.enter.new.self) c.in_ok-decls.decls.items (chars c.args.text.now) behind (tag_view (chars c.args.text.now) c.args.start_tag.now all) (tagged (chars c.args.text.now) behind c.args.start_tag.now all c.args.raw_attribute.now.items c.as_slice-all.ensures.value c.requires.1.1.1.1.0)
    c.in_ok-decls.ensures.ok c.in_ok-enter.ensures.scope_grows stop c.in_err-check_tag_names.ensures.judged_names))

pub fill_element-returns-in_err-rest-clause-reads_rule : goal.fill_element-returns-in_err-rest-clause-reads_rule
fill_element-returns-in_err-rest-clause-reads_rule t c =
    let p = err_from_is_err_and c.from_residual-in_err-rest.result c.from_residual-in_err-rest.ensures.1 in
    let declared = c.in_ok-decls.ensures.ok in
    let scope = lists c.args.bindings.now in
    let here = lists c.enter.new.self in
    let decls = c.in_ok-decls.decls.items in
    let all = c.as_slice-all.result.now in
    let behind = chars c.args.start_tag.now.after.now in
    let start_tag = tag_view (chars c.args.text.now) c.args.start_tag.now all in
    let read = tagged (chars c.args.text.now) behind c.args.start_tag.now all c.args.raw_attribute.now.items c.as_slice-all.ensures.value c.requires.1.1.1.1.0 in
    rw (p.1, p.2) (element_err (c.args.inner + 1) c.args.inner c.args.depth scope here decls (chars c.args.text.now) behind start_tag refl
    (judged_is scope here decls (chars c.args.text.now) behind start_tag read declared c.in_ok-enter.ensures.scope_grows ∙ c.in_ok-check_tag_names.ensures.judged_names)
    declared c.in_ok-enter.ensures.scope_grows c.push_attrs.new.element c.in_err-rest.field-0.0 c.in_err-rest.ensures.reads_rule)

pub fill_element-returns : goal.fill_element-returns
fill_element-returns t c =
    let declared = c.in_ok-decls.ensures.ok in
    let scope = lists c.args.bindings.now in
    let here = lists c.enter.new.self in
    let decls = c.in_ok-decls.decls.items in
    let all = c.as_slice-all.result.now in
    let same = c.as_slice-all.ensures.value in
    let behind = chars c.args.start_tag.now.after.now in
    let start_tag = tag_view (chars c.args.text.now) c.args.start_tag.now all in
    let inside = c.in_ok-enter.ensures.scope_grows in
    let read = tagged (chars c.args.text.now) behind c.args.start_tag.now all c.args.raw_attribute.now.items same c.requires.1.1.1.1.0 in
    let out = closed c.args.bindings.now c.enter.new.self c.element_rest.new.bindings c.leave-decls.new.self decls c.leave-decls.result.items inside c.in_ok-rest.ensures.bindings_restored c.leave-decls.ensures.scope_shrinks c.leave-decls.ensures.lists_in_step in
    let dressed =
    c.in_ok-push_attrs.ensures.appended ∙ ap (λ (z : Tree). record z { attrs = z.attrs ++ attrs_of c.args.raw_attribute.now.items }) c.requires.1.1.1.1.1
    ∙ ap (λ (z : List RawAttribute). tree_of start_tag.name [] (attrs_of z) (last [])) (sym same) in
    record {
      reads_rule = rw c.in_ok-push_decls.ensures.adds_declarations (rw out.0 (element_ok (c.args.inner + 1) c.args.inner c.args.depth scope here decls (chars c.args.text.now) behind start_tag refl
          (judged_is scope here decls (chars c.args.text.now) behind start_tag read declared inside ∙ c.in_ok-check_tag_names.ensures.judged_names)
          declared inside c.push_attrs.new.element c.element_rest.new.element (chars c.in_ok-rest.rest.now) dressed c.in_ok-rest.ensures.reads_rule));
      bindings_restored = out.1;
    }

pub read_child_into-returns-in_err-start_tag-clause-reads_rule : goal.read_child_into-returns-in_err-start_tag-clause-reads_rule
read_child_into-returns-in_err-start_tag-clause-reads_rule t c =
    let p = err_from_is_err_and c.from_residual.result c.from_residual.ensures.1 in
    let stop = c.in_err-start_tag.field-0.0 in
    let scope = lists c.args.bindings.now in
    rw (p.1, p.2) (child_stops c.args.parent.now (read_element c.args.levels scope c.args.depth) (chars c.args.text.now) stop
    (untagged c.args.levels c.in-Some.inner c.args.depth scope (chars c.args.text.now) stop (omega (arith, c.in-Some.ensures)) c.in_err-start_tag.ensures.reads_rule))

pub read_child_into-returns-in_err-rest-clause-reads_rule : goal.read_child_into-returns-in_err-rest-clause-reads_rule
read_child_into-returns-in_err-rest-clause-reads_rule t c =
    let p = err_from_is_err_and c.from_residual-in_err-rest.result c.from_residual-in_err-rest.ensures.1 in
    let stop = c.in_err-rest.field-0.0 in
    let scope = lists c.args.bindings.now in
    rw (p.1, p.2) (child_stops c.args.parent.now (read_element c.args.levels scope c.args.depth) (chars c.args.text.now) stop
    (level_stops c.args.levels c.in-Some.inner c.args.depth scope (chars c.args.text.now) stop (omega (arith, c.in-Some.ensures)) c.in_err-rest.ensures.reads_rule))

pub read_child_into-last_elem-child-requires : goal.read_child_into-last_elem-child-requires
read_child_into-last_elem-child-requires t c =
    there c.take_nodes-nodes.result.items c.push_empty_element.new.nodes.items (tree_of (raw_name_view c.in_ok-start_tag.start_tag.written) [] [] (last [])) c.in_ok-push_empty_element.ensures.appends_bare

pub read_child_into-fill_element-requires : goal.read_child_into-fill_element-requires
read_child_into-fill_element-requires t c =
    let bare = is_bare c.take_nodes-nodes.result.items c.push_empty_element.new.nodes.items (tree_of (raw_name_view c.in_ok-start_tag.start_tag.written) [] [] (last [])) c.in_ok-push_empty_element.ensures.appends_bare c.last_elem-child.result.now c.last_elem-child.ensures.lends_element in
    search (rules, bare)

pub read_child_into-put_nodes-requires-clause-normal : goal.read_child_into-put_nodes-requires-clause-normal
read_child_into-put_nodes-requires-clause-normal t c =
    still_normal c.take_nodes-nodes.result.items c.push_empty_element.new.nodes.items (tree_of (raw_name_view c.in_ok-start_tag.start_tag.written) [] [] (last [])) c.in_ok-push_empty_element.ensures.appends_bare c.fill_element.new.element c.take_nodes-nodes.ensures.nodes_are_normal

pub read_child_into-returns : goal.read_child_into-returns
read_child_into-returns t c =
    let scope = lists c.args.bindings.now in
    let bare = tree_of (raw_name_view c.in_ok-start_tag.start_tag.written) [] [] (last []) in
    let taken = c.take_nodes-nodes.ensures in
    let made = in_place c.take_nodes-nodes.result.items c.push_empty_element.new.nodes.items bare c.in_ok-push_empty_element.ensures.appends_bare c.fill_element.new.element c.args.parent.now c.take_nodes-nodes.new.self c.put_nodes.new.self taken.nodes_content taken.leaves_none c.put_nodes.ensures.exact in
    record {
      reads_rule = rw made (child_ok c.args.parent.now (read_element c.args.levels scope c.args.depth) (chars c.args.text.now) (chars c.in_ok-rest.rest.now) c.fill_element.new.element
          (level_ok c.args.levels c.in-Some.inner c.args.depth scope (chars c.args.text.now) (chars c.in_ok-rest.rest.now) c.fill_element.new.element (omega (arith, c.in-Some.ensures)) c.in_ok-rest.ensures.reads_rule));
      bindings_restored = c.in_ok-rest.ensures.bindings_restored;
    }
