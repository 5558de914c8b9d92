use Rattle.std.proofs.Common.{◌≡◌, ◌∙◌, ◌-◌, ◌≤◌, ◌∷◌, ℕ, List, [], length, sym, ap, subst}
use Rattle.log_entries.specs.Entries.{Entry}
use Rattle.folder_log.specs.FileFormat.{item_of}
use Rattle.folder_log.specs.LogOpenings.{remaining_items}
use Rattle.folder_log.specs.Restarts.{mark_of}
use Rattle.folder_log.proofs.Reading.{is_read, none_more, shorter, one_less}
use Rattle.folder_log.proofs.file_cursor.FileCursorLogCursor.read.Goals as goal

pub returns-in_default-clause-exact : goal.returns-in_default-clause-exact
returns-in_default-clause-exact c =
    let cursor = c.args.self.now in
    let mark_is : c.file_mark.result.now ≡ mark_of cursor.bytes.items = c.file_mark.ensures.exact ∙ ap mark_of c.deref.ensures.value in
    let none : remaining_items cursor.bytes.items cursor.at ≡ [] = none_more cursor.bytes.items c.file_mark.result.now c.rest.result.now cursor.at mark_is c.rest.ensures.exact c.in_default.ensures.exact in
    (none, none)

pub overflow_sub-self : goal.overflow_sub-self
overflow_sub-self c =
    let cursor = c.args.self.now in
    let e : Entry = record { number = c.in-Some.number; content = c.in-Some.content.now } in
    let mark_is : c.file_mark.result.now ≡ mark_of cursor.bytes.items = c.file_mark.ensures.exact ∙ ap mark_of c.deref.ensures.value in
    subst (λ (n : ℕ). length c.in-Some.rest.now ≤ n) (sym (c.len.ensures ∙ cursor.bytes.ok.0))
    (shorter cursor.bytes.items c.file_mark.result.now c.rest.result.now c.in-Some.rest.now cursor.at e mark_is c.rest.ensures.exact c.in-Some.ensures.exact cursor.within)

pub returns-clause-exact : goal.returns-clause-exact
returns-clause-exact c =
    let cursor = c.args.self.now in
    let e : Entry = record { number = c.in-Some.number; content = c.in-Some.content.now } in
    let mark_is : c.file_mark.result.now ≡ mark_of cursor.bytes.items = c.file_mark.ensures.exact ∙ ap mark_of c.deref.ensures.value in
    is_read c.in_ok-item.item c.read_entry.new.bytes.items (item_of e) _ _ c.in_ok-item.ensures.exact
    (one_less cursor.bytes.items c.file_mark.result.now c.rest.result.now c.in-Some.rest.now cursor.at e mark_is c.rest.ensures.exact c.in-Some.ensures.exact cursor.within
    ∙ ap (λ (n : ℕ). item_of e ∷ remaining_items cursor.bytes.items (n - length c.in-Some.rest.now)) (sym (c.len.ensures ∙ cursor.bytes.ok.0)))
