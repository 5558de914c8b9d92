-- What the entries of a file are read as.
use Rattle.std.proofs.Common.{◌≡◌, ℕ, ◌+◌, ◌-◌, ◌^◌, ◌<◌, List, [], ◌∷◌, ◌++◌, map, Bool, true, false, cond, Option, None, Some, refl, sym, ap, subst, ◌∙◌, append_assoc, arith, eq-eqb}
use Rattle.std.specs.Prelude.{◌&&◌, ◌==◌, nat_lt}
use Rattle.std.specs.List.{AllByRecursion}
use Rattle.std.proofs.lemmas.Bool.{and_from, lt-ltb}
use Rattle.std.proofs.lemmas.List.{append-nil, map-append}
use Rattle.log_entries.specs.Entries.{Entry}
use Rattle.change_log.specs.LogContents.{Contents, no_contents, snapshot_of, next_number, with_change}
use Rattle.change_log.specs.LogItems.{Item, part, first, change, Scan, no_scan, scan_item, scan_items, is_next_change, contents_if_ended, contents_of}
use Rattle.folder_log.specs.inner.DraftSteps.{snapshot_end_entry}
use Rattle.folder_log.specs.FileFormat.{part_entry, change_entry, item_of, contents_of_entries}

abbrev then_item : Item → Option Scan → Option Scan
then_item i o = elim o [ None ↦ None | Some s ↦ scan_item s i ]

abbrev then_items : List Item → Option Scan → Option Scan
then_items items o = elim o [ None ↦ None | Some s ↦ scan_items s items ]

no_items : (o : Option Scan) → then_items [] o ≡ o
no_items None = refl
no_items (Some s) = refl

by_first : (items : List Item) (i : Item) → ((s : Scan) → scan_items s (items ++ i ∷ []) ≡ then_item i (scan_items s items)) → (o : Option Scan)
    → then_items (items ++ i ∷ []) o ≡ then_item i (then_items items o)
by_first items i rest None = refl
by_first items i rest (Some s) = rest s

-- the items, and one more
scan_push : (items : List Item) (i : Item) (s : Scan) → scan_items s (items ++ i ∷ []) ≡ then_item i (scan_items s items)
scan_push [] i s = no_items (scan_item s i)
scan_push (x ∷ items) i s = by_first items i (scan_push items i) (scan_item s x)

abbrev at_end : Option Scan → Option Contents
at_end o = elim o [ None ↦ None | Some s ↦ contents_if_ended s ]

if_true : (b : Bool) (k c : Contents) → cond b (Some k) None ≡ Some c → (b ≡ true) × (k ≡ c)
if_true true k c e = (refl, cc)
if_true false k c e = absurd cc

of_scan : (s : Scan) (c : Contents) → contents_if_ended s ≡ Some c → s ≡ record { contents = c; is_ended = true }
of_scan s c e = let parts = if_true s.is_ended s.contents c e in
    ap (λ (b : Bool). record { contents = s.contents; is_ended = b }) parts.0 ∙ ap (λ (k : Contents). record { contents = k; is_ended = true }) parts.1

pub ended : (o : Option Scan) (c : Contents) → at_end o ≡ Some c → o ≡ Some (record { contents = c; is_ended = true })
ended None c e = absurd cc
ended (Some s) c e = ap (λ (t : Scan). Some t) (of_scan s c e)

next_is : (c : Contents) (bytes : List ℕ) → next_number c < 2 ^ 64 - 1
    → scan_item (record { contents = c; is_ended = true }) (change (next_number c) bytes) ≡ Some (record { contents = with_change bytes c; is_ended = true })
next_is c bytes left =
    let is : is_next_change (record { contents = c; is_ended = true }) (next_number c) ≡ true =
    and_from (next_number c == next_number c) (nat_lt (next_number c) (2 ^ 64 - 1)) (eq-eqb (next_number c) (next_number c) refl) (lt-ltb (next_number c) (2 ^ 64 - 1) left) in
    ap (λ (b : Bool). cond b (Some (record { contents = with_change bytes c; is_ended = true })) None) is

items_push : (items : List Item) (c : Contents) (bytes : List ℕ) → contents_of items ≡ Some c → next_number c < 2 ^ 64 - 1
    → contents_of (items ++ change (next_number c) bytes ∷ []) ≡ Some (with_change bytes c)
items_push items c bytes leads left =
    ap at_end (scan_push items (change (next_number c) bytes) no_scan ∙ ap (then_item (change (next_number c) bytes)) (ended (scan_items no_scan items) c leads) ∙ next_is c bytes left)

-- one change more
pub contents_push : (es : List Entry) (c : Contents) (bytes : List ℕ) → contents_of_entries es ≡ Some c → next_number c < 2 ^ 64 - 1
    → contents_of_entries (es ++ change_entry (next_number c) bytes ∷ []) ≡ Some (with_change bytes c)
contents_push es c bytes leads left =
    ap contents_of (map-append item_of es (change_entry (next_number c) bytes ∷ [])) ∙ items_push (map item_of es) c bytes leads left

parts_scan : (parts : List (List ℕ)) (c : Contents)
    → scan_items (record { contents = c; is_ended = false }) (map item_of (map part_entry parts)) ≡ Some (record { contents = record c { parts = c.parts ++ parts }; is_ended = false })
parts_scan [] c = ap (λ (l : List (List ℕ)). Some (record { contents = record c { parts = l }; is_ended = false })) (sym (append-nil c.parts))
parts_scan (bytes ∷ parts) c =
    parts_scan parts (record c { parts = c.parts ++ bytes ∷ [] })
    ∙ ap (λ (l : List (List ℕ)). Some (record { contents = record c { parts = l }; is_ended = false })) (append_assoc c.parts (bytes ∷ []) parts)

-- a snapshot
pub contents_snapshot : (parts : List (List ℕ)) (number : ℕ) → contents_of_entries (map part_entry parts ++ snapshot_end_entry number ∷ []) ≡ Some (snapshot_of parts number)
contents_snapshot parts number =
    ap contents_of (map-append item_of (map part_entry parts) (snapshot_end_entry number ∷ []))
    ∙ ap at_end (scan_push (map item_of (map part_entry parts)) (first number) no_scan ∙ ap (then_item (first number)) (parts_scan parts no_contents))
