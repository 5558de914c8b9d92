-- A change record as the code stores it, with its weight.
use Rattle.std.specs.Prelude.{◌≡◌, min}
use Rattle.xml_names.specs.Limits.{u64_max}
use Rattle.edit_ops.specs.Notes.{Note}
use Rattle.edit_ops.specs.DiffOperations.{weight}
use Rattle.edit_ops.specs.declared.edit_note.KeptNote.{KeptNote}

abbrev pub note_in : KeptNote → Note
note_in n =
    record {
      previous = n.previous;
      next = n.next;
      bindings = n.bindings;
      change = n.change;
      fresh = n.fresh;
    }

-- its `weight` field is the weight of the record, capped at the greatest number
abbrev pub IsWeighed : KeptNote → Type 0
IsWeighed n = n.weight ≡ min (weight (note_in n)) u64_max
