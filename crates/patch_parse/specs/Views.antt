-- What the types of the code mean in the terms of `patch_rules`.
use Rattle.patch_parse.specs.declared.operation_error.OperationError.{OperationError}
use Rattle.patch_parse.specs.declared.patch_actions.Position.{Position}
use Rattle.patch_parse.specs.declared.patch_actions.PatchAction.{PatchAction}
use Rattle.std.specs.Prelude.{◌≡◌, Result, Ok, Err}
use Rattle.patch_rules.specs.PatchOperations as words
use Rattle.patch_parse.specs.declared.operation_error.OperationError.TheVariants as wrongs
use Rattle.patch_parse.specs.declared.patch_actions.Position.TheVariants as positions
use Rattle.patch_parse.specs.declared.patch_actions.PatchAction.TheVariants as tasks

abbrev pub error_view : OperationError → words.OperationError
error_view wrongs.Directive = words.Directive
error_view wrongs.Prefix = words.Prefix
error_view wrongs.Unlocated = words.Unlocated
error_view wrongs.RootTouched = words.RootTouched
error_view wrongs.WrongNodes = words.WrongNodes
error_view wrongs.NoSpace = words.NoSpace

abbrev pub position_view : Position → words.Position
position_view positions.Append = words.Append
position_view positions.Prepend = words.Prepend
position_view positions.Before = words.Before
position_view positions.After = words.After

abbrev pub action_view : PatchAction → words.PatchAction
action_view (tasks.Put position) = words.Put (position_view position)
action_view (tasks.NewAttr name) = words.NewAttr name
action_view tasks.Replace = words.Replace
action_view (tasks.Remove before after) = words.Remove before after

-- for a part of an operation: the value, or the error
abbrev pub IsPartResult : {X : Type 0} → Result X words.OperationError → Result X OperationError
    → Type 0
IsPartResult stated (Ok x) = stated ≡ Ok x
IsPartResult stated (Err wrong) = stated ≡ Err (error_view wrong)
