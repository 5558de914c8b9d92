-- The targets and the methods that write.
use Rattle.std.specs.Prelude.{true, None, Option, if◌then◌else◌}
use Rattle.doc_names.specs.Usages.{usage_of}
use Rattle.doc_names.specs.declared.usages.Usage.{Usage}
use Rattle.http_wire.specs.declared.request.Request.{Request}
use Rattle.request_checks.specs.Rights.{is_allowed}
use Rattle.request_checks.specs.declared.method.Method.{Method}
use Rattle.request_checks.specs.declared.method.Method.TheVariants.{Put, Delete}
use Rattle.xcap_machine.specs.StandardRequests.{auid_of, home_of}
use Rattle.xcap_uri.specs.declared.target.Target.{Target}
use Rattle.xcap_uri.specs.declared.target.Target.TheVariants as targets
use Rattle.xcap_server.specs.declared.targets.WritableTarget.{WritableTarget}
use Rattle.xcap_server.specs.declared.targets.WritableTarget.TheVariants.{Document, Node, Deep}

-- the target that is writable
abbrev pub target_of : WritableTarget → Target
target_of (Document id) = targets.Document id
target_of (Node id selector) = targets.Node id selector
target_of (Deep auid home) = targets.Deep auid home

-- PUT and DELETE
abbrev pub IsWriting : Method → Type 0
IsWriting Put = Unit {0}
IsWriting Delete = Unit {0}
IsWriting _ = ⊥

-- the usage of a target where the user may write, if documents of it are stored
abbrev pub usage_to_write : Target → Request → Option Usage
usage_to_write target request =
    if is_allowed true (auid_of target) (home_of target) request.fields
    then usage_of (auid_of target) else None
