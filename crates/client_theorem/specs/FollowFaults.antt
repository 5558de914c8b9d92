-- The fault of following for each fault of its parts.
use Rattle.xml_names.specs.declared.read_error.ReadError.{ReadError}
use Rattle.xml_names.specs.declared.read_error.ReadError.TheVariants as errors
use Rattle.patch_apply.specs.declared.fault.ApplyFault.{ApplyFault}
use Rattle.patch_apply.specs.declared.fault.NoticeFault.{NoticeFault}
use Rattle.client_theorem.specs.declared.follow_fault.FollowFault.{FollowFault}
use Rattle.client_theorem.specs.declared.follow_fault.FollowFault.TheVariants as faults

abbrev pub notice_fault : ReadError NoticeFault → FollowFault
notice_fault (errors.Fault fault) = faults.Notice fault
notice_fault errors.NoMemory = faults.NoMemory

abbrev pub apply_fault : ReadError ApplyFault → FollowFault
apply_fault (errors.Fault fault) = faults.Apply fault
apply_fault errors.NoMemory = faults.NoMemory
