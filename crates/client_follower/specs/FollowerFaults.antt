-- The follower's fault for each fault of a call below. The project's own.
use Rattle.xml_names.specs.declared.read_error.ReadError.{ReadError}
use Rattle.xml_names.specs.declared.read_error.ReadError.TheVariants as errors
use Rattle.tree_text.specs.declared.fault.TextFault.{TextFault}
use Rattle.patch_apply.specs.declared.fault.NoticeFault.{NoticeFault}
use Rattle.patch_apply.specs.declared.fault.ApplyFault.{ApplyFault}
use Rattle.xcap_client.specs.declared.client_fault.ClientFault.{ClientFault}
use Rattle.xcap_client.specs.declared.client_fault.ClientFault.TheVariants as clients
use Rattle.client_follower.specs.declared.follower_fault.FollowerFault.{FollowerFault}
use Rattle.client_follower.specs.declared.follower_fault.FollowerFault.TheVariants as faults

abbrev pub fault_of_client : ClientFault → FollowerFault
fault_of_client clients.NoMemory = faults.NoMemory
fault_of_client fault = faults.Client fault

abbrev pub fault_of_text : ReadError TextFault → FollowerFault
fault_of_text (errors.Fault fault) = faults.BadText fault
fault_of_text errors.NoMemory = faults.NoMemory

abbrev pub of_notice : ReadError NoticeFault → FollowerFault
of_notice (errors.Fault fault) = faults.BadNotice fault
of_notice errors.NoMemory = faults.NoMemory

abbrev pub fault_of_apply : ReadError ApplyFault → FollowerFault
fault_of_apply (errors.Fault fault) = faults.Apply fault
fault_of_apply errors.NoMemory = faults.NoMemory
