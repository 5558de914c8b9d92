-- How a command ends by its connection.
use Rattle.http_wire.specs.declared.close_reason.CloseReason.{CloseReason}
use Rattle.http_wire.specs.declared.close_reason.CloseReason.TheVariants.{Closed, ReadFailed}
use Rattle.http_wire.specs.declared.close_reason.CloseReason.TheVariants.{WriteFailed}
use Rattle.xcap_app.specs.declared.exit.Exit.{Exit}
use Rattle.xcap_app.specs.declared.exit.Exit.TheVariants.{Done, InputFailed, OutputFailed}

-- how the command ends when its connection ends so
abbrev pub exit_of_connection : CloseReason → Exit
exit_of_connection Closed = Done
exit_of_connection ReadFailed = InputFailed
exit_of_connection WriteFailed = OutputFailed
