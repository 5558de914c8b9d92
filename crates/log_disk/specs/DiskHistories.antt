-- What contracts see of a disk.
use Rattle.log_disk.specs.FolderStates.{History}
use Rattle.log_disk.specs.declared.disk.Disk.{Disk}

-- the history of its folder
abbrev pub disk_history : {C : Type 0} → Disk C → History
disk_history disk = disk.history.folder
