-- The error of a check.
use Rattle.std.specs.Prelude.{◌≡◌}
use Rattle.std.specs.IoError.{error_kind}
use Rattle.std.specs.declared.io.Error.{Error}
use Rattle.std.specs.declared.io.ErrorKind.TheVariants.{OutOfMemory}
use Rattle.run_looks.specs.declared.disk.CheckFault.{CheckFault}
use Rattle.run_looks.specs.declared.disk.CheckFault.TheVariants.{Changed, Disk, Memory}

-- the error of a check that isn't Ok: the disk's own, unless there was no memory
abbrev pub IsCheckError : CheckFault Error → Error → Type 0
IsCheckError (Changed cause) error = error ≡ cause
IsCheckError (Disk cause) error = error ≡ cause
IsCheckError Memory error = error_kind error ≡ OutOfMemory
