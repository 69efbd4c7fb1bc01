-- Replies that can be told apart from what is printed.
use Rattle.std.specs.Prelude.{List}
use Rattle.boot_machine.specs.Disk.{Files}
use Rattle.boot_run.specs.Step.{NoneEmpty}
use Rattle.boot_run.specs.declared.line.Line.{Line}

-- no line's reply is empty, whatever boot sees as it begins
abbrev pub ReplyLaw : Type 0
ReplyLaw = (view : Files) (lines : List Line) → NoneEmpty view lines
