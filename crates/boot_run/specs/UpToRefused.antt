-- The lines of an expansion that a run does: it ends at the first one that is refused. A script goes on behind one.
use Rattle.std.specs.Prelude.{List, [], ◌∷◌, if◌then◌else◌}
use Rattle.boot_machine.specs.Disk.{Files}
use Rattle.command_plans.specs.Answers.{is_refusal}
use Rattle.boot_run.specs.Lines.{line_deed}
use Rattle.boot_run.specs.declared.line.Line.{Line}

-- the lines from a view on, up to the first one that is refused, with it
abbrev pub up_to_refused : Files → List Line → List Line
up_to_refused view [] = []
up_to_refused view (line ∷ lines) =
    line ∷ (if is_refusal (line_deed view line).outcome then [] else up_to_refused (line_deed view line).after lines)
