-- What a writer of an image knows of its plan.
use Rattle.std.specs.Prelude.{ℕ, List, Option}
use Rattle.pe_reader.specs.declared.head.Head.{Head}
use Rattle.pe_reader.specs.declared.section.Section.{Section}
use Rattle.pe_builder.specs.declared.plan.ImageLayout.{ImageLayout}
use Rattle.pe_builder.specs.declared.plan.SbatPlace.{SbatPlace}

-- how many bytes its stub has
abbrev pub planned_stub_length : ImageLayout → ℕ
planned_stub_length plan = plan.stub_length

-- the stub's head
abbrev pub planned_before : ImageLayout → Head
planned_before plan = plan.before

-- the image's head
abbrev pub planned_after : ImageLayout → Head
planned_after plan = plan.after

-- the new sections
abbrev pub planned_sections : ImageLayout → List Section
planned_sections plan = plan.sections.items

-- where the stub's `.sbat` stands, if it is replaced
abbrev pub planned_sbat : ImageLayout → Option SbatPlace
planned_sbat plan = plan.sbat
