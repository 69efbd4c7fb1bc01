use Rattle.tool_words.specs.declared.command.Given.TheVariants.{File}
use Rattle.command_plans.proofs.Each.{each_map}
use Rattle.image_build.specs.Building.{source_of}
use Rattle.image_build.proofs.build_words.offered_sources.Goals as goal

pub returns-in-Files : goal.returns-in-Files
returns-in-Files c = rw (c.in-Files.is, each_map source_of File c.in-Files.words.now) c.file_sources.ensures
