use Rattle.std.proofs.Common.{◌≡◌, take, Ok}
use Rattle.tool_words.specs.declared.command.Given.TheVariants.{File}
use Rattle.image_build.specs.Building.{source_of}
use Rattle.command_plans.specs.Prelude.{each}
use Rattle.image_build.proofs.build_words.file_sources.Given as goal

abbrev pub invariant-loop-word : goal.invariant-loop-word
invariant-loop-word l = each (λ word. source_of (File word)) (take l.word-index l.words) ≡ Ok l.sources.items
