-- What an image lacks, as it is printed.
use Rattle.std.specs.Prelude.{ℕ, List, codes}
use Rattle.boot_entries.specs.declared.fault.Missing.{Missing}
use Rattle.boot_entries.specs.declared.fault.Missing.TheVariants.{Linux, Osrel, Title}

-- the name of what an image lacks, as the refusal prints it
abbrev pub missing_text : Missing → List ℕ
missing_text Linux = codes ".linux"
missing_text Osrel = codes ".osrel"
missing_text Title = codes "title"
