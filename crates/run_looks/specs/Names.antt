-- The names of a folder, as a set.
use Rattle.std.specs.Prelude.{not, List, map, String, string_bytes}
use Rattle.std.specs.Ordering.{nat_cmp}
use Rattle.std.specs.Cmp.Lexicographic.{slice_cmp}
use Rattle.std.specs.FinSet as set
use Rattle.boot_base.specs.Paths.{is_temp}

-- names as a set
abbrev pub NameSet : Type 0
NameSet = set.FinSet (slice_cmp nat_cmp)

-- the names of a list as a set
abbrev pub names_of_list : {Y : Type 0} → List (String Y) → NameSet
names_of_list names = set.from_list (map string_bytes names)

-- the names without those of temporary files
abbrev pub lasting : NameSet → NameSet
lasting names = set.retain names (λ name. not (is_temp name))
