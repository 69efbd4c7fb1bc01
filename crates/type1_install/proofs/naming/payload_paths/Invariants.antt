use Rattle.std.proofs.Common.{◌≡◌, filter, map, take}
use Rattle.boot_base.specs.Paths.{under}
use Rattle.boot_texts.specs.EntryText.{is_payload_name}
use Rattle.type1_install.proofs.naming.payload_paths.Given as goal

abbrev pub invariant-loop-name : goal.invariant-loop-name
invariant-loop-name l = l.paths.items ≡ map (under l.folder) (filter is_payload_name (take l.name-index l.names))
