use Rattle.std.proofs.Common.{◌≡◌, take, string_bytes, flat_map}
use Rattle.boot_base.specs.Names.{shown_byte}
use Rattle.boot_base.proofs.name.shown_name.Given as goal

abbrev pub invariant-loop-byte : goal.invariant-loop-byte
invariant-loop-byte l = string_bytes l.text ≡ flat_map shown_byte (take l.byte-index l.name)
