-- The sizes that the whole tool keeps to.
use Rattle.std.specs.Prelude.{ℕ}

-- the most bytes of a file that is read or written: 256 MiB
abbrev pub file_limit : ℕ
file_limit = 268435456

-- the most bytes of a text that is read or written, as an entry file, an os-release text or a loader.conf: 64 KiB
abbrev pub text_limit : ℕ
text_limit = 65536
