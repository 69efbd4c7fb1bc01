-- Where loader.conf and the entries that it chooses among stand in an EFI system partition, and what is read of them.
use Rattle.std.specs.Prelude.{ℕ, List, [], codes, length, nat_lt, Option, Some, None, Result, Ok, Err, if◌then◌else◌}
use Rattle.std.specs.FinMap.{get}
use Rattle.boot_base.specs.Limits.{text_limit}
use Rattle.boot_base.specs.Paths.{Path}
use Rattle.boot_base.specs.declared.refusal.Refusal.{Refusal}
use Rattle.boot_base.specs.declared.refusal.Refusal.TheVariants as refusals
use Rattle.boot_machine.specs.Disk.{Files}
use Rattle.command_plans.specs.WordErrors.{◌>>=◌, path_in, path_under, printed_path}
use Rattle.command_plans.specs.Folders.{folders_of}
use Rattle.loader_commands.specs.declared.places.LoaderPaths.{LoaderPaths}

-- where loader.conf stands below an ESP
abbrev pub conf_below : List ℕ
conf_below = codes "loader/loader.conf"

-- the path of the loader.conf of an ESP by its word
abbrev pub conf_path : List ℕ → Result Path Refusal
conf_path word = path_in word >>= λ esp. path_under esp conf_below

-- the folders of entries and the loader.conf of an ESP by its word
abbrev pub loader_paths : List ℕ → Result LoaderPaths Refusal
loader_paths word =
    folders_of word >>= λ folders. conf_path word >>= λ conf. Ok (record { folders = folders; conf = conf })

-- bytes of a loader.conf at a path, unless they are too many
abbrev pub within_limit : Path → List ℕ → Result (List ℕ) Refusal
within_limit path bytes =
    if nat_lt text_limit (length bytes) then Err (refusals.TooLarge (printed_path path) (length bytes)) else Ok bytes

-- a file that isn't there counts as empty
abbrev pub conf_or_empty : Path → Option (List ℕ) → Result (List ℕ) Refusal
conf_or_empty path None = Ok []
conf_or_empty path (Some bytes) = within_limit path bytes

-- the bytes of the loader.conf at a path, or that they are too many
abbrev pub conf_bytes : Files → Path → Result (List ℕ) Refusal
conf_bytes view path = conf_or_empty path (get view path)
