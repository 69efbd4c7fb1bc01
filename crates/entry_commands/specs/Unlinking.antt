-- `bootctl unlink`: an entry's own file goes.
use Rattle.std.specs.Prelude.{ℕ, Bool, ◌&&◌, ◌||◌, List, codes, nat_eq, Result, Err, if◌then◌else◌}
use Rattle.std.specs.List.{ends_with}
use Rattle.boot_base.specs.Layout.{entries_below, images_below}
use Rattle.boot_base.specs.Paths.{Path, is_file_name, under}
use Rattle.boot_base.specs.declared.refusal.Refusal.{Refusal}
use Rattle.boot_base.specs.declared.refusal.Refusal.TheVariants as refusals
use Rattle.command_plans.specs.WordErrors.{◌>>=◌, path_in, path_under}

-- an entry of type 1 (UAPI Boot Loader Specification)
abbrev pub is_type1_name : List ℕ → Bool
is_type1_name name = ends_with nat_eq name (codes ".conf")

-- a name of a boot entry's file: it ends in `.conf` or `.efi`
abbrev pub is_entry_name : List ℕ → Bool
is_entry_name name = is_file_name name && (is_type1_name name || ends_with nat_eq name (codes ".efi"))

-- the folder of an entry of that name, below an ESP
abbrev pub entry_folder : List ℕ → List ℕ
entry_folder name = if is_type1_name name then entries_below else images_below

-- where an entry of that name stands below an ESP
abbrev pub entry_below : List ℕ → List ℕ
entry_below name = under (entry_folder name) name

-- the path of the entry of that name in an ESP, or the refusal of a name that no entry has
abbrev pub entry_under : Path → List ℕ → Result Path Refusal
entry_under esp name = if is_entry_name name then path_under esp (entry_below name) else Err (refusals.BadName name)

-- the path of the entry of that name, or what the words are refused for
abbrev pub entry_path : List ℕ → List ℕ → Result Path Refusal
entry_path name word = path_in word >>= λ esp. entry_under esp name
