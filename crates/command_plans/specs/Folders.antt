-- The two folders of boot entries in an EFI system partition, by a word (UAPI Boot Loader Specification).
use Rattle.std.specs.Prelude.{ℕ, List, Result, Ok}
use Rattle.boot_base.specs.Layout.{entries_below, images_below}
use Rattle.boot_base.specs.declared.refusal.Refusal.{Refusal}
use Rattle.boot_entries.specs.declared.folders.Folders.{Folders}
use Rattle.command_plans.specs.WordErrors.{◌>>=◌, path_in, path_under}

-- the folders of an ESP by its word, or what the word is refused for
abbrev pub folders_of : List ℕ → Result Folders Refusal
folders_of word =
    path_in word >>= λ esp.
    path_under esp entries_below >>= λ entries.
    path_under esp images_below >>= λ images.
    Ok (record { entries = entries; images = images })
