-- Where boot files stand below an EFI system partition.
use Rattle.std.specs.Prelude.{ℕ, List, codes}

-- the folder of the entries of type 1 (UAPI Boot Loader Specification)
abbrev pub entries_below : List ℕ
entries_below = codes "loader/entries"

-- the folder of the entries of type 2, which are unified kernel images (UAPI Boot Loader Specification)
abbrev pub images_below : List ℕ
images_below = codes "EFI/Linux"

-- the folder of the payloads that this program puts there
abbrev pub payloads_below : List ℕ
payloads_below = codes "boot_tools"
