-- Type 1 entry files of the UAPI Boot Loader Specification.
use Rattle.std.specs.Prelude.{ℕ, Bool, ◌||◌, List, is_some, codes}
use Rattle.boot_texts.specs.EntryLines.{entry_value, entry_values}
use Rattle.boot_texts.specs.declared.entry.Type1.{Type1}

-- a file says what to boot: a kernel or an EFI program
abbrev pub boots : List ℕ → Bool
boots text = is_some (entry_value (codes "linux") text) || is_some (entry_value (codes "efi") text)

-- what a file says of its entry
abbrev pub type1_of : List ℕ → Type1
type1_of text = record {
  title = entry_value (codes "title") text;
  version = entry_value (codes "version") text;
  machine_id = entry_value (codes "machine-id") text;
  sort_key = entry_value (codes "sort-key") text;
  linux = entry_value (codes "linux") text;
  efi = entry_value (codes "efi") text;
  initrds = entry_values (codes "initrd") text;
  options = entry_values (codes "options") text;
  devicetree = entry_value (codes "devicetree") text;
  overlay = entry_value (codes "devicetree-overlay") text;
  architecture = entry_value (codes "architecture") text;
}
