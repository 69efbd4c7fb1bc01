-- What the commands on loader.conf come to, in the terms of loader.conf(5).
use Rattle.std.specs.Prelude.{◌≡◌, ℕ, List, [], ◌∷◌, ◌++◌, filter, map, slice_get, Some, Ok}
use Rattle.boot_base.specs.Paths.{Path}
use Rattle.boot_entries.specs.Entries.{boot_menu}
use Rattle.boot_machine.specs.Disk.{Files}
use Rattle.loader_commands.specs.Places.{conf_bytes, conf_path, loader_paths}
use Rattle.loader_commands.specs.Setting.{conf_update}
use Rattle.loader_commands.specs.Showing.{show_result, show_text}
use Rattle.loader_commands.specs.declared.places.LoaderPaths.{LoaderPaths}
use Rattle.boot_texts.specs.ConfChoice.{IsDefaultEntry}
use Rattle.boot_texts.specs.Conf.{conf_key_name, conf_of, conf_value, other_conf_key}
use Rattle.boot_texts.specs.FileLines.{key_line, lacks_value, raw_lines}
use Rattle.boot_texts.specs.declared.conf_change.ConfKey.{ConfKey}
use Rattle.menu_order.specs.Ids.{entry_id}
use Rattle.menu_order.specs.declared.item.MenuItem.{MenuItem}

-- the text tells of the entry of the menu that the settings choose
pub record ShowsDefaultEntry (view : Files) (word text : List ℕ) : Type 0 where
  pub paths : LoaderPaths
  pub bytes : List ℕ
  pub place : ℕ
  pub item : MenuItem
  pub paths_are : loader_paths word ≡ Ok paths
  pub bytes_are : conf_bytes view paths.conf ≡ Ok bytes
  pub chosen : IsDefaultEntry (conf_of bytes).default (map entry_id (boot_menu view paths.folders)) place
  pub item_is : slice_get (boot_menu view paths.folders) place ≡ Some item
  pub text_is : text ≡ show_text item (conf_of bytes).timeout

-- whatever `loader show` tells is of the default entry
abbrev pub ShowTellsOfTheDefault : Type 0
ShowTellsOfTheDefault =
    (view : Files) (word text : List ℕ) → show_result view word ≡ Ok text → ShowsDefaultEntry view word text

-- the new text of the loader.conf at a path has the value at its key and the old one at the other, and each other line
-- byte for byte and in order, and behind them the one that gives the key the value
pub record ChangesOneKey (view : Files) (key : ConfKey) (value word : List ℕ) (path : Path)
    (text : List ℕ) : Type 0 where
  pub bytes : List ℕ
  pub path_is : conf_path word ≡ Ok path
  pub bytes_are : conf_bytes view path ≡ Ok bytes
  pub lines : raw_lines text ≡ filter (lacks_value (conf_key_name key)) (raw_lines bytes)
      ++ key_line (conf_key_name key) value ∷ []
  pub set : conf_value key (conf_of text) ≡ Some value
  pub other : conf_value (other_conf_key key) (conf_of text) ≡ conf_value (other_conf_key key) (conf_of bytes)

-- whatever text a command on a key is going to write changes that key alone
abbrev pub SettingChangesOneKey : Type 0
SettingChangesOneKey =
    (view : Files) (key : ConfKey) (value word : List ℕ) (path : Path) (text : List ℕ)
    → conf_update view key value word ≡ Ok (path, text) → ChangesOneKey view key value word path text
