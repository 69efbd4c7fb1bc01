-- The values of the three answers are plain.
use Rattle.std.proofs.Common.{ℕ, List, [], ◌∷◌, ◌++◌, map, Option, option_map}
use Rattle.pcr_values.specs.Prelude.{bank_name, extend_all, pcr_bank, pcr_bytes}
use Rattle.pcr_values.specs.declared.pcr.Pcr.{Pcr}
use Rattle.menu_order.specs.declared.item.Counter.{Counter}
use Rattle.menu_order.specs.declared.item.MenuItem.{MenuItem}
use Rattle.pcr_values.specs.declared.bank.Bank.{Bank}
use Rattle.serde_json.specs.Data.{string, array}
use Rattle.serde_json.specs.View.{items_of}
use Rattle.boot_entries.specs.Listing.{title_or_base}
use Rattle.list_json.specs.Menus.{number_data, texts_array, joined_texts, name_members, key_members, counter_members, boot_members, entry_members, entry_data, menu_data}
use Rattle.list_json.specs.Sections.{SectionFacts, section_data, section_members, sections_data}
use Rattle.list_json.specs.Registers.{value_members, value_data, bank_member, register_member, registers_data, values_data}
use Rattle.list_json.specs.Objects.{MaybeMember}
use Rattle.list_json.proofs.Plain.{IsPlain, IsPlainOption, ArePlainRows, plain_items, plain_array, plain_object, plain_string, plain_number, maybe_plain}

maybe_text : (value : Option (List ℕ)) → IsPlainOption 1 (option_map string value)
maybe_text = maybe_plain 1 string (plain_string 1)

plain_texts : (texts : List (List ℕ)) → IsPlainOption 1 (texts_array texts)
plain_texts [] = tt
plain_texts (first ∷ later) = plain_array 0 (items_of (map string (first ∷ later))) (plain_items 0 string (plain_string 0) (first ∷ later))

plain_front : (n : ℕ) (front back : List MaybeMember) → ArePlainRows n front → ArePlainRows n back → ArePlainRows n (front ++ back)
plain_front n [] back each later = later
plain_front n (row ∷ front) back each later = (each.0, plain_front n front back each.1 later)

plain_names : (entry : MenuItem) → ArePlainRows 1 (name_members entry)
unfolding name_members
plain_names entry = (plain_string 1 _, (plain_string 1 _, (plain_string 1 _, (maybe_text (title_or_base entry.suffix entry.base entry.title), tt))))

plain_keys : (entry : MenuItem) → ArePlainRows 1 (key_members entry)
unfolding key_members
plain_keys entry = (maybe_text entry.sort_key, (maybe_text entry.machine_id, (maybe_text entry.version, tt)))

plain_counter : (counter : Option Counter) → ArePlainRows 1 (counter_members counter)
unfolding counter_members
plain_counter counter = (plain_string 1 _, (maybe_plain 1 (λ c. number_data c.left) (λ c. plain_number 1 c.left) counter, (maybe_plain 1 (λ c. number_data c.done) (λ c. plain_number 1 c.done) counter, tt)))

plain_boots : (entry : MenuItem) → ArePlainRows 1 (boot_members entry)
unfolding boot_members
plain_boots entry = (maybe_text entry.linux, (maybe_text entry.efi, (plain_texts entry.initrds, (maybe_text (joined_texts entry.options), tt))))

pub plain_entry : (entry : MenuItem) → IsPlain 2 (entry_data entry)
plain_entry entry =
    plain_object 1 (entry_members entry)
    (plain_front 1 (name_members entry) _ (plain_names entry)
    (plain_front 1 (key_members entry) _ (plain_keys entry)
    (plain_front 1 (counter_members entry.counter) _ (plain_counter entry.counter) (plain_boots entry))))

pub plain_menu : (entries : List MenuItem) → IsPlain 3 (menu_data entries)
plain_menu entries = plain_array 2 _ (plain_items 2 entry_data plain_entry entries)

pub plain_section : (section : SectionFacts) → IsPlain 1 (section_data section)
plain_section section = plain_object 0 (section_members section) (plain_string 0 _, (plain_string 0 _, (plain_number 0 _, tt)))

pub plain_sections : (sections : List SectionFacts) → IsPlain 2 (sections_data sections)
plain_sections sections = plain_array 1 _ (plain_items 1 section_data plain_section sections)

pub plain_value_data : (path : List (List ℕ)) (bytes : List ℕ) → IsPlain 1 (value_data path bytes)
plain_value_data path bytes = plain_object 0 (value_members path bytes) (plain_string 0 _, (plain_number 0 _, (plain_string 0 _, tt)))

pub plain_bank : (value : List (List ℕ) → List ℕ) (paths : List (List (List ℕ))) → IsPlain 2 (array (items_of (map (λ path. value_data path (value path)) paths)))
plain_bank value paths = plain_array 1 _ (plain_items 1 (λ path. value_data path (value path)) (λ path. plain_value_data path (value path)) paths)

plain_banks : (value : Bank → List (List ℕ) → List ℕ) (banks : List Bank) (paths : List (List (List ℕ))) → ArePlainRows 2 (map (λ bank. bank_member (value bank) (bank_name bank) paths) banks)
plain_banks value [] paths = tt
plain_banks value (bank ∷ banks) paths = (plain_bank (value bank) paths, plain_banks value banks paths)

pub plain_values : (value : Bank → List (List ℕ) → List ℕ) (banks : List Bank) (paths : List (List (List ℕ))) → IsPlain 3 (values_data value banks paths)
plain_values value banks paths = plain_object 2 _ (plain_banks value banks paths)

plain_start_rows : (paths : List (List (List ℕ))) (starts : List Pcr) → ArePlainRows 2 (map (register_member paths) starts)
plain_start_rows paths [] = tt
plain_start_rows paths (start ∷ starts) = (plain_bank (extend_all (pcr_bank start) (pcr_bytes start)) paths, plain_start_rows paths starts)

pub plain_starts : (paths : List (List (List ℕ))) (starts : List Pcr) → IsPlain 3 (registers_data starts paths)
plain_starts paths starts = plain_object 2 _ (plain_start_rows paths starts)
