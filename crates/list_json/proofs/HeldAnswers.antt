-- The values of the three answers can be held, and so their lines are read back.
use Rattle.std.proofs.Common.{◌≡◌, ℕ, ◌<◌, ◌^◌, Bool, true, false, cond, not, ◌&&◌, nat_le, nat_lt, List, [], ◌∷◌, ◌++◌, map, Option, Some, None, refl, arith, leb-true, ltb-true}
use Rattle.std.specs.Prelude.{⊤, All, IfSome, IsUtf8, codes, find, option_map}
use Rattle.std.specs.List.{AllByRecursion, flat_map, join_with_byte}
use Rattle.std.specs.Option.{option_map_or}
use Rattle.std.specs.Str.{is_utf8}
use Rattle.std.proofs.lemmas.Bool.{and_parts}
use Rattle.std.proofs.lemmas.List.Elements.{All-from_recursion, recursion_from_All}
use Rattle.std.proofs.lemmas.Str.Ascii.{IsAscii-cons, IsAscii-from_all, IsAscii-nil}
use Rattle.std.proofs.lemmas.Str.{IsUtf8-append, IsUtf8-from_ascii, IsUtf8-from_is_utf8, IsUtf8-nil}
use Rattle.hex.specs.Hex.{encode_lower, lower_digits}
use Rattle.hex.proofs.HexLemmas.{IsAscii-encode_with}
use Rattle.json.proofs.Printed.Utf8.{are_ascii, IsUtf8-are_ascii}
use Rattle.serde_json.specs.Data.{string}
use Rattle.serde_json.specs.View.{items_of}
use Rattle.boot_base.specs.Names.{shown_byte}
use Rattle.boot_entries.specs.Listing.{title_or_base}
use Rattle.menu_order.specs.declared.item.Counter.{Counter}
use Rattle.menu_order.specs.declared.item.MenuItem.{MenuItem}
use Rattle.pcr_values.specs.declared.bank.Bank.{Bank}
use Rattle.pcr_values.specs.declared.bank.Bank.TheVariants as banks
use Rattle.pcr_values.specs.Prelude.{bank_name, colon, path_text}
use Rattle.list_json.specs.Laws.{FitsReaders, MenusReadBack, SectionsReadBack, ValuesReadBack}
use Rattle.list_json.specs.Menus.{entry_data, entry_members, is_told, is_untold, joined_texts, menu_data, name_members, key_members, counter_members, boot_members, texts_array}
use Rattle.list_json.specs.Objects.{MaybeMember, are_text, is_text, items_are_text, member_is_text}
use Rattle.list_json.specs.Registers.{bank_member, value_data, value_members, values_data}
use Rattle.list_json.specs.Sections.{SectionFacts, section_data, section_members, sections_data}
use Rattle.list_json.proofs.Answers.{plain_menu, plain_sections, plain_values}
use Rattle.list_json.proofs.Held.{IsHeld, AreHeld, OptionHeld, RowsHeld, held_items, held_object, held_reads}

-- ---- texts

ascii_below : (bytes : List ℕ) → are_ascii bytes ≡ true → AllByRecursion (λ byte. byte < 128) bytes
ascii_below [] is = tt
ascii_below (byte ∷ bytes) is = let parts = and_parts (nat_lt byte 128) (are_ascii bytes) is in (ltb-true byte 128 parts.0, ascii_below bytes parts.1)

hex_utf8 : (bytes : List ℕ) → IsUtf8 (encode_lower bytes)
hex_utf8 bytes =
    let digits = IsAscii-from_all lower_digits (All-from_recursion (λ digit. digit < 128) lower_digits (ascii_below lower_digits refl)) in
    IsUtf8-from_ascii (encode_lower bytes) (IsAscii-encode_with lower_digits bytes digits)

shown_at : (plain : Bool) (byte : ℕ) → (plain ≡ true → byte < 128) → IsUtf8 (cond plain (byte ∷ []) (codes "\\x" ++ encode_lower (byte ∷ [])))
shown_at true byte small = IsUtf8-from_ascii (byte ∷ []) (IsAscii-cons byte [] (small refl) IsAscii-nil)
shown_at false byte small = IsUtf8-append (codes "\\x") _ (IsUtf8-are_ascii _ refl) (hex_utf8 (byte ∷ []))

shown_utf8 : (name : List ℕ) → IsUtf8 (flat_map shown_byte name)
shown_utf8 [] = IsUtf8-nil
shown_utf8 (byte ∷ name) =
    IsUtf8-append (shown_byte byte) _
    (shown_at (nat_le 33 byte && nat_le byte 126) byte (λ plain. let printable = leb-true byte 126 (and_parts (nat_le 33 byte) (nat_le byte 126) plain).1 in omega arith))
    (shown_utf8 name)

words_utf8 : (words : List (List ℕ)) → AllByRecursion IsUtf8 words → IsUtf8 (join_with_byte colon words)
words_utf8 [] all = IsUtf8-nil
words_utf8 (word ∷ []) all = all.0
words_utf8 (word ∷ next ∷ words) all = IsUtf8-append word _ all.0 (IsUtf8-append (colon ∷ []) _ (IsUtf8-are_ascii _ refl) (words_utf8 (next ∷ words) all.1))

path_utf8 : (path : List (List ℕ)) → All IsUtf8 path → IsUtf8 (path_text path)
path_utf8 [] all = IsUtf8-are_ascii _ refl
path_utf8 (first ∷ rest) all = words_utf8 (first ∷ rest) (recursion_from_All IsUtf8 (first ∷ rest) all)

bank_ascii : (bank : Bank) → are_ascii (bank_name bank) ≡ true
bank_ascii banks.Sha1 = refl
bank_ascii banks.Sha256 = refl
bank_ascii banks.Sha384 = refl
bank_ascii banks.Sha512 = refl

-- ---- an entry whose texts are UTF-8

-- each key is ASCII, and each value can be held if its texts are UTF-8
abbrev RowsTold : List MaybeMember → Type 0
RowsTold [] = ⊤
RowsTold (row ∷ rows) = (are_ascii row.0 ≡ true) × (member_is_text row ≡ true → OptionHeld row.1) × RowsTold rows

rows_held : (rows : List MaybeMember) → RowsTold rows → are_text rows ≡ true → RowsHeld rows
rows_held [] told is = tt
rows_held (row ∷ rows) told is = let parts = and_parts (member_is_text row) (are_text rows) is in (told.0, told.1 parts.0, rows_held rows told.2 parts.1)

told_front : (front back : List MaybeMember) → RowsTold front → RowsTold back → RowsTold (front ++ back)
told_front [] back told later = later
told_front (row ∷ front) back told later = (told.0, told.1, told_front front back told.2 later)

held_text : (value : Option (List ℕ)) → option_map_or is_text (option_map string value) true ≡ true → OptionHeld (option_map string value)
held_text None is = tt
held_text (Some text) is = IsUtf8-from_is_utf8 text is

held_strings : (texts : List (List ℕ)) → items_are_text (items_of (map string texts)) ≡ true → AreHeld (items_of (map string texts))
held_strings [] is = tt
held_strings (text ∷ texts) is = let parts = and_parts (is_utf8 text) (items_are_text (items_of (map string texts))) is in (IsUtf8-from_is_utf8 text parts.0, held_strings texts parts.1)

held_texts : (texts : List (List ℕ)) → option_map_or is_text (texts_array texts) true ≡ true → OptionHeld (texts_array texts)
held_texts [] is = tt
held_texts (first ∷ later) is = held_strings (first ∷ later) is

told_names : (entry : MenuItem) → RowsTold (name_members entry)
unfolding name_members
told_names entry =
    (refl, IsUtf8-from_is_utf8 _, (refl, IsUtf8-from_is_utf8 _, (refl, IsUtf8-from_is_utf8 _, (refl, held_text (title_or_base entry.suffix entry.base entry.title), tt))))

told_keys : (entry : MenuItem) → RowsTold (key_members entry)
unfolding key_members
told_keys entry = (refl, held_text entry.sort_key, (refl, held_text entry.machine_id, (refl, held_text entry.version, tt)))

told_counter : (counter : Option Counter) → IfSome counter FitsReaders → RowsTold (counter_members counter)
unfolding counter_members
told_counter None fits = (refl, IsUtf8-from_is_utf8 _, (refl, λ _. tt, (refl, λ _. tt, tt)))
told_counter (Some counter) fits = (refl, IsUtf8-from_is_utf8 _, (refl, λ _. fits.0, (refl, λ _. fits.1, tt)))

told_boots : (entry : MenuItem) → RowsTold (boot_members entry)
unfolding boot_members
told_boots entry =
    (refl, held_text entry.linux, (refl, held_text entry.efi, (refl, held_texts entry.initrds, (refl, held_text (joined_texts entry.options), tt))))

held_entry : (entry : MenuItem) → is_told entry ≡ true → IfSome entry.counter FitsReaders → IsHeld (entry_data entry)
held_entry entry told fits =
    held_object (entry_members entry) (rows_held (entry_members entry)
    (told_front (name_members entry) _ (told_names entry)
    (told_front (key_members entry) _ (told_keys entry)
    (told_front (counter_members entry.counter) _ (told_counter entry.counter fits) (told_boots entry))))
    told)

-- ---- the three answers

told_first : (told : Bool) (entry : MenuItem) (later : Option MenuItem) → cond (not told) (Some entry) later ≡ None → (told ≡ true) × (later ≡ None)
told_first true entry later none = (refl, none)
told_first false entry later none = cc

held_menu : (entries : List MenuItem) → find is_untold entries ≡ None → AllByRecursion (λ entry. IfSome entry.counter FitsReaders) entries → IsHeld (menu_data entries)
held_menu [] none fit = tt
held_menu (entry ∷ entries) none fit =
    let first = told_first (is_told entry) entry (find is_untold entries) none in
    (held_entry entry first.0 fit.0, held_menu entries first.1 fit.1)

held_section : (section : SectionFacts) → section.size < 2 ^ 64 → IsHeld (section_data section)
held_section section fits =
    held_object (section_members section)
    (refl, shown_utf8 section.name, (refl, hex_utf8 section.digest, (refl, fits, tt)))

held_sections : (sections : List SectionFacts) → AllByRecursion (λ section. section.size < 2 ^ 64) sections → IsHeld (sections_data sections)
held_sections = held_items (λ section. section.size < 2 ^ 64) section_data held_section

held_value : (path : List (List ℕ)) (bytes : List ℕ) → All IsUtf8 path → IsHeld (value_data path bytes)
held_value path bytes all =
    let eleven : 11 < 2 ^ 64 = omega arith in
    held_object (value_members path bytes)
    (refl, hex_utf8 bytes, (refl, eleven, (refl, path_utf8 path all, tt)))

held_banks : (value : Bank → List (List ℕ) → List ℕ) (banks : List Bank) (paths : List (List (List ℕ))) → AllByRecursion (All IsUtf8) paths
    → RowsHeld (map (λ bank. bank_member (value bank) (bank_name bank) paths) banks)
held_banks value [] paths all = tt
held_banks value (bank ∷ banks) paths all = (
  bank_ascii bank,
  held_items (All IsUtf8) (λ path. value_data path (value bank path)) (λ path. held_value path (value bank path)) paths all,
  held_banks value banks paths all,
)

held_values : (value : Bank → List (List ℕ) → List ℕ) (banks : List Bank) (paths : List (List (List ℕ))) → AllByRecursion (All IsUtf8) paths → IsHeld (values_data value banks paths)
held_values value banks paths all = held_object _ (held_banks value banks paths all)

-- ---- the lines of the three answers are read back

pub menus_read_back : MenusReadBack
menus_read_back entries none fit =
    let plain = plain_menu entries in
    held_reads (menu_data entries) (held_menu entries none (recursion_from_All (λ entry. IfSome entry.counter FitsReaders) entries fit)) plain.ascending (omega (arith, plain.shallow))

pub sections_read_back : SectionsReadBack
sections_read_back sections fit =
    let plain = plain_sections sections in
    held_reads (sections_data sections) (held_sections sections (recursion_from_All (λ section. section.size < 2 ^ 64) sections fit)) plain.ascending (omega (arith, plain.shallow))

pub values_read_back : ValuesReadBack
values_read_back value banks paths utf8 =
    let plain = plain_values value banks paths in
    held_reads (values_data value banks paths) (held_values value banks paths (recursion_from_All (All IsUtf8) paths utf8)) plain.ascending (omega (arith, plain.shallow))
