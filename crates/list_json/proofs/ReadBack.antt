-- The tokens of an entry and of a menu are read as they were told.
use Rattle.std.proofs.Common.{◌≡◌, ℕ, List, [], ◌∷◌, ◌++◌, map, Option, Some, None, refl, sym, ap, ◌∙◌}
use Rattle.std.specs.Prelude.{⊤, option_map, option_and_then}
use Rattle.menu_order.specs.declared.item.Counter.{Counter}
use Rattle.menu_order.specs.declared.item.MenuItem.{MenuItem}
use Rattle.boot_entries.specs.Listing.{title_or_base}
use Rattle.serde_json.specs.Data.{Data, string, array, object, Members, no_members, put, item}
use Rattle.serde_json.specs.Read.{of_json, of_items, of_members}
use Rattle.serde_json.specs.View.{items_of}
use Rattle.serde_json.specs.Written.{outline, items_outline, members_outline}
use Rattle.list_json.specs.Menus.{entry_data, joined_texts, texts_array}
use Rattle.list_json.specs.Objects.{MaybeMember, put_value, put_some, put_all}
use Rattle.list_json.specs.Tokens.{CounterReads, ListReads, ReadsBack, front_rows, middle_rows, state_rows, tries_rows, end_rows, entry_rows}
use Rattle.list_json.proofs.Rows.{present, present_value, entry_present, rows_present}

-- ---- rows

abbrev pub OptionReads : Option Data → Type 0
OptionReads None = ⊤
OptionReads (Some value) = ReadsBack value

abbrev pub RowsRead : List MaybeMember → Type 0
RowsRead [] = ⊤
RowsRead (row ∷ rows) = OptionReads row.1 × RowsRead rows

read_value : (key : List ℕ) (value : Option Data) (rest found all : Members) → OptionReads value
    → of_members (members_outline rest) (put_value key value found) ≡ Some all → of_members (members_outline (present_value key value rest)) found ≡ Some all
read_value key None rest found all reads later = later
read_value key (Some value) rest found all reads later = ap (option_and_then (λ d. of_members (members_outline rest) (put key d found))) reads ∙ later

read_rows : (rows : List MaybeMember) (found : Members) → RowsRead rows → of_members (members_outline (present rows)) found ≡ Some (put_all found rows)
read_rows [] found reads = refl
read_rows (row ∷ rows) found reads = read_value row.0 row.1 (present rows) found _ reads.0 (read_rows rows (put_some found row) reads.1)

rows_front : (front back : List MaybeMember) → RowsRead front → RowsRead back → RowsRead (front ++ back)
rows_front [] back h k = k
rows_front (row ∷ front) back h k = (h.0, rows_front front back h.1 k)

-- ---- arrays

pub list_read : (values : List Data) → ListReads values → of_items (items_outline (items_of values)) ≡ Some (items_of values)
list_read [] reads = refl
list_read (value ∷ values) reads =
    ap (option_and_then (λ d. option_map (item d) (of_items (items_outline (items_of values))))) reads.0 ∙ ap (option_map (item value)) (list_read values reads.1)

pub array_read : (values : List Data) → ListReads values → ReadsBack (array (items_of values))
array_read values reads = ap (option_map array) (list_read values reads)

pub list_more : (values : List Data) (value : Data) → ListReads values → ReadsBack value → ListReads (values ++ value ∷ [])
list_more [] value all one = (one, tt)
list_more (first ∷ values) value all one = (all.0, list_more values value all.1 one)

strings_read : (texts : List (List ℕ)) → ListReads (map string texts)
strings_read [] = tt
strings_read (text ∷ texts) = (refl, strings_read texts)

-- ---- an entry

text_reads : (value : Option (List ℕ)) → OptionReads (option_map string value)
text_reads None = tt
text_reads (Some text) = refl

texts_read : (texts : List (List ℕ)) → OptionReads (texts_array texts)
texts_read [] = tt
texts_read (first ∷ later) = array_read (map string (first ∷ later)) (strings_read (first ∷ later))

front_read : (entry : MenuItem) → RowsRead (front_rows entry)
unfolding front_rows
front_read entry = (text_reads entry.efi, (refl, (texts_read entry.initrds, (text_reads entry.linux, tt))))

middle_read : (entry : MenuItem) → RowsRead (middle_rows entry)
unfolding middle_rows
middle_read entry = (text_reads entry.machine_id, (text_reads (joined_texts entry.options), (text_reads entry.sort_key, (refl, tt))))

state_read : (entry : MenuItem) → RowsRead (state_rows entry)
unfolding state_rows
state_read entry = (refl, (text_reads (title_or_base entry.suffix entry.base entry.title), tt))

tries_read : (counter : Option Counter) → CounterReads counter → RowsRead (tries_rows counter)
unfolding tries_rows
tries_read None reads = (tt, (tt, tt))
tries_read (Some counter) reads = (reads.1, (reads.0, tt))

end_read : (entry : MenuItem) → RowsRead (end_rows entry)
unfolding end_rows
end_read entry = (refl, (text_reads entry.version, tt))

pub entry_read : (entry : MenuItem) → CounterReads entry.counter → ReadsBack (entry_data entry)
entry_read entry reads =
    let all = rows_front (front_rows entry) _ (front_read entry)
    (rows_front (middle_rows entry) _ (middle_read entry)
    (rows_front (state_rows entry) _ (state_read entry)
    (rows_front (tries_rows entry.counter) _ (tries_read entry.counter reads) (end_read entry)))) in
    ap (λ value. of_json (outline value)) (entry_present entry)
    ∙ ap (option_map object) (read_rows (entry_rows entry) no_members all)
    ∙ ap (λ members. Some (object members)) (rows_present entry)
    ∙ ap Some (sym (entry_present entry))
