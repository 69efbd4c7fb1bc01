-- What is written of an entry is read again, and is an entry.
use Rattle.std.proofs.Common.{◌≡◌, ◌≢◌, ◌≤◌, ◌+◌, ◌*◌, inl, inr, ℕ, suc, Bool, true, false, not, ◌&&◌, ◌||◌, eqb, List, [], ◌∷◌, ◌++◌, Some, None, Option, length, take, map, filter, subst, sym, ap, ◌∙◌, refl, cond, arith, append_assoc, append-nil, length-append, bytes_eq, codes, nat_le, is_some, option_to_list}
use Rattle.std.specs.List.{All, cons_option, filter_map, last_or, list_all}
use Rattle.std.proofs.lemmas.Bool.{and_from, and_parts, eqb-true, le-leb, leb-true, ne_eqb, not_from_false, not-true, or_parts, or_cases}
use Rattle.std.proofs.lemmas.List.Elements.{All-head, All-tail, All-weaker, filter_map-append}
use Rattle.std.proofs.lemmas.Grind.{flat_map-append}
use Rattle.boot_texts.specs.BootEntries.{boots, type1_of}
use Rattle.boot_texts.specs.EntryLines.{EntryLine, entry_pairs, entry_reading, is_not_gap}
use Rattle.boot_texts.specs.FileLines.{file_line_reading, key_line, raw_lines, text_of_lines, with_newline}
use Rattle.boot_texts.specs.KeyValues.{Pair, last_value, values_of}
use Rattle.boot_texts.specs.TextLines.{is_blank, is_counted, is_newline, lines_of, trim_blanks}
use Rattle.boot_texts.specs.declared.entry.Type1.{Type1}
use Rattle.boot_texts.proofs.ConfChanges.{trimmed_same}
use Rattle.boot_texts.proofs.EntryReading.{complete}
use Rattle.boot_texts.proofs.FileLines.{file_lines_of_written, is_line, readings_are}
use Rattle.boot_texts.proofs.LastValue.{values_of-append}
use Rattle.boot_texts.specs.EntryText.{AreEntryFields, IsFieldIf, IsPayloadValue, ReadsBack, head_passes, last_passes, entry_lines, entry_text, is_field, is_field_byte, is_hex_lower, is_no_space, is_payload_name, line_if, payload_value}

-- ---- one line

-- a value that can be written behind a key: it ends in no blank, begins with no gap, and has no newline
pub record IsWritten (value : List ℕ) : Type 0 where
  pub front : List ℕ
  pub last : ℕ
  pub whole : value ≡ front ++ last ∷ []
  pub ends : is_blank last ≡ false
  pub begins : head_passes is_not_gap value ≡ true
  pub line : is_line value ≡ true

-- a key that a line may begin with
pub record IsKey (first : ℕ) (rest : List ℕ) : Type 0 where
  pub begins : is_blank first ≡ false
  pub counts : eqb first 35 ≡ false
  pub key : list_all is_not_gap (first ∷ rest) ≡ true
  pub line : is_line (first ∷ rest) ≡ true

reads_value : (first : ℕ) (rest value : List ℕ) → IsKey first rest → IsWritten value
    → file_line_reading (key_line (first ∷ rest) value) ≡ Some (first ∷ rest, value)
reads_value first rest [] key written = cc (written.begins)
reads_value first rest (x ∷ xs) key written =
    let line = first ∷ ((rest ++ 32 ∷ written.front) ++ written.last ∷ []) in
    let is : key_line (first ∷ rest) (x ∷ xs) ≡ line =
    ap (λ (v : List ℕ). first ∷ (rest ++ 32 ∷ v)) written.whole
    ∙ ap (λ (t : List ℕ). first ∷ t) (sym (append_assoc rest (32 ∷ written.front) (written.last ∷ []))) in
    let trims : trim_blanks (key_line (first ∷ rest) (x ∷ xs)) ≡ key_line (first ∷ rest) (x ∷ xs) =
    ap trim_blanks is ∙ trimmed_same first (rest ++ 32 ∷ written.front) written.last key.begins written.ends ∙ sym is in
    let pair : Pair = (first ∷ rest, x ∷ xs) in
    let given : EntryLine (key_line (first ∷ rest) (x ∷ xs)) (first ∷ rest) (x ∷ xs) = record {
      gap = 32 ∷ [];
      parts = refl;
      key_is_there = λ e. cc;
      key_has_no_gap = key.key;
      gap_is_there = λ e. cc;
      gap_is_blank = refl;
      value_begins = written.begins;
    } in
    let reads : entry_reading (key_line (first ∷ rest) (x ∷ xs)) ≡ Some pair = complete (key_line (first ∷ rest) (x ∷ xs)) pair given in
    let counts = key.counts in
    ap (λ (t : List ℕ). cond (is_counted t) (entry_reading t) None) trims ∙ rw counts reads

line_append : (a b : List ℕ) → is_line a ≡ true → is_line b ≡ true → is_line (a ++ b) ≡ true
line_append [] b one two = two
line_append (x ∷ a) b one two =
    let parts = and_parts (not (is_newline x)) (is_line a) one in
    and_from (not (is_newline x)) (is_line (a ++ b)) parts.0 (line_append a b parts.1 two)

value_line : (first : ℕ) (rest value : List ℕ) → IsKey first rest → IsWritten value → is_line (key_line (first ∷ rest) value) ≡ true
value_line first rest value key written = line_append (first ∷ rest) (32 ∷ value) key.line written.line

-- ---- values that can be written

field_not_newline : (byte : ℕ) → is_field_byte byte ≡ true → not (is_newline byte) ≡ true
field_not_newline byte is =
    let above : 32 ≤ byte = leb-true 32 byte (and_parts (nat_le 32 byte) (not (eqb byte 127)) is).0 in
    not_from_false (is_newline byte) (ne_eqb byte 10 (λ e. absurd (omega (arith, e, above))))

field_line : (text : List ℕ) → list_all is_field_byte text ≡ true → is_line text ≡ true
field_line [] all = refl
field_line (byte ∷ text) all =
    let parts = and_parts (is_field_byte byte) (list_all is_field_byte text) all in
    and_from (not (is_newline byte)) (is_line text) (field_not_newline byte parts.0) (field_line text parts.1)

field_not_blank : (byte : ℕ) → is_field_byte byte ≡ true → is_no_space byte ≡ true → is_blank byte ≡ false
field_not_blank byte is no_space =
    let above : 32 ≤ byte = leb-true 32 byte (and_parts (nat_le 32 byte) (not (eqb byte 127)) is).0 in
    let space : eqb byte 32 ≡ false = not-true (eqb byte 32) no_space in
    let tab = ne_eqb byte 9 (λ e. absurd (omega (arith, e, above))) in
    let back = ne_eqb byte 13 (λ e. absurd (omega (arith, e, above))) in
    rw (space, tab, back) refl

field_not_gap : (byte : ℕ) → is_field_byte byte ≡ true → is_no_space byte ≡ true → is_not_gap byte ≡ true
field_not_gap byte is no_space =
    let above : 32 ≤ byte = leb-true 32 byte (and_parts (nat_le 32 byte) (not (eqb byte 127)) is).0 in
    let space : eqb byte 32 ≡ false = not-true (eqb byte 32) no_space in
    let tab = ne_eqb byte 9 (λ e. absurd (omega (arith, e, above))) in
    rw (space, tab) refl

-- the last byte
field_end : (text : List ℕ) → list_all is_field_byte text ≡ true → last_passes is_no_space text ≡ true → (front : List ℕ) × (last : ℕ) × (text ≡ front ++ last ∷ []) × (is_blank last ≡ false)
field_end [] all ends = cc
field_end (byte ∷ []) all ends = ([], byte, refl, field_not_blank byte (and_parts (is_field_byte byte) true all).0 ends)
field_end (byte ∷ next ∷ text) all ends =
    let found = field_end (next ∷ text) (and_parts (is_field_byte byte) (list_all is_field_byte (next ∷ text)) all).1 ends in
    (byte ∷ found.0, found.1, ap (λ (l : List ℕ). byte ∷ l) found.2, found.3)

field_begin : (text : List ℕ) → list_all is_field_byte text ≡ true → head_passes is_no_space text ≡ true → head_passes is_not_gap text ≡ true
field_begin [] all begins = begins
field_begin (byte ∷ text) all begins = field_not_gap byte (and_parts (is_field_byte byte) (list_all is_field_byte text) all).0 begins

record FieldParts (text : List ℕ) : Type 0 where
  short : length text ≤ 1024
  bytes : list_all is_field_byte text ≡ true
  begins : head_passes is_no_space text ≡ true
  ends : last_passes is_no_space text ≡ true

field_parts : (text : List ℕ) → is_field text ≡ true → FieldParts text
field_parts text is =
    let last = and_parts (nat_le (length text) 1024 && list_all is_field_byte text && head_passes is_no_space text) (last_passes is_no_space text) is in
    let third = and_parts (nat_le (length text) 1024 && list_all is_field_byte text) (head_passes is_no_space text) last.0 in
    let two = and_parts (nat_le (length text) 1024) (list_all is_field_byte text) third.0 in
    record { short = leb-true (length text) 1024 two.0; bytes = two.1; begins = third.1; ends = last.1 }

pub written_field : (text : List ℕ) → is_field text ≡ true → IsWritten text
written_field text is =
    let parts = field_parts text is in
    let found = field_end text parts.bytes parts.ends in
    record {
      front = found.0;
      last = found.1;
      whole = found.2;
      ends = found.3;
      begins = field_begin text parts.bytes parts.begins;
      line = field_line text parts.bytes;
    }

-- ---- payloads

hex_field : (byte : ℕ) → is_hex_lower byte ≡ true → (is_field_byte byte ≡ true) × (is_no_space byte ≡ true)
hex_field byte is = elim (or_cases (nat_le 48 byte && nat_le byte 57) (nat_le 97 byte && nat_le byte 102) is) [
  | inl digit ↦
      let parts = and_parts (nat_le 48 byte) (nat_le byte 57) digit in
      let low : 48 ≤ byte = leb-true 48 byte parts.0 in
      let high : byte ≤ 57 = leb-true byte 57 parts.1 in
      fits byte (omega (arith, low)) (λ e. omega (arith, high, e)) (λ e. omega (arith, low, e))
  | inr letter ↦
      let parts = and_parts (nat_le 97 byte) (nat_le byte 102) letter in
      let low : 97 ≤ byte = leb-true 97 byte parts.0 in
      let high : byte ≤ 102 = leb-true byte 102 parts.1 in
      fits byte (omega (arith, low)) (λ e. omega (arith, high, e)) (λ e. omega (arith, low, e))
]
  where
    fits : (byte : ℕ) → 32 ≤ byte → (byte ≡ 127 → ⊥) → (byte ≡ 32 → ⊥) → (is_field_byte byte ≡ true) × (is_no_space byte ≡ true)
    fits byte above no_delete no_space = (
      and_from (nat_le 32 byte) (not (eqb byte 127)) (le-leb 32 byte above) (not_from_false (eqb byte 127) (ne_eqb byte 127 no_delete)),
      not_from_false (eqb byte 32) (ne_eqb byte 32 no_space),
    )

hex_bytes : (name : List ℕ) → list_all is_hex_lower name ≡ true → list_all is_field_byte name ≡ true
hex_bytes [] all = refl
hex_bytes (byte ∷ name) all =
    let parts = and_parts (is_hex_lower byte) (list_all is_hex_lower name) all in
    and_from (is_field_byte byte) (list_all is_field_byte name) (hex_field byte parts.0).0 (hex_bytes name parts.1)

hex_end : (before : ℕ) (name : List ℕ) → is_no_space before ≡ true → list_all is_hex_lower name ≡ true → last_passes is_no_space (before ∷ name) ≡ true
hex_end before [] no_space all = no_space
hex_end before (byte ∷ name) no_space all =
    let parts = and_parts (is_hex_lower byte) (list_all is_hex_lower name) all in
    hex_end byte name (hex_field byte parts.0).1 parts.1

pub payload_length : (name : List ℕ) → is_payload_name name ≡ true → length (payload_value name) ≡ 76
payload_length name is =
    let long : length name ≡ 64 = eqb-true (length name) 64 (and_parts (eqb (length name) 64) (list_all is_hex_lower name) is).0 in
    omega (arith, long)

payload_field : (name : List ℕ) → is_payload_name name ≡ true → is_field (payload_value name) ≡ true
payload_field name is =
    let digits = (and_parts (eqb (length name) 64) (list_all is_hex_lower name) is).1 in
    let short = le-leb (length (payload_value name)) 1024 (omega (arith, payload_length name is)) in
    let bytes : list_all is_field_byte (payload_value name) ≡ true = hex_bytes name digits in
    let ends : last_passes is_no_space (payload_value name) ≡ true = hex_end 47 name refl digits in
    and_from (nat_le (length (payload_value name)) 1024 && list_all is_field_byte (payload_value name) && head_passes is_no_space (payload_value name)) (last_passes is_no_space (payload_value name))
    (and_from (nat_le (length (payload_value name)) 1024 && list_all is_field_byte (payload_value name)) (head_passes is_no_space (payload_value name))
    (and_from (nat_le (length (payload_value name)) 1024) (list_all is_field_byte (payload_value name)) short bytes) refl)
    ends

value_field : (value : List ℕ) → IsPayloadValue value → is_field value ≡ true
value_field value is = subst (λ (v : List ℕ). is_field v ≡ true) (sym is.1) (payload_field is.0 is.2)

linux_field : (value : Option (List ℕ)) → ((v : List ℕ) × (value ≡ Some v) × IsPayloadValue v) → IsFieldIf value
linux_field value is = subst IsFieldIf (sym is.1) (value_field is.0 is.2)

-- ---- many lines

-- these lines say these pairs
pub record Say (text : List (List ℕ)) (pairs : List Pair) : Type 0 where
  pub read : filter_map file_line_reading text ≡ pairs
  pub lines : list_all is_line text ≡ true

all_append : (xs ys : List (List ℕ)) → list_all is_line xs ≡ true → list_all is_line ys ≡ true → list_all is_line (xs ++ ys) ≡ true
all_append [] ys one two = two
all_append (x ∷ xs) ys one two =
    let parts = and_parts (is_line x) (list_all is_line xs) one in
    and_from (is_line x) (list_all is_line (xs ++ ys)) parts.0 (all_append xs ys parts.1 two)

say_both : (xs ys : List (List ℕ)) (ps qs : List Pair) → Say xs ps → Say ys qs → Say (xs ++ ys) (ps ++ qs)
say_both xs ys ps qs one two = record {
  read = filter_map-append file_line_reading xs ys ∙ ap (λ (l : List Pair). l ++ filter_map file_line_reading ys) one.read ∙ ap (λ (l : List Pair). ps ++ l) two.read;
  lines = all_append xs ys one.lines two.lines;
}

-- the pairs of a key
abbrev pub pairs_if : List ℕ → Option (List ℕ) → List Pair
pairs_if key None = []
pairs_if key (Some value) = (key, value) ∷ []

abbrev pub pairs_each : List ℕ → List (List ℕ) → List Pair
pairs_each key values = map (λ value. (key, value)) values

module _ (first : ℕ) (rest : List ℕ) (key : IsKey first rest) where
  say_one : (value : List ℕ) → IsWritten value → Say (key_line (first ∷ rest) value ∷ []) ((first ∷ rest, value) ∷ [])
  say_one value written = record {
    read = ap (λ (r : Option Pair). cons_option r []) (reads_value first rest value key written);
    lines = and_from (is_line (key_line (first ∷ rest) value)) true (value_line first rest value key written) refl;
  }

  say_if : (value : Option (List ℕ)) → IsFieldIf value → Say (line_if (first ∷ rest) value) (pairs_if (first ∷ rest) value)
  say_if None field = record { read = refl; lines = refl }
  say_if (Some value) field = say_one value (written_field value field)

  say_each : (values : List (List ℕ)) → All IsWritten values → Say (map (key_line (first ∷ rest)) values) (pairs_each (first ∷ rest) values)
  say_each [] written = record { read = refl; lines = refl }
  say_each (value ∷ values) written =
      say_both (key_line (first ∷ rest) value ∷ []) (map (key_line (first ∷ rest)) values) ((first ∷ rest, value) ∷ []) (pairs_each (first ∷ rest) values)
      (say_one value (All-head IsWritten value values written)) (say_each values (All-tail IsWritten value values written))

-- ---- what a key has of them

none_if : (key asked : List ℕ) → bytes_eq key asked ≡ false → (value : Option (List ℕ)) → values_of asked (pairs_if key value) ≡ []
none_if key asked differs None = refl
none_if key asked differs (Some value) = rw differs refl

same_if : (key asked : List ℕ) → bytes_eq key asked ≡ true → (value : Option (List ℕ)) → values_of asked (pairs_if key value) ≡ option_to_list value
same_if key asked same None = refl
same_if key asked same (Some value) = rw same refl

none_each : (key asked : List ℕ) → bytes_eq key asked ≡ false → (values : List (List ℕ)) → values_of asked (pairs_each key values) ≡ []
none_each key asked differs [] = refl
none_each key asked differs (value ∷ values) = rw differs (none_each key asked differs values)

same_each : (key asked : List ℕ) → bytes_eq key asked ≡ true → (values : List (List ℕ)) → values_of asked (pairs_each key values) ≡ values
same_each key asked same [] = refl
same_each key asked same (value ∷ values) = rw same (ap (λ (l : List (List ℕ)). value ∷ l) (same_each key asked same values))

then_of : (asked : List ℕ) (xs ys : List Pair) (vs ws : List (List ℕ)) → values_of asked xs ≡ vs → values_of asked ys ≡ ws → values_of asked (xs ++ ys) ≡ vs ++ ws
then_of asked xs ys vs ws one two =
    values_of-append asked xs ys ∙ ap (λ (l : List (List ℕ)). l ++ values_of asked ys) one ∙ ap (λ (l : List (List ℕ)). vs ++ l) two

last_of_option : (value : Option (List ℕ)) → last_or None (option_to_list value) ≡ value
last_of_option None = refl
last_of_option (Some value) = refl

-- ---- the whole entry

abbrev pub entry_pairs_of : Type1 → List Pair
entry_pairs_of f =
    pairs_if (codes "title") f.title
    ++ (pairs_if (codes "version") f.version
    ++ (pairs_if (codes "machine-id") f.machine_id
    ++ (pairs_if (codes "sort-key") f.sort_key
    ++ (pairs_if (codes "linux") f.linux
    ++ (pairs_each (codes "initrd") f.initrds ++ pairs_each (codes "options") f.options)))))

is_key : IsKey 116 (codes "itle")
is_key = record { begins = refl; counts = refl; key = refl; line = refl }

says : (f : Type1) → AreEntryFields f → Say (entry_lines f) (entry_pairs_of f)
says f is =
    say_both (line_if (codes "title") f.title) _ (pairs_if (codes "title") f.title) _ (say_if 116 (codes "itle") is_key f.title is.title)
    (say_both (line_if (codes "version") f.version) _ (pairs_if (codes "version") f.version) _ (say_if 118 (codes "ersion") (record { begins = refl; counts = refl; key = refl; line = refl }) f.version is.version)
    (say_both (line_if (codes "machine-id") f.machine_id) _ (pairs_if (codes "machine-id") f.machine_id) _ (say_if 109 (codes "achine-id") (record { begins = refl; counts = refl; key = refl; line = refl }) f.machine_id is.machine_id)
    (say_both (line_if (codes "sort-key") f.sort_key) _ (pairs_if (codes "sort-key") f.sort_key) _ (say_if 115 (codes "ort-key") (record { begins = refl; counts = refl; key = refl; line = refl }) f.sort_key is.sort_key)
    (say_both (line_if (codes "linux") f.linux) _ (pairs_if (codes "linux") f.linux) _ (say_if 108 (codes "inux") (record { begins = refl; counts = refl; key = refl; line = refl }) f.linux (linux_field f.linux is.linux))
    (say_both (map (key_line (codes "initrd")) f.initrds) (map (key_line (codes "options")) f.options) (pairs_each (codes "initrd") f.initrds) (pairs_each (codes "options") f.options)
    (say_each 105 (codes "nitrd") (record { begins = refl; counts = refl; key = refl; line = refl }) f.initrds (All-weaker IsPayloadValue IsWritten (λ value is. written_field value (value_field value is)) f.initrds is.initrds))
    (say_each 111 (codes "ptions") (record { begins = refl; counts = refl; key = refl; line = refl }) f.options (All-weaker (λ text. is_field text ≡ true) IsWritten written_field f.options is.options)))))))

pairs_are : (f : Type1) → AreEntryFields f → entry_pairs (entry_text f) ≡ entry_pairs_of f
pairs_are f is =
    let say = says f is in
    readings_are (entry_text f) ∙ ap (filter_map file_line_reading) (file_lines_of_written (entry_lines f) say.lines) ∙ say.read

-- what a key has, by what it has of each part
module _ (f : Type1) (asked : List ℕ) where
  gathered : (a b c d e g h : List (List ℕ))
      → values_of asked (pairs_if (codes "title") f.title) ≡ a
      → values_of asked (pairs_if (codes "version") f.version) ≡ b
      → values_of asked (pairs_if (codes "machine-id") f.machine_id) ≡ c
      → values_of asked (pairs_if (codes "sort-key") f.sort_key) ≡ d
      → values_of asked (pairs_if (codes "linux") f.linux) ≡ e
      → values_of asked (pairs_each (codes "initrd") f.initrds) ≡ g
      → values_of asked (pairs_each (codes "options") f.options) ≡ h
      → values_of asked (entry_pairs_of f) ≡ a ++ (b ++ (c ++ (d ++ (e ++ (g ++ h)))))
  gathered a b c d e g h title version machine sort linux initrds options =
      then_of asked (pairs_if (codes "title") f.title) _ a (b ++ (c ++ (d ++ (e ++ (g ++ h))))) title
      (then_of asked (pairs_if (codes "version") f.version) _ b (c ++ (d ++ (e ++ (g ++ h)))) version
      (then_of asked (pairs_if (codes "machine-id") f.machine_id) _ c (d ++ (e ++ (g ++ h))) machine
      (then_of asked (pairs_if (codes "sort-key") f.sort_key) _ d (e ++ (g ++ h)) sort
      (then_of asked (pairs_if (codes "linux") f.linux) _ e (g ++ h) linux
      (then_of asked (pairs_each (codes "initrd") f.initrds) (pairs_each (codes "options") f.options) g h initrds options)))))

module _ (f : Type1) (is : AreEntryFields f) where
  last_is : (asked : List ℕ) (value : Option (List ℕ)) → values_of asked (entry_pairs_of f) ≡ option_to_list value → last_value asked (entry_pairs (entry_text f)) ≡ value
  last_is asked value values = ap (last_value asked) (pairs_are f is) ∙ ap (last_or None) values ∙ last_of_option value

  title_is : last_value (codes "title") (entry_pairs (entry_text f)) ≡ f.title
  title_is = last_is (codes "title") f.title
      (gathered f (codes "title") (option_to_list f.title) [] [] [] [] [] []
      (same_if (codes "title") (codes "title") refl f.title) (none_if (codes "version") (codes "title") refl f.version)
      (none_if (codes "machine-id") (codes "title") refl f.machine_id) (none_if (codes "sort-key") (codes "title") refl f.sort_key)
      (none_if (codes "linux") (codes "title") refl f.linux) (none_each (codes "initrd") (codes "title") refl f.initrds) (none_each (codes "options") (codes "title") refl f.options)
      ∙ append-nil (option_to_list f.title))

  version_is : last_value (codes "version") (entry_pairs (entry_text f)) ≡ f.version
  version_is = last_is (codes "version") f.version
      (gathered f (codes "version") [] (option_to_list f.version) [] [] [] [] []
      (none_if (codes "title") (codes "version") refl f.title)
      (same_if (codes "version") (codes "version") refl f.version)
      (none_if (codes "machine-id") (codes "version") refl f.machine_id)
      (none_if (codes "sort-key") (codes "version") refl f.sort_key)
      (none_if (codes "linux") (codes "version") refl f.linux)
      (none_each (codes "initrd") (codes "version") refl f.initrds)
      (none_each (codes "options") (codes "version") refl f.options)
      ∙ append-nil (option_to_list f.version))

  machine_is : last_value (codes "machine-id") (entry_pairs (entry_text f)) ≡ f.machine_id
  machine_is = last_is (codes "machine-id") f.machine_id
      (gathered f (codes "machine-id") [] [] (option_to_list f.machine_id) [] [] [] []
      (none_if (codes "title") (codes "machine-id") refl f.title)
      (none_if (codes "version") (codes "machine-id") refl f.version)
      (same_if (codes "machine-id") (codes "machine-id") refl f.machine_id)
      (none_if (codes "sort-key") (codes "machine-id") refl f.sort_key)
      (none_if (codes "linux") (codes "machine-id") refl f.linux)
      (none_each (codes "initrd") (codes "machine-id") refl f.initrds)
      (none_each (codes "options") (codes "machine-id") refl f.options)
      ∙ append-nil (option_to_list f.machine_id))

  sort_is : last_value (codes "sort-key") (entry_pairs (entry_text f)) ≡ f.sort_key
  sort_is = last_is (codes "sort-key") f.sort_key
      (gathered f (codes "sort-key") [] [] [] (option_to_list f.sort_key) [] [] []
      (none_if (codes "title") (codes "sort-key") refl f.title)
      (none_if (codes "version") (codes "sort-key") refl f.version)
      (none_if (codes "machine-id") (codes "sort-key") refl f.machine_id)
      (same_if (codes "sort-key") (codes "sort-key") refl f.sort_key)
      (none_if (codes "linux") (codes "sort-key") refl f.linux)
      (none_each (codes "initrd") (codes "sort-key") refl f.initrds)
      (none_each (codes "options") (codes "sort-key") refl f.options)
      ∙ append-nil (option_to_list f.sort_key))

  linux_is : last_value (codes "linux") (entry_pairs (entry_text f)) ≡ f.linux
  linux_is = last_is (codes "linux") f.linux
      (gathered f (codes "linux") [] [] [] [] (option_to_list f.linux) [] []
      (none_if (codes "title") (codes "linux") refl f.title)
      (none_if (codes "version") (codes "linux") refl f.version)
      (none_if (codes "machine-id") (codes "linux") refl f.machine_id)
      (none_if (codes "sort-key") (codes "linux") refl f.sort_key)
      (same_if (codes "linux") (codes "linux") refl f.linux)
      (none_each (codes "initrd") (codes "linux") refl f.initrds)
      (none_each (codes "options") (codes "linux") refl f.options)
      ∙ append-nil (option_to_list f.linux))

  efi_is : last_value (codes "efi") (entry_pairs (entry_text f)) ≡ f.efi
  efi_is = last_is (codes "efi") None
      (gathered f (codes "efi") [] [] [] [] [] [] []
      (none_if (codes "title") (codes "efi") refl f.title)
      (none_if (codes "version") (codes "efi") refl f.version)
      (none_if (codes "machine-id") (codes "efi") refl f.machine_id)
      (none_if (codes "sort-key") (codes "efi") refl f.sort_key)
      (none_if (codes "linux") (codes "efi") refl f.linux)
      (none_each (codes "initrd") (codes "efi") refl f.initrds)
      (none_each (codes "options") (codes "efi") refl f.options))
      ∙ sym is.no_efi

  devicetree_is : last_value (codes "devicetree") (entry_pairs (entry_text f)) ≡ f.devicetree
  devicetree_is = last_is (codes "devicetree") None
      (gathered f (codes "devicetree") [] [] [] [] [] [] []
      (none_if (codes "title") (codes "devicetree") refl f.title)
      (none_if (codes "version") (codes "devicetree") refl f.version)
      (none_if (codes "machine-id") (codes "devicetree") refl f.machine_id)
      (none_if (codes "sort-key") (codes "devicetree") refl f.sort_key)
      (none_if (codes "linux") (codes "devicetree") refl f.linux)
      (none_each (codes "initrd") (codes "devicetree") refl f.initrds)
      (none_each (codes "options") (codes "devicetree") refl f.options))
      ∙ sym is.no_devicetree

  overlay_is : last_value (codes "devicetree-overlay") (entry_pairs (entry_text f)) ≡ f.overlay
  overlay_is = last_is (codes "devicetree-overlay") None
      (gathered f (codes "devicetree-overlay") [] [] [] [] [] [] []
      (none_if (codes "title") (codes "devicetree-overlay") refl f.title)
      (none_if (codes "version") (codes "devicetree-overlay") refl f.version)
      (none_if (codes "machine-id") (codes "devicetree-overlay") refl f.machine_id)
      (none_if (codes "sort-key") (codes "devicetree-overlay") refl f.sort_key)
      (none_if (codes "linux") (codes "devicetree-overlay") refl f.linux)
      (none_each (codes "initrd") (codes "devicetree-overlay") refl f.initrds)
      (none_each (codes "options") (codes "devicetree-overlay") refl f.options))
      ∙ sym is.no_overlay

  architecture_is : last_value (codes "architecture") (entry_pairs (entry_text f)) ≡ f.architecture
  architecture_is = last_is (codes "architecture") None
      (gathered f (codes "architecture") [] [] [] [] [] [] []
      (none_if (codes "title") (codes "architecture") refl f.title)
      (none_if (codes "version") (codes "architecture") refl f.version)
      (none_if (codes "machine-id") (codes "architecture") refl f.machine_id)
      (none_if (codes "sort-key") (codes "architecture") refl f.sort_key)
      (none_if (codes "linux") (codes "architecture") refl f.linux)
      (none_each (codes "initrd") (codes "architecture") refl f.initrds)
      (none_each (codes "options") (codes "architecture") refl f.options))
      ∙ sym is.no_architecture

  initrds_are : values_of (codes "initrd") (entry_pairs (entry_text f)) ≡ f.initrds
  initrds_are = ap (values_of (codes "initrd")) (pairs_are f is)
      ∙ gathered f (codes "initrd") [] [] [] [] [] f.initrds []
      (none_if (codes "title") (codes "initrd") refl f.title) (none_if (codes "version") (codes "initrd") refl f.version)
      (none_if (codes "machine-id") (codes "initrd") refl f.machine_id) (none_if (codes "sort-key") (codes "initrd") refl f.sort_key)
      (none_if (codes "linux") (codes "initrd") refl f.linux) (same_each (codes "initrd") (codes "initrd") refl f.initrds) (none_each (codes "options") (codes "initrd") refl f.options)
      ∙ append-nil f.initrds

  options_are : values_of (codes "options") (entry_pairs (entry_text f)) ≡ f.options
  options_are = ap (values_of (codes "options")) (pairs_are f is)
      ∙ gathered f (codes "options") [] [] [] [] [] [] f.options
      (none_if (codes "title") (codes "options") refl f.title) (none_if (codes "version") (codes "options") refl f.version)
      (none_if (codes "machine-id") (codes "options") refl f.machine_id) (none_if (codes "sort-key") (codes "options") refl f.sort_key)
      (none_if (codes "linux") (codes "options") refl f.linux) (none_each (codes "initrd") (codes "options") refl f.initrds) (same_each (codes "options") (codes "options") refl f.options)

  same_fields : (t v m s l e : Option (List ℕ)) (i o : List (List ℕ)) (d y a : Option (List ℕ))
      → t ≡ f.title → v ≡ f.version → m ≡ f.machine_id → s ≡ f.sort_key → l ≡ f.linux → e ≡ f.efi → i ≡ f.initrds → o ≡ f.options → d ≡ f.devicetree → y ≡ f.overlay → a ≡ f.architecture
      → (let made : Type1 = record { title = t; version = v; machine_id = m; sort_key = s; linux = l; efi = e; initrds = i; options = o; devicetree = d; overlay = y; architecture = a } in made) ≡ f
  same_fields t v m s l e i o d y a t_is v_is m_is s_is l_is e_is i_is o_is d_is y_is a_is =
      rw (t_is, v_is, m_is, s_is, l_is, e_is, i_is, o_is, d_is, y_is, a_is) refl

  same : type1_of (entry_text f) ≡ f
  same = same_fields _ _ _ _ _ _ _ _ _ _ _ title_is version_is machine_is sort_is linux_is efi_is initrds_are options_are devicetree_is overlay_is architecture_is

  says_linux : boots (entry_text f) ≡ true
  says_linux =
      let there : is_some (last_value (codes "linux") (entry_pairs (entry_text f))) ≡ true = ap is_some (linux_is ∙ is.linux.1) in
      rw there refl

-- ---- its length

module _ (key : List ℕ) where
  field_long : (value : Option (List ℕ)) → IsFieldIf value → length (text_of_lines (line_if key value)) ≤ length key + 1026
  field_long None field = omega arith
  field_long (Some value) field = omega (
    arith,
    (field_parts value field).short,
    length-append (key_line key value ++ 10 ∷ []) [],
    length-append (key_line key value) (10 ∷ []),
    length-append key (32 ∷ value),
  )

  payloads_long : (values : List (List ℕ)) → All IsPayloadValue values → length (text_of_lines (map (key_line key) values)) ≤ length values * (length key + 78)
  payloads_long [] all = omega arith
  payloads_long (value ∷ values) all =
      let named = All-head IsPayloadValue value values all in
      let long : length value ≡ 76 = ap length named.1 ∙ payload_length named.0 named.2 in
      omega (
        arith,
        payloads_long values (All-tail IsPayloadValue value values all),
        long,
        length-append (key_line key value ++ 10 ∷ []) (text_of_lines (map (key_line key) values)),
        length-append (key_line key value) (10 ∷ []),
        length-append key (32 ∷ value),
      )

options_long : (values : List (List ℕ)) → All (λ text. is_field text ≡ true) values → length values ≤ 1 → length (text_of_lines (map (key_line (codes "options")) values)) ≤ 1033
options_long [] all one = omega arith
options_long (value ∷ []) all one = field_long (codes "options") (Some value) (All-head (λ text. is_field text ≡ true) value [] all)
options_long (value ∷ next ∷ values) all one = absurd (omega (arith, one))

long_both : (xs ys : List (List ℕ)) (m n : ℕ) → length (text_of_lines xs) ≤ m → length (text_of_lines ys) ≤ n → length (text_of_lines (xs ++ ys)) ≤ m + n
long_both xs ys m n one two =
    omega (arith, one, two, ap length (flat_map-append with_newline xs ys), length-append (text_of_lines xs) (text_of_lines ys))

short : (f : Type1) → AreEntryFields f → length (entry_text f) ≤ 65536
short f is =
    let initrds : length (text_of_lines (map (key_line (codes "initrd")) f.initrds)) ≤ 64 * 84 = omega (arith, payloads_long (codes "initrd") f.initrds is.initrds, is.few) in
    let whole =
    long_both (line_if (codes "title") f.title) _ 1031 _ (field_long (codes "title") f.title is.title)
    (long_both (line_if (codes "version") f.version) _ 1033 _ (field_long (codes "version") f.version is.version)
    (long_both (line_if (codes "machine-id") f.machine_id) _ 1036 _ (field_long (codes "machine-id") f.machine_id is.machine_id)
    (long_both (line_if (codes "sort-key") f.sort_key) _ 1034 _ (field_long (codes "sort-key") f.sort_key is.sort_key)
    (long_both (line_if (codes "linux") f.linux) _ 1031 _ (field_long (codes "linux") f.linux (linux_field f.linux is.linux))
    (long_both (map (key_line (codes "initrd")) f.initrds) (map (key_line (codes "options")) f.options) 5376 1033 initrds (options_long f.options is.options is.one)))))) in
    omega (arith, whole)

pub reads_back : (f : Type1) → AreEntryFields f → ReadsBack f
reads_back f is = record { same = same f is; boots = says_linux f is; short = short f is }
