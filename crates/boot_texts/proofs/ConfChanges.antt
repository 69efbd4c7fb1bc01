-- What a change of one key writes, and what it says afterwards.
use Rattle.std.proofs.Common.{◌≡◌, ◌≢◌, ◌≤◌, ◌-◌, ℕ, Bool, true, false, not, ◌||◌, eqb, List, [], ◌∷◌, ◌++◌, Some, None, Option, length, take, reverse, filter, subst, sym, ap, ◌∙◌, refl, cond, arith, append_assoc, append-nil, ltb, ◌⊎◌, inl, inr, bytes_eq, codes, nat_le}
use Rattle.std.specs.List.{cons_option, filter_map, last_or, list_all, prefix_len, suffix_len}
use Rattle.std.specs.Option.{is_some, option_or}
use Rattle.std.specs.Char.{is_ascii_digit, is_ascii_graphic}
use Rattle.std.proofs.lemmas.Bool.{and_from, and_parts, le-leb, leb-true, ne_eqb, not_from_false, or_cases, or_parts}
use Rattle.std.proofs.lemmas.List.{reverse-append, take_all}
use Rattle.std.proofs.lemmas.List.Elements.{filter-append}
use Rattle.std.proofs.lemmas.Grind.{flat_map-append}
use Rattle.std.proofs.lemmas.Slice.Eq.{bytes_eq-Decides}
use Rattle.boot_texts.specs.TextLines.{is_blank, is_counted, is_newline, lines_of, trim_blanks, without_end_blanks, without_front_blanks}
use Rattle.boot_texts.specs.KeyValues.{Pair, given_value, last_value, values_of}
use Rattle.boot_texts.proofs.LastValue.{last_value_push}
use Rattle.boot_texts.specs.Conf.{IsConfValue, conf_of, names_no_variable, is_seconds, is_timeout, conf_key_name, other_conf_key, conf_value, value_if}
use Rattle.boot_texts.specs.declared.conf_change.ConfKey.{ConfKey}
use Rattle.boot_texts.specs.declared.conf_change.ConfKey.TheVariants.{Default, Timeout}
use Rattle.boot_texts.specs.EntryLines.{EntryLine, is_not_gap, entry_value, entry_reading}
use Rattle.boot_texts.specs.FileLines.{with_newline, raw_lines, lacks_value, key_line, file_line_reading, text_with_value, text_of_lines}
use Rattle.boot_texts.proofs.FileLines.{all_of_filter, file_lines_are_lines, file_lines_of_written, is_line, readings_are}
use Rattle.boot_texts.proofs.EntryReading.{complete}
use Rattle.boot_texts.proofs.PatternSearch.{some_of_it}

-- ---- the lines that are written

-- a line that is kept
pub written_kept : (keep : List ℕ → Bool) (line old : List ℕ) → keep line ≡ true → (old ++ line) ++ 10 ∷ [] ≡ old ++ text_of_lines (filter keep (line ∷ []))
written_kept keep line old is = rw is (simp (append_assoc, append-nil))

-- one more line
pub written_more : (keep : List ℕ → Bool) (line : List ℕ) (lines : List (List ℕ))
    → text_of_lines (filter keep (line ∷ lines)) ≡ text_of_lines (filter keep (line ∷ [])) ++ text_of_lines (filter keep lines)
written_more keep line lines =
    ap text_of_lines (filter-append keep (line ∷ []) lines) ∙ flat_map-append with_newline (filter keep (line ∷ [])) (filter keep lines)

-- ---- what the text says

all_push : (test : List ℕ → Bool) (xs : List (List ℕ)) (x : List ℕ) → list_all test xs ≡ true → test x ≡ true → list_all test (xs ++ x ∷ []) ≡ true
all_push test [] x all is = and_from (test x) true is refl
all_push test (y ∷ xs) x all is =
    let parts = and_parts (test y) (list_all test xs) all in
    and_from (test y) (list_all test (xs ++ x ∷ [])) parts.0 (all_push test xs x parts.1 is)

-- a key and a value that can be written as a line and read again
pub record IsWritable (key value : List ℕ) : Type 0 where
  pub reads : file_line_reading (key ++ 32 ∷ value) ≡ Some (key, value)
  pub line : is_line (key ++ 32 ∷ value) ≡ true

-- the lines of the changed text
changed_lines : (key value text : List ℕ) → IsWritable key value → raw_lines (text_with_value key value text) ≡ filter (lacks_value key) (raw_lines text) ++ (key ++ 32 ∷ value) ∷ []
changed_lines key value text is =
    let kept = filter (lacks_value key) (raw_lines text) in
    file_lines_of_written (kept ++ (key ++ 32 ∷ value) ∷ [])
    (all_push is_line kept (key ++ 32 ∷ value) (all_of_filter is_line (lacks_value key) (raw_lines text) (file_lines_are_lines text)) is.line)

changed_pairs : (key value text : List ℕ) → IsWritable key value
    → filter_map entry_reading (lines_of (text_with_value key value text)) ≡ filter_map file_line_reading (filter (lacks_value key) (raw_lines text) ++ (key ++ 32 ∷ value) ∷ [])
changed_pairs key value text is = readings_are (text_with_value key value text) ∙ ap (filter_map file_line_reading) (changed_lines key value text is)

bytes_eq-same : (key : List ℕ) → bytes_eq key key ≡ true
bytes_eq-same key = (bytes_eq-Decides key key).1 refl

changed_value : (asked key value text : List ℕ) → IsWritable key value
    → entry_value asked (text_with_value key value text) ≡ option_or (given_value asked (Some (key, value))) (last_value asked (filter_map file_line_reading (filter (lacks_value key) (raw_lines text))))
changed_value asked key value text is =
    ap (last_value asked) (changed_pairs key value text is)
    ∙ last_value_push file_line_reading asked (filter (lacks_value key) (raw_lines text)) (key ++ 32 ∷ value)
    ∙ ap (λ (read : Option Pair). option_or (given_value asked read) (last_value asked (filter_map file_line_reading (filter (lacks_value key) (raw_lines text))))) is.reads

-- the key has the value
pub value_is_set : (key value text : List ℕ) → IsWritable key value → entry_value key (text_with_value key value text) ≡ Some value
value_is_set key value text is =
    let here : given_value key (Some (key, value)) ≡ Some value = rw (bytes_eq-same key) refl in
    changed_value key key value text is ∙ ap (λ (given : Option (List ℕ)). option_or given (last_value key (filter_map file_line_reading (filter (lacks_value key) (raw_lines text))))) here

values_more : (key : List ℕ) (read : Option Pair) (xs ys : List Pair) → values_of key xs ≡ values_of key ys → values_of key (cons_option read xs) ≡ values_of key (cons_option read ys)
values_more key None xs ys same = same
values_more key (Some pair) xs ys same = by_key (bytes_eq pair.0 key) refl
  where
    by_key : (b : Bool) → bytes_eq pair.0 key ≡ b → values_of key (pair ∷ xs) ≡ values_of key (pair ∷ ys)
    by_key true e = rw e (ap (λ (values : List (List ℕ)). pair.1 ∷ values) same)
    by_key false e = rw e same

-- a line that gives one key a value gives another none
values_dropped : (key other : List ℕ) → bytes_eq key other ≡ false → (line : List ℕ) (read : Option Pair) → file_line_reading line ≡ read → (xs ys : List Pair) → is_some (given_value key read) ≡ true
    → values_of other xs ≡ values_of other ys → values_of other xs ≡ values_of other (cons_option read ys)
values_dropped key other differs line None is xs ys given same = cc
values_dropped key other differs line (Some pair) is xs ys given same = by_key (bytes_eq pair.0 key) refl
  where
    by_key : (b : Bool) → bytes_eq pair.0 key ≡ b → values_of other xs ≡ values_of other (pair ∷ ys)
    by_key true e =
        let another : bytes_eq pair.0 other ≡ false = ap (λ (k : List ℕ). bytes_eq k other) ((bytes_eq-Decides pair.0 key).0 e) ∙ differs in
        rw another same
    by_key false e = let none : false ≡ true = rw e at given in cc

others_stay : (key other : List ℕ) → bytes_eq key other ≡ false → (lines : List (List ℕ))
    → values_of other (filter_map file_line_reading (filter (lacks_value key) lines)) ≡ values_of other (filter_map file_line_reading lines)
others_stay key other differs [] = refl
others_stay key other differs (line ∷ lines) = by_test (others_stay key other differs lines) (is_some (given_value key (file_line_reading line))) refl
  where
    by_test : values_of other (filter_map file_line_reading (filter (lacks_value key) lines)) ≡ values_of other (filter_map file_line_reading lines)
        → (b : Bool) → is_some (given_value key (file_line_reading line)) ≡ b
        → values_of other (filter_map file_line_reading (cond (not (is_some (given_value key (file_line_reading line)))) (line ∷ filter (lacks_value key) lines) (filter (lacks_value key) lines)))
        ≡ values_of other (filter_map file_line_reading (line ∷ lines))
    by_test behind true e = rw e (values_dropped key other differs line (file_line_reading line) refl (filter_map file_line_reading (filter (lacks_value key) lines)) (filter_map file_line_reading lines) e behind)
    by_test behind false e = rw e (values_more other (file_line_reading line) (filter_map file_line_reading (filter (lacks_value key) lines)) (filter_map file_line_reading lines) behind)

-- another key keeps its value
pub other_stays : (key other value text : List ℕ) → bytes_eq key other ≡ false → IsWritable key value → entry_value other (text_with_value key value text) ≡ entry_value other text
other_stays key other value text differs is =
    let none : given_value other (Some (key, value)) ≡ None = rw differs refl in
    let kept = filter (lacks_value key) (raw_lines text) in
    changed_value other key value text is
    ∙ ap (λ (given : Option (List ℕ)). option_or given (last_value other (filter_map file_line_reading kept))) none
    ∙ ap (last_or None) (others_stay key other differs (raw_lines text))
    ∙ ap (last_value other) (sym (readings_are text))

-- ---- values that can be written

graphic_not_blank : (b : ℕ) → is_ascii_graphic b ≡ true → is_blank b ≡ false
graphic_not_blank b is =
    let above : 33 ≤ b = leb-true 33 b (and_parts (nat_le 33 b) (nat_le b 126) is).0 in
    let space = ne_eqb b 32 (λ e. absurd (omega (arith, e, above))) in
    let tab = ne_eqb b 9 (λ e. absurd (omega (arith, e, above))) in
    let back = ne_eqb b 13 (λ e. absurd (omega (arith, e, above))) in
    rw (space, tab, back) refl

graphic_not_newline : (b : ℕ) → is_ascii_graphic b ≡ true → not (is_newline b) ≡ true
graphic_not_newline b is =
    let above : 33 ≤ b = leb-true 33 b (and_parts (nat_le 33 b) (nat_le b 126) is).0 in
    not_from_false (is_newline b) (ne_eqb b 10 (λ e. absurd (omega (arith, e, above))))

graphic_line : (value : List ℕ) → list_all is_ascii_graphic value ≡ true → is_line value ≡ true
graphic_line [] all = refl
graphic_line (b ∷ value) all =
    let parts = and_parts (is_ascii_graphic b) (list_all is_ascii_graphic value) all in
    and_from (not (is_newline b)) (is_line value) (graphic_not_newline b parts.0) (graphic_line value parts.1)

last_of : (x : ℕ) (xs : List ℕ) → list_all is_ascii_graphic (x ∷ xs) ≡ true → (front : List ℕ) × (last : ℕ) × (x ∷ xs ≡ front ++ last ∷ []) × (is_ascii_graphic last ≡ true)
last_of x [] all = ([], x, refl, (and_parts (is_ascii_graphic x) true all).0)
last_of x (y ∷ ys) all =
    let found = last_of y ys (and_parts (is_ascii_graphic x) (list_all is_ascii_graphic (y ∷ ys)) all).1 in
    (x ∷ found.0, found.1, ap (λ (rest : List ℕ). x ∷ rest) found.2, found.3)

pub trimmed_same : (first : ℕ) (xs : List ℕ) (last : ℕ) → is_blank first ≡ false → is_blank last ≡ false → trim_blanks (first ∷ (xs ++ last ∷ [])) ≡ first ∷ (xs ++ last ∷ [])
trimmed_same first xs last begins ends =
    let line = first ∷ (xs ++ last ∷ []) in
    let front : without_front_blanks line ≡ line = rw begins refl in
    let back : reverse line ≡ last ∷ reverse (first ∷ xs) = reverse-append (first ∷ xs) (last ∷ []) in
    let none : suffix_len is_blank line ≡ 0 = ap (prefix_len is_blank) back ∙ rw ends refl in
    let whole : length line - suffix_len is_blank line ≡ length line = omega (arith, none) in
    ap without_end_blanks front ∙ ap (λ (n : ℕ). take n line) whole ∙ take_all (length line) line (omega arith)

reads_line : (first : ℕ) (rest value : List ℕ) → is_blank first ≡ false → eqb first 35 ≡ false → list_all is_not_gap (first ∷ rest) ≡ true → value ≢ [] → list_all is_ascii_graphic value ≡ true
    → file_line_reading ((first ∷ rest) ++ 32 ∷ value) ≡ Some (first ∷ rest, value)
reads_line first rest [] begins comment key there all = absurd (there refl)
reads_line first rest (x ∷ xs) begins comment key there all =
    let found = last_of x xs all in
    let line = first ∷ ((rest ++ 32 ∷ found.0) ++ found.1 ∷ []) in
    let is : (first ∷ rest) ++ 32 ∷ (x ∷ xs) ≡ line = ap (λ (v : List ℕ). first ∷ (rest ++ 32 ∷ v)) found.2 ∙ ap (λ (t : List ℕ). first ∷ t) (sym (append_assoc rest (32 ∷ found.0) (found.1 ∷ []))) in
    let trims : trim_blanks ((first ∷ rest) ++ 32 ∷ (x ∷ xs)) ≡ (first ∷ rest) ++ 32 ∷ (x ∷ xs) =
    ap trim_blanks is ∙ trimmed_same first (rest ++ 32 ∷ found.0) found.1 begins (graphic_not_blank found.1 found.3) ∙ sym is in
    let pair : Pair = (first ∷ rest, x ∷ xs) in
    let not_gap : is_not_gap x ≡ true = let blank = or_parts (eqb x 32 || eqb x 9) (eqb x 13) (graphic_not_blank x (and_parts (is_ascii_graphic x) (list_all is_ascii_graphic xs) all).0) in not_from_false (eqb x 32 || eqb x 9) blank.0 in
    let given : EntryLine ((first ∷ rest) ++ 32 ∷ (x ∷ xs)) (first ∷ rest) (x ∷ xs) = record {
      gap = 32 ∷ [];
      parts = refl;
      key_is_there = λ e. cc;
      key_has_no_gap = key;
      gap_is_there = λ e. cc;
      gap_is_blank = refl;
      value_begins = not_gap;
    } in
    let reads : entry_reading ((first ∷ rest) ++ 32 ∷ (x ∷ xs)) ≡ Some pair = complete ((first ∷ rest) ++ 32 ∷ (x ∷ xs)) pair given in
    ap (λ (t : List ℕ). cond (is_counted t) (entry_reading t) None) trims ∙ rw comment reads

writable : (key : ConfKey) (value : List ℕ) → value ≢ [] → list_all is_ascii_graphic value ≡ true → IsWritable (conf_key_name key) value
writable Default value there all = record {
  reads = reads_line 100 (codes "efault") value refl refl refl there all;
  line = graphic_line value all;
}
writable Timeout value there all = record {
  reads = reads_line 116 (codes "imeout") value refl refl refl there all;
  line = graphic_line value all;
}

digits_graphic : (value : List ℕ) → list_all is_ascii_digit value ≡ true → list_all is_ascii_graphic value ≡ true
digits_graphic [] all = refl
digits_graphic (b ∷ value) all =
    let parts = and_parts (is_ascii_digit b) (list_all is_ascii_digit value) all in
    let digit = and_parts (nat_le 48 b) (nat_le b 57) parts.0 in
    let low : 48 ≤ b = leb-true 48 b digit.0 in
    let high : b ≤ 57 = leb-true b 57 digit.1 in
    and_from (is_ascii_graphic b) (list_all is_ascii_graphic value)
    (and_from (nat_le 33 b) (nat_le b 126) (le-leb 33 b (omega (arith, low))) (le-leb b 126 (omega (arith, high))))
    (digits_graphic value parts.1)

number_graphic : (value : List ℕ) → is_seconds value ≡ true → (value ≢ []) × (list_all is_ascii_graphic value ≡ true)
number_graphic value is = by_test (eqb (length value) 0 || ltb 9 (length value)) refl
  where
    by_test : (b : Bool) → (eqb (length value) 0 || ltb 9 (length value)) ≡ b → (value ≢ []) × (list_all is_ascii_graphic value ≡ true)
    by_test true e = let no : false ≡ true = rw e at is in cc
    by_test false e = (some_of_it value (or_parts (eqb (length value) 0) (ltb 9 (length value)) e).0, digits_graphic value (rw e at is))

timeout_graphic : (value : List ℕ) → is_timeout value ≡ true → (value ≢ []) × (list_all is_ascii_graphic value ≡ true)
timeout_graphic value is = by_word (or_cases (is_seconds value || bytes_eq value (codes "menu-force")) (bytes_eq value (codes "menu-hidden")) is)
  where
    word : (w : List ℕ) → bytes_eq value w ≡ true → (w ≢ []) × (list_all is_ascii_graphic w ≡ true) → (value ≢ []) × (list_all is_ascii_graphic value ≡ true)
    word w e fits = subst (λ (v : List ℕ). (v ≢ []) × (list_all is_ascii_graphic v ≡ true)) (sym ((bytes_eq-Decides value w).0 e)) fits

    by_number : (is_seconds value ≡ true) ⊎ (bytes_eq value (codes "menu-force") ≡ true) → (value ≢ []) × (list_all is_ascii_graphic value ≡ true)
    by_number (inl e) = number_graphic value e
    by_number (inr e) = word (codes "menu-force") e (λ e. cc, refl)

    by_word : ((is_seconds value || bytes_eq value (codes "menu-force")) ≡ true) ⊎ (bytes_eq value (codes "menu-hidden") ≡ true) → (value ≢ []) × (list_all is_ascii_graphic value ≡ true)
    by_word (inl e) = by_number (or_cases (is_seconds value) (bytes_eq value (codes "menu-force")) e)
    by_word (inr e) = word (codes "menu-hidden") e (λ e. cc, refl)

value_graphic : (key : ConfKey) (value : List ℕ) → IsConfValue key value → (value ≢ []) × (list_all is_ascii_graphic value ≡ true)
value_graphic Default [] is = absurd (omega (arith, is.there))
value_graphic Default (b ∷ value) is = (λ e. cc, is.graphic)
value_graphic Timeout value is = timeout_graphic value is

-- ---- what the settings say after the change

pub conf_lines : (key : ConfKey) (value text : List ℕ) → IsConfValue key value
    → raw_lines (text_with_value (conf_key_name key) value text) ≡ filter (lacks_value (conf_key_name key)) (raw_lines text) ++ key_line (conf_key_name key) value ∷ []
conf_lines key value text is =
    let fits = value_graphic key value is in
    changed_lines (conf_key_name key) value text (writable key value fits.0 fits.1)

pub conf_set : (key : ConfKey) (value text : List ℕ) → IsConfValue key value → conf_value key (conf_of (text_with_value (conf_key_name key) value text)) ≡ Some value
conf_set Default value text is =
    let fits = value_graphic Default value is in
    ap (value_if names_no_variable) (value_is_set (codes "default") value text (writable Default value fits.0 fits.1)) ∙ rw is.no_variable refl
conf_set Timeout value text is =
    let fits = value_graphic Timeout value is in
    ap (value_if is_timeout) (value_is_set (codes "timeout") value text (writable Timeout value fits.0 fits.1)) ∙ rw is refl

pub conf_other : (key : ConfKey) (value text : List ℕ) → IsConfValue key value
    → conf_value (other_conf_key key) (conf_of (text_with_value (conf_key_name key) value text)) ≡ conf_value (other_conf_key key) (conf_of text)
conf_other Default value text is =
    let fits = value_graphic Default value is in
    ap (value_if is_timeout) (other_stays (codes "default") (codes "timeout") value text refl (writable Default value fits.0 fits.1))
conf_other Timeout value text is =
    let fits = value_graphic Timeout value is in
    ap (value_if names_no_variable) (other_stays (codes "timeout") (codes "default") value text refl (writable Timeout value fits.0 fits.1))
