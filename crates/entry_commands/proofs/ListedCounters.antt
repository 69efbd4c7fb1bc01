-- The numbers of the counters of a menu have at most nine digits.
use Rattle.std.proofs.Common.{◌≡◌, ℕ, ◌<◌, ◌≤◌, ◌^◌, Bool, true, false, ◌==◌, ◌&&◌, not, nat_le, cond, List, [], ◌∷◌, length, Option, Some, None, Result, Ok, Err, arith, leb-true, All, codes, IfSome, IfOk, is_some, option_and_then, option_map}
use Rattle.std.specs.Char.{is_ascii_digit, digit_value}
use Rattle.std.specs.FinMap as map
use Rattle.std.specs.List.{AllByRecursion, cons_option, filter_map, list_all}
use Rattle.std.specs.Str.Parse.{AllDigits, digits_value}
use Rattle.std.proofs.lemmas.Bool.{and_parts, cond_both}
use Rattle.std.proofs.lemmas.Bool.Decides.{nat_tests}
use Rattle.std.proofs.lemmas.List.Elements.{All-from_recursion}
use Rattle.std.proofs.lemmas.List.Sorted.{All-permutation}
use Rattle.std.proofs.lemmas.Str.Parse.{digits_value_short}
use Rattle.boot_base.specs.Limits.{file_limit}
use Rattle.boot_base.specs.Paths.{Path, file_name_of}
use Rattle.boot_machine.specs.Prelude.{Files}
use Rattle.boot_entries.specs.Entries.{boot_menu, entries_of, entry_at, entry_if, entry_in, entry_of, own_path, stands_in}
use Rattle.boot_entries.specs.Names.{named_by, parts_of_name}
use Rattle.boot_entries.specs.Records.{Unfit, is_os_length, titled_item, type2_item, uki_from, uki_of, unless_missing, value_if_ok}
use Rattle.boot_entries.specs.declared.fault.Missing.{Missing}
use Rattle.boot_entries.specs.declared.fault.Missing.TheVariants as missing
use Rattle.boot_entries.specs.declared.folders.Folders.{Folders}
use Rattle.menu_order.proofs.CounterWritten.{numerals}
use Rattle.menu_order.proofs.Menus.{menu_of-IsPermutation}
use Rattle.menu_order.specs.Counter.{is_number}
use Rattle.menu_order.specs.Menu.{menu_of}
use Rattle.menu_order.specs.Splits.{Cut, counter_from, counter_in, cut_first, cut_last, has_suffix, number_in, split_from, split_of, stem_of, two_numbers}
use Rattle.menu_order.specs.declared.counted.Counted.{Counted}
use Rattle.menu_order.specs.declared.counted.Suffix.{Suffix}
use Rattle.menu_order.specs.declared.counted.Suffix.TheVariants.{Conf, Efi}
use Rattle.menu_order.specs.declared.item.MenuItem.{MenuItem}
use Rattle.pe_reader.specs.Prelude.{Headers, pe_of, loaded_in}
use Rattle.pe_reader.specs.declared.fault.FailedCheck.{FailedCheck}
use Rattle.list_json.specs.Laws.{FitsReaders}

-- ---- the numbers of a name

abbrev AreShort : ℕ × ℕ → Type 0
AreShort numbers = (numbers.0 < 2 ^ 64) × (numbers.1 < 2 ^ 64)

abbrev IsShort : Counted → Type 0
IsShort counted = (counted.left < 2 ^ 64) × (counted.done < 2 ^ 64)

digit_is : (c : ℕ) → is_ascii_digit c ≡ true → digit_value c < 10
digit_is c e = grind (arith, nat_tests)

digits_are : (ds : List ℕ) → list_all is_ascii_digit ds ≡ true → AllDigits 10 ds
digits_are [] e = tt
digits_are (d ∷ ds) e = let both = and_parts (is_ascii_digit d) (list_all is_ascii_digit ds) e in (digit_is d both.0, digits_are ds both.1)

number_short : (text : List ℕ) → IfSome (number_in text) (λ n. n < 2 ^ 64)
number_short text = cond_both (is_number text) _ _ (λ o. IfSome o (λ n. n < 2 ^ 64))
    (λ is.
    let parts = and_parts (not (length text == 0) && nat_le (length text) 9) (list_all is_ascii_digit text) is in
    let short : length text ≤ 9 = leb-true (length text) 9 (and_parts (not (length text == 0)) (nat_le (length text) 9) parts.0).1 in
    let below : digits_value 10 text < 10 ^ 9 = digits_value_short numerals text 9 (digits_are text parts.1) short in
    omega arith)
    (λ other. tt)

left_alone : (left : Option ℕ) → IfSome left (λ n. n < 2 ^ 64) → IfSome (option_map (λ left. (left, 0)) left) AreShort
left_alone None short = tt
left_alone (Some left) short = (short, omega arith)

two_short : (left tried : Option ℕ) → IfSome left (λ n. n < 2 ^ 64) → IfSome tried (λ n. n < 2 ^ 64) → IfSome (two_numbers left tried) AreShort
two_short None tried l t = tt
two_short (Some left) None l t = tt
two_short (Some left) (Some tried) l t = (l, t)

cut_short : (text : List ℕ) (cut : Cut) → IfSome (counter_from text cut) AreShort
cut_short text None = left_alone (number_in text) (number_short text)
cut_short text (Some parts) = two_short (number_in parts.0) (number_in parts.1) (number_short parts.0) (number_short parts.1)

counted_short : (make : ℕ × ℕ → Counted) → ((numbers : ℕ × ℕ) → AreShort numbers → IsShort (make numbers))
    → (numbers : Option (ℕ × ℕ)) → IfSome numbers AreShort → IfSome (option_map make numbers) IsShort
counted_short make each None short = tt
counted_short make each (Some numbers) short = each numbers short

stem_short : (suffix : Suffix) (cut : Cut) → IfSome (split_from suffix cut) IsShort
stem_short suffix None = tt
stem_short suffix (Some parts) = cond_both (length parts.0 == 0) _ _ (λ o. IfSome o IsShort) (λ none. tt)
    (λ some. counted_short _ (λ numbers short. short) (counter_in parts.1) (cut_short parts.1 (cut_first 45 parts.1)))

name_short : (name : List ℕ) → IfSome (split_of name) IsShort
unfolding split_of
name_short name = cond_both (has_suffix Conf name) _ _ (λ o. IfSome o IsShort) (λ conf. stem_short Conf (cut_last 43 (stem_of Conf name)))
    (λ other. cond_both (has_suffix Efi name) _ _ (λ o. IfSome o IsShort) (λ efi. stem_short Efi (cut_last 43 (stem_of Efi name))) (λ none. tt))

named_fits : (suffix : Suffix) (name : List ℕ) (split : Option Counted) → IfSome split IsShort → IfSome (named_by suffix name split).counter FitsReaders
named_fits suffix name None short = tt
named_fits suffix name (Some counted) short = short

parts_fit : (suffix : Suffix) (name : List ℕ) → IfSome (parts_of_name suffix name).counter FitsReaders
unfolding parts_of_name
parts_fit suffix name = named_fits suffix name (split_of name) (name_short name)

-- ---- the counters of entries

abbrev CounterFits : MenuItem → Type 0
CounterFits item = IfSome item.counter FitsReaders

-- what is made only if something holds
if_fits : (holds : Bool) (item : Option MenuItem) → IfSome item CounterFits → IfSome (cond holds item None) CounterFits
if_fits true item fits = fits
if_fits false item fits = tt

unless_fits : (holds : Bool) (why : Missing) (item : Result MenuItem Unfit) → IfOk item CounterFits → IfOk (unless_missing holds why item) CounterFits
unless_fits true why item fits = fits
unless_fits false why item fits = tt

value_fits : (item : Result MenuItem Unfit) → IfOk item CounterFits → IfSome (value_if_ok item) CounterFits
value_fits (Ok item) fits = fits
value_fits (Err why) fits = tt

titled_fits : (path : Path) (pairs : _) → IfOk (titled_item path pairs) CounterFits
unfolding titled_item
titled_fits path pairs = unless_fits (is_some (type2_item path pairs).title) missing.Title (Ok (type2_item path pairs)) (parts_fit Efi (file_name_of path))

uki_fits : (path : Path) (bytes : List ℕ) (headers : Result Headers FailedCheck) → IfOk (uki_from path bytes headers) CounterFits
unfolding uki_from
uki_fits path bytes (Err check) = tt
uki_fits path bytes (Ok headers) =
    let linux = loaded_in bytes (codes ".linux") (Ok headers) in
    let osrel = loaded_in bytes (codes ".osrel") (Ok headers) in
    unless_fits (not (length linux == 0)) missing.Linux _ (unless_fits (is_os_length (length osrel)) missing.Osrel _ (titled_fits path _))

file_fits : (suffix : Suffix) (path : Path) (bytes : List ℕ) → IfSome (entry_of suffix path bytes) CounterFits
file_fits Conf path bytes = search (if_fits, parts_fit)
file_fits Efi path bytes = if_fits (nat_le (length bytes) file_limit) (value_if_ok (uki_of path bytes)) (value_fits (uki_of path bytes) (uki_fits path bytes (pe_of bytes)))

then_fits : {A : Type 0} (f : A → Option MenuItem) → ((x : A) → IfSome (f x) CounterFits) → (found : Option A) → IfSome (option_and_then f found) CounterFits
then_fits f each None = tt
then_fits f each (Some x) = each x

at_fits : (suffix : Suffix) (files : Files) (text : Path) → IfSome (entry_if suffix files text) CounterFits
at_fits suffix files text =
    then_fits (entry_at suffix files) (λ path. then_fits (entry_of suffix path) (file_fits suffix path) (map.get files path)) (own_path text)

in_fits : (files : Files) (folders : Folders) (path : Path) → IfSome (entry_in files folders path) CounterFits
in_fits files folders path = cond_both (stands_in folders Conf path) _ _ (λ o. IfSome o CounterFits) (λ conf. at_fits Conf files path)
    (λ other. if_fits (stands_in folders Efi path) (entry_if Efi files path) (at_fits Efi files path))

next_fits : (first : Option MenuItem) (later : List MenuItem) → IfSome first CounterFits → AllByRecursion CounterFits later → AllByRecursion CounterFits (cons_option first later)
next_fits None later fits all = all
next_fits (Some item) later fits all = (fits, all)

found_fit : {A : Type 0} (f : A → Option MenuItem) → ((x : A) → IfSome (f x) CounterFits) → (xs : List A) → AllByRecursion CounterFits (filter_map f xs)
found_fit f each [] = tt
found_fit f each (x ∷ xs) = next_fits (f x) (filter_map f xs) (each x) (found_fit f each xs)

entries_fit : (files : Files) (folders : Folders) → AllByRecursion CounterFits (entries_of files folders)
unfolding entries_of
entries_fit files folders = found_fit (entry_in files folders) (in_fits files folders) (map.keys files)

pub menu_fits : (files : Files) (folders : Folders) → All (λ item. IfSome item.counter FitsReaders) (boot_menu files folders)
menu_fits files folders =
    let items = entries_of files folders in
    All-permutation CounterFits items (menu_of items) (menu_of-IsPermutation items) (All-from_recursion CounterFits items (entries_fit files folders))
