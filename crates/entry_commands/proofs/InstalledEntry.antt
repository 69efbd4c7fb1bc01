-- What is installed is an image, and an entry where it comes to stand.
use Rattle.std.proofs.Common.{◌≡◌, ℕ, ◌≤◌, ◌<◌, ◌^◌, Bool, true, false, not, ◌&&◌, List, [], ◌∷◌, Option, Some, None, Result, Ok, Err, length, refl, sym, ap, ◌∙◌, subst, arith, lit<, IfSome, nat_le, nat_lt, ◌==◌, if◌then◌else◌}
use Rattle.std.specs.Char.{is_ascii_digit, digit_value}
use Rattle.std.specs.FinMap as map
use Rattle.std.specs.List.{list_all}
use Rattle.std.specs.Str.Parse.{AllDigits, digits_value}
use Rattle.std.proofs.Math.Nat.{pow-le-pow_right}
use Rattle.std.proofs.lemmas.Bool.{and_parts, le-leb, leb-true, ltb-false}
use Rattle.std.proofs.lemmas.Bool.Decides.{nat_tests}
use Rattle.std.proofs.lemmas.Int.Digits.{digits_value-lt}
use Rattle.boot_base.specs.Limits.{file_limit}
use Rattle.boot_base.specs.Paths.{Path, file_name_of}
use Rattle.boot_base.specs.declared.refusal.Refusal.TheVariants as refusals
use Rattle.menu_order.specs.Counter.{is_number}
use Rattle.menu_order.specs.Splits.{has_suffix, number_in}
use Rattle.menu_order.specs.declared.counted.Suffix.TheVariants.{Efi}
use Rattle.boot_entries.specs.Entries.{entry_of}
use Rattle.boot_entries.specs.Records.{Unfit, NotPe, NotUki, uki_of}
use Rattle.boot_machine.specs.Prelude.{Files}
use Rattle.command_plans.specs.Prelude.{bytes_at, if_given, readable_bytes, install_name, path_in, printed_path}
use Rattle.menu_order.specs.declared.item.MenuItem.{MenuItem}
use Rattle.entry_commands.specs.Installing.{entry_or, image_name, image_name_in, image_path, installation_of, installed_image}
use Rattle.entry_commands.specs.Counts.{count_in, count_or}
use Rattle.entry_commands.specs.declared.install.Installation.{Installation}
use Rattle.command_plans.proofs.InstallNames.{taken_is, taken_slash}
use Rattle.entry_commands.proofs.ImageNames.{image_file, target_suffix}
use Rattle.command_plans.proofs.Steps.{done_by, err_ok, none_some, ok_is}

-- ---- a number of tries

digit_is : (c : ℕ) → is_ascii_digit c ≡ true → digit_value c < 10
digit_is c e = grind (arith, nat_tests)

digits_are : (ds : List ℕ) → list_all is_ascii_digit ds ≡ true → AllDigits 10 ds
digits_are [] e = tt
digits_are (d ∷ ds) e =
    let both = and_parts (is_ascii_digit d) (list_all is_ascii_digit ds) e in
    (digit_is d both.0, digits_are ds both.1)

value_limit : (text : List ℕ) → is_number text ≡ true → digits_value 10 text ≤ 999999999
value_limit text e =
    let all = and_parts (not (length text == 0) && nat_le (length text) 9) (list_all is_ascii_digit text) e in
    let both = and_parts (not (length text == 0)) (nat_le (length text) 9) all.0 in
    let short : length text ≤ 9 = leb-true (length text) 9 both.1 in
    let below : digits_value 10 text < 10 ^ length text = digits_value-lt 10 text (digits_are text all.1) in
    let most : 10 ^ length text ≤ 10 ^ 9 = pow-le-pow_right (lit< tt) short in
    omega arith

read_limit : (is : Bool) (value n : ℕ) → (is ≡ true → value ≤ 999999999) → (if is then Some value else None) ≡ Some n
    → n ≤ 999999999
read_limit true value n limit is = subst (λ m. m ≤ 999999999) (one is) (limit refl)
  where
    one : {a b : ℕ} → Some a ≡ Some b → a ≡ b
    one is = cc
read_limit false value n limit is = absurd (none_some n is)

tries_read : (word : List ℕ) (read : Option ℕ) (tries : ℕ) → count_or word read ≡ Ok tries → read ≡ Some tries
tries_read word None tries is = absurd (err_ok (refusals.BadNumber word) tries is)
tries_read word (Some n) tries is = ap (λ (m : ℕ). Some m) (by (n == 0) is)
  where
    by : (none : Bool) → (if none then Err (refusals.BadNumber word) else Ok n) ≡ Ok tries → n ≡ tries
    by true is = absurd (err_ok (refusals.BadNumber word) tries is)
    by false is = ok_is n tries is

given_limit : (given : Option (List ℕ)) (tries : Option ℕ) → if_given count_in given ≡ Ok tries
    → IfSome tries (λ n. n ≤ 999999999)
given_limit None tries is = subst (λ (o : Option ℕ). IfSome o (λ n. n ≤ 999999999)) (ok_is None tries is) tt
given_limit (Some word) tries is =
    let step = done_by (count_in word) (λ n. Ok (Some n)) tries is in
    let read = tries_read word (number_in word) step.0 step.1 in
    subst (λ (o : Option ℕ). IfSome o (λ n. n ≤ 999999999)) (ok_is (Some step.0) tries step.2)
    (read_limit (is_number word) (digits_value 10 word) step.0 (value_limit word) read)

-- ---- what is installed

-- an image is installed under the suffix of images
pub target_of_type : (file name esp : List ℕ) (tries : Option (List ℕ)) (words : Installation)
    → installation_of file name tries esp ≡ Ok words
    → has_suffix Efi (file_name_of words.target) ≡ true
target_of_type file name esp tries words is =
    let named = done_by (image_name_in name tries) _ words is in
    let from = done_by (path_in file) _ words named.2 in
    let target = done_by (image_path esp named.0) _ words from.2 in
    let taken = done_by (install_name Efi name) _ named.0 named.1 in
    let given = done_by (if_given count_in tries) _ named.0 taken.2 in
    let whole = taken_is Efi name taken.0 taken.1 in
    let file_is : named.0 ≡ image_name name given.0 =
    sym (ok_is (image_name taken.0 given.0) named.0 given.2) ∙ ap (λ (n : List ℕ). image_name n given.0) (sym whole) in
    let no_slash = taken_slash Efi name taken.0 taken.1 in
    let image = image_file name named.0 given.0 no_slash (given_limit tries given.0 given.1) file_is in
    ap (λ (w : Installation). has_suffix Efi (file_name_of w.target)) (sym (ok_is _ words target.2))
    ∙ target_suffix esp named.0 target.0 image target.1

readable_is : (path : Path) (there : Option (List ℕ)) (bytes : List ℕ) → readable_bytes path there ≡ Ok bytes
    → length bytes ≤ 268435456
readable_is path None bytes is = absurd (err_ok (refusals.NotFound (printed_path path)) bytes is)
readable_is path (Some read) bytes is = by (nat_lt file_limit (length read)) refl is
  where
    by : (large : Bool) → nat_lt file_limit (length read) ≡ large
        → (if large then Err (refusals.TooLarge (printed_path path) (length read)) else Ok read) ≡ Ok bytes
        → length bytes ≤ 268435456
    by true test is = absurd (err_ok (refusals.TooLarge (printed_path path) (length read)) bytes is)
    by false test is =
        subst (λ (b : List ℕ). length b ≤ 268435456) (ok_is read bytes is) (ltb-false file_limit (length read) test)

shown_is : (read : Result MenuItem Unfit) (item : MenuItem) → entry_or read ≡ Ok item → read ≡ Ok item
shown_is (Ok read) item is = ap (λ (i : MenuItem). Ok i) (ok_is read item is)
shown_is (Err (NotPe check)) item is = absurd (err_ok _ item is)
shown_is (Err (NotUki missing)) item is = absurd (err_ok _ item is)

-- the bytes of an image that the menu would show are an entry
entry_from : (path : Path) (bytes : List ℕ) (item : MenuItem) → length bytes ≤ 268435456 → uki_of path bytes ≡ Ok item
    → entry_of Efi path bytes ≡ Some item
entry_from path bytes item small is = rw (le-leb (length bytes) 268435456 small, is) refl

-- the bytes that are installed are an entry where they come to stand
pub image_is : (view : Files) (words : Installation) (bytes : List ℕ) → installed_image view words ≡ Ok bytes
    → (item : MenuItem) × (entry_of Efi words.target bytes ≡ Some item)
image_is view words bytes is =
    let read = done_by (bytes_at view words.from) _ bytes is in
    let shown = done_by (entry_or (uki_of words.target read.0)) _ bytes read.2 in
    let small = readable_is words.from (map.get view words.from) read.0 read.1 in
    let valid = entry_from words.target read.0 shown.0 small (shown_is (uki_of words.target read.0) shown.0 shown.1) in
    (shown.0, subst (λ (b : List ℕ). entry_of Efi words.target b ≡ Some shown.0) (ok_is read.0 bytes shown.2) valid)
