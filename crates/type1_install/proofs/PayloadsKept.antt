-- What changes of the boot files keep the payloads of entries.
use Rattle.std.proofs.Common.{◌≡◌, ◌≢◌, ◌&&◌, inl, inr, ℕ, Bool, true, false, eqb, List, [], ◌∷◌, ◌++◌, Some, None, length, refl, sym, ap, ◌∙◌, arith, Contains, if◌then◌else◌, nat_le, option_to_list}
use Rattle.std.specs.FinMap as map
use Rattle.std.specs.List.{list_all, list_any}
use Rattle.std.proofs.lemmas.Bool.{and_parts, leb-true, ne_eqb, or_cases}
use Rattle.boot_base.specs.Paths.{Path, file_name_of, is_file_name, is_slash, path_of, under}
use Rattle.menu_order.specs.Counter.{suffix_text}
use Rattle.menu_order.specs.Splits.{has_suffix, stem_of}
use Rattle.menu_order.proofs.Splitting.{suffix_cut}
use Rattle.menu_order.specs.declared.counted.Suffix.{Suffix}
use Rattle.menu_order.specs.declared.counted.Suffix.TheVariants.{Conf, Efi}
use Rattle.boot_entries.proofs.Places.{file_name_under, name_parts}
use Rattle.boot_machine.specs.Prelude.{Files, has}
use Rattle.boot_machine.specs.proofs.Maps.{cases_same, get-insert_apart, get-insert_here}
use Rattle.boot_texts.specs.BootEntries.{type1_of}
use Rattle.boot_texts.specs.EntryText.{is_hex_lower, is_payload_name}
use Rattle.type1_install.specs.Payloads.{HasPayload, folders_at, path_of_value, payload_folder, payload_name, payload_path}
use Rattle.type1_install.proofs.PayloadNames.{payload_name_fits}

-- ---- names

hex_not : (byte : ℕ) → is_hex_lower byte ≡ true → (byte ≡ 46 → ⊥) × (byte ≡ 47 → ⊥)
hex_not byte is = elim (or_cases (nat_le 48 byte && nat_le byte 57) (nat_le 97 byte && nat_le byte 102) is) [
  | inl digit ↦ let low = leb-true 48 byte (and_parts (nat_le 48 byte) (nat_le byte 57) digit).0 in ((λ e. omega (arith, low, e)), (λ e. omega (arith, low, e)))
  | inr letter ↦ let low = leb-true 97 byte (and_parts (nat_le 97 byte) (nat_le byte 102) letter).0 in ((λ e. omega (arith, low, e)), (λ e. omega (arith, low, e)))
]

hex_slash : (name : List ℕ) → list_all is_hex_lower name ≡ true → list_any is_slash name ≡ false
hex_slash [] all = refl
hex_slash (byte ∷ name) all =
    let parts = and_parts (is_hex_lower byte) (list_all is_hex_lower name) all in
    let other = ne_eqb byte 47 (hex_not byte parts.0).1 in
    rw other (hex_slash name parts.1)

pub payload_slash : (name : List ℕ) → is_payload_name name ≡ true → list_any is_slash name ≡ false
payload_slash name is = hex_slash name (and_parts (eqb (length name) 64) (list_all is_hex_lower name) is).1

hex_behind : (a b : List ℕ) → list_all is_hex_lower (a ++ b) ≡ true → list_all is_hex_lower b ≡ true
hex_behind [] b all = all
hex_behind (x ∷ a) b all = hex_behind a b (and_parts (is_hex_lower x) (list_all is_hex_lower (a ++ b)) all).1

no_suffix : (suffix : Suffix) → list_all is_hex_lower (suffix_text suffix) ≡ false
no_suffix Conf = refl
no_suffix Efi = refl

true_false : (b : Bool) → b ≡ true → b ≡ false → ⊥
true_false true is isnt = cc
true_false false is isnt = cc

-- the name of a payload has no suffix of an entry
pub payload_unlike : (suffix : Suffix) (name : List ℕ) → is_payload_name name ≡ true → has_suffix suffix name ≡ true → ⊥
payload_unlike suffix name is has =
    let digits = (and_parts (eqb (length name) 64) (list_all is_hex_lower name) is).1 in
    let whole = ap (list_all is_hex_lower) (sym (suffix_cut suffix name has)) ∙ digits in
    true_false (list_all is_hex_lower (suffix_text suffix)) (hex_behind (stem_of suffix name) (suffix_text suffix) whole) (no_suffix suffix)

-- ---- where files stand

-- it isn't the path of a payload
abbrev pub NotPayload : Path → Path → Type 0
NotPayload esp path = (name : List ℕ) → is_payload_name name ≡ true → path ≢ under (payload_folder esp) name

-- it is that of an entry's file of type 1
pub record IsConfFile (esp path : Path) : Type 0 where
  pub name : List ℕ
  pub is_name : is_file_name name ≡ true
  pub of_type : has_suffix Conf name ≡ true
  pub at : path ≡ under (folders_at esp).entries name
  pub is_path : path_of path ≡ Some path

-- a file with the suffix of an entry is no payload
pub suffix_not_payload : (esp path : Path) (suffix : Suffix) → has_suffix suffix (file_name_of path) ≡ true → NotPayload esp path
suffix_not_payload esp path suffix has name is same =
    payload_unlike suffix name is
    (ap (has_suffix suffix) (sym (ap file_name_of same ∙ file_name_under (payload_folder esp) name (payload_slash name is))) ∙ has)

pub conf_name : (esp path : Path) → (conf : IsConfFile esp path) → file_name_of path ≡ conf.name
conf_name esp path conf = ap file_name_of conf.at ∙ file_name_under (folders_at esp).entries conf.name (name_parts conf.name conf.is_name).1

-- no payload of any ESP is an entry's file
pub payload_not_conf : (esp other : Path) (bytes : List ℕ) → IsConfFile esp (payload_path other bytes) → ⊥
payload_not_conf esp other bytes conf =
    let fits = payload_name_fits bytes in
    let last = file_name_under (payload_folder other) (payload_name bytes) (payload_slash (payload_name bytes) fits) in
    payload_unlike Conf (payload_name bytes) fits (ap (has_suffix Conf) (sym last ∙ conf_name esp (payload_path other bytes) conf) ∙ conf.of_type)

-- a payload that is there stays there when one is put
pub payload_stays : (esp other : Path) (view : Files) (bytes name : List ℕ) → is_payload_name name ≡ true → HasPayload esp name view
    → HasPayload esp name (map.insert view (payload_path other bytes) bytes)
payload_stays esp other view bytes name is payload =
    let at = payload_path other bytes in
    let next = map.insert view at bytes in
    let last : file_name_of at ≡ payload_name bytes = file_name_under (payload_folder other) (payload_name bytes) (payload_slash (payload_name bytes) (payload_name_fits bytes)) in
    elim (cases_same (under (payload_folder esp) name) at) [
      | inl one ↦ record {
        bytes = bytes;
        there = ap (map.get next) one ∙ get-insert_here view at bytes;
        is = sym last ∙ ap file_name_of (sym one) ∙ file_name_under (payload_folder esp) name (payload_slash name is);
      }
      | inr two ↦ record {
        bytes = payload.bytes;
        there = get-insert_apart view at bytes (under (payload_folder esp) name) two ∙ payload.there;
        is = payload.is;
      }
    ]

-- ---- what an entry says

-- the payloads that a text names are there
abbrev pub NamedOk : Path → Files → List ℕ → Type 0
NamedOk esp view text =
    (value : List ℕ) → Contains (option_to_list (type1_of text).linux ++ (type1_of text).initrds) value
    → (name : List ℕ) → is_payload_name name ≡ true
    → path_of_value esp value ≡ Some (under (payload_folder esp) name) → HasPayload esp name view

pub some_if : {A : Type 0} (b : Bool) (x y : A) → (if b then Some x else None) ≡ Some y → (b ≡ true) × (x ≡ y)
some_if true x y is = (refl, cc)
some_if false x y is = cc
