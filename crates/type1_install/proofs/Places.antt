-- Payloads have paths where the longest of them has one.
use Rattle.std.proofs.Common.{◌≡◌, ◌≢◌, ◌≤◌, ◌<◌, ◌+◌, ℕ, zero, suc, true, false, not, ◌&&◌, ◌||◌, inl, inr, List, [], ◌∷◌, ◌++◌, Option, Some, None, Ok, eqb, length, refl, sym, ap, ◌∙◌, arith, append_assoc, length-append, bytes_eq, codes, nat_le, nat_lt, replicate}
use Rattle.std.specs.List.{list_all, list_any}
use Rattle.std.proofs.lemmas.Bool.{and_from, and_parts, eqb-true, le-leb, le-ltb, leb-true, ne_eqb, not-true, or_cases, or_from, or_parts}
use Rattle.boot_base.specs.Layout.{payloads_below}
use Rattle.boot_base.specs.Paths.{IsFree, Path, components, intent, is_component, is_file_name, is_form, is_kept, is_normal, is_slash, is_temp, normal_of, path_below, path_of, under}
use Rattle.boot_base.proofs.Beside.{MayEnd, end_free, end_shown, kept_from_long, path_of_child, unlike_short}
use Rattle.boot_base.proofs.Normal.{normal-short}
use Rattle.boot_texts.specs.EntryText.{is_hex_lower, is_payload_name}
use Rattle.command_plans.specs.Prelude.{path_under}
use Rattle.command_plans.proofs.ReadPaths.{read_if, read_normal, read_of}
use Rattle.type1_install.specs.Installing.{payload_probe}
use Rattle.type1_install.specs.Payloads.{payload_folder}
use Rattle.type1_install.proofs.Installing.{child_normal, under_is, under_normal}
use Rattle.type1_install.proofs.PayloadsKept.{payload_slash}
use Rattle.type1_install.proofs.Planned.{normal_is}

-- a path isn't empty
pub normal_some : (path : Path) → is_normal path ≡ true → 0 < length path
unfolding is_normal
normal_some path is =
    let form = (and_parts _ (is_form path) (and_parts _ _ is).0).1 in
    let some = or_parts (eqb (length path) 0 || nat_lt 1024 (length path)) (is_temp path) (not-true _ form) in
    by (length path) (or_parts (eqb (length path) 0) (nat_lt 1024 (length path)) some.0).0
  where
    by : (n : ℕ) → eqb n 0 ≡ false → 0 < n
    by zero is = cc
    by (suc n) is = omega arith

-- ---- the last byte of a payload's name

hex_apart : (byte : ℕ) → is_hex_lower byte ≡ true → (byte ≢ 0) × (byte ≢ 112) × (byte ≢ 116)
hex_apart byte is = elim (or_cases (nat_le 48 byte && nat_le byte 57) (nat_le 97 byte && nat_le byte 102) is) [
  | inl digit ↦
      let parts = and_parts (nat_le 48 byte) (nat_le byte 57) digit in
      let low = leb-true 48 byte parts.0 in
      let high = leb-true byte 57 parts.1 in
      ((λ e. omega (arith, low, e)), (λ e. omega (arith, high, e)), (λ e. omega (arith, high, e)))
  | inr letter ↦
      let parts = and_parts (nat_le 97 byte) (nat_le byte 102) letter in
      let low = leb-true 97 byte parts.0 in
      let high = leb-true byte 102 parts.1 in
      ((λ e. omega (arith, low, e)), (λ e. omega (arith, high, e)), (λ e. omega (arith, high, e)))
]

last_digit : (byte : ℕ) (name : List ℕ) → list_all is_hex_lower (byte ∷ name) ≡ true
    → (front : List ℕ) × (last : ℕ) × (byte ∷ name ≡ front ++ last ∷ []) × (is_hex_lower last ≡ true)
last_digit byte [] all = ([], byte, refl, (and_parts (is_hex_lower byte) true all).0)
last_digit byte (next ∷ name) all =
    let found = last_digit next name (and_parts (is_hex_lower byte) (list_all is_hex_lower (next ∷ name)) all).1 in
    (byte ∷ found.0, found.1, ap (λ (l : List ℕ). byte ∷ l) found.2, found.3)

record EndsInDigit (name : List ℕ) : Type 0 where
  front : List ℕ
  last : ℕ
  whole : name ≡ front ++ last ∷ []
  digit : is_hex_lower last ≡ true

ends_in_digit : (name : List ℕ) → 0 < length name → list_all is_hex_lower name ≡ true → EndsInDigit name
ends_in_digit [] some all = absurd (omega (arith, some))
ends_in_digit (byte ∷ name) some all =
    let found = last_digit byte name all in record { front = found.0; last = found.1; whole = found.2; digit = found.3 }

no_nul : (name : List ℕ) → list_all is_hex_lower name ≡ true → list_any (λ b. eqb b 0) name ≡ false
no_nul [] all = refl
no_nul (byte ∷ name) all =
    let parts = and_parts (is_hex_lower byte) (list_all is_hex_lower name) all in
    or_from (eqb byte 0) (list_any (λ b. eqb b 0) name) (ne_eqb byte 0 (hex_apart byte parts.0).0) (no_nul name parts.1)

module _ (folder name : List ℕ) (fits : is_payload_name name ≡ true) where
  pub long : length name ≡ 64
  long = eqb-true (length name) 64 (and_parts (eqb (length name) 64) (list_all is_hex_lower name) fits).0

  digits : list_all is_hex_lower name ≡ true
  digits = (and_parts (eqb (length name) 64) (list_all is_hex_lower name) fits).1

  end : EndsInDigit name
  end = ends_in_digit name (omega (arith, long)) digits

  parts_are : under folder name ≡ (folder ++ 47 ∷ end.front) ++ end.last ∷ []
  parts_are = ap (under folder) end.whole ∙ sym (append_assoc folder (47 ∷ end.front) (end.last ∷ []))

  pub payload_shown : is_temp (under folder name) ≡ false
  payload_shown = ap is_temp parts_are ∙ end_shown (folder ++ 47 ∷ end.front) end.last (hex_apart end.last end.digit).1 (hex_apart end.last end.digit).2

  payload_free : IsFree (under folder name)
  payload_free = ap (λ (p : Path). bytes_eq p intent) parts_are ∙ end_free (folder ++ 47 ∷ end.front) end.last (hex_apart end.last end.digit).1 (hex_apart end.last end.digit).2

  pub may_end : MayEnd name
  may_end = record {
    kept = kept_from_long name (omega (arith, long));
    one = payload_slash name fits;
    allowed = or_from (bytes_eq name (46 ∷ 46 ∷ [])) (nat_lt 251 (length name)) (unlike_short name (46 ∷ 46 ∷ []) (omega (arith, long))) (le-ltb 251 (length name) (omega (arith, long)));
    no_nul = no_nul name digits;
  }

  -- it has a path in a folder that leaves room
  pub payload_below : is_normal folder ≡ true → length folder + 65 ≤ 1024 → path_below folder name ≡ Some (under folder name)
  payload_below normal room =
      path_of_child folder name may_end normal (normal_some folder normal) (omega (arith, room, long, length-append folder (47 ∷ name))) payload_shown payload_free

-- it is the name of a file
pub payload_file : (name : List ℕ) → is_payload_name name ≡ true → is_file_name name ≡ true
unfolding is_file_name
payload_file name fits =
    let may = may_end [] name fits in
    let count = long [] name fits in
    let component = and_from (is_kept name) (not (list_any is_slash name)) may.kept (ap not may.one) in
    let two = and_from (is_component name) (not (bytes_eq name (46 ∷ 46 ∷ []))) component (ap not (unlike_short name (46 ∷ 46 ∷ []) (omega (arith, count)))) in
    let three = and_from (is_component name && not (bytes_eq name (46 ∷ 46 ∷ []))) (not (list_any (λ b. eqb b 0) name)) two (ap not may.no_nul) in
    and_from (is_component name && not (bytes_eq name (46 ∷ 46 ∷ [])) && not (list_any (λ b. eqb b 0) name)) (nat_le (length name) 255) three (le-leb (length name) 255 (omega (arith, count)))

-- ---- the folder

tools_end : MayEnd (payloads_below)
tools_end = record { kept = refl; one = refl; allowed = refl; no_nul = refl }

module _ (esp : Path) (normal : is_normal esp ≡ true) where
  tools_are : payload_folder esp ≡ (esp ++ 47 ∷ codes "boot_tool") ++ 115 ∷ []
  tools_are = sym (append_assoc esp (47 ∷ codes "boot_tool") (115 ∷ []))

  -- the folder has a path, if it leaves room
  pub folder_below : length (payload_folder esp) + 65 ≤ 1024 → path_below esp (payloads_below) ≡ Some (payload_folder esp)
  folder_below room =
      path_of_child esp (payloads_below) tools_end normal (normal_some esp normal) (omega (arith, room))
      (ap is_temp tools_are ∙ end_shown (esp ++ 47 ∷ codes "boot_tool") 115 (λ e. omega (arith, e)) (λ e. omega (arith, e)))
      (ap (λ (p : Path). bytes_eq p intent) tools_are ∙ end_free (esp ++ 47 ∷ codes "boot_tool") 115 (λ e. omega (arith, e)) (λ e. omega (arith, e)))

  module _ (probe : Path) (is : path_under esp payload_probe ≡ Ok probe) where
    -- the longest path of a payload
    pub probe_is : probe ≡ under (payload_folder esp) (replicate 64 48)
    probe_is =
        let folder = under_normal esp (payloads_below) (normal_is esp normal) refl refl in
        let parts : under esp payload_probe ≡ under (payload_folder esp) (replicate 64 48) = sym (append_assoc esp (47 ∷ payloads_below) (47 ∷ replicate 64 48)) in
        sym (under_is esp payload_probe probe is) ∙ ap normal_of parts ∙ child_normal (payload_folder esp) (replicate 64 48) folder refl refl

    -- it leaves room for each
    pub probe_room : length (payload_folder esp) + 65 ≤ 1024
    probe_room =
        let text = under esp payload_probe in
        let read = read_if (list_any is_kept (components payload_probe)) (path_of text) probe (read_of text (path_below esp payload_probe) probe is) in
        let short = normal-short probe (read_normal text probe read) in
        omega (arith, short, ap length probe_is, length-append (payload_folder esp) (47 ∷ replicate 64 48))

-- ---- what is made of them

some_same : (a b : Path) → Some a ≡ Some b → a ≡ b
some_same a b is = cc

none_some : (a : Path) → None ≡ Some a → ⊥
none_some a is = cc

-- a folder that was made is the one that is meant
pub made_is : (meant : Option Path) (made whole : Path) → meant ≡ Some made → meant ≡ Some whole → made ≡ whole
made_is meant made whole is there = some_same made whole (sym is ∙ there)

-- a path that is there is no bad path
pub not_bad : (meant : Option Path) (whole : Path) → meant ≡ None → meant ≡ Some whole → ⊥
not_bad meant whole bad there = none_some whole (sym bad ∙ there)
