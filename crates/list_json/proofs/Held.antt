-- A value that JSON can hold is read back from its line.
use Rattle.std.proofs.Common.{◌≡◌, ℕ, ◌<◌, ◌≤◌, ◌^◌, Bool, true, false, List, [], ◌∷◌, ◌++◌, Option, Some, None, refl, sym, ap, ◌∙◌, subst, Ordering, Less, Equal, Greater}
use Rattle.std.specs.Prelude.{⊤, IsUtf8, map, decimal, option_map, option_and_then}
use Rattle.std.specs.List.{AllByRecursion}
use Rattle.std.specs.Ordering.{nat_cmp, match_ordering, ordering_reverse}
use Rattle.std.specs.Cmp.Lexicographic.{slice_cmp, nat_list_cmp_total}
use Rattle.std.proofs.lemmas.Fmt.{IsAscii-decimal}
use Rattle.std.proofs.lemmas.Str.{IsUtf8-append, IsUtf8-from_ascii, IsUtf8-nil}
use Rattle.json.specs.Print.{IsNumber, quoted}
use Rattle.json.specs.Tree.{HasNumbers, ItemsHaveNumbers, MembersHaveNumbers}
use Rattle.json.proofs.Printed.Decimals.{IsNumber-decimal}
use Rattle.json.proofs.Printed.Tokens.{tokens-print}
use Rattle.json.proofs.Printed.Trees.{ArePrintable-json_tokens}
use Rattle.json.proofs.Printed.Utf8.{are_ascii, IsUtf8-are_ascii, IsUtf8-boolean, IsUtf8-quoted}
use Rattle.serde_json.specs.Data.{Num, unsigned, negative, float, Data, null, boolean, number, string, array, object, Items, no_items, item, Members, no_members, member, put, depth}
use Rattle.serde_json.specs.Read.{number_of, of_items, of_members}
use Rattle.serde_json.specs.View.{items_of}
use Rattle.serde_json.specs.Written.{number_text, outline, items_outline, members_outline, comma_if, compact_text, items_text, members_text}
use Rattle.serde_json.proofs.Numbers.{number_of-decimal}
use Rattle.serde_json.proofs.Texts.{print-outline}
use Rattle.list_json.specs.Laws.{AreAbove, KeysAscend, KeysAscendInItems, KeysAscendInMembers}
use Rattle.list_json.specs.Lines.{ReadsAs, json_line}
use Rattle.list_json.specs.Objects.{MaybeMember, put_value, put_some, put_all, object_of}
use Rattle.list_json.specs.Tokens.{ReadsBack, data_tokens}
use Rattle.list_json.proofs.MenuLine.{line_read}

-- ---- texts are UTF-8, and numbers are whole and fit in 64 bits

abbrev pub IsHeldNumber : Num → Type 0
IsHeldNumber (unsigned n) = n < 2 ^ 64
IsHeldNumber (negative z) = ⊥
IsHeldNumber (float x) = ⊥

abbrev mutual
  pub IsHeld : Data → Type 0
  IsHeld null = ⊤
  IsHeld (boolean b) = ⊤
  IsHeld (number n) = IsHeldNumber n
  IsHeld (string s) = IsUtf8 s
  IsHeld (array ds) = AreHeld ds
  IsHeld (object ms) = MembersHeld ms

  pub AreHeld : Items → Type 0
  AreHeld no_items = ⊤
  AreHeld (item d ds) = IsHeld d × AreHeld ds

  pub MembersHeld : Members → Type 0
  MembersHeld no_members = ⊤
  MembersHeld (member k d ms) = IsUtf8 k × IsHeld d × MembersHeld ms

-- ---- the text is UTF-8

number_utf8 : (n : Num) → IsHeldNumber n → IsUtf8 (number_text n)
number_utf8 (unsigned n) h = IsUtf8-from_ascii (decimal n) (IsAscii-decimal n h)
number_utf8 (negative z) h = absurd h
number_utf8 (float x) h = absurd h

comma_utf8 : (later : Bool) → IsUtf8 (comma_if later)
comma_utf8 true = IsUtf8-are_ascii (44 ∷ []) refl
comma_utf8 false = IsUtf8-nil

mutual
  text_utf8 : (d : Data) → IsHeld d → IsUtf8 (compact_text d)
  text_utf8 null h = IsUtf8-are_ascii _ refl
  text_utf8 (boolean b) h = IsUtf8-boolean b
  text_utf8 (number n) h = number_utf8 n h
  text_utf8 (string s) h = IsUtf8-quoted s h
  text_utf8 (array ds) h = IsUtf8-append (91 ∷ []) _ (IsUtf8-are_ascii (91 ∷ []) refl) (items_utf8 false ds h)
  text_utf8 (object ms) h = IsUtf8-append (123 ∷ []) _ (IsUtf8-are_ascii (123 ∷ []) refl) (members_utf8 false ms h)

  items_utf8 : (later : Bool) (ds : Items) → AreHeld ds → IsUtf8 (items_text later ds)
  items_utf8 later no_items h = IsUtf8-are_ascii (93 ∷ []) refl
  items_utf8 later (item d ds) h = IsUtf8-append (comma_if later) _ (comma_utf8 later) (IsUtf8-append (compact_text d) _ (text_utf8 d h.0) (items_utf8 true ds h.1))

  members_utf8 : (later : Bool) (ms : Members) → MembersHeld ms → IsUtf8 (members_text later ms)
  members_utf8 later no_members h = IsUtf8-are_ascii (125 ∷ []) refl
  members_utf8 later (member k d ms) h =
      IsUtf8-append (comma_if later) _ (comma_utf8 later)
      (IsUtf8-append (quoted k) _ (IsUtf8-quoted k h.0)
      (IsUtf8-append (58 ∷ []) _ (IsUtf8-are_ascii (58 ∷ []) refl)
      (IsUtf8-append (compact_text d) _ (text_utf8 d h.1) (members_utf8 true ms h.2))))

-- ---- its numbers are numbers of JSON

number_is : (n : Num) → IsHeldNumber n → IsNumber (number_text n)
number_is (unsigned n) h = IsNumber-decimal n h
number_is (negative z) h = absurd h
number_is (float x) h = absurd h

mutual
  numbers_are : (d : Data) → IsHeld d → HasNumbers (outline d)
  numbers_are null h = tt
  numbers_are (boolean b) h = tt
  numbers_are (number n) h = number_is n h
  numbers_are (string s) h = tt
  numbers_are (array ds) h = item_numbers ds h
  numbers_are (object ms) h = member_numbers ms h

  item_numbers : (ds : Items) → AreHeld ds → ItemsHaveNumbers (items_outline ds)
  item_numbers no_items h = tt
  item_numbers (item d ds) h = (numbers_are d h.0, item_numbers ds h.1)

  member_numbers : (ms : Members) → MembersHeld ms → MembersHaveNumbers (members_outline ms)
  member_numbers no_members h = tt
  member_numbers (member k d ms) h = (numbers_are d h.1, member_numbers ms h.2)

-- ---- members that are read one after another, their keys ascending

abbrev join : Members → Members → Members
join no_members later = later
join (member k d ms) later = member k d (join ms later)

join_none : (ms : Members) → join ms no_members ≡ ms
join_none no_members = refl
join_none (member k d ms) = ap (member k d) (join_none ms)

join_next : (found : Members) (k : List ℕ) (d : Data) (ms : Members) → join (join found (member k d no_members)) ms ≡ join found (member k d ms)
join_next no_members k d ms = refl
join_next (member l e found) k d ms = ap (member l e) (join_next found k d ms)

-- each key of the first members is below all keys of the second
abbrev AreBelow : Members → Members → Type 0
AreBelow no_members ms = ⊤
AreBelow (member l e found) ms = AreAbove l ms × AreBelow found ms

below_next : (found : Members) (k : List ℕ) (d : Data) (ms : Members) → AreBelow found (member k d ms) → AreAbove k ms → AreBelow (join found (member k d no_members)) ms
below_next no_members k d ms below above = (above, tt)
below_next (member l e found) k d ms below above = (below.0.1, below_next found k d ms below.1 above)

put_last : (found : Members) (k : List ℕ) (d : Data) (ms : Members) → AreBelow found (member k d ms) → put k d found ≡ join found (member k d no_members)
put_last no_members k d ms below = refl
put_last (member l e found) k d ms below =
    let behind : slice_cmp nat_cmp k l ≡ Greater = nat_list_cmp_total.antisymm k l ∙ ap ordering_reverse below.0.0 in
    rw behind (ap (member l e) (put_last found k d ms below.1))

-- ---- the tokens are read as the value

number_back : (n : Num) → IsHeldNumber n → number_of (number_text n) ≡ Some n
number_back (unsigned n) h = number_of-decimal n h
number_back (negative z) h = absurd h
number_back (float x) h = absurd h

mutual
  value_back : (d : Data) → IsHeld d → KeysAscend d → ReadsBack d
  value_back null h up = refl
  value_back (boolean b) h up = refl
  value_back (number n) h up = ap (option_map number) (number_back n h)
  value_back (string s) h up = refl
  value_back (array ds) h up = ap (option_map array) (items_back ds h up)
  value_back (object ms) h up = ap (option_map object) (members_back no_members ms h tt up)

  items_back : (ds : Items) → AreHeld ds → KeysAscendInItems ds → of_items (items_outline ds) ≡ Some ds
  items_back no_items h up = refl
  items_back (item d ds) h up =
      ap (option_and_then (λ d. option_map (item d) (of_items (items_outline ds)))) (value_back d h.0 up.0) ∙ ap (option_map (item d)) (items_back ds h.1 up.1)

  members_back : (found ms : Members) → MembersHeld ms → AreBelow found ms → KeysAscendInMembers ms → of_members (members_outline ms) found ≡ Some (join found ms)
  members_back found no_members h below up = ap Some (sym (join_none found))
  members_back found (member k d ms) h below up =
      ap (option_and_then (λ d. of_members (members_outline ms) (put k d found))) (value_back d h.1 up.1)
      ∙ ap (of_members (members_outline ms)) (put_last found k d ms below)
      ∙ members_back (join found (member k d no_members)) ms h.2 (below_next found k d ms below up.0) up.2
      ∙ ap Some (join_next found k d ms)

-- the line is read as the value
pub held_reads : (d : Data) → IsHeld d → KeysAscend d → depth d ≤ 127 → ReadsAs (json_line d) d
held_reads d h up shallow =
    line_read (json_line d) (data_tokens d) d (ap (λ text. text ++ 10 ∷ []) (sym (print-outline d))) refl
    (tokens-print (data_tokens d) (ArePrintable-json_tokens (outline d) (numbers_are d h)))
    (subst IsUtf8 (sym (print-outline d)) (text_utf8 d h)) (value_back d h up) shallow

-- ---- objects and arrays of such values

abbrev pub OptionHeld : Option Data → Type 0
OptionHeld None = ⊤
OptionHeld (Some d) = IsHeld d

abbrev pub RowsHeld : List MaybeMember → Type 0
RowsHeld [] = ⊤
RowsHeld (row ∷ rows) = (are_ascii row.0 ≡ true) × OptionHeld row.1 × RowsHeld rows

put_at : (o : Ordering) (k : List ℕ) (d : Data) (key : List ℕ) (e : Data) (ms : Members)
    → IsUtf8 k → IsHeld d → MembersHeld (member key e ms) → MembersHeld (put k d ms)
    → MembersHeld (match_ordering o (member k d (member key e ms)) (member key d ms) (member key e (put k d ms)))
put_at Less k d key e ms utf8 one all later = (utf8, one, all)
put_at Equal k d key e ms utf8 one all later = (all.0, one, all.2)
put_at Greater k d key e ms utf8 one all later = (all.0, all.1, later)

held_put : (k : List ℕ) (d : Data) (ms : Members) → IsUtf8 k → IsHeld d → MembersHeld ms → MembersHeld (put k d ms)
held_put k d no_members utf8 one all = (utf8, one, tt)
held_put k d (member key e ms) utf8 one all = put_at (slice_cmp nat_cmp k key) k d key e ms utf8 one all (held_put k d ms utf8 one all.2)

held_value : (k : List ℕ) (value : Option Data) (ms : Members) → IsUtf8 k → OptionHeld value → MembersHeld ms → MembersHeld (put_value k value ms)
held_value k None ms utf8 one all = all
held_value k (Some d) ms utf8 one all = held_put k d ms utf8 one all

held_rows : (rows : List MaybeMember) (ms : Members) → RowsHeld rows → MembersHeld ms → MembersHeld (put_all ms rows)
held_rows [] ms each all = all
held_rows (row ∷ rows) ms each all = held_rows rows (put_some ms row) each.2 (held_value row.0 row.1 ms (IsUtf8-are_ascii row.0 each.0) each.1 all)

pub held_object : (rows : List MaybeMember) → RowsHeld rows → IsHeld (object_of rows)
held_object rows each = held_rows rows no_members each tt

pub held_items : {A : Type 0} (P : A → Type 0) (f : A → Data) → ((x : A) → P x → IsHeld (f x)) → (xs : List A) → AllByRecursion P xs → AreHeld (items_of (map f xs))
held_items P f each [] all = tt
held_items P f each (x ∷ xs) all = (each x all.0, held_items P f each xs all.1)
