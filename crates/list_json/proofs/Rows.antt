-- Members that are put one after another, and the same members with their keys ascending.
use Rattle.std.proofs.Common.{◌≡◌, ℕ, List, [], ◌∷◌, ◌++◌, Option, Some, None, Bool, true, false, not, ◌&&◌, ◌==◌, length, map, refl, sym, ap, ◌∙◌, append_assoc, Ordering, Less, Equal, Greater}
use Rattle.std.specs.Ordering.{nat_cmp, match_ordering}
use Rattle.std.specs.Cmp.Lexicographic.{slice_cmp}
use Rattle.std.proofs.lemmas.Bool.{and_parts}
use Rattle.json.specs.Token.{Token}
use Rattle.json.specs.Tree.{items_tokens, members_tokens}
use Rattle.menu_order.specs.declared.item.MenuItem.{MenuItem}
use Rattle.serde_json.specs.Data.{Data, string, object, Members, no_members, member, put}
use Rattle.serde_json.specs.View.{items_of}
use Rattle.serde_json.specs.Written.{items_outline, members_outline}
use Rattle.list_json.specs.Menus.{name_members, key_members, counter_members, boot_members, entry_members, entry_data, texts_array}
use Rattle.list_json.specs.Objects.{MaybeMember, are_text, member_is_text, put_value, put_all}
use Rattle.list_json.specs.Tokens.{data_tokens, put_tokens, put_row, put_rows, front_rows, middle_rows, state_rows, tries_rows, end_rows, entry_rows}

-- ---- rows in order, and the members that they have

abbrev pub present_value : List ℕ → Option Data → Members → Members
present_value key None later = later
present_value key (Some value) later = member key value later

abbrev pub present : List MaybeMember → Members
present [] = no_members
present (row ∷ rows) = present_value row.0 row.1 (present rows)

-- a row at the place of its key
abbrev pub insert : MaybeMember → List MaybeMember → List MaybeMember
insert row [] = row ∷ []
insert row (other ∷ rows) = match_ordering (slice_cmp nat_cmp row.0 other.0) (row ∷ other ∷ rows) (row ∷ other ∷ rows) (other ∷ insert row rows)

abbrev pub insert_all : List MaybeMember → List MaybeMember → List MaybeMember
insert_all done [] = done
insert_all done (row ∷ rows) = insert_all (insert row done) rows

abbrev is_below : List ℕ → List MaybeMember → Bool
is_below key [] = true
is_below key (row ∷ rows) = match_ordering (slice_cmp nat_cmp key row.0) (is_below key rows) false false

-- no row has this key, and the rows behind its place are above it
abbrev fits : List ℕ → List MaybeMember → Bool
fits key [] = true
fits key (row ∷ rows) = match_ordering (slice_cmp nat_cmp key row.0) (is_below key rows) false (fits key rows)

abbrev all_fit : List MaybeMember → List MaybeMember → Bool
all_fit done [] = true
all_fit done (row ∷ rows) = fits row.0 done && all_fit (insert row done) rows

-- ---- to put a member is to insert its row

absent_at : (o : Ordering) (key : List ℕ) (other : MaybeMember) (rows : List MaybeMember)
    → present rows ≡ present (insert (key, None) rows)
    → present (other ∷ rows) ≡ present (match_ordering o ((key, None) ∷ other ∷ rows) ((key, None) ∷ other ∷ rows) (other ∷ insert (key, None) rows))
absent_at Less key other rows later = refl
absent_at Equal key other rows later = refl
absent_at Greater key other rows later = ap (present_value other.0 other.1) later

absent : (key : List ℕ) (rows : List MaybeMember) → present rows ≡ present (insert (key, None) rows)
absent key [] = refl
absent key (other ∷ rows) = absent_at (slice_cmp nat_cmp key other.0) key other rows (absent key rows)

first_at : (o : Ordering) (key : List ℕ) (value : Data) (other : List ℕ) (own : Option Data) (rows : List MaybeMember)
    → slice_cmp nat_cmp key other ≡ o → match_ordering o (is_below key rows) false false ≡ true
    → (is_below key rows ≡ true → put key value (present rows) ≡ member key value (present rows))
    → put key value (present_value other own (present rows)) ≡ member key value (present_value other own (present rows))
first_at Less key value other None rows is below later = later below
first_at Less key value other (Some e) rows is below later = rw is refl
first_at Equal key value other own rows is below later = cc
first_at Greater key value other own rows is below later = cc

first : (key : List ℕ) (value : Data) (rows : List MaybeMember) → is_below key rows ≡ true → put key value (present rows) ≡ member key value (present rows)
first key value [] below = refl
first key value (row ∷ rows) below = first_at (slice_cmp nat_cmp key row.0) key value row.0 row.1 rows refl below (first key value rows)

there_at : (o : Ordering) (key : List ℕ) (value : Data) (other : List ℕ) (own : Option Data) (rows : List MaybeMember)
    → slice_cmp nat_cmp key other ≡ o → match_ordering o (is_below key rows) false (fits key rows) ≡ true
    → (fits key rows ≡ true → put key value (present rows) ≡ present (insert (key, Some value) rows))
    → put key value (present_value other own (present rows)) ≡ present (match_ordering o ((key, Some value) ∷ (other, own) ∷ rows) ((key, Some value) ∷ (other, own) ∷ rows) ((other, own) ∷ insert (key, Some value) rows))
there_at Less key value other None rows is fit later = first key value rows fit
there_at Less key value other (Some e) rows is fit later = rw is refl
there_at Equal key value other own rows is fit later = cc
there_at Greater key value other None rows is fit later = later fit
there_at Greater key value other (Some e) rows is fit later = rw is (ap (member other e) (later fit))

there : (key : List ℕ) (value : Data) (rows : List MaybeMember) → fits key rows ≡ true → put key value (present rows) ≡ present (insert (key, Some value) rows)
there key value [] fit = refl
there key value (row ∷ rows) fit = there_at (slice_cmp nat_cmp key row.0) key value row.0 row.1 rows refl fit (there key value rows)

inserted : (key : List ℕ) (value : Option Data) (rows : List MaybeMember) → fits key rows ≡ true → put_value key value (present rows) ≡ present (insert (key, value) rows)
inserted key None rows fit = absent key rows
inserted key (Some value) rows fit = there key value rows fit

pub all_inserted : (done rows : List MaybeMember) → all_fit done rows ≡ true → put_all (present done) rows ≡ present (insert_all done rows)
all_inserted done [] fit = refl
all_inserted done (row ∷ rows) fit =
    let parts = and_parts (fits row.0 done) (all_fit (insert row done) rows) fit in
    ap (λ members. put_all members rows) (inserted row.0 row.1 done parts.0) ∙ all_inserted (insert row done) rows parts.1

-- ---- which rows are text doesn't depend on their order

swap : (a b c : Bool) → (a && (b && c)) ≡ (b && (a && c))
swap true true c = refl
swap true false c = refl
swap false true c = refl
swap false false c = refl

text_at : (o : Ordering) (row other : MaybeMember) (rows : List MaybeMember)
    → are_text (insert row rows) ≡ (member_is_text row && are_text rows)
    → are_text (match_ordering o (row ∷ other ∷ rows) (row ∷ other ∷ rows) (other ∷ insert row rows)) ≡ (member_is_text row && are_text (other ∷ rows))
text_at Less row other rows later = refl
text_at Equal row other rows later = refl
text_at Greater row other rows later = ap (λ b. member_is_text other && b) later ∙ swap (member_is_text other) (member_is_text row) (are_text rows)

text_insert : (row : MaybeMember) (rows : List MaybeMember) → are_text (insert row rows) ≡ (member_is_text row && are_text rows)
text_insert row [] = refl
text_insert row (other ∷ rows) = text_at (slice_cmp nat_cmp row.0 other.0) row other rows (text_insert row rows)

shift : (a b c : Bool) → ((a && b) && c) ≡ (b && (a && c))
shift true true c = refl
shift true false c = refl
shift false true c = refl
shift false false c = refl

and_true : (a : Bool) → a ≡ (a && true)
and_true true = refl
and_true false = refl

text_inserted : (done rows : List MaybeMember) → are_text (insert_all done rows) ≡ (are_text done && are_text rows)
text_inserted done [] = and_true (are_text done)
text_inserted done (row ∷ rows) =
    text_inserted (insert row done) rows ∙ ap (λ b. b && are_text rows) (text_insert row done) ∙ shift (member_is_text row) (are_text done) (are_text rows)

-- ---- the members of an entry

in_order : (entry : MenuItem) → insert_all [] (entry_members entry) ≡ entry_rows entry
unfolding name_members key_members counter_members boot_members front_rows middle_rows state_rows tries_rows end_rows
in_order entry = refl

stays : (entry : MenuItem) → insert_all [] (entry_rows entry) ≡ entry_rows entry
unfolding front_rows middle_rows state_rows tries_rows end_rows
stays entry = refl

members_fit : (entry : MenuItem) → all_fit [] (entry_members entry) ≡ true
unfolding name_members key_members counter_members boot_members
members_fit entry = refl

rows_fit : (entry : MenuItem) → all_fit [] (entry_rows entry) ≡ true
unfolding front_rows middle_rows state_rows tries_rows end_rows
rows_fit entry = refl

pub entry_present : (entry : MenuItem) → entry_data entry ≡ object (present (entry_rows entry))
entry_present entry = ap object (all_inserted [] (entry_members entry) (members_fit entry) ∙ ap present (in_order entry))

pub rows_present : (entry : MenuItem) → put_all no_members (entry_rows entry) ≡ present (entry_rows entry)
rows_present entry = all_inserted [] (entry_rows entry) (rows_fit entry) ∙ ap present (stays entry)

pub told_rows : (entry : MenuItem) → are_text (entry_rows entry) ≡ are_text (entry_members entry)
told_rows entry = ap are_text (sym (in_order entry)) ∙ text_inserted [] (entry_members entry)

-- ---- what is written of rows in order

written_value : (key : List ℕ) (value : Option Data) (tokens : List Token) (later : Members) (text : List Token)
    → text ≡ put_tokens key value tokens ++ members_tokens (members_outline later) → text ≡ tokens ++ members_tokens (members_outline (present_value key value later))
written_value key None tokens later text is = is
written_value key (Some value) tokens later text is =
    is ∙ append_assoc tokens (Token.key key ∷ data_tokens value) (members_tokens (members_outline later))

pub rows_written : (tokens : List Token) (rows : List MaybeMember) → put_rows tokens rows ++ Token.end_object ∷ [] ≡ tokens ++ members_tokens (members_outline (present rows))
rows_written tokens [] = refl
rows_written tokens (row ∷ rows) = written_value row.0 row.1 tokens (present rows) _ (rows_written (put_row tokens row) rows)

pub entry_written : (old : List Token) (entry : MenuItem) → put_rows (old ++ Token.begin_object ∷ []) (entry_rows entry) ++ Token.end_object ∷ [] ≡ old ++ data_tokens (entry_data entry)
entry_written old entry =
    rows_written (old ++ Token.begin_object ∷ []) (entry_rows entry)
    ∙ append_assoc old (Token.begin_object ∷ []) _
    ∙ ap (λ value. old ++ data_tokens value) (sym (entry_present entry))

-- ---- what is written of an array of texts

strings_written : (texts : List (List ℕ)) → map Token.string texts ++ Token.end_array ∷ [] ≡ items_tokens (items_outline (items_of (map string texts)))
strings_written [] = refl
strings_written (text ∷ texts) = ap (λ ts. Token.string text ∷ ts) (strings_written texts)

pub texts_written : (old : List Token) (key : List ℕ) (texts : List (List ℕ)) → not (length texts == 0) ≡ true
    → (((old ++ Token.key key ∷ []) ++ Token.begin_array ∷ []) ++ map Token.string texts) ++ Token.end_array ∷ [] ≡ put_tokens key (texts_array texts) old
texts_written old key [] some = cc
texts_written old key (first ∷ later) some =
    let texts = first ∷ later in
    append_assoc ((old ++ Token.key key ∷ []) ++ Token.begin_array ∷ []) (map Token.string texts) (Token.end_array ∷ [])
    ∙ ap (λ ts. ((old ++ Token.key key ∷ []) ++ Token.begin_array ∷ []) ++ ts) (strings_written texts)
    ∙ append_assoc (old ++ Token.key key ∷ []) (Token.begin_array ∷ []) _
    ∙ append_assoc old (Token.key key ∷ []) _
