-- Values without floats, which nest no deeper than some bound, and whose keys ascend.
use Rattle.std.proofs.Common.{◌≡◌, ℕ, suc, ◌≤◌, List, [], ◌∷◌, map, Option, Some, None, Bool, false, ◌||◌, refl, ap, ◌∙◌, arith, Ordering, Less, Equal, Greater}
use Rattle.std.specs.Prelude.{⊤, option_map}
use Rattle.std.proofs.lemmas.Bool.{or_parts}
use Rattle.std.specs.Ordering.{nat_cmp, match_ordering, ordering_reverse}
use Rattle.std.specs.Cmp.Lexicographic.{slice_cmp, nat_list_cmp_total}
use Rattle.serde_json.specs.Data.{Data, number, unsigned, string, array, Items, item, Members, no_members, member, put, depth, items_depth, members_depth}
use Rattle.serde_json.specs.View.{items_of}
use Rattle.serde_json.specs.Written.{has_float, items_have_float, members_have_float}
use Rattle.list_json.specs.Laws.{AreAbove, KeysAscend, KeysAscendInItems, KeysAscendInMembers}
use Rattle.list_json.specs.Objects.{MaybeMember, put_value, put_some, put_all, object_of}

pub record IsPlain (n : ℕ) (d : Data) : Type 0 where
  pub whole : has_float d ≡ false
  pub shallow : depth d ≤ n
  pub ascending : KeysAscend d

pub record ArePlain (n : ℕ) (ms : Members) : Type 0 where
  pub whole : members_have_float ms ≡ false
  pub shallow : members_depth ms ≤ n
  pub ascending : KeysAscendInMembers ms

pub record ArePlainItems (n : ℕ) (ds : Items) : Type 0 where
  pub whole : items_have_float ds ≡ false
  pub shallow : items_depth ds ≤ n
  pub ascending : KeysAscendInItems ds

neither : (a b : Bool) → a ≡ false → b ≡ false → (a || b) ≡ false
neither a b e f = rw (e, f)

-- ---- arrays

pub more_items : (n : ℕ) (d : Data) (ds : Items) → IsPlain n d → ArePlainItems n ds → ArePlainItems n (item d ds)
more_items n d ds one all = record {
  whole = neither _ _ one.whole all.whole;
  shallow = omega (arith, one.shallow, all.shallow);
  ascending = (one.ascending, all.ascending);
}

pub plain_items : {A : Type 0} (n : ℕ) (f : A → Data) → ((x : A) → IsPlain n (f x)) → (xs : List A) → ArePlainItems n (items_of (map f xs))
plain_items n f each [] = record { whole = refl; shallow = omega arith; ascending = tt }
plain_items n f each (x ∷ xs) = more_items n (f x) (items_of (map f xs)) (each x) (plain_items n f each xs)

pub plain_array : (n : ℕ) (ds : Items) → ArePlainItems n ds → IsPlain (suc n) (array ds)
plain_array n ds all = record { whole = all.whole; shallow = omega (arith, all.shallow); ascending = all.ascending }

-- ---- objects

above_at : (o : Ordering) (l k : List ℕ) (d : Data) (key : List ℕ) (e : Data) (ms : Members)
    → slice_cmp nat_cmp l k ≡ Less → AreAbove l (member key e ms) → AreAbove l (put k d ms)
    → AreAbove l (match_ordering o (member k d (member key e ms)) (member key d ms) (member key e (put k d ms)))
above_at Less l k d key e ms is above later = (is, above)
above_at Equal l k d key e ms is above later = above
above_at Greater l k d key e ms is above later = (above.0, later)

pub above_put : (l k : List ℕ) (d : Data) (ms : Members) → slice_cmp nat_cmp l k ≡ Less → AreAbove l ms → AreAbove l (put k d ms)
above_put l k d no_members is above = (is, tt)
above_put l k d (member key e ms) is above = above_at (slice_cmp nat_cmp k key) l k d key e ms is above (above_put l k d ms is above.1)

above_more : (k l : List ℕ) (ms : Members) → slice_cmp nat_cmp k l ≡ Less → AreAbove l ms → AreAbove k ms
above_more k l no_members is above = tt
above_more k l (member key e ms) is above = (nat_list_cmp_total.trans k l key is above.0, above_more k l ms is above.1)

put_at : (n : ℕ) (o : Ordering) (k : List ℕ) (d : Data) (key : List ℕ) (e : Data) (ms : Members)
    → slice_cmp nat_cmp k key ≡ o → IsPlain n d → ArePlain n (member key e ms) → ArePlain n (put k d ms)
    → ArePlain n (match_ordering o (member k d (member key e ms)) (member key d ms) (member key e (put k d ms)))
put_at n Less k d key e ms is one all later = record {
  whole = neither _ _ one.whole all.whole;
  shallow = omega (arith, one.shallow, all.shallow);
  ascending = ((is, above_more k key ms is all.ascending.0), one.ascending, all.ascending);
}
put_at n Equal k d key e ms is one all later = record {
  whole = neither _ _ one.whole (or_parts (has_float e) (members_have_float ms) all.whole).1;
  shallow = omega (arith, one.shallow, all.shallow);
  ascending = (all.ascending.0, one.ascending, all.ascending.2);
}
put_at n Greater k d key e ms is one all later = record {
  whole = neither _ _ (or_parts (has_float e) (members_have_float ms) all.whole).0 later.whole;
  shallow = omega (arith, all.shallow, later.shallow);
  ascending = (above_put key k d ms (nat_list_cmp_total.antisymm key k ∙ ap ordering_reverse is) all.ascending.0, all.ascending.1, later.ascending);
}

tail : (n : ℕ) (key : List ℕ) (e : Data) (ms : Members) → ArePlain n (member key e ms) → ArePlain n ms
tail n key e ms all = record {
  whole = (or_parts (has_float e) (members_have_float ms) all.whole).1;
  shallow = omega (arith, all.shallow);
  ascending = all.ascending.2;
}

pub plain_put : (n : ℕ) (k : List ℕ) (d : Data) (ms : Members) → IsPlain n d → ArePlain n ms → ArePlain n (put k d ms)
plain_put n k d no_members one all = record {
  whole = neither _ _ one.whole refl;
  shallow = omega (arith, one.shallow);
  ascending = (tt, one.ascending, tt);
}
plain_put n k d (member key e ms) one all = put_at n (slice_cmp nat_cmp k key) k d key e ms refl one all (plain_put n k d ms one (tail n key e ms all))

-- a member's value is plain, if it has one
abbrev pub IsPlainOption : ℕ → Option Data → Type 0
IsPlainOption n None = ⊤
IsPlainOption n (Some d) = IsPlain n d

abbrev pub ArePlainRows : ℕ → List MaybeMember → Type 0
ArePlainRows n [] = ⊤
ArePlainRows n (row ∷ rows) = IsPlainOption n row.1 × ArePlainRows n rows

pub plain_value : (n : ℕ) (k : List ℕ) (value : Option Data) (ms : Members) → IsPlainOption n value → ArePlain n ms → ArePlain n (put_value k value ms)
plain_value n k None ms one all = all
plain_value n k (Some d) ms one all = plain_put n k d ms one all

pub plain_rows : (n : ℕ) (rows : List MaybeMember) (ms : Members) → ArePlainRows n rows → ArePlain n ms → ArePlain n (put_all ms rows)
plain_rows n [] ms each all = all
plain_rows n (row ∷ rows) ms each all = plain_rows n rows (put_some ms row) each.1 (plain_value n row.0 row.1 ms each.0 all)

pub plain_object : (n : ℕ) (rows : List MaybeMember) → ArePlainRows n rows → IsPlain (suc n) (object_of rows)
plain_object n rows each =
    let all = plain_rows n rows no_members each (record { whole = refl; shallow = omega arith; ascending = tt }) in
    record { whole = all.whole; shallow = omega (arith, all.shallow); ascending = all.ascending }

-- ---- texts and numbers

pub plain_string : (n : ℕ) (bytes : List ℕ) → IsPlain n (string bytes)
plain_string n bytes = record { whole = refl; shallow = omega arith; ascending = tt }

pub plain_number : (n : ℕ) (k : ℕ) → IsPlain n (number (unsigned k))
plain_number n k = record { whole = refl; shallow = omega arith; ascending = tt }

pub maybe_plain : {A : Type 0} (n : ℕ) (f : A → Data) → ((x : A) → IsPlain n (f x)) → (value : Option A) → IsPlainOption n (option_map f value)
maybe_plain n f each None = tt
maybe_plain n f each (Some x) = each x
