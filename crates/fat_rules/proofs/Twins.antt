-- Each rename of this program is seen, and a name without a twin shares nothing.
use Rattle.std.proofs.Common.{◌≡◌, ◌<◌, ◌-◌, ℕ, Bool, true, false, ◌&&◌, ◌||◌, List, [], ◌∷◌, ◌++◌, length, drop, Option, Some, None, sym, ap, ◌∙◌, subst, arith, length-append, bytes_eq, map}
use Rattle.std.specs.Char.{to_ascii_lowercase}
use Rattle.std.specs.List.{list_any}
use Rattle.std.proofs.Math.Seq.{drop-append_seam}
use Rattle.std.proofs.lemmas.Bool.{and_parts, or_parts}
use Rattle.std.proofs.lemmas.List.Elements.{All-nil, All-cons, All-head, All-tail}
use Rattle.std.proofs.lemmas.Slice.Eq.{bytes_eq-Decides}
use Rattle.boot_base.specs.Paths.{temp_end}
use Rattle.fat_rules.specs.Aliases.{is_alias}
use Rattle.fat_rules.specs.Entries.{EntryParts, entry_parts, same_entry, same_suffix}
use Rattle.fat_rules.specs.Sharing.{may_share}
use Rattle.fat_rules.specs.Slots.{Shares, slot_facts}
use Rattle.fat_rules.specs.Twins.{Entry, RenamesAreSeen, TwinlessSharesNothing, is_temp_of, is_twin, may_be_of_one_file, same_in_any_case, same_letters}
use Rattle.fat_rules.proofs.Entries.{bytes_themselves, cut_behind}
use Rattle.fat_rules.proofs.Slots.{shares_seen}

-- ---- one of the ways in which a name is seen

by_temp : (alias other temp back entry : Bool) → temp ≡ true → (alias || other || temp || back || entry) ≡ true
by_temp alias other temp back entry is = grind (arith, is)

by_entry : (alias other temp back entry : Bool) → entry ≡ true → (alias || other || temp || back || entry) ≡ true
by_entry alias other temp back entry is = grind (arith, is)

by_alias : (alias other temp back entry : Bool) → other ≡ true → (alias || other || temp || back || entry) ≡ true
by_alias alias other temp back entry is = grind (arith, is)

both_true : (a b : Bool) → a ≡ true → b ≡ true → (a && b) ≡ true
both_true a b first second = grind (arith, first, second)

end_behind : (stem end : List ℕ) → drop (length (stem ++ end) - length end) (stem ++ end) ≡ end
end_behind stem end =
    let long = length-append stem end in
    let count : length (stem ++ end) - length end ≡ length stem = omega (arith, long) in
    ap (λ (n : ℕ). drop n (stem ++ end)) count ∙ drop-append_seam stem end

temp_seen : (name : List ℕ) → is_temp_of (name ++ temp_end) name ≡ true
temp_seen name =
    both_true _ _
    (subst (λ (front : List ℕ). bytes_eq front name ≡ true) (sym (cut_behind name temp_end)) (bytes_themselves name))
    (subst (λ (end : List ℕ). bytes_eq end temp_end ≡ true) (sym (end_behind name temp_end)) (bytes_themselves temp_end))

letters_seen : (one other : List ℕ) → bytes_eq one other ≡ true → same_letters one other ≡ true
letters_seen one other same =
    subst (λ (l : List ℕ). bytes_eq (map to_ascii_lowercase one) (map to_ascii_lowercase l) ≡ true)
    ((bytes_eq-Decides one other).0 same) (bytes_themselves (map to_ascii_lowercase one))

entry_seen : (one other : Option EntryParts) → same_entry one other ≡ true → same_in_any_case one other ≡ true
entry_seen None other same = cc
entry_seen (Some one) None same = cc
entry_seen (Some one) (Some other) same =
    let parts = and_parts (bytes_eq one.0 other.0) (same_suffix one.1 other.1) same in
    both_true _ _ (letters_seen one.0 other.0 parts.0) parts.1

seen_by_entry : (name other : List ℕ) → same_in_any_case (entry_parts name) (entry_parts other) ≡ true → may_be_of_one_file name other ≡ true
seen_by_entry name other is =
    by_entry (is_alias name) (is_alias other) (is_temp_of name other) (is_temp_of other name)
    (same_in_any_case (entry_parts name) (entry_parts other)) is

seen_by_temp : (temp name : List ℕ) → is_temp_of temp name ≡ true → may_be_of_one_file temp name ≡ true
seen_by_temp temp name is =
    by_temp (is_alias temp) (is_alias name) (is_temp_of temp name) (is_temp_of name temp)
    (same_in_any_case (entry_parts temp) (entry_parts name)) is

seen_by_alias : (name other : List ℕ) → is_alias other ≡ true → may_be_of_one_file name other ≡ true
seen_by_alias name other is =
    by_alias (is_alias name) (is_alias other) (is_temp_of name other) (is_temp_of other name)
    (same_in_any_case (entry_parts name) (entry_parts other)) is

pub renames_are_seen : RenamesAreSeen
renames_are_seen = record {
  temporary = λ name. seen_by_temp (name ++ temp_end) name (temp_seen name);
  counter = λ name other is. seen_by_entry name other (entry_seen (entry_parts name) (entry_parts other) is);
  alias = seen_by_alias;
}

-- ---- a name without a twin

not_both : (a b : Bool) → (a && b) ≡ false → a ≡ true → b ≡ true → ⊥
not_both a b none first second = let all = both_true a b first second in cc

apart_from : (one other : Entry) → 0 < one.slot.length → (Shares one.slot other.slot → may_be_of_one_file one.name other.name ≡ true)
    → is_twin one other ≡ false → Shares one.slot other.slot → ⊥
apart_from one other some seen none s =
    not_both (may_be_of_one_file one.name other.name) (may_share (slot_facts one.slot) (slot_facts other.slot)) none (seen s)
    (shares_seen one.slot other.slot some s)

pub twinless_shares_nothing : TwinlessSharesNothing
twinless_shares_nothing one [] some all none = All-nil (λ (other : Entry). Shares one.slot other.slot → ⊥)
twinless_shares_nothing one (other ∷ others) some all none =
    let parts = or_parts (is_twin one other) (list_any (is_twin one) others) none in
    let Seen : Entry → Type 0 = λ other. Shares one.slot other.slot → may_be_of_one_file one.name other.name ≡ true in
    All-cons (λ (other : Entry). Shares one.slot other.slot → ⊥) other others
    (apart_from one other some (All-head Seen other others all) parts.0)
    (twinless_shares_nothing one others some (All-tail Seen other others all) parts.1)
