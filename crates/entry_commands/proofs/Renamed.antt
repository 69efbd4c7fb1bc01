-- What a blessing does with files: one gets another name in its folder, with the same suffix.
use Rattle.std.proofs.Common.{◌≡◌, inl, inr, ℕ, ◌<◌, ◌≤◌, ◌-◌, Bool, true, false, not, List, [], ◌∷◌, ◌++◌, length, take, Option, Some, None, Ok, Err, is_some, refl, sym, ap, ◌∙◌, subst, arith, append_assoc, length-append, lit<, ◌==◌, bytes_eq, nat_le, nat_lt, option_map, if◌then◌else◌, decimal}
use Rattle.std.specs.List.{list_any}
use Rattle.std.proofs.lemmas.Bool.{and_from, and_parts, cond-true, le-leb, ltb-false, not-true, not_from_false, or_parts}
use Rattle.std.proofs.lemmas.Slice.Eq.{bytes_eq-Decides}
use Rattle.boot_base.specs.Paths.{Path, beside, components, file_name_of, is_component, is_file_name, is_form, is_kept, is_normal, is_path, is_path_text, is_slash, normal_of, path_below, path_of, sibling_of, under}
use Rattle.boot_base.specs.declared.refusal.Refusal.TheVariants as refusals
use Rattle.boot_base.proofs.Normal.{path-some}
use Rattle.boot_machine.specs.Prelude.{Files, has, move_in}
use Rattle.menu_order.specs.Bless.{Name, GoodName, CountedName, BadName, choice_of, target_of}
use Rattle.menu_order.specs.Counter.{counted_of, done_text_of, suffix_text, written_name}
use Rattle.menu_order.specs.Renames.{bad_name_of, base_of, good_name_of, with_counter}
use Rattle.menu_order.specs.Splits.{Cut, counter_in, cut_last, has_suffix, split_from, split_of, split_stem, stem_of}
use Rattle.menu_order.specs.declared.bless.BlessVerb.{BlessVerb}
use Rattle.menu_order.specs.declared.bless.BlessChoice.{BlessChoice}
use Rattle.menu_order.specs.declared.bless.BlessChoice.TheVariants as choices
use Rattle.menu_order.specs.declared.counted.Counted.{Counted}
use Rattle.menu_order.specs.declared.counted.Suffix.{Suffix}
use Rattle.menu_order.specs.declared.counted.Suffix.TheVariants.{Conf, Efi}
use Rattle.menu_order.proofs.Splitting.{suffix_cut, suffix_there}
use Rattle.command_plans.specs.Prelude.{Answer, answer_or_refusal, path_in, path_under, printed_path}
use Rattle.tool_words.specs.declared.command.BlessWord.{BlessWord}
use Rattle.tool_words.specs.declared.command.BlessWord.TheVariants as words
use Rattle.entry_commands.specs.Blessing.{bad_name_in, bless_answer, bless_entry, bless_result, blessed_by, entry_paths, good_name_in, name_or, path_at, present_at, reported_paths, status_result}
use Rattle.entry_commands.specs.declared.bless.EntryPaths.{EntryPaths}
use Rattle.entry_commands.proofs.Choices.{can_bless}
use Rattle.command_plans.proofs.ReadPaths.{read_if, read_normal, read_of}
use Rattle.boot_base.proofs.Beside.{beside_under, beside_whole, file_name_whole, kept_from_long, last_of}
use Rattle.entry_commands.proofs.Siblings.{bad_path, beside_last, good_path, last_is}
use Rattle.boot_base.proofs.Beside.{file_name_under}
use Rattle.command_plans.proofs.Steps.{after_answered, after_said, err_ok, ok_is}
use Rattle.command_plans.proofs.Steps.{done_by}

-- ---- names with one suffix

pub some_same : {A : Type 0} (a b : A) → Some a ≡ Some b → a ≡ b
some_same a b is = cc

-- the suffix of a name with a counter
of_numbers : (base : List ℕ) (suffix : Suffix) (numbers : Option (ℕ × ℕ)) (counted : Counted)
    → option_map (λ numbers. counted_of base numbers.0 numbers.1 suffix) numbers ≡ Some counted → suffix ≡ counted.suffix
of_numbers base suffix None counted is = cc
of_numbers base suffix (Some numbers) counted is =
    ap (λ (c : Counted). c.suffix) (some_same (counted_of base numbers.0 numbers.1 suffix) counted is)

of_cut : (suffix : Suffix) (cut : Cut) (counted : Counted) → split_from suffix cut ≡ Some counted → suffix ≡ counted.suffix
of_cut suffix None counted is = cc
of_cut suffix (Some parts) counted is = by (length parts.0 == 0) is
  where
    by : (none : Bool)
        → (if none then None else option_map (λ numbers. counted_of parts.0 numbers.0 numbers.1 suffix) (counter_in parts.1))
        ≡ Some counted → suffix ≡ counted.suffix
    by true is = cc
    by false is = of_numbers parts.0 suffix (counter_in parts.1) counted is

pub split_suffix : (name : List ℕ) (counted : Counted) → split_of name ≡ Some counted → has_suffix counted.suffix name ≡ true
unfolding split_of
split_suffix name counted is = by (has_suffix Conf name) refl (has_suffix Efi name) refl is
  where
    by : (conf : Bool) → has_suffix Conf name ≡ conf → (efi : Bool) → has_suffix Efi name ≡ efi
        → (if conf then split_stem Conf (stem_of Conf name) else (if efi then split_stem Efi (stem_of Efi name) else None))
        ≡ Some counted → has_suffix counted.suffix name ≡ true
    by true conf efi other is =
        subst (λ s. has_suffix s name ≡ true) (of_cut Conf (cut_last 43 (stem_of Conf name)) counted is) conf
    by false conf true efi is =
        subst (λ s. has_suffix s name ≡ true) (of_cut Efi (cut_last 43 (stem_of Efi name)) counted is) efi
    by false conf false efi is = cc

-- a name that is written anew has its suffix
pub written_ends : (base : List ℕ) (left done : ℕ) (suffix : Suffix) → has_suffix suffix (written_name base left done suffix) ≡ true
written_ends base left done suffix =
    let end = suffix_text suffix in
    suffix_there suffix (written_name base left done suffix) (base ++ (43 ∷ (decimal left ++ done_text_of done)))
    (ap (λ (l : List ℕ). base ++ (43 ∷ l)) (sym (append_assoc (decimal left) (done_text_of done) end))
    ∙ sym (append_assoc base (43 ∷ (decimal left ++ done_text_of done)) end))

good_ends : (name : List ℕ) (counted : Counted) → has_suffix counted.suffix (base_of name counted ++ suffix_text counted.suffix) ≡ true
good_ends name counted = suffix_there counted.suffix _ (base_of name counted) refl

-- ---- files in one folder

-- the path that was read reads as itself
pub read_again : (text path : Path) → path_of text ≡ Some path → path_of path ≡ Some path
unfolding is_normal
read_again text path is =
    let read = path-some (is_path text) (normal_of text) path is in
    let both = and_parts _ (is_path_text (normal_of text)) read.0 in
    let parts = and_parts _ (bytes_eq (normal_of path) path) (read_normal text path is) in
    let clean = and_parts _ (is_form path) parts.0 in
    let same : normal_of path ≡ path = (bytes_eq-Decides (normal_of path) path).0 parts.1 in
    let whole : is_path path ≡ true = and_from _ (is_path_text (normal_of path)) clean.0 (ap is_path_text (same ∙ sym read.1) ∙ both.1) in
    cond-true (is_path path) (Some (normal_of path)) None whole ∙ ap (λ (p : Path). Some p) same

pub long_suffix : (suffix : Suffix) → 1 < length (suffix_text suffix)
long_suffix Conf = lit< tt
long_suffix Efi = lit< tt

-- the last component of a path with a suffix is the name of a file
pub file_part : (path : Path) (suffix : Suffix) → is_normal path ≡ true → has_suffix suffix (file_name_of path) ≡ true
    → is_file_name (file_name_of path) ≡ true
unfolding is_file_name
file_part path suffix normal has_it =
    let name = file_name_of path in
    let last = last_is path normal in
    let parts = or_parts (bytes_eq name (46 ∷ 46 ∷ [])) (nat_lt 251 (length name)) last.allowed in
    let short : length name ≤ 251 = ltb-false 251 (length name) parts.1 in
    let stem = stem_of suffix name in
    let long : 1 < length name = omega (arith, ap length (suffix_cut suffix name has_it), length-append stem (suffix_text suffix), long_suffix suffix) in
    let component = and_from (is_kept name) (not (list_any is_slash name)) (kept_from_long name long) (not_from_false (list_any is_slash name) last.one) in
    let other = and_from (is_component name) (not (bytes_eq name (46 ∷ 46 ∷ []))) component (not_from_false (bytes_eq name (46 ∷ 46 ∷ [])) parts.0) in
    let clean = and_from _ (not (list_any (λ b. b == 0) name)) other (not_from_false (list_any (λ b. b == 0) name) last.no_nul) in
    and_from _ (nat_le (length name) 255) clean (le-leb (length name) 255 (omega (arith, short)))

-- two names in one folder, with one suffix
pub record AreSiblings (old new : Path) : Type 0 where
  pub front : List ℕ
  pub one : List ℕ
  pub two : List ℕ
  pub old_is : old ≡ front ++ one
  pub new_is : new ≡ front ++ two
  pub old_last : file_name_of old ≡ one
  pub new_last : file_name_of new ≡ two
  pub suffix : Suffix
  pub one_ends : has_suffix suffix one ≡ true
  pub two_ends : has_suffix suffix two ≡ true
  pub is_name : is_file_name one ≡ true
  pub is_path : path_of old ≡ Some old

-- ---- what stands beside a path

front_of : Path → List ℕ
front_of path = take (length path - length (file_name_of path)) path

own_name : (path : Path) → beside path (file_name_of path) ≡ path
own_name path = elim (last_of path) [
  | inl whole ↦ beside_whole path (file_name_of path) whole ∙ file_name_whole path whole
  | inr cut ↦
      let last : file_name_of path ≡ cut.last = ap file_name_of cut.whole ∙ file_name_under cut.front cut.last cut.one in
      ap (beside path) last ∙ ap (λ (p : Path). beside p cut.last) cut.whole ∙ beside_under cut.front cut.last cut.last cut.one
      ∙ sym cut.whole
]

-- a name of the entry whose file has a counter: its path
pub record IsBeside (path at : Path) (suffix : Suffix) : Type 0 where
  pub name : List ℕ
  pub at_is : at ≡ beside path name
  pub last : file_name_of at ≡ name
  pub ends : has_suffix suffix name ≡ true
  pub reads : path_of at ≡ Some at

pub siblings : (path old new : Path) (suffix : Suffix) → IsBeside path old suffix → IsBeside path new suffix → AreSiblings old new
unfolding front_of
siblings path old new suffix one two = record {
  front = front_of path;
  one = one.name;
  two = two.name;
  old_is = one.at_is;
  new_is = two.at_is;
  old_last = one.last;
  new_last = two.last;
  suffix = suffix;
  one_ends = one.ends;
  two_ends = two.ends;
  is_name = ap is_file_name (sym one.last) ∙ file_part old suffix (read_normal old old one.reads) (ap (has_suffix suffix) one.last ∙ one.ends);
  is_path = one.reads;
}

-- ---- what a blessing reports

name_read : (path : Path) (found : Option (List ℕ)) (name : List ℕ) → name_or path found ≡ Ok name → found ≡ Some name
name_read path None name is = absurd (err_ok (refusals.NoCounter (printed_path path)) name is)
name_read path (Some read) name is = ap (λ (n : List ℕ). Some n) (ok_is read name is)

good_if : (path : Path) (counts : Bool) (name good : List ℕ) → (if counts then Err (refusals.BadName (file_name_of path)) else Ok name) ≡ Ok good → name ≡ good
good_if path true name good is = absurd (err_ok (refusals.BadName (file_name_of path)) good is)
good_if path false name good is = ok_is name good is

map_some : {A B : Type 0} (f : A → B) (found : Option A) (b : B) → option_map f found ≡ Some b → (a : A) × (found ≡ Some a) × (f a ≡ b)
map_some f None b is = cc
map_some f (Some a) b is = (a, refl, some_same (f a) b is)

sibling_parts : (component : Bool) (read : Option Path) (path : Path) → (if component then read else None) ≡ Some path → (component ≡ true) × (read ≡ Some path)
sibling_parts true read path is = (refl, is)
sibling_parts false read path is = cc

record IsReported (paths : EntryPaths) : Type 0 where
  suffix : Suffix
  counted : IsBeside paths.counted paths.counted suffix
  good : IsBeside paths.counted paths.good suffix
  bad : IsBeside paths.counted paths.bad suffix

beside_is : (path name : List ℕ) (suffix : Suffix) → has_suffix suffix name ≡ true → sibling_of path name ≡ Some (beside path name)
    → IsBeside path (beside path name) suffix
beside_is path name suffix ends found =
    let parts = sibling_parts (is_component name) (path_of (beside path name)) (beside path name) found in
    let one = not-true (list_any is_slash name) (and_parts (is_kept name) (not (list_any is_slash name)) parts.0).1 in
    record { name = name; at_is = refl; last = beside_last path name one; ends = ends; reads = parts.1 }

is_reported : (word esp : List ℕ) (paths : EntryPaths) → reported_paths word esp ≡ Ok paths → IsReported paths
is_reported word esp paths is =
    let folder = done_by (path_in esp) _ paths is in
    let counted = done_by (path_under folder.0 word) entry_paths paths folder.2 in
    let good = done_by (good_name_in counted.0) _ paths counted.2 in
    let bad = done_by (bad_name_in counted.0) _ paths good.2 in
    let path = counted.0 in
    let name = file_name_of path in
    let text = under folder.0 word in
    let read = read_of text (path_below folder.0 word) path counted.1 in
    let reads = read_again text path (read_if (list_any is_kept (components word)) (path_of text) path read) in
    let normal = read_normal path path reads in
    let named = done_by (name_or path (good_name_of name)) _ good.0 good.1 in
    let good_is = name_read path (good_name_of name) named.0 named.1 ∙ ap (λ (n : List ℕ). Some n) (good_if path (is_some (split_of named.0)) named.0 good.0 named.2) in
    let bad_is = name_read path (bad_name_of name) bad.0 bad.1 in
    let split = map_some (λ c. base_of name c ++ suffix_text c.suffix) (split_of name) good.0 good_is in
    let c = split.0 in
    let written = map_some (λ c. with_counter name (record c { left = 0 })) (split_of name) bad.0 bad_is in
    let same : written.0 ≡ c = some_same written.0 c (sym written.1 ∙ split.1) in
    let bad_name : with_counter name (record c { left = 0 }) ≡ bad.0 = ap (λ (x : Counted). with_counter name (record x { left = 0 })) (sym same) ∙ written.2 in
    subst IsReported (ok_is _ paths bad.2) (record {
      suffix = c.suffix;
      counted = record { name = name; at_is = sym (own_name path); last = refl; ends = split_suffix name c split.1; reads = reads };
      good = beside_is path good.0 c.suffix (ap (has_suffix c.suffix) (sym split.2) ∙ good_ends name c) (good_path path good.0 normal good_is);
      bad = beside_is path bad.0 c.suffix (ap (has_suffix c.suffix) (sym bad_name) ∙ written_ends (base_of name c) 0 c.done c.suffix) (bad_path path bad.0 normal bad_is);
    })

-- ---- a blessing

-- two names of a reported entry
named_at : (paths : EntryPaths) (are : IsReported paths) (n : Name) → IsBeside paths.counted (path_at paths n) are.suffix
named_at paths are GoodName = are.good
named_at paths are CountedName = are.counted
named_at paths are BadName = are.bad

named_siblings : (paths : EntryPaths) → IsReported paths → (a b : Name) → AreSiblings (path_at paths a) (path_at paths b)
named_siblings paths are a b =
    siblings paths.counted (path_at paths a) (path_at paths b) are.suffix (named_at paths are a) (named_at paths are b)

-- it keeps what each such change of a name keeps
module _ (P : Files → Type 0) (view : Files) (ok : P view)
    (each : (old new : Path) → AreSiblings old new → has view old ≡ true → P (move_in old new view)) where
  kept_choice : (verb : BlessVerb) (paths : EntryPaths) → IsReported paths
      → (choice : BlessChoice) → choice_of verb (present_at view paths) ≡ choice → (answer : Answer)
      → blessed_by view verb paths (path_at paths (target_of verb)) choice ≡ Ok answer → P answer.after
  kept_choice verb paths are choices.Nothing at answer is = subst (λ (a : Answer). P a.after) (ok_is _ answer is) ok
  kept_choice verb paths are choices.FromGood at answer is =
      subst (λ (a : Answer). P a.after) (ok_is _ answer is)
      (each paths.good (path_at paths (target_of verb)) (named_siblings paths are GoodName (target_of verb))
      (can_bless view verb paths GoodName at).0)
  kept_choice verb paths are choices.FromCounted at answer is =
      subst (λ (a : Answer). P a.after) (ok_is _ answer is)
      (each paths.counted (path_at paths (target_of verb)) (named_siblings paths are CountedName (target_of verb))
      (can_bless view verb paths CountedName at).0)
  kept_choice verb paths are choices.FromBad at answer is =
      subst (λ (a : Answer). P a.after) (ok_is _ answer is)
      (each paths.bad (path_at paths (target_of verb)) (named_siblings paths are BadName (target_of verb))
      (can_bless view verb paths BadName at).0)
  kept_choice verb paths are choices.NoSource at answer is =
      absurd (err_ok (refusals.NoSource (printed_path paths.counted)) answer is)

  kept_verb : (verb : BlessVerb) (word esp : List ℕ) → P (answer_or_refusal view (bless_result view verb word esp)).after
  kept_verb verb word esp =
      after_answered P view (bless_result view verb word esp) ok (λ answer is.
      let paths = done_by (reported_paths word esp) (bless_entry view verb) answer is in
      let choice = choice_of verb (present_at view paths.0) in
      kept_choice verb paths.0 (is_reported word esp paths.0 paths.1) choice refl answer paths.2)

  pub blessed : (verb : BlessWord) (word esp : List ℕ) → P (bless_answer view verb word esp).after
  blessed (words.Mark verb) word esp = kept_verb verb word esp
  blessed words.Status word esp = after_said P view (status_result view word esp) ok
