-- None of the commands that a command stands for is refused.
use Rattle.std.proofs.Common.{◌≡◌, inl, inr, ℕ, Bool, true, false, cond, List, [], ◌∷◌, ◌++◌, map, Option, Some, None, is_some, refl, sym, ap, ◌∙◌, subst, Result, Ok, Err, Contains, bytes_eq, length, nat_lt}
use Rattle.std.specs.List.{AllByRecursion, IsDistinct}
use Rattle.std.specs.FinMap as maps
use Rattle.std.proofs.lemmas.Cmp.{nat_list_eq_equiv}
use Rattle.std.proofs.lemmas.List.{map-append}
use Rattle.std.proofs.lemmas.List.Elements.{Contains-append_right}
use Rattle.std.proofs.lemmas.List.Sorted.{Contains-permutation, IsPermutation-sym}
use Rattle.std.proofs.lemmas.Map.Keys.{IsDistinct-head, IsDistinct-tail}
use Rattle.std.proofs.lemmas.Map.Views.{list_any-from_Contains}
use Rattle.boot_base.specs.Limits.{file_limit}
use Rattle.boot_base.specs.Paths.{Path}
use Rattle.boot_base.specs.declared.refusal.Refusal.{Refusal}
use Rattle.boot_base.specs.declared.refusal.Refusal.TheVariants as refusals
use Rattle.boot_entries.specs.Entries.{IsEntry, boot_menu, entry_count}
use Rattle.boot_entries.specs.declared.folders.Folders.{Folders}
use Rattle.boot_entries.proofs.EntryFiles.{distinct_paths, entries_menu, member_is}
use Rattle.boot_entries.proofs.Members.{distinct_passing, passing_from}
use Rattle.boot_entries.proofs.OncePaths.{own_moved}
use Rattle.boot_entries.proofs.Removing.{menu_own}
use Rattle.boot_machine.specs.Prelude.{Files, has, contents}
use Rattle.boot_machine.proofs.Listing.{same_bytes}
use Rattle.boot_machine.specs.proofs.Maps.{cases_same, get-insert_apart, get-insert_here, get-remove_apart}
use Rattle.menu_order.proofs.Lists.{Contains-head, Contains-later}
use Rattle.menu_order.specs.declared.item.MenuItem.{MenuItem}
use Rattle.menu_order.proofs.Parting.{parts_menu}
use Rattle.menu_order.specs.Doomed.{doomed_records, kept_records}
use Rattle.menu_order.specs.KeepLaws.{doomed_paths}
use Rattle.command_plans.specs.Prelude.{Answer, answer_or_refusal, done_answer, is_refusal, removal, ◌>>=◌, path_in, path_under, printed_path, bytes_at, each, readable_bytes, folders_of, menu_at}
use Rattle.command_plans.proofs.Steps.{done_by, err_ok, ok_is}
use Rattle.tool_words.specs.declared.command.Several.{Several}
use Rattle.tool_words.specs.declared.command.Several.TheVariants as several
use Rattle.tool_words.specs.declared.action.Action.{Action}
use Rattle.tool_words.specs.declared.action.Action.TheVariants as action
use Rattle.tool_words.specs.declared.command.KeepWords.{KeepWords}
use Rattle.entry_commands.specs.Counts.{count_in}
use Rattle.entry_commands.specs.Keeping.{keep_result}
use Rattle.entry_commands.proofs.Kept.{doomed_are}
use Rattle.type1_install.specs.Cleaning.{cleanup_expansion, is_unnamed, unnamed_payloads}
use Rattle.type1_install.specs.Installing.{Type1Plan, enter_of, install_commands, install_expansion, install_plan, payload_probe, planned_install, put_of}
use Rattle.type1_install.specs.Payloads.{payload_path}
use Rattle.type1_install.specs.Placing.{payload_text}
use Rattle.type1_install.proofs.Cleaning.{menu_is}
use Rattle.boot_commands.specs.Expanding.{NoneRefused, RefusedOrDone}
use Rattle.boot_commands.specs.Expansions.{clean_or_idle, expansion, keep_actions, actions_or_refusal}
use Rattle.boot_commands.specs.Demonstration.{demo_result}
use Rattle.boot_commands.specs.Replies.{action_reply}

-- ---- what was found, or the refusal

-- what is so of the action that refuses, and of the actions that are made of whatever is found
pub made_or_refused : (P : List Action → Type 0) → ((why : Refusal) → P (action.Refuse why ∷ [])) → {A : Type 0} (made : A → List Action)
    (r : Result A Refusal) → ((x : A) → P (made x)) → P (actions_or_refusal made r)
made_or_refused P refused made (Err why) each = refused why
made_or_refused P refused made (Ok x) each = each x

pub bound_or_refused : (P : List Action → Type 0) → ((why : Refusal) → P (action.Refuse why ∷ [])) → {A B : Type 0} (made : B → List Action)
    (r : Result A Refusal) (f : A → Result B Refusal) → ((x : A) → P (actions_or_refusal made (f x))) → P (actions_or_refusal made (r >>= f))
bound_or_refused P refused made (Err why) f each = refused why
bound_or_refused P refused made (Ok x) f each = each x

-- actions of which none is refused
or_done : (view : Files) (actions : List Action) → NoneRefused view actions → RefusedOrDone view actions
or_done view [] none = tt
or_done view (action.Put file target ∷ actions) none = none
or_done view (action.Enter path text ∷ actions) none = none
or_done view (action.Remove path ∷ actions) none = none
or_done view (action.Tell text ∷ actions) none = none
or_done view (action.Refuse why ∷ []) none = tt
or_done view (action.Refuse why ∷ (next ∷ actions)) none = none

told_done : (view : Files) (text : List ℕ) → RefusedOrDone view (action.Tell text ∷ [])
unfolding action_reply
told_done view text = (refl, tt)

-- ---- files that are removed

-- files are at these paths
abbrev pub AreThere : Files → List Path → Type 0
AreThere view paths = AllByRecursion (λ path. is_some (maps.get view path) ≡ true) paths

still_there : (view : Files) (path : Path) (later : List Path) → AllByRecursion (λ other. bytes_eq path other ≡ false) later
    → AreThere view later → AreThere (maps.remove view path) later
still_there view path [] apart there = tt
still_there view path (other ∷ later) apart there = (
  ap is_some (get-remove_apart view path other (same_bytes other path ∙ nat_list_eq_equiv.symm other path ∙ apart.0)) ∙ there.0,
  still_there view path later apart.1 there.1,
)

done_removal : (view : Files) (path : Path) (found : Option (List ℕ)) → is_some found ≡ true
    → (is_refusal (removal view path found).outcome ≡ false) × ((removal view path found).after ≡ maps.remove view path)
done_removal view path None some = cc
done_removal view path (Some bytes) some = (refl, refl)

done_remove : (view : Files) (path : Path) → is_some (maps.get view path) ≡ true
    → (is_refusal (action_reply view (action.Remove path)).outcome ≡ false)
    × ((action_reply view (action.Remove path)).after ≡ maps.remove view path)
unfolding action_reply
done_remove view path there = done_removal view path (maps.get view path) there

-- a file each is at distinct paths
pub removals_done : (view : Files) (paths : List Path) → IsDistinct bytes_eq paths → AreThere view paths
    → NoneRefused view (map action.Remove paths)
removals_done view [] distinct there = tt
removals_done view (path ∷ later) distinct there =
    let done = done_remove view path there.0 in (
      done.0,
      subst (λ v. NoneRefused v (map action.Remove later)) (sym done.1)
          (removals_done (maps.remove view path) later (IsDistinct-tail bytes_eq path later distinct)
          (still_there view path later (IsDistinct-head bytes_eq path later distinct) there.1)),
    )

-- ---- files that are put

Readable : Files → Path → Type 0
Readable view path = (bytes : List ℕ) × (bytes_at view path ≡ Ok bytes)

IsSmall : List ℕ → Type 0
IsSmall bytes = nat_lt file_limit (length bytes) ≡ false

small_by : (path : Path) (b : List ℕ) (large : Bool) → nat_lt file_limit (length b) ≡ large → (bytes : List ℕ)
    → cond large (Err (refusals.TooLarge (printed_path path) (length b))) (Ok b) ≡ Ok bytes → IsSmall bytes
unfolding IsSmall
small_by path b true is bytes read = absurd (err_ok (refusals.TooLarge (printed_path path) (length b)) bytes read)
small_by path b false is bytes read = subst (λ (l : List ℕ). nat_lt file_limit (length l) ≡ false) (ok_is b bytes read) is

small_found : (path : Path) (found : Option (List ℕ)) (bytes : List ℕ) → readable_bytes path found ≡ Ok bytes → IsSmall bytes
small_found path None bytes is = absurd (err_ok (refusals.NotFound (printed_path path)) bytes is)
small_found path (Some b) bytes is = small_by path b (nat_lt file_limit (length b)) refl bytes is

small_read : (path : Path) (bytes : List ℕ) → IsSmall bytes → readable_bytes path (Some bytes) ≡ Ok bytes
unfolding IsSmall
small_read path bytes small = rw small refl

-- what was readable is so behind a file that isn't too large
still_readable : (view : Files) (target : Path) (bytes : List ℕ) → IsSmall bytes → (path : Path) → Readable view path
    → Readable (maps.insert view target bytes) path
unfolding Readable
still_readable view target bytes small path read = elim (cases_same path target) [
  | inl same ↦ (
    bytes,
    ap (λ (p : Path). readable_bytes path (maps.get (maps.insert view target bytes) p)) same
        ∙ ap (readable_bytes path) (get-insert_here view target bytes) ∙ small_read path bytes small,
  )
  | inr apart ↦ (read.0, ap (readable_bytes path) (get-insert_apart view target bytes path apart) ∙ read.1)
]

all_readable : (view : Files) (target : Path) (bytes : List ℕ) → IsSmall bytes → (paths : List Path)
    → AllByRecursion (Readable view) paths → AllByRecursion (Readable (maps.insert view target bytes)) paths
all_readable view target bytes small [] all = tt
all_readable view target bytes small (path ∷ paths) all =
    (still_readable view target bytes small path all.0, all_readable view target bytes small paths all.1)

done_put : (view : Files) (file target : Path) (bytes : List ℕ) → bytes_at view file ≡ Ok bytes
    → action_reply view (action.Put file target) ≡ done_answer (maps.insert view target bytes) (payload_text target)
unfolding action_reply
done_put view file target bytes read =
    ap (λ (r : Result (List ℕ) Refusal). answer_or_refusal view (r >>= λ bytes. Ok (done_answer (maps.insert view target bytes) (payload_text target)))) read

done_enter : (view : Files) (path : Path) (text : List ℕ) → is_refusal (action_reply view (action.Enter path text)).outcome ≡ false
unfolding action_reply
done_enter view path text = refl

-- files that are there and not too large are put, and an entry is entered
puts_done : (first view : Files) (plan : Type1Plan) (files : List Path) → AllByRecursion (Readable view) files
    → NoneRefused view (map (put_of first plan.esp) files ++ enter_of first plan ∷ [])
unfolding Readable
puts_done first view plan [] all = (done_enter view plan.entry _, tt)
puts_done first view plan (file ∷ files) all =
    let target = payload_path plan.esp (contents first file) in
    let bytes = all.0.0 in
    let done = done_put view file target bytes all.0.1 in (
      ap (λ (a : Answer). is_refusal a.outcome) done,
      subst (λ (a : Answer). NoneRefused a.after (map (put_of first plan.esp) files ++ enter_of first plan ∷ [])) (sym done)
          (puts_done first (maps.insert view target bytes) plan files
          (all_readable view target bytes (small_found file (maps.get view file) bytes all.0.1) files all.1)),
    )

each_readable : (view : Files) (files : List Path) (read : List (List ℕ)) → each (bytes_at view) files ≡ Ok read
    → AllByRecursion (Readable view) files
unfolding each Readable
each_readable view [] read is = tt
each_readable view (file ∷ files) read is =
    let one = done_by (bytes_at view file) _ read is in
    let rest = done_by (each (bytes_at view) files) _ read one.2 in
    ((one.0, one.1), each_readable view files rest.0 rest.1)

install_done : (view : Files) (plan : Type1Plan) (reads : Result (List (List ℕ)) Refusal)
    → each (bytes_at view) (plan.linux ∷ plan.initrds) ≡ reads
    → RefusedOrDone view (actions_or_refusal (λ actions. actions) (reads >>= λ _. Ok (install_commands view plan)))
install_done view plan (Err why) is = tt
install_done view plan (Ok read) is =
    puts_done view view plan (plan.linux ∷ plan.initrds) (each_readable view (plan.linux ∷ plan.initrds) read is)

-- ---- the actions of each command

-- the payloads that no entry names are files, each with a path of its own
keys_there : (view : Files) (paths : List Path) → ((path : Path) → Contains paths path → has view path ≡ true) → AreThere view paths
keys_there view [] are = tt
keys_there view (path ∷ paths) are =
    (are path (Contains-head path paths), keys_there view paths (λ other is. are other (Contains-later path other paths is)))

key_there : (view : Files) (path : Path) → Contains (maps.keys view) path → has view path ≡ true
key_there view path is = sym (member_is view path) ∙ list_any-from_Contains nat_list_eq_equiv path (maps.keys view) is

cleanup_done : (view : Files) (esp : Path) (menu : List MenuItem) → NoneRefused view (map action.Remove (unnamed_payloads view esp menu))
cleanup_done view esp menu =
    removals_done view (unnamed_payloads view esp menu)
    (distinct_passing bytes_eq (is_unnamed esp menu) (maps.keys view) (distinct_paths view))
    (keys_there view (unnamed_payloads view esp menu)
    (λ path is. key_there view path (passing_from (is_unnamed esp menu) (maps.keys view) path is).0))

distinct_behind : (xs ys : List Path) → IsDistinct bytes_eq (xs ++ ys) → IsDistinct bytes_eq ys
distinct_behind [] ys distinct = distinct
distinct_behind (x ∷ xs) ys distinct = distinct_behind xs ys (IsDistinct-tail bytes_eq x (xs ++ ys) distinct)

-- the doomed entries are entries, each with a path of its own
module _ (n : ℕ) (per_key : Bool) (first : Files) (folders : Folders) where
  abbrev all : List MenuItem
  all = boot_menu first folders

  abbrev doomed : List MenuItem
  doomed = doomed_records n per_key all

  pub own_doomed : IsDistinct bytes_eq (doomed_paths n per_key all)
  own_doomed =
      let kept = kept_records n per_key all in
      distinct_behind (map (λ (i : MenuItem). i.path) kept) (doomed_paths n per_key all)
      (subst (IsDistinct bytes_eq) (map-append (λ (i : MenuItem). i.path) kept doomed)
      (own_moved all (kept ++ doomed) (parts_menu n per_key all) (menu_own first folders)))

  all_there : (items : List MenuItem) → ((item : MenuItem) → Contains items item → IsEntry first folders item) → AreThere first (map (λ (i : MenuItem). i.path) items)
  all_there [] are = tt
  all_there (item ∷ items) are = (
    ap is_some (are item (Contains-head item items)).there,
    all_there items (λ other is. are other (Contains-later item other items is)),
  )

  pub doomed_there : AreThere first (doomed_paths n per_key all)
  doomed_there = all_there doomed (λ item is.
      ((entries_menu first folders).entries item).0
      (Contains-permutation (kept_records n per_key all ++ doomed) all item (IsPermutation-sym all (kept_records n per_key all ++ doomed) (parts_menu n per_key all))
      (Contains-append_right (kept_records n per_key all) doomed item is)))

-- the files that a `keep` finds are there, each at a path of its own
found_done : (view : Files) (words : KeepWords) (paths : List Path) → keep_result view words ≡ Ok paths
    → NoneRefused view (map action.Remove paths)
found_done view words paths is =
    let n = done_by (count_in words.number) _ paths is in
    let folders = done_by (folders_of words.esp) _ paths n.2 in
    let menu = done_by (menu_at view folders.0) _ paths folders.2 in
    let shown : boot_menu view folders.0 ≡ menu.0 = menu_is view folders.0 (nat_lt 4096 (entry_count view folders.0)) menu.0 menu.1 in
    let named : doomed_paths n.0 words.per_key (boot_menu view folders.0) ≡ paths =
    ap (doomed_paths n.0 words.per_key) shown ∙ doomed_are n.0 words.per_key menu.0 paths menu.2 in
    subst (λ (l : List Path). NoneRefused view (map action.Remove l)) named
    (removals_done view (doomed_paths n.0 words.per_key (boot_menu view folders.0))
    (own_doomed n.0 words.per_key view folders.0) (doomed_there n.0 words.per_key view folders.0))

keep_done : (view : Files) (words : KeepWords) (dry_run : Bool) (paths : List Path) → NoneRefused view (map action.Remove paths)
    → RefusedOrDone view (keep_actions dry_run paths)
keep_done view words true paths done = told_done view _
keep_done view words false [] done = told_done view _
keep_done view words false (path ∷ paths) done = done

found_or_refused : (view : Files) (words : KeepWords) (found : Result (List Path) Refusal) → keep_result view words ≡ found
    → RefusedOrDone view (actions_or_refusal (keep_actions words.dry_run) found)
found_or_refused view words (Err why) is = tt
found_or_refused view words (Ok paths) is = keep_done view words words.dry_run paths (found_done view words paths is)

cleaned_done : (view : Files) (actions : List Action) → NoneRefused view actions → RefusedOrDone view (clean_or_idle actions)
cleaned_done view [] done = told_done view _
cleaned_done view (first ∷ more) done = or_done view (first ∷ more) done

-- a command of several actions is refused, which is its one action, or none of its actions is
pub expansion_unrefused : (view : Files) (c : Several) → RefusedOrDone view (expansion view c)
unfolding expansion install_expansion cleanup_expansion
expansion_unrefused view (several.Type1Install words) =
    bound_or_refused (RefusedOrDone view) (λ why. tt) (λ actions. actions) (install_plan words) (planned_install view) (λ plan.
    install_done view plan (each (bytes_at view) (plan.linux ∷ plan.initrds)) refl)
expansion_unrefused view (several.Type1Cleanup word) =
    bound_or_refused (RefusedOrDone view) (λ why. tt) clean_or_idle (folders_of word) _ (λ folders.
    bound_or_refused (RefusedOrDone view) (λ why. tt) clean_or_idle (path_in word) _ (λ esp.
    bound_or_refused (RefusedOrDone view) (λ why. tt) clean_or_idle (path_under esp payload_probe) _ (λ _.
    bound_or_refused (RefusedOrDone view) (λ why. tt) clean_or_idle (menu_at view folders) _ (λ menu.
    cleaned_done view (map action.Remove (unnamed_payloads view esp menu)) (cleanup_done view esp menu)))))
expansion_unrefused view (several.Keep words) = found_or_refused view words (keep_result view words) refl
expansion_unrefused view (several.Demo seed count) =
    made_or_refused (RefusedOrDone view) (λ why. tt) (λ text. action.Tell text ∷ []) (demo_result seed count) (told_done view)
