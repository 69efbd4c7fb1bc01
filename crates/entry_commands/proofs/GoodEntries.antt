-- What each command on the boot folder keeps of its good entries.
use Rattle.std.proofs.Common.{◌≡◌, ◌≢◌, inl, inr, ℕ, Bool, true, false, List, Option, Some, None, Result, Ok, Err, is_some, refl, sym, ap, ◌∙◌, subst, IfOk, bytes_eq, option_and_then, if◌then◌else◌}
use Rattle.std.specs.FinMap as map
use Rattle.std.proofs.lemmas.Bool.{and_from}
use Rattle.boot_base.specs.Paths.{Path, file_name_of, is_file_name, path_of, under}
use Rattle.boot_base.specs.declared.refusal.Refusal.{Refusal}
use Rattle.boot_base.specs.declared.refusal.Refusal.TheVariants as refusals
use Rattle.menu_order.specs.Bless.{GoodName, CountedName, BadName, choice_of, target_of}
use Rattle.menu_order.specs.Renames.{booted_name_of}
use Rattle.menu_order.specs.Splits.{has_suffix, split_of}
use Rattle.menu_order.specs.declared.bless.BlessVerb.{BlessVerb}
use Rattle.menu_order.specs.declared.bless.BlessVerb.TheVariants as verbs
use Rattle.menu_order.specs.declared.bless.BlessChoice.{BlessChoice}
use Rattle.menu_order.specs.declared.bless.BlessChoice.TheVariants as choices
use Rattle.menu_order.specs.declared.counted.Suffix.{Suffix}
use Rattle.menu_order.specs.declared.counted.Suffix.TheVariants.{Conf, Efi}
use Rattle.menu_order.proofs.Splitting.{split_none}
use Rattle.boot_entries.specs.Entries.{entry_at, entry_of, folder_of, stands_in}
use Rattle.boot_entries.specs.declared.folders.Folders.{Folders}
use Rattle.boot_entries.proofs.EntryFiles.{built, bytes_self, one_type}
use Rattle.boot_entries.proofs.Places.{file_name_under, name_parts, own_some}
use Rattle.boot_machine.specs.Prelude.{Files, has, contents, move_in}
use Rattle.boot_machine.specs.proofs.Maps.{cases_same, get-insert_apart, get-insert_here, get-remove_apart}
use Rattle.command_plans.specs.Prelude.{Answer, answer_or_refusal, done_answer, path_under, printed_path, folders_of, menu_at, removal, unlink_answer}
use Rattle.menu_order.specs.declared.item.MenuItem.{MenuItem}
use Rattle.tool_words.specs.declared.command.BlessWord.{BlessWord}
use Rattle.tool_words.specs.declared.command.BlessWord.TheVariants as words
use Rattle.entry_commands.specs.Blessing.{bless_answer, bless_entry, bless_result, blessed_by, path_at, present_at, reported_paths, status_result}
use Rattle.entry_commands.specs.Booting.{boot_answer, boot_result, booted_entry, booted_text, first_of, renamed_entry}
use Rattle.entry_commands.specs.GoodEntries.{HasGoodEntry, SparesGoodName}
use Rattle.entry_commands.specs.Installing.{install_answer, install_result, installation_of, installed_image}
use Rattle.entry_commands.specs.declared.bless.EntryPaths.{EntryPaths}
use Rattle.entry_commands.proofs.Choices.{can_bless}
use Rattle.command_plans.proofs.Steps.{after_answered, after_said, clash, done_by, err_ok, none_some, ok_is}
use Rattle.entry_commands.proofs.InstalledEntry.{image_is, target_of_type}
use Rattle.entry_commands.proofs.Reported.{AreReported, bad_is_counted, reported, reported_counted}

module _ (folders : Folders) (path : Path) (view : Files) (e : HasGoodEntry folders path view) where
  there : map.get view path ≡ Some e.entry.bytes
  there = ap (λ (p : Path). map.get view p) (sym e.at) ∙ e.entry.there

  -- where the file stays, so does the entry
  unchanged : (next : Files) → map.get next path ≡ map.get view path → HasGoodEntry folders path next
  unchanged next same = record {
    item = e.item;
    at = e.at;
    entry = record {
      suffix = e.entry.suffix;
      name = e.entry.name;
      bytes = e.entry.bytes;
      is_name = e.entry.is_name;
      of_type = e.entry.of_type;
      stands = e.entry.stands;
      is_path = e.entry.is_path;
      there = ap (λ (p : Path). map.get next p) e.at ∙ same ∙ there;
      valid = e.entry.valid;
    };
    good = e.good;
  }

  pub put_apart : (at : Path) (bytes : List ℕ) → at ≢ path → HasGoodEntry folders path (map.insert view at bytes)
  put_apart at bytes apart = elim (cases_same path at) [
    | inl one ↦ absurd (apart (sym one))
    | inr two ↦ unchanged (map.insert view at bytes) (get-insert_apart view at bytes path two)
  ]

  taken_apart : (at : Path) → at ≢ path → HasGoodEntry folders path (map.remove view at)
  taken_apart at apart = elim (cases_same path at) [
    | inl one ↦ absurd (apart (sym one))
    | inr two ↦ unchanged (map.remove view at) (get-remove_apart view at path two)
  ]

  -- nothing stands where a file is moved to, so that it isn't this one's path
  gone_apart : (at : Path) → has view at ≡ false → at ≢ path
  gone_apart at gone same = clash (ap is_some there) (ap (has view) (sym same) ∙ gone)

  -- nor is it a path of a counted name
  counted_apart : (at : Path) → (split_of (file_name_of at) ≡ None → ⊥) → at ≢ path
  counted_apart at counted same =
      counted (ap (λ (p : Path). split_of (file_name_of p)) same ∙ split_none (file_name_of path) e.good)

  -- the name of the entry's file, and its type
  name_is : file_name_of path ≡ e.entry.name
  name_is =
      ap file_name_of (sym e.at ∙ e.entry.stands)
      ∙ file_name_under (folder_of folders e.entry.suffix) e.entry.name (name_parts e.entry.name e.entry.is_name).1

  stands : stands_in folders e.entry.suffix path ≡ true
  stands =
      let name = file_name_of path in
      let is_name = ap is_file_name name_is ∙ e.entry.is_name in
      let of_type = ap (has_suffix e.entry.suffix) name_is ∙ e.entry.of_type in
      let whole : path ≡ under (folder_of folders e.entry.suffix) name =
      sym e.at ∙ e.entry.stands ∙ ap (under (folder_of folders e.entry.suffix)) (sym name_is) in
      let front = and_from (is_file_name name) (has_suffix e.entry.suffix name) is_name of_type in
      and_from _ (bytes_eq path (under (folder_of folders e.entry.suffix) name)) front
      (ap (bytes_eq path) (sym whole) ∙ bytes_self path)

  -- bytes of its type that are an entry may take its place
  pub replaced : (suffix : Suffix) (bytes : List ℕ) (item : MenuItem) → e.entry.suffix ≡ suffix
      → entry_of suffix path bytes ≡ Some item
      → HasGoodEntry folders path (map.insert view path bytes)
  replaced suffix bytes item of_type valid =
      let next = map.insert view path bytes in
      let is_path = ap (λ (p : Path). path_of p) (sym e.at) ∙ e.entry.is_path ∙ ap (λ (p : Path). Some p) e.at in
      let own = own_some path is_path in
      let read = ap (option_and_then (entry_at suffix next)) own
      ∙ ap (option_and_then (entry_of suffix path)) (get-insert_here view path bytes) ∙ valid in
      let in_folder = subst (λ s. stands_in folders s path ≡ true) of_type stands in
      let made = built next folders suffix path item in_folder read in
      record { item = item; at = made.0; entry = made.1; good = e.good }

  is_image : has_suffix Efi (file_name_of path) ≡ true → e.entry.suffix ≡ Efi
  is_image efi = by e.entry.suffix (ap (has_suffix e.entry.suffix) name_is ∙ e.entry.of_type)
    where
      by : (suffix : Suffix) → has_suffix suffix (file_name_of path) ≡ true → suffix ≡ Efi
      by Conf conf = absurd (clash conf (one_type (file_name_of path) efi))
      by Efi of_type = refl

  -- ---- each command

  -- an unlinking of another path
  pub kept_unlink : (at : Path) → at ≢ path → HasGoodEntry folders path (unlink_answer view at).after
  kept_unlink at apart = by (map.get view at)
    where
      by : (found : Option (List ℕ)) → HasGoodEntry folders path (removal view at found).after
      by None = e
      by (Some bytes) = taken_apart at apart

  -- every installation: over the entry it leaves one again
  pub kept_install : (file name : List ℕ) (tries : Option (List ℕ)) (esp : List ℕ)
      → HasGoodEntry folders path (install_answer view file name tries esp).after
  kept_install file name tries esp =
      after_answered (HasGoodEntry folders path) view (install_result view file name tries esp) e (λ answer is.
      let words = done_by (installation_of file name tries esp) _ answer is in
      let image = done_by (installed_image view words.0) _ answer words.2 in
      let valid = image_is view words.0 image.0 image.1 in
      subst (λ (a : Answer). HasGoodEntry folders path a.after) (ok_is _ answer image.2)
      (elim (cases_same path words.0.target) [
        | inl same ↦
            let of_type = target_of_type file name esp tries words.0 words.1 in
            let efi = is_image (ap (λ (p : Path). has_suffix Efi (file_name_of p)) same ∙ of_type) in
            subst (λ (p : Path). HasGoodEntry folders path (map.insert view p image.0)) same
            (replaced Efi image.0 valid.0 efi (ap (λ (p : Path). entry_of Efi p image.0) same ∙ valid.1))
        | inr apart ↦
            let next = map.insert view words.0.target image.0 in
            unchanged next (get-insert_apart view words.0.target image.0 path apart)
      ]))

  moved_apart : (from to : Path) → from ≢ path → has view to ≡ false → HasGoodEntry folders path (move_in from to view)
  unfolding move_in
  moved_apart from to apart gone = elim (cases_same path to) [
    | inl one ↦ absurd (gone_apart to gone (sym one))
    | inr two ↦ elim (cases_same path from) [
      | inl here ↦ absurd (apart (sym here))
      | inr off ↦ unchanged (map.insert (map.remove view from) to (contents view from))
          (get-insert_apart (map.remove view from) to (contents view from) path two
          ∙ get-remove_apart view from path off)
    ]
  ]

  -- a boot: only a counted name changes, and never to one that is there
  kept_renamed : (from to : Path) → from ≢ path → (answer : Answer) → renamed_entry view from to ≡ Ok answer
      → HasGoodEntry folders path answer.after
  kept_renamed from to apart answer is = by (has view to) refl is
    where
      by : (taken : Bool) → has view to ≡ taken
          → (if taken then Err (refusals.TargetExists (printed_path to))
          else Ok (done_answer (move_in from to view) (booted_text to))) ≡ Ok answer
          → HasGoodEntry folders path answer.after
      by true taken is = absurd (err_ok (refusals.TargetExists (printed_path to)) answer is)
      by false gone is =
          subst (λ (a : Answer). HasGoodEntry folders path a.after) (ok_is _ answer is) (moved_apart from to apart gone)

  kept_booted : (folder from : Path) (name : Option (List ℕ)) → booted_name_of (file_name_of from) ≡ name
      → (answer : Answer)
      → booted_entry view folder from name ≡ Ok answer → HasGoodEntry folders path answer.after
  kept_booted folder from None named answer is =
      subst (λ (a : Answer). HasGoodEntry folders path a.after) (ok_is _ answer is) e
  kept_booted folder from (Some name) named answer is =
      let target = done_by (path_under folder name) _ answer is in
      kept_renamed from target.0 (counted_apart from (uncounted name named)) answer target.2
    where
      uncounted : (name : List ℕ) → booted_name_of (file_name_of from) ≡ Some name → split_of (file_name_of from) ≡ None
          → ⊥
      uncounted name named none = none_some name (sym (unbooted none) ∙ named)
        where
          unbooted : split_of (file_name_of from) ≡ None → booted_name_of (file_name_of from) ≡ None
          unbooted none = rw none refl

  pub kept_boot : (esp : List ℕ) → HasGoodEntry folders path (boot_answer view esp).after
  kept_boot esp = after_answered (HasGoodEntry folders path) view (boot_result view esp) e (λ answer is.
      let read = done_by (folders_of esp) _ answer is in
      let menu = done_by (menu_at view read.0) _ answer read.2 in
      let first = done_by (first_of menu.0) _ answer menu.2 in
      let item = first.0 in
      let name = booted_name_of (file_name_of item.path) in
      kept_booted (folder_of read.0 item.suffix) item.path name refl answer first.2)

  -- a blessing: only the good name may be taken away
  kept_choice : (verb : BlessVerb) (paths : EntryPaths) → AreReported paths
      → (has view paths.good ≡ true → has view (path_at paths (target_of verb)) ≡ false → paths.good ≢ path)
      → (choice : BlessChoice) → choice_of verb (present_at view paths) ≡ choice → (answer : Answer)
      → blessed_by view verb paths (path_at paths (target_of verb)) choice ≡ Ok answer
      → HasGoodEntry folders path answer.after
  kept_choice verb paths are good choices.Nothing at answer is =
      subst (λ (a : Answer). HasGoodEntry folders path a.after) (ok_is _ answer is) e
  kept_choice verb paths are good choices.FromGood at answer is =
      let can = can_bless view verb paths GoodName at in
      subst (λ (a : Answer). HasGoodEntry folders path a.after) (ok_is _ answer is)
      (moved_apart paths.good (path_at paths (target_of verb)) (good can.0 can.1) can.1)
  kept_choice verb paths are good choices.FromCounted at answer is =
      let can = can_bless view verb paths CountedName at in
      subst (λ (a : Answer). HasGoodEntry folders path a.after) (ok_is _ answer is)
      (moved_apart paths.counted (path_at paths (target_of verb))
      (counted_apart paths.counted (reported_counted paths are)) can.1)
  kept_choice verb paths are good choices.FromBad at answer is =
      let can = can_bless view verb paths BadName at in
      subst (λ (a : Answer). HasGoodEntry folders path a.after) (ok_is _ answer is)
      (moved_apart paths.bad (path_at paths (target_of verb))
      (counted_apart paths.bad (bad_is_counted paths are)) can.1)
  kept_choice verb paths are good choices.NoSource at answer is =
      absurd (err_ok (refusals.NoSource (printed_path paths.counted)) answer is)

  kept_meant : (verb : BlessVerb) (word esp : List ℕ)
      → ((paths : EntryPaths) → reported_paths word esp ≡ Ok paths
      → has view paths.good ≡ true → has view (path_at paths (target_of verb)) ≡ false → paths.good ≢ path)
      → HasGoodEntry folders path (answer_or_refusal view (bless_result view verb word esp)).after
  kept_meant verb word esp good =
      after_answered (HasGoodEntry folders path) view (bless_result view verb word esp) e (λ answer is.
      let paths = done_by (reported_paths word esp) (bless_entry view verb) answer is in
      let choice = choice_of verb (present_at view paths.0) in
      kept_choice verb paths.0 (reported word esp paths.0 paths.1) (good paths.0 paths.1) choice refl answer paths.2)

  spared : (word esp : List ℕ) → IfOk (reported_paths word esp) (λ paths. paths.good ≢ path) → (paths : EntryPaths)
      → reported_paths word esp ≡ Ok paths → paths.good ≢ path
  spared word esp spares paths is =
      subst (λ (r : Result EntryPaths Refusal). IfOk r (λ paths. paths.good ≢ path)) is spares

  pub kept_bless : (verb : BlessWord) (word esp : List ℕ) → SparesGoodName path verb word esp
      → HasGoodEntry folders path (bless_answer view verb word esp).after
  kept_bless (words.Mark verbs.Good) word esp spares =
      kept_meant verbs.Good word esp (λ paths is there gone. absurd (clash there gone))
  kept_bless (words.Mark verbs.Bad) word esp spares =
      kept_meant verbs.Bad word esp (λ paths is there gone. spared word esp spares paths is)
  kept_bless (words.Mark verbs.Indeterminate) word esp spares =
      kept_meant verbs.Indeterminate word esp (λ paths is there gone. spared word esp spares paths is)
  kept_bless words.Status word esp spares = after_said (HasGoodEntry folders path) view (status_result view word esp) e
