-- A run of `keep` removes what is doomed, in order.
use Rattle.std.proofs.Common.{◌≡◌, ◌≢◌, ℕ, zero, suc, ◌+◌, ◌≤◌, Bool, true, false, not, cond, ◌||◌, List, [], ◌∷◌, map, take, length, Option, Some, None, inl, inr, ⊎_elim, refl, sym, ap, ◌∙◌, subst, arith, Result, Ok, Err, Contains, bytes_eq}
use Rattle.std.specs.List.{IsDistinct, list_any}
use Rattle.std.specs.FinMap as maps
use Rattle.std.proofs.lemmas.Bool.{cases_Bool, le-ltb, not-true, or_parts}
use Rattle.std.proofs.lemmas.List.{append-nil, length-map, take_all}
use Rattle.boot_base.specs.Paths.{Path}
use Rattle.boot_base.specs.declared.refusal.Refusal.{Refusal}
use Rattle.boot_entries.specs.Entries.{boot_menu, entry_count}
use Rattle.boot_entries.specs.Removals.{is_among, menu_without, remove_files}
use Rattle.boot_entries.specs.declared.folders.Folders.{Folders}
use Rattle.boot_entries.proofs.EntryFiles.{bytes_self}
use Rattle.boot_entries.proofs.Members.{passing, passing_from}
use Rattle.boot_entries.proofs.Removing.{count_removed, menu_own, menu_removed}
use Rattle.boot_machine.specs.Prelude.{Files, is_same_path, latest_view}
use Rattle.boot_machine.specs.proofs.Maps.{get-remove, is_same_path-true, same_files}
use Rattle.command_plans.specs.Prelude.{removal, unlink_answer, ◌>>=◌, menu_at}
use Rattle.menu_order.specs.Doomed.{doomed_records, kept_records}
use Rattle.menu_order.specs.KeepLaws.{doomed_paths}
use Rattle.menu_order.proofs.Again.{keeps_on}
use Rattle.menu_order.proofs.Without.{kept_without}
use Rattle.menu_order.specs.declared.item.MenuItem.{MenuItem}
use Rattle.tool_words.specs.Meaning.{meaning}
use Rattle.tool_words.specs.declared.action.Action.{Action}
use Rattle.tool_words.specs.declared.action.Action.TheVariants as action
use Rattle.tool_words.specs.declared.command.KeepWords.{KeepWords}
use Rattle.entry_commands.proofs.Kept.{result_is}
use Rattle.entry_commands.specs.Keeping.{keep_result, menu_paths, some_menu}
use Rattle.boot_commands.specs.Expansions.{actions_or_refusal, expansion, keep_actions}
use Rattle.boot_commands.specs.Replies.{action_reply}
use Rattle.boot_commands.proofs.Unrefused.{AreThere, doomed_there, own_doomed, removals_done}
use Rattle.boot_run.specs.AskedLines.{lines_for, lines_to_run}
use Rattle.boot_run.specs.Lines.{line_deed}
use Rattle.boot_run.specs.Step.{Acknowledges, Step, StepBy, join_replies, replies, some_refused, view_after}
use Rattle.boot_run.specs.declared.line.Line.{Line}
use Rattle.boot_run.specs.declared.line.Line.TheVariants.{Part}
use Rattle.boot_run.proofs.UpToRefused.{none_refused}
use Rattle.boot_history.specs.Asking.{AllLines}
use Rattle.boot_history.specs.GoodEntries.{LineSpares}
use Rattle.boot_history.specs.Histories.{IsHistory, Run}
use Rattle.boot_history.specs.Newest.{AllowsKeep, KeepSparesLaw, NewestLaw, ToldLaw, UnrefusedLaw, keep_command}
use Rattle.boot_history.proofs.Alike.{length-replies}
use Rattle.boot_history.proofs.Counting.{one_run}

-- ---- one line

-- without a path where no file is, a map is the same
remove_none : (view : Files) (path : Path) → maps.get view path ≡ None → maps.remove view path ≡ view
remove_none view path none = same_files (maps.remove view path) view (λ q. elim (cases_Bool (is_same_path q path)) [
  | inl same ↦ get-remove view path q ∙ ap (λ b. cond b None (maps.get view q)) same ∙ sym (ap (maps.get view) (is_same_path-true q path same) ∙ none)
  | inr other ↦ get-remove view path q ∙ ap (λ b. cond b None (maps.get view q)) other
])

-- the file at the path goes, if one is there
taken : (view : Files) (path : Path) → (unlink_answer view path).after ≡ maps.remove view path
taken view path = by (maps.get view path) refl
  where
    by : (found : Option (List ℕ)) → maps.get view path ≡ found → (removal view path found).after ≡ maps.remove view path
    by None none = sym (remove_none view path none)
    by (Some bytes) some = refl

pub removed : (view : Files) (path : Path) → (line_deed view (Part (action.Remove path))).after ≡ maps.remove view path
unfolding action_reply
removed view path = taken view path

-- an action that only tells or refuses leaves the view
told_line : (view : Files) (text : List ℕ) → (line_deed view (Part (action.Tell text))).after ≡ view
unfolding action_reply
told_line view text = refl

refused_line : (view : Files) (why : Refusal) → (line_deed view (Part (action.Refuse why))).after ≡ view
unfolding action_reply
refused_line view why = refl

-- ---- the lines

-- the lines of a `keep` that found these paths, or was refused
unfoldable pub lines_of : KeepWords → Result (List Path) Refusal → List Line
lines_of words found = map Part (actions_or_refusal (keep_actions words.dry_run) found)

pub lines_are : (view : Files) (input : List ℕ) (words : KeepWords) → lines_for input view (keep_command words) ≡ lines_of words (keep_result view words)
unfolding expansion lines_of
lines_are view input words = refl

-- the lines that remove these files
abbrev pub removal_lines : List Path → List Line
removal_lines paths = map Part (map action.Remove paths)

pub all_removed : (view : Files) (paths : List Path) (n : ℕ) → view_after view (take n (removal_lines paths)) ≡ remove_files view (take n paths)
all_removed view paths zero = refl
all_removed view [] (suc n) = refl
all_removed view (path ∷ paths) (suc n) =
    all_removed (line_deed view (Part (action.Remove path))).after paths n
    ∙ ap (λ v. remove_files v (take n paths)) (removed view path)

take_none : {X : Type 0} (n : ℕ) → take {A = X} n [] ≡ []
take_none zero = refl
take_none (suc n) = refl

one_stays : (view : Files) (c : Action) → (line_deed view (Part c)).after ≡ view → (n : ℕ) → view_after view (take n (Part c ∷ [])) ≡ view
one_stays view c same zero = refl
one_stays view c same (suc n) = ap (λ lines. view_after (line_deed view (Part c)).after lines) (take_none n) ∙ same

one_told : (view : Files) (text : List ℕ) (n : ℕ) → view_after view (take n (Part (action.Tell text) ∷ [])) ≡ view
one_told view text n = one_stays view (action.Tell text) (told_line view text) n

module _ (view : Files) (words : KeepWords) where
  by_words : (dry_run : Bool) (paths : List Path) → dry_run ≡ false → (n : ℕ)
      → view_after view (take n (map Part (keep_actions dry_run paths))) ≡ remove_files view (take n paths)
  by_words true paths is n = absurd (clash is)
    where
      clash : true ≡ false → ⊥
      clash e = cc
  by_words false [] is n = one_told view _ n ∙ ap (remove_files view) (sym (take_none n))
  by_words false (path ∷ paths) is n = all_removed view (path ∷ paths) n

  kept_after : words.dry_run ≡ false → (paths : List Path) (n : ℕ) → view_after view (take n (lines_of words (Ok paths))) ≡ remove_files view (take n paths)
  unfolding lines_of
  kept_after is paths n = by_words words.dry_run paths is n

  told_by : (dry_run : Bool) (paths : List Path) → dry_run ≡ true → (n : ℕ)
      → view_after view (take n (map Part (keep_actions dry_run paths))) ≡ view
  told_by true paths is n = one_told view _ n
  told_by false paths is n = absurd (clash is)
    where
      clash : false ≡ true → ⊥
      clash e = cc

  told_after : words.dry_run ≡ true → (found : Result (List Path) Refusal) (n : ℕ) → view_after view (take n (lines_of words found)) ≡ view
  unfolding lines_of
  told_after is (Err why) n = one_stays view (action.Refuse why) (refused_line view why) n
  told_after is (Ok paths) n = told_by words.dry_run paths is n

  -- there are no fewer lines than paths
  enough_by : (dry_run : Bool) (paths : List Path) → dry_run ≡ false → length paths ≤ length (map Part (keep_actions dry_run paths))
  enough_by true paths is = absurd (clash is)
    where
      clash : true ≡ false → ⊥
      clash e = cc
  enough_by false [] is = omega arith
  enough_by false (path ∷ paths) is = omega (arith, length-map (path ∷ paths) action.Remove, length-map (map action.Remove (path ∷ paths)) Part)

  enough : words.dry_run ≡ false → (paths : List Path) → length paths ≤ length (lines_of words (Ok paths))
  unfolding lines_of
  enough is paths = enough_by words.dry_run paths is

-- a menu that has an entry isn't refused
some_is : (menu : List MenuItem) → menu ≢ [] → some_menu menu ≡ Ok menu
some_is [] some = absurd (some refl)
some_is (first ∷ later) some = refl

pub found_is : (view : Files) (words : KeepWords) (n : ℕ) (folders : Folders) → AllowsKeep view words n folders
    → keep_result view words ≡ Ok (doomed_paths n words.per_key (boot_menu view folders))
found_is view words n folders is =
    let menu = boot_menu view folders in
    let shown : menu_at view folders ≡ Ok menu = rw (le-ltb 4096 (entry_count view folders) is.few) refl in
    let named : menu_paths n words.per_key menu ≡ Ok (doomed_paths n words.per_key menu) =
    ap (λ (m : Result (List MenuItem) Refusal). m >>= λ menu. Ok (doomed_paths n words.per_key menu)) (some_is menu is.some) in
    result_is view words n folders menu (doomed_paths n words.per_key menu) is.number is.place shown named

-- ---- the menu

-- a record that isn't at any of the paths isn't at any of the first ones
any_front : {X : Type 0} (p : X → Bool) (xs : List X) (n : ℕ) → list_any p xs ≡ false → list_any p (take n xs) ≡ false
any_front p xs zero none = refl
any_front p [] (suc n) none = refl
any_front p (x ∷ xs) (suc n) none =
    let parts = or_parts (p x) (list_any p xs) none in
    ap (λ b. b || list_any p (take n xs)) parts.0 ∙ any_front p xs n parts.1

module _ (n : ℕ) (per_key : Bool) (first : Files) (folders : Folders) where
  abbrev menu : List MenuItem
  menu = boot_menu first folders

  abbrev paths : List Path
  paths = doomed_paths n per_key menu

  kept_is : kept_records n per_key menu ≡ menu_without paths menu
  kept_is = kept_without n per_key menu (menu_own first folders)

  kept_still : (count : ℕ) (item : MenuItem) → Contains (kept_records n per_key menu) item → Contains (menu_without (take count paths) menu) item
  kept_still count item is =
      let passed = passing_from (λ (i : MenuItem). not (is_among paths i)) menu item (subst (λ (l : List MenuItem). Contains l item) kept_is is) in
      passing (λ (i : MenuItem). not (is_among (take count paths) i)) menu item passed.0
      (ap not (any_front (bytes_eq item.path) paths count (not-true (is_among paths item) passed.1)))

-- the lines of a run whose words are a `keep`
steps_are : (state : List Files) (run : Run) (words : KeepWords) → meaning run.words ≡ Ok (keep_command words) → IsHistory state (run ∷ [])
    → Step state (lines_for run.input (latest_view state) (keep_command words)) run.left run.sent run.end
steps_are state run words meant history =
    subst (λ asks. StepBy state asks run.left run.sent run.end) (ap (lines_to_run run.input (latest_view state)) meant) history.0.step

pub newest_law : NewestLaw
newest_law state run words n folders start history meant acts allowed view there =
    let first = latest_view state in
    let lines = lines_for run.input first (keep_command words) in
    let per_key = words.per_key in
    let step = steps_are state run words meant history in
    let doomed = doomed_paths n per_key (boot_menu first folders) in
    let are : lines ≡ lines_of words (Ok doomed) = lines_are first run.input words ∙ ap (lines_of words) (found_is first words n folders allowed) in
    let after : (k : ℕ) → view_after first (take k lines) ≡ remove_files first (take k doomed) =
    λ k. ap (λ (l : List Line). view_after first (take k l)) are ∙ kept_after first words acts doomed k in
    let long : length doomed ≤ length lines = subst (λ (l : List Line). length doomed ≤ length l) (sym are) (enough first words acts doomed) in
    let from = one_run state run.left run.sent run.end start.some (λ v. Ok lines) (Ok lines) refl (λ v j all. refl) step view there in
    let begins : from.start ≡ first = start.one from.start from.there in
    let acked : Acknowledges (replies first lines) run.sent from.may.acked = subst (λ v. Acknowledges (replies v lines) run.sent from.may.acked) begins from.may.is_acked in
    let is : view ≡ remove_files first (take from.n doomed) = from.is ∙ ap (λ v. view_after v (take from.n lines)) begins ∙ after from.n in
    let shows : boot_menu view folders ≡ menu_without (take from.n doomed) (boot_menu first folders) =
    ap (λ v. boot_menu v folders) is ∙ menu_removed first folders (take from.n doomed) in
    let all : run.sent ≡ join_replies (replies first lines) → boot_menu view folders ≡ kept_records n per_key (boot_menu first folders) =
    λ said.
    let every : length (replies first lines) ≤ from.may.acked =
    acked.most (length (replies first lines)) (omega arith) (
      [],
      append-nil (join_replies (take (length (replies first lines)) (replies first lines)))
          ∙ ap join_replies (take_all (length (replies first lines)) (replies first lines) (omega arith)) ∙ sym said,
    ) in
    let more : from.may.acked ≤ from.n = ⊎_elim (λ (e : from.n ≡ from.may.acked). omega arith) (λ (e : from.n ≡ from.may.acked + 1). omega arith) from.may.one_more in
    let whole : length doomed ≤ from.n = omega (arith, length-replies first lines, long, every, more) in
    shows
    ∙ ap (λ (l : List Path). menu_without l (boot_menu first folders)) (take_all from.n doomed whole)
    ∙ sym (kept_is n per_key first folders) in
    record {
      count = from.n;
      acked = from.may.acked;
      is_acked = acked;
      one_more = from.may.one_more;
      menu = shows;
      kept = λ item kept. subst (λ (l : List MenuItem). Contains l item) (sym shows) (kept_still n per_key first folders from.n item kept);
      few = subst (λ v. entry_count v folders ≤ entry_count first folders) (sym is) (count_removed first folders (take from.n doomed));
      rest = ap (doomed_records n per_key) shows ∙ keeps_on n per_key (boot_menu first folders) from.n (menu_own first folders);
      said = all;
      finished = λ ended. all (step.finished ended);
    }

pub told_law : ToldLaw
told_law state run words start history meant tells view there =
    let first = latest_view state in
    let lines = lines_for run.input first (keep_command words) in
    let from = one_run state run.left run.sent run.end start.some (λ v. Ok lines) (Ok lines) refl (λ v j all. refl) (steps_are state run words meant history) view there in
    from.is ∙ ap (λ v. view_after v (take from.n lines)) (start.one from.start from.there)
    ∙ ap (λ (l : List Line). view_after first (take from.n l)) (lines_are first run.input words)
    ∙ told_after first words tells (keep_result first words) from.n

-- ---- what it spares

module _ (path : Path) (words : KeepWords) where
  differ : (other : Path) → bytes_eq path other ≡ false → other ≢ path
  differ other apart same = clash (sym (bytes_self path) ∙ ap (bytes_eq path) (sym same) ∙ apart)
    where
      clash : true ≡ false → ⊥
      clash e = cc

  removals_spare : (paths : List Path) → list_any (bytes_eq path) paths ≡ false → AllLines (LineSpares path) (removal_lines paths)
  removals_spare [] none = tt
  removals_spare (other ∷ later) none =
      let parts = or_parts (bytes_eq path other) (list_any (bytes_eq path) later) none in
      (differ other parts.0, removals_spare later parts.1)

  spare_by : (dry_run : Bool) (paths : List Path) → list_any (bytes_eq path) paths ≡ false
      → AllLines (LineSpares path) (map Part (keep_actions dry_run paths))
  spare_by true _ none = (tt, tt)
  spare_by false [] none = (tt, tt)
  spare_by false (other ∷ later) none = removals_spare (other ∷ later) none

  lines_spare : (paths : List Path) → list_any (bytes_eq path) paths ≡ false → AllLines (LineSpares path) (lines_of words (Ok paths))
  unfolding lines_of
  lines_spare paths none = spare_by words.dry_run paths none

pub keep_spares_law : KeepSparesLaw
keep_spares_law view input words n folders path allowed none =
    subst (AllLines (LineSpares path))
    (sym (lines_are view input words ∙ ap (lines_of words) (found_is view words n folders allowed)))
    (lines_spare path words (doomed_paths n words.per_key (boot_menu view folders)) none)

-- ---- no reply is a refusal

told_unrefused : (view : Files) (text : List ℕ) → some_refused view (Part (action.Tell text) ∷ []) ≡ false
unfolding action_reply
told_unrefused view text = refl

refused_by : (first : Files) (dry_run : Bool) (paths : List Path) → IsDistinct bytes_eq paths → AreThere first paths
    → some_refused first (map Part (keep_actions dry_run paths)) ≡ false
refused_by first true _ distinct there = told_unrefused first _
refused_by first false [] distinct there = told_unrefused first _
refused_by first false (path ∷ later) distinct there =
    none_refused first (map action.Remove (path ∷ later)) (removals_done first (path ∷ later) distinct there)

none_by : (first : Files) (words : KeepWords) (paths : List Path) → IsDistinct bytes_eq paths → AreThere first paths
    → some_refused first (lines_of words (Ok paths)) ≡ false
unfolding lines_of
none_by first words paths distinct there = refused_by first words.dry_run paths distinct there

pub unrefused_law : UnrefusedLaw
unrefused_law view input words n folders allowed =
    let found = found_is view words n folders allowed in
    ap (some_refused view) (lines_are view input words ∙ ap (lines_of words) found)
    ∙ none_by view words (doomed_paths n words.per_key (boot_menu view folders)) (own_doomed n words.per_key view folders) (doomed_there n words.per_key view folders)
