-- The payloads of entries stay along a history.
use Rattle.std.proofs.Common.{◌≡◌, ◌≢◌, inl, inr, ℕ, zero, suc, Bool, true, false, List, [], ◌∷◌, ◌++◌, length, map, take, Option, Some, None, Result, Ok, Err, refl, sym, ap, ◌∙◌, subst, arith, append_assoc, All, IfOk, Contains, codes, is_some, nat_le, nat_lt, ◌&&◌, ◌||◌, if◌then◌else◌}
use Rattle.std.proofs.lemmas.List.Elements.{All-cons, All-head, All-nil, All-tail}
use Rattle.std.specs.FinMap as map_of
use Rattle.std.specs.List.{list_any}
use Rattle.std.proofs.lemmas.Bool.{and_parts, or_cases}
use Rattle.std.proofs.lemmas.Slice.Eq.{bytes_eq-Decides}
use Rattle.boot_base.specs.Layout.{entries_below, images_below}
use Rattle.boot_base.specs.Paths.{Path, file_name_of, is_file_name, is_kept, is_slash, normal_of, path_of, under}
use Rattle.boot_base.specs.declared.refusal.Refusal.{Refusal}
use Rattle.boot_base.specs.declared.refusal.Refusal.TheVariants as refusals
use Rattle.menu_order.specs.Renames.{booted_name_of}
use Rattle.menu_order.specs.Splits.{has_suffix}
use Rattle.menu_order.specs.declared.counted.Suffix.{Suffix}
use Rattle.menu_order.specs.declared.counted.Suffix.TheVariants.{Conf, Efi}
use Rattle.menu_order.specs.declared.item.MenuItem.{MenuItem}
use Rattle.boot_texts.specs.BootEntries.{boots, type1_of}
use Rattle.boot_texts.specs.declared.conf_change.ConfKey.{ConfKey}
use Rattle.boot_texts.specs.declared.conf_change.ConfKey.TheVariants.{Default, Timeout}
use Rattle.boot_entries.specs.Entries.{IsEntry, boot_menu, entry_count, entry_of, folder_of}
use Rattle.boot_entries.specs.Records.{type1_item}
use Rattle.boot_entries.specs.declared.folders.Folders.{Folders}
use Rattle.boot_entries.proofs.EntryFiles.{entries_menu, image_pairs, one_type}
use Rattle.boot_entries.proofs.Places.{file_name_under, name_parts}
use Rattle.boot_machine.specs.Prelude.{Files, has, move_in, latest_view}
use Rattle.command_plans.specs.Prelude.{Answer, answer_of_read, done_answer, path_in, path_under, printed_path, folders_of, menu_at, unless_refused, removal, unlink_answer}
use Rattle.tool_words.specs.Meaning.{meaning}
use Rattle.tool_words.specs.declared.command.Command.{Command}
use Rattle.tool_words.specs.declared.command.Command.TheVariants as command
use Rattle.tool_words.specs.declared.command.One.{One}
use Rattle.tool_words.specs.declared.command.One.TheVariants as one
use Rattle.tool_words.specs.declared.command.Several.TheVariants as several
use Rattle.tool_words.specs.declared.fault.UsageReason.{UsageReason}
use Rattle.image_build.specs.Building.{BuiltImage, build_of, built_answer}
use Rattle.image_build.proofs.Outputs.{build_output}
use Rattle.image_commands.specs.Calculating.{calculate_result}
use Rattle.image_commands.specs.Said.{identify_result, inspect_result, measure_result}
use Rattle.entry_commands.specs.Booting.{boot_answer, boot_result, booted_entry, booted_text, first_of, renamed_entry}
use Rattle.entry_commands.specs.Installing.{install_answer, install_result, installation_of, installed_image}
use Rattle.entry_commands.specs.Listing.{list_result}
use Rattle.entry_commands.specs.Tidying.{tidy_answer}
use Rattle.entry_commands.specs.Unlinking.{entry_below, entry_path, is_entry_name, is_type1_name}
use Rattle.entry_commands.proofs.ImageNames.{read_last}
use Rattle.entry_commands.proofs.InstalledEntry.{target_of_type}
use Rattle.entry_commands.proofs.Renamed.{AreSiblings, blessed}
use Rattle.command_plans.proofs.Steps.{after_answered, clash, err_ok, ok_is}
use Rattle.command_plans.proofs.Steps.{done_by}
use Rattle.loader_commands.specs.Places.{conf_below, conf_path}
use Rattle.loader_commands.specs.Setting.{changed_text, conf_update, set_answer, set_result, value_in}
use Rattle.loader_commands.specs.Showing.{show_result}
use Rattle.type1_install.specs.Payloads.{folders_at, payload_folder}
use Rattle.type1_install.proofs.Cleaning.{folders_are}
use Rattle.type1_install.proofs.Cleaning.{menu_is}
use Rattle.type1_install.proofs.Installing.{IsNormal, under_is}
use Rattle.type1_install.proofs.PayloadsKept.{IsConfFile, NotPayload, conf_name, payload_slash, some_if, suffix_not_payload}
use Rattle.type1_install.proofs.Planned.{word_normal}
use Rattle.boot_commands.specs.Demonstration.{demo_result}
use Rattle.boot_commands.specs.Expansions.{expansion}
use Rattle.boot_commands.specs.Replies.{one_reply}
use Rattle.boot_commands.proofs.ConfPlaces.{below_ends, last_byte}
use Rattle.boot_commands.proofs.Unrefused.{made_or_refused}
use Rattle.boot_run.specs.AskedLines.{lines_for, lines_to_run}
use Rattle.boot_run.specs.Lines.{line_deed}
use Rattle.boot_run.specs.Step.{view_after}
use Rattle.boot_run.specs.declared.line.Line.{Line}
use Rattle.boot_run.specs.declared.line.Line.TheVariants.{Plain, Part, Numbered, Unread, TooLong}
use Rattle.boot_run.proofs.ScriptLines.{each_line}
use Rattle.boot_history.specs.Asking.{AllLines, EachAsks, EachMeans}
use Rattle.boot_history.specs.Histories.{Run, state_after}
use Rattle.boot_history.specs.Keeping.{KeptBy, KeptFrom}
use Rattle.boot_history.specs.Payloads.{AreNamedThere, BuildsApart, LineApart, PayloadLaw, is_directly_in, keeps_payloads}
use Rattle.boot_history.proofs.Keeping.{kept_later}
use Rattle.boot_history.proofs.NamedKept.{put_kept, remove_kept}
use Rattle.boot_history.proofs.PayloadMoves.{booted_beside, moved, normal_folder}
use Rattle.boot_history.proofs.Payloads.{cleanup_keeps, install_keeps, refused_keeps, told_keeps}
use Rattle.boot_history.proofs.PayloadsNewest.{keep_keeps}

-- ---- places

-- what stands apart from a folder is no file directly in it
apart_from : (folder path name : List ℕ) → is_directly_in folder path ≡ false → file_name_of (under folder name) ≡ name → path ≢ under folder name
apart_from folder path name apart last same =
    let whole : under folder (file_name_of path) ≡ path = ap (under folder) (ap file_name_of same ∙ last) ∙ sym same in
    clash ((bytes_eq-Decides (under folder (file_name_of path)) path).1 whole) apart

no_conf : (esp path : Path) → has_suffix Efi (file_name_of path) ≡ true → IsConfFile esp path → ⊥
no_conf esp path efi conf =
    clash (ap (has_suffix Conf) (conf_name esp path conf) ∙ conf.of_type) (one_type (file_name_of path) efi)

-- the type of an entry's item is that of its file
kind_is : (suffix : Suffix) (path : Path) (bytes : List ℕ) (item : MenuItem) → entry_of suffix path bytes ≡ Some item → item.suffix ≡ suffix
kind_is Conf path bytes item valid =
    ap (λ (i : MenuItem). i.suffix) (sym (some_if (nat_le (length bytes) 65536 && boots bytes) (type1_item path (type1_of bytes)) item valid).1)
kind_is Efi path bytes item valid = ap (λ (i : MenuItem). i.suffix) (image_pairs path bytes item valid).1

in_menu : (menu : List MenuItem) (item : MenuItem) → first_of menu ≡ Ok item → Contains menu item
in_menu [] item is = absurd (err_ok refusals.NoEntries item is)
in_menu (first ∷ later) item is = (0, omega arith, ok_is first item is)

-- a loader.conf is no payload and no entry of type 1
conf_apart : (esp word path : List ℕ) → conf_path word ≡ Ok path → NotPayload esp path × (IsConfFile esp path → ⊥)
conf_apart esp word path is =
    let at = done_by (path_in word) _ path is in
    let ends = below_ends (codes "loader") (codes "loader.conf") refl refl at.0 conf_below path refl at.2 in
    let stands : path ≡ under (ends.0 ++ codes "loader") (codes "loader.conf") = ends.1 in
    let named : file_name_of path ≡ codes "loader.conf" = ap file_name_of stands ∙ file_name_under (ends.0 ++ codes "loader") (codes "loader.conf") refl in (
      suffix_not_payload esp path Conf (ap (has_suffix Conf) named),
      λ conf.
          let entries = (folders_at esp).entries in
          let one = (name_parts conf.name conf.is_name).1 in
          let folder : entries ≡ under esp (codes "loader/entrie") ++ 115 ∷ [] = sym (append_assoc esp (47 ∷ codes "loader/entrie") (115 ∷ [])) in
          let loader : ends.0 ++ codes "loader" ≡ (ends.0 ++ codes "loade") ++ 114 ∷ [] = sym (append_assoc ends.0 (codes "loade") (114 ∷ [])) in
          last_byte (under esp (codes "loader/entrie")) (ends.0 ++ codes "loade") conf.name (codes "loader.conf") 115 114 (λ is. omega arith) one refl
          (ap (λ (f : List ℕ). under f conf.name) (sym folder) ∙ sym conf.at ∙ stands ∙ ap (λ (f : List ℕ). under f (codes "loader.conf")) loader),
    )

-- the path of a name below a folder ends in it
last_below : (folder below name at : Path) → is_kept name ≡ true → list_any is_slash name ≡ false → path_under folder (below ++ 47 ∷ name) ≡ Ok at → file_name_of at ≡ name
last_below folder below name at kept one is =
    let text : under folder (below ++ 47 ∷ name) ≡ under (under folder below) name = sym (append_assoc folder (47 ∷ below) (47 ∷ name)) in
    ap file_name_of (sym (under_is folder (below ++ 47 ∷ name) at is) ∙ ap normal_of text) ∙ read_last name kept one (under folder below)

-- what is unlinked is no payload
unlink_apart : (esp : Path) (name word : List ℕ) (at : Path) → entry_path name word ≡ Ok at → NotPayload esp at
unlink_apart esp name word at is =
    let e = done_by (path_in word) _ at is in
    by (is_entry_name name) refl e.0 e.2
  where
    ends : (e : Path) → is_file_name name ≡ true → (conf : Bool) → path_under e (under (if conf then entries_below else images_below) name) ≡ Ok at
        → file_name_of at ≡ name
    ends e is_name true is = let parts = name_parts name is_name in last_below e entries_below name at parts.0 parts.1 is
    ends e is_name false is = let parts = name_parts name is_name in last_below e images_below name at parts.0 parts.1 is

    by : (fits : Bool) → is_entry_name name ≡ fits → (e : Path) → (if fits then path_under e (entry_below name) else Err (refusals.BadName name)) ≡ Ok at → NotPayload esp at
    by false fits e is = absurd (err_ok (refusals.BadName name) at is)
    by true fits e is =
        let parts = and_parts (is_file_name name) (has_suffix Conf name || has_suffix Efi name) fits in
        let last = ends e parts.0 (is_type1_name name) is in
        elim (or_cases (has_suffix Conf name) (has_suffix Efi name) parts.1) [
          | inl conf ↦ suffix_not_payload esp at Conf (ap (has_suffix Conf) last ∙ conf)
          | inr efi ↦ suffix_not_payload esp at Efi (ap (has_suffix Efi) last ∙ efi)
        ]

-- ---- one command

abbrev Apart : Path → Path → Type 0
Apart esp output = (is_directly_in (payload_folder esp) output ≡ false) × (is_directly_in (folders_at esp).entries output ≡ false)

module _ (counts : List ℕ → Bool) (esp : Path) (view : Files) (ok : AreNamedThere counts esp view) where
  kept_said : (text : Result (List ℕ) Refusal) → AreNamedThere counts esp (answer_of_read view text).after
  kept_said (Ok text) = ok
  kept_said (Err why) = ok

  kept_unless : {X : Type 0} (read : Result X Refusal) (next : X → Answer)
      → ((x : X) → read ≡ Ok x → AreNamedThere counts esp (next x).after)
      → AreNamedThere counts esp (unless_refused view read next).after
  kept_unless (Ok x) next each = each x refl
  kept_unless (Err why) next each = ok

  kept_built : (measure : Bool) (output : Result Path Refusal) (built : Result BuiltImage Refusal)
      → IfOk built (λ built. output ≡ Ok built.output) → IfOk output (Apart esp) → AreNamedThere counts esp (built_answer view measure built).after
  kept_built measure output (Err why) is apart = ok
  kept_built measure output (Ok built) is apart =
      let entries = (folders_at esp).entries in
      let at = built.output in
      let facts = subst (λ (r : Result Path Refusal). IfOk r (Apart esp)) is apart in
      put_kept counts esp view ok at built.image
      (λ name fits. apart_from (payload_folder esp) at name facts.0 (file_name_under (payload_folder esp) name (payload_slash name fits)))
      (λ conf. absurd (apart_from entries at conf.name facts.1 (file_name_under entries conf.name (name_parts conf.name conf.is_name).1) conf.at))

  kept_unlink : (at : Path) → NotPayload esp at → AreNamedThere counts esp (unlink_answer view at).after
  kept_unlink at apart = by (map_of.get view at)
    where
      by : (found : Option (List ℕ)) → AreNamedThere counts esp (removal view at found).after
      by None = ok
      by (Some bytes) = remove_kept counts esp view ok at apart

  kept_install : (file name : List ℕ) (tries : Option (List ℕ)) (word : List ℕ) → AreNamedThere counts esp (install_answer view file name tries word).after
  kept_install file name tries word =
      after_answered (AreNamedThere counts esp) view (install_result view file name tries word) ok (λ answer is.
      let words = done_by (installation_of file name tries word) _ answer is in
      let image = done_by (installed_image view words.0) _ answer words.2 in
      let of_type = target_of_type file name word tries words.0 words.1 in
      subst (λ (a : Answer). AreNamedThere counts esp a.after) (ok_is _ answer image.2)
      (put_kept counts esp view ok words.0.target image.0 (suffix_not_payload esp words.0.target Efi of_type)
      (λ conf. absurd (no_conf esp words.0.target of_type conf))))

  kept_set : (key : ConfKey) (value word : List ℕ) → AreNamedThere counts esp (set_answer view key value word).after
  kept_set key value word =
      after_answered (AreNamedThere counts esp) view (set_result view key value word) ok (λ answer is.
      let change = done_by (conf_update view key value word) _ answer is in
      let valued = done_by (value_in key value) _ change.0 change.1 in
      let at = done_by (conf_path word) _ change.0 valued.2 in
      let text = done_by (changed_text view key valued.0 at.0) _ change.0 at.2 in
      let place : at.0 ≡ change.0.0 = ap (λ (c : Path × List ℕ). c.0) (ok_is (at.0, text.0) change.0 text.2) in
      let apart = subst (λ (p : Path). NotPayload esp p × (IsConfFile esp p → ⊥)) place (conf_apart esp word at.0 at.1) in
      subst (λ (a : Answer). AreNamedThere counts esp a.after) (ok_is _ answer change.2)
      (put_kept counts esp view ok change.0.0 change.0.1 apart.0 (λ conf. absurd (apart.1 conf))))

  -- ---- a boot

  renamed : (from to : Path) → AreSiblings from to → has view from ≡ true → (answer : Answer) → renamed_entry view from to ≡ Ok answer
      → AreNamedThere counts esp answer.after
  renamed from to are there answer is = by (has view to) is
    where
      by : (taken : Bool)
          → (if taken then Err (refusals.TargetExists (printed_path to)) else Ok (done_answer (move_in from to view) (booted_text to))) ≡ Ok answer
          → AreNamedThere counts esp answer.after
      by true is = absurd (err_ok (refusals.TargetExists (printed_path to)) answer is)
      by false is = subst (λ (a : Answer). AreNamedThere counts esp a.after) (ok_is _ answer is) (moved counts esp from to are view ok there)

  booted : (folder from : Path) (name : List ℕ) → IsNormal folder → is_file_name name ≡ true → from ≡ under folder name → path_of from ≡ Some from
      → has view from ≡ true → (found : Option (List ℕ)) → booted_name_of name ≡ found → (answer : Answer)
      → booted_entry view folder from found ≡ Ok answer → AreNamedThere counts esp answer.after
  booted folder from name normal is_name stands reads there None named answer is =
      subst (λ (a : Answer). AreNamedThere counts esp a.after) (ok_is _ answer is) ok
  booted folder from name normal is_name stands reads there (Some other) named answer is =
      let target = done_by (path_under folder other) _ answer is in
      renamed from target.0 (booted_beside folder name other from target.0 normal is_name stands reads named target.1) there answer target.2

  boot_item : (word : List ℕ) (folders : Folders) → folders_of word ≡ Ok folders → (menu : List MenuItem) → menu_at view folders ≡ Ok menu
      → (item : MenuItem) → first_of menu ≡ Ok item → (answer : Answer)
      → booted_entry view (folder_of folders item.suffix) item.path (booted_name_of (file_name_of item.path)) ≡ Ok answer
      → AreNamedThere counts esp answer.after
  boot_item word folders read menu got item first answer is =
      let at = done_by (path_in word) _ folders read in
      let are = folders_are word at.0 folders at.1 read in
      let menu_are : boot_menu view folders ≡ menu = menu_is view folders (nat_lt 4096 (entry_count view folders)) menu got in
      let e : IsEntry view folders item = ((entries_menu view folders).entries item).0 (subst (λ m. Contains m item) (sym menu_are) (in_menu menu item first)) in
      let kind = kind_is e.suffix item.path e.bytes item e.valid in
      let folder = folder_of folders item.suffix in
      let normal : IsNormal folder = subst (λ (f : Folders). IsNormal (folder_of f item.suffix)) (sym are) (normal_folder at.0 (word_normal word at.0 at.1) item.suffix) in
      let stands : item.path ≡ under folder e.name = e.stands ∙ ap (λ s. under (folder_of folders s) e.name) (sym kind) in
      let last : file_name_of item.path ≡ e.name = ap file_name_of stands ∙ file_name_under folder e.name (name_parts e.name e.is_name).1 in
      booted folder item.path e.name normal e.is_name stands e.is_path (ap is_some e.there) (booted_name_of (file_name_of item.path))
      (ap booted_name_of (sym last)) answer is

  kept_boot : (word : List ℕ) → AreNamedThere counts esp (boot_answer view word).after
  kept_boot word = after_answered (AreNamedThere counts esp) view (boot_result view word) ok (λ answer is.
      let read = done_by (folders_of word) _ answer is in
      let menu = done_by (menu_at view read.0) _ answer read.2 in
      let first = done_by (first_of menu.0) _ answer menu.2 in
      boot_item word read.0 read.1 menu.0 menu.1 first.0 first.1 answer first.2)

  -- a case for each command
  stays : (c : One) → BuildsApart esp c → AreNamedThere counts esp (one_reply view c).after
  unfolding one_reply
  stays (one.Build words) apart = kept_built words.measure (path_in words.output) (build_of view words) (build_output view words) apart
  stays (one.Calculate words) apart = kept_said (calculate_result view words)
  stays (one.Inspect file json) apart = kept_said (inspect_result view file json)
  stays (one.Image file banks phases json) apart = kept_said (measure_result view file banks phases json)
  stays (one.Identify file) apart = kept_said (identify_result view file)
  stays (one.List word json) apart = kept_said (list_result view word json)
  stays (one.Tidy word) apart = kept_unless (folders_of word) (tidy_answer view) (λ folders is. ok)
  stays (one.Boot word) apart = kept_boot word
  stays (one.Unlink name word) apart = kept_unless (entry_path name word) (unlink_answer view) (λ at is. kept_unlink at (unlink_apart esp name word at is))
  stays (one.Install file name tries word) apart = kept_install file name tries word
  stays (one.Bless verb path word) apart = blessed (AreNamedThere counts esp) view ok (λ old new are there. moved counts esp old new are view ok there) verb path word
  stays (one.LoaderShow word) apart = kept_said (show_result view word)
  stays (one.LoaderDefault pattern word) apart = kept_set Default pattern word
  stays (one.LoaderTimeout value word) apart = kept_set Timeout value word

-- ---- what words ask for

-- the line is no action of a command of several
abbrev NoPart : Line → Type 0
NoPart (Plain c) = Unit {0}
NoPart (Part action) = ⊥
NoPart (Numbered number c) = Unit {0}
NoPart (Unread number) = Unit {0}
NoPart TooLong = Unit {0}

lines_keep : (counts : List ℕ → Bool) (esp : Path) (view : Files) (lines : List Line) → AreNamedThere counts esp view → AllLines (LineApart esp) lines → All NoPart lines
    → (n : ℕ) → AreNamedThere counts esp (view_after view (take n lines))
lines_keep counts esp view lines ok apart none zero = ok
lines_keep counts esp view [] ok apart none (suc n) = ok
lines_keep counts esp view (Plain c ∷ lines) ok apart none (suc n) =
    lines_keep counts esp (line_deed view (Plain c)).after lines (stays counts esp view ok c apart.0) apart.1 (All-tail NoPart (Plain c) lines none) n
lines_keep counts esp view (Part action ∷ lines) ok apart none (suc n) = absurd (All-head NoPart (Part action) lines none)
lines_keep counts esp view (Numbered number c ∷ lines) ok apart none (suc n) =
    lines_keep counts esp (line_deed view (Numbered number c)).after lines (stays counts esp view ok c apart.0) apart.1 (All-tail NoPart (Numbered number c) lines none) n
lines_keep counts esp view (Unread number ∷ lines) ok apart none (suc n) = lines_keep counts esp view lines ok apart.1 (All-tail NoPart (Unread number) lines none) n
lines_keep counts esp view (TooLong ∷ lines) ok apart none (suc n) = lines_keep counts esp view lines ok apart.1 (All-tail NoPart TooLong lines none) n

-- a demonstration tells something, or is refused
demo_keeps : (counts : List ℕ → Bool) (esp : Path) (view : Files) (seed count : List ℕ) → AreNamedThere counts esp view
    → (n : ℕ) → AreNamedThere counts esp (view_after view (take n (map Part (expansion view (several.Demo seed count)))))
unfolding expansion
demo_keeps counts esp view seed count ok =
    made_or_refused (λ actions. (n : ℕ) → AreNamedThere counts esp (view_after view (take n (map Part actions)))) (λ why. refused_keeps counts esp view why ok) _
    (demo_result seed count) (λ text. told_keeps counts esp view text ok)

after_meant : (counts : List ℕ → Bool) (esp : Path) (view : Files) (input : List ℕ) (meant : Result Command UsageReason)
    → EachMeans keeps_payloads (LineApart esp) view input meant → AreNamedThere counts esp view
    → KeptBy (AreNamedThere counts esp) view (lines_to_run input view meant)
after_meant counts esp view input (Err reason) apart ok = tt
after_meant counts esp view input (Ok (command.Several (several.Type1Install words))) apart ok = install_keeps counts esp view input words ok
after_meant counts esp view input (Ok (command.Several (several.Type1Cleanup word))) apart ok = cleanup_keeps counts esp view input word ok
after_meant counts esp view input (Ok (command.Several (several.Keep words))) apart ok = keep_keeps counts esp view input words ok
after_meant counts esp view input (Ok (command.Several (several.Demo seed count))) apart ok = demo_keeps counts esp view seed count ok
after_meant counts esp view input (Ok (command.One c)) apart ok =
    lines_keep counts esp view (Plain c ∷ []) ok (apart refl) (All-cons NoPart (Plain c) [] tt (All-nil NoPart))
after_meant counts esp view input (Ok command.Script) apart ok =
    lines_keep counts esp view (lines_for input view command.Script) ok (apart refl)
    (each_line NoPart (λ number c. tt) (λ number. tt) tt (take 1048577 input))

kept_from : (counts : List ℕ → Bool) (esp : Path) (state : List Files) (runs : List Run) → EachAsks keeps_payloads (LineApart esp) state runs
    → KeptFrom (AreNamedThere counts esp) state runs
kept_from counts esp state [] apart = tt
kept_from counts esp state (run ∷ runs) apart = (
  λ ok. after_meant counts esp (latest_view state) run.input (meaning run.words) apart.0 ok,
  kept_from counts esp run.left runs apart.1,
)

pub payload_law : PayloadLaw
payload_law counts esp first before later start history all apart =
    kept_later (AreNamedThere counts esp) first before later start history all
    (kept_from counts esp (state_after first before) later apart)
