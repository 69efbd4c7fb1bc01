-- What the words of an installation say, where it isn't refused.
use Rattle.std.proofs.Common.{◌≡◌, ◌≤◌, ℕ, Bool, true, false, ◌||◌, List, [], ◌∷◌, ◌++◌, Option, Some, None, Ok, Err, eqb, length, map, refl, sym, ap, ◌∙◌, subst, arith, length-append, All, if◌then◌else◌, nat_lt, option_to_list}
use Rattle.std.specs.List.{list_any}
use Rattle.std.proofs.lemmas.Bool.{and_parts, ltb-false, not-true, or_parts}
use Rattle.std.proofs.lemmas.List.{length-map}
use Rattle.std.proofs.lemmas.List.Elements.{All-cons, All-nil}
use Rattle.std.proofs.lemmas.Slice.Eq.{bytes_eq-Decides}
use Rattle.boot_base.specs.Layout.{entries_below}
use Rattle.boot_base.specs.Paths.{Path, is_form, is_kept, is_normal, is_slash, is_temp, normal_of, path_of, under}
use Rattle.boot_base.specs.declared.refusal.Refusal.TheVariants as refusals
use Rattle.boot_machine.specs.Prelude.{Files, contents}
use Rattle.menu_order.specs.Counter.{suffix_text}
use Rattle.menu_order.specs.Splits.{has_suffix}
use Rattle.menu_order.proofs.Splitting.{suffix_there}
use Rattle.menu_order.specs.declared.counted.Suffix.TheVariants.{Conf}
use Rattle.tool_words.specs.declared.command.Type1Words.{Type1Words}
use Rattle.command_plans.specs.Prelude.{install_name, path_in, path_under, bytes_at, each, if_given}
use Rattle.command_plans.proofs.Each.{each_length}
use Rattle.command_plans.proofs.InstallNames.{taken_is, taken_slash}
use Rattle.command_plans.proofs.ReadPaths.{read_normal, read_of}
use Rattle.boot_base.proofs.Beside.{kept_from_long}
use Rattle.command_plans.proofs.Steps.{done_by, err_ok, ok_is}
use Rattle.boot_texts.specs.EntryText.{IsFieldIf, IsPayloadValue, ReadsBack, is_field}
use Rattle.tool_words.specs.declared.command.EntryTexts.{EntryTexts}
use Rattle.type1_install.specs.Installing.{EntryPlace, SourceFiles, Type1Plan, entry_file, field_text, fields_of, files_in, initrds_in, install_plan, payload_probe, place_in, install_source, texts_in, value_of_file}
use Rattle.type1_install.specs.Shown.{AreFields}
use Rattle.type1_install.specs.Payloads.{payload_name}
use Rattle.boot_texts.proofs.EntryText.{reads_back}
use Rattle.type1_install.proofs.Installing.{IsNormal, IsSource, all_sources}
use Rattle.type1_install.proofs.PayloadNames.{payload_name_fits}

-- ---- texts

field_is : (text : List ℕ) (b : Bool) → is_field text ≡ b → (found : List ℕ) → (if b then Ok text else Err (refusals.BadField text)) ≡ Ok found → is_field found ≡ true
field_is text true is found ok = subst (λ (t : List ℕ). is_field t ≡ true) (ok_is text found ok) is
field_is text false is found ok = absurd (err_ok (refusals.BadField text) found ok)

given_field : (given found : Option (List ℕ)) → if_given field_text given ≡ Ok found → IsFieldIf found
given_field None found ok = subst IsFieldIf (ok_is None found ok) tt
given_field (Some text) found ok =
    let one = done_by (field_text text) (λ t. Ok (Some t)) found ok in
    subst IsFieldIf (ok_is (Some one.0) found one.2) (field_is text (is_field text) refl one.0 one.1)

pub texts_fit : (texts t : EntryTexts) → texts_in texts ≡ Ok t → AreFields t
texts_fit texts t ok =
    let title = done_by (if_given field_text texts.title) _ t ok in
    let version = done_by (if_given field_text texts.version) _ t title.2 in
    let machine = done_by (if_given field_text texts.machine_id) _ t version.2 in
    let sort = done_by (if_given field_text texts.sort_key) _ t machine.2 in
    let options = done_by (if_given field_text texts.options) _ t sort.2 in
    subst AreFields (ok_is _ t options.2) (record {
      title = given_field texts.title title.0 title.1;
      version = given_field texts.version version.0 version.1;
      machine_id = given_field texts.machine_id machine.0 machine.1;
      sort_key = given_field texts.sort_key sort.0 sort.1;
      options = given_field texts.options options.0 options.1;
    })

-- what is taken is what was given
same_given : (given found : Option (List ℕ)) → if_given field_text given ≡ Ok found → given ≡ found
same_given None found ok = ok_is None found ok
same_given (Some text) found ok =
    let one = done_by (field_text text) (λ t. Ok (Some t)) found ok in
    ap (λ (t : List ℕ). Some t) (same_field text (is_field text) one.0 one.1) ∙ ok_is (Some one.0) found one.2
  where
    same_field : (text : List ℕ) (b : Bool) (found : List ℕ) → (if b then Ok text else Err (refusals.BadField text)) ≡ Ok found → text ≡ found
    same_field text true found ok = ok_is text found ok
    same_field text false found ok = absurd (err_ok (refusals.BadField text) found ok)

pub same_texts : (texts t : EntryTexts) → texts_in texts ≡ Ok t → texts ≡ t
same_texts texts t ok =
    let title = done_by (if_given field_text texts.title) _ t ok in
    let version = done_by (if_given field_text texts.version) _ t title.2 in
    let machine = done_by (if_given field_text texts.machine_id) _ t version.2 in
    let sort = done_by (if_given field_text texts.sort_key) _ t machine.2 in
    let options = done_by (if_given field_text texts.options) _ t sort.2 in
    (λ i. record {
      title = same_given texts.title title.0 title.1 i;
      version = same_given texts.version version.0 version.1 i;
      machine_id = same_given texts.machine_id machine.0 machine.1 i;
      sort_key = same_given texts.sort_key sort.0 sort.1 i;
      options = same_given texts.options options.0 options.1 i;
    })
    ∙ ok_is _ t options.2

pub option_all : (text : Option (List ℕ)) → IsFieldIf text → All (λ t. is_field t ≡ true) (option_to_list text)
option_all None is = All-nil (λ t. is_field t ≡ true)
option_all (Some text) is = All-cons (λ t. is_field t ≡ true) text [] is (All-nil (λ t. is_field t ≡ true))

pub option_one : (text : Option (List ℕ)) → length (option_to_list text) ≤ 1
option_one None = omega arith
option_one (Some text) = omega arith

-- ---- files

few_is : (words : List (List ℕ)) (b : Bool) → nat_lt 64 (length words) ≡ b → (found : List (List ℕ))
    → (if b then Err (refusals.TooManyFiles (length words)) else Ok words) ≡ Ok found → length words ≤ 64
few_is words true is found ok = absurd (err_ok (refusals.TooManyFiles (length words)) found ok)
few_is words false is found ok = ltb-false 64 (length words) is

few_paths : (words paths : List (List ℕ)) → length paths ≡ length words → length words ≤ 64 → length paths ≤ 64
few_paths words paths same count = subst (λ n. n ≤ 64) (sym same) count

few_values : (view : Files) (files : List Path) → length files ≤ 64 → length (map (value_of_file view) files) ≤ 64
few_values view files count = subst (λ n. n ≤ 64) (sym (length-map files (value_of_file view))) count

values_fit : (view : Files) (files : List Path) → All IsPayloadValue (map (value_of_file view) files)
values_fit view [] = All-nil IsPayloadValue
values_fit view (file ∷ files) =
    let name = payload_name (contents view file) in
    All-cons IsPayloadValue (value_of_file view file) (map (value_of_file view) files) (name, refl, payload_name_fits (contents view file)) (values_fit view files)

-- ---- the name

no_slash_more : (a b : List ℕ) → list_any is_slash a ≡ false → list_any is_slash b ≡ false → list_any is_slash (a ++ b) ≡ false
no_slash_more [] b one two = two
no_slash_more (x ∷ a) b one two =
    let parts = or_parts (is_slash x) (list_any is_slash a) one in
    let first = parts.0 in
    rw first (no_slash_more a b parts.1 two)

record IsEntryFile (name : List ℕ) : Type 0 where
  kept : is_kept name ≡ true
  one : list_any is_slash name ≡ false
  of_type : has_suffix Conf name ≡ true

file_of : (name : List ℕ) → list_any is_slash name ≡ false → IsEntryFile (name ++ suffix_text Conf)
file_of name no_slash = record {
  kept = kept_from_long (name ++ suffix_text Conf) (omega (arith, length-append name (suffix_text Conf)));
  one = no_slash_more name (suffix_text Conf) no_slash refl;
  of_type = suffix_there Conf (name ++ suffix_text Conf) name refl;
}

-- the path of a word is its own normal form
pub normal_is : (path : Path) → is_normal path ≡ true → IsNormal path
unfolding is_normal
normal_is path is =
    let parts = and_parts _ _ is in
    let form = (and_parts _ (is_form path) parts.0).1 in
    let some = or_parts (eqb (length path) 0 || nat_lt 1024 (length path)) (is_temp path) (not-true _ form) in
    record {
      same = (bytes_eq-Decides (normal_of path) path).0 parts.1;
      some = (or_parts (eqb (length path) 0) (nat_lt 1024 (length path)) some.0).0;
    }

pub word_normal : (word : List ℕ) (path : Path) → path_in word ≡ Ok path → IsNormal path
word_normal word path ok = normal_is path (read_normal word path (read_of word (path_of word) path ok))

-- ---- the plan

pub record IsPlanned (view : Files) (plan : Type1Plan) : Type 0 where
  pub name : List ℕ
  pub kept : is_kept name ≡ true
  pub one : list_any is_slash name ≡ false
  pub of_type : has_suffix Conf name ≡ true
  pub normal : IsNormal plan.esp
  pub entry : path_under plan.esp (under entries_below name) ≡ Ok plan.entry
  pub sources : All (IsSource plan.esp view) (plan.linux ∷ plan.initrds)
  pub back : ReadsBack (fields_of view plan)

-- what the words come to, if they aren't refused
record IsRead (words : Type1Words) (plan : Type1Plan) : Type 0 where
  name : List ℕ
  file : IsEntryFile name
  fields : AreFields plan.texts
  few : length plan.initrds ≤ 64
  normal : IsNormal plan.esp
  entry : path_under plan.esp (under entries_below name) ≡ Ok plan.entry
  sources : (found : List Path) × (each (install_source plan.esp) (plan.linux ∷ plan.initrds) ≡ Ok found)

read_words : (words : Type1Words) (plan : Type1Plan) → install_plan words ≡ Ok plan → IsRead words plan
read_words words plan ok =
    let file = done_by (entry_file words) _ plan ok in
    let files = done_by (files_in words) _ plan file.2 in
    let place = done_by (place_in words.esp file.0) _ plan files.2 in
    let sources = done_by (each (install_source place.0.esp) (files.0.linux ∷ files.0.initrds)) _ plan place.2 in
    let taken = done_by (install_name Conf words.name) _ file.0 file.1 in
    let texts = done_by (texts_in words.texts) _ file.0 taken.2 in
    let some = done_by (initrds_in words.initrds) _ file.0 texts.2 in
    let name_is : taken.0 ++ suffix_text Conf ≡ file.0 = ok_is _ file.0 some.2 in
    let linux = done_by (path_in words.linux) _ files.0 files.1 in
    let initrds = done_by (each path_in words.initrds) _ files.0 linux.2 in
    let files_are = ok_is _ files.0 initrds.2 in
    let esp = done_by (path_in words.esp) _ place.0 place.1 in
    let probe = done_by (path_under esp.0 payload_probe) _ place.0 esp.2 in
    let entry = done_by (path_under esp.0 (under entries_below file.0)) _ place.0 probe.2 in
    let place_is = ok_is _ place.0 entry.2 in
    let no_slash = ap (list_any is_slash) (sym (taken_is Conf words.name taken.0 taken.1)) ∙ taken_slash Conf words.name taken.0 taken.1 in
    let count : length files.0.initrds ≤ 64 =
    subst (λ (s : SourceFiles). length s.initrds ≤ 64) files_are
    (few_paths words.initrds initrds.0 (each_length path_in words.initrds initrds.0 initrds.1) (few_is words.initrds (nat_lt 64 (length words.initrds)) refl some.0 some.1)) in
    let normal : IsNormal place.0.esp = subst (λ (p : EntryPlace). IsNormal p.esp) place_is (word_normal words.esp esp.0 esp.1) in
    let there : path_under place.0.esp (under entries_below file.0) ≡ Ok place.0.entry =
    subst (λ (p : EntryPlace). path_under p.esp (under entries_below file.0) ≡ Ok p.entry) place_is entry.1 in
    subst (IsRead words) (ok_is _ plan sources.2) (record {
      name = file.0;
      file = subst IsEntryFile name_is (file_of taken.0 no_slash);
      fields = subst AreFields (sym (same_texts words.texts texts.0 texts.1)) (texts_fit words.texts texts.0 texts.1);
      few = count;
      normal = normal;
      entry = there;
      sources = (sources.0, sources.1);
    })

pub fields_read : (words : Type1Words) (plan : Type1Plan) → install_plan words ≡ Ok plan → AreFields plan.texts
fields_read words plan ok = (read_words words plan ok).fields

pub few_read : (words : Type1Words) (plan : Type1Plan) → install_plan words ≡ Ok plan → length plan.initrds ≤ 64
few_read words plan ok = (read_words words plan ok).few

pub planned : (view : Files) (words : Type1Words) (plan : Type1Plan) → install_plan words ≡ Ok plan
    → (reads : List (List ℕ)) → each (bytes_at view) (plan.linux ∷ plan.initrds) ≡ Ok reads → IsPlanned view plan
planned view words plan ok reads read =
    let is = read_words words plan ok in
    record {
      name = is.name;
      kept = is.file.kept;
      one = is.file.one;
      of_type = is.file.of_type;
      normal = is.normal;
      entry = is.entry;
      sources = all_sources plan.esp view (plan.linux ∷ plan.initrds) reads is.sources.0 read is.sources.1;
      back = reads_back _ (record {
        title = is.fields.title;
        version = is.fields.version;
        machine_id = is.fields.machine_id;
        sort_key = is.fields.sort_key;
        linux = (value_of_file view plan.linux, refl, (payload_name (contents view plan.linux), refl, payload_name_fits (contents view plan.linux)));
        initrds = values_fit view plan.initrds;
        few = few_values view plan.initrds is.few;
        options = option_all plan.texts.options is.fields.options;
        one = option_one plan.texts.options;
        no_efi = refl;
        no_devicetree = refl;
        no_overlay = refl;
        no_architecture = refl;
      });
    }
