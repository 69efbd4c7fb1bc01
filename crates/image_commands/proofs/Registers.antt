-- The lines of registers, by what each step gave.
use Rattle.std.proofs.Common.{◌≡◌, ◌++◌, ℕ, Bool, List, [], map, Result, Ok, sym, ap, ◌∙◌, subst}
use Rattle.boot_base.specs.Paths.{Path}
use Rattle.boot_base.specs.declared.refusal.Refusal.{Refusal}
use Rattle.boot_machine.specs.Prelude.{Files}
use Rattle.image_commands.specs.Told.{told_values}
use Rattle.pcr_values.specs.declared.bank.Bank.{Bank}
use Rattle.pcr_values.specs.declared.bank.Bank.TheVariants as bank_names
use Rattle.pcr_values.specs.declared.pcr.Pcr.{Pcr}
use Rattle.pcr_values.specs.Prelude.{fold_of, fold_pcr, pcr_value}
use Rattle.pe_reader.specs.Prelude.{Headers}
use Rattle.stub_replay.specs.Measured.{measured_list, stub_pcr}
use Rattle.stub_replay.specs.Ordered.{present_parts}
use Rattle.stub_replay.specs.Parts.{items_of}
use Rattle.stub_replay.proofs.Ordered.{predicted_in_order}
use Rattle.tool_words.specs.declared.command.CalculateWords.{CalculateWords}
use Rattle.command_plans.proofs.WordErrors.{done_next}
use Rattle.command_plans.specs.Prelude.{bytes_at, each, image_at, path_in, banks_of, paths_of}
use Rattle.image_commands.proofs.Parts.{parts_in_order, words_in_order}
use Rattle.image_commands.specs.Calculating.{calculate_result, part_words, under_name}
use Rattle.image_commands.specs.Said.{values_at}

-- the text is the lines of the registers, whatever items have extended them
abbrev pub AreLines : Bool → List ℕ → List Pcr → List (List (List ℕ)) → Type 0
AreLines json text starts paths = (items : Bank → List (List ℕ)) (banks : List Bank) → map pcr_value starts ≡ map (λ bank. fold_pcr (items bank) bank) banks
    → text ≡ told_values json (λ bank path. fold_of bank (items bank ++ path)) banks paths

-- what was said of registers is found
abbrev pub AreSaid : List (List ℕ) → List Bank → List Pcr → Type 0
AreSaid items banks pcrs = ◌≡◌ {A = Result (List (Bank × List ℕ)) Refusal} (Ok (map (fold_pcr items) banks)) (Ok (map pcr_value pcrs))

-- lines of the registers that the same items have extended in all banks
lines_are : (json : Bool) (items : List (List ℕ)) (banks chosen : List Bank) (paths said : List (List (List ℕ))) (pcrs starts : List Pcr)
    (text : List ℕ)
    → AreLines json text starts paths → starts ≡ pcrs → AreSaid items banks pcrs
    → banks ≡ chosen → paths ≡ said → text ≡ told_values json (λ bank path. fold_of bank (items ++ path)) chosen said
lines_are json items banks chosen paths said pcrs starts text lines same are is_banks is_paths =
    let found : map (fold_pcr items) banks ≡ map pcr_value pcrs = cc are in
    lines (λ bank. items) banks (ap (map pcr_value) same ∙ sym found)
    ∙ ap (λ (bs : List Bank). told_values json (λ bank path. fold_of bank (items ++ path)) bs paths) is_banks
    ∙ ap (told_values json (λ bank path. fold_of bank (items ++ path)) chosen) is_paths

-- the whole text of an image
pub values_are : (json : Bool) (view : Files) (path : Path) (names texts : List (List ℕ)) (file now : List ℕ) (headers : Headers) (banks : List Bank)
    (paths : List (List (List ℕ))) (pcrs starts : List Pcr) (text : List ℕ)
    → image_at view path ≡ Ok (file, headers) → now ≡ file → AreSaid (measured_list now) banks pcrs → starts ≡ pcrs → banks ≡ banks_of names → paths ≡ paths_of texts → AreLines json text starts paths
    → values_at view names texts json path ≡ Ok text
values_are json view path names texts file now headers banks paths pcrs starts text image_is same are same_starts are_banks are_paths lines =
    done_next (image_at view path) (file, headers) (λ image. Ok (told_values json (stub_pcr image.0) (banks_of names) (paths_of texts))) image_is
    ∙ ap Ok (sym (lines_are json (measured_list file) banks (banks_of names) paths (paths_of texts) pcrs starts text lines same_starts
    (subst (λ (l : List ℕ). AreSaid (measured_list l) banks pcrs) same are) are_banks are_paths))

-- the whole text of a calculation
pub calculation_is : (view : Files) (words : CalculateWords) (paths : List (List ℕ × Path)) (parts : List (List ℕ × List ℕ)) (banks : List Bank)
    (phases : List (List (List ℕ))) (pcrs starts : List Pcr) (text : List ℕ)
    → each (under_name path_in) (present_parts (part_words words)) ≡ Ok paths → each (under_name (bytes_at view)) paths ≡ Ok parts
    → AreSaid (items_of parts) banks pcrs → starts ≡ pcrs → banks ≡ banks_of words.banks → phases ≡ paths_of words.phases → AreLines words.json text starts phases
    → calculate_result view words ≡ Ok text
calculation_is view words paths parts banks phases pcrs starts text paths_are parts_are are same_starts are_banks are_phases lines =
    let ordered = parts_in_order (bytes_at view) paths parts (parts_in_order path_in (present_parts (part_words words)) paths (words_in_order words) paths_are) parts_are in
    done_next (each (under_name path_in) (present_parts (part_words words))) paths _ paths_are
    ∙ done_next (each (under_name (bytes_at view)) paths) parts _ parts_are
    ∙ ap Ok (sym (lines_are words.json (items_of parts) banks (banks_of words.banks) phases (paths_of words.phases) pcrs starts text lines same_starts are are_banks are_phases
    ∙ ap (λ (items : List (List ℕ)). told_values words.json (λ bank path. fold_of bank (items ++ path)) (banks_of words.banks) (paths_of words.phases))
    (predicted_in_order parts bank_names.Sha256 [] ordered).0))
