-- Which temporary files go with a command, and that none of them is left behind a sweep.
use Rattle.std.proofs.Common.{◌≡◌, ◌⊎◌, inl, inr, ◌-◌, true, false, length, take, List, [], ◌∷◌, refl, sym, ap, ◌∙◌, subst, Result, Ok, Err, All, Contains, bytes_eq, is_some}
use Rattle.std.proofs.lemmas.Bool.{and_parts, cases_Bool}
use Rattle.std.proofs.lemmas.Cmp.{nat_list_eq_equiv}
use Rattle.std.proofs.lemmas.List.Elements.{All-cons, All-contains, All-head, All-nil, All-tail}
use Rattle.boot_base.specs.Paths.{Path, is_temp, under}
use Rattle.boot_base.proofs.Temp.{is_temp-behind}
use Rattle.boot_base.specs.declared.refusal.Refusal.{Refusal}
use Rattle.boot_machine.specs.Prelude.{Files, has, is_listed}
use Rattle.boot_machine.proofs.Listing.{bytes-true}
use Rattle.boot_texts.specs.EntryText.{is_payload_name}
use Rattle.tool_words.specs.declared.action.Action.{Action}
use Rattle.tool_words.specs.declared.command.Several.{Several}
use Rattle.tool_words.specs.declared.command.Several.TheVariants as several
use Rattle.boot_commands.specs.Sweeps.{FindsSwept, MaySweep, SweptBy}
use Rattle.type1_install.specs.Payloads.{payload_folder}
use Rattle.type1_install.specs.Sweeping.{FindsBeside, StandsBeside, SweptAt, payload_esp}
use Rattle.install_steps.specs.Steps.{Lacks}

pub not_true : true ≡ false → ⊥
not_true is = cc

-- a path that is listed is one of those
pub listed_has : (P : Path → Type 0) (temps : List Path) (q : Path) → All P temps → is_listed temps q ≡ true → P q
listed_has P [] q all is = cc
listed_has P (temp ∷ temps) q all is = elim (cases_Bool (bytes_eq temp q)) [
  | inl here ↦ subst P (bytes-true temp q here) (All-head P temp temps all)
  | inr other ↦ listed_has P temps q (All-tail P temp temps all) (rw other at is)
]

temp_beside : (meant : Result Path Refusal) (q : Path) → StandsBeside meant q → is_temp q ≡ true
temp_beside (Err why) q stands = absurd stands
temp_beside (Ok esp) q stands =
    let temp = (and_parts (is_payload_name (take (length stands.0 - 4) stands.0)) (is_temp stands.0) stands.1).1 in
    ap is_temp stands.2 ∙ is_temp-behind (payload_folder esp) (47 ∷ stands.0) (is_temp-behind (47 ∷ []) stands.0 temp)

-- what goes with a command is temporary
pub temp_swept : (c : Several) (q : Path) → MaySweep c q → is_temp q ≡ true
temp_swept (several.Type1Install words) q may = absurd may
temp_swept (several.Type1Cleanup word) q may = temp_beside (payload_esp word) q may
temp_swept (several.Keep words) q may = absurd may
temp_swept (several.Demo seed count) q may = absurd may

-- a path that isn't listed differs from each that is
unlisted : (temps : List Path) (q : Path) → is_listed temps q ≡ false → All (λ path. bytes_eq path q ≡ false) temps
unlisted [] q is = All-nil (λ path. bytes_eq path q ≡ false)
unlisted (path ∷ temps) q is = elim (cases_Bool (bytes_eq path q)) [
  | inl here ↦ absurd (not_true (rw here at is))
  | inr other ↦ All-cons (λ path. bytes_eq path q ≡ false) path temps other (unlisted temps q (rw other at is))
]

-- a file that is among those that went, if it was there, is gone
gone_after : (temps : List Path) (old new : Files) (q : Path) → (has old q ≡ true → Contains temps q) → Lacks temps old new → has new q ≡ false
gone_after temps old new q found lacks = elim (cases_Bool (is_listed temps q)) [
  | inl listed ↦ ap is_some (lacks.files q) ∙ rw listed refl
  | inr other ↦ ap is_some (lacks.files q) ∙ rw other (elim (cases_Bool (has old q)) [
    | inl there ↦ absurd (not_true (sym (nat_list_eq_equiv.refl q) ∙ All-contains (λ path. bytes_eq path q ≡ false) temps q (unlisted temps q other) (found there)))
    | inr none ↦ none
  ])
]

swept_esp : (meant : Result Path Refusal) (temps : List Path) (old new : Files) → FindsBeside meant old temps → Lacks temps old new → SweptAt meant new
swept_esp (Err why) temps old new finds lacks = tt
swept_esp (Ok esp) temps old new finds lacks = λ name is_name temp.
    gone_after temps old new (under (payload_folder esp) name) (finds name is_name temp) lacks

-- none that goes with the command is left
pub swept_all : (c : Several) (actions : List Action) (temps : List Path) (old new : Files) → FindsSwept c actions old temps → Lacks temps old new → SweptBy c actions new
swept_all (several.Type1Install words) actions temps old new finds lacks = tt
swept_all (several.Type1Cleanup word) actions temps old new finds lacks = λ unrefused. swept_esp (payload_esp word) temps old new (finds unrefused) lacks
swept_all (several.Keep words) actions temps old new finds lacks = tt
swept_all (several.Demo seed count) actions temps old new finds lacks = tt
