-- What a command's words are refused for, before the boot files are looked at.
use Rattle.std.specs.Prelude.{◌≡◌, ℕ, List, ◌∷◌, Option, Some, None, Result, Ok, Err, MatchResult, if◌then◌else◌}
use Rattle.boot_base.specs.Paths.{Path, path_of, path_below, under}
use Rattle.boot_base.specs.declared.path.PathFault.{PathFault}
use Rattle.boot_base.specs.declared.path.PathFault.TheVariants as paths
use Rattle.boot_base.specs.declared.refusal.Refusal.{Refusal}
use Rattle.boot_base.specs.declared.refusal.Refusal.TheVariants as refusals
use Rattle.menu_order.specs.InstallNames.{is_install_name}
use Rattle.menu_order.specs.declared.counted.Suffix.{Suffix}
use Rattle.command_plans.specs.declared.word_error.WordError.{WordError}
use Rattle.command_plans.specs.declared.word_error.WordError.TheVariants as word_errors

-- what comes next, or the first refusal
infixl 10 ◌>>=◌
abbrev pub ◌>>=◌ : {A B : Type 0} → Result A Refusal → (A → Result B Refusal) → Result B Refusal
(Ok x) >>= f = f x
(Err why) >>= f = Err why

-- a path as it is printed, with a leading slash
abbrev pub printed_path : Path → List ℕ
printed_path path = 47 ∷ path

-- the path that was read, or the refusal of this text
abbrev pub path_or : List ℕ → Option Path → Result Path Refusal
path_or text None = Err (refusals.BadPath text)
path_or text (Some path) = Ok path

-- the path of a word
abbrev pub path_in : List ℕ → Result Path Refusal
path_in word = path_or word (path_of word)

-- the path of what is below a folder
abbrev pub path_under : Path → List ℕ → Result Path Refusal
path_under folder below = path_or (under folder below) (path_below folder below)

-- the words are declined for this refusal, unless memory ran out
abbrev pub WordErrorFor : {X : Type 0} → WordError → Result X Refusal → Type 0
WordErrorFor word_errors.Memory meant = Unit {0}
WordErrorFor (word_errors.Refused why) meant = meant ≡ Err why

-- why a text has no path: it is refused, unless memory ran out
abbrev pub path_error : List ℕ → PathFault → WordError
path_error text paths.Memory = word_errors.Memory
path_error text paths.BadPath = word_errors.Refused (refusals.BadPath text)

-- what was made, seen by view, is what is meant, or the refusal is
abbrev pub Means : {X Y : Type 0} → (X → Y) → Result X WordError → Result Y Refusal → Type 0
Means view result meant = MatchResult result (λ x. meant ≡ Ok (view x)) (λ word_error. WordErrorFor word_error meant)

-- the name, or the refusal of one that no entry of this suffix may be installed under
abbrev pub install_name : Suffix → List ℕ → Result (List ℕ) Refusal
install_name suffix name = if is_install_name suffix name then Ok name else Err (refusals.BadName name)
