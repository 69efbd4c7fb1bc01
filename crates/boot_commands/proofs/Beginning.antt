-- The machine that a demonstration begins with.
use Rattle.std.proofs.Common.{rules, ◌≡◌, ℕ, List, [], ◌∷◌, map, false, Some, IfOk, Result, Ok, Err, refl, sym, ap, ◌∙◌, subst, bytes_eq, codes, is_some}
use Rattle.std.specs.FinMap as maps
use Rattle.std.specs.List.{IsDistinct}
use Rattle.std.specs.Cmp.Lexicographic.{nat_list_cmp_total}
use Rattle.boot_base.specs.Paths.{Path, intent, is_temp, path_of}
use Rattle.boot_machine.specs.Prelude.{Files, State, has, view, IsSettled, seen}
use Rattle.memory_machine.specs.Events.{start_state}
use Rattle.memory_machine.specs.Memory.{mem_state}
use Rattle.memory_machine.specs.declared.memory.MemMachine.{MemMachine}
use Rattle.boot_commands.specs.DemoRuns.{IsReady}
use Rattle.memory_machine.specs.Given.{given_files, given_pair, given_paths}
use Rattle.memory_machine.specs.declared.memory.MemFile.{MemFile}
use Rattle.boot_commands.specs.DemoImages.{demo_image}
use Rattle.boot_commands.specs.Demonstration.{demo_entries, demo_files}

word_0 : path_of (codes "u0.efi") ≡ Some (codes "u0.efi")
unfolding is_temp
word_0 = refl

word_1 : path_of (codes "u1.efi") ≡ Some (codes "u1.efi")
unfolding is_temp
word_1 = refl

word_2 : path_of (codes "u2.efi") ≡ Some (codes "u2.efi")
unfolding is_temp
word_2 = refl

word_3 : path_of (codes "u3.efi") ≡ Some (codes "u3.efi")
unfolding is_temp
word_3 = refl

one_value : (p q : Path) → Some p ≡ Some q → q ≡ p
one_value p q e = cc

-- a file of the demonstration, by the word for its path
pub record IsDemoFile (file : MemFile) (name : List ℕ) (digit : ℕ) : Type 0 where
  pub path : path_of name ≡ Some file.path
  pub bytes : file.bytes.items ≡ demo_image digit

pair_is : (file : MemFile) (name : List ℕ) (digit : ℕ) → path_of name ≡ Some name → IsDemoFile file name digit → given_pair file ≡ (name, demo_image digit)
pair_is file name digit same is = let path = one_value name file.path (sym same ∙ is.path) in cc (path, is.bytes)

path_is : (file : MemFile) (name : List ℕ) (digit : ℕ) → path_of name ≡ Some name → IsDemoFile file name digit → file.path ≡ name
path_is file name digit same is = one_value name file.path (sym same ∙ is.path)

pub record AreDemoFiles (a b c d : MemFile) : Type 0 where
  pub first : IsDemoFile a (codes "u0.efi") 0
  pub second : IsDemoFile b (codes "u1.efi") 1
  pub third : IsDemoFile c (codes "u2.efi") 2
  pub fourth : IsDemoFile d (codes "u3.efi") 3

pub paths_are : (a b c d : MemFile) → AreDemoFiles a b c d → given_paths (a ∷ b ∷ c ∷ d ∷ []) ≡ codes "u0.efi" ∷ codes "u1.efi" ∷ codes "u2.efi" ∷ codes "u3.efi" ∷ []
paths_are a b c d are =
    let p = path_is a (codes "u0.efi") 0 word_0 are.first in
    let q = path_is b (codes "u1.efi") 1 word_1 are.second in
    let r = path_is c (codes "u2.efi") 2 word_2 are.third in
    let s = path_is d (codes "u3.efi") 3 word_3 are.fourth in
    cc (p, q, r, s)

pub distinct : (a b c d : MemFile) → AreDemoFiles a b c d → IsDistinct bytes_eq (given_paths (a ∷ b ∷ c ∷ d ∷ []))
unfolding IsDistinct
distinct a b c d are = subst (IsDistinct bytes_eq) (sym (paths_are a b c d are)) (search rules)

pub files_are : (a b c d : MemFile) → AreDemoFiles a b c d → given_files (a ∷ b ∷ c ∷ d ∷ []) ≡ demo_files
files_are a b c d are =
    let p = pair_is a (codes "u0.efi") 0 word_0 are.first in
    let q = pair_is b (codes "u1.efi") 1 word_1 are.second in
    let r = pair_is c (codes "u2.efi") 2 word_2 are.third in
    let s = pair_is d (codes "u3.efi") 3 word_3 are.fourth in
    let same : map given_pair (a ∷ b ∷ c ∷ d ∷ []) ≡ demo_entries = cc (p, q, r, s) in
    ap (λ (l : List (Path × List ℕ)). (let files : Files = maps.from_entries l in files)) same

-- no rename is half done there
pub no_intent : has demo_files intent ≡ false
no_intent = ap is_some (maps.get-from_entries nat_list_cmp_total demo_entries intent)

pub seen_start : {E : Type 0} (result : Result MemMachine E) (files : List MemFile) → IfOk result (λ m. mem_state m ≡ start_state (given_files files)) → given_files files ≡ demo_files
    → IfOk result (λ m. seen (mem_state m) ≡ view demo_files)
seen_start (Ok m) files state is = ap seen state ∙ ap view is
seen_start (Err e) files state is = tt

pub ready_start : {E : Type 0} (result : Result MemMachine E) (files : List MemFile) → IfOk result (λ m. mem_state m ≡ start_state (given_files files)) → IfOk result (λ m. IsSettled (mem_state m))
    → given_files files ≡ demo_files → IfOk result (λ m. IsReady (mem_state m))
ready_start (Ok m) files state settled is =
    record { firm = settled.firm; rested = ap (λ (s : State). has s.files intent) state ∙ ap (λ (f : Files). has f intent) is ∙ no_intent }
ready_start (Err e) files state settled is = tt
