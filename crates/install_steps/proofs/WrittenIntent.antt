-- An intent that is written under its temporary name and put in its place.
use Rattle.std.proofs.Common.{◌≡◌, ◌≢◌, ℕ, true, List, [], ◌++◌, Option, Some, unwrap_or, refl, sym, ap, ◌∙◌, subst, bytes_eq, option_and_then}
use Rattle.std.specs.FinMap as map
use Rattle.std.specs.Str.{is_utf8}
use Rattle.std.proofs.lemmas.Bool.{false_from_ne_true}
use Rattle.std.proofs.lemmas.Slice.Eq.{bytes_eq-Decides}
use Rattle.boot_base.specs.Paths.{Path, IsFree, intent, intent_bytes, is_normal, is_temp, may_stand, read_intent}
use Rattle.boot_base.proofs.IntentForm.{read-intent_bytes}
use Rattle.boot_machine.specs.Prelude.{Files, State, has, contents, move_in}
use Rattle.boot_machine.specs.proofs.Maps.{get-insert_here, get-insert_apart, get-remove_apart}
use Rattle.boot_machine.proofs.Views.{temp_apart}
use Rattle.boot_machine.proofs.Written.{temps-written}
use Rattle.boot_machine.proofs.Recovering.{intent_shown}
use Rattle.install_steps.specs.Appends.{HasAppended, IsGrown}
use Rattle.install_steps.specs.Steps.{Intends}
use Rattle.install_steps.proofs.AppendLemmas.{written_file}
use Rattle.install_steps.proofs.CopyLemmas.{with_file, with_file_here, with_file_apart}

-- an empty file that has grown by these bytes
pub grown_whole : (p : Path) (bytes : List ℕ) (s t : State) → contents s.files p ≡ [] → IsGrown p bytes s t → contents t.files p ≡ bytes
grown_whole p bytes s t none grown = grown.bytes ∙ ap (λ (l : List ℕ). l ++ bytes) none

-- two paths that commands may name, in normal form
pub may_stand_from : (a b : Path) → is_utf8 a ≡ true → is_normal a ≡ true → IsFree a → is_utf8 b ≡ true → is_normal b ≡ true → IsFree b → a ≢ b → may_stand a b ≡ true
may_stand_from a b a_text a_normal a_free b_text b_normal b_free differ =
    rw (a_text, a_normal, a_free, b_text, b_normal, b_free, false_from_ne_true (bytes_eq a b) (λ is. differ ((bytes_eq-Decides a b).0 is))) refl

-- the intent in its place
pub intends_put : (m : Files) (temp a b : Path) (bytes : List ℕ) → is_temp temp ≡ true → bytes ≡ intent_bytes a b → is_normal a ≡ true → is_normal b ≡ true → may_stand a b ≡ true
    → Intends a b m (move_in temp intent (with_file temp bytes m))
unfolding move_in
intends_put m temp a b bytes is_temporary is a_normal b_normal stand = record {
  named =
      let here : map.get (map.insert (map.remove (with_file temp bytes m) temp) intent (contents (with_file temp bytes m) temp)) intent ≡ Some bytes =
      get-insert_here (map.remove (with_file temp bytes m) temp) intent (contents (with_file temp bytes m) temp) ∙ ap (λ (o : Option (List ℕ)). Some (unwrap_or o [])) (with_file_here m temp bytes) in
      ap (option_and_then read_intent) here ∙ ap read_intent is ∙ read-intent_bytes a b a_normal b_normal stand;
  alike = λ q lasts off.
      let apart = temp_apart q temp is_temporary lasts in
      get-insert_apart (map.remove (with_file temp bytes m) temp) intent (contents (with_file temp bytes m) temp) q off
      ∙ get-remove_apart (with_file temp bytes m) temp q apart ∙ with_file_apart m temp bytes q apart;
}

module _ (m : Files) (temp path : Path) (mid last : State) (is_temporary : is_temp temp ≡ true) (at_intent : path ≡ intent) (created : mid.files ≡ map.insert m temp [])
    (appended : HasAppended temp mid last) where
  whole_file : last.files ≡ with_file temp (contents last.files temp) m
  whole_file = written_file m temp mid last created appended

  pub intends_written : (a b : Path) → contents last.files temp ≡ intent_bytes a b → is_normal a ≡ true → is_normal b ≡ true → may_stand a b ≡ true → Intends a b m (move_in temp path last.files)
  intends_written a b bytes a_normal b_normal stand =
      subst (λ (p : Path). Intends a b m (move_in temp p last.files)) (sym at_intent)
      (subst (λ (n : Files). Intends a b m (move_in temp intent n)) (sym whole_file) (intends_put m temp a b (contents last.files temp) is_temporary bytes a_normal b_normal stand))

  -- and no other temporary file
  pub temps_put : (q : Path) → is_temp q ≡ true → has (move_in temp path last.files) q ≡ true → has m q ≡ true
  temps_put q q_temp there =
      temps-written m temp path (contents last.files temp) is_temporary (ap is_temp at_intent ∙ intent_shown) q q_temp (subst (λ (n : Files). has (move_in temp path n) q ≡ true) whole_file there)
