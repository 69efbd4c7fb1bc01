-- A file that is appended to under a temporary name.
use Rattle.std.proofs.Common.{◌≡◌, inl, inr, ℕ, true, false, List, [], ◌++◌, length, Option, unwrap_or, sym, ap, ◌∙◌, subst}
use Rattle.std.specs.FinMap as map
use Rattle.boot_base.specs.Paths.{Path, intent, is_temp}
use Rattle.boot_machine.specs.Prelude.{Files, State, has, is_same_path, recovered_view, Timeline, IsIdleMoment, bytes_between, contents, append_to, move_in}
use Rattle.boot_machine.specs.proofs.Maps.{get-insert_here}
use Rattle.boot_machine.proofs.Elapsing.{joined, weaken}
use Rattle.boot_machine.proofs.Going.{During, SeesSilently, image_sees}
use Rattle.boot_machine.proofs.Ranges.{between_whole}
use Rattle.boot_machine.proofs.Recovering.{IsCalm}
use Rattle.boot_machine.proofs.Soft.{Stands, stands-appended}
use Rattle.boot_machine.proofs.Written.{has-created, calm-written, recovered_view-written, temps-written}
use Rattle.install_steps.specs.Appends.{with_soft_path, HasAppended, AppendsOnly, IsGrown}
use Rattle.install_steps.specs.proofs.AppendLaws.{contents-append_to}
use Rattle.install_steps.proofs.CopyLemmas.{source_stays, with_file, with_none}

stands-with_soft_path : (old : State) (P : Files → Type 0) (s : State) → Stands old P s → (p : Path) → is_temp p ≡ true → Stands old P (with_soft_path p s)
stands-with_soft_path old P s so_far p temp = record {
  temps = (stands-appended old P s so_far p [] temp).temps;
  views = so_far.views;
  printed = so_far.printed;
  input = so_far.input;
}

stands-more : (old : State) (P : Files → Type 0) (s t : State) → Stands old P s → (p : Path) → is_temp p ≡ true → HasAppended p s t → Stands old P t
stands-more old P s t so_far p temp (inl is) = subst (λ (v : State). Stands old P v) (sym is) so_far
stands-more old P s t so_far p temp (inr more) = subst (λ (v : State). Stands old P v) (sym more.1) (stands-appended old P s so_far p more.0 temp)

-- a temporary file is appended to
pub goes-appends : {D : Type 0} (time : Timeline D) (state : D → State) (P : Files → Type 0) (old mid new : D)
    → During time state P old mid → (p : Path) → is_temp p ≡ true → AppendsOnly time state p mid new → During time state P old new
goes-appends time state P old mid new so_far p temp appends = record {
  moments = joined time state (SeesSilently (state old) P) old mid new so_far.moments
      (weaken time state (IsIdleMoment (with_soft_path p (state mid))) (SeesSilently (state old) P) mid new
      (λ m o stays. (
        image_sees (state old) P (with_soft_path p (state mid)) (stands-with_soft_path (state old) P (state mid) so_far.stands p temp) m stays.0,
        stays.1 ∙ so_far.stands.printed,
      ))
      appends.moments);
  stands = stands-more (state old) P (state mid) (state new) so_far.stands p temp appends.left;
}

-- a new file is empty
pub contents-created : (m : Files) (p : Path) → contents (map.insert m p []) p ≡ []
contents-created m p = ap (λ (o : Option (List ℕ)). unwrap_or o []) (get-insert_here m p [])

-- the files with what was appended to a new one
pub written_file : (m : Files) (p : Path) (mid new : State) → mid.files ≡ map.insert m p [] → HasAppended p mid new → new.files ≡ with_file p (contents new.files p) m
written_file m p mid new e (inl is) =
    let files : new.files ≡ map.insert m p [] = ap (λ (s : State). s.files) is ∙ e in
    let none : contents new.files p ≡ [] = ap (λ (n : Files). contents n p) files ∙ contents-created m p in
    files ∙ with_none m p ∙ ap (λ (l : List ℕ). with_file p l m) (sym none)
written_file m p mid new e (inr more) =
    let files : new.files ≡ append_to p more.0 (map.insert m p []) = ap (λ (s : State). s.files) more.1 ∙ ap (append_to p more.0) e in
    let is : contents new.files p ≡ more.0 =
    ap (λ (n : Files). contents n p) files ∙ contents-append_to (map.insert m p []) p more.0 (has-created m p) ∙ ap (λ (l : List ℕ). l ++ more.0) (contents-created m p) in
    files ∙ ap (λ (l : List ℕ). with_file p l m) (sym is)

-- a whole file is copied to a new one
pub copied_file : (m : Files) (temp from : Path) (mid new : State) (size : ℕ) → is_temp temp ≡ true → is_temp from ≡ false → mid.files ≡ map.insert m temp [] → HasAppended temp mid new
    → IsGrown temp (bytes_between (contents mid.files from) 0 size) mid new → size ≡ length (contents m from) → new.files ≡ with_file temp (contents m from) m
copied_file m temp from mid new size is_temporary shown e left grown long =
    let source : contents mid.files from ≡ contents m from = ap (λ (n : Files). contents n from) (e ∙ with_none m temp) ∙ source_stays m temp from [] is_temporary shown in
    let none : contents mid.files temp ≡ [] = ap (λ (n : Files). contents n temp) e ∙ contents-created m temp in
    let bytes : contents new.files temp ≡ contents m from =
    grown.bytes ∙ ap (λ (l : List ℕ). l ++ bytes_between (contents mid.files from) 0 size) none ∙ ap (λ (l : List ℕ). bytes_between l 0 size) source ∙ between_whole (contents m from) size long in
    written_file m temp mid new e left ∙ ap (λ (l : List ℕ). with_file temp l m) bytes

-- boot sees it in its place
pub sees_written : (m : Files) (p to : Path) (mid new : State) (image : List ℕ) → IsCalm m → is_same_path intent to ≡ false → is_temp p ≡ true
    → is_temp to ≡ false → mid.files ≡ map.insert m p [] → HasAppended p mid new
    → contents new.files p ≡ image → recovered_view (move_in p to new.files) ≡ map.insert (recovered_view m) to image
sees_written m p to mid new image calm free temp shown e left is =
    ap (λ (n : Files). recovered_view (move_in p to n)) (written_file m p mid new e left) ∙ recovered_view-written m p to (contents new.files p) calm temp shown free
    ∙ ap (λ (l : List ℕ). map.insert (recovered_view m) to l) is

-- and no intent
pub calm_left : (m : Files) (p to : Path) (mid new : State) → IsCalm m → is_same_path intent to ≡ false → is_temp p ≡ true
    → mid.files ≡ map.insert m p [] → HasAppended p mid new → IsCalm (move_in p to new.files)
calm_left m p to mid new calm free temp e left =
    subst (λ (n : Files). IsCalm (move_in p to n)) (sym (written_file m p mid new e left)) (calm-written m p to (contents new.files p) calm temp free)

-- and no other temporary file
pub temps_left : (m : Files) (p to : Path) (mid new : State) → is_temp p ≡ true → is_temp to ≡ false → mid.files ≡ map.insert m p [] → HasAppended p mid new
    → (q : Path) → is_temp q ≡ true → has (move_in p to new.files) q ≡ true → has m q ≡ true
temps_left m p to mid new temp shown e left q q_temp there =
    temps-written m p to (contents new.files p) temp shown q q_temp (subst (λ (n : Files). has (move_in p to n) q ≡ true) (written_file m p mid new e left) there)
