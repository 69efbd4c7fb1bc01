-- What boot sees of changed files.
use Rattle.std.proofs.Common.{◌≡◌, inl, inr, ℕ, Bool, true, false, not, ◌&&◌, cond, List, [], ◌++◌, Option, Some, None, is_some, unwrap_or, refl, sym, ap, ◌∙◌}
use Rattle.std.proofs.lemmas.Bool.{cases_Bool}
use Rattle.std.specs.FinMap as map
use Rattle.std.specs.FinSet as set
use Rattle.boot_base.specs.Paths.{Path, is_temp}
use Rattle.boot_machine.specs.Prelude.{Files, Paths, has, is_shown, view, is_same_path, contents, append_to, move_in}
use Rattle.boot_machine.specs.proofs.Maps.{cases_same, same_files, get-insert, get-insert_here, get-insert_apart, get-remove, get-remove_here, get-remove_apart, get-retain}

pub get-view : (m : Files) (q : Path) → map.get (view m) q ≡ cond (is_shown m q) (map.get m q) None
unfolding view
get-view m q = get-retain m (is_shown m) q

pub shown_if_not_temp : (m : Files) (q : Path) → is_shown m q ≡ not (is_temp q)
unfolding is_shown
shown_if_not_temp m q = refl

-- the temporary files don't bear on the view
pub view_from : (m n : Files) → ((q : Path) → is_temp q ≡ false → map.get m q ≡ map.get n q) → view m ≡ view n
view_from m n alike =
    same_files (view m) (view n) (λ q. elim (cases_Bool (is_temp q)) [
      | inl temp ↦ rw (get-view m q, get-view n q, shown_if_not_temp m q, shown_if_not_temp n q, temp) refl
      | inr not_temp ↦ rw (get-view m q, get-view n q, shown_if_not_temp m q, shown_if_not_temp n q, not_temp) (alike q not_temp)
    ])

pub temp_apart : (q p : Path) → is_temp p ≡ true → is_temp q ≡ false → is_same_path q p ≡ false
temp_apart q p temp not_temp = elim (cases_same q p) [ inl is ↦ absurd (cc (temp, not_temp, ap is_temp is)) | inr apart ↦ apart ]

pub view-insert_temp : (m : Files) (p : Path) (v : List ℕ) → is_temp p ≡ true → view (map.insert m p v) ≡ view m
view-insert_temp m p v temp = view_from _ _ (λ q not_temp. get-insert_apart m p v q (temp_apart q p temp not_temp))

pub get-append_to : (m : Files) (p : Path) (bytes : List ℕ) (q : Path) → map.get (append_to p bytes m) q ≡ cond (is_same_path q p && has m p) (Some (contents m p ++ bytes)) (map.get m q)
unfolding append_to
get-append_to m p bytes q = elim (cases_Bool (has m p)) [
  | inl there ↦ rw (there) (elim (cases_Bool (is_same_path q p)) [
    | inl here ↦ rw (get-insert m p (contents m p ++ bytes) q, here) refl
    | inr apart ↦ rw (get-insert m p (contents m p ++ bytes) q, apart) refl
  ])
  | inr none ↦ rw (none) (elim (cases_Bool (is_same_path q p)) [ inl here ↦ rw here refl | inr apart ↦ rw apart refl ])
]

pub view-append_to : (m : Files) (p : Path) (bytes : List ℕ) → is_temp p ≡ true → view (append_to p bytes m) ≡ view m
view-append_to m p bytes temp = view_from _ _ (λ q not_temp. rw (get-append_to m p bytes q, temp_apart q p temp not_temp) refl)

-- boot sees the file where it is moved to
pub view-move_in_temp : (m : Files) (from to : Path) → is_temp from ≡ true → is_temp to ≡ false → view (move_in from to m) ≡ map.insert (view m) to (contents m from)
unfolding move_in
view-move_in_temp m from to temp not_temp =
    same_files _ _ (λ q. elim (cases_same q to) [
      | inl here ↦ rw (here, get-insert_here (view m) to (contents m from), get-view (map.insert (map.remove m from) to (contents m from)) to, shown_if_not_temp (map.insert (map.remove m from) to (contents m from)) to, not_temp) (get-insert_here (map.remove m from) to (contents m from))
      | inr apart ↦ rw (get-insert_apart (view m) to (contents m from) q apart, get-view m q, get-view (map.insert (map.remove m from) to (contents m from)) q, shown_if_not_temp (map.insert (map.remove m from) to (contents m from)) q, shown_if_not_temp m q, get-insert_apart (map.remove m from) to (contents m from) q apart)
          (elim (cases_Bool (is_temp q)) [
            | inl q_temp ↦ rw q_temp refl
            | inr q_not ↦ rw (q_not, get-remove_apart m from q (temp_apart q from temp q_not)) refl
          ])
    ])

pub view-remove : (m : Files) (p : Path) → is_temp p ≡ false → view (map.remove m p) ≡ map.remove (view m) p
view-remove m p not_temp =
    same_files _ _ (λ q. rw (get-view (map.remove m p) q, get-remove (view m) p q, get-view m q, shown_if_not_temp (map.remove m p) q, shown_if_not_temp m q, get-remove m p q)
    (elim (cases_Bool (is_same_path q p)) [
      | inl one ↦ rw one (elim (cases_Bool (is_temp q)) [ inl temp ↦ rw temp refl | inr shown ↦ rw shown refl ])
      | inr two ↦ rw two refl
    ]))

pub get-view_shown : (m : Files) (q : Path) → is_temp q ≡ false → map.get (view m) q ≡ map.get m q
get-view_shown m q shown = rw (get-view m q, shown_if_not_temp m q, shown) refl

pub has-view : (m : Files) (q : Path) → is_temp q ≡ false → has (view m) q ≡ has m q
has-view m q shown = ap is_some (get-view_shown m q shown)

pub view-insert : (m : Files) (p : Path) (v : List ℕ) → is_temp p ≡ false → view (map.insert m p v) ≡ map.insert (view m) p v
view-insert m p v shown =
    same_files _ _ (λ q. elim (cases_same q p) [
      | inl here ↦ rw here (get-view_shown (map.insert m p v) p shown ∙ get-insert_here m p v ∙ sym (get-insert_here (view m) p v))
      | inr apart ↦ get-view (map.insert m p v) q ∙ rw (get-insert_apart m p v q apart, shown_if_not_temp (map.insert m p v) q) (sym (get-insert_apart (view m) p v q apart ∙ get-view m q ∙ rw (shown_if_not_temp m q) refl))
    ])

pub view-move_in : (m : Files) (from to : Path) → is_temp from ≡ false → is_temp to ≡ false → view (move_in from to m) ≡ move_in from to (view m)
unfolding move_in
view-move_in m from to from_shown to_shown =
    view-insert (map.remove m from) to (contents m from) to_shown
    ∙ ap (λ (v : Files). map.insert v to (contents m from)) (view-remove m from from_shown)
    ∙ ap (λ (o : Option (List ℕ)). map.insert (map.remove (view m) from) to (unwrap_or o [])) (sym (get-view_shown m from from_shown))

is_none_false : {b : Bool} → b ≡ false → b ≡ true → ⊥
is_none_false e f = cc

pub temps-move_in : (m : Files) (from to : Path) → is_temp to ≡ false → (q : Path) → is_temp q ≡ true → has (move_in from to m) q ≡ true → has m q ≡ true
unfolding move_in
temps-move_in m from to to_shown q q_temp there = elim (cases_same q to) [
  | inl is ↦ absurd (cc (q_temp, to_shown, ap is_temp is))
  | inr off_to ↦ temps-remove m from q (sym (ap is_some (get-insert_apart (map.remove m from) to (contents m from) q off_to)) ∙ there)
]
  where
    temps-remove : (m : Files) (p q : Path) → has (map.remove m p) q ≡ true → has m q ≡ true
    temps-remove m p q there = elim (cases_same q p) [
      | inl is ↦ absurd (is_none_false (ap (λ (k : Path). is_some (map.get (map.remove m p) k)) is ∙ ap is_some (get-remove_here m p)) there)
      | inr off ↦ sym (ap is_some (get-remove_apart m p q off)) ∙ there
    ]

pub has-removed : (m : Files) (p q : Path) → has (map.remove m p) q ≡ true → has m q ≡ true
has-removed m p q there = elim (cases_same q p) [
  | inl is ↦ absurd (is_none_false (ap (λ (k : Path). is_some (map.get (map.remove m p) k)) is ∙ ap is_some (get-remove_here m p)) there)
  | inr off ↦ sym (ap is_some (get-remove_apart m p q off)) ∙ there
]

pub not_soft : (soft : Paths) → ((q : Path) → set.contains soft q ≡ true → is_temp q ≡ true) → (p : Path) → is_temp p ≡ false → set.contains soft p ≡ false
not_soft soft temps p shown = elim (cases_Bool (set.contains soft p)) [ inl is_soft ↦ absurd (is_none_false shown (temps p is_soft)) | inr synced ↦ synced ]
