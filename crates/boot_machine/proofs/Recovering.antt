-- The recovered view of changed files.
use Rattle.std.proofs.Common.{◌≡◌, inl, inr, ℕ, Bool, true, false, not, ◌&&◌, cond, List, Option, Some, None, is_some, refl, sym, ap, ◌∙◌, bytes_eq, option_and_then, if◌then◌else◌}
use Rattle.std.proofs.lemmas.Bool.{cases_Bool, and_parts, not-true}
use Rattle.std.specs.FinMap as map
use Rattle.std.specs.FinSet as set
use Rattle.std.specs.Str.{is_utf8}
use Rattle.std.proofs.lemmas.Map.Text.{is_eq-slice_cmp}
use Rattle.boot_base.specs.Paths.{Path, is_temp, is_normal, is_nameable, intent, read_intent, at_nul, second_path, may_stand}
use Rattle.boot_base.proofs.Normal.{normal-temp}
use Rattle.boot_machine.specs.Prelude.{Files, Paths, has, view, is_recovered, is_left, intent_names, of_intent, recovered_view, is_same_path, HasNoHalfRename, IsImageOf, append_to, contents, move_in}
use Rattle.boot_machine.specs.proofs.Maps.{cases_same, get-none, same_self, same_files, get-insert, get-insert_here, get-insert_apart, get-remove, get-remove_here, get-remove_apart, get-retain}
use Rattle.boot_machine.proofs.Views.{get-view, shown_if_not_temp, temp_apart, get-append_to, get-view_shown, view-remove, view-move_in}

pub get-recovered_view : (m : Files) (q : Path) → map.get (recovered_view m) q ≡ cond (is_recovered m q) (map.get m q) None
unfolding recovered_view
get-recovered_view m q = get-retain m (is_recovered m) q

-- two names that an intent may have
pub record AreNames (a b : Path) : Type 0 where
  pub first_lasts : is_temp a ≡ false
  pub second_lasts : is_temp b ≡ false
  pub first_free : is_same_path a intent ≡ false
  pub second_free : is_same_path b intent ≡ false
  pub apart : is_same_path a b ≡ false

named_parts : (a : Path) → is_nameable a ≡ true → (is_temp a ≡ false) × (bytes_eq a intent ≡ false)
named_parts a e =
    let outer = and_parts (is_utf8 a && is_normal a) (not (bytes_eq a intent)) e in
    (normal-temp a (and_parts (is_utf8 a) (is_normal a) outer.0).1, not-true (bytes_eq a intent) outer.1)

names_from : (a b : Path) → may_stand a b ≡ true → AreNames a b
names_from a b e =
    let outer = and_parts (is_nameable a && is_nameable b) (not (bytes_eq a b)) e in
    let both = and_parts (is_nameable a) (is_nameable b) outer.0 in
    let first = named_parts a both.0 in
    let second = named_parts b both.1 in
    record {
      first_lasts = first.0;
      second_lasts = second.0;
      first_free = is_eq-slice_cmp a intent ∙ first.1;
      second_free = is_eq-slice_cmp b intent ∙ second.1;
      apart = is_eq-slice_cmp a b ∙ not-true (bytes_eq a b) outer.1;
    }

abbrev pub AreShown : Option (Path × Path) → Type 0
AreShown None = Unit {0}
AreShown (Some p) = AreNames p.0 p.1

picked_names : (s : Bool) (a b : Path) → (s ≡ true → AreNames a b) → AreShown (if s then Some (a, b) else None)
picked_names true a b so = so refl
picked_names false a b so = tt

second_names : (a : Path) (o : Option (Path × List ℕ)) → AreShown (option_and_then (second_path a) o)
second_names a None = tt
second_names a (Some second) = picked_names (bytes_eq second.1 _ && may_stand a second.0) a second.0 (λ e. names_from a second.0 (and_parts (bytes_eq second.1 _) (may_stand a second.0) e).1)

first_names : (o : Option (Path × List ℕ)) → AreShown (option_and_then (λ first. option_and_then (second_path first.0) (at_nul first.1)) o)
first_names None = tt
first_names (Some first) = second_names first.0 (at_nul first.1)

read_names : (bytes : List ℕ) → AreShown (read_intent bytes)
unfolding read_intent
read_names bytes = first_names (at_nul bytes)

names_at : (o : Option (List ℕ)) → AreShown (option_and_then read_intent o)
names_at None = tt
names_at (Some bytes) = read_names bytes

-- what an intent names are names
pub shown_names : (m : Files) → AreShown (intent_names m)
shown_names m = names_at (map.get m intent)

pub names_of : (m : Files) (a b : Path) → intent_names m ≡ Some (a, b) → AreNames a b
names_of m a b is = by_names (intent_names m) is (shown_names m)
  where
    by_names : (o : Option (Path × Path)) → o ≡ Some (a, b) → AreShown o → AreNames a b
    by_names None is shown = cc
    by_names (Some p) is shown =
        let same_pair : p ≡ (a, b) = cc in
        rw same_pair at shown

pub intent_shown : is_temp intent ≡ false
unfolding is_temp
intent_shown = refl

pub off_temp : (q p : Path) → is_temp q ≡ true → is_temp p ≡ false → is_same_path q p ≡ false
off_temp q p temp lasts = elim (cases_same q p) [ inl is ↦ absurd (cc (temp, lasts, ap is_temp is)) | inr apart ↦ apart ]

clash : {b : Bool} → b ≡ false → b ≡ true → ⊥
clash e f = cc

pub turn : (q p : Path) → is_same_path p q ≡ false → is_same_path q p ≡ false
turn q p apart = elim (cases_same q p) [ inl is ↦ absurd (clash apart (ap (λ (k : Path). is_same_path p k) is ∙ same_self p)) | inr off ↦ off ]

left_alike : (o : Option (Path × Path)) (m n : Files) (q : Path) → AreShown o → ((k : Path) → is_temp k ≡ false → map.get m k ≡ map.get n k)
    → of_intent o (λ a b. is_same_path q a && has m a && has m b) ≡ of_intent o (λ a b. is_same_path q a && has n a && has n b)
left_alike None m n q shown alike = refl
left_alike (Some p) m n q shown alike = rw (alike p.0 shown.first_lasts, alike p.1 shown.second_lasts) refl

shown_alike : (m n : Files) → ((q : Path) → is_temp q ≡ false → map.get m q ≡ map.get n q) → (q : Path) → is_recovered m q ≡ is_recovered n q
unfolding is_recovered is_left
shown_alike m n alike q =
    let same_intent : intent_names m ≡ intent_names n = ap (option_and_then read_intent) (alike intent intent_shown) in
    ap (λ (b : Bool). not (is_temp q) && not (is_same_path q intent) && not b)
    (ap (λ (o : Option (Path × Path)). of_intent o (λ a b. is_same_path q a && has m a && has m b)) same_intent ∙ left_alike (intent_names n) m n q (shown_names n) alike)

pub temp_not_recovered : (m : Files) (q : Path) → is_temp q ≡ true → is_recovered m q ≡ false
unfolding is_recovered
temp_not_recovered m q temp = rw temp refl

-- the temporary files don't bear on the recovered view
pub recovered_view_from : (m n : Files) → ((q : Path) → is_temp q ≡ false → map.get m q ≡ map.get n q) → recovered_view m ≡ recovered_view n
recovered_view_from m n alike =
    same_files (recovered_view m) (recovered_view n) (λ q. elim (cases_Bool (is_temp q)) [
      | inl temp ↦ rw (get-recovered_view m q, get-recovered_view n q, temp_not_recovered m q temp, temp_not_recovered n q temp) refl
      | inr not_temp ↦ rw (get-recovered_view m q, get-recovered_view n q, shown_alike m n alike q, alike q not_temp) refl
    ])

pub recovered_view-insert_temp : (m : Files) (p : Path) (v : List ℕ) → is_temp p ≡ true → recovered_view (map.insert m p v) ≡ recovered_view m
recovered_view-insert_temp m p v temp = recovered_view_from _ _ (λ q not_temp. get-insert_apart m p v q (temp_apart q p temp not_temp))

pub recovered_view-remove_temp : (m : Files) (p : Path) → is_temp p ≡ true → recovered_view (map.remove m p) ≡ recovered_view m
recovered_view-remove_temp m p temp = recovered_view_from _ _ (λ q not_temp. get-remove_apart m p q (temp_apart q p temp not_temp))

pub recovered_view-append_to : (m : Files) (p : Path) (bytes : List ℕ) → is_temp p ≡ true → recovered_view (append_to p bytes m) ≡ recovered_view m
recovered_view-append_to m p bytes temp = recovered_view_from _ _ (λ q not_temp. rw (get-append_to m p bytes q, temp_apart q p temp not_temp) refl)

-- a stop leaves what boot sees of the candidate
pub recovered_view_of_image : (soft : Paths) (c m : Files) → ((q : Path) → set.contains soft q ≡ true → is_temp q ≡ true) → IsImageOf soft c m → recovered_view m ≡ recovered_view c
recovered_view_of_image soft c m temps image =
    recovered_view_from m c (λ q not_temp. elim (cases_Bool (set.contains soft q)) [
      | inl is_soft ↦ absurd (cc (temps q is_soft, not_temp))
      | inr synced ↦ image.bytes q synced
    ])

pub not_soft : (soft : Paths) → ((q : Path) → set.contains soft q ≡ true → is_temp q ≡ true) → (p : Path) → is_temp p ≡ false → set.contains soft p ≡ false
not_soft soft temps p lasts = elim (cases_Bool (set.contains soft p)) [ inl is_soft ↦ absurd (clash lasts (temps p is_soft)) | inr synced ↦ synced ]

-- no intent is there
abbrev pub IsCalm : Files → Type 0
IsCalm m = has m intent ≡ false

pub whole-unread : (m : Files) → intent_names m ≡ None → HasNoHalfRename m
unfolding is_left
whole-unread m none = record { none = λ q. rw none refl }

pub whole-calm : (m : Files) → IsCalm m → HasNoHalfRename m
whole-calm m calm = whole-unread m (ap (option_and_then read_intent) (get-none m intent calm))

pub whole-first : (m : Files) (a b : Path) → intent_names m ≡ Some (a, b) → has m a ≡ false → HasNoHalfRename m
unfolding is_left
whole-first m a b named none = record { none = λ q. rw (named, none) (last (is_same_path q a)) }
  where
    last : (x : Bool) → (x && false && has m b) ≡ false
    last true = refl
    last false = refl

pub whole-second : (m : Files) (a b : Path) → intent_names m ≡ Some (a, b) → has m b ≡ false → HasNoHalfRename m
unfolding is_left
whole-second m a b named none = record { none = λ q. rw (named, none) (last (is_same_path q a) (has m a)) }
  where
    last : (x y : Bool) → (x && y && false) ≡ false
    last true true = refl
    last true false = refl
    last false y = refl

pub get-view_whole : (m : Files) (q : Path) → HasNoHalfRename m → map.get (recovered_view m) q ≡ cond (not (is_temp q) && not (is_same_path q intent)) (map.get m q) None
unfolding is_recovered
get-view_whole m q whole = rw (get-recovered_view m q, whole.none q) (ap (λ (b : Bool). cond b (map.get m q) None) (and_true (not (is_temp q) && not (is_same_path q intent))))
  where
    and_true : (b : Bool) → (b && true) ≡ b
    and_true true = refl
    and_true false = refl

-- where no intent is there boot sees all that lasts
pub recovered_view-calm : (m : Files) → IsCalm m → recovered_view m ≡ view m
recovered_view-calm m calm = same_files _ _ (λ q. elim (cases_same q intent) [
  | inl here ↦ rw here (rw (get-view_whole m intent (whole-calm m calm), get-view m intent, shown_if_not_temp m intent, intent_shown, get-none m intent calm) refl)
  | inr off ↦ rw (get-view_whole m q (whole-calm m calm), get-view m q, shown_if_not_temp m q, off) (ap (λ (b : Bool). cond b (map.get m q) None) (and_true (not (is_temp q))))
])
  where
    and_true : (b : Bool) → (b && true) ≡ b
    and_true true = refl
    and_true false = refl

pub calm-remove : (m : Files) (p : Path) → IsCalm m → IsCalm (map.remove m p)
calm-remove m p calm = rw (get-remove m p intent, get-none m intent calm) (elim (cases_Bool (is_same_path intent p)) [ inl one ↦ rw one refl | inr two ↦ rw two refl ])

pub calm-removed : (m : Files) → IsCalm (map.remove m intent)
calm-removed m = ap is_some (get-remove_here m intent)

pub calm-insert : (m : Files) (p : Path) (v : List ℕ) → is_same_path intent p ≡ false → IsCalm m → IsCalm (map.insert m p v)
calm-insert m p v free calm = rw (get-insert m p v intent, free) calm

pub calm-move_in : (m : Files) (from to : Path) → is_same_path intent to ≡ false → IsCalm m → IsCalm (move_in from to m)
unfolding move_in
calm-move_in m from to free calm = calm-insert (map.remove m from) to (contents m from) free (calm-remove m from calm)

-- Where no rename is half done, boot sees the same without the intent.
pub recovered_view-drop_intent : (m : Files) → HasNoHalfRename m → recovered_view (map.remove m intent) ≡ recovered_view m
recovered_view-drop_intent m whole = same_files _ _ (λ q.
    rw (get-view_whole (map.remove m intent) q (whole-calm (map.remove m intent) (calm-removed m)), get-view_whole m q whole, get-remove m intent q)
    (elim (cases_Bool (is_same_path q intent)) [
      | inl here ↦ rw here (last (not (is_temp q)) (map.get m q))
      | inr off ↦ rw off refl
    ]))
  where
    nothing : Option (List ℕ)
    nothing = None

    last : (x : Bool) (o : Option (List ℕ)) → cond (x && false) nothing nothing ≡ cond (x && false) o nothing
    last true o = refl
    last false o = refl

-- Where the new name of an intent is there, boot sees the same without its old name.
pub recovered_view-drop_left : (m : Files) (a b : Path) → intent_names m ≡ Some (a, b) → has m b ≡ true → recovered_view (map.remove m a) ≡ recovered_view m
unfolding is_recovered is_left
recovered_view-drop_left m a b named there =
    let names = names_of m a b named in
    let still : intent_names (map.remove m a) ≡ Some (a, b) = ap (option_and_then read_intent) (get-remove_apart m a intent (turn intent a names.first_free)) ∙ named in
    same_files _ _ (λ q. elim (cases_same q a) [
      | inl here ↦ rw here (rw (get-recovered_view (map.remove m a) a, get-recovered_view m a, get-remove_here m a, named, still, there, same_self a) (at_first _ (is_temp a) (is_same_path a intent) (map.get m a)))
      | inr off ↦ rw (get-recovered_view (map.remove m a) q, get-recovered_view m q, get-remove_apart m a q off, named, still, off) refl
    ])
  where
    nothing : Option (List ℕ)
    nothing = None

    hidden : (x : Bool) (o : Option (List ℕ)) → nothing ≡ cond (x && not (is_some o && true)) o None
    hidden true None = refl
    hidden true (Some v) = refl
    hidden false o = refl

    to_none : (x : Bool) → cond x nothing nothing ≡ nothing
    to_none true = refl
    to_none false = refl

    at_first : (t x y : Bool) (o : Option (List ℕ)) → cond t nothing nothing ≡ cond (not x && not y && not (is_some o && true)) o None
    at_first t x y o = to_none t ∙ hidden (not x && not y) o

-- Where no intent is there, the laws of the files that last hold of the recovered view.
pub get-recovered_view_there : (m : Files) (q : Path) → IsCalm m → is_temp q ≡ false → map.get (recovered_view m) q ≡ map.get m q
get-recovered_view_there m q calm lasts = ap (λ (v : Files). map.get v q) (recovered_view-calm m calm) ∙ get-view_shown m q lasts

pub has-recovered_view : (m : Files) (q : Path) → IsCalm m → is_temp q ≡ false → has (recovered_view m) q ≡ has m q
has-recovered_view m q calm lasts = ap is_some (get-recovered_view_there m q calm lasts)

pub recovered_view-remove : (m : Files) (p : Path) → IsCalm m → is_temp p ≡ false → recovered_view (map.remove m p) ≡ map.remove (recovered_view m) p
recovered_view-remove m p calm lasts = recovered_view-calm (map.remove m p) (calm-remove m p calm) ∙ view-remove m p lasts ∙ ap (λ (n : Files). map.remove n p) (sym (recovered_view-calm m calm))

pub recovered_view-move_in : (m : Files) (from to : Path) → IsCalm m → is_temp from ≡ false → is_temp to ≡ false
    → is_same_path intent to ≡ false → recovered_view (move_in from to m) ≡ move_in from to (recovered_view m)
recovered_view-move_in m from to calm from_lasts to_lasts free =
    recovered_view-calm (move_in from to m) (calm-move_in m from to free calm) ∙ view-move_in m from to from_lasts to_lasts ∙ ap (move_in from to) (sym (recovered_view-calm m calm))

-- Boot sees nothing of a temporary name that is left.
pub recovered_view-half_temp : (m : Files) (from to : Path) → is_temp from ≡ true → recovered_view (map.insert m to (contents m from)) ≡ recovered_view (move_in from to m)
unfolding move_in
recovered_view-half_temp m from to temp = recovered_view_from _ _ (λ q not_temp. elim (cases_same q to) [
  | inl here ↦ rw here (get-insert_here m to (contents m from) ∙ sym (get-insert_here (map.remove m from) to (contents m from)))
  | inr off ↦ get-insert_apart m to (contents m from) q off ∙ sym (get-insert_apart (map.remove m from) to (contents m from) q off ∙ get-remove_apart m from q (temp_apart q from temp not_temp))
])

pub get-move_in_apart : (m : Files) (from to q : Path) → is_same_path q from ≡ false → is_same_path q to ≡ false → map.get (move_in from to m) q ≡ map.get m q
unfolding move_in
get-move_in_apart m from to q off_from off_to = get-insert_apart (map.remove m from) to (contents m from) q off_to ∙ get-remove_apart m from q off_from

-- Under its intent boot sees nothing of an old name that is left.
pub recovered_view-half_moved : (m : Files) (a b : Path) → intent_names m ≡ Some (a, b) → recovered_view (map.insert m b (contents m a)) ≡ recovered_view (move_in a b m)
unfolding move_in
recovered_view-half_moved m a b named =
    let names = names_of m a b named in
    let both = map.insert m b (contents m a) in
    let still : intent_names both ≡ Some (a, b) = ap (option_and_then read_intent) (get-insert_apart m b (contents m a) intent (turn intent b names.second_free)) ∙ named in
    let there : has both b ≡ true = ap is_some (get-insert_here m b (contents m a)) in
    let moved : map.remove both a ≡ map.insert (map.remove m a) b (contents m a) = same_files _ _ (λ q. elim (cases_same q a) [
      | inl here ↦ rw here (get-remove_here both a ∙ sym (get-insert_apart (map.remove m a) b (contents m a) a names.apart ∙ get-remove_here m a))
      | inr off ↦ get-remove_apart both a q off ∙ elim (cases_same q b) [
        | inl is ↦ rw is (get-insert_here m b (contents m a) ∙ sym (get-insert_here (map.remove m a) b (contents m a)))
        | inr away ↦ get-insert_apart m b (contents m a) q away ∙ sym (get-insert_apart (map.remove m a) b (contents m a) q away ∙ get-remove_apart m a q off)
      ]
    ]) in
    sym (recovered_view-drop_left both a b still there) ∙ ap recovered_view moved

-- an intent that can be read is there
pub intent_there : (m : Files) (p : Path × Path) → intent_names m ≡ Some p → has m intent ≡ true
intent_there m p is = by_cases (map.get m intent) is
  where
    by_cases : (o : Option (List ℕ)) → option_and_then read_intent o ≡ Some p → is_some o ≡ true
    by_cases None e = cc
    by_cases (Some bytes) e = refl

still_named : (m : Files) (a b : Path) → intent_names m ≡ Some (a, b) → intent_names (map.remove m a) ≡ Some (a, b)
still_named m a b named = ap (option_and_then read_intent) (get-remove_apart m a intent (turn intent a (names_of m a b named).first_free)) ∙ named

-- without its first name a rename isn't half done
pub whole-removed : (m : Files) (a b : Path) → intent_names m ≡ Some (a, b) → HasNoHalfRename (map.remove m a)
whole-removed m a b named = whole-first (map.remove m a) a b (still_named m a b named) (ap is_some (get-remove_here m a))

pub intent_kept : (m : Files) (a b : Path) → intent_names m ≡ Some (a, b) → has (map.remove m a) intent ≡ true
intent_kept m a b named = intent_there (map.remove m a) (a, b) (still_named m a b named)
