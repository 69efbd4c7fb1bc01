-- The path of a file beside another, in the same folder.
use Rattle.std.proofs.Common.{◌≡◌, ◌≢◌, inl, inr, ℕ, ◌+◌, ◌-◌, ◌<◌, ◌≤◌, Bool, true, false, not, ◌&&◌, ◌||◌, ◌⊎◌, List, [], ◌∷◌, ◌++◌, Some, None, length, take, drop, get_or, filter, refl, sym, ap, subst, ◌∙◌, arith, zero, suc, length-append, append_assoc, get_or-append-add, drop_at, ◌==◌, bytes_eq}
use Rattle.std.specs.List.{join_with_byte, list_any, onto_first, sum_by}
use Rattle.std.proofs.Math.Seq.{take-append_seam}
use Rattle.std.proofs.lemmas.Bool.{cases_Bool, and_parts, cond-true, cond-false, eqb-true, eqb-false, le-ltb, ne_eqb, not-true, or_from, or_left, or_parts}
use Rattle.std.proofs.lemmas.Bool.Decides.{Decides-eqb}
use Rattle.std.proofs.lemmas.List.{append_cancel_right, same_from_push}
use Rattle.std.proofs.lemmas.List.Filters.{sum_by-filter_both}
use Rattle.std.proofs.lemmas.List.Folds.{list_any-append}
use Rattle.std.proofs.lemmas.List.Splits.{join_with_byte-slice_split, length-slice_split}
use Rattle.std.proofs.lemmas.List.Sums.{sum_by-cons}
use Rattle.std.proofs.lemmas.Slice.Eq.{bytes_eq-Decides, ends_is}
use Rattle.boot_base.specs.Paths.{Path, beside, components, file_name_of, intent, is_component, is_form, is_kept, is_normal, is_refused, is_slash, is_temp, normal_of, path_below, path_of, sibling_of, temp_end, under}
use Rattle.boot_base.proofs.Joined.{add_piece, is_kept-long, join_filtered, join_filtered-kept, join_filtered-left_out}
use Rattle.boot_base.proofs.LastComponent.{file_name_of-from}
use Rattle.boot_base.proofs.Normal.{normal-no_nul, normal-short}

-- ---- lists of which no element passes

module _ {X : Type 0} (p : X → Bool) where
  none_at : (xs : List X) → list_any p xs ≡ false → (k : ℕ) (d : X) → k < length xs → p (get_or xs k d) ≡ false
  none_at [] none k d below = absurd (omega arith)
  none_at (x ∷ xs) none zero d below = (or_parts (p x) (list_any p xs) none).0
  none_at (x ∷ xs) none (suc k) d below = none_at xs (or_parts (p x) (list_any p xs) none).1 k d (omega arith)

  module _ (xs ys : List X) where
    pub none-append : list_any p xs ≡ false → list_any p ys ≡ false → list_any p (xs ++ ys) ≡ false
    none-append first behind = list_any-append p xs ys ∙ or_from (list_any p xs) (list_any p ys) first behind

    pub none-parts : list_any p (xs ++ ys) ≡ false → (list_any p xs ≡ false) × (list_any p ys ≡ false)
    none-parts none = or_parts (list_any p xs) (list_any p ys) (sym (list_any-append p xs ys) ∙ none)

-- the text has the byte
abbrev pub has_byte : ℕ → List ℕ → Bool
has_byte c text = list_any (λ b. b == c) text

-- ---- the last component

-- the last component of a file's path is its name
pub file_name_under : (folder name : List ℕ) → list_any is_slash name ≡ false → file_name_of (under folder name) ≡ name
file_name_under folder name none =
    let s = under folder name in
    let start = length folder + 1 in
    let long : length s ≡ length folder + suc (length name) = length-append folder (47 ∷ name) in
    let at : (k : ℕ) → get_or s (length folder + k) 0 ≡ get_or (47 ∷ name) k 0 =
    λ k. get_or-append-add folder (47 ∷ name) k 0 in
    file_name_of-from s start (omega (arith, long))
    (λ k from below is.
    let here : get_or s k 0 ≡ get_or name (k - start) 0 = ap (λ n. get_or s n 0) (omega arith) ∙ at (suc (k - start)) in
    let unlike = none_at is_slash name none (k - start) 0 (omega (arith, long)) in
    eqb-false (get_or name (k - start) 0) 47 unlike (sym here ∙ is))
    (λ some. ap (λ n. get_or s n 0) (omega arith) ∙ at 0)
    ∙ ap (λ (l : List ℕ). drop start l) (sym (append_assoc folder (47 ∷ []) name))
    ∙ drop_at (folder ++ 47 ∷ []) name start (length-append folder (47 ∷ []))

-- a text without a slash is its own last component
pub file_name_whole : (text : List ℕ) → list_any is_slash text ≡ false → file_name_of text ≡ text
file_name_whole text none =
    file_name_of-from text 0 (omega arith)
    (λ k from below. eqb-false (get_or text k 0) 47 (none_at is_slash text none k 0 below))
    (λ some. absurd (omega arith))

-- a last component behind a slash
pub record IsCut (path : List ℕ) : Type 0 where
  pub front : List ℕ
  pub last : List ℕ
  pub whole : path ≡ under front last
  pub one : list_any is_slash last ≡ false

-- a text has no slash, or a last component behind one
pub last_of : (path : List ℕ) → (list_any is_slash path ≡ false) ⊎ IsCut path
last_of [] = inl refl
last_of (b ∷ path) = elim (last_of path) [
  | inl none ↦ elim (cases_Bool (is_slash b)) [
    | inl slash ↦ inr (record { front = []; last = path; whole = ap (λ c. c ∷ path) (eqb-true b 47 slash); one = none })
    | inr other ↦ inl (or_from (is_slash b) (list_any is_slash path) other none)
  ]
  | inr cut ↦
      let whole = ap (λ (l : List ℕ). b ∷ l) cut.whole in
      inr (record { front = b ∷ cut.front; last = cut.last; whole = whole; one = cut.one })
]

pub beside_whole : (text name : List ℕ) → list_any is_slash text ≡ false → beside text name ≡ name
beside_whole text name none =
    let kept : length text - length (file_name_of text) ≡ 0 = omega (arith, ap length (file_name_whole text none)) in
    ap (λ n. take n text ++ name) kept

pub beside_under : (front last name : List ℕ) → list_any is_slash last ≡ false
    → beside (under front last) name ≡ under front name
beside_under front last name none =
    let path = under front last in
    let folder = front ++ 47 ∷ [] in
    let parts : path ≡ folder ++ last = sym (append_assoc front (47 ∷ []) last) in
    let kept : length path - length (file_name_of path) ≡ length folder =
    omega (arith, ap length (file_name_under front last none), ap length parts, length-append folder last) in
    ap (λ n. take n path ++ name) kept
    ∙ ap (λ (l : List ℕ). take (length folder) l ++ name) parts
    ∙ ap (λ (l : List ℕ). l ++ name) (take-append_seam folder last)
    ∙ append_assoc front (47 ∷ []) name

-- ---- components

pub one_component : (name : List ℕ) → list_any is_slash name ≡ false → components name ≡ name ∷ []
one_component [] none = refl
one_component (b ∷ name) none =
    let parts = or_parts (is_slash b) (list_any is_slash name) none in
    rw (parts.0) (ap (onto_first b) (one_component name parts.1))

onto_more : (b : ℕ) (xs ys : List (List ℕ)) → 0 < length xs → onto_first b (xs ++ ys) ≡ onto_first b xs ++ ys
onto_more b [] ys some = absurd (omega arith)
onto_more b (x ∷ xs) ys some = refl

components_under : (folder name : List ℕ) → components (under folder name) ≡ components folder ++ components name
components_under [] name = refl
components_under (b ∷ folder) name = elim (cases_Bool (is_slash b)) [
  | inl slash ↦ rw slash (ap (λ (l : List (List ℕ)). [] ∷ l) (components_under folder name))
  | inr other ↦
      let some : 0 < length (components folder) = omega (arith, length-slice_split is_slash folder) in
      let more = onto_more b (components folder) (components name) some in
      rw other (ap (onto_first b) (components_under folder name) ∙ more)
]

-- a name in a folder is one more component
pub one_more : (folder name : List ℕ) → list_any is_slash name ≡ false
    → components (under folder name) ≡ components folder ++ name ∷ []
one_more folder name none =
    components_under folder name ∙ ap (λ (l : List (List ℕ)). components folder ++ l) (one_component name none)

-- a component with a slash behind it
abbrev weight : List ℕ → ℕ
weight component = length component + 1

length_join : (ps : List (List ℕ)) → length (join_with_byte 47 ps) ≡ sum_by weight ps - 1
length_join [] = refl
length_join (p ∷ []) = omega (arith, sum_by-cons weight p [])
length_join (p ∷ q ∷ ps) =
    omega (
      arith,
      length_join (q ∷ ps),
      length-append p (47 ∷ join_with_byte 47 (q ∷ ps)),
      sum_by-cons weight p (q ∷ ps),
      sum_by-cons weight q ps,
    )

-- what a text reads as is no longer than it
length_normal : (text : List ℕ) → length (normal_of text) ≤ length text
length_normal text =
    let ps = components text in
    omega (
      arith,
      length_join ps,
      length_join (filter is_kept ps),
      sum_by-filter_both is_kept (λ p. not (is_kept p)) (λ _. refl) weight ps,
      ap length (join_with_byte-slice_split 47 text),
    )

-- ---- normal forms

module _ (path : Path) (normal : is_normal path ≡ true) where
  abbrev is_read : Bool
  is_read = not (has_byte 0 path || list_any is_refused (components path))

  tests : ((is_read && is_form path) ≡ true) × (bytes_eq (normal_of path) path ≡ true)
  unfolding is_normal
  tests = and_parts _ _ normal

  pub none_refused : list_any is_refused (components path) ≡ false
  none_refused =
      let read = (and_parts is_read (is_form path) tests.0).0 in
      (or_parts (has_byte 0 path) (list_any is_refused (components path)) (not-true _ read)).1

  pub itself : normal_of path ≡ path
  itself = (bytes_eq-Decides (normal_of path) path).0 tests.1

-- what a last component was added to is the folder before it
added_to : (text front last : List ℕ) → add_piece 47 text last ≡ under front last
    → (text ≡ front) × ((length text == 0) ≡ false)
added_to text front last is = elim (cases_Bool (length text == 0)) [
  | inl none ↦
      let short : last ≡ under front last = sym (cond-true (length text == 0) last (under text last) none) ∙ is in
      absurd (omega (arith, ap length short, length-append front (47 ∷ last)))
  | inr some ↦
      let whole = sym (cond-false (length text == 0) last (under text last) some) ∙ is in
      (append_cancel_right text front (47 ∷ last) whole, some)
]

pub normal_more : (folder name : List ℕ) → is_kept name ≡ true → list_any is_slash name ≡ false
    → normal_of (under folder name) ≡ add_piece 47 (normal_of folder) name
normal_more folder name kept one = ap (join_filtered 47 is_kept) (one_more folder name one) ∙ join_filtered-kept 47 is_kept is_kept-long (components folder) name kept

module _ (front last : List ℕ) (one : list_any is_slash last ≡ false)
    (normal : normal_of (under front last) ≡ under front last) where
  -- the last component of a normal form counts
  last_kept : is_kept last ≡ true
  last_kept = elim (cases_Bool (is_kept last)) [
    | inl kept ↦ kept
    | inr left ↦
        let shorter = ap (join_filtered 47 is_kept) (one_more front last one) ∙ join_filtered-left_out 47 is_kept (components front) last left in
        let same : normal_of front ≡ under front last = sym shorter ∙ normal in
        absurd (omega (arith, ap length same, length_normal front, length-append front (47 ∷ last)))
  ]

  front_normal : (normal_of front ≡ front) × ((length (normal_of front) == 0) ≡ false)
  front_normal = added_to (normal_of front) front last (sym (normal_more front last last_kept one) ∙ normal)

  -- with another last component it is a normal form too
  normal_beside : (name : List ℕ) → is_kept name ≡ true → list_any is_slash name ≡ false
      → normal_of (under front name) ≡ under front name
  normal_beside name kept single =
      normal_more front name kept single
      ∙ cond-false (length (normal_of front) == 0) name (under (normal_of front) name) front_normal.1
      ∙ ap (λ (t : List ℕ). under t name) front_normal.0

normal_whole : (name : List ℕ) → is_kept name ≡ true → list_any is_slash name ≡ false → normal_of name ≡ name
normal_whole name kept one = ap (join_filtered 47 is_kept) (one_component name one) ∙ rw kept refl

-- ---- paths in the same folder

-- what a text takes, besides being its own normal form, to be the path of a boot file
record MayStand (text : List ℕ) : Type 0 where
  no_nul : has_byte 0 text ≡ false
  allowed : list_any is_refused (components text) ≡ false
  some : 0 < length text
  short : length text ≤ 1024
  shown : is_temp text ≡ false
  free : bytes_eq text intent ≡ false

path_from : (text : List ℕ) → normal_of text ≡ text → MayStand text → path_of text ≡ Some text
path_from text normal may =
    let long : (length text == 0) ≡ false = ne_eqb (length text) 0 (λ e. omega (arith, may.some)) in
    rw (normal, may.no_nul, may.allowed, long, le-ltb 1024 (length text) may.short, may.shown, may.free) refl

-- a name that may be the last component of a path
pub record MayEnd (name : List ℕ) : Type 0 where
  pub kept : is_kept name ≡ true
  pub one : list_any is_slash name ≡ false
  pub allowed : is_refused name ≡ false
  pub no_nul : has_byte 0 name ≡ false

module _ (name : List ℕ) (may : MayEnd name) where
  refused_none : list_any is_refused (name ∷ []) ≡ false
  refused_none = or_from (is_refused name) false may.allowed refl

  read_whole : length name ≤ 1024 → is_temp name ≡ false → bytes_eq name intent ≡ false → path_of name ≡ Some name
  read_whole short shown free =
      path_from name (normal_whole name may.kept may.one) (record {
        no_nul = may.no_nul;
        allowed = ap (list_any is_refused) (one_component name may.one) ∙ refused_none;
        some = is_kept-long name may.kept;
        short = short;
        shown = shown;
        free = free;
      })

  module _ (front last : List ℕ) (one : list_any is_slash last ≡ false)
      (normal : is_normal (under front last) ≡ true) where
    folder_no_nul : has_byte 0 front ≡ false
    folder_no_nul = (none-parts (λ b. b == 0) front (47 ∷ last) (normal-no_nul (under front last) normal)).0

    folder_allowed : list_any is_refused (components front) ≡ false
    folder_allowed =
        let none = sym (ap (list_any is_refused) (one_more front last one)) ∙ none_refused (under front last) normal in
        (none-parts is_refused (components front) (last ∷ []) none).0

    read_under : length name ≤ length last → is_temp (under front name) ≡ false
        → bytes_eq (under front name) intent ≡ false → path_of (under front name) ≡ Some (under front name)
    read_under shorter shown free =
        let long = length-append front (47 ∷ name) in
        let before = length-append front (47 ∷ last) in
        let most = normal-short (under front last) normal in
        let here = normal_beside front last one (itself (under front last) normal) name may.kept may.one in
        path_from (under front name) here (record {
          no_nul = none-append (λ b. b == 0) front (47 ∷ name) folder_no_nul may.no_nul;
          allowed =
              ap (list_any is_refused) (one_more front name may.one)
              ∙ none-append is_refused (components front) (name ∷ []) folder_allowed refused_none;
          some = omega (arith, long);
          short = omega (arith, long, before, most);
          shown = shown;
          free = free;
        })

-- a text reads as itself where an equal one does
reads_so : (here : List ℕ) → is_temp here ≡ false → bytes_eq here intent ≡ false → (text : List ℕ) → here ≡ text
    → (is_temp text ≡ false → bytes_eq text intent ≡ false → path_of text ≡ Some text) → path_of here ≡ Some here
reads_so here shown free text is read =
    let same = ap (λ (t : List ℕ). bytes_eq t intent) (sym is) in
    subst (λ (t : List ℕ). path_of t ≡ Some t) (sym is) (read (ap is_temp (sym is) ∙ shown) (same ∙ free))

-- another name that a path may end in, and that is no longer than its own, names a boot file in the same folder
pub sibling_path : (path name : List ℕ) → is_normal path ≡ true → is_component name ≡ true → is_refused name ≡ false
    → list_any (λ b. b == 0) name ≡ false → length name ≤ length (file_name_of path)
    → is_temp (beside path name) ≡ false → bytes_eq (beside path name) intent ≡ false
    → sibling_of path name ≡ Some (beside path name)
sibling_path path name normal component allowed no_nul shorter shown free =
    let parts = and_parts (is_kept name) (not (list_any is_slash name)) component in
    let may : MayEnd name =
    record { kept = parts.0; one = not-true (list_any is_slash name) parts.1; allowed = allowed; no_nul = no_nul } in
    let there = reads_so (beside path name) shown free in
    cond-true (is_component name) (path_of (beside path name)) None component
    ∙ elim (last_of path) [
      | inl whole ↦
          let last = ap length (file_name_whole path whole) in
          let short : length name ≤ 1024 = omega (arith, last, normal-short path normal) in
          there name (beside_whole path name whole) (read_whole name may short)
      | inr cut ↦
          let here = ap (λ (p : List ℕ). beside p name) cut.whole ∙ beside_under cut.front cut.last name cut.one in
          let before = subst (λ (p : List ℕ). is_normal p ≡ true) cut.whole normal in
          let last = ap file_name_of cut.whole ∙ file_name_under cut.front cut.last cut.one in
          let short : length name ≤ length cut.last = omega (arith, ap length last) in
          there (under cut.front name) here (read_under name may cut.front cut.last cut.one before short)
    ]

-- ---- paths of no temporary file, and not that of the intent

unlike_end : (xs ys : List ℕ) (x y : ℕ) → x ≢ y → xs ++ x ∷ [] ≡ ys ++ y ∷ [] → ⊥
unlike_end xs ys x y differ is = differ (same_from_push xs ys x y is).1

-- a text whose last byte is neither `p` nor `t` is the path of no temporary file, and not that of the intent
module _ (body : List ℕ) (last : ℕ) (no_p : last ≢ 112) (no_t : last ≢ 116) where
  pub end_shown : is_temp (body ++ last ∷ []) ≡ false
  unfolding is_temp
  end_shown = elim (cases_Bool (is_temp (body ++ last ∷ []))) [
    | inl temp ↦
        let whole = body ++ last ∷ [] in
        let stem = take (length whole - 4) whole in
        let cut : whole ≡ stem ++ temp_end = (ends_is Decides-eqb whole temp_end (is_temp whole) refl).0 temp in
        let behind = sym (append_assoc stem (46 ∷ 116 ∷ 109 ∷ []) (112 ∷ [])) in
        absurd (unlike_end body (stem ++ (46 ∷ 116 ∷ 109 ∷ [])) last 112 no_p (cut ∙ behind))
    | inr shown ↦ shown
  ]

  pub end_free : bytes_eq (body ++ last ∷ []) intent ≡ false
  end_free = elim (cases_Bool (bytes_eq (body ++ last ∷ []) intent)) [
    | inl same ↦
        let is = (bytes_eq-Decides (body ++ last ∷ []) intent).0 same in
        absurd (unlike_end body (take 16 intent) last 116 no_t is)
    | inr free ↦ free
  ]

-- a text isn't one that is shorter
pub unlike_short : (text short : List ℕ) → length short < length text → bytes_eq text short ≡ false
unlike_short text short below = elim (cases_Bool (bytes_eq text short)) [
  | inl same ↦ absurd (omega (arith, ap length ((bytes_eq-Decides text short).0 same)))
  | inr other ↦ other
]

-- a text of more than one byte counts
pub kept_from_long : (text : List ℕ) → 1 < length text → is_kept text ≡ true
kept_from_long text long =
    let some = ne_eqb (length text) 0 (λ e. omega arith) in
    ap not (or_from (length text == 0) (bytes_eq text (46 ∷ [])) some (unlike_short text (46 ∷ []) long))

-- ---- a name in a folder

-- it has a path, if the name may end one and the text isn't too long
module _ (folder name : List ℕ) (may : MayEnd name) (normal : is_normal folder ≡ true) (some : 0 < length folder) where
  below_whole : normal_of (under folder name) ≡ under folder name
  below_whole =
      let own = itself folder normal in
      let long : (length (normal_of folder) == 0) ≡ false = ne_eqb (length (normal_of folder)) 0 (λ e. omega (arith, some, ap length own)) in
      normal_more folder name may.kept may.one
      ∙ cond-false (length (normal_of folder) == 0) name (under (normal_of folder) name) long
      ∙ ap (λ (t : List ℕ). under t name) own

  pub path_of_child : length (under folder name) ≤ 1024 → is_temp (under folder name) ≡ false → bytes_eq (under folder name) intent ≡ false
      → path_below folder name ≡ Some (under folder name)
  path_of_child short shown free =
      let there = path_from (under folder name) below_whole (record {
        no_nul = none-append (λ b. b == 0) folder (47 ∷ name) (normal-no_nul folder normal) may.no_nul;
        allowed =
            ap (list_any is_refused) (one_more folder name may.one)
            ∙ none-append is_refused (components folder) (name ∷ []) (none_refused folder normal) (refused_none name may);
        some = omega (arith, length-append folder (47 ∷ name));
        short = short;
        shown = shown;
        free = free;
      }) in
      cond-true (list_any is_kept (components name)) (path_of (under folder name)) None (ap (list_any is_kept) (one_component name may.one) ∙ or_left (is_kept name) false may.kept)
      ∙ there
