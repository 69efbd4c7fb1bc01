-- The unnamed payloads of a view are those among the names of the folder.
use Rattle.std.proofs.Common.{◌≡◌, inl, inr, ⊎_elim, ℕ, Bool, true, false, T, not, ◌&&◌, ◌||◌, cond, List, [], ◌∷◌, None, is_some, filter, map, refl, sym, ap, ◌∙◌, subst, arith, Contains, bytes_eq, is_lt, Ordering, Less, Equal, Greater}
use Rattle.std.specs.FinMap as map_of
use Rattle.std.specs.List.{AllByRecursion, list_any}
use Rattle.std.specs.List.Sorted.{IsStrictlySortedBy}
use Rattle.std.specs.Cmp.{both_ways}
use Rattle.std.specs.FinMap.Entries.{below_all}
use Rattle.std.proofs.lemmas.Bool.{and_from, and_parts, cond-true, or_right}
use Rattle.menu_order.proofs.Lists.{Contains-cases, Contains-head, Contains-later}
use Rattle.std.proofs.lemmas.Slice.Eq.{bytes_eq-Decides}
use Rattle.boot_base.specs.Paths.{Path, file_name_of, is_temp, under}
use Rattle.boot_base.proofs.Beside.{file_name_under}
use Rattle.boot_machine.specs.Prelude.{Files, has, is_same_path, is_shown, path_cmp, view, IsNamesOf}
use Rattle.boot_machine.specs.proofs.Maps.{cases_same, get-retain, same_self}
use Rattle.boot_texts.specs.EntryText.{is_payload_name}
use Rattle.menu_order.specs.declared.item.MenuItem.{MenuItem}
use Rattle.type1_install.specs.Cleaning.{is_unnamed, unnamed_payloads}
use Rattle.type1_install.specs.Payloads.{is_payload_path, item_names, payload_folder}
use Rattle.type1_install.specs.Unnamed.{unnamed_among}
use Rattle.type1_install.proofs.Ordered.{is_member, same_paths}
use Rattle.type1_install.proofs.PayloadsKept.{payload_slash}
use Rattle.type1_install.proofs.Places.{payload_file, payload_shown}
use Rattle.type1_install.proofs.Unnamed.{payloads_in}

-- ---- members

member_here : (p x : Path) (ps : List Path) → p ≡ x → is_member p (x ∷ ps) ≡ true
member_here p x ps one = ap (λ b. b || is_member p ps) (ap (is_same_path p) (sym one) ∙ same_self p)

member_later : (p x : Path) (ps : List Path) → is_member p ps ≡ true → is_member p (x ∷ ps) ≡ true
member_later p x ps is = or_right (is_same_path p x) (is_member p ps) is

member_rest : (p x : Path) (ps : List Path) → is_same_path p x ≡ false → is_member p (x ∷ ps) ≡ true → is_member p ps ≡ true
member_rest p x ps apart is = sym (ap (λ b. b || is_member p ps) apart) ∙ is

contains_from : (p : Path) (ps : List Path) → is_member p ps ≡ true → Contains ps p
contains_from p [] is = cc
contains_from p (x ∷ ps) is = elim (cases_same p x) [
  | inl one ↦ subst (λ (q : Path). Contains (x ∷ ps) q) (sym one) (Contains-head x ps)
  | inr apart ↦ Contains-later x p ps (contains_from p ps (member_rest p x ps apart is))
]

member_from : (p : Path) (ps : List Path) → Contains ps p → is_member p ps ≡ true
member_from p [] is = absurd (omega (arith, is.1))
member_from p (x ∷ ps) is = ⊎_elim
    (λ (one : x ≡ p). member_here p x ps (sym one))
    (λ (later : Contains ps p). member_later p x ps (member_from p ps later))
    (Contains-cases x p ps is)

module _ (test : Path → Bool) (p : Path) where
  in_filter : (ps : List Path) → test p ≡ true → is_member p ps ≡ true → is_member p (filter test ps) ≡ true
  in_filter [] passes is = is
  in_filter (x ∷ ps) passes is = elim (cases_same p x) [
    | inl one ↦
        ap (is_member p) (cond-true (test x) (x ∷ filter test ps) (filter test ps) (ap test (sym one) ∙ passes)) ∙ member_here p x (filter test ps) one
    | inr apart ↦ by (test x) (in_filter ps passes (member_rest p x ps apart is))
  ]
    where
      by : (b : Bool) → is_member p (filter test ps) ≡ true → is_member p (cond b (x ∷ filter test ps) (filter test ps)) ≡ true
      by true rest = member_later p x (filter test ps) rest
      by false rest = rest

  from_filter : (ps : List Path) → is_member p (filter test ps) ≡ true → (test p ≡ true) × (is_member p ps ≡ true)
  from_filter [] is = cc
  from_filter (x ∷ ps) is = by (from_filter ps) (test x) refl is
    where
      by : (is_member p (filter test ps) ≡ true → (test p ≡ true) × (is_member p ps ≡ true)) → (b : Bool) → test x ≡ b
          → is_member p (cond b (x ∷ filter test ps) (filter test ps)) ≡ true → (test p ≡ true) × (is_member p (x ∷ ps) ≡ true)
      by behind true e is = elim (cases_same p x) [
        | inl one ↦ (ap test one ∙ e, member_here p x ps one)
        | inr apart ↦
            let rest = behind (member_rest p x (filter test ps) apart is) in
            (rest.0, member_later p x ps rest.1)
      ]
      by behind false e is = let rest = behind is in (rest.0, member_later p x ps rest.1)

-- ---- the keys of a view, in order

is_less : (r : Ordering) → T (is_lt r) → r ≡ Less
is_less Less is = refl
is_less Equal is = absurd is
is_less Greater is = absurd is

first_T : (a b : Bool) → T (a && b) → T a × T b
first_T true true t = (tt, tt)
first_T true false t = absurd t
first_T false b t = absurd t

below_less : (path : Path) (es : List (Path × List ℕ)) → T (below_all path_cmp path es) → AllByRecursion (λ other. path_cmp path other ≡ Less) (map (λ e. e.0) es)
below_less path [] below = tt
below_less path (e ∷ es) below =
    let both = first_T (is_lt (path_cmp path e.0)) (below_all path_cmp path es) below in
    (is_less (path_cmp path e.0) both.0, below_less path es both.1)

sorted_entries : (es : List (Path × List ℕ)) → T (map_of.is_sorted path_cmp es) → IsStrictlySortedBy path_cmp (map (λ e. e.0) es)
unfolding IsStrictlySortedBy
sorted_entries [] sorted = tt
sorted_entries (e ∷ es) sorted =
    let both = first_T (below_all path_cmp e.0 es) (map_of.is_sorted path_cmp es) sorted in
    (below_less e.0 es both.0, sorted_entries es both.1)

all_left : (P : Path → Type 0) (test : Path → Bool) (ps : List Path) → AllByRecursion P ps → AllByRecursion P (filter test ps)
all_left P test [] all = tt
all_left P test (x ∷ ps) all = by (test x) (all_left P test ps all.1)
  where
    by : (b : Bool) → AllByRecursion P (filter test ps) → AllByRecursion P (cond b (x ∷ filter test ps) (filter test ps))
    by true rest = (all.0, rest)
    by false rest = rest

sorted_left : (test : Path → Bool) (ps : List Path) → IsStrictlySortedBy path_cmp ps → IsStrictlySortedBy path_cmp (filter test ps)
unfolding IsStrictlySortedBy
sorted_left test [] sorted = tt
sorted_left test (x ∷ ps) sorted = by (test x) (sorted_left test ps sorted.1)
  where
    by : (b : Bool) → IsStrictlySortedBy path_cmp (filter test ps) → IsStrictlySortedBy path_cmp (cond b (x ∷ filter test ps) (filter test ps))
    by true rest = (all_left (λ y. path_cmp x y ≡ Less) test ps sorted.0, rest)
    by false rest = rest

has_view : (files : Files) (path : Path) → is_temp path ≡ false → has (view files) path ≡ has files path
unfolding view is_shown
has_view files path shown =
    ap is_some (get-retain files (λ q. not (is_temp q)) path ∙ cond-true (not (is_temp path)) (map_of.get files path) None (ap not shown))

member_keys : (files : Files) (path : Path) → is_member path (map_of.keys files) ≡ has files path
member_keys files path = sym (map_of.contains_key-keys files path)

-- ---- the payloads of a folder

payload_found : (folder : Path) (names : List (List ℕ)) (p : Path) → is_member p (payloads_in folder names) ≡ true
    → (name : List ℕ) × Contains names name × (is_payload_name name ≡ true) × (p ≡ under folder name)
payload_found folder [] p is = cc
payload_found folder (name ∷ names) p is = by (λ is. let found =
    payload_found folder names p is in (found.0, Contains-later name found.0 names found.1, found.2, found.3)) (is_payload_name name) refl is
  where
    by : (is_member p (payloads_in folder names) ≡ true → ((other : List ℕ) × Contains (name ∷ names) other ×
        (is_payload_name other ≡ true) × (p ≡ under folder other))) → (b : Bool) → is_payload_name name ≡ b
        → is_member p (map (under folder) (cond b (name ∷ filter is_payload_name names) (filter is_payload_name names))) ≡ true
        → ((other : List ℕ) × Contains (name ∷ names) other × (is_payload_name other ≡ true) × (p ≡ under folder other))
    by behind true e is = elim (cases_same p (under folder name)) [
      | inl one ↦ (name, Contains-head name names, e, one)
      | inr apart ↦ behind (member_rest p (under folder name) (payloads_in folder names) apart is)
    ]
    by behind false e is = behind is

payload_there : (folder : Path) (names : List (List ℕ)) (name : List ℕ) → Contains names name → is_payload_name name ≡ true
    → is_member (under folder name) (payloads_in folder names) ≡ true
payload_there folder [] name is fits = absurd (omega (arith, is.1))
payload_there folder (first ∷ names) name is fits = ⊎_elim
    (λ (one : first ≡ name). here one)
    (λ (later : Contains names name). by (is_payload_name first) (payload_there folder names name later fits))
    (Contains-cases first name names is)
  where
    here : first ≡ name → is_member (under folder name) (payloads_in folder (first ∷ names)) ≡ true
    here one =
        ap (λ b. is_member (under folder name) (map (under folder) (cond b (first ∷ filter is_payload_name names) (filter is_payload_name names)))) (ap is_payload_name one ∙ fits)
        ∙ member_here (under folder name) (under folder first) (payloads_in folder names) (ap (under folder) (sym one))

    by : (b : Bool) → is_member (under folder name) (payloads_in folder names) ≡ true
        → is_member (under folder name) (map (under folder) (cond b (first ∷ filter is_payload_name names) (filter is_payload_name names))) ≡ true
    by true rest = member_later (under folder name) (under folder first) (payloads_in folder names) rest
    by false rest = rest

-- ---- the whole

module _ (esp : Path) (items : List MenuItem) (files : Files) (names : List (List ℕ)) (paths : List Path)
    (are : IsNamesOf files (payload_folder esp) names) (sorted : IsStrictlySortedBy path_cmp paths)
    (among : (path : Path) → Contains paths path → Contains (unnamed_among esp (payload_folder esp) items names) path)
    (all : (path : Path) → Contains (unnamed_among esp (payload_folder esp) items names) path → Contains paths path) where
  abbrev folder : Path
  folder = payload_folder esp

  abbrev is_left : Path → Bool
  is_left path = not (list_any (item_names esp path) items)

  standing : (path : Path) → is_member path paths ≡ true → is_member path (unnamed_payloads (view files) esp items) ≡ true
  standing path is =
      let listed = from_filter is_left path (payloads_in folder names) (member_from path (unnamed_among esp folder items names) (among path (contains_from path paths is))) in
      let found = payload_found folder names path listed.1 in
      let there = ((are.each found.0).0 found.1).1 in
      let last : file_name_of path ≡ found.0 = ap file_name_of found.3 ∙ file_name_under folder found.0 (payload_slash found.0 found.2) in
      let seen : has (view files) path ≡ true =
      has_view files path (ap is_temp found.3 ∙ payload_shown folder found.0 found.2) ∙ ap (has files) found.3 ∙ there in
      let whole : under folder (file_name_of path) ≡ path = ap (under folder) last ∙ sym found.3 in
      let place : is_payload_path esp path ≡ true =
      and_from (is_payload_name (file_name_of path)) (bytes_eq (under folder (file_name_of path)) path)
      (ap is_payload_name last ∙ found.2) ((bytes_eq-Decides (under folder (file_name_of path)) path).1 whole) in
      in_filter (is_unnamed esp items) path (map_of.keys (view files)) (and_from (is_payload_path esp path) (is_left path) place listed.0) (member_keys (view files) path ∙ seen)

  listed : (path : Path) → is_member path (unnamed_payloads (view files) esp items) ≡ true → is_member path paths ≡ true
  listed path is =
      let parts = from_filter (is_unnamed esp items) path (map_of.keys (view files)) is in
      let both = and_parts (is_payload_path esp path) (is_left path) parts.0 in
      let place = and_parts (is_payload_name (file_name_of path)) (bytes_eq (under folder (file_name_of path)) path) both.0 in
      let name = file_name_of path in
      let whole : under folder name ≡ path = (bytes_eq-Decides (under folder name) path).0 place.1 in
      let there : has files (under folder name) ≡ true =
      sym (has_view files (under folder name) (payload_shown folder name place.0)) ∙ ap (has (view files)) whole ∙ sym (member_keys (view files) path) ∙ parts.1 in
      let has_name = (are.each name).1 (payload_file name place.0, there) in
      let member = subst (λ (p : Path). is_member p (payloads_in folder names) ≡ true) whole (payload_there folder names name has_name place.0) in
      member_from path paths (all path (contains_from path (unnamed_among esp folder items names) (in_filter is_left path (payloads_in folder names) both.1 member)))

  pub unnamed_are : unnamed_payloads (view files) esp items ≡ paths
  unnamed_are =
      same_paths (unnamed_payloads (view files) esp items) paths
      (sorted_left (is_unnamed esp items) (map_of.keys (view files)) (sorted_entries (map_of.entries (view files)) (map_of.entries_sorted (view files)))) sorted
      (λ path. both_ways (is_member path (unnamed_payloads (view files) esp items)) (is_member path paths) (listed path) (standing path))
