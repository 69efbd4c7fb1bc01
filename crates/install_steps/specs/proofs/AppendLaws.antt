-- Laws of appends to one file.
use Rattle.std.proofs.Common.{◌≡◌, inl, inr, ⊎_elim, ℕ, Bool, true, false, ◌||◌, List, [], ◌∷◌, ◌++◌, map, Option, Some, unwrap_or, is_some, refl, sym, ap, ◌∙◌, subst, append_assoc}
use Rattle.std.specs.Prelude.{Result, Ok, Err, OnOk}
use Rattle.std.proofs.lemmas.Bool.{cases_Bool}
use Rattle.std.proofs.lemmas.List.{append-nil}
use Rattle.std.specs.Cmp.Lexicographic.{nat_list_cmp_total}
use Rattle.std.specs.FinMap as maps
use Rattle.std.specs.FinSet as set
use Rattle.boot_base.specs.Paths.{Path, is_temp}
use Rattle.boot_machine.specs.Disk.{Files, Paths, State, has, is_same_path, view}
use Rattle.boot_machine.specs.Images.{IsImage}
use Rattle.boot_machine.specs.proofs.Maps.{same_self, is_same_path-true, cases_same, same_files, contains-insert, path_antisym}
use Rattle.boot_machine.specs.Moments.{IsMoment, Timeline, Elapses}
use Rattle.boot_machine.specs.Reading.{IsIdleMoment, OnlyReads}
use Rattle.boot_machine.specs.Rows.{contents, append_to, after_append, AppendRow}
use Rattle.boot_machine.specs.declared.machine.Printed.{Printed}
use Rattle.boot_machine.proofs.Elapsing.{weaken, joined, at_once, one_call}
use Rattle.boot_machine.proofs.Printing.{not_printed}
use Rattle.boot_machine.proofs.Soft.{in_map, by_append}
use Rattle.boot_machine.proofs.Views.{get-append_to, get-view_shown}
use Rattle.install_steps.specs.Appends.{with_soft_path, HasAppended, AppendsOnly, IsGrown}

-- paths are kept
pub has-append_to : (m : Files) (p : Path) (bytes : List ℕ) (q : Path) → has (append_to p bytes m) q ≡ has m q
has-append_to m p bytes q = ap is_some (get-append_to m p bytes q) ∙ elim (cases_Bool (is_same_path q p)) [
  | inl here ↦ elim (cases_Bool (has m p)) [
    | inl there ↦ rw (here, there) (sym (ap (has m) (is_same_path-true q p here) ∙ there))
    | inr none ↦ rw (here, none) refl
  ]
  | inr apart ↦ rw apart refl
]

get_apart : (m : Files) (p : Path) (bytes : List ℕ) (q : Path) → is_same_path q p ≡ false
    → maps.get (append_to p bytes m) q ≡ maps.get m q
get_apart m p bytes q apart = rw (get-append_to m p bytes q, apart) refl

-- what stands there grows
pub contents-append_to : (m : Files) (p : Path) (bytes : List ℕ) → has m p ≡ true
    → contents (append_to p bytes m) p ≡ contents m p ++ bytes
contents-append_to m p bytes there =
    let is : maps.get (append_to p bytes m) p ≡ Some (contents m p ++ bytes) =
    rw (get-append_to m p bytes p, same_self p, there) refl in
    ap (λ (o : Option (List ℕ)). unwrap_or o []) is

-- two appends are one
files_twice : (p : Path) (a b : List ℕ) (m : Files) → append_to p b (append_to p a m) ≡ append_to p (a ++ b) m
files_twice p a b m = same_files _ _ (λ q. elim (cases_same q p) [
  | inl is ↦ rw is (elim (cases_Bool (has m p)) [
    | inl there ↦
        rw (
          get-append_to (append_to p a m) p b p,
          same_self p,
          has-append_to m p a p,
          there,
          contents-append_to m p a there,
        )
        (rw (get-append_to m p (a ++ b) p, same_self p, there)
        (ap (λ (l : List ℕ). Some l) (append_assoc (contents m p) a b)))
    | inr none ↦
        rw (
          get-append_to (append_to p a m) p b p,
          same_self p,
          has-append_to m p a p,
          none,
          get-append_to m p a p,
          same_self p,
          none,
        )
        (rw (get-append_to m p (a ++ b) p, same_self p, none) refl)
  ])
  | inr apart ↦ get_apart (append_to p a m) p b q apart ∙ get_apart m p a q apart ∙ sym (get_apart m p (a ++ b) q apart)
])

maps_twice : (p : Path) (a b : List ℕ) (ms : List Files)
    → map (append_to p b) (map (append_to p a) ms) ≡ map (append_to p (a ++ b)) ms
maps_twice p a b [] = refl
maps_twice p a b (m ∷ ms) =
    ap (λ (n : Files). n ∷ map (append_to p b) (map (append_to p a) ms)) (files_twice p a b m) ∙ ap
    (λ (ns : List Files). append_to p (a ++ b) m ∷ ns) (maps_twice p a b ms)

soft_or : (a b : Bool) → (a || (a || b)) ≡ (a || b)
soft_or true b = refl
soft_or false b = refl

soft_twice : (soft : Paths) (p : Path) → set.insert (set.insert soft p) p ≡ set.insert soft p
soft_twice soft p = set.same_set nat_list_cmp_total path_antisym _ _ (λ q.
    contains-insert (set.insert soft p) p q ∙ ap (λ (b : Bool). is_same_path q p || b) (contains-insert soft p q)
    ∙ soft_or
    (is_same_path q p) (set.contains soft q) ∙ sym (contains-insert soft p q))

same_state : (s : State) (files files' : Files) (earlier earlier' : List Files) (soft soft' : Paths) → files ≡ files'
    → earlier ≡ earlier' → soft ≡ soft'
    → (let t : State = record s { files = files; earlier = earlier; soft = soft } in t)
    ≡ record s { files = files'; earlier = earlier'; soft = soft' }
same_state s files files' earlier earlier' soft soft' e1 e2 e3 = cc

pub appended_twice : (p : Path) (a b : List ℕ) (s : State)
    → after_append p b (after_append p a s) ≡ after_append p (a ++ b) s
appended_twice p a b s =
    same_state s _ _ _ _ _ _ (files_twice p a b s.files) (maps_twice p a b s.earlier) (soft_twice s.soft p)

pub has_appended_on : (p : Path) (s t u : State) → HasAppended p s t → HasAppended p t u → HasAppended p s u
has_appended_on p s t u (inl is) second = subst (λ (v : State). HasAppended p v u) is second
has_appended_on p s t u (inr first) (inl is) = inr (first.0, is ∙ first.1)
has_appended_on p s t u (inr first) (inr second) =
    inr (first.0 ++ second.0, second.1 ∙ ap (after_append p second.0) first.1 ∙ appended_twice p first.0 second.0 s)

-- what is kept
pub after_append-there : (p : Path) (s t : State) (q : Path) → HasAppended p s t → has t.files q ≡ has s.files q
after_append-there p s t q (inl is) = ap (λ (v : State). has v.files q) is
after_append-there p s t q (inr more) = ap (λ (v : State). has v.files q) more.1 ∙ has-append_to s.files p more.0 q

apart_of : (p q : Path) → is_temp p ≡ true → is_temp q ≡ false → is_same_path q p ≡ false
apart_of p q temp shown =
    elim (cases_same q p) [ inl is ↦ absurd (cc (temp, shown, ap is_temp is)) | inr apart ↦ apart ]

-- boot files have in the view what they have
pub contents-view : (m : Files) (q : Path) → is_temp q ≡ false → contents (view m) q ≡ contents m q
contents-view m q shown = ap (λ (o : Option (List ℕ)). unwrap_or o []) (get-view_shown m q shown)

pub after_append-source : (p : Path) (s t : State) (q : Path) → is_temp p ≡ true → is_temp q ≡ false → HasAppended p s t
    → contents t.files q ≡ contents s.files q
after_append-source p s t q temp shown (inl is) = ap (λ (v : State). contents v.files q) is
after_append-source p s t q temp shown (inr more) =
    ap (λ (v : State). contents v.files q) more.1 ∙ ap (λ (o : Option (List ℕ)). unwrap_or o [])
    (get_apart s.files p more.0 q (apart_of p q temp shown))

after_append-printed : (p : Path) (s t : State) → HasAppended p s t → t.printed ≡ s.printed
after_append-printed p s t (inl is) = ap (λ (v : State). v.printed) is
after_append-printed p s t (inr more) = ap (λ (v : State). v.printed) more.1

or_parts : (a b : Bool) → (a || b) ≡ false → (a ≡ false) × (b ≡ false)
or_parts true b e = cc
or_parts false b e = (refl, e)

-- an image is one of the state with the path not synced
soften : (p : Path) (s : State) (m : Files) → IsImage s m → IsImage (with_soft_path p s) m
soften p s m image = record {
  of = image.of;
  candidate = image.candidate;
  image = record {
    paths = image.image.paths;
    bytes =
        λ q synced. image.image.bytes q (or_parts (is_same_path q p) (set.contains s.soft q)
        (sym (contains-insert s.soft p q) ∙ synced)).1;
  };
}

unappend : (p : Path) (bytes : List ℕ) (s : State) (m : Files) → IsImage (with_soft_path p (after_append p bytes s)) m
    → IsImage (with_soft_path p s) m
unappend p bytes s m image =
    let from = in_map (append_to p bytes) s.earlier s.files image.of image.candidate in
    record {
      of = from.0;
      candidate = from.1;
      image = record {
        paths = λ q. image.image.paths q ∙ ap (λ (c : Files). has c q) from.2 ∙ has-append_to from.0 p bytes q;
        bytes = λ q synced.
            image.image.bytes q (ap (λ (soft : Paths). set.contains soft q) (soft_twice s.soft p) ∙ synced)
            ∙ ap (λ (c : Files). maps.get c q) from.2
            ∙ get_apart from.0 p bytes q (or_parts (is_same_path q p) (set.contains s.soft q)
            (sym (contains-insert s.soft p q) ∙ synced)).0;
      };
    }

image_back : (p : Path) (s t : State) (m : Files) → HasAppended p s t → IsImage (with_soft_path p t) m
    → IsImage (with_soft_path p s) m
image_back p s t m (inl is) image = subst (λ (v : State). IsImage (with_soft_path p v) m) is image
image_back p s t m (inr more) image =
    unappend p more.0 s m (subst (λ (v : State). IsImage (with_soft_path p v) m) more.1 image)

-- what stays at a later moment stood at an earlier one
stays_back : (p : Path) (s t : State) (m : Files) (o : List Printed) → HasAppended p s t
    → IsIdleMoment (with_soft_path p t) m o → IsIdleMoment (with_soft_path p s) m o
stays_back p s t m o left stays = (image_back p s t m left stays.0, stays.1 ∙ after_append-printed p s t left)

moment_stays : (p : Path) (s t : State) (m : Files) (o : List Printed) → HasAppended p s t → IsMoment s t m o
    → IsIdleMoment (with_soft_path p s) m o
moment_stays p s t m o left moment = (
  ⊎_elim (soften p s m) (λ now. image_back p s t m left (soften p t m now)) moment.image,
  not_printed s.printed o t.printed (after_append-printed p s t left) moment.printed,
)

module _ {D : Type 0} (time : Timeline D) (state : D → State) (p : Path) where
  -- no call is made
  pub only_none : (old : D) → ((m : Files) (o : List Printed) → time.since old (time.clock old) m o
      → IsIdleMoment (state old) m o) → AppendsOnly time state p old old
  only_none old only_now = record {
    left = inl refl;
    moments =
        at_once time state (IsIdleMoment (with_soft_path p (state old))) old
        (λ m o left. let now = only_now m o left in (soften p (state old) m now.0, now.1));
  }

  -- reads are made
  pub only_reads : (old new : D) → OnlyReads time state old new → AppendsOnly time state p old new
  only_reads old new reads = record {
    left = inl reads.same;
    moments =
        weaken time state (IsIdleMoment (state old)) (IsIdleMoment (with_soft_path p (state old))) old new
        (λ m o stays. (soften p (state old) m stays.0, stays.1)) reads.moments;
  }

  -- one append, whatever its answer
  pub only_once : {E : Type 0} (old new : D) (bytes : List ℕ) (r : Result Unit E)
      → ((m : Files) (o : List Printed) → time.since old (time.clock old) m o → IsIdleMoment (state old) m o)
      → Elapses time state old new → AppendRow (state old) (state new) p bytes r
      → AppendsOnly time state p old new
  only_once old new bytes r only_now elapsed row =
      let left : HasAppended p (state old) (state new) =
      by_append (λ (t : State). HasAppended p (state old) t) (state old) (state new) p bytes r (inl refl)
      (λ b. inr (b, refl)) row in
      record {
        left = left;
        moments =
            one_call time state (IsIdleMoment (with_soft_path p (state old))) old new
            (λ m o now. let is = only_now m o now in (soften p (state old) m is.0, is.1)) elapsed
            (λ m o moment. moment_stays p (state old) (state new) m o left moment);
      }

  -- two parts of a run
  pub only_on : (old mid new : D) → AppendsOnly time state p old mid
      → AppendsOnly time state p mid new → AppendsOnly time state p old new
  only_on old mid new first second = record {
    left = has_appended_on p (state old) (state mid) (state new) first.left second.left;
    moments = joined time state (IsIdleMoment (with_soft_path p (state old))) old mid new first.moments
        (weaken time state (IsIdleMoment (with_soft_path p (state mid)))
        (IsIdleMoment (with_soft_path p (state old))) mid new
        (λ m o stays. stays_back p (state old) (state mid) m o first.left stays) second.moments);
  }

  -- the path is there still
  pub only-there : (old new : D) → AppendsOnly time state p old new → has (state old).files p ≡ true
      → has (state new).files p ≡ true
  only-there old new appends there = after_append-there p (state old) (state new) p appends.left ∙ there

  -- a boot file is as it was
  pub only-source : (old new : D) (q : Path) → is_temp p ≡ true → is_temp q ≡ false
      → AppendsOnly time state p old new
      → contents (state new).files q ≡ contents (state old).files q
  only-source old new q temp shown appends = after_append-source p (state old) (state new) q temp shown appends.left

-- bytes behind bytes
pub grown_none : (p : Path) (s : State) → IsGrown p [] s s
grown_none p s = record { bytes = sym (append-nil (contents s.files p)) }

pub grown_on : (p : Path) (a b : List ℕ) (s t u : State) → IsGrown p a s t → IsGrown p b t u → IsGrown p (a ++ b) s u
grown_on p a b s t u first second = record {
  bytes = second.bytes ∙ ap
      (λ (l : List ℕ). l ++ b) first.bytes ∙ append_assoc (contents s.files p) a b;
}

-- what an empty file has grown to
pub grown_from_none : (p : Path) (front back back' : List ℕ) (s t u : State) → contents s.files p ≡ []
    → IsGrown p front s t → IsGrown p back t u → back ≡ back' → contents u.files p ≡ front ++ back'
grown_from_none p front back back' s t u none first second same =
    (grown_on p front back s t u first second).bytes ∙ ap (λ (l : List ℕ). l ++ (front ++ back)) none ∙ ap
    (λ (l : List ℕ). front ++ l) same

-- a file that has grown by some bytes has grown by any that are equal to them
pub grown_as : (p : Path) (a b : List ℕ) (s t : State) → a ≡ b → IsGrown p a s t → IsGrown p b s t
grown_as p a b s t is grown = record { bytes = grown.bytes ∙ ap (λ (l : List ℕ). contents s.files p ++ l) is }

pub grown_once : (p : Path) (bytes : List ℕ) (s t : State) → has s.files p ≡ true → t ≡ after_append p bytes s
    → IsGrown p bytes s t
grown_once p bytes s t there is = record {
  bytes = ap
      (λ (v : State). contents v.files p) is ∙ contents-append_to s.files p bytes there;
}

-- what follows of a clause where the answer is Ok
pub ok_then : {E P Q : Type 0} (r : Result Unit E) → OnOk r P → (P → Q) → OnOk r Q
ok_then (Ok u) is so = so is
ok_then (Err e) is so = tt
