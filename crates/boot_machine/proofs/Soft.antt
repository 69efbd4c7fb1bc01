-- How candidates and soft paths go on from call to call.
use Rattle.std.proofs.Common.{Some, None, cond, is_some, ◌||◌, ◌≡◌, ◌⊎◌, inl, inr, ⊎_elim, ℕ, true, false, not, ◌&&◌, List, [], ◌∷◌, ◌++◌, map, take, refl, sym, ap, ◌∙◌, subst, Option, Bool, Result, Ok, Err}
use Rattle.std.proofs.lemmas.Bool.{or_cases, and_parts, and_left, or_left}
use Rattle.std.specs.FinMap as maps
use Rattle.std.specs.FinSet as set
use Rattle.boot_base.specs.Paths.{Path, is_temp, intent}
use Rattle.boot_machine.specs.Prelude.{of_intent, intent_names, is_left, is_intended, is_recovered, Files, Paths, State, has, recovered_view, candidates, IsIn, IsCandidate, IsSound, is_same_path, IsImage, IsFirm, after_half_rename, RenameRow, contents, append_to, move_in, with_files, after_create, after_append, after_sync_file, after_rename, after_unlink, after_sync_names, DoneOrNot, AppendRow, SyncFileRow, SyncNamesRow}
use Rattle.boot_machine.specs.proofs.Maps.{is_same_path-true, contains-insert, contains-remove, contains-retain}
use Rattle.boot_machine.proofs.Recovering.{AreShown, get-recovered_view, temp_not_recovered, shown_names, intent_shown, off_temp, recovered_view-insert_temp, recovered_view-append_to}

abbrev pub AreTemp : Paths → Type 0
AreTemp soft = (q : Path) → set.contains soft q ≡ true → is_temp q ≡ true

left_intended : (o : Option (Path × Path)) (m : Files) (q : Path) → of_intent o (λ a b. is_same_path q a && has m a && has m b) ≡ true
    → of_intent o (λ a b. is_same_path q a || is_same_path q b) ≡ true
left_intended None m q e = cc
left_intended (Some p) m q e = or_left (is_same_path q p.0) (is_same_path q p.1) (and_parts (is_same_path q p.0) (has m p.0) (and_parts (is_same_path q p.0 && has m p.0) (has m p.1) e).0).0

temp_not_intended : (o : Option (Path × Path)) (q : Path) → AreShown o → is_temp q ≡ true → of_intent o (λ a b. is_same_path q a || is_same_path q b) ≡ false
temp_not_intended None q shown temp = refl
temp_not_intended (Some p) q shown temp = rw (off_temp q p.0 temp shown.first_lasts, off_temp q p.1 temp shown.second_lasts) refl

-- on a firm machine the soft paths are those of temporary files
pub soft_of_firm : (s : State) → IsSound s → IsFirm s → AreTemp s.soft
unfolding is_recovered is_left is_intended
soft_of_firm s sound firm q is_soft =
    let there = sound.somewhere q is_soft in
    let c = there.0 in
    let left = of_intent (intent_names c) (λ a b. is_same_path q a && has c a && has c b) in
    let hidden : is_some (cond (not (is_temp q) && not (is_same_path q intent) && not left) (maps.get c q) None) ≡ false = sym (ap is_some (get-recovered_view c q))
    ∙ firm.unseen c there.1 q is_soft in
    by_tests (is_temp q) (is_same_path q intent) left (maps.get c q) there.2 hidden
    (λ is. let here : q ≡ intent = is_same_path-true q intent is in clash (firm.intent c there.1 (ap (has c) (sym here) ∙ there.2)) (ap (set.contains s.soft) (sym here) ∙ is_soft))
    (λ is. clash (firm.unnamed c there.1 q is_soft) (left_intended (intent_names c) c q is))
  where
    clash : {b : Bool} → b ≡ false → b ≡ true → ⊥
    clash e f = cc

    by_tests : (t i l : Bool) (o : Option (List ℕ)) → is_some o ≡ true → is_some (cond (not t && not i && not l) o None) ≡ false → (i ≡ true → ⊥) → (l ≡ true → ⊥) → t ≡ true
    by_tests true i l o some none not_intent not_left = refl
    by_tests false true l o some none not_intent not_left = absurd (not_intent refl)
    by_tests false false true o some none not_intent not_left = absurd (not_left refl)
    by_tests false false false o some none not_intent not_left = cc

pub firm_of_soft : (s : State) → AreTemp s.soft → IsFirm s
unfolding is_intended
firm_of_soft s temps = record {
  unseen = λ c candidate q is_soft. ap is_some (get-recovered_view c q ∙ ap (λ (b : Bool). cond b (maps.get c q) None) (temp_not_recovered c q (temps q is_soft)));
  intent = λ c candidate there. not_true (set.contains s.soft intent) (λ is_soft. both (temps intent is_soft) intent_shown);
  unnamed = λ c candidate q is_soft. temp_not_intended (intent_names c) q (shown_names c) (temps q is_soft);
}
  where
    both : {b : Bool} → b ≡ true → b ≡ false → ⊥
    both e f = cc

    not_true : (b : Bool) → (b ≡ true → ⊥) → b ≡ false
    not_true true no_more = absurd (no_more refl)
    not_true false no_more = refl

pub last_in : (cs : List Files) (m : Files) → IsIn m (cs ++ m ∷ [])
last_in [] m = inl refl
last_in (c ∷ cs) m = inr (last_in cs m)

pub in_push : (cs : List Files) (d m : Files) → IsIn m (cs ++ d ∷ []) → IsIn m cs ⊎ (m ≡ d)
in_push [] d m (inl is) = inr is
in_push [] d m (inr none) = absurd none
in_push (c ∷ cs) d m (inl is) = inl (inl is)
in_push (c ∷ cs) d m (inr there) = ⊎_elim (λ t. inl (inr t)) (λ is. inr is) (in_push cs d m there)

pub in_map : (f : Files → Files) (cs : List Files) (d m : Files) → IsIn m (map f cs ++ f d ∷ []) → (c : Files) × IsIn c (cs ++ d ∷ []) × (m ≡ f c)
in_map f [] d m (inl is) = (d, inl refl, is)
in_map f [] d m (inr none) = absurd none
in_map f (c ∷ cs) d m (inl is) = (c, inl refl, is)
in_map f (c ∷ cs) d m (inr there) = let found = in_map f cs d m there in (found.0, inr found.1, found.2)

-- Of each candidate boot sees what has P, only temporary files are soft, and nothing is printed or taken since old.
pub record Stands (old : State) (P : Files → Type 0) (s : State) : Type 0 where
  pub temps : AreTemp s.soft
  pub views : (c : Files) → IsCandidate s c → P (recovered_view c)
  pub printed : s.printed ≡ old.printed
  pub input : s.input ≡ old.input

module _ (old : State) (P : Files → Type 0) (s : State) (so_far : Stands old P s) where
  temps_insert : (p : Path) → is_temp p ≡ true → AreTemp (set.insert s.soft p)
  temps_insert p temp q is_soft = elim (or_cases (is_same_path q p) (set.contains s.soft q) (sym (contains-insert s.soft p q) ∙ is_soft)) [
    | inl here ↦ ap is_temp (is_same_path-true q p here) ∙ temp
    | inr before ↦ so_far.temps q before
  ]

  views_push : (m : Files) → P (recovered_view m) → (c : Files) → IsCandidate (with_files s m) c → P (recovered_view c)
  views_push m new c candidate = elim (in_push (candidates s) m c candidate) [
    | inl before ↦ so_far.views c before
    | inr is ↦ subst (λ (d : Files). P (recovered_view d)) (sym is) new
  ]

  pub now_sees : P (recovered_view s.files)
  now_sees = so_far.views s.files (last_in s.earlier s.files)

  pub stands-created : (p : Path) → is_temp p ≡ true → Stands old P (after_create p s)
  stands-created p temp = record {
    temps = temps_insert p temp;
    views = views_push (maps.insert s.files p []) (subst P (sym (recovered_view-insert_temp s.files p [] temp)) now_sees);
    printed = so_far.printed;
    input = so_far.input;
  }

  pub stands-appended : (p : Path) (bytes : List ℕ) → is_temp p ≡ true → Stands old P (after_append p bytes s)
  stands-appended p bytes temp = record {
    temps = temps_insert p temp;
    views = λ c candidate. let from = in_map (append_to p bytes) s.earlier s.files c candidate in
        subst P (sym (ap recovered_view from.2 ∙ recovered_view-append_to from.0 p bytes temp)) (so_far.views from.0 from.1);
    printed = so_far.printed;
    input = so_far.input;
  }

  pub stands-file_synced : (p : Path) → Stands old P (after_sync_file p s)
  stands-file_synced p = record {
    temps = λ q is_soft. so_far.temps q (and_parts (not (is_same_path q p)) (set.contains s.soft q) (sym (contains-remove s.soft p q) ∙ is_soft)).1;
    views = so_far.views;
    printed = so_far.printed;
    input = so_far.input;
  }

  pub stands-half_renamed : (from to : Path) → set.contains s.soft from ≡ false → P (recovered_view (maps.insert s.files to (contents s.files from))) → Stands old P (after_half_rename from to s)
  stands-half_renamed from to synced new = record {
    temps = λ q is_soft. so_far.temps q (rw synced at is_soft);
    views = views_push (maps.insert s.files to (contents s.files from)) new;
    printed = so_far.printed;
    input = so_far.input;
  }

  pub stands-unlinked : (p : Path) → P (recovered_view (maps.remove s.files p)) → Stands old P (after_unlink p s)
  stands-unlinked p new = record {
    temps = so_far.temps;
    views = views_push (maps.remove s.files p) new;
    printed = so_far.printed;
    input = so_far.input;
  }

  pub stands-names_synced : Stands old P (after_sync_names s)
  stands-names_synced = record {
    temps = λ q is_soft. so_far.temps q (and_parts (set.contains s.soft q) (has s.files q) (sym (contains-retain s.soft (has s.files) q) ∙ is_soft)).0;
    views = λ c candidate. elim candidate [ inl is ↦ subst (λ (d : Files). P (recovered_view d)) (sym is) now_sees | inr none ↦ absurd none ];
    printed = so_far.printed;
    input = so_far.input;
  }

pub stands-after_rename : (old : State) (P : Files → Type 0) (s : State) → Stands old P s → (from to : Path) → set.contains s.soft from ≡ false
    → P (recovered_view (maps.insert s.files to (contents s.files from))) → P (recovered_view (move_in from to s.files)) → Stands old P (after_rename from to s)
stands-after_rename old P s so_far from to synced half new =
    let at_half = stands-half_renamed old P s so_far from to synced half in
    record {
      temps = at_half.temps;
      views = views_push old P (after_half_rename from to s) at_half (move_in from to s.files) new;
      printed = at_half.printed;
      input = at_half.input;
    }

pub by_rename : {E : Type 0} (Q : State → Type 0) (s t : State) (from to : Path) (r : Result Unit E)
    → Q s → Q (after_half_rename from to s) → Q (after_rename from to s) → RenameRow s t from to r → Q t
by_rename Q s t from to (Ok u) before half after is = subst Q (sym is) after
by_rename Q s t from to (Err e) before half after (inl is) = subst Q (sym is) before
by_rename Q s t from to (Err e) before half after (inr (inl is)) = subst Q (sym is) half
by_rename Q s t from to (Err e) before half after (inr (inr is)) = subst Q (sym is) after

-- a row at either answer
pub by_done_or_not : {E : Type 0} (Q : State → Type 0) (s done t : State) (r : Result Unit E) → Q s → Q done → DoneOrNot s done t r → Q t
by_done_or_not Q s done t (Ok u) before after is = subst Q (sym is) after
by_done_or_not Q s done t (Err e) before after (inl is) = subst Q (sym is) before
by_done_or_not Q s done t (Err e) before after (inr is) = subst Q (sym is) after

pub by_append : {E : Type 0} (Q : State → Type 0) (s t : State) (p : Path) (bytes : List ℕ) (r : Result Unit E) → Q s → ((b : List ℕ) → Q (after_append p b s)) → AppendRow s t p bytes r → Q t
by_append Q s t p bytes (Ok u) before after is = subst Q (sym is) (after bytes)
by_append Q s t p bytes (Err e) before after (inl is) = subst Q (sym is) before
by_append Q s t p bytes (Err e) before after (inr is) = subst Q (sym is.1) (after (take is.0 bytes))

pub by_sync_file : {E : Type 0} (Q : State → Type 0) (s t : State) (p : Path) (r : Result Unit E) → Q s → Q (after_sync_file p s) → SyncFileRow s t p r → Q t
by_sync_file Q s t p (Ok u) before after is = subst Q (sym is) after
by_sync_file Q s t p (Err e) before after is = subst Q (sym is) before

pub by_sync_names : {E : Type 0} (Q : State → Type 0) (s t : State) (r : Result Unit E) → Q s → Q (after_sync_names s) → SyncNamesRow s t r → Q t
by_sync_names Q s t (Ok u) before after is = subst Q (sym is) after
by_sync_names Q s t (Err e) before after is = subst Q (sym is) before

pub firm-after_sync_names : (s : State) → IsFirm s → IsFirm (after_sync_names s)
firm-after_sync_names s firm = record {
  unseen = λ c candidate q is_soft. firm.unseen c (at_end s c candidate) q (soft_before q is_soft);
  intent = λ c candidate there. contains-retain s.soft (has s.files) intent ∙ and_left (set.contains s.soft intent) (has s.files intent) (firm.intent c (at_end s c candidate) there);
  unnamed = λ c candidate q is_soft. firm.unnamed c (at_end s c candidate) q (soft_before q is_soft);
}
  where
    soft_before : (q : Path) → set.contains (after_sync_names s).soft q ≡ true → set.contains s.soft q ≡ true
    soft_before q is_soft = (and_parts (set.contains s.soft q) (has s.files q) (sym (contains-retain s.soft (has s.files) q) ∙ is_soft)).0

    at_end : (s : State) (c : Files) → IsCandidate (after_sync_names s) c → IsCandidate s c
    at_end s c (inl is) = subst (λ (d : Files). IsCandidate s d) (sym is) (last_in s.earlier s.files)
    at_end s c (inr none) = absurd none

-- a sync leaves fewer images
pub image-after_sync_names : (s : State) (m : Files) → IsImage (after_sync_names s) m → IsImage s m
image-after_sync_names s m image = record {
  of = image.of;
  candidate = at_end image.of image.candidate;
  image = record {
    paths = image.image.paths;
    bytes = λ q synced. image.image.bytes q (contains-retain s.soft (has s.files) q ∙ and_left (set.contains s.soft q) (has s.files q) synced);
  };
}
  where
    at_end : (c : Files) → IsCandidate (after_sync_names s) c → IsCandidate s c
    at_end c (inl is) = subst (λ (d : Files). IsCandidate s d) (sym is) (last_in s.earlier s.files)
    at_end c (inr none) = absurd none
