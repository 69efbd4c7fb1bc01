-- What keeps the list of recent paths whole.
use Rattle.std.proofs.Common.{◌≡◌, ◌<◌, ◌≤◌, ◌+◌, ◌-◌, ◌^◌, ◌==◌, ℕ, Bool, true, false, cond, List, [], ◌∷◌, ◌++◌, min, Option, Some, None, refl, sym, ap, ◌∙◌, subst, arith, inl, inr, IfSome, All, bytes_eq, if◌then◌else◌, nat_cmp}
use Rattle.std.specs.Option.{option_map_or}
use Rattle.std.specs.Cmp.Lexicographic.{nat_list_cmp_total, slice_cmp}
use Rattle.std.specs.FinMap as map
use Rattle.std.proofs.lemmas.Bool.{cases_Bool, cond-false, eqb-true, or_cases, or_left, or_right}
use Rattle.std.proofs.lemmas.Cmp.{nat_list_eq_equiv}
use Rattle.std.proofs.lemmas.List.Elements.{All-head, All-tail}
use Rattle.std.proofs.lemmas.List.Folds.{list_any-append}
use Rattle.std.proofs.lemmas.Slice.Eq.{bytes_eq-Decides}
use Rattle.run_looks.specs.Looks.{FileLooks, after_reply, is_after, with_look, without_path}
use Rattle.run_looks.specs.Recent.{RecentIsWhole, is_on_list}
use Rattle.run_looks.specs.declared.identity.Identity.{Identity}
use Rattle.run_looks.specs.declared.identity.Look.{Look}
use Rattle.run_looks.specs.declared.looks.RunLooks.{RunLooks}
use Rattle.run_looks.proofs.Maps.{same_bytes}

get_put : (looks : FileLooks) (path : List ℕ) (look : Look) (q : List ℕ)
    → map.get (map.insert looks path look) q ≡ cond (bytes_eq q path) (Some look) (map.get looks q)
get_put looks path look q =
    map.get-insert nat_list_cmp_total looks path look q
    ∙ ap (λ b. cond b (Some look) (map.get looks q)) (same_bytes q path)

get_cut : (looks : FileLooks) (path q : List ℕ)
    → map.get (map.remove looks path) q ≡ cond (bytes_eq q path) None (map.get looks q)
get_cut looks path q =
    map.get-remove nat_list_cmp_total looks path q ∙ ap (λ b. cond b None (map.get looks q)) (same_bytes q path)

-- ---- a path more

keeps : (b : Bool) (recent : List (List ℕ)) (path q : List ℕ) → is_on_list recent q ≡ true
    → is_on_list (if b then recent else (recent ++ path ∷ [])) q ≡ true
keeps true recent path q there = there
keeps false recent path q there =
    list_any-append (bytes_eq q) recent (path ∷ []) ∙ or_left (is_on_list recent q) (is_on_list (path ∷ []) q) there

adds : (b : Bool) (recent : List (List ℕ)) (path : List ℕ) → (b ≡ true → is_on_list recent path ≡ true)
    → is_on_list (if b then recent else (recent ++ path ∷ [])) path ≡ true
adds true recent path there = there refl
adds false recent path there =
    list_any-append (bytes_eq path) recent (path ∷ [])
    ∙ or_right (is_on_list recent path) (is_on_list (path ∷ []) path)
    (or_left (bytes_eq path path) false (nat_list_eq_equiv.refl path))

-- ---- a look more, or a look less

bounded : (b : Bool) (look : Look) (old : Option Look) (P : Look → Type 0) → P look → IfSome old P → IfSome (cond b (Some look) old) P
bounded true look old P here there = here
bounded false look old P here there = there

cut_bounded : (b : Bool) (old : Option Look) (P : Look → Type 0) → IfSome old P → IfSome (cond b None old) P
cut_bounded true old P there = tt
cut_bounded false old P there = there

cut_after : (b : Bool) (old : Option Look) (reply : ℕ)
    → option_map_or (λ look. look.reply == reply) (cond b None old) false ≡ true
    → option_map_or (λ look. look.reply == reply) old false ≡ true
cut_after true old reply is = absurd (cc)
cut_after false old reply is = is

on_list_more : (looks : RunLooks) (path : List ℕ) (found : Option Identity) → RecentIsWhole looks
    → (q : List ℕ) → is_after (with_look looks path found).files q looks.reply ≡ true → is_on_list (with_look looks path found).recent q ≡ true
on_list_more looks path found whole q is =
    let b = is_after looks.files path looks.reply in
    elim (cases_Bool (bytes_eq q path)) [
      | inl here ↦
          subst (λ (q : List ℕ). is_on_list (with_look looks path found).recent q ≡ true) (sym ((bytes_eq-Decides q path).0 here))
          (adds b looks.recent path (whole.on_list path))
      | inr apart ↦
          let same : map.get (with_look looks path found).files q ≡ map.get looks.files q =
          get_put looks.files path _ q ∙ cond-false (bytes_eq q path) _ (map.get looks.files q) apart in
          keeps b looks.recent path q (whole.on_list q
          (ap (λ (old : Option Look). option_map_or (λ look. look.reply == looks.reply) old false) (sym same) ∙ is))
    ]

pub look_keeps : (looks : RunLooks) (path : List ℕ) (found : Option Identity) → RecentIsWhole looks → RecentIsWhole (with_look looks path found)
look_keeps looks path found whole = record {
  on_list = on_list_more looks path found whole;
  earlier = λ q.
      subst (λ (old : Option Look). IfSome old (λ look. look.reply ≤ looks.reply)) (sym (get_put looks.files path _ q))
      (bounded (bytes_eq q path) _ (map.get looks.files q) (λ look. look.reply ≤ looks.reply) (omega arith) (whole.earlier q));
}

pub forget_keeps : (looks : RunLooks) (path : List ℕ) → RecentIsWhole looks → RecentIsWhole (without_path looks path)
forget_keeps looks path whole = record {
  on_list = λ q is. whole.on_list q (cut_after (bytes_eq q path) (map.get looks.files q) looks.reply
      (ap (λ (old : Option Look). option_map_or (λ look. look.reply == looks.reply) old false) (sym (get_cut looks.files path q)) ∙ is));
  earlier = λ q.
      subst (λ (old : Option Look). IfSome old (λ look. look.reply ≤ looks.reply)) (sym (get_cut looks.files path q))
      (cut_bounded (bytes_eq q path) (map.get looks.files q) (λ look. look.reply ≤ looks.reply) (whole.earlier q));
}

-- ---- a reply

not_later : (old : Option Look) (reply next : ℕ) → next ≡ reply + 1 → IfSome old (λ look. look.reply ≤ reply)
    → option_map_or (λ look. look.reply == next) old false ≡ true → ⊥
not_later None reply next is before here = cc
not_later (Some look) reply next is before here = let same = eqb-true look.reply next here in omega arith

later : (old : Option Look) (reply next : ℕ) → next ≡ reply + 1 → IfSome old (λ look. look.reply ≤ reply)
    → IfSome old (λ look. look.reply ≤ next)
later None reply next is before = tt
later (Some look) reply next is before = omega arith

pub reply_keeps : (looks : RunLooks) → looks.reply < 2 ^ 64 - 1 → RecentIsWhole looks → RecentIsWhole (after_reply looks)
reply_keeps looks below whole =
    let next : min (looks.reply + 1) (2 ^ 64 - 1) ≡ looks.reply + 1 = omega arith in
    record {
      on_list = λ q is. absurd (not_later (map.get looks.files q) looks.reply _ next (whole.earlier q) is);
      earlier = λ q. later (map.get looks.files q) looks.reply _ next (whole.earlier q);
    }

-- ---- what holds of all of a list

pub holds_of : (P : List ℕ → Type 0) (paths : List (List ℕ)) (path : List ℕ) → All P paths → is_on_list paths path ≡ true → P path
holds_of P [] path all there = absurd (cc)
holds_of P (known ∷ paths) path all there =
    elim (or_cases (bytes_eq path known) (is_on_list paths path) there) [
      | inl here ↦ subst P (sym ((bytes_eq-Decides path known).0 here)) (All-head P known paths all)
      | inr behind ↦ holds_of P paths path (All-tail P known paths all) behind
    ]

-- ---- before the first look

not_empty : (found : Option Look) (reply : ℕ) → found ≡ None → option_map_or (λ look. look.reply == reply) found false ≡ true → ⊥
not_empty None reply none is = cc
not_empty (Some look) reply none is = cc

none_bounded : (found : Option Look) (P : Look → Type 0) → found ≡ None → IfSome found P
none_bounded None P none = tt
none_bounded (Some look) P none = absurd (cc)

pub empty_is_whole : (looks : RunLooks) → looks.files ≡ map.empty → RecentIsWhole looks
empty_is_whole looks none =
    let nothing : (q : List ℕ) → map.get looks.files q ≡ None =
    λ q. ap (λ files. map.get files q) none ∙ map.get-empty (slice_cmp nat_cmp) q in
    record {
      on_list = λ q is. absurd (not_empty (map.get looks.files q) looks.reply (nothing q) is);
      earlier = λ q. none_bounded (map.get looks.files q) (λ look. look.reply ≤ looks.reply) (nothing q);
    }
