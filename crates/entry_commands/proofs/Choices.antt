-- What a blessing renames is there, and its target isn't.
use Rattle.std.proofs.Common.{◌≡◌, inl, inr, Bool, true, false, List, [], ◌∷◌, Option, Some, None, refl, sym, ◌∙◌, find}
use Rattle.std.proofs.lemmas.Bool.{cases_Bool, cond-false, cond-true}
use Rattle.menu_order.specs.Bless.{Name, GoodName, CountedName, BadName, choice_from, choice_of, is_there, bless_sources, target_of}
use Rattle.menu_order.specs.declared.bless.BlessVerb.{BlessVerb}
use Rattle.menu_order.specs.declared.bless.BlessChoice.TheVariants.{Nothing}
use Rattle.menu_order.specs.declared.bless.Present.{Present}
use Rattle.boot_machine.specs.Prelude.{Files, has}
use Rattle.entry_commands.specs.Blessing.{path_at, present_at}
use Rattle.entry_commands.specs.declared.bless.EntryPaths.{EntryPaths}

some_choice : (source : Name) → Nothing ≡ choice_from (Some source) → ⊥
some_choice GoodName is = cc
some_choice CountedName is = cc
some_choice BadName is = cc

one_source : (found : Option Name) (source : Name) → choice_from found ≡ choice_from (Some source) → found ≡ Some source
one_source None GoodName is = cc
one_source None CountedName is = cc
one_source None BadName is = cc
one_source (Some GoodName) GoodName is = refl
one_source (Some GoodName) CountedName is = cc
one_source (Some GoodName) BadName is = cc
one_source (Some CountedName) GoodName is = cc
one_source (Some CountedName) CountedName is = refl
one_source (Some CountedName) BadName is = cc
one_source (Some BadName) GoodName is = cc
one_source (Some BadName) CountedName is = cc
one_source (Some BadName) BadName is = refl

found_there : (test : Name → Bool) (names : List Name) (name : Name) → find test names ≡ Some name → test name ≡ true
found_there test [] name is = cc
found_there test (first ∷ later) name is = elim (cases_Bool (test first)) [
  | inl passes ↦ at first passes (sym (cond-true (test first) (Some first) (find test later) passes) ∙ is)
  | inr fails ↦ found_there test later name (sym (cond-false (test first) (Some first) (find test later) fails) ∙ is)
]
  where
    at : (first : Name) → test first ≡ true → Some first ≡ Some name → test name ≡ true
    at first passes is = cc

chosen : (verb : BlessVerb) (present : Present) (source : Name) → choice_of verb present ≡ choice_from (Some source)
    → (is_there present source ≡ true) × (is_there present (target_of verb) ≡ false)
chosen verb present source is = elim (cases_Bool (is_there present (target_of verb))) [
  | inl there ↦ absurd (some_choice source (sym (cond-true (is_there present (target_of verb)) Nothing (choice_from (find (is_there present) (bless_sources verb))) there) ∙ is))
  | inr gone ↦ (
    found_there (is_there present) (bless_sources verb) source
        (one_source (find (is_there present) (bless_sources verb)) source
        (sym (cond-false (is_there present (target_of verb)) Nothing (choice_from (find (is_there present) (bless_sources verb))) gone) ∙ is)),
    gone,
  )
]

-- a name is there where its file is
stands : (view : Files) (paths : EntryPaths) (name : Name) → is_there (present_at view paths) name ≡ has view (path_at paths name)
stands view paths GoodName = refl
stands view paths CountedName = refl
stands view paths BadName = refl

-- the file that is renamed is there, and none where it is to stand
pub can_bless : (view : Files) (verb : BlessVerb) (paths : EntryPaths) (source : Name) → choice_of verb (present_at view paths) ≡ choice_from (Some source)
    → (has view (path_at paths source) ≡ true) × (has view (path_at paths (target_of verb)) ≡ false)
can_bless view verb paths source is =
    let found = chosen verb (present_at view paths) source is in
    (sym (stands view paths source) ∙ found.0, sym (stands view paths (target_of verb)) ∙ found.1)
