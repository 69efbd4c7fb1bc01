-- A move under an intent.
use Rattle.std.proofs.Common.{◌≡◌, ◌≢◌, inl, inr, ℕ, true, false, List, [], Option, Some, None, is_some, unwrap_or, refl, sym, ap, ◌∙◌, option_and_then}
use Rattle.std.specs.FinMap as map
use Rattle.boot_base.specs.Paths.{Path, intent, is_temp, read_intent}
use Rattle.boot_machine.specs.Prelude.{Files, HasNoHalfRename, has, intent_names, recovered_view, contents, move_in}
use Rattle.boot_machine.specs.proofs.Maps.{cases_same, get-none, get-insert_here, get-insert_apart, get-remove_here, get-remove_apart}
use Rattle.boot_machine.proofs.Recovering.{AreNames, IsCalm, names_of, turn, recovered_view_from, recovered_view-drop_intent, recovered_view-move_in, whole-first, whole-second, get-move_in_apart}
use Rattle.install_steps.specs.Steps.{Intends}

-- one of two paths is there, the other isn't
pub apart_of : (m : Files) (a b : Path) → has m a ≡ true → has m b ≡ false → a ≢ b
apart_of m a b there none = λ is. clash (ap (has m) (sym is) ∙ there) none
  where
    clash : {x : _} → x ≡ true → x ≡ false → ⊥
    clash e f = cc

module _ (m n : Files) (a b : Path) (calm : IsCalm m) (intends : Intends a b m n) where
  names : AreNames a b
  names = names_of n a b intends.named

  without : recovered_view (map.remove n intent) ≡ recovered_view m
  without = recovered_view_from _ _ (λ q lasts. elim (cases_same q intent) [
    | inl here ↦ rw here (get-remove_here n intent ∙ sym (get-none m intent calm))
    | inr off ↦ get-remove_apart n intent q off ∙ intends.alike q lasts off
  ])

  -- while the intent stands and the new name isn't there, boot sees what it saw
  pub intended_view : has m b ≡ false → recovered_view n ≡ recovered_view m
  intended_view none = sym (recovered_view-drop_intent n (whole-second n a b intends.named (ap is_some (intends.alike b names.second_lasts names.second_free) ∙ none))) ∙ without

  pub intended_there : has m a ≡ true → has n a ≡ true
  intended_there there = ap is_some (intends.alike a names.first_lasts names.first_free) ∙ there

  still : intent_names (move_in a b n) ≡ Some (a, b)
  still = ap (option_and_then read_intent) (get-move_in_apart n a b intent (turn intent a names.first_free) (turn intent b names.second_free)) ∙ intends.named

  gone : has (move_in a b n) a ≡ false
  unfolding move_in
  gone = ap is_some (get-insert_apart (map.remove n a) b (contents n a) a names.apart ∙ get-remove_here n a)

  whole : HasNoHalfRename (move_in a b n)
  whole = whole-first (move_in a b n) a b still gone

  moved_alike : (q : Path) → is_temp q ≡ false → map.get (map.remove (move_in a b n) intent) q ≡ map.get (move_in a b m) q
  unfolding move_in
  moved_alike q lasts = elim (cases_same q intent) [
    | inl here ↦ rw here (get-remove_here (map.insert (map.remove n a) b (contents n a)) intent
        ∙ sym (get-insert_apart (map.remove m a) b (contents m a) intent (turn intent b names.second_free) ∙ get-remove_apart m a intent (turn intent a names.first_free) ∙ get-none m intent calm))
    | inr off ↦ get-remove_apart (map.insert (map.remove n a) b (contents n a)) intent q off ∙ elim (cases_same q b) [
      | inl is ↦ rw is (get-insert_here (map.remove n a) b (contents n a)
          ∙ ap (λ (o : Option (List ℕ)). Some (unwrap_or o [])) (intends.alike a names.first_lasts names.first_free) ∙ sym (get-insert_here (map.remove m a) b (contents m a)))
      | inr away ↦ get-insert_apart (map.remove n a) b (contents n a) q away ∙ elim (cases_same q a) [
        | inl first ↦ rw first (get-remove_here n a ∙ sym (get-insert_apart (map.remove m a) b (contents m a) a names.apart ∙ get-remove_here m a))
        | inr free ↦ get-remove_apart n a q free ∙ intends.alike q lasts off ∙ sym (get-insert_apart (map.remove m a) b (contents m a) q away ∙ get-remove_apart m a q free)
      ]
    ]
  ]

  -- after the rename boot sees the file moved
  pub moved_view : recovered_view (move_in a b n) ≡ move_in a b (recovered_view m)
  moved_view =
      sym (recovered_view-drop_intent (move_in a b n) whole) ∙ recovered_view_from _ _ moved_alike
      ∙ recovered_view-move_in m a b calm names.first_lasts names.second_lasts (turn intent b names.second_free)

  -- and so without the intent
  pub dropped_view : recovered_view (map.remove (move_in a b n) intent) ≡ move_in a b (recovered_view m)
  dropped_view = recovered_view-drop_intent (move_in a b n) whole ∙ moved_view

  pub intent_there : has (move_in a b n) intent ≡ true
  intent_there = ap is_some (get-move_in_apart n a b intent (turn intent a names.first_free) (turn intent b names.second_free)) ∙ read_there (map.get n intent) intends.named
    where
      read_there : (o : Option (List ℕ)) → option_and_then read_intent o ≡ Some (a, b) → is_some o ≡ true
      read_there None e = cc
      read_there (Some bytes) e = refl
