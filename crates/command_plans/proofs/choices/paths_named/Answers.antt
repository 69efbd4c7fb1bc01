use Rattle.std.proofs.Common.{rules, ◌≢◌, ◌∙◌, ◌++◌, ◌∷◌, [], ℕ, Bool, List, true, cond, map, take, ap, sym, subst, bytes_eq, nat_cmp}
use Rattle.std.specs.Bool.{OnFalse}
use Rattle.std.specs.BTreeMap.{is_at}
use Rattle.std.specs.BTreeSet.{IsUnchanged, contains}
use Rattle.std.specs.Cmp.Lexicographic.{lists_equiv, lists_ties, pointwise, slice_cmp, texts_ties}
use Rattle.std.specs.List.{AllPairs, list_any}
use Rattle.std.proofs.lemmas.Cmp.{nat_list_eq_equiv}
use Rattle.pcr_values.specs.Prelude.{phase_words}
use Rattle.command_plans.specs.Prelude.{without_repeats}
use Rattle.command_plans.proofs.WithoutRepeats.{differ, kept_new, kept_seen, map_take_more, not_false, not_true, once_apart, tells_more}
use Rattle.command_plans.proofs.choices.paths_named.Goals as goal
use Rattle.command_plans.proofs.choices.paths_named.Goals.{then-branch+in_ok-read-2+in_ok-push, else-branch}

pub loop-text-init : goal.loop-text-init
unfolding without_repeats
loop-text-init c = record {
  value = search rules;
  seen = λ path.
      ap (list_any (is_at (slice_cmp (slice_cmp nat_cmp) path))) c.new-seen.ensures.empty
      ∙ sym (ap (list_any (λ kept. pointwise bytes_eq kept path)) c.new-paths.ensures.items);
}

pub loop-text-preserved : goal.loop-text-preserved
loop-text-preserved c =
    let same = pointwise bytes_eq in
    let equal = lists_equiv nat_list_eq_equiv in
    let path = c.in_ok-read.field-0 in
    let kept = c.loop-text.paths.items in
    let inserted = c.in_ok-insert.ensures in
    let before = map phase_words (take c.loop-text.text-index c.args.texts.now) in
    let more = map_take_more phase_words c.args.texts.now c.loop-text.text-index c.text-item.result path c.loop-text-test.true c.text-item.is
    (c.in_ok-read.ensures ∙ ap phase_words c.as_str.ensures) in
    elim c.if-branch.branch [
      | then-branch+in_ok-read-2+in_ok-push w ↦
          let pushed = ap (λ paths. paths.items) w.paths-is ∙ w.in_ok-push.ensures.items
          ∙ ap (λ (p : List (List ℕ)). kept ++ p ∷ []) (w.in_ok-read-2.ensures ∙ ap phase_words (w.as_str-then-branch.ensures ∙ sym c.as_str.ensures) ∙ sym c.in_ok-read.ensures) in
          record {
            value = kept_new equal before path kept c.if-branch.paths.items (contains (slice_cmp (slice_cmp nat_cmp)) c.loop-text.seen path)
                c.loop-text.invariant.value (c.loop-text.invariant.seen path) (not_true _ _ inserted.added w.if-branch.true) pushed
                ∙ ap (without_repeats same) (sym more);
            seen = λ q.
                tells_more same kept path (contains (slice_cmp (slice_cmp nat_cmp)) c.loop-text.seen) (contains (slice_cmp (slice_cmp nat_cmp)) c.insert.new.self)
                c.loop-text.invariant.seen
                (λ p. inserted.updates.0 p ∙ ap (λ (b : Bool). cond b true (contains (slice_cmp (slice_cmp nat_cmp)) c.loop-text.seen p)) (sym (lists_ties (slice_cmp nat_cmp) texts_ties path p)))
                q
                ∙ ap (list_any (λ one. same one q)) (sym pushed);
          }
      | else-branch w ↦
          let stays = ap (λ paths. paths.items) w.paths-is in
          record {
            value = stays ∙ kept_seen equal before path kept (contains (slice_cmp (slice_cmp nat_cmp)) c.loop-text.seen path)
                c.loop-text.invariant.value (c.loop-text.invariant.seen path) (not_false _ _ inserted.added w.if-branch.false)
                ∙ ap (without_repeats same) (sym more);
            seen = λ q.
                ap (list_any (is_at (slice_cmp (slice_cmp nat_cmp) q))) (subst (λ b. OnFalse b (IsUnchanged c.loop-text.seen c.insert.new.self)) w.if-branch.false inserted.unchanged)
                ∙ c.loop-text.invariant.seen q ∙ ap (list_any (λ one. same one q)) (sym stays);
          }
    ]

pub returns-clause-distinct : goal.returns-clause-distinct
returns-clause-distinct c =
    let same = pointwise bytes_eq in
    subst (AllPairs (λ one other. one ≢ other)) (sym c.loop-text.invariant.value)
    (differ same (lists_equiv nat_list_eq_equiv).refl _ (once_apart same (map phase_words (take c.loop-text.text-index c.args.texts.now))))
