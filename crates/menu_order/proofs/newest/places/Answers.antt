-- What is seen of each group so far tells whether the next entry is kept.
use Rattle.std.proofs.Common.{◌≡◌, not, ◌&&◌, ◌||◌, ◌++◌, ◌∷◌, [], ap, sym, ◌∙◌, take, arith, List, ℕ, nat_lt, unwrap_or, if◌then◌else◌, append-nil}
use Rattle.menu_order.specs.declared.newest.Tally.{Tally}
use Rattle.menu_order.specs.Doomed.{group_of, is_good, is_kept_record, places_behind}
use Rattle.menu_order.specs.Tallies.{no_tally, tally_of}
use Rattle.menu_order.proofs.Tallying.{none_yet, place_more, size_within, tallies_more}
use Rattle.menu_order.proofs.newest.places.Goals as goal
use Rattle.menu_order.proofs.newest.places.Goals.{then-not-is_kept+in_ok-push, else-not-is_kept}

pub with_one-requires : goal.with_one-requires
with_one-requires c =
    let was : c.unwrap_or-before.result ≡ tally_of c.args.per_key (group_of c.args.per_key c.index-items-place.result) (take c.loop-place.place c.args.items.now) =
    c.unwrap_or-before.ensures
    ∙ ap (λ o. unwrap_or o no_tally) (c.copied.ensures ∙ c.get.ensures.value)
    ∙ c.loop-place.invariant.tallies.each c.group_of-group.result
    ∙ ap (λ g. tally_of c.args.per_key g (take c.loop-place.place c.args.items.now)) c.group_of-group.ensures in
    omega (arith, ap (λ (t : Tally). t.size) was, size_within c.args.per_key (group_of c.args.per_key c.index-items-place.result) c.args.items.now c.loop-place.place c.loop-place-test.true)

pub loop-place-init : goal.loop-place-init
loop-place-init c = record { places = c.new-places.ensures.items; tallies = none_yet c.args.per_key c.new-tallies.result c.new-tallies.ensures.empty }

pub loop-place-preserved : goal.loop-place-preserved
loop-place-preserved c =
    let item = c.index-items-place.result in
    let seen = take c.loop-place.place c.args.items.now in
    let was : c.unwrap_or-before.result ≡ tally_of c.args.per_key (group_of c.args.per_key c.index-items-place.result) (take c.loop-place.place c.args.items.now) =
    c.unwrap_or-before.ensures
    ∙ ap (λ o. unwrap_or o no_tally) (c.copied.ensures ∙ c.get.ensures.value)
    ∙ c.loop-place.invariant.tallies.each c.group_of-group.result
    ∙ ap (λ g. tally_of c.args.per_key g (take c.loop-place.place c.args.items.now)) c.group_of-group.ensures in
    let so_far : List ℕ = places_behind c.args.n c.args.per_key [] seen in
    let keep : c.is_kept.result ≡ is_kept_record c.args.n c.args.per_key seen item =
    c.is_kept.ensures ∙ ap (λ (t : Tally). nat_lt t.size c.args.n || (is_good item && not t.has_good)) was in
    let more = place_more c.args.n c.args.per_key c.args.items.now c.loop-place.place item c.is_kept.result c.loop-place-test.true c.index-items-place.is keep in
    record {
      places = elim c.if-not-is_kept.branch [
        | then-not-is_kept+in_ok-push w ↦
            ap (λ places. places.items) w.places-is ∙ w.in_ok-push.ensures.items
            ∙ ap (λ (l : List ℕ). l ++ c.loop-place.place ∷ []) c.loop-place.invariant.places
            ∙ ap (λ b. so_far ++ (if b then [] else (c.loop-place.place ∷ []))) (sym w.if-not-is_kept.true)
            ∙ sym more
        | else-not-is_kept w ↦
            ap (λ places. places.items) w.places-is ∙ c.loop-place.invariant.places
            ∙ sym (append-nil so_far)
            ∙ ap (λ b. so_far ++ (if b then [] else (c.loop-place.place ∷ []))) (sym w.if-not-is_kept.false)
            ∙ sym more
      ];
      tallies = tallies_more c.args.per_key c.args.items.now c.loop-place.place item c.loop-place.tallies c.insert.new.self c.group_of-group.result c.unwrap_or-before.result c.with_one.result
          c.loop-place-test.true c.index-items-place.is c.group_of-group.ensures c.loop-place.invariant.tallies was c.with_one.ensures.size c.with_one.ensures.has_good c.in_ok-insert.ensures.updates.0;
    }
