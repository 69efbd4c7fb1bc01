use Rattle.std.proofs.Common.{◌≡◌, ℕ, ◌<◌, ◌+◌, ◌^◌, true, false, List, [], ◌∷◌, length, map, length-append, sym, ap, ◌∙◌, arith, rules, Bor}
use borrow.Author.Tests.{tests}
use Rattle.std.proofs.lemmas.Iterator.Consumers.{YieldsList-end}
use Rattle.std.proofs.lemmas.Iterator.Splits.{YieldsList-from_slice_split}
use Rattle.std.proofs.lemmas.List.{map-append, length-map}
use Rattle.std.proofs.lemmas.List.Sums.{count_by-le-length}
use Rattle.std.proofs.lemmas.List.Splits.{length-slice_split}
use Rattle.std.specs.List.{slice_split}
use Rattle.boot_run.specs.AskedLines.{is_passed_over, is_script_newline, lines_from}
use Rattle.boot_run.proofs.ScriptLines.{with_piece, without_piece}
use Rattle.boot_run.proofs.script.script_lines.Goals as goal

pub loop-piece-preserved-in_ok-push : goal.loop-piece-preserved-in_ok-push
loop-piece-preserved-in_ok-push c bound =
    let yielded = c.loop-piece.yielded in
    let pieces = map (λ (piece : Bor (List ℕ)). piece.now) yielded in
    let longer = length-append yielded (c.in-Some.piece ∷ []) in
    let before = c.loop-piece.invariant (omega (arith, bound, longer)) in
    let number : c.saturating_add-number.result ≡ length yielded + 1 = omega (arith, c.saturating_add-number.ensures, before.0, bound, longer) in
    let counts : is_passed_over c.in-Some.piece.now ≡ false = search rules in (
      omega (arith, number, longer),
      c.in_ok-push.ensures.items
          ∙ with_piece pieces c.in-Some.piece.now c.saturating_add-number.result c.loop-piece.lines.items c.in_ok-line_at.field-0
          (omega (arith, number, length-map yielded (λ (piece : Bor (List ℕ)). piece.now))) counts c.in_ok-line_at.ensures before.1
          ∙ ap (lines_from 1) (sym (map-append (λ (piece : Bor (List ℕ)). piece.now) yielded (c.in-Some.piece ∷ []))),
    )

pub loop-piece-preserved : goal.loop-piece-preserved
loop-piece-preserved c bound =
    let yielded = c.loop-piece.yielded in
    let pieces = map (λ (piece : Bor (List ℕ)). piece.now) yielded in
    let longer = length-append yielded (c.in-Some.piece ∷ []) in
    let before = c.loop-piece.invariant (omega (arith, bound, longer)) in
    let passed : is_passed_over c.in-Some.piece.now ≡ true = search rules in (
      omega (arith, c.saturating_add-number.ensures, before.0, bound, longer),
      without_piece pieces c.in-Some.piece.now c.loop-piece.lines.items passed before.1 ∙ ap (lines_from 1) (sym (map-append (λ (piece : Bor (List ℕ)). piece.now) yielded (c.in-Some.piece ∷ []))),
    )

pub returns : goal.returns
returns c =
    let yielded = c.loop-piece.yielded in
    let pieces : map (λ (piece : Bor (List ℕ)). piece.now) yielded ≡ slice_split is_script_newline c.args.bytes.now =
    (YieldsList-end
    (YieldsList-from_slice_split _ is_script_newline c.args.bytes.now (search rules) (search rules) (search rules) (λ x b q k. search (rules, tests)))
    yielded _ c.loop-piece.yielded_by _ c.next.new.self c.in-None.is c.next.ensures.steps).0 in
    let few : length yielded < 2 ^ 64 =
    omega (
      arith,
      sym (length-map yielded (λ (piece : Bor (List ℕ)). piece.now)),
      ap length pieces,
      length-slice_split is_script_newline
          c.args.bytes.now,
      count_by-le-length is_script_newline c.args.bytes.now,
      c.requires,
    )
    in
    (c.loop-piece.invariant few).1 ∙ ap (lines_from 1) pieces
