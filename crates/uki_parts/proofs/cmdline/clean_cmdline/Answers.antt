use Rattle.std.proofs.Common.{◌≡◌, ◌∷◌, [], true, map, ap, sym, ◌∙◌, rules, arith}
use Rattle.std.proofs.lemmas.List.{map-append}
use Rattle.std.proofs.lemmas.Iterator.Consumers.{YieldsList-end}
use Rattle.std.proofs.lemmas.Iterator.Splits.{YieldsList-from_slice_split}
use Rattle.boot_base.proofs.Joined.{KeepsLong, join_filtered, add_piece, join_filtered-kept}
use Rattle.uki_parts.specs.Cmdlines.{is_whitespace}
use Rattle.uki_parts.specs.Texts.{is_nonempty_text}
use Rattle.uki_parts.proofs.cmdline.clean_cmdline.Goals as goal

is_nonempty_text-long : KeepsLong is_nonempty_text
is_nonempty_text-long [] h = cc
is_nonempty_text-long (b ∷ x) h = omega arith

pub loop-word-preserved-in-Continue-1 : goal.loop-word-preserved-in-Continue-1
loop-word-preserved-in-Continue-1 c =
    let word = c.in-Some.word.now in
    let kept : is_nonempty_text word ≡ true = grind (arith, c.is_empty.ensures, c.if-not-is_empty.true) in
    c.in_ok-append_word.ensures
    ∙ ap (λ text. add_piece 32 text word) c.loop-word.invariant
    ∙ sym (join_filtered-kept 32 is_nonempty_text is_nonempty_text-long (map (λ x. x.now) c.loop-word.yielded) word kept)
    ∙ ap (join_filtered 32 is_nonempty_text) (sym (map-append (λ x. x.now) c.loop-word.yielded _))

pub returns : goal.returns
returns c =
    let cut = YieldsList-from_slice_split _ is_whitespace c.args.text.now (search rules) (search rules) (search rules) (λ x b q h. search rules) in
    c.loop-word.invariant
    ∙ ap (join_filtered 32 is_nonempty_text) (YieldsList-end cut c.loop-word.yielded _ c.loop-word.yielded_by _ c.next.new.self c.in-None.is c.next.ensures.steps).0
