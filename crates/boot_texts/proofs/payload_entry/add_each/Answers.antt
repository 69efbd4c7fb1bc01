use Rattle.std.proofs.Common.{◌∙◌, ◌++◌, ap, arith, sym}
use Rattle.boot_texts.specs.FileLines.{key_line, text_of_lines}
use Rattle.boot_texts.proofs.EntryLines.{each_all, each_more}
use Rattle.boot_texts.proofs.payload_entry.add_each.Goals as goal

pub loop-value-preserved : goal.loop-value-preserved
loop-value-preserved c =
    each_more c.args.key.now c.as_slice-value-items.result.now c.loop-value.value-index _ c.as_slice.result.now c.args.made.now.items c.loop-value.made.items c.add_line.new.made.items c.loop-value-test.true
    (c.as_slice.ensures ∙ c.value-item.is) c.loop-value.invariant c.in_ok-add_line.ensures

pub returns : goal.returns
returns c =
    each_all c.args.key.now c.as_slice-value-items.result.now c.args.values.now c.loop-value.value-index c.args.made.now.items c.loop-value.made.items c.as_slice-value-items.ensures c.loop-value-test.false
    c.loop-value.invariant
