use Rattle.std.proofs.Common.{rules}
use Rattle.image_commands.proofs.Parts.{part_more, part_placed, part_sized}
use Rattle.image_commands.proofs.calculate.file_parts.Goals as goal

pub loop-name-preserved : goal.loop-name-preserved
loop-name-preserved c =
    let before = c.loop-name.invariant in
    record {
      bytes =
          λ reading. part_more reading c.args.files.now c.loop-name.name-index _ c.loop-name-item.result c.from_ref.result c.loop-name.parts.items
          c.push.new.self.items c.loop-name-test.true c.loop-name-item.is c.from_ref.ensures.value (search rules) (before.bytes reading);
      sizes = λ reading sized.
          part_sized reading c.args.files.now c.loop-name.name-index _ c.loop-name-item.result c.from_ref.result c.loop-name.parts.items
          c.push.new.self.items c.loop-name-test.true c.loop-name-item.is c.from_ref.ensures.value (search rules) sized
          (before.sizes reading sized);
      ranges = part_placed c.loop-name-item.result.0 c.from_ref.result c.loop-name.parts.items c.push.new.self.items (search rules) before.ranges;
    }
