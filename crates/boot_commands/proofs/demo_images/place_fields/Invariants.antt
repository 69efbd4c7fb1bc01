use Rattle.std.proofs.Common.{◌≡◌, [], take, fold}
use Rattle.boot_commands.specs.DemoImages.{with_number}
use Rattle.boot_commands.proofs.demo_images.place_fields.Given as goal

abbrev pub invariant-loop-place : goal.invariant-loop-place
invariant-loop-place l = l.out.items ≡ fold with_number [] (take l.place-index l.fields)
