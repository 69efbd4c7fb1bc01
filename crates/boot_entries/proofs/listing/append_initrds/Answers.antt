-- One more line.
use Rattle.std.proofs.Common.{◌++◌, ap, ◌∙◌, codes}
use Rattle.boot_entries.specs.Listing.{line}
use Rattle.boot_entries.proofs.Appending.{appended_more}
use Rattle.boot_entries.proofs.listing.append_initrds.Goals as goal

pub loop-initrd-preserved : goal.loop-initrd-preserved
loop-initrd-preserved c =
    appended_more (line (codes "      initrd: ")) c.args.out.now.items c.loop-initrd.out.items c.append_line.new.out.items c.args.initrds.now c.loop-initrd.initrd-index c.initrd-item.result c.loop-initrd-test.true c.initrd-item.is c.loop-initrd.invariant
    (c.in_ok-append_line.ensures ∙ ap (λ v. c.loop-initrd.out.items ++ line (codes "      initrd: ") v) c.as_slice.ensures)
