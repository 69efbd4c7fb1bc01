use Rattle.std.proofs.Common.{◌≡◌, ◌≤◌, IsTrue}
use Rattle.run_looks.specs.Names.{lasting}
use Rattle.run_looks.proofs.Checks.{AreLeft}
use Rattle.run_looks.proofs.check.check_listings.Given as goal

-- all stand exactly if those that are left stand
abbrev pub invariant-loop-folder : goal.invariant-loop-folder
invariant-loop-folder g l =
    IsTrue g.D.LiveDisk.tells
    → AreLeft (λ folder listing. l.reply ≤ listing.reply → lasting
    ((g.D.LiveDisk.stands l.disk).names folder) ≡ listing.names)
    l.initial.folder-iterator l.folder-iterator
