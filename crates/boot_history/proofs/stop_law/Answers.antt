-- A stop behind a run is a stop of that run.
use Rattle.boot_history.proofs.stop_law.Goals as goal

pub returns : goal.returns
returns g c told words old new each image is =
    each.each image (g.M.Machine.state new).printed
    (g.met.M.Machine.counts_now new (g.M.Machine.time.clock old) image told each.later is)
