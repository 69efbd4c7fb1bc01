use Rattle.std.proofs.Common.{◌∙◌, sym, subst, take_all}
use Rattle.std.proofs.lemmas.List.Elements.{All-more, All-same}
use Rattle.run_looks.specs.Standing.{FileStands}
use Rattle.run_looks.proofs.check.check_paths.Goals as goal

pub loop-path-preserved : goal.loop-path-preserved
loop-path-preserved g c tells =
    let paths = c.args.paths.now in
    let P = FileStands (g.D.LiveDisk.stands c.args.disk.now) c.args.files.now in
    All-more P paths c.loop-path.path-index c.path-item.result c.loop-path-test.true (c.loop-path.invariant tells)
    (subst P (c.as_str.ensures ∙ c.path-item.is) (c.in_ok-check_path.ensures tells))

pub returns : goal.returns
returns g c tells =
    let paths = c.args.paths.now in
    All-same (FileStands (g.D.LiveDisk.stands c.args.disk.now) c.args.files.now) paths _
    (sym (take_all c.loop-path.path-index paths c.loop-path-test.false)) (c.loop-path.invariant tells)
