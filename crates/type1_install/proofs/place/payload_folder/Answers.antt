use Rattle.std.proofs.Common.{◌∙◌, ◌+◌, ◌≤◌, Ok, ap, length, subst, sym, replicate}
use Rattle.boot_base.specs.Paths.{Path, under}
use Rattle.command_plans.proofs.WordErrors.{means_word_error}
use Rattle.type1_install.proofs.Places.{probe_is, probe_room}
use Rattle.type1_install.proofs.place.payload_folder.Goals as goal

pub returns-in_err-probe-clause-means : goal.returns-in_err-probe-clause-means
returns-in_err-probe-clause-means c = means_word_error _ c.in_err-probe.field-0.0 _ _ c.from_residual.ensures.0 c.from_residual.ensures.1 c.in_err-probe.ensures

pub folder_below-requires : goal.folder_below-requires
folder_below-requires c = probe_room c.args.esp.now c.know_normal.ensures.normal c.in_ok-probe.probe c.in_ok-probe.ensures

pub returns-clause-means : goal.returns-clause-means
returns-clause-means c =
    c.in_ok-probe.ensures
    ∙ ap Ok (probe_is c.args.esp.now c.know_normal.ensures.normal c.in_ok-probe.probe c.in_ok-probe.ensures
    ∙ ap (λ (f : Path). under f (replicate 64 48)) (sym c.in_ok-folder_below.ensures))

pub returns-clause-room : goal.returns-clause-room
returns-clause-room c =
    subst (λ (f : Path). length f + 65 ≤ 1024) (sym c.in_ok-folder_below.ensures)
    (probe_room c.args.esp.now c.know_normal.ensures.normal c.in_ok-probe.probe c.in_ok-probe.ensures)
