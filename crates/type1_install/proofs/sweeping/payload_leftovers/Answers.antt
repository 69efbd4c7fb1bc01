use Rattle.std.proofs.Common.{◌≡◌, ◌∙◌, Ok, Result, rules, replicate, subst, sym, All}
use Rattle.std.proofs.lemmas.Result.{IfErr-weaker, IfOk-weaker}
use Rattle.boot_base.specs.Paths.{Path, under}
use Rattle.boot_base.specs.declared.refusal.Refusal.{Refusal}
use Rattle.boot_machine.proofs.Reading.{looks_none}
use Rattle.command_plans.specs.Prelude.{ReadErrorFor, path_under}
use Rattle.command_plans.proofs.WordErrors.{done_next}
use Rattle.type1_install.specs.Installing.{payload_probe}
use Rattle.type1_install.specs.Sweeping.{FindsBeside, HasPayloadTemps, IsBesidePayload, StandsBeside, payload_esp}
use Rattle.type1_install.proofs.Leftovers.{read_error_any}
use Rattle.type1_install.proofs.sweeping.payload_leftovers.Given as given
use Rattle.type1_install.proofs.sweeping.payload_leftovers.Goals.{After-leftovers_of}
use Rattle.type1_install.proofs.sweeping.payload_leftovers.Goals as goal

pub returns-in_err-esp-clause-looks : goal.returns-in_err-esp-clause-looks
returns-in_err-esp-clause-looks g c = looks_none (g.met.M.Machine.only_now c.args.machine.now) (search rules)

pub returns-in_err-folder-clause-looks : goal.returns-in_err-folder-clause-looks
returns-in_err-folder-clause-looks g c = looks_none (g.met.M.Machine.only_now c.args.machine.now) (search rules)

-- the ESP has room for payloads
esp_is : (g : given.Over) (c : After-leftovers_of g) → payload_esp c.args.esp.now ≡ Ok c.in_ok-esp.esp
esp_is g c =
    done_next _ c.in_ok-esp.esp _ c.in_ok-esp.ensures
    ∙ done_next (path_under c.in_ok-esp.esp payload_probe) (under c.in_ok-folder.folder (replicate 64 48)) _ c.in_ok-folder.ensures.means

pub returns-clause-all : goal.returns-clause-all
returns-clause-all g c =
    let files = (g.M.Machine.state c.args.machine.now).files in
    IfOk-weaker c.leftovers_of.result _ _
    (λ temps finds told. subst (λ (meant : Result Path Refusal). FindsBeside meant files temps.items) (sym (esp_is g (goal.at.returns-clause-all g c).After-leftovers_of))
    (subst (λ (folder : Path). HasPayloadTemps files folder temps.items) c.in_ok-folder.ensures.folder (finds told)))
    c.leftovers_of.ensures.all

pub returns-clause-within : goal.returns-clause-within
returns-clause-within g c =
    IfOk-weaker c.leftovers_of.result _ _
    (λ temps within. subst (λ (meant : Result Path Refusal). All (StandsBeside meant) temps.items) (sym (esp_is g (goal.at.returns-clause-within g c).After-leftovers_of))
    (subst (λ (folder : Path). All (IsBesidePayload folder) temps.items) c.in_ok-folder.ensures.folder within))
    c.leftovers_of.ensures.within

pub returns-clause-refused : goal.returns-clause-refused
returns-clause-refused g c =
    IfErr-weaker c.leftovers_of.result _ (λ read_error. ReadErrorFor read_error (payload_esp c.args.esp.now)) (λ read_error is. read_error_any read_error (payload_esp c.args.esp.now) is) c.leftovers_of.ensures.faults
