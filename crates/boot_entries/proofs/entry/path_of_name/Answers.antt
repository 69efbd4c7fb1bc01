-- What is read for a name is its own path.
use Rattle.std.proofs.Common.{◌≡◌, ◌∙◌, Some, ap, sym}
use Rattle.std.proofs.lemmas.Result.{IfOk-weaker}
use Rattle.boot_base.specs.Paths.{file_name_of, path_below, under}
use Rattle.boot_entries.specs.Entries.{own_path}
use Rattle.boot_entries.proofs.Places.{below_own, named_own}
use Rattle.boot_entries.proofs.entry.path_of_name.Goals as goal

pub returns-clause-path : goal.returns-clause-path
returns-clause-path c =
    let own = ap (path_below c.args.folder.now) c.as_str.ensures.text ∙ below_own c.args.folder.now c.know_normal.ensures.normal c.args.name.now c.as_str.ensures.name in
    IfOk-weaker c.under.result _ (λ path. own_path (under c.args.folder.now c.args.name.now) ≡ Some path) (λ path is. sym own ∙ is) c.under.ensures.ok

pub returns-clause-name : goal.returns-clause-name
returns-clause-name c =
    IfOk-weaker c.under.result (λ path. own_path (under c.args.folder.now c.args.name.now) ≡ Some path) (λ path. file_name_of path ≡ c.args.name.now)
    (λ path is. named_own c.args.folder.now c.args.name.now path c.as_str.ensures.name is)
    (returns-clause-path c)

pub returns-clause-bad : goal.returns-clause-bad
returns-clause-bad c is =
    let own = ap (path_below c.args.folder.now) c.as_str.ensures.text ∙ below_own c.args.folder.now c.know_normal.ensures.normal c.args.name.now c.as_str.ensures.name in
    sym own ∙ c.under.ensures.bad is
