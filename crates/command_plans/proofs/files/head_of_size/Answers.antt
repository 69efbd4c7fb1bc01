use Rattle.std.proofs.Common.{List, ap, subst, sym, ◌∙◌, length, ℕ}
use Rattle.pe_reader.specs.Prelude.{pe_of, GivesFrom, headers_of}
use Rattle.command_plans.proofs.Sizes.{shown_contents}
use Rattle.command_plans.proofs.files.head_of_size.Goals as goal

pub read_head-requires-clause-size : goal.read_head-requires-clause-size
read_head-requires-clause-size g c told =
    c.requires.size told ∙ ap length (shown_contents (g.M.Machine.state c.args.machine.now) c.args.path.now c.know.ensures.lasting)

pub returns-clause-exact : goal.returns-clause-exact
returns-clause-exact g c told =
    subst (λ (bytes : List ℕ). GivesFrom headers_of c.read_head.result (pe_of bytes))
    (sym (shown_contents (g.M.Machine.state c.args.machine.now) c.args.path.now c.know.ensures.lasting)) (c.read_head.ensures.exact told)
