use Rattle.std.proofs.Common.{◌∙◌, ap, sym}
use Rattle.boot_texts.specs.Conf.{may_be_default, may_be_value}
use Rattle.boot_texts.proofs.PatternDecisions.{default_decides, same_truth}
use Rattle.boot_texts.proofs.conf_change.may_be_value.Goals as goal

pub returns-in-Default-clause-value : goal.returns-in-Default-clause-value
returns-in-Default-clause-value c =
    same_truth c.is_default_pattern.result (may_be_default c.args.value.now) c.is_default_pattern.ensures (default_decides c.args.value.now)
    ∙ ap (λ key. may_be_value key c.args.value.now) (sym c.in-Default.is)
