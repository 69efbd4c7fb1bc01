use Rattle.std.proofs.Common.{◌∙◌, ◌≡◌, ap}
use Rattle.boot_texts.specs.Conf.{conf_of, conf_key_name, other_conf_key, conf_value}
use Rattle.boot_texts.specs.FileLines.{raw_lines, text_with_value}
use Rattle.boot_texts.proofs.ConfChanges.{conf_lines, conf_set, conf_other}
use Rattle.boot_texts.proofs.conf_change.with_key.Goals as goal

made_is : (c : goal.In_ok-made) → c.in_ok-made.made.items ≡ text_with_value (conf_key_name c.args.key) c.args.value.now c.args.bytes.now
made_is c = c.in_ok-made.ensures ∙ ap (λ name. text_with_value name c.args.value.now c.args.bytes.now) c.name.ensures

pub returns-clause-kept : goal.returns-clause-kept
returns-clause-kept c = ap raw_lines (made_is c) ∙ conf_lines c.args.key c.args.value.now c.args.bytes.now c.requires

pub returns-clause-set : goal.returns-clause-set
returns-clause-set c =
    ap (λ text. conf_value c.args.key (conf_of text)) (made_is c)
    ∙ conf_set c.args.key c.args.value.now c.args.bytes.now c.requires

pub returns-clause-other : goal.returns-clause-other
returns-clause-other c =
    ap (λ text. conf_value (other_conf_key c.args.key) (conf_of text)) (made_is c)
    ∙ conf_other c.args.key c.args.value.now c.args.bytes.now c.requires
