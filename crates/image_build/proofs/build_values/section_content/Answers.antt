use Rattle.std.proofs.Common.{ap, subst, sym, ◌∙◌, find, option_copied, bytes_eq}
use Rattle.boot_machine.specs.Prelude.{contents}
use Rattle.uki_parts.specs.Names.{name_bytes}
use Rattle.image_build.specs.Planning.{IsContent}
use Rattle.image_build.proofs.Values.{section_found, section_kept}
use Rattle.image_build.proofs.build_values.section_content.Goals as goal

pub returns-in-Some-clause-holds : goal.returns-in-Some-clause-holds
returns-in-Some-clause-holds c view on =
    section_found view c.args.plan.now on c.args.name.now c.in-Some.part.now c.deref.result
    (ap (find (λ part. bytes_eq (name_bytes part.name) c.args.name.now)) (sym c.parts.ensures) ∙ sym c.part_named.ensures ∙ ap option_copied c.in-Some.is)
    c.deref.ensures.value

pub returns-in-None-clause-holds : goal.returns-in-None-clause-holds
returns-in-None-clause-holds c view on =
    subst (IsContent (contents view) c.kept_content.result)
    (section_kept view c.args.plan.now on c.args.name.now
    (ap (find (λ part. bytes_eq (name_bytes part.name) c.args.name.now)) (sym c.parts.ensures) ∙ sym c.part_named.ensures ∙ ap option_copied c.in-None.is))
    (c.kept_content.ensures.holds view on)
