use Rattle.std.proofs.Common.{refl, sym, ◌∙◌}
use Rattle.boot_base.specs.Paths.{Path}
use Rattle.install_steps.proofs.Appending.{appends_none, appends_on, appends-there, appends-source}
use Rattle.install_steps.specs.proofs.AppendLaws.{grown_on, grown_as, ok_then}
use Rattle.image_writer.proofs.Filled.{behind_some}
use Rattle.image_writer.proofs.part.write_parts.Goals as goal

pub returns-then-is_empty-clause-appends : goal.returns-then-is_empty-clause-appends
returns-then-is_empty-clause-appends g c = appends_none (g.met.M.Machine.only_now c.args.machine.now) refl

pub write_each_part-requires : goal.write_each_part-requires
write_each_part-requires g c = record {
  there = appends-there c.write_zeros.ensures.appends c.requires.there;
}

pub returns-clause-appends : goal.returns-clause-appends
returns-clause-appends g c = appends_on c.in_ok-write_zeros.ensures.appends c.write_each_part.ensures.appends

pub returns-clause-grows : goal.returns-clause-grows
returns-clause-grows g c = ok_then c.write_each_part.result c.write_each_part.ensures.grows (λ each told unit files agrees.
    grown_as _ _ _ _ _
    (behind_some files c.args.unit c.args.stub_length c.gap.result c.args.parts.now (sym c.is_empty.ensures ∙ c.if-is_empty.false) (c.gap.ensures unit))
    (grown_on _ _ _ _ _ _ (c.in_ok-write_zeros.ensures.grows told) (each told unit files
    (λ (q : Path) shown. agrees q shown ∙ sym (appends-source q c.know.ensures shown c.write_zeros.ensures.appends told)))))
