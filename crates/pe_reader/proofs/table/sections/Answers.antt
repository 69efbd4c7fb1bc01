use Rattle.std.proofs.Common.{◌≡◌, ◌+◌, ◌*◌, length, ◌-◌, Ok, Err, sym, ap, ◌∙◌, arith, length-drop}
use Rattle.std.proofs.lemmas.Result.{err_from_is_err_and}
use Rattle.pe_reader.specs.Prelude.{check_section, section_at}
use Rattle.pe_reader.proofs.Stepping.{sections_of-next, sections_of-stop, sections_of-end}
use Rattle.pe_reader.proofs.table.sections.Goals as goal

pub returns-in_err-section : goal.returns-in_err-section
returns-in_err-section c =
    let p = err_from_is_err_and c.from_residual.result c.from_residual.ensures.1 in
    let fails : check_section c.args.size c.args.header_size c.loop-i.sections.items (c.args.place + 40 * c.loop-i.i) (section_at c.loop-i.rest.now) ≡ Err c.in_err-section.field-0.0 = rw (← c.deref.ensures.value, ← c.section_at.ensures) (sym c.in_err-section.ensures) in
    rw (p.1, p.2) (sym (c.loop-i.invariant.1) ∙ sections_of-stop _ _ _ _ _ _ _ (omega arith) fails)

pub loop-i-preserved : goal.loop-i-preserved
loop-i-preserved c =
    let h = c.loop-i.invariant in
    let passes : check_section c.args.size c.args.header_size c.loop-i.sections.items (c.args.place + 40 * c.loop-i.i) (section_at c.loop-i.rest.now) ≡ Ok c.in_ok-section.section = rw (← c.deref.ensures.value, ← c.section_at.ensures) (sym c.in_ok-section.ensures) in
    let step = sections_of-next c.args.size c.args.header_size c.args.count c.args.place c.loop-i.i c.loop-i.sections.items c.loop-i.rest.now c.in_ok-section.section (omega arith) passes in
    let l : length c.after_header-rest.result.now ≡ length c.loop-i.rest.now - 40 = ap length c.after_header-rest.ensures ∙ length-drop 40 c.loop-i.rest.now in
    (omega (arith, h.0), rw (c.in_ok-push.ensures.items, c.after_header-rest.ensures) (sym step ∙ h.1))

pub returns : goal.returns
returns c =
    let h = c.loop-i.invariant in
    sym (h.1) ∙ sections_of-end _ _ _ _ _ _ (omega arith)
