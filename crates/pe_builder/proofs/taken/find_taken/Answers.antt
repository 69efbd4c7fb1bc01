use Rattle.std.proofs.Common.{sym, ◌∙◌, rules}
use Rattle.pe_builder.proofs.Taking.{no_names, not_taken, one_name_more, taken_here, taken_in_section, taken_in_set, taken_later, taken_nowhere}
use Rattle.pe_builder.proofs.taken.find_taken.Goals as goal
use Rattle.pe_builder.proofs.taken.find_taken.Goals.{then-not-is_new-via-then-not-is_new, then-not-is_new-via-else-not-is_new+then-is_section}

pub loop-part-init : goal.loop-part-init
loop-part-init c = record { search = search rules; names = no_names _ c.new-names.ensures.empty }

pub loop-part-preserved : goal.loop-part-preserved
loop-part-preserved c =
    let at = c.loop-part.part-index in
    let names = c.loop-part.invariant.names in
    record {
      search =
          taken_later c.args.sections.now c.args.parts.now at _ c.loop-part-test.true
          (not_taken c.args.sections.now c.args.parts.now at _ c.loop-part.names c.bytes-name.result c.in_ok-is_new.is_new c.is_section.result c.bytes-name.ensures names c.in_ok-is_new.ensures.added c.is_section.ensures c.if-not-is_new.false c.if-is_section.false)
          ∙ c.loop-part.invariant.search;
      names = one_name_more c.loop-part.names c.insert.new.self c.args.parts.now at _ c.bytes-name.result c.loop-part-test.true c.bytes-name.ensures names c.in_ok-is_new.ensures.updates.0;
    }

pub returns-then-not-is_new : goal.returns-then-not-is_new
returns-then-not-is_new c =
    let at = c.loop-part.part-index in
    let names = c.loop-part.invariant.names in
    sym (taken_here c.args.sections.now c.args.parts.now at _ c.loop-part-test.true
    (elim c.then-not-is_new.branch [
      | then-not-is_new-via-then-not-is_new w ↦
          taken_in_set c.args.sections.now c.args.parts.now at _ c.loop-part.names c.bytes-name.result c.in_ok-is_new.is_new c.bytes-name.ensures names c.in_ok-is_new.ensures.added w.if-not-is_new.true
      | then-not-is_new-via-else-not-is_new+then-is_section w ↦
          taken_in_section c.args.sections.now c.args.parts.now at _ c.loop-part.names c.bytes-name.result w.is_section.result c.bytes-name.ensures names w.is_section.ensures w.if-is_section.true
    ]))
    ∙ c.loop-part.invariant.search

pub returns : goal.returns
returns c = sym (taken_nowhere c.args.sections.now c.args.parts.now c.loop-part.part-index c.loop-part-test.false) ∙ c.loop-part.invariant.search
