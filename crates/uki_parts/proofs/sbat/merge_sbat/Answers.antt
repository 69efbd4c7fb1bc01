use Rattle.std.proofs.Common.{◌≡◌, ap, ◌∙◌, rules}
use Rattle.uki_parts.specs.Sbat.{with_first_line, merged_sbat}
use Rattle.uki_parts.proofs.Entries.{all_lines, merged_none, merged_some}
use Rattle.uki_parts.proofs.Cases.{if_ok}
use Rattle.uki_parts.proofs.sbat.merge_sbat.Goals as goal

pub returns-then-is_empty : goal.returns-then-is_empty
returns-then-is_empty c =
    let lines = all_lines c.args.stub.now c.args.kernel.now c.args.given.now _ _ _ _ c.new-entries.ensures.items
    c.in_ok-append_entries.ensures c.in_ok-append_entries-2.ensures c.in_ok-append_entries-3.ensures in
    merged_none c.args.stub.now c.args.kernel.now c.args.given.now _ lines (search rules)

pub returns : goal.returns
returns c =
    let lines = all_lines c.args.stub.now c.args.kernel.now c.args.given.now _ _ _ _ c.new-entries.ensures.items
    c.in_ok-append_entries.ensures c.in_ok-append_entries-2.ensures c.in_ok-append_entries-3.ensures in
    if_ok (λ text. text.items ≡ with_first_line c.deref.result.now) (λ text. text.items ≡ merged_sbat c.args.stub.now c.args.kernel.now c.args.given.now)
    (λ text is. merged_some c.args.stub.now c.args.kernel.now c.args.given.now _ text.items lines (search rules) (is ∙ ap with_first_line c.deref.ensures.value))
    _ c.with_first_line.ensures
