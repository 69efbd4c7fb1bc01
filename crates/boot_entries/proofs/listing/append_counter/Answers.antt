-- Two lines, one behind the other.
use Rattle.std.proofs.Common.{◌≡◌, ◌++◌, ap, ◌∙◌, codes}
use Rattle.std.proofs.lemmas.Result.{IfOk-weaker}
use Rattle.boot_entries.specs.Listing.{line, tries_line, status_text, counter_lines}
use Rattle.boot_entries.proofs.Appending.{appended_twice}
use Rattle.boot_entries.proofs.listing.append_counter.Goals as goal

pub returns : goal.returns
unfolding counter_lines
returns c =
    let old = c.args.out.now.items in
    let mid = c.append_tries.new.out.items in
    IfOk-weaker c.append_line.result _ (λ _. c.append_line.new.out.items ≡ old ++ counter_lines c.args.counter)
    (λ _ last. appended_twice old mid c.append_line.new.out.items (tries_line c.args.counter) (line (codes "      status: ") (status_text c.args.counter))
    c.in_ok-append_tries.ensures
    (last ∙ ap (λ v. mid ++ line (codes "      status: ") v) (c.as_bytes.ensures.value ∙ c.status_text.ensures)))
    c.append_line.ensures
