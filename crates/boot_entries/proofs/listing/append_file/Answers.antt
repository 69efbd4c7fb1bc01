-- Two lines, one behind the other.
use Rattle.std.proofs.Common.{◌≡◌, ◌∷◌, ◌++◌, ap, ◌∙◌, codes}
use Rattle.std.proofs.lemmas.Result.{IfOk-weaker}
use Rattle.menu_order.specs.Ids.{entry_id}
use Rattle.boot_entries.specs.Listing.{line, file_lines}
use Rattle.boot_entries.proofs.Appending.{appended_twice}
use Rattle.boot_entries.proofs.listing.append_file.Goals as goal

pub returns : goal.returns
unfolding file_lines
returns c =
    let item = c.args.item.now in
    let old = c.args.out.now.items in
    let mid = c.append_line.new.out.items in
    IfOk-weaker c.append_parts.result _ (λ _. c.append_parts.new.out.items ≡ old ++ file_lines item)
    (λ _ last. appended_twice old mid c.append_parts.new.out.items
    (line (codes "          id: ") (entry_id item)) (line (codes "      source: ") (47 ∷ item.path))
    (c.in_ok-append_line.ensures ∙ ap (λ v. old ++ line (codes "          id: ") v) (c.as_slice.ensures ∙ c.in_ok-id.ensures))
    (last ∙ ap (λ v. mid ++ line (codes "      source: ") (47 ∷ v)) (c.as_bytes.ensures.value ∙ c.as_str.ensures.text)))
    c.append_parts.ensures
