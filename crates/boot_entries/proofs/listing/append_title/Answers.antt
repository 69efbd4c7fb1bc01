-- Two lines, one behind the other.
use Rattle.std.proofs.Common.{◌≡◌, ◌++◌, ap, ◌∙◌, codes}
use Rattle.std.proofs.lemmas.Result.{IfOk-weaker}
use Rattle.boot_entries.specs.Listing.{line, some_line, type_text, title_or_base, title_lines}
use Rattle.boot_entries.proofs.Appending.{appended_twice}
use Rattle.boot_entries.proofs.listing.append_title.Goals as goal

pub returns : goal.returns
unfolding title_lines
returns c =
    let item = c.args.item.now in
    IfOk-weaker c.append_some.result _ (λ _. c.append_some.new.out.items ≡ c.args.out.now.items ++ title_lines item)
    (λ _ last. appended_twice c.args.out.now.items c.append_line.new.out.items c.append_some.new.out.items
    (line (codes "        type: ") (type_text item.suffix)) (some_line (codes "       title: ") (title_or_base item.suffix item.base item.title))
    (c.in_ok-append_line.ensures ∙ ap (λ v. c.args.out.now.items ++ line (codes "        type: ") v) (c.as_bytes.ensures.value ∙ c.type_text.ensures))
    (last ∙ ap (λ v. c.append_line.new.out.items ++ some_line (codes "       title: ") v) c.title.ensures))
    c.append_some.ensures
