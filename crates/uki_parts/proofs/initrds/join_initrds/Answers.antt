use Rattle.std.proofs.Common.{◌≡◌, ◌≤◌, ◌+◌, ◌*◌, length, subst, ap, map, sym, ◌∙◌, rules, flat_map}
use Rattle.uki_parts.specs.Pieces.{piece_length, total_length}
use Rattle.uki_parts.specs.Initrds.{padded_piece, joined_length}
use Rattle.uki_parts.proofs.Padded.{joined_initrds-several, joined_initrds-one, total_length-joined, joined-bound}
use Rattle.uki_parts.proofs.Cases.{if_ok}
use Rattle.uki_parts.proofs.initrds.join_initrds.Goals as goal

pub returns-then-len-le1-clause-length : goal.returns-then-len-le1-clause-length
returns-then-len-le1-clause-length c =
    ap total_length (sym (joined_initrds-one c.args.files.items (search rules))) ∙ total_length-joined c.args.files.items

pub returns-clause-length : goal.returns-clause-length
returns-clause-length c =
    if_ok (λ joined. joined.items ≡ flat_map padded_piece c.args.files.items)
    (λ joined. total_length joined.items ≡ joined_length (map piece_length c.args.files.items))
    (λ joined is. ap total_length (is ∙ sym (joined_initrds-several c.args.files.items (search rules))) ∙ total_length-joined c.args.files.items)
    _ c.join_padded.ensures

pub returns-clause-bound : goal.returns-clause-bound
returns-clause-bound c =
    if_ok (λ joined. joined.items ≡ flat_map padded_piece c.args.files.items)
    (λ joined. total_length joined.items ≤ total_length c.args.files.items + 3 * length c.args.files.items)
    (λ joined is. subst (λ pieces. total_length pieces ≤ total_length c.args.files.items + 3 * length c.args.files.items)
    (sym (is ∙ sym (joined_initrds-several c.args.files.items (search rules)))) (joined-bound c.args.files.items))
    _ c.join_padded.ensures
