use Rattle.std.proofs.Common.{◌++◌, ℕ, List, ap, ◌∙◌, replicate, flat_map}
use Rattle.uki_parts.specs.declared.piece.Piece.{Piece}
use Rattle.image_writer.specs.Chunks.{given_bytes}
use Rattle.install_steps.proofs.Appending.{appends_on, appends-there}
use Rattle.install_steps.specs.proofs.AppendLaws.{grown_on, grown_as, ok_then}
use Rattle.image_writer.proofs.part.write_part.Goals as goal

pub write_zeros-requires : goal.write_zeros-requires
write_zeros-requires g c = record {
  there = appends-there c.write_pieces.ensures.appends c.requires.there;
}

pub returns-clause-appends : goal.returns-clause-appends
returns-clause-appends g c = appends_on c.in_ok-write_pieces.ensures.appends c.write_zeros.ensures.appends

pub returns-clause-grows : goal.returns-clause-grows
returns-clause-grows g c = ok_then c.write_zeros.result c.write_zeros.ensures.grows (λ zeros told unit files agrees.
    grown_as _ _ _ _ _
    (ap (λ (ps : List Piece). flat_map (given_bytes files) ps ++ replicate c.gap.result 0) c.deref.ensures.value
    ∙ ap (λ (n : ℕ). flat_map (given_bytes files) c.args.part.now.pieces.items ++ replicate n 0) (c.gap.ensures unit))
    (grown_on _ _ _ _ _ _ (c.in_ok-write_pieces.ensures.grows told files agrees) (zeros told)))
