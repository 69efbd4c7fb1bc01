use Rattle.std.proofs.Common.{◌≡◌, map, take, fold}
use Rattle.pe_builder.specs.Image.{add_raw}
use Rattle.pe_builder.proofs.image.push_contents.Given as goal

abbrev pub invariant-loop-content : goal.invariant-loop-content
invariant-loop-content l = l.out.items ≡ fold (add_raw l.unit) l.fn.out.items (map (λ c. c.items) (take l.content-index l.contents))
