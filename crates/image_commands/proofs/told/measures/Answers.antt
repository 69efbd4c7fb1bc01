use Rattle.std.proofs.Common.{ℕ, List, ◌++◌, ap, ◌∙◌, codes, decimal}
use Rattle.std.specs.declared.vec.Vec.{Vec}
use Rattle.std.specs.declared.alloc.Global.{Global}
use Rattle.hex.specs.Hex.{encode_lower}
use Rattle.image_commands.specs.Told.{measures}
use Rattle.image_commands.proofs.told.measures.Goals as goal

pub returns : goal.returns
unfolding measures
returns c =
    ap (λ (bytes : Vec ℕ Global). bytes.items) c.into_bytes.ensures.value ∙ c.in_ok-lines.ensures.ok
    ∙ ap (λ (hex : List ℕ). codes ":\n  size: " ++ (decimal c.args.size ++ (codes " bytes\n  sha256: " ++ (hex ++ codes "\n")))) (c.in_ok-digest.ensures ∙ ap encode_lower c.bytes.ensures.value)
