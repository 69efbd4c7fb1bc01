use Rattle.std.proofs.Common.{◌++◌, ◌∙◌, ap, codes}
use Rattle.boot_commands.specs.DemoImages.{headers, with_zeros}
use Rattle.boot_commands.proofs.demo_images.demo_image.Goals as goal

pub returns : goal.returns
returns c =
    c.in_ok-append_zeros.ensures
    ∙ ap (λ b. with_zeros b 2048) (c.in_ok-put-2.ensures
    ∙ ap (λ b. with_zeros b 1536 ++ codes "abc") (c.in_ok-put.ensures
    ∙ ap (λ b. with_zeros b 1024 ++ c.as_bytes.result.now) c.in_ok-image.ensures
    ∙ ap (λ t. with_zeros headers 1024 ++ t) (c.as_bytes.ensures.value ∙ c.in_ok-osrel.ensures)))
