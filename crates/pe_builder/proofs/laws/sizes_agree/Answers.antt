use Rattle.std.proofs.Common.{◌+◌, ℕ, sym, ap, ◌∙◌}
use Rattle.std.specs.Int.{next_multiple_of}
use Rattle.pe_builder.proofs.Appending.{end_after-append}
use Rattle.pe_builder.proofs.Totals.{end_after-sections_for, sum-sections_for}
use Rattle.pe_builder.specs.Layout.{end_after, new_sections}
use Rattle.pe_builder.proofs.laws.sizes_agree.Goals as goal

pub returns : goal.returns
returns c h stub_length parts =
    let start = end_after h.head.header_size h.sections in (
      ap (λ (end : ℕ). next_multiple_of end h.head.section_alignment)
          (sym (end_after-append h.head.header_size h.sections (new_sections h stub_length parts) ∙ end_after-sections_for h.head stub_length start parts)),
      ap (λ (sum : ℕ). h.head.initialized_size + sum) (sym (sum-sections_for h.head stub_length start parts)),
    )
