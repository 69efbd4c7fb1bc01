-- Two files with the same bytes, piece by piece, and a copy over a file that has these bytes already.
use Rattle.std.proofs.Common.{◌≡◌, ◌+◌, ℕ, List, ◌++◌, Some, drop, inl, inr, sym, ap, ◌∙◌}
use Rattle.std.specs.FinMap as map
use Rattle.std.specs.Cmp.Lexicographic.{nat_list_cmp_total}
use Rattle.boot_base.specs.Paths.{Path}
use Rattle.boot_machine.specs.Prelude.{Files, fill_with_zeros}
use Rattle.boot_machine.specs.proofs.Maps.{cases_same, get-insert_apart, get-insert_here}
use Rattle.boot_machine.proofs.Ranges.{fill_with_zeros-add}

-- the first bytes are the same, and those behind them
pub alike_more : (first second : List ℕ) (done count : ℕ) → fill_with_zeros first done ≡ fill_with_zeros second done
    → fill_with_zeros (drop done first) count ≡ fill_with_zeros (drop done second) count
    → fill_with_zeros first (done + count) ≡ fill_with_zeros second (done + count)
alike_more first second done count before next =
    fill_with_zeros-add first done count
    ∙ ap (λ (l : List ℕ). l ++ fill_with_zeros (drop done first) count) before
    ∙ ap (λ (l : List ℕ). fill_with_zeros second done ++ l) next
    ∙ sym (fill_with_zeros-add second done count)

-- ---- a copy over a file that has these bytes

-- what is there already changes nothing
pub insert_same : (view : Files) (path : Path) (bytes : List ℕ) → map.get view path ≡ Some bytes → map.insert view path bytes ≡ view
insert_same view path bytes there =
    map.same_map nat_list_cmp_total (map.slice_cmp-IsAntisymmetric map.nat_cmp-IsAntisymmetric) (map.insert view path bytes) view
    (λ q. elim (cases_same q path) [
      | inl one ↦ ap (map.get (map.insert view path bytes)) one ∙ get-insert_here view path bytes ∙ sym there ∙ ap (map.get view) (sym one)
      | inr two ↦ get-insert_apart view path bytes q two
    ])
