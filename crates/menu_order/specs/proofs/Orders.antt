-- The orders of versions and of boot entries are total.
use Rattle.std.specs.Prelude.{⊤, refl, is_none, is_some, List, [], ◌∷◌}
use Rattle.std.specs.Cmp.{IsTotalOrder, bool_cmp_total}
use Rattle.std.specs.Cmp.Lexicographic.{options_total}
use Rattle.std.proofs.lemmas.Cmp.{nat_cmp_total, nat_list_cmp_total, on_total, then_total, back_total, lists_total}
use Rattle.menu_order.specs.VersionTokens.{tokens_of}
use Rattle.menu_order.specs.VersionOrder.{rank_of, letters_of, token_number, token_cmp, to_end, tokens_cmp, version_cmp}
use Rattle.menu_order.specs.Parts.{parts_of, is_bad, left_of, done_of}
use Rattle.menu_order.specs.Rules.{Rule, menu_rules, by_rules, parts_cmp, menu_cmp}

pub token_cmp_total : IsTotalOrder token_cmp
token_cmp_total =
    then_total (on_total rank_of nat_cmp_total)
    (then_total (on_total letters_of nat_list_cmp_total) (on_total token_number nat_cmp_total))

pub tokens_cmp_total : IsTotalOrder tokens_cmp
tokens_cmp_total = on_total to_end (lists_total token_cmp_total)

pub version_cmp_total : IsTotalOrder version_cmp
version_cmp_total = on_total tokens_of tokens_cmp_total

-- each rule is an order
abbrev AllOrders : List Rule → Type 0
AllOrders [] = ⊤
AllOrders (rule ∷ later) = IsTotalOrder rule × (AllOrders later)

by_rules_total : (some : List Rule) → AllOrders some → IsTotalOrder (by_rules some)
by_rules_total [] orders = record { antisymm = λ p q. refl; trans = λ p q r h k. h; congr = λ p q r h. refl }
by_rules_total (rule ∷ later) orders = then_total orders.0 (by_rules_total later orders.1)

rules_are_orders : AllOrders menu_rules
rules_are_orders = (
  on_total is_bad bool_cmp_total,
  (
    on_total (λ parts. is_none parts.sort_key) bool_cmp_total,
    (
      on_total (λ parts. parts.sort_key) (options_total nat_list_cmp_total),
      (
        on_total (λ parts. parts.machine_id) (options_total nat_list_cmp_total),
        (
          back_total (on_total (λ parts. parts.version) (options_total tokens_cmp_total)),
          (
            back_total (on_total (λ parts. parts.base) tokens_cmp_total),
            (
              on_total (λ parts. is_some parts.counter) bool_cmp_total,
              (
                back_total (on_total left_of nat_cmp_total),
                (
                  on_total done_of nat_cmp_total,
                  (
                    on_total (λ parts. parts.path) nat_list_cmp_total,
                    tt,
                  ),
                ),
              ),
            ),
          ),
        ),
      ),
    ),
  ),
)

pub parts_cmp_total : IsTotalOrder parts_cmp
unfolding parts_cmp
parts_cmp_total = by_rules_total menu_rules rules_are_orders

pub menu_cmp_total : IsTotalOrder menu_cmp
menu_cmp_total = on_total parts_of parts_cmp_total
