use Rattle.std.proofs.Common.{◌≡◌, ◌+◌, ◌-◌, Some, sym, ap, ◌∙◌, take, drop, length, length-drop, arith, take_all, option_map}
use Rattle.boot_base.proofs.intent.cut_at_nul.Goals as goal

pub returns-in-Some : goal.returns-in-Some
returns-in-Some c =
    let bytes = c.args.bytes.now in
    let behind : length (drop (c.in-Some.at + 1) bytes) ≡ length bytes - (c.in-Some.at + 1) = length-drop (c.in-Some.at + 1) bytes in
    ap (λ l. Some (take c.in-Some.at bytes, l)) (take_all (length bytes - (c.in-Some.at + 1)) (drop (c.in-Some.at + 1) bytes) (omega (arith, behind)))
    ∙ ap (option_map (λ at. (take at bytes, drop (at + 1) bytes))) c.in-Some.ensures

pub returns-in-None : goal.returns-in-None
returns-in-None c = ap (option_map (λ at. (take at c.args.bytes.now, drop (at + 1) c.args.bytes.now))) (sym c.in-None.is ∙ c.nul_place.ensures)
