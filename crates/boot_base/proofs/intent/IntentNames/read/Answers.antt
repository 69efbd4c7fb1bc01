use Rattle.std.proofs.Common.{sym, ◌∙◌, rules, arith}
use Rattle.boot_base.specs.Paths.{is_nameable}
use Rattle.boot_base.proofs.IntentForm.{unread-first, unread-second, unread-parts, read-parts, unfit-rest, unfit-same, unfit-first, unfit-second, fit}
use Rattle.boot_base.proofs.Normal.{path-some, path-none}
use Rattle.boot_base.proofs.intent.IntentNames.read.Goals as goal

pub returns-in_default : goal.returns-in_default
returns-in_default c = unread-first c.args.bytes.now (sym c.in_default.ensures)

pub returns-in_default-cut_at_nul : goal.returns-in_default-cut_at_nul
returns-in_default-cut_at_nul c = unread-second c.args.bytes.now (c.in-Some.first.now, c.in-Some.behind.now) (sym c.in-Some.ensures) (sym c.in_default-cut_at_nul.ensures)

pub returns-then-not-is_empty : goal.returns-then-not-is_empty
returns-then-not-is_empty c =
    unread-parts c.args.bytes.now (c.in-Some.first.now, c.in-Some.behind.now) (c.in-Some-cut_at_nul.second.now, c.in-Some-cut_at_nul.rest.now) (sym c.in-Some.ensures) (sym c.in-Some-cut_at_nul.ensures)
    (unfit-rest c.in-Some-cut_at_nul.rest.now c.in-Some.first.now c.in-Some-cut_at_nul.second.now (search (rules, arith)))

pub returns-then-eq : goal.returns-then-eq
returns-then-eq c =
    unread-parts c.args.bytes.now (c.in-Some.first.now, c.in-Some.behind.now) (c.in-Some-cut_at_nul.second.now, c.in-Some-cut_at_nul.rest.now) (sym c.in-Some.ensures) (sym c.in-Some-cut_at_nul.ensures)
    (unfit-same c.in-Some-cut_at_nul.rest.now c.in-Some.first.now c.in-Some-cut_at_nul.second.now (sym c.eq.ensures ∙ c.if-eq.true))

pub returns-in_default-2 : goal.returns-in_default-2
returns-in_default-2 c =
    unread-parts c.args.bytes.now (c.in-Some.first.now, c.in-Some.behind.now) (c.in-Some-cut_at_nul.second.now, c.in-Some-cut_at_nul.rest.now) (sym c.in-Some.ensures) (sym c.in-Some-cut_at_nul.ensures)
    (unfit-first c.in-Some-cut_at_nul.rest.now c.in-Some.first.now c.in-Some-cut_at_nul.second.now (path-none (is_nameable c.in-Some.first.now) c.in-Some.first.now (sym c.in_ok-from.ensures ∙ c.in_default-2.is)))

pub returns-in_default-3 : goal.returns-in_default-3
returns-in_default-3 c =
    unread-parts c.args.bytes.now (c.in-Some.first.now, c.in-Some.behind.now) (c.in-Some-cut_at_nul.second.now, c.in-Some-cut_at_nul.rest.now) (sym c.in-Some.ensures) (sym c.in-Some-cut_at_nul.ensures)
    (unfit-second c.in-Some-cut_at_nul.rest.now c.in-Some.first.now c.in-Some-cut_at_nul.second.now (path-none (is_nameable c.in-Some-cut_at_nul.second.now) c.in-Some-cut_at_nul.second.now (sym c.in_ok-to.ensures ∙ c.in_default-3.is)))

pub returns : goal.returns
returns c =
    let first = path-some (is_nameable c.in-Some.first.now) c.in-Some.first.now c.in-Some-2.from (sym c.in_ok-from.ensures ∙ c.in-Some-2.is) in
    let second = path-some (is_nameable c.in-Some-cut_at_nul.second.now) c.in-Some-cut_at_nul.second.now c.in-Some-3.to (sym c.in_ok-to.ensures ∙ c.in-Some-3.is) in
    read-parts c.args.bytes.now (c.in-Some.first.now, c.in-Some.behind.now) (c.in-Some-cut_at_nul.second.now, c.in-Some-cut_at_nul.rest.now) c.in-Some-2.from c.in-Some-3.to (sym c.in-Some.ensures) (sym c.in-Some-cut_at_nul.ensures)
    (fit c.in-Some-cut_at_nul.rest.now c.in-Some.first.now c.in-Some-cut_at_nul.second.now (search (rules, arith)) first.0 second.0 (sym c.eq.ensures ∙ c.if-eq.false)) (sym first.1) (sym second.1)
