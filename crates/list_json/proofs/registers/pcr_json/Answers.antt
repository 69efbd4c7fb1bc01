use Rattle.std.proofs.Common.{◌≡◌, ◌∙◌, map, ap, subst, arith, IfOk, take_all}
use Rattle.std.proofs.lemmas.Result.{IfOk-weaker}
use Rattle.serde_json.specs.Data.{object, no_members}
use Rattle.serde_json.proofs.Views.{view-Object}
use Rattle.list_json.specs.Lines.{ReadsAs, json_line}
use Rattle.list_json.specs.Objects.{put_all}
use Rattle.list_json.specs.Registers.{register_member, registers_data}
use Rattle.list_json.proofs.Answers.{plain_starts}
use Rattle.list_json.proofs.ByBank.{members_of-items}
use Rattle.list_json.proofs.Known.{shallow_of, whole_of}
use Rattle.list_json.proofs.registers.pcr_json.Goals as goal

pub json_line-requires-clause-whole : goal.json_line-requires-clause-whole
json_line-requires-clause-whole c =
    let made = view-Object c.loop-start.members ∙ ap object (c.loop-start.invariant ∙ ap (λ starts. put_all no_members (map (register_member c.args.paths.now) starts)) (take_all c.loop-start.start-index c.args.starts.now c.loop-start-test.false)) in
    whole_of 3 _ (registers_data c.args.starts.now c.args.paths.now) made (plain_starts c.args.paths.now c.args.starts.now)

pub json_line-requires-clause-shallow : goal.json_line-requires-clause-shallow
json_line-requires-clause-shallow c =
    let made = view-Object c.loop-start.members ∙ ap object (c.loop-start.invariant ∙ ap (λ starts. put_all no_members (map (register_member c.args.paths.now) starts)) (take_all c.loop-start.start-index c.args.starts.now c.loop-start-test.false)) in
    shallow_of 3 _ (registers_data c.args.starts.now c.args.paths.now) made (plain_starts c.args.paths.now c.args.starts.now) (omega arith)

pub returns-clause-line : goal.returns-clause-line
returns-clause-line c =
    let made = view-Object c.loop-start.members ∙ ap object (c.loop-start.invariant ∙ ap (λ starts. put_all no_members (map (register_member c.args.paths.now) starts)) (take_all c.loop-start.start-index c.args.starts.now c.loop-start-test.false)) in
    subst (λ value. IfOk c.json_line.result (λ line. line.items ≡ json_line value)) made c.json_line.ensures.line

pub returns-clause-reads : goal.returns-clause-reads
returns-clause-reads c =
    let made = view-Object c.loop-start.members ∙ ap object (c.loop-start.invariant ∙ ap (λ starts. put_all no_members (map (register_member c.args.paths.now) starts)) (take_all c.loop-start.start-index c.args.starts.now c.loop-start-test.false)) in
    subst (λ value. IfOk c.json_line.result (λ line. ReadsAs line.items value)) made c.json_line.ensures.reads

pub returns-clause-folds : goal.returns-clause-folds
returns-clause-folds c =
    let made = view-Object c.loop-start.members ∙ ap object (c.loop-start.invariant ∙ ap (λ starts. put_all no_members (map (register_member c.args.paths.now) starts)) (take_all c.loop-start.start-index c.args.starts.now c.loop-start-test.false)) in
    IfOk-weaker c.json_line.result _ _ (λ line is items banks are. is ∙ ap json_line (made ∙ members_of-items c.args.starts.now items banks are c.args.paths.now)) c.json_line.ensures.line
