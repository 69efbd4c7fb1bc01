use Rattle.std.proofs.Common.{◌∙◌, sym, string_bytes}
use Rattle.std.proofs.Output.{has_written_append, has_written_of_eq}
use Rattle.pcr_values.proofs.PhaseWords.{path_text-written}
use Rattle.pcr_values.proofs.phase_path.PhasePathDisplay.fmt.Goals as goal

pub returns-clause-writes : goal.returns-clause-writes
returns-clause-writes g c plain ok =
    let first = c.in_ok-write_str.ensures.writes plain ok in
    let split = sym c.deref.ensures.value ∙ c.in-Some.ensures.cases.0 in
    let text = path_text-written string_bytes c.args.self.now c.self.inside.words.items c.in-Some.first.now c.in-Some.rest.now c.loop-word.word-index c.as_str.result.now c.self.view_is split c.loop-word-test.false c.as_str.ensures.value in
    has_written_of_eq _ _ _ _ _ text (has_written_append _ _ _ _ _ _ first (c.loop-word.invariant first.plain))
