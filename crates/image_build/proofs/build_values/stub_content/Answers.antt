use Rattle.std.proofs.Common.{sym, subst, ◌∙◌, Option}
use Rattle.stub_replay.specs.declared.measurable.Content.{Content}
use Rattle.pe_reader.specs.Prelude.{loaded_bytes, headers_of}
use Rattle.image_build.specs.Planning.{IsContent}
use Rattle.image_build.proofs.Values.{stub_none, stub_some}
use Rattle.image_build.proofs.build_values.stub_content.Goals as goal

pub returns-in_err-index-clause-holds : goal.returns-in_err-index-clause-holds
returns-in_err-index-clause-holds c files reads =
    subst (λ (o : Option Content). IsContent files o (loaded_bytes (files c.args.stub.now) c.args.name.now)) (sym c.from_residual.ensures)
    (stub_none files c.args.stub.now c.args.name.now (headers_of c.args.head.now) reads (sym c.find.ensures.at ∙ c.in_err-index.was))

pub returns-clause-holds : goal.returns-clause-holds
returns-clause-holds c files reads =
    stub_some files c.args.stub c.args.name.now (headers_of c.args.head.now) c.in_ok-index.index c.loaded_range-range.result reads
    (sym c.find.ensures.at ∙ c.in_ok-index.was) c.in_ok-index.ensures.inside c.loaded_range-range.ensures.exact
