use Rattle.std.proofs.Common.{◌∙◌, sym}
use Rattle.pe_reader.specs.Prelude.{headers_of}
use Rattle.image_commands.proofs.Heads.{none_loaded, some_loaded}
use Rattle.image_commands.proofs.identify.has_loaded.Goals as goal

pub returns-in-None : goal.returns-in-None
returns-in-None c bytes reads = none_loaded bytes c.args.name.now (headers_of c.args.head.now) reads (sym c.find.ensures.at ∙ c.in-None.is)

pub returns-in-Some : goal.returns-in-Some
returns-in-Some c bytes reads =
    some_loaded bytes c.args.name.now (headers_of c.args.head.now) c.in-Some.index c.loaded_range-range.result reads
    (sym c.find.ensures.at ∙ c.in-Some.is) c.in-Some.ensures.inside c.loaded_range-range.ensures.exact
