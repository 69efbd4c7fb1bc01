-- The range of the section that was found, or nowhere.
use Rattle.std.proofs.Common.{◌∙◌, sym}
use Rattle.pe_reader.specs.Prelude.{headers_of}
use Rattle.boot_entries.proofs.Ranges.{found_range, no_range}
use Rattle.boot_entries.proofs.uki.range_named.Goals as goal

pub returns-in-Some-clause-range : goal.returns-in-Some-clause-range
returns-in-Some-clause-range c file reads =
    found_range file c.args.name.now (headers_of c.args.head.now) c.in-Some.index c.loaded_range.result reads (sym c.find.ensures.at ∙ c.in-Some.is) c.in-Some.ensures.inside c.loaded_range.ensures.exact

pub returns-in-None-clause-range : goal.returns-in-None-clause-range
returns-in-None-clause-range c file reads = no_range file c.args.name.now (headers_of c.args.head.now) reads (sym c.find.ensures.at ∙ c.in-None.is)
