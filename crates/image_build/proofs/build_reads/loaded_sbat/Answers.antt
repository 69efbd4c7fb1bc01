use Rattle.std.proofs.Common.{Global, List, Ok, Vec, ap, sym, ◌∙◌, ℕ, rules, IsTrue}
use Rattle.boot_machine.proofs.Reading.{looks_none}
use Rattle.boot_machine.specs.Prelude.{contents, seen}
use Rattle.pe_builder.specs.Replaced.{sbat_name}
use Rattle.pe_reader.proofs.Finding.{loaded_bytes-none}
use Rattle.pe_reader.specs.Prelude.{loaded_bytes, headers_of, part}
use Rattle.stub_replay.proofs.Ranges.{found_range}
use Rattle.uki_parts.specs.Sbat.{sbat_entries}
use Rattle.image_build.proofs.Cut.{entries_kept, says_made}
use Rattle.stub_replay.proofs.Sections.{section_long}
use Rattle.image_build.proofs.build_reads.loaded_sbat.Goals as goal

pub returns-in-None-clause-says : goal.returns-in-None-clause-says
returns-in-None-clause-says g c told =
    ap (λ (l : List ℕ). Ok (sbat_entries l))
    (loaded_bytes-none (contents (seen (g.M.Machine.state c.args.machine.now)) c.args.path.now) sbat_name (headers_of c.args.head.now)
    (c.requires told) (sym c.find.ensures.at ∙ c.in-None.is) ∙ sym c.new.ensures.items)

pub returns-in-None-clause-looks : goal.returns-in-None-clause-looks
returns-in-None-clause-looks g c = looks_none (g.met.M.Machine.only_now c.args.machine.now) (search rules)

pub returns-in-Some-clause-says : goal.returns-in-Some-clause-says
returns-in-Some-clause-says g c told =
    let file = contents (seen (g.M.Machine.state c.args.machine.now)) c.args.path.now in
    let range =
    found_range file sbat_name (headers_of c.args.head.now) c.in-Some.index c.loaded_range.result (c.requires told)
    (sym c.find.ensures.at ∙ c.in-Some.is) c.in-Some.ensures.inside c.loaded_range.ensures.exact in
    let raw = part file c.loaded_range.result.place c.loaded_range.result.length in
    says_made (λ (content : Vec ℕ Global). content.items) sbat_entries c.raw_bytes.result raw (sbat_entries (loaded_bytes file sbat_name))
    (entries_kept raw (loaded_bytes file sbat_name) c.loaded_range.result.zeros range.bytes) (c.raw_bytes.ensures.says told range.inside)

pub returns-in-Some-clause-taken : goal.returns-in-Some-clause-taken
returns-in-Some-clause-taken g c =
    section_long (IsTrue g.M.Machine.tells) (contents (seen (g.M.Machine.state c.args.machine.now)) c.args.path.now) sbat_name (headers_of c.args.head.now) c.in-Some.index c.loaded_range.result _ _
    c.requires (sym c.find.ensures.at ∙ c.in-Some.is) c.in-Some.ensures.inside c.loaded_range.ensures.exact c.raw_bytes.ensures.taken
