use Rattle.std.proofs.Common.{ℕ, List, ap, ◌∙◌}
use Rattle.boot_machine.specs.Prelude.{contents}
use Rattle.image_writer.specs.Chunks.{chunks_bytes, headers_bytes}
use Rattle.image_writer.specs.Sourced.{new_sbat, stub_path}
use Rattle.install_steps.proofs.Appending.{appends_on, appends_failed, appends-there, appends-source}
use Rattle.install_steps.specs.proofs.AppendLaws.{grown_on, grown_as, ok_then}
use Rattle.image_writer.proofs.Filled.{four}
use Rattle.image_writer.proofs.image.write_stub.Goals as goal

pub write_chunks-requires-2 : goal.write_chunks-requires-2
write_chunks-requires-2 g c = record {
  there = appends-there c.write_chunks.ensures.appends c.requires.there;
}

pub returns-in_err-write_chunks-2-clause-appends : goal.returns-in_err-write_chunks-2-clause-appends
returns-in_err-write_chunks-2-clause-appends g c = appends_failed c.from_residual-in_err-write_chunks-2.result c.from_residual-in_err-write_chunks-2.ensures.0 c.in_ok-write_chunks.ensures.appends c.in_err-write_chunks-2.ensures.appends

pub write_headers-requires : goal.write_headers-requires
write_headers-requires g c = record {
  there = appends-there (appends_on c.in_ok-write_chunks.ensures.appends c.write_chunks-2.ensures.appends) c.requires.there;
}

pub returns-in_err-write_headers-clause-appends : goal.returns-in_err-write_headers-clause-appends
returns-in_err-write_headers-clause-appends g c = appends_failed c.from_residual-in_err-write_headers.result c.from_residual-in_err-write_headers.ensures.0 (appends_on c.in_ok-write_chunks.ensures.appends c.in_ok-write_chunks-2.ensures.appends) c.in_err-write_headers.ensures.appends

pub write_chunks-requires-3 : goal.write_chunks-requires-3
write_chunks-requires-3 g c = record {
  there = appends-there (appends_on (appends_on c.in_ok-write_chunks.ensures.appends c.in_ok-write_chunks-2.ensures.appends) c.write_headers.ensures.appends) c.requires.there;
}

pub returns-clause-appends : goal.returns-clause-appends
returns-clause-appends g c = appends_on (appends_on (appends_on c.in_ok-write_chunks.ensures.appends c.in_ok-write_chunks-2.ensures.appends) c.in_ok-write_headers.ensures.appends) c.write_chunks-3.ensures.appends

pub returns-clause-grows : goal.returns-clause-grows
returns-clause-grows g c = ok_then c.write_chunks-3.result c.write_chunks-3.ensures.grows (λ rest told.
    let stub = contents (g.M.Machine.state c.args.machine.now).files (stub_path c.args.sources.now) in
    let sbat = (new_sbat c.args.sources.now) in
    grown_as _ _ _ _ _
    (four _ _ _ _ _ _ _ _
    (ap (chunks_bytes stub sbat) c.number_chunks.ensures)
    (ap (λ (s : List ℕ). chunks_bytes s sbat c.table_chunks.result)
    (appends-source (stub_path c.args.sources.now) c.know-2.ensures c.know.ensures.lasting c.write_chunks.ensures.appends told) ∙ ap (chunks_bytes stub sbat) c.table_chunks.ensures)
    (ap (λ (s : List ℕ). headers_bytes s sbat c.new_sections.result.now)
    (appends-source (stub_path c.args.sources.now) c.know-2.ensures c.know.ensures.lasting (appends_on c.in_ok-write_chunks.ensures.appends c.write_chunks-2.ensures.appends) told) ∙ ap (headers_bytes stub sbat) c.new_sections.ensures)
    (ap (λ (s : List ℕ). chunks_bytes s sbat c.rest_chunks.result)
    (appends-source (stub_path c.args.sources.now) c.know-2.ensures c.know.ensures.lasting (appends_on (appends_on c.in_ok-write_chunks.ensures.appends c.in_ok-write_chunks-2.ensures.appends) c.write_headers.ensures.appends) told) ∙ ap (chunks_bytes stub sbat) c.rest_chunks.ensures))
    (grown_on _ _ _ _ _ _ (grown_on _ _ _ _ _ _ (grown_on _ _ _ _ _ _ (c.in_ok-write_chunks.ensures.grows told)
    (c.in_ok-write_chunks-2.ensures.grows told)) (c.in_ok-write_headers.ensures.grows told)) (rest told)))
