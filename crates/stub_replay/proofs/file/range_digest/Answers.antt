use Rattle.std.proofs.Common.{◌≤◌, List, ℕ, ap, ◌∙◌, drop, length, subst, sym}
use Rattle.pe_reader.specs.Prelude.{bytes_in}
use Rattle.pcr_values.specs.Prelude.{digest_of}
use Rattle.stub_replay.proofs.Sections.{one_taken}
use Rattle.stub_replay.proofs.Shown.{shown_contents}
use Rattle.stub_replay.proofs.file.range_digest.Goals as goal

pub returns-clause-bank : goal.returns-clause-bank
returns-clause-bank g c =
    let hashed = one_taken _ _ c.new-register.result c.from_mut.result.now c.take_loaded.new.registers c.args.bank c.new-register.ensures c.from_mut.ensures.value c.in_ok-take_loaded.ensures.data in
    c.finish.ensures.bank c.args.bank hashed.0 hashed.1

pub returns-clause-value : goal.returns-clause-value
returns-clause-value g c told inside =
    let s = g.M.Machine.state c.args.machine.now in
    let same = shown_contents s c.args.path.now c.know.ensures.lasting in
    let S = λ (f : List ℕ). c.args.range.length ≤ length (drop c.args.range.place f) in
    let hashed = one_taken _ _ c.new-register.result c.from_mut.result.now c.take_loaded.new.registers c.args.bank c.new-register.ensures c.from_mut.ensures.value c.in_ok-take_loaded.ensures.data in
    c.finish.ensures.bytes c.args.bank hashed.0 hashed.1
    ∙ ap (digest_of c.args.bank) (hashed.2 (told, subst S (sym same) inside) ∙ ap (λ (f : List ℕ). bytes_in f c.args.range) same)
