use Rattle.std.proofs.Common.{◌≡◌, sym, ap, ◌∙◌}
use Rattle.pe_reader.specs.Prelude.{loaded_bytes, bytes_in, headers_of}
use Rattle.pe_reader.proofs.Finding.{loaded_bytes-found, loaded_bytes-none}
use Rattle.stub_replay.proofs.bytes.loaded_bytes.Goals as goal

pub returns-in-None : goal.returns-in-None
returns-in-None c =
    c.new.ensures.items ∙ sym (loaded_bytes-none c.args.bytes.now c.args.name.now (headers_of c.args.head.now) c.requires (sym c.find.ensures.at ∙ c.in-None.is))

pub returns-in-Some : goal.returns-in-Some
returns-in-Some c =
    let e : loaded_bytes c.args.bytes.now c.args.name.now ≡ bytes_in c.args.bytes.now c.loaded_range.result =
    loaded_bytes-found c.args.bytes.now c.args.name.now (headers_of c.args.head.now) c.in-Some.index c.requires (sym c.find.ensures.at ∙ c.in-Some.is)
    ∙ ap (bytes_in c.args.bytes.now) (sym c.loaded_range.ensures.exact) in
    rw e c.bytes_in.ensures
