use Rattle.std.proofs.Common.{◌≡◌, map, string_bytes, take}
use Rattle.pcr_values.specs.Prelude.{extend_all, pcr_bank, pcr_bytes}
use Rattle.pcr_values.proofs.phase_path.after_phases.Given as goal

abbrev pub invariant-loop-word : goal.invariant-loop-word
invariant-loop-word l = record {
  bank : pcr_bank l.pcr ≡ pcr_bank l.fn.pcr;
  bytes : pcr_bytes l.pcr ≡ extend_all (pcr_bank l.fn.pcr) (pcr_bytes l.fn.pcr) (map string_bytes (take l.word-index l.word-items));
}
