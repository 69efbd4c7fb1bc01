-- What clauses and proofs cite of this crate, handed on from one place. It defines nothing.
pub use Rattle.pcr_values.specs.Banks.{all_banks, bank_name, bank_named, digest_length, extend_all, extend_data, extend_digest, fold_of, fold_pcr, zero_of}
unfoldable pub use Rattle.pcr_values.specs.Banks.{digest_of}
unfoldable pub use Rattle.pcr_values.specs.Hashes.{HoldsData}
pub use Rattle.pcr_values.specs.Phases.{HasDistinctPaths, colon, default_phase_paths, is_phase_word, path_text, phase_words}
pub use Rattle.pcr_values.specs.ValueLines.{HasDistinctBanks, line_after, register_lines, value_lines}
unfoldable pub use Rattle.pcr_values.specs.ValueLines.{heading_of, value_line}
pub use Rattle.pcr_values.specs.Values.{bank_of, bytes_of_digest, pcr_bank, pcr_bytes, pcr_value}
