-- What clauses and proofs cite of this crate, handed on from one place. It defines nothing.
pub use Rattle.pe_reader.specs.Facts.{AreApart, Describes, IsInside, IsPe, directory_count, file_alignment, header_size, optional_place, optional_size, section_alignment, section_count, section_from, section_in, signature_place, table_place}
pub use Rattle.pe_reader.specs.Fields.{part}
unfoldable pub use Rattle.pe_reader.specs.Fields.{u16_at, u32_at}
pub use Rattle.pe_reader.specs.Grammar.{Headers, check_before, is_alignment, is_apart, is_in_file, other_kind, ◌>>=◌}
unfoldable pub use Rattle.pe_reader.specs.Grammar.{check_section, coff_of, head_of, optional_of, pe_of, pe_place_of, section_at, sections_of}
pub use Rattle.pe_reader.specs.LoadedBytes.{bytes_in, is_named, loaded_by, loaded_bytes, loaded_in, loaded_of, no_section, range_of, section_at_index}
pub use Rattle.pe_reader.specs.Reads.{CountsHead, FailsFrom, FromBytes, GivesFrom, HeadFrom, ReadFrom, ReturnsRead, head_counts, head_fault, head_limit, headers_of}
pub use Rattle.pe_reader.specs.Reasons.{pe_reason_text}
