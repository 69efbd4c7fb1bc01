-- The printed words of the reasons.
use Rattle.std.specs.Prelude.{ℕ, List, codes}
use Rattle.pe_reader.specs.declared.reason.PeReason.{PeReason}
use Rattle.pe_reader.specs.declared.reason.PeReason.TheVariants as reasons

-- the text of a failed check, as the refusal prints it
abbrev pub pe_reason_text : PeReason → List ℕ
pe_reason_text reasons.ShortFile = codes "short file"
pe_reason_text reasons.NoMz = codes "no MZ"
pe_reason_text reasons.PePlace = codes "PE place"
pe_reason_text reasons.ShortHeaders = codes "short headers"
pe_reason_text reasons.NoSignature = codes "no PE signature"
pe_reason_text reasons.TooManySections = codes "too many sections"
pe_reason_text reasons.ShortOptional = codes "short optional header"
pe_reason_text reasons.Pe32 = codes "PE32"
pe_reason_text reasons.UnknownMagic = codes "unknown magic"
pe_reason_text reasons.SectionAlignment = codes "section alignment"
pe_reason_text reasons.FileAlignment = codes "file alignment"
pe_reason_text reasons.Directories = codes "directories"
pe_reason_text reasons.HeaderSize = codes "header size"
pe_reason_text reasons.VirtualSize = codes "virtual size"
pe_reason_text reasons.Address = codes "address"
pe_reason_text reasons.RawData = codes "raw data"
pe_reason_text reasons.Overlap = codes "overlap"
