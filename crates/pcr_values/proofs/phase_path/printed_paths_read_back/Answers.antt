use Rattle.pcr_values.proofs.ReadBack.{phase_words-path_text}
use Rattle.pcr_values.proofs.phase_path.printed_paths_read_back.Goals as goal

pub returns : goal.returns
returns c = phase_words-path_text
