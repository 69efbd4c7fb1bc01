use Rattle.boot_base.proofs.TempNames.{temp_names}
use Rattle.boot_base.proofs.temp_path.temp_names_are_file_names.Goals as goal

pub returns : goal.returns
returns c = temp_names
