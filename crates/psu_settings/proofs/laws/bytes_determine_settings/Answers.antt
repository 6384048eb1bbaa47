use Rattle.psu_settings.proofs.Apart.{same_settings}
use Rattle.psu_settings.proofs.laws.bytes_determine_settings.Goals as goal

pub returns : goal.returns
returns c = same_settings
