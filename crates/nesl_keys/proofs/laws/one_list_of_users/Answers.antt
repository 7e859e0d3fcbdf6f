use Rattle.nesl_keys.proofs.Readings.{files_alike}
use Rattle.nesl_keys.proofs.laws.one_list_of_users.Goals as goal

pub returns : goal.returns
returns c = files_alike
