use Rattle.sheetlaws.proofs.Carried.{faults_carried}
use Rattle.sheetlaws.proofs.laws.faults_are_carried.Goals as goal

pub returns : goal.returns
returns c = faults_carried
