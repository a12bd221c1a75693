use Rattle.types_terms.proofs.Turning.{LeadsOnce-IsOrder}
use Rattle.types_terms.proofs.elector.laws.each_participant_leads_once.Goals as goal

pub returns : goal.returns
returns c = LeadsOnce-IsOrder
