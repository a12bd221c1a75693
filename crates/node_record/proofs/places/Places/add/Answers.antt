use Rattle.node_record.proofs.Adding.{on_ok-map}
use Rattle.node_record.proofs.Placing.{behind_finalization, behind_notarization, behind_other}
use Rattle.node_record.proofs.places.Places.add.Goals as goal

pub returns-in-Some : goal.returns-in-Some
returns-in-Some g c = on_ok-map c.add_first.result (λ put. λ xs at k.
    behind_notarization c.args.self.now c.add_first.new.places xs c.args.artifact.now c.in-Some.certificate.now c.args.place c.view.result c.in-Some.ensures c.view.ensures at put k) c.add_first.ensures

pub returns-in-Some-finalization_of : goal.returns-in-Some-finalization_of
returns-in-Some-finalization_of g c = on_ok-map c.add_first-in-Some-finalization_of.result (λ put. λ xs at k.
    behind_finalization c.args.self.now c.add_first-in-Some-finalization_of.new.places xs c.args.artifact.now c.in-Some-finalization_of.certificate.now c.args.place c.view-in-Some-finalization_of.result c.in-Some-finalization_of.ensures c.view-in-Some-finalization_of.ensures at put k) c.add_first-in-Some-finalization_of.ensures

pub returns : goal.returns
returns g c = λ xs at k. behind_other c.args.self.now xs c.args.artifact.now c.in_default.ensures c.in_default-finalization_of.ensures k
