use Rattle.std.proofs.Common.{◌≡◌, ◌<◌, ◌∙◌, ℕ, refl, subst}
use Rattle.simplex_record.specs.Lawful.{rewritten}
use Rattle.node_record.proofs.Built.{lawful-follow, left-same, rebuilt}
use Rattle.node_record.proofs.recorded.Recorded.rewritten.Goals as goal

pub returns-clause-artifacts : goal.returns-clause-artifacts
returns-clause-artifacts g c = λ owner xs k.
    let told : c.in_ok-artifacts.artifacts.items ≡ rewritten c.args.self.now.term_length c.args.floor.now c.args.self.now.artifacts.items = rw c.deref.ensures.value at c.in_ok-artifacts.ensures in
    told ∙ left-same c.args.self.now.term_length owner.term_length c.args.floor.now c.args.self.now.artifacts.items xs k.length_is k.artifacts_are

pub returns-clause-holds : goal.returns-clause-holds
returns-clause-holds g c = λ scheme owner xs k lawful there last.
    let told : c.in_ok-artifacts.artifacts.items ≡ rewritten c.args.self.now.term_length c.args.floor.now c.args.self.now.artifacts.items = rw c.deref.ensures.value at c.in_ok-artifacts.ensures in
    let left_is : c.in_ok-artifacts.artifacts.items ≡ rewritten owner.term_length c.args.floor.now xs = told ∙ left-same c.args.self.now.term_length owner.term_length c.args.floor.now c.args.self.now.artifacts.items xs k.length_is k.artifacts_are in
    let some : 0 < owner.term_length = subst (λ (n : ℕ). 0 < n) k.length_is c.get-views.ensures.at_least_one in
    let left_lawful = c.a_rewritten_record_is_lawful.ensures.lawful scheme owner xs c.args.floor.now some lawful there last in
    let each = lawful-follow (g.S.Scheme.attests scheme) (g.S.Scheme.certifies scheme) owner (rewritten owner.term_length c.args.floor.now xs) left_lawful in
    rebuilt owner c.args.self.now.term_length
    (record { term_length = c.args.self.now.term_length; artifacts = c.in_ok-artifacts.artifacts; standing = c.in_ok-standing.standing; places = c.in_ok-places.places })
    (rewritten owner.term_length c.args.floor.now xs) k.length_is refl left_is each (rw c.deref-2.ensures.value at c.in_ok-standing.ensures) (rw c.deref-3.ensures.value at c.in_ok-places.ensures)
