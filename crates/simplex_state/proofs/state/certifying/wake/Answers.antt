use Rattle.std.proofs.Common.{◌≡◌, subst, arith}
use Rattle.std.specs.Prelude.{IsTrue}
use Rattle.std.specs.Ordering.{nat_cmp}
use Rattle.std.specs.BTreeSet.{contains}
use Rattle.simplex_state.proofs.Members.{stays_in}
use Rattle.simplex_state.proofs.state.certifying.wake.Goals as goal

pub returns : goal.returns
returns c = record {
  kept = λ u there. stays_in c.insert.new.self c.insert-2.new.self c.new-next.result c.in_ok-insert-2.ensures.updates u (stays_in c.args.candidates.now c.insert.new.self c.args.view c.in_ok-insert.ensures.updates u there);
  own = stays_in c.insert.new.self c.insert-2.new.self c.new-next.result c.in_ok-insert-2.ensures.updates c.args.view c.in_ok-insert.ensures.updates.1;
  behind = λ u is fits.
      let next : c.new-next.result ≡ u = omega (arith, is, fits, c.new-next.ensures, c.saturating_add.ensures, c.get.ensures.value) in
      subst (λ v. IsTrue (contains nat_cmp c.insert-2.new.self v)) next c.in_ok-insert-2.ensures.updates.1;
}
