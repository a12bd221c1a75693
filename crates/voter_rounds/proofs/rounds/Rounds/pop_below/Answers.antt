use Rattle.std.proofs.Common.{refl}
use Rattle.voter_rounds.specs.Rounds.{Keep}
use Rattle.voter_rounds.proofs.Choices.{false_is_not}
use Rattle.voter_rounds.proofs.Dropping.{AreKept-bare, AreKept-first, AreKept-from, AreKept-popped, first_is_below, is_above, none_before_floor, none_in_empty, one_fewer}
use Rattle.voter_rounds.proofs.rounds.Rounds.pop_below.Goals as goal

pub returns-then-le-clause-below : goal.returns-then-le-clause-below
returns-then-le-clause-below g c = tt

pub returns-then-le-clause-fewer : goal.returns-then-le-clause-fewer
returns-then-le-clause-fewer g c = λ some. absurd (false_is_not refl some)

pub returns-then-le-clause-keeps : goal.returns-then-le-clause-keeps
unfolding Keep
returns-then-le-clause-keeps g c = λ s led past k. record {
  scheme = k.scheme;
  epoch = k.epoch;
  rounds = AreKept-from k.rounds c.args.floor c.args.self.now.by_view
      (none_before_floor c.args.self.now.by_view c.in-Some.first.now.0 c.args.floor c.in-Some.ensures.greatest c.if-le.ensures)
      (λ u ge. refl);
}

pub returns-then-le-clause-popped : goal.returns-then-le-clause-popped
unfolding Keep
returns-then-le-clause-popped g c = λ s led past k. AreKept-bare k.rounds c.args.floor c.get-number.ensures.fits
    (none_before_floor c.args.self.now.by_view c.in-Some.first.now.0 c.args.floor c.in-Some.ensures.greatest c.if-le.ensures)

pub returns-in_err-view-clause-keeps : goal.returns-in_err-view-clause-keeps
returns-in_err-view-clause-keeps g c = absurd (false_is_not refl (c.in_err-view.ensures.variant.1 (c.in-Some.ensures.variant.0 refl)))

pub returns-in_err-view-clause-popped : goal.returns-in_err-view-clause-popped
returns-in_err-view-clause-popped g c = absurd (false_is_not refl (c.in_err-view.ensures.variant.1 (c.in-Some.ensures.variant.0 refl)))

pub returns-clause-fewer : goal.returns-clause-fewer
returns-clause-fewer g c = λ _. one_fewer _ _ c.in_ok-view.ensures.len

pub returns-clause-keeps : goal.returns-clause-keeps
unfolding Keep
returns-clause-keeps g c = λ s led past k. record {
  scheme = k.scheme;
  epoch = k.epoch;
  rounds = AreKept-popped k.rounds c.in_ok-view.view.0 c.in_ok-view.ensures.value c.in_ok-view.ensures.greatest c.pop_last.new.self c.in_ok-view.ensures.updates;
}

pub returns-clause-below : goal.returns-clause-below
returns-clause-below g c = first_is_below c.args.self.now.by_view c.in_ok-view.view.0 c.in-Some.first.now.0 c.args.floor c.in_ok-view.ensures.greatest c.in-Some.ensures.value
    (is_above c.args.floor c.in-Some.first.now.0 c.if-le.ensures)

pub returns-clause-popped : goal.returns-clause-popped
unfolding Keep
returns-clause-popped g c = λ s led past k. AreKept-first k.rounds c.in_ok-view.view.0 c.in_ok-view.ensures.value c.in_ok-view.ensures.greatest
    c.args.floor c.get-number.ensures.fits (returns-clause-below g c)

pub returns-in_default-clause-below : goal.returns-in_default-clause-below
returns-in_default-clause-below g c = tt

pub returns-in_default-clause-fewer : goal.returns-in_default-clause-fewer
returns-in_default-clause-fewer g c = λ some. absurd (false_is_not refl some)

pub returns-in_default-clause-keeps : goal.returns-in_default-clause-keeps
unfolding Keep
returns-in_default-clause-keeps g c = λ s led past k.
    let bare = none_in_empty c.args.self.now.by_view (λ some. false_is_not refl (c.in_default.ensures.variant.1 some)) in
    record {
      scheme = k.scheme;
      epoch = k.epoch;
      rounds = AreKept-from k.rounds c.args.floor c.args.self.now.by_view (λ u lt. bare u) (λ u ge. refl);
    }

pub returns-in_default-clause-popped : goal.returns-in_default-clause-popped
unfolding Keep
returns-in_default-clause-popped g c = λ s led past k. AreKept-bare k.rounds c.args.floor c.get-number.ensures.fits
    (λ u lt. none_in_empty c.args.self.now.by_view (λ some. false_is_not refl (c.in_default.ensures.variant.1 some)) u)
