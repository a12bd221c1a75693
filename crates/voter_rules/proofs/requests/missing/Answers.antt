use Rattle.std.proofs.Common.{inl, inr, refl}
use Rattle.std.proofs.lemmas.Bool.{iff_false}
use Rattle.voter_rules.proofs.Asking.{missing_passes}
use Rattle.voter_rules.proofs.requests.missing.Goals as goal

pub returns-then-is_in_window : goal.returns-then-is_in_window
returns-then-is_in_window g c = λ m k shown waits lacks. missing_passes m k c.args.view c.args.proposal waits lacks (inl ((c.is_in_window.ensures m k shown).0 c.if-is_in_window.true))

pub returns-then-is_requested : goal.returns-then-is_requested
returns-then-is_requested g c = λ m k shown waits lacks. missing_passes m k c.args.view c.args.proposal waits lacks (inr ((c.is_requested.ensures m k shown).0 c.if-is_requested.true))

pub returns : goal.returns
returns g c = λ m k shown waits lacks. (
  c.args.proposal,
  record {
    waits = waits;
    lacks = lacks;
    outside = iff_false (c.is_in_window.ensures m k shown) c.if-is_in_window.false;
    first = iff_false (c.is_requested.ensures m k shown) c.if-is_requested.false;
  },
  refl,
)
