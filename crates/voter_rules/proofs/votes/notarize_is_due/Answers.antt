use Rattle.std.proofs.Common.{ℕ, subst, ◌<◌, ◌≤◌}
use Rattle.std.proofs.lemmas.Bool.{iff_false}
use Rattle.voter_rules.proofs.Testing.{never, crossed, le_passes, le_fails}
use Rattle.voter_rules.proofs.votes.notarize_is_due.Goals as goal

pub returns : goal.returns
returns g c = λ m k shown.
    let steady = c.is_steady.ensures m k shown in
    let spoken = (c.may_be_spoken_of.ensures m k shown).0 c.if-not-may_be_spoken_of.false in
    let allows = (c.can_construct_notarize.ensures m k shown).0 c.if-not-can_construct_notarize.false in (
      λ is. record {
        kept = (c.retains.ensures m k shown).0 c.if-not-retains.false;
        behind = subst (λ (u : ℕ). u < c.args.view) (c.floor.ensures m k shown) (le_fails c.args.view c.floor.result c.le.ensures c.if-le.false);
        room = spoken.0;
        outbound = spoken.1;
        first = allows.first;
        not_given_up = allows.not_given_up;
        verified = allows.verified;
        supported = (c.is_supported.ensures m k shown).0 c.if-not-is_supported.false;
        steady = steady.0 is;
      },
      λ due. steady.1 due.steady,
    )

pub returns-then-le : goal.returns-then-le
returns-then-le g c = λ m k shown.
    let low = subst (λ (u : ℕ). c.args.view ≤ u) (c.floor.ensures m k shown) (le_passes c.args.view c.floor.result c.le.ensures c.if-le.true) in
    never (λ due. crossed k.floor c.args.view due.behind low)

pub returns-then-not-retains : goal.returns-then-not-retains
returns-then-not-retains g c = λ m k shown.
    never (λ due. iff_false (c.retains.ensures m k shown) c.if-not-retains.true due.kept)

pub returns-then-not-may_be_spoken_of : goal.returns-then-not-may_be_spoken_of
returns-then-not-may_be_spoken_of g c = λ m k shown.
    never (λ due. iff_false (c.may_be_spoken_of.ensures m k shown) c.if-not-may_be_spoken_of.true (due.room, due.outbound))

pub returns-then-not-can_construct_notarize : goal.returns-then-not-can_construct_notarize
returns-then-not-can_construct_notarize g c = λ m k shown.
    never (λ due. iff_false (c.can_construct_notarize.ensures m k shown) c.if-not-can_construct_notarize.true (record { first = due.first; not_given_up = due.not_given_up; verified = due.verified }))

pub returns-then-not-is_supported : goal.returns-then-not-is_supported
returns-then-not-is_supported g c = λ m k shown.
    never (λ due. iff_false (c.is_supported.ensures m k shown) c.if-not-is_supported.true due.supported)
