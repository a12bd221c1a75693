use Rattle.std.proofs.Common.{ℕ, subst, ◌<◌, ◌≤◌}
use Rattle.std.proofs.lemmas.Bool.{iff_false}
use Rattle.voter_rules.proofs.Testing.{never, crossed, le_passes, le_fails}
use Rattle.voter_rules.proofs.votes.finalize_is_due.Goals as goal

pub returns : goal.returns
returns g c = λ m k shown.
    let grounded = c.is_grounded.ensures m k shown in
    let spoken = (c.may_be_spoken_of.ensures m k shown).0 c.if-not-may_be_spoken_of.false in
    let allows = (c.can_construct_finalize.ensures m k shown).0 c.if-not-can_construct_finalize.false in (
      λ is. record {
        above = subst (λ (u : ℕ). u < c.args.view) (c.last_finalized.ensures m k shown) (le_fails c.args.view c.last_finalized.result c.le.ensures c.if-le.false);
        room = spoken.0;
        outbound = spoken.1;
        not_given_up = allows.not_given_up;
        first = allows.first;
        unequivocated = allows.unequivocated;
        notarized = allows.notarized;
        certified = allows.certified;
        healed = (c.is_healed.ensures m k shown).0 c.if-not-is_healed.false;
        supported = grounded.0 is;
      },
      λ due. grounded.1 due.supported,
    )

pub returns-then-le : goal.returns-then-le
returns-then-le g c = λ m k shown.
    let low = subst (λ (u : ℕ). c.args.view ≤ u) (c.last_finalized.ensures m k shown) (le_passes c.args.view c.last_finalized.result c.le.ensures c.if-le.true) in
    never (λ due. crossed k.last_finalized c.args.view due.above low)

pub returns-then-not-may_be_spoken_of : goal.returns-then-not-may_be_spoken_of
returns-then-not-may_be_spoken_of g c = λ m k shown.
    never (λ due. iff_false (c.may_be_spoken_of.ensures m k shown) c.if-not-may_be_spoken_of.true (due.room, due.outbound))

pub returns-then-not-can_construct_finalize : goal.returns-then-not-can_construct_finalize
returns-then-not-can_construct_finalize g c = λ m k shown.
    never (λ due. iff_false (c.can_construct_finalize.ensures m k shown) c.if-not-can_construct_finalize.true (record { not_given_up = due.not_given_up; first = due.first; unequivocated = due.unequivocated; notarized = due.notarized; certified = due.certified }))

pub returns-then-not-is_healed : goal.returns-then-not-is_healed
returns-then-not-is_healed g c = λ m k shown.
    never (λ due. iff_false (c.is_healed.ensures m k shown) c.if-not-is_healed.true due.healed)
