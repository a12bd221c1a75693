use Rattle.std.proofs.Common.{◌≡◌, ◌<◌, sym, ◌∙◌, arith}
use Rattle.simplex_record.specs.Record.{floor}
use Rattle.simplex_record.proofs.AddingKept.{greater}
use Rattle.std.proofs.lemmas.Bool.Decides.{nat_tests}
use Rattle.simplex_record.proofs.Ruling.{no_notarize, no_nullify, unlike}
use Rattle.simplex_record.proofs.standing.Standing.may_notarize.Goals as goal

pub returns-then-not-has_room-clause-lawful : goal.returns-then-not-has_room-clause-lawful
returns-then-not-has_room-clause-lawful g c = λ before k. unlike (λ may. sym (c.has_room.ensures.1 may.room) ∙ c.if-not-has_room.true)

pub returns-then-le-clause-lawful : goal.returns-then-le-clause-lawful
returns-then-le-clause-lawful g c = λ before k. unlike (λ may.
    let behind : floor before < c.args.proposal.now.round.view = may.behind in
    let at : c.args.self.now.numbering.floor ≡ floor before = k.numbering.floor_is in
    absurd (grind (arith, nat_tests, c.le.ensures, c.if-le.true, behind, at)))

pub returns-then-contains-clause-lawful : goal.returns-then-contains-clause-lawful
returns-then-contains-clause-lawful g c = λ before k. unlike (λ may. sym (c.if-contains.true) ∙ c.contains.ensures ∙ (no_notarize c.args.self.now.votes before k.by_view.votes c.args.proposal.now).1 may.first)

pub returns-then-contains-2-clause-lawful : goal.returns-then-contains-2-clause-lawful
returns-then-contains-2-clause-lawful g c = λ before k. unlike (λ may. sym (c.if-contains-2.true) ∙ c.contains-2.ensures ∙ (no_nullify c.args.self.now.votes before k.by_view.votes c.args.proposal.now.round).1 may.not_given_up)

pub returns-clause-lawful : goal.returns-clause-lawful
returns-clause-lawful g c = λ before k.
    let below : c.args.proposal.now.parent < c.args.proposal.now.round.view = grind (arith, nat_tests, c.ge.ensures, c.if-ge.false) in
    let at : c.args.self.now.numbering.floor ≡ floor before = k.numbering.floor_is in
    let behind : c.args.self.now.numbering.floor < c.args.proposal.now.round.view = grind (arith, nat_tests, c.le.ensures, c.if-le.false) in
    let first = greater c.args.proposal.now.parent c.args.self.now.numbering.floor _ c.max-from.ensures in (
      λ covers. record {
        room = c.has_room.ensures.0 c.if-not-has_room.false;
        behind = omega (arith, at, behind);
        first = (no_notarize c.args.self.now.votes before k.by_view.votes c.args.proposal.now).0 (sym c.contains.ensures ∙ c.if-contains.false);
        not_given_up = (no_nullify c.args.self.now.votes before k.by_view.votes c.args.proposal.now.round).0 (sym c.contains-2.ensures ∙ c.if-contains-2.false);
        parent_below = below;
        covered = λ view above low higher. (k.by_view.certificates.covered view (omega (arith, above))).0 (c.covers_between.ensures.0 covers view (omega (arith, first, at, above, higher)) low);
      },
      λ may. c.covers_between.ensures.1 (λ view above low. (k.by_view.certificates.covered view (omega (arith, above))).1 (may.covered view (omega (arith, first, above)) low (omega (arith, first, at, above)))),
    )
