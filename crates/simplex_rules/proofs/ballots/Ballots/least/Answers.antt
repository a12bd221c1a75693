use Rattle.std.proofs.Common.{◌≡◌, length, true, false, refl, sym, ap, ◌∙◌, Some}
use Rattle.std.proofs.lemmas.Option.{slice_get_past, slice_get_read}
use Rattle.simplex_rules.proofs.Judging.{least-none, least-nothing, least-failed, least-claim, least-one, least-two}
use Rattle.simplex_rules.proofs.Standing.{kept_at_place, stands-there}
use Rattle.simplex_rules.proofs.ballots.Ballots.least.Goals as goal

pub returns-in_err-claim-clause-least : goal.returns-in_err-claim-clause-least
returns-in_err-claim-clause-least g c = λ contested votes stands h.
    let item = rw c.deref.ensures.value at c.in_err-claim.ensures.lookup in
    rw c.from_residual.ensures (least-none g.K.ProposalKind.states (g.S.Scheme.attests c.args.scheme.now) votes g.D.Ord.cmp contested c.args.self.now.kept.items h c.args.suspect.now (stands-there contested c.args.place c.args.suspect.now stands) (kept_at_place contested c.args.self.now.kept.items c.args.place c.args.suspect.now stands ∙ slice_get_past c.args.self.now.kept.items c.args.place item.3))

pub returns-in-Nothing-clause-least : goal.returns-in-Nothing-clause-least
returns-in-Nothing-clause-least g c = λ contested votes stands h.
    let item = rw c.deref.ensures.value at c.in_ok-claim.ensures.lookup in
    least-nothing g.K.ProposalKind.states (g.S.Scheme.attests c.args.scheme.now) votes g.D.Ord.cmp contested c.args.self.now.kept.items h c.args.suspect.now (kept_at_place contested c.args.self.now.kept.items c.args.place c.args.suspect.now stands ∙ slice_get_read c.args.self.now.kept.items (length c.args.self.now.kept.items) c.args.place c.in_ok-claim.field-0.now refl item.3.0 item.1 ∙ ap Some c.in-Nothing.is)

pub returns-then-not-verifies-clause-least : goal.returns-then-not-verifies-clause-least
returns-then-not-verifies-clause-least g c = λ contested votes stands h.
    let item = rw c.deref.ensures.value at c.in_ok-claim.ensures.lookup in
    least-failed g.K.ProposalKind.states (g.S.Scheme.attests c.args.scheme.now) votes g.D.Ord.cmp contested c.args.self.now.kept.items h c.args.suspect.now c.in-Claim.claim (kept_at_place contested c.args.self.now.kept.items c.args.place c.args.suspect.now stands ∙ slice_get_read c.args.self.now.kept.items (length c.args.self.now.kept.items) c.args.place c.in_ok-claim.field-0.now refl item.3.0 item.1 ∙ ap Some c.in-Claim.is)
    (λ verifies. let both : false ≡ true = sym c.if-not-verifies.true ∙ c.verifies.ensures.1 verifies in cc)

pub returns-else-not-verifies-clause-least : goal.returns-else-not-verifies-clause-least
returns-else-not-verifies-clause-least g c = λ contested votes stands h.
    let item = rw c.deref.ensures.value at c.in_ok-claim.ensures.lookup in
    rw c.vote_from.ensures (least-claim g.K.ProposalKind.states (g.S.Scheme.attests c.args.scheme.now) votes g.D.Ord.cmp contested c.args.self.now.kept.items h c.args.suspect.now c.in-Claim.claim (kept_at_place contested c.args.self.now.kept.items c.args.place c.args.suspect.now stands ∙ slice_get_read c.args.self.now.kept.items (length c.args.self.now.kept.items) c.args.place c.in_ok-claim.field-0.now refl item.3.0 item.1 ∙ ap Some c.in-Claim.is) (c.verifies.ensures.0 c.if-not-verifies.false))

pub returns-in-One-clause-least : goal.returns-in-One-clause-least
returns-in-One-clause-least g c = λ contested votes stands h.
    let item = rw c.deref.ensures.value at c.in_ok-claim.ensures.lookup in
    rw c.vote_from-in-One.ensures (least-one g.K.ProposalKind.states (g.S.Scheme.attests c.args.scheme.now) votes g.D.Ord.cmp contested c.args.self.now.kept.items h c.args.suspect.now c.in-One.only (kept_at_place contested c.args.self.now.kept.items c.args.place c.args.suspect.now stands ∙ slice_get_read c.args.self.now.kept.items (length c.args.self.now.kept.items) c.args.place c.in_ok-claim.field-0.now refl item.3.0 item.1 ∙ ap Some c.in-One.is))

pub returns-in-Two-clause-least : goal.returns-in-Two-clause-least
returns-in-Two-clause-least g c = λ contested votes stands h.
    let item = rw c.deref.ensures.value at c.in_ok-claim.ensures.lookup in
    rw c.vote_from-in-Two.ensures (least-two g.K.ProposalKind.states (g.S.Scheme.attests c.args.scheme.now) votes g.D.Ord.cmp contested c.args.self.now.kept.items h g.met.D.Ord.total c.args.suspect.now c.in-Two.least c.in-Two.field-1 (kept_at_place contested c.args.self.now.kept.items c.args.place c.args.suspect.now stands ∙ slice_get_read c.args.self.now.kept.items (length c.args.self.now.kept.items) c.args.place c.in_ok-claim.field-0.now refl item.3.0 item.1 ∙ ap Some c.in-Two.is))
