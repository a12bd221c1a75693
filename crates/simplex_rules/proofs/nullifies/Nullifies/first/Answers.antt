use Rattle.std.proofs.Common.{◌≡◌, length, true, false, refl, sym, ap, ◌∙◌, Some}
use Rattle.std.proofs.lemmas.Option.{slice_get_past, slice_get_read}
use Rattle.simplex_rules.proofs.Judging.{first-none, first-nothing, first-failed, first-claim, first-first}
use Rattle.simplex_rules.proofs.Standing.{kept_at_place, stands-there}
use Rattle.simplex_rules.proofs.nullifies.Nullifies.first.Goals as goal

pub returns-in_err-claim-clause-first : goal.returns-in_err-claim-clause-first
returns-in_err-claim-clause-first g c = λ contested votes stands h.
    let item = rw c.deref.ensures.value at c.in_err-claim.ensures.lookup in
    rw c.from_residual.ensures (first-none (g.S.Scheme.attests c.args.scheme.now) votes contested c.args.self.now.kept.items h c.args.suspect.now (stands-there contested c.args.place c.args.suspect.now stands) (kept_at_place contested c.args.self.now.kept.items c.args.place c.args.suspect.now stands ∙ slice_get_past c.args.self.now.kept.items c.args.place item.3))

pub returns-in-Nothing-clause-first : goal.returns-in-Nothing-clause-first
returns-in-Nothing-clause-first g c = λ contested votes stands h.
    let item = rw c.deref.ensures.value at c.in_ok-claim.ensures.lookup in
    first-nothing (g.S.Scheme.attests c.args.scheme.now) votes contested c.args.self.now.kept.items h c.args.suspect.now (kept_at_place contested c.args.self.now.kept.items c.args.place c.args.suspect.now stands ∙ slice_get_read c.args.self.now.kept.items (length c.args.self.now.kept.items) c.args.place c.in_ok-claim.field-0.now refl item.3.0 item.1 ∙ ap Some c.in-Nothing.is)

pub returns-then-not-verifies-clause-first : goal.returns-then-not-verifies-clause-first
returns-then-not-verifies-clause-first g c = λ contested votes stands h.
    let item = rw c.deref.ensures.value at c.in_ok-claim.ensures.lookup in
    first-failed (g.S.Scheme.attests c.args.scheme.now) votes contested c.args.self.now.kept.items h c.args.suspect.now c.in-Claim.claim (kept_at_place contested c.args.self.now.kept.items c.args.place c.args.suspect.now stands ∙ slice_get_read c.args.self.now.kept.items (length c.args.self.now.kept.items) c.args.place c.in_ok-claim.field-0.now refl item.3.0 item.1 ∙ ap Some c.in-Claim.is)
    (λ verifies. let both : false ≡ true = sym c.if-not-verifies.true ∙ c.verifies.ensures.1 verifies in cc)

pub returns-else-not-verifies-clause-first : goal.returns-else-not-verifies-clause-first
returns-else-not-verifies-clause-first g c = λ contested votes stands h.
    let item = rw c.deref.ensures.value at c.in_ok-claim.ensures.lookup in
    rw c.nullify_from.ensures (first-claim (g.S.Scheme.attests c.args.scheme.now) votes contested c.args.self.now.kept.items h c.args.suspect.now c.in-Claim.claim (kept_at_place contested c.args.self.now.kept.items c.args.place c.args.suspect.now stands ∙ slice_get_read c.args.self.now.kept.items (length c.args.self.now.kept.items) c.args.place c.in_ok-claim.field-0.now refl item.3.0 item.1 ∙ ap Some c.in-Claim.is) (c.verifies.ensures.0 c.if-not-verifies.false))

pub returns-in-First-clause-first : goal.returns-in-First-clause-first
returns-in-First-clause-first g c = λ contested votes stands h.
    let item = rw c.deref.ensures.value at c.in_ok-claim.ensures.lookup in
    rw c.nullify_from-in-First.ensures (first-first (g.S.Scheme.attests c.args.scheme.now) votes contested c.args.self.now.kept.items h c.args.suspect.now c.in-First.first (kept_at_place contested c.args.self.now.kept.items c.args.place c.args.suspect.now stands ∙ slice_get_read c.args.self.now.kept.items (length c.args.self.now.kept.items) c.args.place c.in_ok-claim.field-0.now refl item.3.0 item.1 ∙ ap Some c.in-First.is))
