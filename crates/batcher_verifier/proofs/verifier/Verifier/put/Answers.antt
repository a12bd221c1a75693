use Rattle.std.proofs.Common.{◌≡◌, ◌∷◌, refl, sym, ◌∙◌}
use Rattle.batcher_verifier.specs.History.{accepted, selection}
use Rattle.batcher_verifier.specs.Lawful.{MayHappen}
use Rattle.batcher_verifier.specs.Keeping.{selection_of, VerifierKeeps}
use Rattle.batcher_verifier.proofs.Choosing.{none-right, none-left}
use Rattle.batcher_verifier.proofs.Adding.{came, selection-came, may-add, added-keeps, refused-err}
use Rattle.batcher_verifier.proofs.verifier.Verifier.put.Goals as goal

pub returns-clause-waits : goal.returns-clause-waits
unfolding VerifierKeeps
returns-clause-waits g c = λ s h k waits allowed.
    let own = c.args.verified in
    let one : selection_of c.select-next.result ≡ selection (came own c.args.vote ∷ h) = c.select-next.ensures ∙ rw (c.fixed_by.ensures, c.led_by.ensures, k.leader_is, k.selection_is) (sym (selection-came own h c.args.vote)) in
    let may : MayHappen g.D.PartialEq.eq g.S.Scheme.attests s h (came own c.args.vote) = rw waits allowed in
    let fits = may-add g.D.PartialEq.eq g.S.Scheme.attests s h c.args.vote own may in
    rw waits at (added-keeps g.D.PartialEq.eq g.S.Scheme g.S.Scheme.batchable own s h c.args.vote c.counts-held.result c.select-next.result c.args.self.now _ c.choose-changed.new.self k refl refl refl refl refl refl
    (c.in_ok-put.ensures.places s.members (accepted h) k.rows.places) (λ kind. c.in_ok-put.ensures.kinds s.members (accepted h) k.rows.places kind _ _ _ (k.rows.kinds kind) (fits.none_waits kind) (fits.none_verified kind)) c.choose-changed.ensures.chosen one c.counts-held.ensures may)

pub returns-clause-verified : goal.returns-clause-verified
unfolding VerifierKeeps
returns-clause-verified g c = λ s h k verified allowed.
    let own = c.args.verified in
    let one : selection_of c.select-next.result ≡ selection (came own c.args.vote ∷ h) = c.select-next.ensures ∙ rw (c.fixed_by.ensures, c.led_by.ensures, k.leader_is, k.selection_is) (sym (selection-came own h c.args.vote)) in
    let may : MayHappen g.D.PartialEq.eq g.S.Scheme.attests s h (came own c.args.vote) = rw verified allowed in
    let fits = may-add g.D.PartialEq.eq g.S.Scheme.attests s h c.args.vote own may in
    rw verified at (added-keeps g.D.PartialEq.eq g.S.Scheme g.S.Scheme.batchable own s h c.args.vote c.counts-held.result c.select-next.result c.args.self.now _ c.choose-changed.new.self k refl refl refl refl refl refl
    (c.in_ok-put.ensures.places s.members (accepted h) k.rows.places) (λ kind. c.in_ok-put.ensures.kinds s.members (accepted h) k.rows.places kind _ _ _ (k.rows.kinds kind) (fits.none_waits kind) (fits.none_verified kind)) c.choose-changed.ensures.chosen one c.counts-held.ensures may)

pub returns-then-not-may_select-clause-waits : goal.returns-then-not-may_select-clause-waits
unfolding VerifierKeeps
returns-then-not-may_select-clause-waits g c = λ s h k waits allowed.
    let none = sym c.may_select.ensures ∙ c.if-not-may_select.true in
    c.in_ok-hold.ensures.waits s h k waits (none-right _ _ none) allowed

pub returns-then-not-may_select-clause-verified : goal.returns-then-not-may_select-clause-verified
unfolding VerifierKeeps
returns-then-not-may_select-clause-verified g c = λ s h k own allowed.
    let none = sym c.may_select.ensures ∙ c.if-not-may_select.true in
    c.in_ok-hold.ensures.verified s h k own (none-left _ _ (rw own at none)) (none-right _ _ none) allowed

pub returns-in_err-put-clause-err : goal.returns-in_err-put-clause-err
unfolding VerifierKeeps
returns-in_err-put-clause-err g c =
    refused-err g.D.PartialEq.eq g.S.Scheme g.S.Scheme.batchable _ c.args.self.now (record { round = c.args.self.now.round; scheme = c.args.self.now.scheme; needed = c.args.self.now.needed; skipped = c.args.self.now.skipped; leader = c.args.self.now.leader; proposal = c.args.self.now.proposal; rows = c.put.new.self }) refl refl refl refl refl refl c.in_err-put.ensures.err
