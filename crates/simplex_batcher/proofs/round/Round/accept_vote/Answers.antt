use Rattle.std.proofs.Common.{◌≡◌, ◌∙◌, ◌<◌, sym, refl, true}
use Rattle.std.specs.Prelude.{Some}
use Rattle.batcher_verifier.specs.History.{recorded}
use Rattle.simplex_batcher.specs.Admission.{contradicts}
use Rattle.simplex_messages.specs.VoteParts.{vote_signer}
use Rattle.batcher_verifier.specs.Keeping.{kept-members}
use Rattle.simplex_batcher.proofs.Admitting.{own-agrees, free-new}
use Rattle.simplex_batcher.specs.Rounds.{RoundKeeps}
use Rattle.simplex_batcher.proofs.round.Round.accept_vote.Goals as goal

pub returns-then-are_against-clause-own : goal.returns-then-are_against-clause-own
unfolding RoundKeeps
returns-then-are_against-clause-own g c = λ s h k ours own.
    let same = g.D.PartialEq.eq in
    let v = c.args.vote in
    let found : recorded h v ≡ Some c.in-Some.recorded.now = sym (rw c.in-Some.is at (c.recorded.ensures s h k.verifier k.of_members)) in
    let against : contradicts same h v ≡ true = rw found (sym c.are_against.ensures ∙ c.if-are_against.true) in
    absurd (cc (own-agrees same h v own, against))

pub returns-clause-ok : goal.returns-clause-ok
unfolding RoundKeeps
returns-clause-ok g c = λ s h k attests.
    let v = c.args.vote in
    let free = sym (rw c.in_default.is at (c.recorded.ensures s h k.verifier k.of_members)) in
    let member : vote_signer v < s.members = rw (kept-members g.D.PartialEq.eq g.S.Scheme g.S.Scheme.batchable s c.args.self.now.verifier h k.verifier) at (g.met.S.Scheme.attests_member s.scheme _ _ _ attests) in
    rw free (c.in_ok-put.ensures.cast s h k refl member (free-new s h v free ((c.belongs.ensures s h k).0 c.if-not-belongs.false)) attests)

pub returns-clause-again : goal.returns-clause-again
unfolding RoundKeeps
returns-clause-again g c = λ s h k old.
    let free = sym (rw c.in_default.is at (c.recorded.ensures s h k.verifier k.of_members)) in
    absurd (cc (rw free at old))
