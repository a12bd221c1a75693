use Rattle.std.proofs.Common.{◌≡◌, sym, ◌∙◌, refl}
use Rattle.std.specs.Prelude.{Some}
use Rattle.batcher_verifier.specs.History.{forwardable}
use Rattle.simplex_batcher.proofs.Admitting.{not-yet}
use Rattle.simplex_batcher.specs.Rounds.{RoundKeeps}
use Rattle.simplex_batcher.proofs.round.Round.try_forward_proposal.Goals as goal

pub returns-in-Some-clause-keeps : goal.returns-in-Some-clause-keeps
unfolding RoundKeeps
returns-in-Some-clause-keeps g c = λ s h k.
    let e : forwardable h c.args.me ≡ Some c.in-Some.proposal = sym (c.forwardable.ensures s h k) ∙ c.in-Some.is in
    rw e (record {
      verifier = c.forwarding_changes_no_votes.ensures s c.args.self.now.verifier h k.verifier (not-yet h c.args.me c.in-Some.proposal e);
      of_members = k.of_members;
      are_new = k.are_new;
      tracks_is = k.tracks_is;
      forwarded_is = refl;
    })
