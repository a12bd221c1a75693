use Rattle.std.proofs.Common.{◌<◌}
use Rattle.std.proofs.lemmas.List.Elements.{All-cons}
use Rattle.simplex_messages.specs.VoteParts.{vote_signer}
use Rattle.batcher_verifier.specs.History.{accepted}
use Rattle.simplex_batcher.specs.Rounds.{RoundKeeps}
use Rattle.simplex_batcher.proofs.round.Round.put.Goals as goal

pub returns-clause-taken : goal.returns-clause-taken
unfolding RoundKeeps
returns-clause-taken g c = λ s h k other member new.
    let added = rw c.copied.ensures at c.in_ok-add.ensures.added in
    let waits = rw c.copied.ensures at c.in_ok-add.ensures.waits in
    record {
      verifier = waits s h k.verifier ((added s h k.verifier).1 (c.what_is_new_may_be_added.ensures s h c.args.vote.now new)) other;
      of_members = All-cons (λ v. vote_signer v < s.members) c.args.vote.now (accepted h) member k.of_members;
      are_new = (new.free, k.are_new);
      tracks_is = k.tracks_is;
      forwarded_is = k.forwarded_is;
    }

pub returns-clause-cast : goal.returns-clause-cast
unfolding RoundKeeps
returns-clause-cast g c = λ s h k own member new attests.
    let added = rw c.copied.ensures at c.in_ok-add.ensures.added in
    let verified = rw c.copied.ensures at c.in_ok-add.ensures.verified in
    record {
      verifier = verified s h k.verifier ((added s h k.verifier).1 (c.what_is_new_may_be_added.ensures s h c.args.vote.now new)) own attests;
      of_members = All-cons (λ v. vote_signer v < s.members) c.args.vote.now (accepted h) member k.of_members;
      are_new = (new.free, k.are_new);
      tracks_is = k.tracks_is;
      forwarded_is = k.forwarded_is;
    }
