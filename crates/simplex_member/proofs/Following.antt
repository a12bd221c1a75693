-- What is due may be recorded, of each history that points led to.
use Rattle.std.proofs.Common.{List, [], ◌∷◌, arith}
use Rattle.types_core.specs.declared.scheme.Scheme.{Ghosts}
use Rattle.messages_certificates.specs.declared.nullify.Nullify.{Nullify}
use Rattle.simplex_messages.specs.declared.vote.Vote.{Vote}
use Rattle.simplex_messages.specs.declared.vote.Vote.TheVariants as vote
use Rattle.messages_certificates.specs.ProposalVote.{Finalize}
use Rattle.simplex_messages.specs.VoteParts.{vote_artifact}
use Rattle.simplex_record.specs.Record.{entry, entries}
use Rattle.simplex_record.specs.Rules.{MayFollow}
use Rattle.voter_laws.specs.Matching.{EachHistoryMatches, DueMayBeNotarized, DueMayBeNullified, DueMayBeFinalized}
use Rattle.simplex_member.specs.Allowed.{AreAllowed, VoteIsDue}
use Rattle.simplex_member.specs.Laws.{DueIsBound}
use Rattle.simplex_member.specs.Member.{Goes}
use Rattle.simplex_member.specs.Packet.{Formats}
use Rattle.simplex_member.specs.Point.{Point, History}
use Rattle.simplex_member.specs.Recorded.{record_of}
use Rattle.simplex_member.specs.Setup.{Setup}
use Rattle.simplex_member.proofs.Allowing.{begun-allowed}
use Rattle.simplex_member.proofs.Recordable.{finalize-follows, notarize-may, nullify-follows}
use Rattle.simplex_member.proofs.Telling.{apart}

module _ {S D P G C : Type 0} (g : Ghosts S D P G C) (f : Formats S D P G C) (s : Setup S D C) where
  abbrev Follows : History S D P G C → Vote S D P G C → Type 0
  Follows h v = MayFollow s.voter.length (entries (record_of h)) (entry (vote_artifact v))

  pub any-finalize : EachHistoryMatches S D P G C → DueMayBeFinalized D → (h : History S D P G C) → AreAllowed g f s h → (v : Finalize S D P G C) → VoteIsDue g f s h (vote.Finalize v) → Follows h (vote.Finalize v)
  any-finalize law due [] all v is = absurd (apart is.0.notarized)
  any-finalize law due (p ∷ h) all v is = finalize-follows g f s law due p h all v is

  pub any-nullify : EachHistoryMatches S D P G C → DueMayBeNullified S D P G C → (h : History S D P G C) → AreAllowed g f s h → (v : Nullify S D P G C) → VoteIsDue g f s h (vote.Nullify v) → Follows h (vote.Nullify v)
  any-nullify law due [] all v is = absurd (let some = is.1.gives_up.some in omega (arith, some))
  any-nullify law due (p ∷ h) all v is = nullify-follows g f s law due p h all v is

  pub any-vote : EachHistoryMatches S D P G C → DueMayBeNotarized D → DueMayBeFinalized D → DueMayBeNullified S D P G C → DueIsBound g f s → (h : History S D P G C) (points : List (Point S D P G C)) (v : Vote S D P G C)
      → Goes g f s [] points h → VoteIsDue g f s h v → Follows h v
  any-vote law notarize finalize nullify bound [] points (vote.Notarize v) goes is = absurd (apart is.0.verified.0)
  any-vote law notarize finalize nullify bound (p ∷ h) points (vote.Notarize v) goes is =
      notarize-may g f s law notarize p h (begun-allowed g f s points (p ∷ h) goes) v.proposal.round.view v.proposal (bound (p ∷ h) points v.proposal.round.view v.proposal goes is.0 is.1) is.0
  any-vote law notarize finalize nullify bound h points (vote.Nullify v) goes is = any-nullify law nullify h (begun-allowed g f s points h goes) v is
  any-vote law notarize finalize nullify bound h points (vote.Finalize v) goes is = any-finalize law finalize h (begun-allowed g f s points h goes) v is
