-- A vote that is due is of a view above that behind which what is kept begins.
use Rattle.std.proofs.Common.{◌<◌, [], ◌∷◌, arith}
use Rattle.types_core.specs.declared.scheme.Scheme.{Ghosts}
use Rattle.simplex_messages.specs.declared.vote.Vote.{Vote}
use Rattle.simplex_messages.specs.declared.vote.Vote.TheVariants as vote
use Rattle.simplex_messages.specs.VoteParts.{vote_round}
use Rattle.simplex_record.specs.Record.{entries, floor}
use Rattle.voter_laws.specs.Matching.{EachHistoryMatches}
use Rattle.simplex_member.specs.Allowed.{AreAllowed, VoteIsDue}
use Rattle.simplex_member.specs.Layers.{current_of, finalized_of}
use Rattle.simplex_member.specs.Packet.{Formats}
use Rattle.simplex_member.specs.Point.{Point, History}
use Rattle.simplex_member.specs.Recorded.{kept_of, record_of}
use Rattle.simplex_member.specs.Setup.{Setup}
use Rattle.simplex_member.proofs.Floored.{final-behind}
use Rattle.simplex_member.proofs.Kept.{kept-floor, kept-floor-final}
use Rattle.simplex_member.proofs.Recordable.{matches}

module _ {S D P G C : Type 0} (g : Ghosts S D P G C) (f : Formats S D P G C) (s : Setup S D C) (law : EachHistoryMatches S D P G C) where
  pub current-above : (q : Point S D P G C) (h : History S D P G C) → AreAllowed g f s (q ∷ h) → finalized_of s (q ∷ h) < current_of s (q ∷ h)
  current-above q h all =
      let m = matches g f s law q h all in
      let behind = final-behind s.voter.length (entries (record_of (q ∷ h))) in
      let last = m.last_finalized in
      let now = m.current in
      omega (arith, behind, last, now)

  pub none-below : (h : History S D P G C) (v : Vote S D P G C) → AreAllowed g f s h → VoteIsDue g f s h v → floor (entries (kept_of s.voter.length h)) < (vote_round v).view
  none-below h (vote.Notarize v) all due =
      let low = kept-floor g f s law h all in
      let behind = due.0.behind in
      omega (arith, low, behind)
  none-below h (vote.Finalize v) all due =
      let low = kept-floor-final g f s law h all in
      let above = due.0.above in
      omega (arith, low, above)
  none-below [] (vote.Nullify v) all due = absurd (let some = due.1.gives_up.some in omega (arith, some))
  none-below (q ∷ h) (vote.Nullify v) all due =
      let low = kept-floor-final g f s law (q ∷ h) all in
      let above = current-above q h all in
      let at = due.0 in
      omega (arith, low, above, at)
