-- A verdict that was asked for may be recorded, by the voter's laws.
use Rattle.std.proofs.Common.{◌≡◌, ⊎_elim, ◌<◌, Bool, [], ◌∷◌, sym, ◌∙◌, subst, arith}
use Rattle.std.specs.Prelude.{Contains}
use Rattle.types_quorum.specs.Counting.{Contains-cases}
use Rattle.types_core.specs.declared.position.Round.{Round}
use Rattle.types_core.specs.declared.proposal.Proposal.{Proposal}
use Rattle.types_core.specs.declared.scheme.Scheme.{Ghosts}
use Rattle.types_core.specs.Subject.{notarize}
use Rattle.simplex_record.specs.Record as recorded
use Rattle.simplex_record.specs.Record.{Entry, entry, entries, HasJudged, HasTaken}
use Rattle.simplex_record.specs.Rules.{MayJudge, reach}
use Rattle.voter_laws.specs.Matching.{EachHistoryMatches}
use Rattle.simplex_member.specs.Allowed.{Allowed, AreAllowed}
use Rattle.simplex_member.specs.Asked.{IsAwaited}
use Rattle.simplex_member.specs.Packet.{Formats}
use Rattle.simplex_member.specs.Point.{Point, AsksCertify, History}
use Rattle.simplex_member.specs.Layers.{finalized_of}
use Rattle.simplex_member.specs.Recorded.{kept_of, record_of, recorded_by}
use Rattle.simplex_member.specs.Setup.{Setup}
use Rattle.simplex_member.proofs.Recordable.{matches}
use Rattle.simplex_member.proofs.Telling.{apart, notarized-epoch}
use Rattle.simplex_member.proofs.Kept.{above-kept}
use Rattle.simplex_member.proofs.Lists.{Contains-map, Contains-mapped, mapped-before}

module _ {S D P G C : Type 0} (g : Ghosts S D P G C) (f : Formats S D P G C) (s : Setup S D C) where
  -- what the record says it says behind one more point
  pub says-on : (p : Point S D P G C) (h : History S D P G C) (e : Entry D) → Contains (entries (record_of h)) e → Contains (entries (record_of (p ∷ h))) e
  says-on p h e here = mapped-before entry (record_of h) (recorded_by p) e here

  -- a verdict that is due is on what was notarized
  pub due-taken : EachHistoryMatches S D P G C → (h : History S D P G C) → AreAllowed g f s h → (p : Proposal D) → Allowed g f s h (AsksCertify p) → HasTaken (entries (record_of h)) (notarize p)
  due-taken law [] all p a = absurd (apart a.order)
  due-taken law (q ∷ h) all p a = ((matches g f s law q h all).notarized p.round.view p a.due.opens.notarized).1

  -- so is one that was asked for
  pub asked-taken : EachHistoryMatches S D P G C → (h : History S D P G C) → AreAllowed g f s h → (p : Proposal D) → Contains h (AsksCertify p) → HasTaken (entries (record_of h)) (notarize p)
  asked-taken law [] all p here = absurd (omega (arith, here.1))
  asked-taken law (q ∷ h) all p here = ⊎_elim
      (λ is. says-on q h (recorded.taken (notarize p)) (due-taken law h all.1 p (subst (λ (x : Point S D P G C). Allowed g f s h x) is all.0)))
      (λ later. says-on q h (recorded.taken (notarize p)) (asked-taken law h all.1 p later))
      (Contains-cases q h (AsksCertify p) here)

  -- a recorded verdict above the last finalized view is kept
  verdict-kept : EachHistoryMatches S D P G C → (h : History S D P G C) → AreAllowed g f s h → (t : Round) (verdict : Bool) → finalized_of s h < t.view → HasJudged (entries (record_of h)) t verdict
      → HasJudged (entries (kept_of s.voter.length h)) t verdict
  verdict-kept law h all t verdict above judged =
      let x = Contains-mapped entry (record_of h) (recorded.judged t verdict) judged in
      let high : finalized_of s h < reach s.voter.length (entry x.0) = subst (λ (e : Entry D). finalized_of s h < reach s.voter.length e) (sym x.2) above in
      subst (λ (e : Entry D). Contains (entries (kept_of s.voter.length h)) e) x.2 (Contains-map entry (kept_of s.voter.length h) x.0 (above-kept g f s law h all x.0 x.1 high))

  -- and may be recorded, once
  pub verdict-may : EachHistoryMatches S D P G C → (h : History S D P G C) → AreAllowed g f s h → (r : Round) → r.epoch ≡ s.voter.epoch → IsAwaited s h r.view → MayJudge (entries (record_of h)) r
  verdict-may law h all r epoch awaited =
      let taken = asked-taken law h all awaited.proposal awaited.asked in
      let of_epoch : awaited.proposal.round.epoch ≡ r.epoch = notarized-epoch g f s h all awaited.proposal taken ∙ sym epoch in
      let same : awaited.proposal.round ≡ r = (λ i. record { epoch = of_epoch i; view = awaited.at i }) in
      record { notarized = (awaited.proposal, same, taken); first = λ t verdict at judged. awaited.first (t, verdict, at, verdict-kept law h all t verdict (omega (arith, at, awaited.above)) judged) }
