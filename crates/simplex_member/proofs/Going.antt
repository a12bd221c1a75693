-- What holds along points that are allowed.
use Rattle.std.proofs.Common.{◌≡◌, List, [], ◌∷◌, ◌++◌, Option, Some, None, sym, ◌∙◌, ap, subst, append_assoc}
use Rattle.std.specs.Prelude.{MatchOption, option_to_list}
use Rattle.std.proofs.lemmas.List.{append-nil}
use Rattle.types_core.specs.declared.scheme.Scheme.{Ghosts}
use Rattle.messages_certificates.specs.declared.artifact.Artifact.{Artifact}
use Rattle.simplex_record.specs.Lawful.{IsLawful}
use Rattle.simplex_member.specs.declared.event.Event.{Event}
use Rattle.simplex_member.specs.declared.action.Action.{Action}
use Rattle.simplex_member.specs.declared.action.Reply.{Reply}
use Rattle.simplex_member.specs.declared.refusal.Refusal.{Refusal}
use Rattle.simplex_member.specs.Allowed.{AreAllowed}
use Rattle.simplex_member.specs.Deeds.{AreActions}
use Rattle.simplex_member.specs.Laws.{RecordLaws}
use Rattle.simplex_member.specs.Member.{Goes, Run, Takes}
use Rattle.simplex_member.specs.Packet.{Formats}
use Rattle.simplex_member.specs.Point.{Point, History}
use Rattle.simplex_member.specs.Recorded.{record_of, recorded_by}
use Rattle.simplex_member.specs.Refusals.{refused_deeds}
use Rattle.simplex_member.specs.Setup.{Setup, owner_of}
use Rattle.simplex_member.proofs.Growing.{lawful-put}
use Rattle.simplex_member.proofs.Lists.{put-list}

module _ {S D P G C : Type 0} (g : Ghosts S D P G C) (f : Formats S D P G C) (s : Setup S D C) where
  abbrev pub Lawful : List (Artifact S D P G C) → Type 0
  Lawful r = IsLawful (g.attests s.voter.scheme) (g.certifies s.voter.scheme) (owner_of s) r

  -- allowed points keep a record lawful
  pub goes-lawful : RecordLaws g → (h : History S D P G C) (points : List (Point S D P G C)) (end : History S D P G C) → Goes g f s h points end → Lawful (record_of h) → Lawful (record_of end)
  goes-lawful grows h [] end goes lawful = subst (λ (e : History S D P G C). Lawful (record_of e)) (sym goes) lawful
  goes-lawful grows h (p ∷ points) end goes lawful =
      goes-lawful grows (p ∷ h) points end goes.1 (lawful-put g grows s.voter.scheme (owner_of s) (record_of h) (recorded_by p) lawful goes.0.fits)

  pub allowed-lawful : RecordLaws g → (h : History S D P G C) → AreAllowed g f s h → Lawful (record_of h)
  allowed-lawful grows [] all = grows.first s.voter.scheme (owner_of s)
  allowed-lawful grows (p ∷ h) all = lawful-put g grows s.voter.scheme (owner_of s) (record_of h) (recorded_by p) (allowed-lawful grows h all.1) all.0.fits

  -- from nothing on it is lawful
  pub begun-lawful : RecordLaws g → (points : List (Point S D P G C)) (end : History S D P G C) → Goes g f s [] points end → Lawful (record_of end)
  begun-lawful grows points end goes = goes-lawful grows [] points end goes (grows.first s.voter.scheme (owner_of s))

  -- the record only grows
  pub goes-grow : (h : History S D P G C) (points : List (Point S D P G C)) (end : History S D P G C) → Goes g f s h points end → (more : List (Artifact S D P G C)) × (record_of end ≡ record_of h ++ more)
  goes-grow h [] end goes = ([], ap record_of goes ∙ sym (append-nil (record_of h)))
  goes-grow h (p ∷ points) end goes =
      let later = goes-grow (p ∷ h) points end goes.1 in
      let now = option_to_list (recorded_by p) in
      (now ++ later.0, later.1 ∙ (ap (λ (l : List (Artifact S D P G C)). l ++ later.0) (put-list (record_of h) (recorded_by p)) ∙ append_assoc (record_of h) now later.0))

  -- one stretch behind another
  pub goes-then : (h : History S D P G C) (points : List (Point S D P G C)) (mid : History S D P G C) (more : List (Point S D P G C)) (end : History S D P G C) → Goes g f s h points mid → Goes g f s mid more end → Goes g f s h (points ++ more) end
  goes-then h [] mid more end is goes = subst (λ (m : History S D P G C). Goes g f s m more end) is goes
  goes-then h (p ∷ points) mid more end first goes = (first.0, goes-then (p ∷ h) points mid more end first.1 goes)

  -- a step goes, and so does a run
  step-goes : (h end : History S D P G C) (e : Event D) (actions : List (Action S D P G C)) (refused : Option Refusal)
      → MatchOption refused (Takes g f s h e actions end) (λ r. (end ≡ h) × AreActions f actions (refused_deeds g f s h e r)) → (points : List (Point S D P G C)) × Goes g f s h points end
  step-goes h end e actions None takes = (takes.points, takes.rests.goes)
  step-goes h end e actions (Some r) is = ([], is.0)

  pub run-goes : (h : History S D P G C) (events : List (Event D)) (replies : List (Reply S D P G C)) (end : History S D P G C) → Run g f s h events replies end → (points : List (Point S D P G C)) × Goes g f s h points end
  run-goes h [] [] end is = ([], is)
  run-goes h (e ∷ events) (reply ∷ replies) end run =
      let first = step-goes h run.0 e reply.actions.items reply.refused run.1.1 in
      let rest = run-goes run.0 events replies end run.2 in
      (first.0 ++ rest.0, goes-then h first.0 run.0 rest.0 end first.1 rest.1)
  run-goes h [] (reply ∷ replies) end never = absurd never
  run-goes h (e ∷ events) [] end never = absurd never
