-- Each proposal that came to the voter is of the epoch and of its view.
use Rattle.std.proofs.Common.{◌≡◌, ⊎_elim, ℕ, Bool, true, false, List, [], ◌∷◌, ◌++◌, Option, Some, None, sym, ◌∙◌, ap}
use Rattle.std.specs.Prelude.{IfSome, if◌then◌else◌, option_map, unwrap_or}
use Rattle.std.proofs.lemmas.Option.{none-some}
use Rattle.types_core.specs.declared.context.Context.{Context}
use Rattle.types_core.specs.declared.scheme.Scheme.{Ghosts}
use Rattle.messages_certificates.specs.declared.artifact.Artifact.{Artifact}
use Rattle.messages_certificates.specs.declared.artifact.Artifact.TheVariants as artifact
use Rattle.messages_certificates.specs.declared.certificate.Certificate.{Certificate}
use Rattle.messages_certificates.specs.declared.certificate.Certificate.TheVariants as certificate
use Rattle.messages_certificates.specs.Artifact.{certificate_artifact}
use Rattle.messages_certificates.specs.Certificate.{certificate_round}
use Rattle.simplex_messages.specs.declared.vote.Vote.TheVariants as vote
use Rattle.types_terms.specs.declared.kind.Kind.TheVariants as kind
use Rattle.voter_history.specs.History as views
use Rattle.voter_history.specs.History.{finalized, pruned, sent}
use Rattle.voter_laws.specs.Placing.{AreOfTheirViews}
use Rattle.simplex_member.specs.Allowed.{Allowed, AreAllowed, MayRecord}
use Rattle.simplex_member.specs.Asked.{build_at}
use Rattle.simplex_member.specs.Laws.{RoundLaws}
use Rattle.simplex_member.specs.Layers.{finalizes_above, finds, latest, takes_certificate, takes_outcome, voter_of}
use Rattle.simplex_member.specs.Packet.{Formats}
use Rattle.simplex_member.specs.Point.{Outcome, Counts, Falls, Passes, Point, Opened, Found, Began, Came, Built, Checked, Judged, Forwards, Constructs, Latches, Polls, AsksBuild, AsksVerify, AsksCertify, GivesBack, LeavesBehind, PutsOff, Resolves, Votes, Repeats, Rewrote, History}
use Rattle.simplex_member.specs.Setup.{Setup}
use Rattle.simplex_member.proofs.Ballots.{certificate-epoch}
use Rattle.simplex_member.proofs.Binding.{forwarded-round, gone, under}

module _ {S D P G C : Type 0} (v : views.Setup S C) where
  placed-pruned : (b : Bool) (xs h : List (views.Point S D P G C)) → AreOfTheirViews v (xs ++ h) → AreOfTheirViews v (((if b then pruned ∷ [] else []) ++ xs) ++ h)
  placed-pruned true xs h placed = (tt, placed)
  placed-pruned false xs h placed = placed

  placed-certificate : (now low : ℕ) (c : Certificate S D P G C) (h : List (views.Point S D P G C)) → (certificate_round c).epoch ≡ v.epoch → AreOfTheirViews v h → AreOfTheirViews v (takes_certificate now low c ++ h)
  placed-certificate now low (certificate.Notarization c) h epoch placed = (tt, (epoch, placed))
  placed-certificate now low (certificate.Nullification c) h epoch placed = (tt, (tt, placed))
  placed-certificate now low (certificate.Finalization c) h epoch placed =
      placed-pruned (finalizes_above low (certificate.Finalization c)) (sent kind.Finalization c.proposal.round.view ∷ finalized now c ∷ []) h (tt, (epoch, placed))

  placed-option : (now low : ℕ) (o : Option (Certificate S D P G C)) (h : List (views.Point S D P G C)) → IfSome o (λ c. (certificate_round c).epoch ≡ v.epoch) → AreOfTheirViews v h
      → AreOfTheirViews v (unwrap_or (option_map (takes_certificate now low) o) [] ++ h)
  placed-option now low None h epoch placed = placed
  placed-option now low (Some c) h epoch placed = placed-certificate now low c h epoch placed

  placed-outcome : (now view : ℕ) (answer : Option Bool) (outcome : Outcome) (h : List (views.Point S D P G C)) → AreOfTheirViews v h → AreOfTheirViews v (takes_outcome now view answer outcome ++ h)
  placed-outcome now view (Some true) Counts h placed = (tt, placed)
  placed-outcome now view (Some false) Counts h placed = (tt, placed)
  placed-outcome now view None Counts h placed = (tt, placed)
  placed-outcome now view answer Falls h placed = (tt, placed)
  placed-outcome now view answer Passes h placed = placed

module _ {S D P G C : Type 0} (g : Ghosts S D P G C) (f : Formats S D P G C) (s : Setup S D C) where
  -- a build that stands was asked for in the epoch
  build-epoch : (h : History S D P G C) → AreAllowed g f s h → (number : ℕ) (handoff : Bool) (context : Context D P) → build_at h number ≡ Some (handoff, context) → context.round.epoch ≡ s.voter.epoch
  build-epoch [] all number handoff context is = absurd (none-some (handoff, context) is)
  build-epoch (AsksBuild n given asked ∷ h) all number handoff context is = ⊎_elim
      (λ new. ap (λ (b : Bool × Context D P). b.1.round.epoch) (sym new.1) ∙ all.0.due.names.epoch)
      (λ old. build-epoch h all.1 number handoff context old)
      (under n number (given, asked) (handoff, context) (build_at h number) is)
  build-epoch (Built n given asked payload took ∷ h) all number handoff context is = build-epoch h all.1 number handoff context (gone n number (handoff, context) (build_at h number) is).1
  build-epoch (GivesBack n view ∷ h) all number handoff context is = build-epoch h all.1 number handoff context (gone n number (handoff, context) (build_at h number) is).1
  build-epoch (LeavesBehind n ∷ h) all number handoff context is = build-epoch h all.1 number handoff context (gone n number (handoff, context) (build_at h number) is).1
  build-epoch (p ∷ h) all number handoff context is = build-epoch h all.1 number handoff context is

  -- a certificate that may be recorded is of the epoch
  made-epoch : (h : History S D P G C) (o : Option (Certificate S D P G C)) → IfSome (option_map certificate_artifact o) (MayRecord g f s h) → IfSome o (λ c. (certificate_round c).epoch ≡ s.voter.epoch)
  made-epoch h None may = tt
  made-epoch h (Some c) may = certificate-epoch g f s h c may

  placed-found : (now : ℕ) (h : History S D P G C) (x : Artifact S D P G C) (taken : Bool) → MayRecord g f s h x → AreOfTheirViews s.voter (voter_of s h) → AreOfTheirViews s.voter (finds now x taken ++ voter_of s h)
  placed-found now h (artifact.Notarize w) taken may placed = (may.verifies.epoch, placed)
  placed-found now h (artifact.Notarization c) taken may placed = (may.verifies.epoch, (tt, placed))
  placed-found now h (artifact.Certification r ok) taken may placed = (tt, (tt, placed))
  placed-found now h (artifact.Nullify w) taken may placed = (tt, placed)
  placed-found now h (artifact.Nullification c) taken may placed = (tt, (tt, placed))
  placed-found now h (artifact.Finalize w) taken may placed = (tt, placed)
  placed-found now h (artifact.Finalization c) taken may placed = (may.verifies.epoch, (tt, placed))

  module _ (laws : RoundLaws g f.same) where
    placed-point : (p : Point S D P G C) (h : History S D P G C) → Allowed g f s h p → AreAllowed g f s h → AreOfTheirViews s.voter (voter_of s h) → AreOfTheirViews s.voter (voter_of s (p ∷ h))
    placed-point (Opened t) h a all placed = (tt, placed)
    placed-point (Found x taken) h a all placed = placed-found (latest h) h x taken a.fits placed
    placed-point Began h a all placed = (tt, placed)
    placed-point (Came c) h a all placed = placed-certificate s.voter _ _ c (voter_of s h) (certificate-epoch g f s h c a.fits) placed
    placed-point (Built number handoff context (Some payload) true) h a all placed = (build-epoch h all number handoff context a.due.0, placed)
    placed-point (Built number handoff context None true) h a all placed = (tt, placed)
    placed-point (Built number handoff context payload false) h a all placed = placed
    placed-point (Checked number view answer outcome) h a all placed = placed-outcome s.voter _ view answer outcome (voter_of s h) placed
    placed-point (Judged r ok) h a all placed = (tt, placed)
    placed-point (Forwards view p) h a all placed = (forwarded-round g f s laws h all view p a, placed)
    placed-point (Constructs view made batch) h a all placed = placed-option s.voter _ _ batch.certificate (voter_of s h) (made-epoch h batch.certificate a.fits) placed
    placed-point (Latches view why) h a all placed = (tt, placed)
    placed-point Polls h a all placed = (tt, placed)
    placed-point (AsksBuild number handoff context) h a all placed = (tt, placed)
    placed-point (AsksVerify number context p) h a all placed = (tt, placed)
    placed-point (AsksCertify p) h a all placed = (tt, placed)
    placed-point (GivesBack number view) h a all placed = (tt, placed)
    placed-point (PutsOff view) h a all placed = (tt, placed)
    placed-point (Resolves view lacks u) h a all placed = (tt, placed)
    placed-point (Votes (vote.Notarize w)) h a all placed = (tt, placed)
    placed-point (Votes (vote.Nullify w)) h a all placed = (tt, placed)
    placed-point (Votes (vote.Finalize w)) h a all placed = (tt, placed)
    placed-point (Repeats w best) h a all placed = (tt, placed)
    placed-point (Rewrote c) h a all placed = (tt, placed)
    placed-point p h a all placed = placed

    pub all-placed : (h : History S D P G C) → AreAllowed g f s h → AreOfTheirViews s.voter (voter_of s h)
    all-placed [] all = tt
    all-placed (p ∷ h) all = placed-point p h all.0 all.1 (all-placed h all.1)
