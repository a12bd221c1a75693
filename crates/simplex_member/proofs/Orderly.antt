-- The voter's part of a history is orderly.
use Rattle.std.proofs.Common.{◌≡◌, ℕ, Bool, true, false, List, [], ◌∷◌, ◌++◌, Option, Some, None, refl}
use Rattle.std.specs.Prelude.{if◌then◌else◌, option_map, unwrap_or, ⊤}
use Rattle.types_core.specs.declared.scheme.Scheme.{Ghosts}
use Rattle.messages_certificates.specs.declared.artifact.Artifact.TheVariants as artifact
use Rattle.messages_certificates.specs.declared.certificate.Certificate.{Certificate}
use Rattle.messages_certificates.specs.declared.certificate.Certificate.TheVariants as certificate
use Rattle.simplex_messages.specs.declared.vote.Vote.TheVariants as vote
use Rattle.voter_history.specs.History as views
use Rattle.voter_history.specs.History.{finalized, voted_notarize, voted_finalize, sent, pruned}
use Rattle.voter_laws.specs.Matching.{OwnWereTaken}
use Rattle.types_terms.specs.declared.kind.Kind.TheVariants as kind
use Rattle.simplex_member.specs.Allowed.{Allowed, AreAllowed}
use Rattle.simplex_member.specs.Layers.{finalizes_above, takes_certificate, takes_outcome, voter_of}
use Rattle.simplex_member.specs.Packet.{Formats}
use Rattle.simplex_member.specs.Point.{Outcome, Counts, Falls, Passes, Point, Found, Came, Built, Checked, Constructs, Votes, History}
use Rattle.simplex_member.specs.Setup.{Setup}

module _ {S D P G C : Type 0} where
  -- votes are on proposals of their views
  abbrev pub AreInPlace : List (views.Point S D P G C) → Type 0
  AreInPlace [] = ⊤
  AreInPlace (voted_notarize view p ∷ h) = (p.round.view ≡ view) × AreInPlace h
  AreInPlace (voted_finalize view p ∷ h) = (p.round.view ≡ view) × AreInPlace h
  AreInPlace (x ∷ h) = AreInPlace h

  -- so are all but the first
  pub place-behind : (x : views.Point S D P G C) (h : List (views.Point S D P G C)) → AreInPlace (x ∷ h) → AreInPlace h
  place-behind (voted_notarize view p) h place = place.1
  place-behind (voted_finalize view p) h place = place.1
  place-behind x h place = place

  module _ (v : views.Setup S C) where
    abbrev Taken : List (views.Point S D P G C) → Type 0
    Taken h = OwnWereTaken v h × AreInPlace h

    taken-pruned : (b : Bool) (xs h : List (views.Point S D P G C)) → Taken (xs ++ h) → Taken (((if b then pruned ∷ [] else []) ++ xs) ++ h)
    taken-pruned true xs h t = t
    taken-pruned false xs h t = t

    taken-certificate : (now low : ℕ) (c : Certificate S D P G C) (h : List (views.Point S D P G C)) → Taken h → Taken (takes_certificate now low c ++ h)
    taken-certificate now low (certificate.Notarization c) h t = t
    taken-certificate now low (certificate.Nullification c) h t = t
    taken-certificate now low (certificate.Finalization c) h t = taken-pruned (finalizes_above low (certificate.Finalization c)) (sent kind.Finalization c.proposal.round.view ∷ finalized now c ∷ []) h t

    taken-option : (now low : ℕ) (o : Option (Certificate S D P G C)) (h : List (views.Point S D P G C)) → Taken h → Taken (unwrap_or (option_map (takes_certificate now low) o) [] ++ h)
    taken-option now low None h t = t
    taken-option now low (Some c) h t = taken-certificate now low c h t

    taken-outcome : (now view : ℕ) (answer : Option Bool) (outcome : Outcome) (h : List (views.Point S D P G C)) → Taken h → Taken (takes_outcome now view answer outcome ++ h)
    taken-outcome now view (Some true) Counts h t = t
    taken-outcome now view (Some false) Counts h t = t
    taken-outcome now view None Counts h t = t
    taken-outcome now view answer Falls h t = t
    taken-outcome now view answer Passes h t = t

module _ {S D P G C : Type 0} (g : Ghosts S D P G C) (f : Formats S D P G C) (s : Setup S D C) where
  taken-point : (h : History S D P G C) (p : Point S D P G C) → Allowed g f s h p → Taken s.voter (voter_of s h) → Taken s.voter (voter_of s (p ∷ h))
  taken-point h (Found (artifact.Notarize v) taken) a t = ((a.due.0, t.0), t.1)
  taken-point h (Found (artifact.Notarization c) taken) a t = t
  taken-point h (Found (artifact.Certification r ok) taken) a t = t
  taken-point h (Found (artifact.Nullify v) taken) a t = t
  taken-point h (Found (artifact.Nullification c) taken) a t = t
  taken-point h (Found (artifact.Finalize v) taken) a t = t
  taken-point h (Found (artifact.Finalization c) taken) a t = t
  taken-point h (Came c) a t = taken-certificate s.voter _ _ c (voter_of s h) t
  taken-point h (Built number handoff context (Some d) true) a t = (((a.due.1.0 refl).agrees, t.0), t.1)
  taken-point h (Built number handoff context None true) a t = t
  taken-point h (Built number handoff context payload false) a t = t
  taken-point h (Checked number view answer outcome) a t = taken-outcome s.voter _ view answer outcome (voter_of s h) t
  taken-point h (Constructs view kind batch) a t = taken-option s.voter _ _ batch.certificate (voter_of s h) t
  taken-point h (Votes (vote.Notarize v)) a t = (t.0, (refl, t.1))
  taken-point h (Votes (vote.Nullify v)) a t = t
  taken-point h (Votes (vote.Finalize v)) a t = (t.0, (refl, t.1))
  taken-point h p a t = t

  pub all-taken : (h : History S D P G C) → AreAllowed g f s h → Taken s.voter (voter_of s h)
  all-taken [] all = (tt, tt)
  all-taken (p ∷ h) all = taken-point h p all.0 (all-taken h all.1)
