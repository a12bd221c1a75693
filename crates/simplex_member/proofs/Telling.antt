-- The voter's part of a history says what is recorded.
use Rattle.std.proofs.Common.{◌≡◌, ⊎_elim, ℕ, Bool, true, false, List, [], ◌∷◌, ◌++◌, map, Option, Some, None, refl, sym, ◌∙◌, ap, arith}
use Rattle.std.specs.Prelude.{Contains, IfSome, if◌then◌else◌, option_map, option_to_list, unwrap_or, ⊤}
use mathlib.Core.List.{reverse, reverse-cons}
use Rattle.std.proofs.lemmas.Bool.{both_ways}
use Rattle.std.proofs.lemmas.List.{append-nil}
use Rattle.types_core.specs.declared.position.Round.{Round}
use Rattle.types_core.specs.declared.proposal.Proposal.{Proposal}
use Rattle.types_core.specs.declared.scheme.Scheme.{Ghosts}
use Rattle.types_core.specs.Subject.{notarize, nullify}
use Rattle.messages_certificates.specs.declared.artifact.Artifact.{Artifact}
use Rattle.messages_certificates.specs.declared.artifact.Artifact.TheVariants as artifact
use Rattle.messages_certificates.specs.declared.certificate.Certificate.{Certificate}
use Rattle.messages_certificates.specs.declared.certificate.Certificate.TheVariants as certificate
use Rattle.simplex_messages.specs.declared.vote.Vote.TheVariants as vote
use Rattle.messages_certificates.specs.Artifact.{certificate_artifact}
use Rattle.simplex_record.specs.Record as recorded
use Rattle.simplex_record.specs.Record.{Entry, entry, entries}
use Rattle.voter_history.specs.Past as past
use Rattle.types_terms.specs.declared.kind.Kind.TheVariants as kind
use Rattle.voter_history.specs.History as views
use Rattle.voter_history.specs.History.{finalized, pruned, sent, seen}
use Rattle.voter_laws.specs.Matching as matching
use Rattle.voter_laws.specs.Matching.{told}
use Rattle.simplex_member.specs.Allowed.{Allowed, AreAllowed, MayRecord}
use Rattle.simplex_member.specs.Layers.{finalizes_above, takes_certificate, takes_outcome, voter_of}
use Rattle.simplex_member.specs.Packet.{Formats}
use Rattle.simplex_member.specs.Point.{Outcome, Counts, Falls, Passes, Point, Found, Came, Built, Checked, Judged, Constructs, Votes, Repeats, History}
use Rattle.simplex_member.specs.Recorded.{record_of, recorded_by}
use Rattle.simplex_member.specs.Setup.{Setup}
use Rattle.simplex_member.proofs.Lists.{if-some, map-put, put-mapped}

module _ {S C : Type 0} (v : views.Setup S C) where
  -- a round of the epoch is the round of its view
  round-is : (r : Round) → r.epoch ≡ v.epoch → matching.round_of v r.view ≡ r
  round-is r e = λ i. record { epoch = sym e i; view = r.view }

module _ {S D P G C : Type 0} (v : views.Setup S C) where
  -- the points say this of the record, beside what those before them said
  abbrev Tells : List (views.Point S D P G C) → List (views.Point S D P G C) → List (Artifact S D P G C) → Type 0
  Tells xs h more = told v (xs ++ h) ≡ map entry more ++ told v h

  tells-pruned : (b : Bool) (xs h : List (views.Point S D P G C)) (more : List (Artifact S D P G C)) → Tells xs h more → Tells ((if b then pruned ∷ [] else []) ++ xs) h more
  tells-pruned true xs h more t = t
  tells-pruned false xs h more t = t

  tells-certificate : (now low : ℕ) (c : Certificate S D P G C) (h : List (views.Point S D P G C)) → Tells (takes_certificate now low c) h (certificate_artifact c ∷ [])
  tells-certificate now low (certificate.Notarization c) h = refl
  tells-certificate now low (certificate.Nullification c) h = refl
  tells-certificate now low (certificate.Finalization c) h =
      tells-pruned (finalizes_above low (certificate.Finalization c)) (sent kind.Finalization c.proposal.round.view ∷ finalized now c ∷ []) h (certificate_artifact (certificate.Finalization c) ∷ []) refl

  tells-option : (now low : ℕ) (o : Option (Certificate S D P G C)) (h : List (views.Point S D P G C)) → Tells (unwrap_or (option_map (takes_certificate now low) o) []) h (option_to_list (option_map certificate_artifact o))
  tells-option now low None h = refl
  tells-option now low (Some c) h = tells-certificate now low c h

  tells-outcome : (now view : ℕ) (answer : Option Bool) (outcome : Outcome) (h : List (views.Point S D P G C)) → Tells (takes_outcome now view answer outcome) h []
  tells-outcome now view (Some true) Counts h = refl
  tells-outcome now view (Some false) Counts h = refl
  tells-outcome now view None Counts h = refl
  tells-outcome now view answer Falls h = refl
  tells-outcome now view answer Passes h = refl

  -- a first nullify is told, and one more is not
  tells-nullify : (r : Round) (h : List (views.Point S D P G C)) → r.epoch ≡ v.epoch → past.has_nullified (seen v h r.view) ≡ false
      → told v (views.voted_nullify r.view ∷ h) ≡ recorded.voted (nullify r) ∷ told v h
  tells-nullify r h e first = rw first (ap (λ (x : Round). recorded.voted (nullify x) ∷ told v h) (round-is v r e))

  tells-again : (view : ℕ) (h : List (views.Point S D P G C)) → past.has_nullified (seen v h view) ≡ true → told v (views.voted_nullify view ∷ h) ≡ told v h
  tells-again view h again = rw again refl

-- an entry takes a notarization, and of which epoch
abbrev is_taken : {D : Type 0} → Entry D → Bool
is_taken (recorded.taken (notarize p)) = true
is_taken e = false

abbrev notarized_epoch : {D : Type 0} → Entry D → ℕ
notarized_epoch (recorded.taken (notarize p)) = p.round.epoch
notarized_epoch e = 0

pub apart : false ≡ true → ⊥
apart e = both_ways false refl e

module _ {S D P G C : Type 0} (g : Ghosts S D P G C) (f : Formats S D P G C) (s : Setup S D C) where
  -- each recorded verdict is of the epoch
  abbrev IsOfEpoch : Artifact S D P G C → Type 0
  IsOfEpoch (artifact.Certification r ok) = r.epoch ≡ s.voter.epoch
  IsOfEpoch x = ⊤

  tells-point : (h : History S D P G C) (p : Point S D P G C) → Allowed g f s h p → IfSome (recorded_by p) IsOfEpoch
      → told s.voter (voter_of s (p ∷ h)) ≡ map entry (option_to_list (recorded_by p)) ++ told s.voter (voter_of s h)
  tells-point h (Found (artifact.Notarize w) taken) a e = refl
  tells-point h (Found (artifact.Notarization c) taken) a e = refl
  tells-point h (Found (artifact.Certification r ok) taken) a e = ap (λ (x : Round). recorded.judged x ok ∷ told s.voter (voter_of s h)) (round-is s.voter r e)
  tells-point h (Found (artifact.Nullify w) taken) a e = ap (λ (x : Round). recorded.voted (nullify x) ∷ told s.voter (voter_of s h)) (round-is s.voter w.round a.fits.verifies.epoch)
  tells-point h (Found (artifact.Nullification c) taken) a e = refl
  tells-point h (Found (artifact.Finalize w) taken) a e = refl
  tells-point h (Found (artifact.Finalization c) taken) a e = refl
  tells-point h (Came c) a e = tells-certificate s.voter _ _ c (voter_of s h)
  tells-point h (Built number handoff context (Some d) true) a e = refl
  tells-point h (Built number handoff context None true) a e = refl
  tells-point h (Built number handoff context payload false) a e = refl
  tells-point h (Checked number view answer outcome) a e = tells-outcome s.voter _ view answer outcome (voter_of s h)
  tells-point h (Judged r ok) a e = ap (λ (x : Round). recorded.judged x ok ∷ told s.voter (voter_of s h)) (round-is s.voter r e)
  tells-point h (Constructs view kind batch) a e = tells-option s.voter _ _ batch.certificate (voter_of s h)
  tells-point h (Votes (vote.Notarize w)) a e = refl
  tells-point h (Votes (vote.Nullify w)) a e = tells-nullify s.voter w.round (voter_of s h) a.fits.verifies.epoch a.due.2
  tells-point h (Votes (vote.Finalize w)) a e = refl
  tells-point h (Repeats w best) a e = tells-again s.voter w.round.view (voter_of s h) a.due.due.2
  tells-point h p a e = refl

  -- ---- the epoch of recorded verdicts

  -- a certificate that may be recorded is of the epoch
  taken-epoch : (h : History S D P G C) (x : Artifact S D P G C) → MayRecord g f s h x → (p : Proposal D) → entry x ≡ recorded.taken (notarize p) → p.round.epoch ≡ s.voter.epoch
  taken-epoch h (artifact.Notarize w) may p is = absurd (apart (ap is_taken is))
  taken-epoch h (artifact.Notarization c) may p is = ap notarized_epoch (sym is) ∙ may.verifies.epoch
  taken-epoch h (artifact.Certification r ok) may p is = absurd (apart (ap is_taken is))
  taken-epoch h (artifact.Nullify w) may p is = absurd (apart (ap is_taken is))
  taken-epoch h (artifact.Nullification c) may p is = absurd (apart (ap is_taken is))
  taken-epoch h (artifact.Finalize w) may p is = absurd (apart (ap is_taken is))
  taken-epoch h (artifact.Finalization c) may p is = absurd (apart (ap is_taken is))

  -- what the record notarizes is of the epoch
  pub notarized-epoch : (h : History S D P G C) → AreAllowed g f s h → (p : Proposal D) → Contains (entries (record_of h)) (recorded.taken (notarize p)) → p.round.epoch ≡ s.voter.epoch
  notarized-epoch [] all p here = absurd (omega (arith, here.1))
  notarized-epoch (q ∷ h) all p here = ⊎_elim
      (λ before. notarized-epoch h all.1 p before)
      (λ now. taken-epoch h now.0 (if-some (MayRecord g f s h) (recorded_by q) now.0 all.0.fits now.1) p now.2)
      (put-mapped entry (record_of h) (recorded_by q) (recorded.taken (notarize p)) here)

  -- so is each recorded verdict
  verdict-epoch : (h : History S D P G C) → AreAllowed g f s h → (o : Option (Artifact S D P G C)) → IfSome o (MayRecord g f s h) → IfSome o IsOfEpoch
  verdict-epoch h allowed (Some (artifact.Certification r ok)) may =
      let n = may.follows.notarized in
      ap (λ (t : Round). t.epoch) (sym n.1) ∙ notarized-epoch h allowed n.0 n.2
  verdict-epoch h allowed (Some (artifact.Notarize v)) may = tt
  verdict-epoch h allowed (Some (artifact.Notarization c)) may = tt
  verdict-epoch h allowed (Some (artifact.Nullify v)) may = tt
  verdict-epoch h allowed (Some (artifact.Nullification c)) may = tt
  verdict-epoch h allowed (Some (artifact.Finalize v)) may = tt
  verdict-epoch h allowed (Some (artifact.Finalization c)) may = tt
  verdict-epoch h allowed None may = tt

  -- ---- all together

  reverse-put : (o : Option (Artifact S D P G C)) (es : List (Entry D)) → reverse (map entry (option_to_list o) ++ es) ≡ reverse es ++ map entry (option_to_list o)
  reverse-put None es = sym (append-nil (reverse es))
  reverse-put (Some x) es = reverse-cons (entry x) es

  -- the voter's record is the node's
  pub tells-record : (h : History S D P G C) → AreAllowed g f s h → matching.record_of s.voter (voter_of s h) ≡ entries (record_of h)
  tells-record [] all = refl
  tells-record (p ∷ h) all =
      ap (λ (es : List (Entry D)). reverse es) (tells-point h p all.0 (verdict-epoch h all.1 (recorded_by p) all.0.fits))
      ∙ (reverse-put (recorded_by p) (told s.voter (voter_of s h))
      ∙ (ap (λ (es : List (Entry D)). es ++ map entry (option_to_list (recorded_by p))) (tells-record h all.1)
      ∙ sym (map-put entry (record_of h) (recorded_by p))))
