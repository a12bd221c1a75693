-- What an act adds to what happened to the views.
use Rattle.std.proofs.Common.{◌≡◌, ℕ, Bool, true, false, List, [], ◌∷◌, ◌++◌, Option, Some, None, refl, ap}
use Rattle.std.specs.Prelude.{if◌then◌else◌, option_map, unwrap_or}
use Rattle.messages_certificates.specs.declared.certificate.Certificate.{Certificate}
use Rattle.messages_certificates.specs.declared.certificate.Certificate.TheVariants as certificate
use Rattle.messages_certificates.specs.declared.nullify.Nullify.{Nullify}
use Rattle.simplex_messages.specs.declared.vote.Vote.TheVariants as vote
use Rattle.types_terms.specs.declared.kind.Kind.TheVariants as kind
use Rattle.voter_history.specs.Past as past
use Rattle.voter_history.specs.History as views
use Rattle.voter_history.specs.History.{finalized, pruned, sent}
use Rattle.simplex_resolver.specs.declared.ask.Kind as repair
use Rattle.simplex_member.specs.Layers.{finalizes_above, latest, takes_certificate, voter_points}
use Rattle.simplex_member.specs.Point.{Point, Opened, Found, Began, Told, Heard, Came, Wanted, Built, Checked, Judged, Leads, Forwards, Constructs, Latches, Polls, AsksBuild, AsksVerify, AsksCertify, GivesBack, LeavesBehind, PutsOff, Asks, Resolves, Votes, Repeats, Rewrote, History, is_act}
use Rattle.simplex_member.specs.Setup.{Setup}
use Rattle.simplex_member.proofs.Staying.{AllAdd}
use Rattle.simplex_member.proofs.Telling.{apart}

module _ {S D P G C : Type 0} (Null : Type 0) (Ahead : ℕ → Type 0) (Asked : Type 0) (s : Setup S D C) (view : ℕ) where
  abbrev Add : List (views.Point S D P G C) → Type 0
  Add xs = AllAdd Null Ahead Asked s.voter view xs

  adds-pruned : (b : Bool) (xs : List (views.Point S D P G C)) → Add xs → Add ((if b then pruned ∷ [] else []) ++ xs)
  adds-pruned true xs adds = (tt, adds)
  adds-pruned false xs adds = adds

  adds-certificate : (now low : ℕ) (c : Certificate S D P G C) → Add (takes_certificate now low c)
  adds-certificate now low (certificate.Notarization c) = (tt, (tt, tt))
  adds-certificate now low (certificate.Nullification c) = (tt, (tt, tt))
  adds-certificate now low (certificate.Finalization c) = adds-pruned (finalizes_above low (certificate.Finalization c)) (sent kind.Finalization c.proposal.round.view ∷ finalized now c ∷ []) (tt, (tt, tt))

  adds-made : (now low : ℕ) (o : Option (Certificate S D P G C)) → Add (unwrap_or (option_map (takes_certificate now low) o) [])
  adds-made now low None = tt
  adds-made now low (Some c) = adds-certificate now low c

  -- an own nullify is voted, or sent again; the next timeout is polled; something that a proposal lacks was asked for: and else nothing of these
  pub record AreMet (now : ℕ) (p : Point S D P G C) : Type 0 where
    pub votes : (v : Nullify S D P G C) → p ≡ Votes (vote.Nullify v) → v.round.view ≡ view → Null
    pub repeats : (v : Nullify S D P G C) (best : Option (Certificate S D P G C)) → p ≡ Repeats v best → v.round.view ≡ view → Null
    pub polls : p ≡ Polls → Ahead (past.deadline now s.voter.timeout_retry)
    pub resolves : (k : repair.Kind) (u : ℕ) → p ≡ Resolves view k u → Asked

  pub act-adds : (p : Point S D P G C) (h : History S D P G C) (low : ℕ) → is_act p ≡ true → AreMet (latest h) p → Add (voter_points s (latest (p ∷ h)) low p)
  act-adds (Opened now) h low own met = absurd (apart own)
  act-adds (Found x taken) h low own met = absurd (apart own)
  act-adds Began h low own met = absurd (apart own)
  act-adds (Told now) h low own met = absurd (apart own)
  act-adds (Heard v) h low own met = absurd (apart own)
  act-adds (Came c) h low own met = absurd (apart own)
  act-adds (Wanted member asked) h low own met = absurd (apart own)
  act-adds (Built number handoff context payload took) h low own met = absurd (apart own)
  act-adds (Checked number at answer outcome) h low own met = absurd (apart own)
  act-adds (Judged r ok) h low own met = absurd (apart own)
  act-adds (Leads at i) h low own met = tt
  act-adds (Forwards at p) h low own met = (tt, tt)
  act-adds (Constructs at k batch) h low own met = adds-made (latest h) low batch.certificate
  act-adds (Latches at why) h low own met = (tt, tt)
  act-adds Polls h low own met = (met.polls refl, tt)
  act-adds (AsksBuild number handoff context) h low own met = (tt, tt)
  act-adds (AsksVerify number context p) h low own met = (tt, tt)
  act-adds (AsksCertify p) h low own met = (tt, tt)
  act-adds (GivesBack number at) h low own met = (tt, tt)
  act-adds (LeavesBehind number) h low own met = tt
  act-adds (PutsOff at) h low own met = (tt, tt)
  act-adds (Asks at ask to) h low own met = tt
  act-adds (Resolves at k u) h low own met = (λ same. met.resolves k u (ap (λ (n : ℕ). Resolves n k u) same), tt)
  act-adds (Votes (vote.Notarize v)) h low own met = (tt, tt)
  act-adds (Votes (vote.Nullify v)) h low own met = (met.votes v refl, tt)
  act-adds (Votes (vote.Finalize v)) h low own met = (tt, tt)
  act-adds (Repeats v best) h low own met = (met.repeats v best refl, tt)
  act-adds (Rewrote c) h low own met = absurd (apart own)
