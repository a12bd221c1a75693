-- The repair and the voter have the same last finalized view.
use Rattle.std.proofs.Common.{◌≡◌, ℕ, Bool, true, false, List, [], ◌∷◌, ◌++◌, Option, Some, None, refl, ◌∙◌, ap, arith}
use Rattle.std.specs.Prelude.{if◌then◌else◌, max, option_map, option_to_list, unwrap_or}
use Rattle.messages_certificates.specs.declared.artifact.Artifact.{Artifact}
use Rattle.messages_certificates.specs.declared.artifact.Artifact.TheVariants as artifact
use Rattle.messages_certificates.specs.declared.certificate.Certificate.{Certificate}
use Rattle.messages_certificates.specs.declared.certificate.Certificate.TheVariants as certificate
use Rattle.simplex_messages.specs.declared.vote.Vote.TheVariants as vote
use Rattle.types_terms.specs.declared.kind.Kind.TheVariants as kind
use Rattle.voter_history.specs.History as views
use Rattle.voter_history.specs.History.{finalized, last_finalized, pruned, sent}
use Rattle.simplex_resolver.specs.RepairHistory as repair
use Rattle.simplex_resolver.specs.RepairHistory.{Item, item_of}
use Rattle.simplex_member.specs.Layers.{finalized_of, finalizes_above, finds, latest, repair_found, repair_items, repair_of, takes_certificate, takes_outcome, voter_of, voter_points}
use Rattle.simplex_member.specs.Packet.{Formats}
use Rattle.simplex_member.specs.Point.{Outcome, Counts, Falls, Passes, Point, Found, Began, Came, Built, Checked, Judged, Constructs, Votes, History}
use Rattle.simplex_member.specs.Setup.{Setup}

above-none : (n : ℕ) → max 0 n ≡ n
above-none n = omega arith

module _ {S D P G C : Type 0} where
  -- what comes to the voter and what comes to the repair finalize the same, whatever came before
  abbrev Agree : List (views.Point S D P G C) → List Item → Type 0
  Agree xs items = (h : List (views.Point S D P G C)) (r : List Item) → repair.finalized r ≡ last_finalized h → repair.finalized (items ++ r) ≡ last_finalized (xs ++ h)

  agree-pruned : (b : Bool) (xs : List (views.Point S D P G C)) (items : List Item) → Agree xs items → Agree ((if b then pruned ∷ [] else []) ++ xs) items
  agree-pruned true xs items agree h r e = agree h r e
  agree-pruned false xs items agree h r e = agree h r e

  agree-outcome : (now view : ℕ) (answer : Option Bool) (outcome : Outcome) → Agree (takes_outcome now view answer outcome) []
  agree-outcome now view (Some true) Counts h r e = e
  agree-outcome now view (Some false) Counts h r e = e
  agree-outcome now view None Counts h r e = e
  agree-outcome now view answer Falls h r e = e
  agree-outcome now view answer Passes h r e = e

  module _ (spelling : Certificate S D P G C → List ℕ) where
    agree-certificate : (now low : ℕ) (c : Certificate S D P G C) → Agree (takes_certificate now low c) (item_of spelling c ∷ [])
    agree-certificate now low (certificate.Notarization c) h r e = above-none (repair.finalized r) ∙ e
    agree-certificate now low (certificate.Nullification c) h r e = above-none (repair.finalized r) ∙ e
    agree-certificate now low (certificate.Finalization c) h r e =
        agree-pruned (finalizes_above low (certificate.Finalization c)) (sent kind.Finalization c.proposal.round.view ∷ finalized now c ∷ []) (item_of spelling (certificate.Finalization c) ∷ [])
        (λ k q same. ap (λ (n : ℕ). max c.proposal.round.view n) same) h r e

    agree-option : (now low : ℕ) (o : Option (Certificate S D P G C)) → Agree (unwrap_or (option_map (takes_certificate now low) o) []) (option_to_list (option_map (item_of spelling) o))
    agree-option now low None h r e = e
    agree-option now low (Some c) h r e = agree-certificate now low c h r e

module _ {S D P G C : Type 0} (f : Formats S D P G C) (s : Setup S D C) where
  agree-found : (before : History S D P G C) (now : ℕ) (x : Artifact S D P G C) (taken : Bool) → Agree (finds now x taken) (repair_found f before x)
  agree-found before now (artifact.Notarize v) taken h r e = e
  agree-found before now (artifact.Notarization c) taken h r e = above-none (repair.finalized r) ∙ e
  agree-found before now (artifact.Certification round ok) taken h r e = above-none (repair.finalized r) ∙ e
  agree-found before now (artifact.Nullify v) taken h r e = e
  agree-found before now (artifact.Nullification c) taken h r e = above-none (repair.finalized r) ∙ e
  agree-found before now (artifact.Finalize v) taken h r e = e
  agree-found before now (artifact.Finalization c) taken h r e = ap (λ (n : ℕ). max c.proposal.round.view n) e

  agree-point : (before : History S D P G C) (now low : ℕ) (p : Point S D P G C) → Agree (voter_points s now low p) (repair_items f before p)
  agree-point before now low (Found x taken) h r e = agree-found before now x taken h r e
  agree-point before now low Began h r e = above-none (repair.finalized r) ∙ e
  agree-point before now low (Came c) h r e = agree-certificate f.certificate now low c h r e
  agree-point before now low (Built number handoff context (Some payload) true) h r e = e
  agree-point before now low (Built number handoff context None true) h r e = e
  agree-point before now low (Built number handoff context payload false) h r e = e
  agree-point before now low (Checked number view answer outcome) h r e = agree-outcome now view answer outcome h r e
  agree-point before now low (Judged round ok) h r e = above-none (repair.finalized r) ∙ e
  agree-point before now low (Constructs view made batch) h r e = agree-option f.certificate now low batch.certificate h r e
  agree-point before now low (Votes (vote.Notarize v)) h r e = e
  agree-point before now low (Votes (vote.Nullify v)) h r e = e
  agree-point before now low (Votes (vote.Finalize v)) h r e = e
  agree-point before now low p h r e = e

  pub finalized-alike : (h : History S D P G C) → repair.finalized (repair_of f h) ≡ finalized_of s h
  finalized-alike [] = refl
  finalized-alike (p ∷ h) = agree-point h (latest (p ∷ h)) (last_finalized (voter_of s h)) p (voter_of s h) (repair_of f h) (finalized-alike h)
