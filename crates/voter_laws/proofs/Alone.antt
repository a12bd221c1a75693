-- How a record stands on ground, also in a committee of one.
use Rattle.std.proofs.Common.{◌≡◌, ◌⊎◌, inl, inr, ⊎_elim, true, ℕ, List, Option, sym, ◌∙◌, subst, refl, ◌+◌, arith}
use Rattle.std.proofs.lemmas.Bool.{cases_eq}
use Rattle.std.proofs.lemmas.List.Elements.{Contains-append_left}
use Rattle.std.specs.Prelude.{Some, IsSome}
use Rattle.types_core.specs.declared.proposal.Proposal.{Proposal}
use Rattle.types_core.specs.Positions.{IsTermStart, term_start}
use Rattle.types_core.specs.Subject.{notarize, finalize}
use Rattle.simplex_record.specs.Record.{Entry, HasVoted, taken, judged}
use Rattle.simplex_record.specs.Chain.{IsGround}
use Rattle.voter_history.specs.Known.{Known}
use Rattle.voter_rules.specs.Ancestry.{Member, explicit, Leads, IsParent, IsPreferred, IsRequired}
use Rattle.voter_rules.specs.Requests.{CertifyIsDue}
use Rattle.voter_laws.specs.Matching.{Matches}
use Rattle.voter_laws.specs.Alone.{DueNotarizeIsOnGroundOrNext, DueVerdictOfOneIsOnGround, GroundStays}
use Rattle.voter_laws.proofs.Grounding.{ground_inside, ground_of}
use Rattle.voter_laws.proofs.Recordable.{kept_in, some_of}

module _ {D : Type 0} (m : Member) (k : Known D) (r : List (Entry D)) (matches : Matches m k r) where
  -- at a term's start the parent is ground, or the view before, which this member was to build on
  parent_or_next : (view parent i : ℕ) (payload : D) → m.me ≡ Some i → IsTermStart m.length view
      → IsParent m k view parent payload ⊎ (Leads m k view × IsPreferred m k view parent payload) → IsGround r parent ⊎ ((m.scheduled view ≡ Some i) × (view ≡ parent + 1))
  parent_or_next view parent i payload me start (inl rule) = inl (ground_of m k r matches parent payload (rule.supports.outside (λ window. window.inside start)))
  parent_or_next view parent i payload me start (inr (leads, inl before)) = absurd (before.inside start)
  parent_or_next view parent i payload me start (inr (leads, inr (inl last))) = inl (ground_of m k r matches parent payload last.there)
  parent_or_next view parent i payload me start (inr (leads, inr (inr over))) =
      inr (subst (λ (v : ℕ). m.scheduled v ≡ Some i) (sym over.next) (over.handoff.leads.named ∙ me), over.next)

  -- what was handed over to this member, which voted for it, waits for its parent
  handed_over : (view i : ℕ) (p : Proposal D) → m.me ≡ Some i → p.round.view ≡ view → HasVoted r (notarize p) → CertifyIsDue m k view p → m.scheduled view ≡ Some i → view ≡ p.parent + 1 → IsGround r p.parent
  handed_over view i p me at voted due named next =
      let kept = kept_in m k r matches p.round.view (omega (arith, at, due.opens.above)) in
      let own = subst (λ (v : ℕ). k.has_notarized v ≡ true) at (matches.own_notarize p voted kept) in
      let required : IsRequired m k view p.parent p.parent = record { next = next; early = λ start. (refl, record { some = subst (λ (o : Option ℕ). IsSome o) (sym me) refl; named = named ∙ sym me }, own) } in
      let some = some_of (explicit m k p.parent) (due.explicit p.parent required) in
      ground_of m k r matches p.parent some.0 some.1

pub due_notarize_is_on_ground_or_next : {D : Type 0} → DueNotarizeIsOnGroundOrNext D
due_notarize_is_on_ground_or_next m k r view i p me matches b due =
    let stands = due.steady (p, b.payload) b.bound in
    subst (λ (v : ℕ). IsTermStart m.length v → IsGround r p.parent ⊎ ((m.scheduled v ≡ Some i) × (v ≡ p.parent + 1))) (sym b.at)
    (λ start. parent_or_next m k r matches view p.parent i b.payload me start stands.parent)

pub due_verdict_of_one_is_on_ground : {D : Type 0} → DueVerdictOfOneIsOnGround D
due_verdict_of_one_is_on_ground {D} m k r view i p me matches voted votes due =
    let one = matches.notarized view p due.opens.notarized in (
      p,
      refl,
      one.1,
      λ asked. ⊎_elim
          (λ start. ⊎_elim
          (λ ground. ground)
          (λ over. handed_over m k r matches view i p me one.0 voted due (subst (λ (v : ℕ). m.scheduled v ≡ Some i) one.0 over.0) (sym one.0 ∙ over.1))
          (votes start))
          (λ within. ground_inside m k r matches view p due (subst (λ (v : ℕ). ¬ IsTermStart m.length v) one.0 within))
          (cases_eq p.round.view (term_start m.length p.round.view)),
    )

pub ground_stays : {D : Type 0} → GroundStays D
ground_stays before after view is = ⊎_elim
    (λ genesis. inl genesis)
    (λ explicit_. ⊎_elim
    (λ f. inr (inl (f.0, f.1, Contains-append_left before after (taken (finalize f.0)) f.2)))
    (λ v. inr (inr (v.0, v.1, Contains-append_left before after (judged v.0 true) v.2)))
    explicit_)
    is
