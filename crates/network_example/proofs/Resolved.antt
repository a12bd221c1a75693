-- A history of a member that leads alone, at which nothing is due: by what is known of its views.
use Rattle.std.proofs.Common.{◌≡◌, ◌≢◌, inr, ⊎_elim, ℕ, ◌<◌, Bool, true, false, Option, Some, None, sym, ◌∙◌, ap, subst}
use Rattle.std.specs.Prelude.{◌&&◌, Contains, if◌then◌else◌, is_some, option_map}
use Rattle.std.proofs.lemmas.Bool.{both_ways}
use Rattle.types_core.specs.declared.context.Context.{Context}
use Rattle.types_core.specs.declared.proposal.Proposal.{Proposal}
use Rattle.types_core.specs.declared.scheme.Scheme.{Ghosts}
use Rattle.messages_certificates.specs.ProposalCertificate.{Notarization}
use Rattle.voter_history.specs.declared.timeout_reason.TimeoutReason.{TimeoutReason}
use Rattle.voter_history.specs.declared.timeout_reason.TimeoutReason.TheVariants as reason
use Rattle.voter_history.specs.Held.{IsConfirmed}
use Rattle.voter_history.specs.History.{seen}
use Rattle.voter_history.specs.Leaders.{leader}
use Rattle.voter_history.specs.Past as past
use Rattle.voter_rules.specs.GivingUp.{NullifyIsDue}
use Rattle.voter_rules.specs.Requests.{BuildIsDue, VerdictIsOpen, WaitsForParent}
use Rattle.voter_laws.specs.Missing.{IsMissing}
use Rattle.batcher_verifier.specs.History.{forwardable, leader_of, next_kind}
use Rattle.simplex_resolver.specs.declared.ask.Ask.{Ask}
use Rattle.simplex_resolver.specs.declared.ask.Kind as repair
use Rattle.simplex_resolver.specs.declared.ask.Kind.TheVariants as repair_kind
use Rattle.simplex_resolver.specs.Outstanding.{IsOutstanding}
use Rattle.simplex_member.specs.Allowed.{HasReason, IsGivenBack}
use Rattle.voter_rules.specs.declared.config.Again.{Again}
use Rattle.voter_rules.specs.declared.config.Again.TheVariants as again
use Rattle.simplex_member.specs.Asked.{IsPending, IsSent, asks_now, asks_of, build_at, goes_again, was_repeated}
use Rattle.simplex_member.specs.Layers.{Collected, IsUp, current_of, known_of, latest, repair_of, stage, voter_of, votes_of, votes_setup}
use Rattle.simplex_member.specs.Member.{NoneDue}
use Rattle.simplex_member.specs.Packet.{Formats}
use Rattle.simplex_member.specs.Point.{History}
use Rattle.simplex_member.specs.Setup.{Setup, member_of}
use Rattle.network_example.proofs.Far.{IsFirstOne}

none-some : {X : Type 0} (x : X) → None ≡ Some x → ⊥
none-some x e = cc e

first-one : (o : Option ℕ) (i me : ℕ) → o ≡ Some 0 → o ≡ Some i → me ≡ 0 → i ≡ me
first-one o i me first also is = cc (first, also, is)

module _ {S D P G C : Type 0} (g : Ghosts S D P G C) (f : Formats S D P G C) (s : Setup S D C) where
  -- what is used of it
  pub record IsResolved (h : History S D P G C) : Type 0 where
    pub led : (view : ℕ) → IsFirstOne (leader s.voter (voter_of s h) view)
    pub voted : (view : ℕ) → past.has_notarized (seen s.voter (voter_of s h) view) ≡ false
        → IsConfirmed (past.offers (seen s.voter (voter_of s h) view)) → ⊥
    pub ended : (view : ℕ) → past.verdict (seen s.voter (voter_of s h) view) ≡ Some true
        → past.has_finalized (seen s.voter (voter_of s h) view) ≡ false → ⊥
    pub asked : (view : ℕ) → past.is_certify_asked (seen s.voter (voter_of s h) view) ≡ false
        → past.notarization (seen s.voter (voter_of s h) view) ≡ None
    pub waits : ¬ NullifyIsDue s.voter (voter_of s h) (latest h)
    pub not_given_up : past.has_nullified (seen s.voter (voter_of s h) (current_of s h)) ≡ false
    pub building : (view parent : ℕ) (payload : D) → BuildIsDue (member_of s) (known_of s h) view parent payload → ⊥
    pub stands : (number : ℕ) (handoff : Bool) (context : Context D P) → build_at h number ≡ Some (handoff, context)
        → (¬ IsGivenBack g f s h handoff context) × (¬ (context.round.view < current_of s h))
    pub settled : (view : ℕ) → IsOutstanding s.voter.length (repair_of f h) view → ⊥
    pub unready : (view : ℕ) → stage s h view ≡ Collected → next_kind f.same (votes_setup s g h view) (votes_of s h view) ≡ None
    pub known : (view : ℕ) → IsUp (stage s h view) → leader_of (votes_of s h view) ≢ None
    pub unforwarded : (view : ℕ) → IsUp (stage s h view) → forwardable (votes_of s h view) s.me ≡ None

  module _ (own : s.voter.me ≡ Some 0) (me : s.me ≡ 0) (patient : s.silence ≡ None) (once : s.repair.again ≡ again.Once) (h : History S D P G C) (q : IsResolved h) where
    -- what was asked goes out no more
    none-again : (view : ℕ) (ask : Ask) (to : Option ℕ) → IsPending h view ask to → (IsSent f s h view ask to → ⊥) → ⊥
    none-again view ask to pending first = first (inr (subst (λ (q : Again). Contains (if goes_again q && was_repeated h then asks_now h else asks_of h) (record { view = view; ask = ask; to = to })) (sym once) pending.1))

    -- nobody waits for another member's parent
    none-waits : (view : ℕ) (p : Proposal D) → WaitsForParent (member_of s) (known_of s h) view p → ⊥
    none-waits view p waits = ⊎_elim
        (λ nobody. both_ways (is_some (leader s.voter (voter_of s h) view)) (ap (λ (o : Option ℕ). is_some o) nobody) waits.led.0)
        (λ first. waits.led.1 (first ∙ sym own))
        (q.led view)

    none-opens : (view : ℕ) (p : Proposal D) → VerdictIsOpen (member_of s) (known_of s h) view p → ⊥
    none-opens view p opens = none-some p (sym (ap (λ (o : Option (Notarization S D P G C)). option_map (λ (c : Notarization S D P G C). c.proposal) o) (q.asked view opens.first)) ∙ opens.notarized)

    nothing-missing : (view u : ℕ) (kind : repair.Kind) → IsMissing (member_of s) (known_of s h) view kind u → ⊥
    nothing-missing view u repair_kind.Nullification missing = none-waits view missing.0 missing.1.waits
    nothing-missing view u repair_kind.Notarization missing = none-waits view missing.0 missing.1.waits

    no-reason : (view : ℕ) (why : TimeoutReason) → HasReason g f s h view why → ⊥
    no-reason view reason.LeaderNullify there = ⊎_elim
        (λ nobody. none-some there.index (sym nobody ∙ there.known))
        (λ first. there.another (first-one (leader s.voter (voter_of s h) view) there.index s.me first there.known me))
        (q.led view)
    no-reason view reason.Inactivity there = none-some there.1.time (sym patient ∙ there.1.within)
    no-reason view reason.InvalidProposal there = none-waits view there.0 there.1.waits
    no-reason view why there = there

    pub none-due : NoneDue g f s h
    none-due = record {
      votes = record {
        no_notarize = λ view due. q.voted view due.first due.verified.1;
        no_nullify = q.waits;
        no_finalize = λ view due. q.ended view due.certified due.first;
        retry_known = λ given_up. absurd (both_ways (past.has_nullified (seen s.voter (voter_of s h) (current_of s h))) q.not_given_up given_up);
      };
      requests = record {
        no_build = λ left view parent payload due. q.building view parent payload due;
        no_verify = λ left view p payload due. none-waits view p due.waits;
        no_certify = λ p due. none-opens p.round.view p due.opens;
        no_return = λ number handoff context is given. (q.stands number handoff context is).0 given;
        none_behind = λ number handoff context is behind. (q.stands number handoff context is).1 behind;
      };
      asks = record {
        no_ask = λ view ask due. ⊎_elim
            (λ sought. ⊎_elim (λ back. q.settled view back.1) (λ wanted. none-opens wanted.1.0 wanted.1.1.waits.proposal wanted.1.1.waits.opens) sought)
            (λ pending. none-again view ask None pending due.first)
            due.sought;
        none_again = λ view ask target pending due. none-again view ask (Some target) pending due.first;
        none_put_off = λ view required due. none-opens view due.waits.proposal due.waits.opens;
        none_missing = λ left view u kind missing. nothing-missing view u kind missing;
      };
      constructions = record {
        no_construction = q.unready;
        no_leader = λ view index up none is. q.known view up none;
        no_forward = q.unforwarded;
      };
      no_reason = λ view why due. no-reason view why due.there;
    }
