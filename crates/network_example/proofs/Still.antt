-- A history at which nothing is due, by what is known of its views: nothing is held from the current view on, nothing notarized or found good, and this
-- member leads none.
use Rattle.std.proofs.Common.{◌≡◌, ◌≢◌, inr, ⊎_elim, ℕ, ◌≤◌, true, Option, Some, None, refl, sym, ◌∙◌, ap, subst}
use Rattle.std.specs.Prelude.{◌&&◌, Contains, if◌then◌else◌, is_some, option_map}
use Rattle.std.proofs.lemmas.Bool.{both_ways}
use Rattle.types_core.specs.declared.proposal.Proposal.{Proposal}
use Rattle.types_core.specs.declared.scheme.Scheme.{Ghosts}
use Rattle.messages_certificates.specs.ProposalCertificate.{Notarization}
use Rattle.voter_history.specs.declared.timeout_reason.TimeoutReason.{TimeoutReason}
use Rattle.voter_history.specs.declared.timeout_reason.TimeoutReason.TheVariants as reason
use Rattle.voter_history.specs.Held.{IsConfirmed, held}
use Rattle.voter_history.specs.History.{seen}
use Rattle.voter_history.specs.Leaders.{leader}
use Rattle.voter_history.specs.Past as past
use Rattle.voter_rules.specs.Ancestry.{held_at}
use Rattle.voter_rules.specs.GivingUp.{NullifyIsDue}
use Rattle.voter_laws.specs.Missing.{IsMissing}
use Rattle.batcher_verifier.specs.History.{forwardable, leader_of, next_kind}
use Rattle.simplex_batcher.specs.Queries.{has_nullify}
use Rattle.simplex_resolver.specs.declared.ask.Ask.{Ask}
use Rattle.simplex_resolver.specs.declared.ask.Kind as repair
use Rattle.simplex_resolver.specs.declared.ask.Kind.TheVariants as repair_kind
use Rattle.simplex_resolver.specs.Outstanding.{IsOutstanding}
use Rattle.simplex_member.specs.Allowed.{HasReason, RetryIsKnown}
use Rattle.voter_rules.specs.declared.config.Again.{Again}
use Rattle.voter_rules.specs.declared.config.Again.TheVariants as again
use Rattle.simplex_member.specs.Asked.{IsPending, IsSent, asks_now, asks_of, build_at, goes_again, was_repeated}
use Rattle.simplex_member.specs.Layers.{current_of, known_of, latest, repair_of, voter_of, votes_of, votes_setup}
use Rattle.simplex_member.specs.Member.{NoneDue}
use Rattle.simplex_member.specs.Packet.{Formats}
use Rattle.simplex_member.specs.Point.{History}
use Rattle.simplex_member.specs.Setup.{Setup, member_of}

none-some : {X : Type 0} (x : X) → None ≡ Some x → ⊥
none-some x e = cc e

module _ {S D P G C : Type 0} (g : Ghosts S D P G C) (f : Formats S D P G C) (s : Setup S D C) where
  -- what is used of a history of which nothing is due
  pub record IsStill (h : History S D P G C) : Type 0 where
    pub unconfirmed : (view : ℕ) → IsConfirmed (past.offers (seen s.voter (voter_of s h) view)) → ⊥
    pub unheld : (view : ℕ) → current_of s h ≤ view → held (past.offers (seen s.voter (voter_of s h) view)) ≡ None
    pub unnotarized : (view : ℕ) → past.notarization (seen s.voter (voter_of s h) view) ≡ None
    pub others : (view index : ℕ) → leader s.voter (voter_of s h) view ≡ Some index → index ≢ s.me
    pub led : (view index : ℕ) → leader s.voter (voter_of s h) view ≡ Some index → leader_of (votes_of s h view) ≢ None
    pub unforwarded : (view : ℕ) → forwardable (votes_of s h view) s.me ≡ None
    pub unready : (view : ℕ) → next_kind f.same (votes_setup s g h view) (votes_of s h view) ≡ None
    pub mine : (view index : ℕ) → has_nullify (votes_of s h view) index ≡ true → index ≡ s.me
    pub waits : ¬ NullifyIsDue s.voter (voter_of s h) (latest h)
    pub retry_known : RetryIsKnown g f s h
    pub unasked : (number : ℕ) → build_at h number ≡ None
    pub settled : (view : ℕ) → IsOutstanding s.voter.length (repair_of f h) view → ⊥

  module _ (own : s.voter.me ≡ Some s.me) (patient : s.silence ≡ None) (once : s.repair.again ≡ again.Once) (h : History S D P G C) (q : IsStill h) where
    -- what was asked goes out no more
    none-again : (view : ℕ) (ask : Ask) (to : Option ℕ) → IsPending h view ask to → (IsSent f s h view ask to → ⊥) → ⊥
    none-again view ask to pending first = first (inr (subst (λ (q : Again). Contains (if goes_again q && was_repeated h then asks_now h else asks_of h) (record { view = view; ask = ask; to = to })) (sym once) pending.1))

    none-held : (view : ℕ) → current_of s h ≤ view → (p : Proposal D) → held_at (member_of s) (known_of s h) view ≡ Some p → ⊥
    none-held view from p e = none-some p (sym (q.unheld view from) ∙ e)

    none-notarized : (view : ℕ) (p : Proposal D) → (known_of s h).notarized view ≡ Some p → ⊥
    none-notarized view p e =
        none-some p (sym (ap (λ (o : Option (Notarization S D P G C)). option_map (λ (c : Notarization S D P G C). c.proposal) o) (q.unnotarized view)) ∙ e)

    nothing-missing : (view u : ℕ) (kind : repair.Kind) → IsMissing (member_of s) (known_of s h) view kind u → ⊥
    nothing-missing view u repair_kind.Nullification missing = none-held view missing.1.waits.opens.from missing.0 missing.1.waits.held
    nothing-missing view u repair_kind.Notarization missing = none-held view missing.1.waits.opens.from missing.0 missing.1.waits.held

    no-reason : (view : ℕ) (why : TimeoutReason) → HasReason g f s h view why → ⊥
    no-reason view reason.LeaderNullify there = there.another (q.mine view there.index there.gave_up)
    no-reason view reason.Inactivity there = none-some there.1.time (sym patient ∙ there.1.within)
    no-reason view reason.InvalidProposal there = none-held view there.1.waits.opens.from there.0 there.1.waits.held
    no-reason view why there = there

    pub none-due : NoneDue g f s h
    none-due = record {
      votes = record {
        no_notarize = λ view due. q.unconfirmed view due.verified.1;
        no_nullify = q.waits;
        no_finalize = λ view due. both_ways (is_some ((known_of s h).notarized view))
            (ap (λ (o : Option (Notarization S D P G C)). is_some (option_map (λ (c : Notarization S D P G C). c.proposal) o)) (q.unnotarized view)) due.notarized;
        retry_known = q.retry_known;
      };
      requests = record {
        no_build = λ left view parent payload due. q.others view s.me (due.leads.known ∙ own) refl;
        no_verify = λ left view p payload due. none-held view due.waits.opens.from p due.waits.held;
        no_certify = λ p due. none-notarized p.round.view p due.opens.notarized;
        no_return = λ number handoff context is given. none-some (handoff, context) (sym (q.unasked number) ∙ is);
        none_behind = λ number handoff context is behind. none-some (handoff, context) (sym (q.unasked number) ∙ is);
      };
      asks = record {
        no_ask = λ view ask due. ⊎_elim
            (λ sought. ⊎_elim (λ back. q.settled view back.1) (λ wanted. none-notarized wanted.1.0 wanted.1.1.waits.proposal wanted.1.1.waits.opens.notarized) sought)
            (λ pending. none-again view ask None pending due.first)
            due.sought;
        none_again = λ view ask target pending due. none-again view ask (Some target) pending due.first;
        none_put_off = λ view required due. none-notarized view due.waits.proposal due.waits.opens.notarized;
        none_missing = λ left view u kind missing. nothing-missing view u kind missing;
      };
      constructions = record {
        no_construction = λ view up. q.unready view;
        no_leader = λ view index up none is. q.led view index is none;
        no_forward = λ view up. q.unforwarded view;
      };
      no_reason = λ view why due. no-reason view why due.there;
    }
