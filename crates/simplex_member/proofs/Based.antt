-- Where the record begins behind another view, nothing more is due: all that is due rests on what else is known, but that a vote to
-- notarize is due of views behind that one alone.
use Rattle.std.proofs.Common.{◌≡◌, ◌⊎◌, inl, inr, ⊎_elim, ℕ, ◌<◌, ◌≤◌, ◌-◌, ◌+◌, Bool, ◌∷◌, Option, Some, None, sym, ◌∙◌, ap, subst, arith}
use Rattle.std.specs.Prelude.{IsSome, max}
use Rattle.types_core.specs.declared.context.Context.{Context}
use Rattle.types_core.specs.declared.proposal.Proposal.{Proposal}
use Rattle.types_core.specs.declared.scheme.Scheme.{Ghosts}
use Rattle.messages_certificates.specs.ProposalCertificate.{Finalization}
use Rattle.voter_history.specs.declared.handoff_abandoned_reason.HandoffAbandonedReason.{HandoffAbandonedReason}
use Rattle.voter_history.specs.declared.handoff_abandoned_reason.HandoffAbandonedReason.TheVariants as abandoned
use Rattle.voter_history.specs.declared.timeout_reason.TimeoutReason.{TimeoutReason}
use Rattle.voter_history.specs.declared.timeout_reason.TimeoutReason.TheVariants as reason
use Rattle.voter_history.specs.History as views
use Rattle.voter_history.specs.Known.{Known, known}
use Rattle.voter_history.specs.Leaders.{leader}
use Rattle.voter_rules.specs.Ancestry.{Member, IsFirstUncovered, InWindow, IsHandoffParent, IsVotedFor, Optimistic, at_start, by_certificate, by_own_vote, Supports, IsSpan, IsParent, LacksPayload, IsPredecessor, IsLastCertified, IsHandedOver, IsPreferred, Leads, Stands, IsSteady, IsRequired}
use Rattle.voter_rules.specs.GivingUp.{MayLatch}
use Rattle.voter_rules.specs.Requests.{IsOpen, BuildIsDue, IsCaptured, IsSuperseded, StopsHandoff, WaitsForParent, VerifyIsDue, IsInvalid, VerdictIsOpen, CertifyIsDue, CertifyWaits, IsPutOff, CertificateIsWanted}
use Rattle.voter_rules.specs.VotesDue.{NotarizeIsDue, FinalizeIsDue}
use Rattle.voter_laws.specs.Matching.{BaseChangesFloorAlone}
use Rattle.voter_laws.specs.Missing.{IsMissing}
use Rattle.simplex_resolver.specs.declared.ask.Ask.{Ask}
use Rattle.simplex_resolver.specs.declared.ask.Kind as repair
use Rattle.simplex_resolver.specs.declared.ask.Kind.TheVariants as repair_kind
use Rattle.simplex_member.specs.Allowed.{HasReason, IsGivenBack, IsSought}
use Rattle.simplex_member.specs.Layers.{known_of, voter_of}
use Rattle.simplex_member.specs.Member.{NoAskIsDue, NoConstructionIsDue, NoRequestIsDue, NoVoteIsDue, NoneDue}
use Rattle.simplex_member.specs.Packet.{Formats}
use Rattle.simplex_member.specs.Point.{Rewrote, History}
use Rattle.simplex_member.specs.Setup.{Setup, member_of}

-- what is known, where the record begins behind this view
abbrev pub behind : {D : Type 0} → Known D → ℕ → Known D
behind k view = record k { floor = view }

module _ {D : Type 0} (m : Member) (k : Known D) where
  -- ---- what payloads rest on

  window : (a b view : ℕ) → InWindow m (behind k a) view → InWindow m (behind k b) view
  window a b view w = record { optimism = w.optimism; inside = w.inside; anchor = w.anchor }

  uncovered : (a b parent view u : ℕ) → IsFirstUncovered m (behind k a) parent view u → IsFirstUncovered m (behind k b) parent view u
  uncovered a b parent view u w = record { after = w.after; before = w.before; bare = w.bare; least = w.least }

  handoff : (a b view : ℕ) → IsHandoffParent m (behind k a) view → IsHandoffParent m (behind k b) view
  handoff a b view w = record { ends = w.ends; leads = w.leads; bare = w.bare }

  voted-for : (a b view : ℕ) (p : Proposal D) → IsVotedFor m (behind k a) view p → IsVotedFor m (behind k b) view p
  voted-for a b view p v = record {
    undecided = v.undecided;
    reached = ⊎_elim (λ inside. inl (window a b (view + 1) inside)) (λ over. inr (handoff a b view over)) v.reached;
    voted = v.voted;
    verified = v.verified;
    held = v.held;
    above = v.above;
    below = v.below;
    covered = v.covered;
  }

  optimistic : (a b view : ℕ) (payload : D) → Optimistic m (behind k a) view payload → Optimistic m (behind k b) view payload
  optimistic a b view payload (at_start start) = at_start start
  optimistic a b view payload (by_certificate some direct sound supported) = by_certificate some direct sound supported
  optimistic a b view payload (by_own_vote {p = p} some voted below bound) = by_own_vote some (voted-for a b view p voted) (optimistic a b p.parent _ below) bound

  supports : (a b view parent : ℕ) (payload : D) → Supports m (behind k a) view parent payload → Supports m (behind k b) view parent payload
  supports a b view parent payload s = record {
    inside = λ w. optimistic a b parent payload (s.inside (window b a view w));
    outside = λ out. s.outside (λ w. out (window a b view w));
  }

  span : (a b view parent : ℕ) → IsSpan m (behind k a) view parent → IsSpan m (behind k b) view parent
  span a b view parent w = record { below = w.below; above = w.above; next = w.next; covered = w.covered }

  parent-rule : (a b view parent : ℕ) (payload : D) → IsParent m (behind k a) view parent payload → IsParent m (behind k b) view parent payload
  parent-rule a b view parent payload r = record { span = span a b view parent r.span; supports = supports a b view parent payload r.supports }

  lacks : (a b view parent : ℕ) → LacksPayload m (behind k a) view parent → LacksPayload m (behind k b) view parent
  lacks a b view parent l = record { span = span a b view parent l.span; missing = λ payload s. l.missing payload (supports b a view parent payload s) }

  predecessor : (a b view parent : ℕ) (payload : D) → IsPredecessor m (behind k a) view parent payload → IsPredecessor m (behind k b) view parent payload
  predecessor a b view parent payload p = record { inside = p.inside; next = p.next; supports = supports a b view parent payload p.supports }

  last-certified : (a b view parent : ℕ) (payload : D) → IsLastCertified m (behind k a) view parent payload → IsLastCertified m (behind k b) view parent payload
  last-certified a b view parent payload l = record { starts = l.starts; below = l.below; there = l.there; highest = l.highest; covered = l.covered }

  handed-over : (a b view parent : ℕ) (payload : D) → IsHandedOver m (behind k a) view parent payload → IsHandedOver m (behind k b) view parent payload
  handed-over a b view parent payload o = record {
    starts = o.starts;
    no_other = λ u x last. o.no_other u x (last-certified b a view u x last);
    next = o.next;
    handoff = handoff a b parent o.handoff;
    there = optimistic a b parent payload o.there;
  }

  preferred : (a b view parent : ℕ) (payload : D) → IsPreferred m (behind k a) view parent payload → IsPreferred m (behind k b) view parent payload
  preferred a b view parent payload (inl before) = inl (predecessor a b view parent payload before)
  preferred a b view parent payload (inr (inl last)) = inr (inl (last-certified a b view parent payload last))
  preferred a b view parent payload (inr (inr over)) = inr (inr (handed-over a b view parent payload over))

  leads : (a b view : ℕ) → Leads m (behind k a) view → Leads m (behind k b) view
  leads a b view l = record { some = l.some; known = l.known }

  stands : (a b view : ℕ) (x : Proposal D × D) → Stands m (behind k a) view x → Stands m (behind k b) view x
  stands a b view x s = record {
    held = s.held;
    parent = ⊎_elim
        (λ rule. inl (parent-rule a b view x.0.parent x.1 rule))
        (λ own. inr (leads a b view own.0, preferred a b view x.0.parent x.1 own.1))
        s.parent;
  }

  steady : (a b view : ℕ) → IsSteady m (behind k a) view → IsSteady m (behind k b) view
  steady a b view s = λ x bound. stands a b view x (s x bound)

  is-required : (a b view parent u : ℕ) → IsRequired m (behind k a) view parent u → IsRequired m (behind k b) view parent u
  is-required a b view parent u r = record { next = r.next; early = r.early }

  -- ---- votes

  notarize-due : (a b view : ℕ) → b ≤ a → NotarizeIsDue m (behind k a) view → NotarizeIsDue m (behind k b) view
  notarize-due a b view low due =
      let over : a < view = due.behind in
      record {
        kept = due.kept;
        behind = omega (arith, low, over);
        room = due.room;
        outbound = due.outbound;
        first = due.first;
        not_given_up = due.not_given_up;
        verified = due.verified;
        supported = λ w. let below = due.supported (window b a view w) in (below.0, optimistic a b (view - 1) below.0 below.1);
        steady = steady a b view due.steady;
      }

  finalize-due : (a b view : ℕ) → FinalizeIsDue m (behind k a) view → FinalizeIsDue m (behind k b) view
  finalize-due a b view due = record {
    above = due.above;
    room = due.room;
    outbound = due.outbound;
    not_given_up = due.not_given_up;
    first = due.first;
    unequivocated = due.unequivocated;
    notarized = due.notarized;
    certified = due.certified;
    healed = due.healed;
    supported = λ p u held asked. due.supported p u held (is-required b a view p.parent u asked);
  }

  -- ---- requests

  opens : (a b view : ℕ) → IsOpen m (behind k a) view → IsOpen m (behind k b) view
  opens a b view o = record { from = o.from; room = o.room; outbound = o.outbound; not_given_up = o.not_given_up }

  build-due : (a b view parent : ℕ) (payload : D) → BuildIsDue m (behind k a) view parent payload → BuildIsDue m (behind k b) view parent payload
  build-due a b view parent payload due = record {
    opens = opens a b view due.opens;
    leads = leads a b view due.leads;
    vacant = due.vacant;
    preferred = preferred a b view parent payload due.preferred;
    patient = λ early. due.patient (record { starts = early.starts; early = early.early });
  }

  captured : (a b view parent : ℕ) (payload : D) → IsCaptured m (behind k a) view parent payload → IsCaptured m (behind k b) view parent payload
  captured a b view parent payload (inl built) = inl (preferred a b view parent payload built)
  captured a b view parent payload (inr rule) = inr (parent-rule a b view parent payload rule)

  superseded : (a b view parent : ℕ) (payload : D) → IsSuperseded m (behind k a) view parent payload → IsSuperseded m (behind k b) view parent payload
  superseded a b view parent payload s =
      let other = s.other in
      record { fallen = λ still. s.fallen (captured b a view parent payload still); other = (other.0, other.1, preferred a b view other.0 other.1 other.2) }

  stops : (a b view parent : ℕ) (payload : D) (why : HandoffAbandonedReason) → StopsHandoff m (behind k a) view parent payload (Some why) → StopsHandoff m (behind k b) view parent payload (Some why)
  stops a b view parent payload abandoned.ParentNullify stopped = stopped
  stops a b view parent payload abandoned.AncestryInvalidated stopped = (stopped.0, stopped.1, λ still. stopped.2 (captured b a view parent payload still))
  stops a b view parent payload why stopped = absurd stopped

  waits : (a b view : ℕ) (p : Proposal D) → WaitsForParent m (behind k a) view p → WaitsForParent m (behind k b) view p
  waits a b view p w = record { opens = opens a b view w.opens; led = w.led; held = w.held; first = w.first; not_backed = w.not_backed }

  verify-due : (a b view : ℕ) (p : Proposal D) (payload : D) → VerifyIsDue m (behind k a) view p payload → VerifyIsDue m (behind k b) view p payload
  verify-due a b view p payload due = record { waits = waits a b view p due.waits; parent = parent-rule a b view p.parent payload due.parent }

  invalid : (a b view : ℕ) (p : Proposal D) → IsInvalid m (behind k a) view p → IsInvalid m (behind k b) view p
  invalid a b view p bad = record { waits = waits a b view p bad.waits; invalid = bad.invalid }

  missing : (a b view : ℕ) (kind : repair.Kind) (u : ℕ) → IsMissing m (behind k a) view kind u → IsMissing m (behind k b) view kind u
  missing a b view repair_kind.Nullification u (p, wanted) = (
    p,
    record { waits = waits a b view p wanted.waits; valid = wanted.valid; uncovered = uncovered a b p.parent view u wanted.uncovered; first = wanted.first },
  )
  missing a b view repair_kind.Notarization u (p, wanted, at) = (
    p,
    record { waits = waits a b view p wanted.waits; lacks = lacks a b view p.parent wanted.lacks; outside = λ w. wanted.outside (window b a view w); first = wanted.first },
    at,
  )

  verdict-open : (a b view : ℕ) (p : Proposal D) → VerdictIsOpen m (behind k a) view p → VerdictIsOpen m (behind k b) view p
  verdict-open a b view p o = record {
    room = o.room;
    above = o.above;
    notarized = o.notarized;
    without = o.without;
    first = o.first;
    below = o.below;
    span = λ u asked. span a b view p.parent (o.span u (is-required b a view p.parent u asked));
  }

  certify-due : (a b view : ℕ) (p : Proposal D) → CertifyIsDue m (behind k a) view p → CertifyIsDue m (behind k b) view p
  certify-due a b view p due = record { opens = verdict-open a b view p due.opens; explicit = λ u asked. due.explicit u (is-required b a view p.parent u asked) }

  certify-waits : (a b view u : ℕ) → CertifyWaits m (behind k a) view u → CertifyWaits m (behind k b) view u
  certify-waits a b view u w = record {
    proposal = w.proposal;
    opens = verdict-open a b view w.proposal w.opens;
    requires_it = is-required a b view w.proposal.parent u w.requires_it;
    missing = w.missing;
  }

  put-off : (a b view u : ℕ) → IsPutOff m (behind k a) view u → IsPutOff m (behind k b) view u
  put-off a b view u w = record { waits = certify-waits a b view u w.waits; first = w.first }

  certificate-wanted : (a b view u : ℕ) → CertificateIsWanted m (behind k a) view u → CertificateIsWanted m (behind k b) view u
  certificate-wanted a b view u w = record { waits = certify-waits a b view u w.waits; first = w.first; absent = w.absent }

module _ {S D P G C : Type 0} (g : Ghosts S D P G C) (f : Formats S D P G C) (s : Setup S D C) (law : BaseChangesFloorAlone S D P G C) (h : History S D P G C) (c : Finalization S D P G C) where
  -- what is known behind a rewrite
  here-known : known_of s (Rewrote c ∷ h) ≡ behind (known_of s h) (max c.proposal.round.view (views.floor s.voter (voter_of s h)))
  here-known = law s.voter (voter_of s h) c.proposal.round.view

  abbrev low : ℕ
  low = views.floor s.voter (voter_of s h)

  abbrev high : ℕ
  high = max c.proposal.round.view low

  -- the same members lead
  leads-still : (view : ℕ) → leader s.voter (voter_of s (Rewrote c ∷ h)) view ≡ leader s.voter (voter_of s h) view
  leads-still view = ap (λ (k : Known D). k.leader view) here-known

  -- what was due there was due before
  was : (Q : Known D → Type 0) → (Q (behind (known_of s h) high) → Q (behind (known_of s h) low)) → Q (known_of s (Rewrote c ∷ h)) → Q (known_of s h)
  was Q back now = back (subst Q here-known now)

  votes-still : NoVoteIsDue g f s h → NoVoteIsDue g f s (Rewrote c ∷ h)
  votes-still none = record {
    no_notarize = λ view due. none.no_notarize view (was (λ k. NotarizeIsDue (member_of s) k view) (notarize-due (member_of s) (known_of s h) high low view (omega arith)) due);
    no_nullify = λ due. none.no_nullify (record {
      gives_up = record { current = due.gives_up.current; some = due.gives_up.some; room = due.gives_up.room; not_finalized = due.gives_up.not_finalized };
      moment = due.moment;
      why = due.why;
      next = due.next;
      reached = due.reached;
    });
    no_finalize = λ view due. none.no_finalize view (was (λ k. FinalizeIsDue (member_of s) k view) (finalize-due (member_of s) (known_of s h) high low view) due);
    retry_known = none.retry_known;
  }

  given-back : (ahead : Bool) (context : Context D P) → IsGivenBack g f s (Rewrote c ∷ h) ahead context → IsGivenBack g f s h ahead context
  given-back ahead context (inl over) =
      inl (was (λ k. IsSuperseded (member_of s) k context.round.view context.parent.0 context.parent.1) (superseded (member_of s) (known_of s h) high low context.round.view context.parent.0 context.parent.1) over)
  given-back ahead context (inr (handed, (why, stopped))) =
      inr (handed, (why, was (λ k. StopsHandoff (member_of s) k context.round.view context.parent.0 context.parent.1 (Some why)) (stops (member_of s) (known_of s h) high low context.round.view context.parent.0 context.parent.1 why) stopped))

  requests-still : NoRequestIsDue g f s h → NoRequestIsDue g f s (Rewrote c ∷ h)
  requests-still none = record {
    no_build = λ left view parent payload due. none.no_build left view parent payload (was (λ k. BuildIsDue (member_of s) k view parent payload) (build-due (member_of s) (known_of s h) high low view parent payload) due);
    no_verify = λ left view p payload due. none.no_verify left view p payload (was (λ k. VerifyIsDue (member_of s) k view p payload) (verify-due (member_of s) (known_of s h) high low view p payload) due);
    no_certify = λ p due. none.no_certify p (was (λ k. CertifyIsDue (member_of s) k p.round.view p) (certify-due (member_of s) (known_of s h) high low p.round.view p) due);
    no_return = λ number ahead context there back. none.no_return number ahead context there (given-back ahead context back);
    none_behind = none.none_behind;
  }

  sought : (view : ℕ) (ask : Ask) → IsSought g f s (Rewrote c ∷ h) view ask None → IsSought g f s h view ask None
  sought view ask (inl backward) = inl backward
  sought view ask (inr (is, (waiting, wanted))) =
      inr (is, (waiting, was (λ k. CertificateIsWanted (member_of s) k waiting view) (certificate-wanted (member_of s) (known_of s h) high low waiting view) wanted))

  asks-still : NoAskIsDue g f s h → NoAskIsDue g f s (Rewrote c ∷ h)
  asks-still none = record {
    no_ask = λ view ask due. none.no_ask view ask (record { sought = ⊎_elim (λ first. inl (sought view ask first)) (λ pending. inr pending) due.sought; first = due.first; within = due.within });
    none_again = λ view ask target pending due. none.none_again view ask target pending (record { sought = inr pending; first = due.first; within = due.within });
    none_put_off = λ view u off. none.none_put_off view u (was (λ k. IsPutOff (member_of s) k view u) (put-off (member_of s) (known_of s h) high low view u) off);
    none_missing = λ left view u kind lacking. none.none_missing left view u kind (was (λ k. IsMissing (member_of s) k view kind u) (missing (member_of s) (known_of s h) high low view kind u) lacking);
  }

  constructions-still : NoConstructionIsDue g f s h → NoConstructionIsDue g f s (Rewrote c ∷ h)
  constructions-still none = record {
    no_construction = none.no_construction;
    no_leader = λ view index up unknown leads. none.no_leader view index up unknown (sym (leads-still view) ∙ leads);
    no_forward = none.no_forward;
  }

  has-reason : (view : ℕ) (why : TimeoutReason) → HasReason g f s (Rewrote c ∷ h) view why → HasReason g f s h view why
  has-reason view reason.LeaderNullify gave_up = record { index = gave_up.index; known = sym (leads-still view) ∙ gave_up.known; another = gave_up.another; gave_up = gave_up.gave_up }
  has-reason view reason.Inactivity (at, silent) = (
    at,
    record { index = silent.index; known = sym (leads-still (views.current s.voter (voter_of s h))) ∙ silent.known; another = silent.another; time = silent.time; within = silent.within; reached = silent.reached },
  )
  has-reason view reason.InvalidProposal (p, bad) = (p, was (λ k. IsInvalid (member_of s) k view p) (invalid (member_of s) (known_of s h) high low view p) bad)
  has-reason view why never = absurd never

  may-latch : (view : ℕ) (why : TimeoutReason) → MayLatch s.voter (voter_of s (Rewrote c ∷ h)) view why → MayLatch s.voter (voter_of s h) view why
  may-latch view why may = record {
    from = may.from;
    tracked = ⊎_elim (λ seen. inl seen) (λ led. inr (subst (λ (o : Option ℕ). IsSome o) (leads-still view) led)) may.tracked;
    heard = may.heard;
  }

  -- nothing is due behind it
  pub still-nothing-due : NoneDue g f s h → NoneDue g f s (Rewrote c ∷ h)
  still-nothing-due none = record {
    votes = votes-still none.votes;
    requests = requests-still none.requests;
    asks = asks-still none.asks;
    constructions = constructions-still none.constructions;
    no_reason = λ view why due. none.no_reason view why (record { there = has-reason view why due.there; counts = may-latch view why due.counts; first = due.first; undecided = due.undecided });
  }
