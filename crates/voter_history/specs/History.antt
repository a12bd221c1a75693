-- What can happen to a voter, and what its views see of it. Histories hold the newest first.
use Rattle.std.specs.Prelude.{◌+◌, ◌==◌, ◌&&◌, ◌||◌, nat_lt, nat_le, ℕ, Bool, true, false, max, List, [], ◌∷◌, Option, Some, None, option_map, if◌then◌else◌}
use Rattle.std.specs.Option.{option_or}
use Rattle.types_core.specs.declared.proposal.Proposal.{Proposal}
use Rattle.types_core.specs.Positions.{next_term_start, term_end}
use Rattle.messages_certificates.specs.declared.nullification.Nullification.{Nullification}
use Rattle.messages_certificates.specs.ProposalCertificate.{Notarization, Finalization}
use Rattle.types_terms.specs.declared.elector.Mode.{Mode}
use Rattle.types_terms.specs.declared.elector.Mode.TheVariants.{Scheduled, Dynamic}
use Rattle.types_terms.specs.declared.kind.Kind.{Kind}
use Rattle.types_terms.specs.declared.kind.Kind.TheVariants as kind
use Rattle.types_terms.specs.Windows.{retention_floor}
use Rattle.voter_history.specs.declared.timeout_reason.TimeoutReason.{TimeoutReason}
use Rattle.voter_history.specs.declared.timeout_reason.TimeoutReason.TheVariants as reason
use Rattle.voter_history.specs.declared.token.Token.{Token}
use Rattle.voter_history.specs.Held as offer
use Rattle.voter_history.specs.Held.{held}
use Rattle.voter_history.specs.Past as past
use Rattle.voter_history.specs.Past.{Item}
use Rattle.voter_history.specs.Pasts.{bind, forget, is_direct, put}

-- what stays the same through a voter's life
pub record Setup (S C : Type 0) : Type 0 where
  -- its scheme, its index where it has one, and the epoch
  pub scheme : S
  pub me : Option ℕ
  pub epoch : ℕ
  -- the terms: their views, how many of them are optimistic, and how long a term may stall, where it may not for ever
  pub length : ℕ
  pub optimistic_views : ℕ
  pub stall_timeout : Option ℕ
  -- whether the elector goes by a schedule, and whom it names for a view that was entered by this certificate, or by none
  pub mode : Mode
  pub elect : ℕ → Option C → ℕ
  -- how many views below the last finalized one are kept
  pub retention : ℕ
  -- how long a leader, a verdict and a repetition may take, and how many terms may be skipped
  pub leader_timeout : ℕ
  pub certification_timeout : ℕ
  pub timeout_retry : ℕ
  pub skip_budget : ℕ

-- what can happen, each at the moment that stands first where there is one. A point stands only where it took effect: a
-- certificate that is known already, an answer that came too late, or a reason that doesn't count, is none
pub data Point (S D P G C : Type 0) : Type 0 where
  -- the start, on the payload of view 0, where it is known; the member's record begins behind this view
  started : ℕ → Option D → Point S D P G C
  based : ℕ → Point S D P G C
  -- a certificate was taken, the first of its kind and view; the verdict on a view came
  notarized : Notarization S D P G C → Point S D P G C
  nullified : ℕ → Nullification S D P G C → Point S D P G C
  finalized : ℕ → Finalization S D P G C → Point S D P G C
  judged : ℕ → ℕ → Bool → Point S D P G C
  -- the leader's proposal of a view was forwarded; an own one was built on a parent with this payload
  forwarded : ℕ → Proposal D → Point S D P G C
  built : ℕ → Proposal D → D → Point S D P G C
  -- the held proposal of a view was found good; what it was bound to had fallen and was dropped; a reason to give the view up came
  confirmed : ℕ → Point S D P G C
  unbound : ℕ → Point S D P G C
  latched : ℕ → ℕ → TimeoutReason → Point S D P G C
  -- asked for: to build in a view; that no more; to verify a view's proposal over its parent's payload; the certificate of
  -- another view that a view's proposal waits for; a verdict on a view. A verdict was put off until the parent has one
  build_asked : ℕ → Point S D P G C
  build_released : ℕ → Point S D P G C
  verify_asked : ℕ → Proposal D → D → Point S D P G C
  ancestry_asked : ℕ → ℕ → Point S D P G C
  certify_asked : ℕ → Token → Point S D P G C
  certify_waited : ℕ → Point S D P G C
  -- this member voted in a view
  voted_notarize : ℕ → Proposal D → Point S D P G C
  voted_nullify : ℕ → Point S D P G C
  voted_finalize : ℕ → Proposal D → Point S D P G C
  -- the member's record says so: a vote, of a notarize with whether its proposal was taken; a verdict
  recalled_notarize : Proposal D → Bool → Point S D P G C
  recalled_nullify : ℕ → Point S D P G C
  recalled_finalize : Proposal D → Point S D P G C
  recalled_verdict : ℕ → Bool → Point S D P G C
  -- the certificate of this kind of a view was handed out, or the record says so
  sent : Kind → ℕ → Point S D P G C
  -- the next timeout was polled; the views that need not be kept were dropped
  polled : ℕ → Point S D P G C
  pruned : Point S D P G C

-- a moment later by so much, where by something, or the last one of 64 bits
abbrev pub later : ℕ → Option ℕ → Option ℕ
later now timeout = option_map (λ t. past.deadline now t) timeout

-- a leader, where there is a schedule
abbrev pub by_schedule : Mode → ℕ → Option ℕ
by_schedule Scheduled leader = Some leader
by_schedule Dynamic leader = None

module _ {S C : Type 0} where
  -- whom a schedule names for a view, whatever certificate it will be entered by
  abbrev pub scheduled_leader : Setup S C → ℕ → Option ℕ
  scheduled_leader s view = by_schedule s.mode (s.elect view None)

module _ {S D P G C : Type 0} where
  -- the current view: the highest that was entered, behind a nullification the next term's start, behind a finalization or
  -- a true verdict the next view; 0 before the start
  abbrev pub current : Setup S C → List (Point S D P G C) → ℕ
  current s [] = 0
  current s (started now payload ∷ h) = max 1 (current s h)
  current s (nullified now c ∷ h) = max (next_term_start s.length c.round.view) (current s h)
  current s (finalized now c ∷ h) = max (c.proposal.round.view + 1) (current s h)
  current s (judged now view ok ∷ h) = if ok then max (view + 1) (current s h) else current s h
  current s (x ∷ h) = current s h

  -- the last finalized view, or 0
  abbrev pub last_finalized : List (Point S D P G C) → ℕ
  last_finalized [] = 0
  last_finalized (finalized now c ∷ h) = max c.proposal.round.view (last_finalized h)
  last_finalized (x ∷ h) = last_finalized h

  -- the least view that is kept
  abbrev pub min_active : Setup S C → List (Point S D P G C) → ℕ
  min_active s h = retention_floor (last_finalized h) s.retention

  -- the payload of view 0, where it is known
  abbrev pub genesis : List (Point S D P G C) → Option D
  genesis [] = None
  genesis (started now payload ∷ h) = payload
  genesis (x ∷ h) = genesis h

  -- a view is entered, where it lies above the current one: from then on its deadlines run
  abbrev pub enter : Setup S C → ℕ → ℕ → ℕ → (ℕ → List (Item S D P G C)) → ℕ → List (Item S D P G C)
  enter s current_view now view t =
      if nat_lt current_view view
      then put view (past.armed (past.deadline now s.leader_timeout) (past.deadline now s.certification_timeout) (later now s.stall_timeout))
      (put view (past.entered now) t)
      else t

  -- the payload of the held proposal, while no certificate of the view is known
  abbrev pub undecided_payload : List (Item S D P G C) → Option D
  undecided_payload x = if is_direct x then None else option_map (λ (p : Proposal D). p.payload) (held (past.offers x))

  -- a certificate of this kind was handed out
  abbrev pub sent_item : Kind → Item S D P G C
  sent_item kind.Notarization = past.sent_notarization
  sent_item kind.Nullification = past.sent_nullification
  sent_item kind.Finalization = past.sent_finalization

  -- what happened to each view, as far as it is kept. Behind an own nullify nothing is taken that is forwarded or found good. A
  -- false verdict is a reason to give its view up, where that isn't behind
  abbrev pub seen : Setup S C → List (Point S D P G C) → ℕ → List (Item S D P G C)
  seen s [] = λ view. []
  seen s (started now payload ∷ h) = enter s (current s h) now 1 (seen s h)
  seen s (based view ∷ h) = seen s h
  seen s (notarized c ∷ h) = put c.proposal.round.view (past.notarized c) (seen s h)
  seen s (nullified now c ∷ h) = put c.round.view (past.nullified c) (enter s (current s h) now (next_term_start s.length c.round.view) (seen s h))
  seen s (finalized now c ∷ h) = put c.proposal.round.view (past.finalized c) (enter s (current s h) now (c.proposal.round.view + 1) (seen s h))
  seen s (judged now view ok ∷ h) =
      if ok then enter s (current s h) now (view + 1) (put view (past.judged true) (seen s h))
      else (if nat_le (current s h) view then put view (past.latched now reason.FailedCertification) (put view (past.judged false) (seen s h))
      else put view (past.judged false) (seen s h))
  seen s (forwarded view p ∷ h) = if past.has_nullified (seen s h view) then seen s h else put view (past.offered (offer.forwarded p)) (seen s h)
  seen s (built now p payload ∷ h) = put p.round.view (past.bound p payload) (put p.round.view (past.built now p) (seen s h))
  seen s (confirmed view ∷ h) = if past.has_nullified (seen s h view) then seen s h else put view (past.offered offer.confirmed) (seen s h)
  seen s (unbound view ∷ h) = put view past.unbound (seen s h)
  seen s (latched now view why ∷ h) = put view (past.latched now why) (seen s h)
  seen s (build_asked view ∷ h) = put view (past.offered offer.building) (seen s h)
  seen s (build_released view ∷ h) = put view (past.offered offer.released) (seen s h)
  seen s (verify_asked view p payload ∷ h) = put view (past.bound p payload) (put view (past.offered offer.verifying) (seen s h))
  seen s (ancestry_asked view missing ∷ h) = put view (past.asked missing) (seen s h)
  seen s (certify_asked view handle ∷ h) = put view (past.certifying handle) (seen s h)
  seen s (certify_waited view ∷ h) = seen s h
  seen s (voted_notarize view p ∷ h) = put view past.voted_notarize (seen s h)
  seen s (voted_nullify view ∷ h) = put view past.voted_nullify (seen s h)
  seen s (voted_finalize view p ∷ h) = put view past.voted_finalize (seen s h)
  seen s (recalled_notarize p taken ∷ h) =
      bind (undecided_payload (seen s h p.parent)) p
      (put p.round.view past.voted_notarize (if taken then put p.round.view (past.offered (offer.recorded p)) (seen s h) else seen s h))
  seen s (recalled_nullify view ∷ h) = put view past.voted_nullify (seen s h)
  seen s (recalled_finalize p ∷ h) = put p.round.view past.voted_finalize (seen s h)
  seen s (recalled_verdict view ok ∷ h) = put view (past.judged ok) (seen s h)
  seen s (sent k view ∷ h) = put view (sent_item k) (seen s h)
  seen s (polled now ∷ h) = if nat_lt 0 (current s h) then put (current s h) (past.polled (past.deadline now s.timeout_retry)) (seen s h) else seen s h
  seen s (pruned ∷ h) = forget (min_active s h) (seen s h)

  -- nothing happened yet that the member's record has: no certificate was taken, no verdict came, and no vote was cast, nor
  -- recalled
  abbrev pub is_blank : Setup S C → List (Point S D P G C) → Bool
  is_blank s [] = true
  is_blank s (notarized c ∷ h) = false
  is_blank s (nullified now c ∷ h) = false
  is_blank s (finalized now c ∷ h) = false
  is_blank s (judged now view ok ∷ h) = false
  is_blank s (voted_notarize view p ∷ h) = false
  is_blank s (voted_nullify view ∷ h) = past.has_nullified (seen s h view) && is_blank s h
  is_blank s (voted_finalize view p ∷ h) = false
  is_blank s (recalled_notarize p taken ∷ h) = false
  is_blank s (recalled_nullify view ∷ h) = false
  is_blank s (recalled_finalize p ∷ h) = false
  is_blank s (x ∷ h) = is_blank s h

  -- the view that the member's record begins behind: that of its first entry, where it finalizes one, or the highest that was
  -- named since
  abbrev pub floor : Setup S C → List (Point S D P G C) → ℕ
  floor s [] = 0
  floor s (based view ∷ h) = max view (floor s h)
  floor s (finalized now c ∷ h) = if is_blank s h then max c.proposal.round.view (floor s h) else floor s h
  floor s (x ∷ h) = floor s h

  -- a mark that points set on views, until the view is dropped
  abbrev pub is_marked : Setup S C → (Point S D P G C → ℕ → Bool) → List (Point S D P G C) → ℕ → Bool
  is_marked s sets [] view = false
  is_marked s sets (pruned ∷ h) view = if nat_lt view (min_active s h) then false else is_marked s sets h view
  is_marked s sets (x ∷ h) view = sets x view || is_marked s sets h view

  -- a nullification of the view was ever learnt: what covers is never forgotten
  abbrev pub was_nullified : List (Point S D P G C) → ℕ → Bool
  was_nullified [] view = false
  was_nullified (nullified now c ∷ h) view = (c.round.view == view) || was_nullified h view
  was_nullified (x ∷ h) view = was_nullified h view

  -- the nullification that is kept of a view: it stays while the view is kept, or its term ends above the last finalized view
  abbrev pub nullification : Setup S C → List (Point S D P G C) → ℕ → Option (Nullification S D P G C)
  nullification s [] view = None
  nullification s (nullified now c ∷ h) view = if c.round.view == view then option_or (nullification s h view) (Some c) else nullification s h view
  nullification s (pruned ∷ h) view =
      if nat_lt view (min_active s h) && nat_le (term_end s.length view) (last_finalized h) then None else nullification s h view
  nullification s (x ∷ h) view = nullification s h view
