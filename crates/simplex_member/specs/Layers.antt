-- What a node's history says of its voter, of the votes of each view, and of its repair.
use Rattle.std.specs.Prelude.{◌≡◌, ◌==◌, ◌+◌, ◌*◌, ◌^◌, ◌&&◌, ◌||◌, ◌++◌, nat_lt, not, ℕ, Bool, true, false, List, [], ◌∷◌, Option, Some, None, option_map, option_to_list, unwrap_or, if◌then◌else◌}
use Rattle.types_core.specs.declared.scheme.Scheme.{Ghosts}
use Rattle.types_quorum.specs.Committee.{quorum}
use Rattle.types_core.specs.Positions.{next_term_start}
use Rattle.messages_certificates.specs.declared.artifact.Artifact.{Artifact}
use Rattle.messages_certificates.specs.declared.artifact.Artifact.TheVariants as artifact
use Rattle.messages_certificates.specs.declared.certificate.Certificate.{Certificate}
use Rattle.messages_certificates.specs.declared.certificate.Certificate.TheVariants as certificate
use Rattle.simplex_messages.specs.declared.vote.Vote.{Vote}
use Rattle.simplex_messages.specs.declared.vote.Vote.TheVariants as vote
use Rattle.messages_certificates.specs.Artifact.{artifact_round, certificate_artifact}
use Rattle.messages_certificates.specs.Certificate.{as_notarization, certificate_round}
use Rattle.simplex_messages.specs.VoteParts.{vote_round}
use Rattle.voter_history.specs.declared.timeout_reason.TimeoutReason.{TimeoutReason}
use Rattle.voter_history.specs.declared.timeout_reason.TimeoutReason.TheVariants as reason
use Rattle.voter_history.specs.History as views
use Rattle.voter_history.specs.History.{started, based, notarized, nullified, finalized, judged, forwarded, built, confirmed, unbound, latched, build_asked, build_released, verify_asked, ancestry_asked, certify_asked, certify_waited, voted_notarize, voted_nullify, voted_finalize, polled, pruned, current, last_finalized, min_active}
use Rattle.voter_history.specs.Known.{Known, known}
use Rattle.voter_views.specs.Views.{recalls}
use Rattle.voter_rules.specs.Building.{proposal_on}
use Rattle.batcher_verifier.specs.History as votes
use Rattle.batcher_verifier.specs.History.{Taken, Cast, Certified, Led, Forwarded}
use Rattle.batcher_verifier.specs.ConstructionResult.{after}
use Rattle.simplex_resolver.specs.RepairHistory as repair
use Rattle.simplex_resolver.specs.RepairHistory.{Item, Replayed, item_of}
use Rattle.simplex_member.specs.Packet.{Formats}
use Rattle.simplex_member.specs.Point.{Outcome, Counts, Falls, Passes, Point, Opened, Found, Began, Told, Heard, Came, Built, Checked, Judged, Leads, Forwards, Constructs, Latches, Polls, AsksBuild, AsksVerify, AsksCertify, GivesBack, PutsOff, Resolves, Votes, Repeats, Rewrote, History}
use Rattle.simplex_member.specs.Recorded.{notarization_in, record_of}
use Rattle.simplex_member.specs.Setup.{Setup}

-- whether a view has room: `HasRoom`
abbrev pub has_room : ℕ → ℕ → Bool
has_room views view = nat_lt (next_term_start views view + 2 * views + 1) (2 ^ 64)

-- How far the votes of a view are: they didn't come up, or are no longer kept; they are collected; or the view was behind when they
-- came up, and is passed over, since votes of such views are not kept
pub data Stage : Type 0 where
  Unopened : Stage
  Collected : Stage
  PassedOver : Stage

-- they came up
abbrev pub is_up : Stage → Bool
is_up Unopened = false
is_up Collected = true
is_up PassedOver = true

abbrev pub IsUp : Stage → Type 0
IsUp at = is_up at ≡ true

-- they come up, passed over or not; where they did before nothing changes
abbrev pub first_up : Stage → Bool → Stage
first_up Unopened true = PassedOver
first_up Unopened false = Collected
first_up Collected passed = Collected
first_up PassedOver passed = PassedOver

-- whether the view is passed over; of votes that didn't come up, this is whether it would be now
abbrev pub skips : Stage → Bool → Bool
skips Unopened now = now
skips Collected now = false
skips PassedOver now = true

-- why an answer on a proposal gives its view up
abbrev pub reason_of : Option Bool → TimeoutReason
reason_of None = reason.IgnoredProposal
reason_of (Some ok) = reason.InvalidProposal

module _ {S D P G C : Type 0} where
  -- the latest moment
  abbrev pub latest : History S D P G C → ℕ
  latest [] = 0
  latest (Opened now ∷ h) = now
  latest (Told now ∷ h) = now
  latest (p ∷ h) = latest h

  -- the moment of the opening
  abbrev pub opened_at : History S D P G C → ℕ
  opened_at [] = 0
  opened_at (Opened now ∷ h) = now
  opened_at (p ∷ h) = opened_at h

  -- the record was gone through
  abbrev pub is_begun : History S D P G C → Bool
  is_begun [] = false
  is_begun (Began ∷ h) = true
  is_begun (p ∷ h) = is_begun h

  -- ---- the voter

  -- a certificate as it comes to the voter
  abbrev pub given : ℕ → Certificate S D P G C → views.Point S D P G C
  given now (certificate.Notarization c) = notarized c
  given now (certificate.Nullification c) = nullified now c
  given now (certificate.Finalization c) = finalized now c

  -- a certificate finalizes a view above this one
  abbrev pub finalizes_above : ℕ → Certificate S D P G C → Bool
  finalizes_above low (certificate.Notarization c) = false
  finalizes_above low (certificate.Nullification c) = false
  finalizes_above low (certificate.Finalization c) = nat_lt low c.proposal.round.view

  -- a certificate is taken, and handed out; where it finalizes a view above the last one, what need not be kept is dropped
  abbrev pub takes_certificate : ℕ → ℕ → Certificate S D P G C → List (views.Point S D P G C)
  takes_certificate now low c = (if finalizes_above low c then pruned ∷ [] else []) ++ recalls false (certificate_artifact c) ∷ given now c ∷ []

  -- what the record said: a vote; a certificate, which was handed out; a verdict
  abbrev pub finds : ℕ → Artifact S D P G C → Bool → List (views.Point S D P G C)
  finds now (artifact.Notarize v) taken = recalls taken (artifact.Notarize v) ∷ []
  finds now (artifact.Notarization c) taken = given now (certificate.Notarization c) ∷ recalls taken (artifact.Notarization c) ∷ []
  finds now (artifact.Certification r ok) taken = judged now r.view ok ∷ recalls taken (artifact.Certification r ok) ∷ []
  finds now (artifact.Nullify v) taken = recalls taken (artifact.Nullify v) ∷ []
  finds now (artifact.Nullification c) taken = given now (certificate.Nullification c) ∷ recalls taken (artifact.Nullification c) ∷ []
  finds now (artifact.Finalize v) taken = recalls taken (artifact.Finalize v) ∷ []
  finds now (artifact.Finalization c) taken = given now (certificate.Finalization c) ∷ recalls taken (artifact.Finalization c) ∷ []

  -- an answer to a build: a payload is taken as an own proposal, none is a reason to give the view up
  abbrev pub takes_build : ℕ → ℕ → Option D → (D → views.Point S D P G C) → List (views.Point S D P G C)
  takes_build now view (Some payload) own = own payload ∷ []
  takes_build now view None own = latched now view reason.MissingProposal ∷ []

  -- an answer on a proposal that counts: it is good, or the view is given up
  abbrev pub takes_answer : ℕ → ℕ → Option Bool → views.Point S D P G C
  takes_answer now view (Some true) = confirmed view
  takes_answer now view answer = latched now view (reason_of answer)

  abbrev pub takes_outcome : ℕ → ℕ → Option Bool → Outcome → List (views.Point S D P G C)
  takes_outcome now view answer Counts = takes_answer now view answer ∷ []
  takes_outcome now view answer Falls = unbound view ∷ []
  takes_outcome now view answer Passes = []

  -- an own vote
  abbrev pub casts : Vote S D P G C → views.Point S D P G C
  casts (vote.Notarize v) = voted_notarize v.proposal.round.view v.proposal
  casts (vote.Nullify v) = voted_nullify v.round.view
  casts (vote.Finalize v) = voted_finalize v.proposal.round.view v.proposal

  module _ (s : Setup S D C) where
    -- what a point says of the voter, at a moment and above the last finalized view
    abbrev pub voter_points : ℕ → ℕ → Point S D P G C → List (views.Point S D P G C)
    voter_points now low (Opened t) = started t s.genesis ∷ []
    voter_points now low (Found x taken) = finds now x taken
    voter_points now low Began = pruned ∷ []
    voter_points now low (Came c) = takes_certificate now low c
    voter_points now low (Built number handoff context payload took) =
        if took then takes_build now context.round.view payload (λ d. built now (proposal_on context d) context.parent.1) else []
    voter_points now low (Checked number view answer outcome) = takes_outcome now view answer outcome
    voter_points now low (Judged r ok) = judged now r.view ok ∷ []
    voter_points now low (Forwards view p) = forwarded view p ∷ []
    voter_points now low (Constructs view kind batch) = unwrap_or (option_map (takes_certificate now low) batch.certificate) []
    voter_points now low (Latches view why) = latched now view why ∷ []
    voter_points now low Polls = polled now ∷ []
    voter_points now low (AsksBuild number handoff context) = build_asked context.round.view ∷ []
    voter_points now low (AsksVerify number context p) = verify_asked context.round.view p context.parent.1 ∷ []
    voter_points now low (AsksCertify p) = certify_asked p.round.view (record { 0 = p.round.view }) ∷ []
    voter_points now low (GivesBack number view) = build_released view ∷ []
    voter_points now low (PutsOff view) = certify_waited view ∷ []
    voter_points now low (Resolves view kind u) = ancestry_asked view u ∷ []
    voter_points now low (Votes v) = casts v ∷ []
    voter_points now low (Repeats v best) = voted_nullify v.round.view ∷ []
    voter_points now low (Rewrote c) = based c.proposal.round.view ∷ []
    voter_points now low p = []

    -- the voter's history
    abbrev pub voter_of : History S D P G C → List (views.Point S D P G C)
    voter_of [] = []
    voter_of (p ∷ h) = voter_points (latest (p ∷ h)) (last_finalized (voter_of h)) p ++ voter_of h

    -- what the node knows of its views, and how far it is
    abbrev pub known_of : History S D P G C → Known D
    known_of h = known s.voter (voter_of h)

    abbrev pub current_of : History S D P G C → ℕ
    current_of h = current s.voter (voter_of h)

    abbrev pub finalized_of : History S D P G C → ℕ
    finalized_of h = last_finalized (voter_of h)

    abbrev pub floor_of : History S D P G C → ℕ
    floor_of h = min_active s.voter (voter_of h)

  -- ---- the votes of a view

  -- one more thing happened to the votes of a view, where it is of this one
  abbrev pub add_at : ℕ → ℕ → votes.Event (Vote S D P G C) (Certificate S D P G C) → votes.History S D P G C → votes.History S D P G C
  add_at view at e r = if at == view then e ∷ r else r

  -- what the record said: an own vote, a certificate
  abbrev pub add_found : ℕ → Artifact S D P G C → votes.History S D P G C → votes.History S D P G C
  add_found view (artifact.Notarize v) = add_at view v.proposal.round.view (Cast (vote.Notarize v))
  add_found view (artifact.Notarization c) = add_at view c.proposal.round.view (Certified (certificate.Notarization c))
  add_found view (artifact.Certification r ok) = λ r. r
  add_found view (artifact.Nullify v) = add_at view v.round.view (Cast (vote.Nullify v))
  add_found view (artifact.Nullification c) = add_at view c.round.view (Certified (certificate.Nullification c))
  add_found view (artifact.Finalize v) = add_at view v.proposal.round.view (Cast (vote.Finalize v))
  add_found view (artifact.Finalization c) = add_at view c.proposal.round.view (Certified (certificate.Finalization c))

  -- what a point says of the votes of a view
  abbrev pub add_point : ℕ → Point S D P G C → votes.History S D P G C → votes.History S D P G C
  add_point view (Found x taken) r = add_found view x r
  add_point view (Heard v) r = add_at view (vote_round v).view (Taken v) r
  add_point view (Came c) r = add_at view (certificate_round c).view (Certified c) r
  add_point view (Leads at i) r = add_at view at (Led i) r
  add_point view (Forwards at p) r = add_at view at Forwarded r
  add_point view (Constructs at kind batch) r = if at == view then after kind (Some batch) r else r
  add_point view (Votes v) r = add_at view (vote_round v).view (Cast v) r
  add_point view p r = r

  abbrev pub all_votes : ℕ → History S D P G C → votes.History S D P G C
  all_votes view [] = []
  all_votes view (p ∷ h) = add_point view p (all_votes view h)

  -- a point brings a vote or a certificate of the view
  abbrev pub concerns : ℕ → Point S D P G C → Bool
  concerns view (Found (artifact.Certification r ok) taken) = false
  concerns view (Found x taken) = (artifact_round x).view == view
  concerns view (Heard v) = (vote_round v).view == view
  concerns view (Came c) = (certificate_round c).view == view
  concerns view (Votes v) = (vote_round v).view == view
  concerns view p = false

  -- a view may be entered by such a point: by the opening, a certificate or a verdict
  abbrev pub may_enter : Point S D P G C → Bool
  may_enter (Opened now) = true
  may_enter (Found x taken) = true
  may_enter (Came c) = true
  may_enter (Judged r ok) = true
  may_enter (Constructs view kind batch) = true
  may_enter p = false

  module _ (s : Setup S D C) where
    -- a view is behind, and votes of such views are not kept
    abbrev pub passes_over : History S D P G C → ℕ → Bool
    passes_over h view = nat_lt view (current_of s h) && not s.tracks

    -- the votes of a view come up: a vote or certificate of it is there, or it is entered. Those of a view without room never do
    abbrev pub opens : History S D P G C → Point S D P G C → ℕ → Bool
    opens h p view = (concerns view p || (may_enter p && (current_of s (p ∷ h) == view))) && has_room s.voter.length view

    -- how far the votes of a view are, kept or not
    abbrev pub opened : History S D P G C → ℕ → Stage
    opened [] view = Unopened
    opened (p ∷ h) view = if opens h p view then first_up (opened h view) (passes_over h view) else opened h view

    -- and while it is kept
    abbrev pub stage : History S D P G C → ℕ → Stage
    stage h view = if nat_lt view (floor_of s h) then Unopened else opened h view

    -- what happened to the votes of a view, while it is kept
    abbrev pub votes_of : History S D P G C → ℕ → votes.History S D P G C
    votes_of h view = if nat_lt view (floor_of s h) then [] else all_votes view h

    -- what stays the same of the votes of a view
    abbrev pub votes_setup : Ghosts S D P G C → History S D P G C → ℕ → votes.Setup S
    votes_setup g h view = record {
      round = record { epoch = s.voter.epoch; view = view };
      scheme = s.voter.scheme;
      members = g.size s.voter.scheme;
      needed = quorum (g.size s.voter.scheme);
      batchable = g.batchable s.voter.scheme;
      tracks = s.tracks;
      is_skipped = skips (stage h view) (passes_over h view);
    }

  -- ---- the repair

  module _ (f : Formats S D P G C) where
    -- the bytes of the notarization of a view that the record has
    abbrev pub notarization_bytes : History S D P G C → ℕ → List ℕ
    notarization_bytes h view = unwrap_or (option_map (λ c. f.certificate (as_notarization c)) (notarization_in (record_of h) view)) []

    -- what the record said
    abbrev pub repair_found : History S D P G C → Artifact S D P G C → List Item
    repair_found h (artifact.Notarize v) = []
    repair_found h (artifact.Notarization c) = item_of f.certificate (certificate.Notarization c) ∷ []
    repair_found h (artifact.Certification r ok) = repair.Judged r.view (notarization_bytes h r.view) ok ∷ []
    repair_found h (artifact.Nullify v) = []
    repair_found h (artifact.Nullification c) = item_of f.certificate (certificate.Nullification c) ∷ []
    repair_found h (artifact.Finalize v) = []
    repair_found h (artifact.Finalization c) = item_of f.certificate (certificate.Finalization c) ∷ []

    -- what a point says of the repair, behind what happened before
    abbrev pub repair_items : History S D P G C → Point S D P G C → List Item
    repair_items h (Found x taken) = repair_found h x
    repair_items h Began = Replayed ∷ []
    repair_items h (Came c) = item_of f.certificate c ∷ []
    repair_items h (Judged r ok) = repair.Judged r.view (notarization_bytes h r.view) ok ∷ []
    repair_items h (Constructs view kind batch) = option_to_list (option_map (item_of f.certificate) batch.certificate)
    repair_items h p = []

    abbrev pub repair_of : History S D P G C → List Item
    repair_of [] = []
    repair_of (p ∷ h) = repair_items h p ++ repair_of h
