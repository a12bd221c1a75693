-- Where the votes of all views stand behind a point.
use Rattle.std.proofs.Common.{◌≡◌, ℕ, ◌==◌, ◌-◌, ◌≤◌, ◌<◌, ◌++◌, Bool, true, false, List, [], ◌∷◌, refl, arith}
use Rattle.std.specs.Prelude.{max, if◌then◌else◌}
use Rattle.std.proofs.lemmas.Bool.{lt-ltb}
use Rattle.types_core.specs.Positions.{HasRoom}
use Rattle.types_core.specs.declared.scheme.Scheme.{Ghosts}
use Rattle.messages_certificates.specs.declared.certificate.Certificate.{Certificate}
use Rattle.messages_certificates.specs.declared.certificate.Certificate.TheVariants as certificate
use Rattle.messages_certificates.specs.Artifact.{certificate_artifact}
use Rattle.messages_certificates.specs.Certificate.{certificate_round}
use Rattle.simplex_messages.specs.declared.vote.Vote.{Vote}
use Rattle.simplex_messages.specs.declared.vote.Vote.TheVariants as vote
use Rattle.simplex_messages.specs.VoteParts.{vote_artifact, vote_round}
use Rattle.voter_history.specs.History as views
use Rattle.voter_history.specs.History.{finalized, last_finalized}
use Rattle.batcher_verifier.specs.History as votes
use Rattle.batcher_verifier.specs.History.{Cast, Certified}
use Rattle.simplex_member.specs.Layers.{add_point, all_votes, concerns, current_of, floor_of, has_room, latest, may_enter, opened, passes_over, stage, voter_of, voter_points, votes_of}
use Rattle.simplex_member.specs.Point.{History, Point, Found, Votes}
use Rattle.simplex_member.specs.Setup.{Setup}
use Rattle.node_votes.specs.declared.rounds.Rounds.{Rounds}
use Rattle.node_votes.specs.Standing.{Stand, come_up, happened_from, put, up_from}
use Rattle.node_votes.specs.KeepsVotes.{common_part, stage_ahead, votes_ahead}
use Rattle.node_votes.proofs.Changing.{alike}
use Rattle.node_votes.proofs.Pieces.{ahead-brought, ahead-unkept, happened-brought, happened-later, happened-unkept, up-below, up-brought, up-entered, up-roomless, up-unkept}

max-right : (m n : ℕ) → n ≤ max m n
max-right m n = omega arith

le-refl : (n : ℕ) → n ≤ n
le-refl n = omega arith

less-taken : (a b r : ℕ) → a ≤ b → a - r ≤ b - r
less-taken a b r le = omega arith

-- what room says
pub roomy : (views view : ℕ) → HasRoom views view → has_room views view ≡ true
roomy views view room = lt-ltb _ _ room

module _ {S D P G C : Type 0} where
  finalized-rises : (x : views.Point S D P G C) (h : List (views.Point S D P G C)) → last_finalized h ≤ last_finalized (x ∷ h)
  finalized-rises (finalized now c) h = max-right c.proposal.round.view (last_finalized h)
  finalized-rises x h = le-refl (last_finalized h)

  all-rise : (xs h : List (views.Point S D P G C)) → last_finalized h ≤ last_finalized (xs ++ h)
  all-rise [] h = le-refl (last_finalized h)
  all-rise (x ∷ xs) h = omega (arith, all-rise xs h, finalized-rises x (xs ++ h))

  -- the floor never falls
  pub floor-rises : (s : Setup S D C) (h : History S D P G C) (p : Point S D P G C) → floor_of s h ≤ floor_of s (p ∷ h)
  floor-rises s h p = less-taken (last_finalized (voter_of s h)) (last_finalized (voter_of s (p ∷ h))) s.voter.retention (all-rise (voter_points s (latest (p ∷ h)) (last_finalized (voter_of s h)) p) (voter_of s h))

  -- by an own vote neither the current view nor the floor changes
  pub vote-current : (s : Setup S D C) (h : History S D P G C) (v : Vote S D P G C) → current_of s (Votes v ∷ h) ≡ current_of s h
  vote-current s h (vote.Notarize v) = refl
  vote-current s h (vote.Nullify v) = refl
  vote-current s h (vote.Finalize v) = refl

  pub vote-floor : (s : Setup S D C) (h : History S D P G C) (v : Vote S D P G C) → floor_of s (Votes v ∷ h) ≡ floor_of s h
  vote-floor s h (vote.Notarize v) = refl
  vote-floor s h (vote.Nullify v) = refl
  vote-floor s h (vote.Finalize v) = refl

  -- what the record said of a vote, or a certificate, is of its view
  pub found-vote : (v : Vote S D P G C) (taken : Bool) (u : ℕ) → concerns u (Found (vote_artifact v) taken) ≡ ((vote_round v).view == u)
  found-vote (vote.Notarize v) taken u = refl
  found-vote (vote.Nullify v) taken u = refl
  found-vote (vote.Finalize v) taken u = refl

  pub found-vote-adds : (v : Vote S D P G C) (taken : Bool) (u : ℕ) (r : votes.History S D P G C) → add_point u (Found (vote_artifact v) taken) r ≡ (if (vote_round v).view == u then Cast v ∷ r else r)
  found-vote-adds (vote.Notarize v) taken u r = refl
  found-vote-adds (vote.Nullify v) taken u r = refl
  found-vote-adds (vote.Finalize v) taken u r = refl

  pub found-certificate : (c : Certificate S D P G C) (taken : Bool) (u : ℕ) → concerns u (Found (certificate_artifact c) taken) ≡ ((certificate_round c).view == u)
  found-certificate (certificate.Notarization c) taken u = refl
  found-certificate (certificate.Nullification c) taken u = refl
  found-certificate (certificate.Finalization c) taken u = refl

  pub found-certificate-adds : (c : Certificate S D P G C) (taken : Bool) (u : ℕ) (r : votes.History S D P G C) → add_point u (Found (certificate_artifact c) taken) r ≡ (if (certificate_round c).view == u then Certified c ∷ r else r)
  found-certificate-adds (certificate.Notarization c) taken u r = refl
  found-certificate-adds (certificate.Nullification c) taken u r = refl
  found-certificate-adds (certificate.Finalization c) taken u r = refl

module _ {S D P G C : Type 0} (g : Ghosts S D P G C) (same : D → D → Bool) (s : Setup S D C) (h : History S D P G C) (p : Point S D P G C) (r : Rounds S D P G C) where
  module _ (at : ℕ) (e : votes.Event (Vote S D P G C) (Certificate S D P G C)) (its : (u : ℕ) → concerns u p ≡ (at == u)) (adds : (u : ℕ) (vs : votes.History S D P G C) → add_point u p vs ≡ (if at == u then e ∷ vs else vs)) where
    -- a point brings something of a view, and enters none
    pub brought : may_enter p ≡ false → floor_of s (p ∷ h) ≡ floor_of s h → floor_of s h ≤ at → HasRoom s.voter.length at
        → Stand g same (common_part s) r (come_up at (passes_over s h at) (stage s h)) (put at e (votes_of s h)) → Stand g same (common_part s) r (stage s (p ∷ h)) (votes_of s (p ∷ h))
    brought none floor low room k = alike g same (common_part s) r (come_up at (passes_over s h at) (stage s h)) (stage s (p ∷ h)) (put at e (votes_of s h)) (votes_of s (p ∷ h))
        (up-brought (floor_of s h) (floor_of s (p ∷ h)) at (opened s h) (λ u. concerns u p) (λ u. has_room s.voter.length u) (λ u. passes_over s h u) (λ u. current_of s (p ∷ h) == u) (may_enter p) floor none its low (roomy s.voter.length at room))
        (happened-brought (floor_of s h) (floor_of s (p ∷ h)) at e (λ u. all_votes u h) (λ u. all_votes u (p ∷ h)) floor (λ u. adds u (all_votes u h)) low) k

    -- the view isn't kept
    pub unkept : may_enter p ≡ false → floor_of s (p ∷ h) ≡ floor_of s h → at < floor_of s h
        → Stand g same (common_part s) r (stage s h) (votes_of s h) → Stand g same (common_part s) r (stage s (p ∷ h)) (votes_of s (p ∷ h))
    unkept none floor low k = alike g same (common_part s) r (stage s h) (stage s (p ∷ h)) (votes_of s h) (votes_of s (p ∷ h))
        (up-unkept (floor_of s h) (floor_of s (p ∷ h)) at (opened s h) (λ u. concerns u p) (λ u. has_room s.voter.length u) (λ u. passes_over s h u) (λ u. current_of s (p ∷ h) == u) (may_enter p) floor none its low)
        (happened-unkept (floor_of s h) (floor_of s (p ∷ h)) at e (λ u. all_votes u h) (λ u. all_votes u (p ∷ h)) floor (λ u. adds u (all_votes u h)) low) k

    -- the same a point ahead
    pub brought-ahead : floor_of s h ≤ at → HasRoom s.voter.length at
        → Stand g same (common_part s) r (come_up at (passes_over s h at) (stage s h)) (put at e (votes_of s h)) → Stand g same (common_part s) r (stage_ahead s h p) (votes_ahead s h p)
    brought-ahead low room k = alike g same (common_part s) r (come_up at (passes_over s h at) (stage s h)) (stage_ahead s h p) (put at e (votes_of s h)) (votes_ahead s h p)
        (ahead-brought (floor_of s h) at (opened s h) (λ u. concerns u p) (λ u. has_room s.voter.length u) (λ u. passes_over s h u) its low (roomy s.voter.length at room))
        (happened-brought (floor_of s h) (floor_of s h) at e (λ u. all_votes u h) (λ u. add_point u p (all_votes u h)) refl (λ u. adds u (all_votes u h)) low) k

    pub unkept-ahead : at < floor_of s h
        → Stand g same (common_part s) r (stage s h) (votes_of s h) → Stand g same (common_part s) r (stage_ahead s h p) (votes_ahead s h p)
    unkept-ahead low k = alike g same (common_part s) r (stage s h) (stage_ahead s h p) (votes_of s h) (votes_ahead s h p)
        (ahead-unkept (floor_of s h) at (opened s h) (λ u. concerns u p) (λ u. has_room s.voter.length u) (λ u. passes_over s h u) its low)
        (happened-unkept (floor_of s h) (floor_of s h) at e (λ u. all_votes u h) (λ u. add_point u p (all_votes u h)) refl (λ u. adds u (all_votes u h)) low) k

  -- a view is entered
  module _ (enters : may_enter p ≡ true) where
    pub entered : HasRoom s.voter.length (current_of s (p ∷ h))
        → Stand g same (common_part s) r (up_from (floor_of s (p ∷ h)) (come_up (current_of s (p ∷ h)) (passes_over s h (current_of s (p ∷ h))) (stage_ahead s h p))) (happened_from (floor_of s (p ∷ h)) (votes_ahead s h p))
        → Stand g same (common_part s) r (stage s (p ∷ h)) (votes_of s (p ∷ h))
    entered room k = alike g same (common_part s) r _ (stage s (p ∷ h)) _ (votes_of s (p ∷ h))
        (up-entered (floor_of s h) (floor_of s (p ∷ h)) (current_of s (p ∷ h)) (opened s h) (λ u. concerns u p) (λ u. has_room s.voter.length u) (λ u. passes_over s h u) (may_enter p) enters (floor-rises s h p) (roomy s.voter.length (current_of s (p ∷ h)) room))
        (happened-later (floor_of s h) (floor_of s (p ∷ h)) (λ u. all_votes u (p ∷ h)) (floor-rises s h p)) k

    pub roomless : has_room s.voter.length (current_of s (p ∷ h)) ≡ false
        → Stand g same (common_part s) r (up_from (floor_of s (p ∷ h)) (stage_ahead s h p)) (happened_from (floor_of s (p ∷ h)) (votes_ahead s h p))
        → Stand g same (common_part s) r (stage s (p ∷ h)) (votes_of s (p ∷ h))
    roomless room k = alike g same (common_part s) r _ (stage s (p ∷ h)) _ (votes_of s (p ∷ h))
        (up-roomless (floor_of s h) (floor_of s (p ∷ h)) (current_of s (p ∷ h)) (opened s h) (λ u. concerns u p) (λ u. has_room s.voter.length u) (λ u. passes_over s h u) (may_enter p) enters (floor-rises s h p) room)
        (happened-later (floor_of s h) (floor_of s (p ∷ h)) (λ u. all_votes u (p ∷ h)) (floor-rises s h p)) k

    pub below-floor : current_of s (p ∷ h) < floor_of s (p ∷ h)
        → Stand g same (common_part s) r (up_from (floor_of s (p ∷ h)) (stage_ahead s h p)) (happened_from (floor_of s (p ∷ h)) (votes_ahead s h p))
        → Stand g same (common_part s) r (stage s (p ∷ h)) (votes_of s (p ∷ h))
    below-floor down k = alike g same (common_part s) r _ (stage s (p ∷ h)) _ (votes_of s (p ∷ h))
        (up-below (floor_of s h) (floor_of s (p ∷ h)) (current_of s (p ∷ h)) (opened s h) (λ u. concerns u p) (λ u. has_room s.voter.length u) (λ u. passes_over s h u) (may_enter p) enters (floor-rises s h p) down)
        (happened-later (floor_of s h) (floor_of s (p ∷ h)) (λ u. all_votes u (p ∷ h)) (floor-rises s h p)) k
