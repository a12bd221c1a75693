-- What comes of the calls on a member's votes.
use Rattle.std.proofs.Common.{◌≡◌, ◌⊎◌, ℕ, ◌-◌, ◌≤◌, ◌<◌, Bool, true, false, [], ◌∷◌, ⊎_elim, refl, sym, ◌∙◌, subst, arith, if◌then◌else◌}
use Rattle.std.specs.Prelude.{◌↔◌, nat_lt, Option, IsTrue}
use Rattle.std.proofs.lemmas.Bool.{cases_lt, lt-ltb}
use Rattle.types_core.specs.Positions.{HasRoom}
use Rattle.types_core.specs.declared.scheme.Scheme.{Ghosts}
use Rattle.messages_certificates.specs.declared.certificate.Certificate.{Certificate}
use Rattle.messages_certificates.specs.Artifact.{certificate_artifact}
use Rattle.messages_certificates.specs.Certificate.{certificate_round}
use Rattle.simplex_messages.specs.declared.activity.Activity.{Activity}
use Rattle.simplex_messages.specs.declared.vote.Vote.{Vote}
use Rattle.simplex_messages.specs.VoteParts.{vote_artifact, vote_round}
use Rattle.batcher_admission.specs.declared.admission.Admission.{Admission}
use Rattle.batcher_verifier.specs.declared.batcher_fault.BatcherFault.{BatcherFault}
use Rattle.batcher_verifier.specs.History.{Taken, Cast, Certified, Led}
use Rattle.simplex_member.specs.Layers.{all_votes, current_of, floor_of, stage, votes_of, votes_setup, Unopened, IsUp}
use Rattle.simplex_member.specs.Point.{History, Came, Found, Heard, Leads, Votes}
use Rattle.simplex_member.specs.Setup.{Setup}
use Rattle.simplex_batcher.specs.Admission.{IsCastFault}
use Rattle.node_votes.specs.declared.acceptance.Acceptance.{Acceptance}
use Rattle.node_votes.specs.declared.rounds.Rounds.{Rounds}
use Rattle.node_votes.specs.Standing.{Common, IsAdmitted, IsCast, Stand, come_up, is_passed, put, setup_now}
use Rattle.node_votes.specs.KeepsVotes.{Keeps, KeepsAhead, IsSetUp, common_part}
use Rattle.node_votes.proofs.Changing.{alike}
use Rattle.node_votes.proofs.Pieces.{happened-brought}
use Rattle.node_votes.proofs.Pointing.{brought, brought-ahead, found-certificate, found-certificate-adds, found-vote, found-vote-adds, unkept, unkept-ahead, vote-current, vote-floor}

pub bare-floor : (r : ℕ) → 0 ≡ 0 - r
bare-floor r = omega arith

same-both : {A : Type 0} (b : Bool) (x : A) → (if b then x else x) ≡ x
same-both true x = refl
same-both false x = refl

-- at the start no votes came up
pub bare-stands : {S D P G C : Type 0} (g : Ghosts S D P G C) (same : D → D → Bool) (s : Setup S D C) (r : Rounds S D P G C) {scheme : S} {epoch length me : ℕ} {tracks : Bool} → IsSetUp s scheme epoch length me tracks
    → Stand g same (record { scheme = scheme; epoch = epoch; me = me; tracks = tracks }) r (λ view. Unopened) (λ view. []) → Stand g same (common_part s) r (stage {P = P} {G = G} s []) (votes_of {P = P} {G = G} s [])
bare-stands {P = P} {G = G} g same s r set k = alike g same (common_part s) r (λ view. Unopened) (stage {P = P} {G = G} s []) (λ view. []) (votes_of {P = P} {G = G} s [])
    (λ u. same-both (nat_lt u (floor_of {P = P} {G = G} s [])) Unopened) (λ u. same-both (nat_lt u (floor_of {P = P} {G = G} s [])) [])
    (subst (λ (c : Common _). Stand g same c r (λ view. Unopened) (λ view. [])) (λ i. record { scheme = set.scheme_is i; epoch = set.epoch_is i; me = set.me_is i; tracks = set.tracks_is i }) k)

-- a view may be kept that is not below the floor and has room
pub both-open : (floor low view views length : ℕ) (b : Bool) → low ≤ view → low ≡ floor → length ≡ views → IsTrue b ↔ HasRoom length view → IsTrue b ↔ ((floor ≤ view) × HasRoom views view)
both-open floor low view views length b above at same room =
    let fits : IsTrue b ↔ HasRoom views view = subst (λ (n : ℕ). IsTrue b ↔ HasRoom n view) same room in
    let from : floor ≤ view = subst (λ (n : ℕ). n ≤ view) at above in (λ is. (from, fits.0 is), λ both. fits.1 both.1)

pub none-open : (P : Type 0) (floor low view : ℕ) (b : Bool) → b ≡ false → view < low → low ≡ floor → IsTrue b ↔ ((floor ≤ view) × P)
none-open P floor low view b isnt below at = (λ is. absurd (cc (is, isnt)), λ both. let from : low ≤ view = subst (λ (n : ℕ). n ≤ view) (sym at) both.0 in absurd (omega (arith, from, below)))

-- what is shut is not open
pub shut-open : {P : Type 0} (floor view : ℕ) → (view < floor) ⊎ (P → ⊥) → (floor ≤ view) × P → ⊥
shut-open floor view shut both = ⊎_elim (λ low. omega (arith, low, both.0)) (λ none. none both.1) shut

-- what is not open to votes, but has room, lies below the floor
pub low-where-shut : {P : Type 0} (floor view : ℕ) {b : Bool} → IsTrue b ↔ ((floor ≤ view) × P) → b ≡ false → P → view < floor
low-where-shut floor view either shut room = ⊎_elim (λ lt. lt) (λ ge. absurd (cc (either.1 (ge, room), shut))) (cases_lt view floor)

module _ {S D P G C : Type 0} (g : Ghosts S D P G C) (same : D → D → Bool) (s : Setup S D C) (a : Acceptance S D P G C) (h : History S D P G C) (k : Keeps g same s a h) (new : Rounds S D P G C) where
  -- nothing changed but the rounds, which stand where they did
  pub still : Stand g same (common_part s) new (stage s h) (votes_of s h) → Keeps g same s (record a { rounds = new }) h
  unfolding Keeps
  still stands = record { length_is = k.length_is; current_is = k.current_is; floor_is = k.floor_is; rounds = stands }

  pub admitted-now : (sender : ℕ) (v : Vote S D P G C) (x : Admission S D P G C) → IsAdmitted g same (common_part s) (stage s h) (votes_of s h) new a.current sender v x
      → IsAdmitted g same (common_part s) (stage s h) (votes_of s h) new (current_of s h) sender v x
  unfolding Keeps
  admitted-now sender v x is = subst (λ (n : ℕ). IsAdmitted g same (common_part s) (stage s h) (votes_of s h) new n sender v x) k.current_is is

  pub cast-now : (v : Vote S D P G C) (report : Option (Activity S D P G C)) → IsCast g same (common_part s) (stage s h) (votes_of s h) new a.current v report
      → IsCast g same (common_part s) (stage s h) (votes_of s h) new (current_of s h) v report
  unfolding Keeps
  cast-now v report is = subst (λ (n : ℕ). IsCast g same (common_part s) (stage s h) (votes_of s h) new n v report) k.current_is is

  -- a vote is heard
  pub heard : (v : Vote S D P G C) → floor_of s h ≤ (vote_round v).view → HasRoom s.voter.length (vote_round v).view
      → Stand g same (common_part s) new (come_up (vote_round v).view (is_passed (common_part s) (vote_round v).view (current_of s h)) (stage s h)) (put (vote_round v).view (Taken v) (votes_of s h))
      → Keeps g same s (record a { rounds = new }) (Heard v ∷ h)
  unfolding Keeps
  heard v low room stands = record {
    length_is = k.length_is;
    current_is = k.current_is;
    floor_is = k.floor_is;
    rounds = brought g same s h (Heard v) new (vote_round v).view (Taken v) (λ u. refl) (λ u vs. refl) refl refl low room stands;
  }

  pub why-now : (v : Vote S D P G C) (e : BatcherFault) → IsCastFault same (setup_now g (common_part s) (stage s h) (vote_round v).view a.current) (votes_of s h (vote_round v).view) v e
      → IsCastFault same (votes_setup s g h (vote_round v).view) (votes_of s h (vote_round v).view) v e
  unfolding Keeps
  why-now v e is = subst (λ (n : ℕ). IsCastFault same (setup_now g (common_part s) (stage s h) (vote_round v).view n) (votes_of s h (vote_round v).view) v e) k.current_is is

  module _ (v : Vote S D P G C) where
    -- an own vote is cast
    pub cast-kept : floor_of s h ≤ (vote_round v).view → HasRoom s.voter.length (vote_round v).view
        → Stand g same (common_part s) new (come_up (vote_round v).view (is_passed (common_part s) (vote_round v).view (current_of s h)) (stage s h)) (put (vote_round v).view (Cast v) (votes_of s h))
        → Keeps g same s (record a { rounds = new }) (Votes v ∷ h)
    unfolding Keeps
    cast-kept low room stands = record {
      length_is = k.length_is;
      current_is = k.current_is ∙ sym (vote-current s h v);
      floor_is = k.floor_is ∙ sym (vote-floor s h v);
      rounds = brought g same s h (Votes v) new (vote_round v).view (Cast v) (λ u. refl) (λ u vs. refl) refl (vote-floor s h v) low room stands;
    }

    -- the record said so
    pub cast-found : (taken : Bool) → floor_of s h ≤ (vote_round v).view → HasRoom s.voter.length (vote_round v).view
        → Stand g same (common_part s) new (come_up (vote_round v).view (is_passed (common_part s) (vote_round v).view (current_of s h)) (stage s h)) (put (vote_round v).view (Cast v) (votes_of s h))
        → KeepsAhead g same s (record a { rounds = new }) h (Found (vote_artifact v) taken)
    unfolding Keeps KeepsAhead
    cast-found taken low room stands = record {
      length_is = k.length_is;
      current_is = k.current_is;
      floor_is = k.floor_is;
      rounds = brought-ahead g same s h (Found (vote_artifact v) taken) new (vote_round v).view (Cast v) (found-vote v taken) (found-vote-adds v taken) low room stands;
    }

  -- a certificate is recorded
  pub certified-ahead : (c : Certificate S D P G C) → floor_of s h ≤ (certificate_round c).view → HasRoom s.voter.length (certificate_round c).view
      → Stand g same (common_part s) new (come_up (certificate_round c).view (is_passed (common_part s) (certificate_round c).view a.current) (stage s h)) (put (certificate_round c).view (Certified c) (votes_of s h))
      → KeepsAhead g same s (record a { rounds = new }) h (Came c)
  unfolding Keeps KeepsAhead
  certified-ahead c low room stands = record {
    length_is = k.length_is;
    current_is = k.current_is;
    floor_is = k.floor_is;
    rounds = brought-ahead g same s h (Came c) new (certificate_round c).view (Certified c) (λ u. refl) (λ u vs. refl) low room
        (subst (λ (n : ℕ). Stand g same (common_part s) new (come_up (certificate_round c).view (is_passed (common_part s) (certificate_round c).view n) (stage s h)) (put (certificate_round c).view (Certified c) (votes_of s h))) k.current_is stands);
  }

  pub certified-found : (c : Certificate S D P G C) (taken : Bool) → floor_of s h ≤ (certificate_round c).view → HasRoom s.voter.length (certificate_round c).view
      → Stand g same (common_part s) new (come_up (certificate_round c).view (is_passed (common_part s) (certificate_round c).view a.current) (stage s h)) (put (certificate_round c).view (Certified c) (votes_of s h))
      → KeepsAhead g same s (record a { rounds = new }) h (Found (certificate_artifact c) taken)
  unfolding Keeps KeepsAhead
  certified-found c taken low room stands = record {
    length_is = k.length_is;
    current_is = k.current_is;
    floor_is = k.floor_is;
    rounds = brought-ahead g same s h (Found (certificate_artifact c) taken) new (certificate_round c).view (Certified c) (found-certificate c taken) (found-certificate-adds c taken) low room
        (subst (λ (n : ℕ). Stand g same (common_part s) new (come_up (certificate_round c).view (is_passed (common_part s) (certificate_round c).view n) (stage s h)) (put (certificate_round c).view (Certified c) (votes_of s h))) k.current_is stands);
  }

module _ {S D P G C : Type 0} (g : Ghosts S D P G C) (same : D → D → Bool) (s : Setup S D C) (a : Acceptance S D P G C) (h : History S D P G C) (k : Keeps g same s a h) where
  -- of a view that is not kept nothing is
  pub cast-unkept : (v : Vote S D P G C) → (vote_round v).view < floor_of s h → Keeps g same s a (Votes v ∷ h)
  unfolding Keeps
  cast-unkept v low = record {
    length_is = k.length_is;
    current_is = k.current_is ∙ sym (vote-current s h v);
    floor_is = k.floor_is ∙ sym (vote-floor s h v);
    rounds = unkept g same s h (Votes v) a.rounds (vote_round v).view (Cast v) (λ u. refl) (λ u vs. refl) refl (vote-floor s h v) low k.rounds;
  }

  pub found-unkept : (v : Vote S D P G C) (taken : Bool) → (vote_round v).view < floor_of s h → KeepsAhead g same s a h (Found (vote_artifact v) taken)
  unfolding Keeps KeepsAhead
  found-unkept v taken low = record {
    length_is = k.length_is;
    current_is = k.current_is;
    floor_is = k.floor_is;
    rounds = unkept-ahead g same s h (Found (vote_artifact v) taken) a.rounds (vote_round v).view (Cast v) (found-vote v taken) (found-vote-adds v taken) low k.rounds;
  }

  pub came-unkept : (c : Certificate S D P G C) → (certificate_round c).view < floor_of s h → KeepsAhead g same s a h (Came c)
  unfolding Keeps KeepsAhead
  came-unkept c low = record {
    length_is = k.length_is;
    current_is = k.current_is;
    floor_is = k.floor_is;
    rounds = unkept-ahead g same s h (Came c) a.rounds (certificate_round c).view (Certified c) (λ u. refl) (λ u vs. refl) low k.rounds;
  }

  pub certificate-unkept : (c : Certificate S D P G C) (taken : Bool) → (certificate_round c).view < floor_of s h → KeepsAhead g same s a h (Found (certificate_artifact c) taken)
  unfolding Keeps KeepsAhead
  certificate-unkept c taken low = record {
    length_is = k.length_is;
    current_is = k.current_is;
    floor_is = k.floor_is;
    rounds = unkept-ahead g same s h (Found (certificate_artifact c) taken) a.rounds (certificate_round c).view (Certified c) (found-certificate c taken) (found-certificate-adds c taken) low k.rounds;
  }

  -- the votes of a view are kept that came up
  pub stage-kept : (view : ℕ) → IsUp (stage s h view) → floor_of s h ≤ view
  stage-kept view some = ⊎_elim
      (λ lt. let below : nat_lt view (floor_of s h) ≡ true = lt-ltb view (floor_of s h) lt in absurd (cc (rw below at some)))
      (λ ge. ge)
      (cases_lt view (floor_of s h))

  -- the leader of a view is named
  pub led : (new : Rounds S D P G C) (view leader : ℕ) → IsUp (stage s h view) → Stand g same (common_part s) new (stage s h) (put view (Led leader) (votes_of s h)) → Keeps g same s (record a { rounds = new }) (Leads view leader ∷ h)
  unfolding Keeps
  led new view leader some stands = record {
    length_is = k.length_is;
    current_is = k.current_is;
    floor_is = k.floor_is;
    rounds = alike g same (common_part s) new (stage s h) (stage s (Leads view leader ∷ h)) (put view (Led leader) (votes_of s h)) (votes_of s (Leads view leader ∷ h)) (λ u. refl)
        (happened-brought (floor_of s h) (floor_of s h) view (Led leader) (λ u. all_votes u h) (λ u. all_votes u (Leads view leader ∷ h)) refl (λ u. refl) (stage-kept view some)) stands;
  }
