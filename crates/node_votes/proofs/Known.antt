-- What comes of a view whose votes came up before.
use Rattle.std.proofs.Common.{◌≡◌, ◌≢◌, ℕ, ◌==◌, Bool, true, false, ◌∷◌, ⊎_elim, refl, sym, ◌∙◌, subst, arith}
use Rattle.std.specs.Prelude.{◌↔◌, Option, Some, None, IfOk, IfErr, OnOk, OnErr, Result, Ok, Err, IsTrue, if◌then◌else◌, is_none}
use Rattle.std.specs.BTreeMap.{BTreeMap}
use Rattle.std.specs.BTreeSet.{BTreeSet, contains}
use Rattle.std.specs.BTreeSet as sorted
use Rattle.std.specs.Ordering.{nat_cmp}
use Rattle.std.specs.declared.cmp.Reverse.{Reverse}
use Rattle.std.proofs.lemmas.Bool.{cases_eq}
use Rattle.std.proofs.lemmas.Bool.Decides.{nat_tests}
use Rattle.types_core.specs.LatestFirst.{as_key, stored, Stores}
use Rattle.types_core.specs.declared.position.Round as position
use Rattle.types_core.specs.declared.scheme.Scheme.{Ghosts}
use Rattle.messages_certificates.specs.declared.certificate.Certificate.{Certificate}
use Rattle.simplex_messages.specs.declared.vote.Vote.{Vote}
use Rattle.simplex_messages.specs.declared.activity.Activity.{Activity}
use Rattle.simplex_messages.specs.VoteParts.{vote_round}
use Rattle.messages_certificates.specs.Certificate.{certificate_round}
use Rattle.batcher_admission.specs.declared.admission.Admission.{Admission}
use Rattle.batcher_admission.specs.Evidence.{as_report}
use Rattle.batcher_verifier.specs.declared.batcher_fault.BatcherFault.{BatcherFault}
use Rattle.batcher_verifier.specs.declared.batcher_fault.BatcherFault.TheVariants.{WrongRound, OtherLeader, Contradicts, Memory}
use Rattle.batcher_verifier.specs.History.{Event, Taken, Cast, Certified, History, Setup, leader_of, recorded, takes}
use Rattle.batcher_verifier.specs.Lawful.{VoteAttests}
use Rattle.simplex_batcher.specs.declared.round.Round.{Round}
use Rattle.simplex_batcher.specs.Admission.{AgreesWithOwn, IsAdmissionFault, IsBlocked, IsCastFault, contradicts, report_of}
use Rattle.simplex_batcher.specs.Rounds.{RoundKeeps}
use Rattle.simplex_batcher.specs.Rounds as one
use Rattle.node_votes.specs.declared.rounds.Rounds.{Rounds}
use Rattle.node_votes.specs.Standing.{AtEach, Common, IsAdmitted, IsAtRest, IsCast, IsKept, Stand, come_up, is_passed, put, set_at, setup_now, IfUp}
use Rattle.node_votes.proofs.Changing.{apart-at, changed, itself, kept-still, kept-up, keys-apart, known}
use Rattle.simplex_member.specs.Layers.{Stage, Unopened, Collected, PassedOver, IsUp, first_up}

-- a round is its epoch and its view
pub round-of : (r : position.Round) (epoch view : ℕ) → r.epoch ≡ epoch → r.view ≡ view → r ≡ record { epoch = epoch; view = view }
round-of r epoch view e at = λ i. record { epoch = e i; view = at i }

-- a vote of the round is refused for want of memory alone
pub admission-memory : {S D P G C : Type 0} (s : Setup S) (v : Vote S D P G C) (e : BatcherFault) → vote_round v ≡ s.round → IsAdmissionFault s v e → e ≡ Memory
admission-memory s v WrongRound ours fault = absurd (fault ours)
admission-memory s v OtherLeader ours fault = absurd fault
admission-memory s v Contradicts ours fault = absurd fault
admission-memory s v Memory ours fault = refl

-- what came up stays so
pub still-up : (at : Stage) (b : Bool) → IsUp at → first_up at b ≡ at
still-up Unopened b up = absurd (cc up)
still-up Collected b up = refl
still-up PassedOver b up = refl

module _ {S D P G C : Type 0} (g : Ghosts S D P G C) (same : D → D → Bool) (s : Common S) (mid : Rounds S D P G C) (up : ℕ → Stage) (happened : ℕ → History S D P G C) (view : ℕ) (k : Stand g same s mid up happened) where
  module _ (current : ℕ) (round : Round S D P G C) (there : Some round ≡ stored mid.by_view view) where
    pub kept-here : IsKept g same s view (Some round) (up view) (happened view)
    kept-here = subst (λ (o : Option (Round S D P G C)). IsKept g same s view o (up view) (happened view)) (sym there) (k.kept view)

    -- where its round stands
    pub stands-here : RoundKeeps same g g.batchable (setup_now g s up view current) round (happened view)
    stands-here = known g same s view round (up view) (is_passed s view current) (happened view) kept-here

    pub came-up : (o : Stage) → IsKept g same s view (Some round) o (happened view) → IsUp o
    came-up Unopened kept = absurd kept
    came-up Collected kept = refl
    came-up PassedOver kept = refl

    module _ (round' : Round S D P G C) (m : BTreeMap (Reverse ℕ) (Round S D P G C)) (updates : Stores mid.by_view m view (Some round')) (touched : contains nat_cmp mid.touched view ≡ true) where
      -- its votes changed
      pub moved : (up' : ℕ → Stage) (happened' : ℕ → History S D P G C) → IsKept g same s view (Some round') (up' view) (happened' view)
          → ((u : ℕ) → (view == u) ≡ false → (up' u ≡ up u) × (happened' u ≡ happened u)) → leader_of (happened' view) ≡ leader_of (happened view)
          → Stand g same s (record mid { by_view = m }) up' happened'
      moved up' happened' kept others led = changed g same s mid (record mid { by_view = m }) view up up' happened happened' k refl
          (λ u ne. updates.2 (as_key u) (keys-apart view u ne)) others (λ u ne no. no) (λ u ne. refl)
          (subst (λ (o : Option (Round S D P G C)). IsKept g same s view o (up' view) (happened' view)) (sym updates.1) kept)
          (λ no. absurd (cc (touched, no)))
          (λ no some. rw led (k.named view no (came-up (up view) kept-here)))
          (λ unnamed. led ∙ k.waits view unnamed)

      -- nothing happened
      pub moved-still : RoundKeeps same g g.batchable (setup_now g s up view current) round' (happened view) → Stand g same s (record mid { by_view = m }) up happened
      moved-still stands = moved up happened (kept-still g same s view round round' (up view) (is_passed s view current) (happened view) (happened view) kept-here stands) (λ u ne. (refl, refl)) refl

      -- one more thing happened, which names no leader
      pub moved-put : (e : Event (Vote S D P G C) (Certificate S D P G C)) → (leader_of (e ∷ happened view) ≡ leader_of (happened view)) → RoundKeeps same g g.batchable (setup_now g s up view current) round' (e ∷ happened view)
          → Stand g same s (record mid { by_view = m }) (come_up view (is_passed s view current) up) (put view e happened)
      moved-put e unled stands = moved (come_up view (is_passed s view current) up) (put view e happened)
          (rw (itself view) (kept-up g same s view round' (up view) (is_passed s view current) (e ∷ happened view) stands))
          (λ u ne. (rw ne refl, rw ne refl))
          (rw (itself view) unled)

      -- the same, of what came up
      pub moved-set : (h : History S D P G C) → leader_of h ≡ leader_of (happened view) → RoundKeeps same g g.batchable (setup_now g s up view current) round' h
          → Stand g same s (record mid { by_view = m }) up (set_at view h happened)
      moved-set h led stands = moved up (set_at view h happened)
          (rw (itself view) (kept-still g same s view round round' (up view) (is_passed s view current) (happened view) h kept-here stands))
          (λ u ne. (refl, rw ne refl))
          (rw (itself view) led)

  -- nothing is due of a view, which is touched no more
  pub rested : (t : BTreeSet ℕ) → sorted.UpdatesBy nat_cmp (nat_cmp view) mid.touched t false → IfUp (up view) (λ skipped. IsAtRest g same s view skipped (happened view))
      → Stand g same s (record mid { touched = t }) up happened
  rested t updates rest = record {
    shared = k.shared;
    kept = k.kept;
    at_rest = λ u untouched. ⊎_elim
        (λ e. subst (λ (w : ℕ). IfUp (up w) (λ skipped. IsAtRest g same s w skipped (happened w))) e rest)
        (λ ne. let apart : (view == u) ≡ false = grind (arith, nat_tests) in k.at_rest u (sym (updates.2 u (apart-at view u apart)) ∙ untouched))
        (cases_eq view u);
    named = k.named;
    waits = k.waits;
  }

module _ {S D P G C : Type 0} (g : Ghosts S D P G C) (same : D → D → Bool) (old mid : Rounds S D P G C) (opens : AtEach g same old (λ s up happened. Stand g same s mid up happened)) (view : ℕ) (round round' : Round S D P G C)
    (m : BTreeMap (Reverse ℕ) (Round S D P G C)) (there : Some round ≡ stored mid.by_view view) (updates : Stores mid.by_view m view (Some round')) (touched : contains nat_cmp mid.touched view ≡ true) where
  module _ (v : Vote S D P G C) (ours : view ≡ (vote_round v).view) where
    -- a vote from the network
    pub known-admitted : (current sender : ℕ) (r : Result (Admission S D P G C) BatcherFault)
        → IfOk r (λ a. one.AtEach same g g.batchable round (λ s h. a.added ≡ takes s h sender v))
        → IfOk r (λ a. one.AtEach same g g.batchable round (λ s h. IsTrue a.block ↔ IsBlocked s h sender v))
        → IfOk r (λ a. one.AtEach same g g.batchable round (λ s h. a.report ≡ report_of same s h sender v))
        → OnOk r (one.AtEach same g g.batchable round (λ s h. RoundKeeps same g g.batchable s round' (if takes s h sender v then Taken v ∷ h else h)))
        → IfOk r (λ a. AtEach g same old (λ s up happened. IsAdmitted g same s up happened (record mid { by_view = m }) current sender v a))
    known-admitted current sender (Err e) added block report ok = tt
    known-admitted current sender (Ok a) added block report ok = λ s up happened before.
        let k = opens s up happened before in
        let here = stands-here g same s mid up happened view k current round there in
        let st = setup_now g s up view current in
        subst (λ (w : ℕ). (a.added ≡ takes (setup_now g s up w current) (happened w) sender v) → (IsTrue a.block ↔ IsBlocked (setup_now g s up w current) (happened w) sender v) → (a.report ≡ report_of same (setup_now g s up w current) (happened w) sender v)
        → (a.added ≡ true → Stand g same s (record mid { by_view = m }) (come_up w (is_passed s w current) up) (put w (Taken v) happened)) → (a.added ≡ false → Stand g same s (record mid { by_view = m }) up happened)
        → IsAdmitted g same s up happened (record mid { by_view = m }) current sender v a) (sym ours)
        (λ x y z t p. record { added = x; block = y; report = z; taken = t; passed = p })
        (added st (happened view) here) (block st (happened view) here) (report st (happened view) here)
        (λ yes. let does : takes st (happened view) sender v ≡ true = sym (added st (happened view) here) ∙ yes in
        moved-put g same s mid up happened view k current round there round' m updates touched (Taken v) refl
        (subst (λ (b : Bool). RoundKeeps same g g.batchable st round' (if b then Taken v ∷ happened view else happened view)) does (ok st (happened view) here)))
        (λ no. let doesnt : takes st (happened view) sender v ≡ false = sym (added st (happened view) here) ∙ no in
        moved-still g same s mid up happened view k current round there round' m updates touched
        (subst (λ (b : Bool). RoundKeeps same g g.batchable st round' (if b then Taken v ∷ happened view else happened view)) doesnt (ok st (happened view) here)))

    pub known-refused : (r : Result (Admission S D P G C) BatcherFault) → IfErr r (λ e. one.AtEach same g g.batchable round (λ s h. IsAdmissionFault s v e))
        → IfErr r (λ e. AtEach g same old (λ s up happened. (vote_round v).epoch ≡ s.epoch → e ≡ Memory))
    known-refused (Ok a) refused = tt
    known-refused (Err e) refused = λ s up happened before epoch.
        admission-memory (setup_now g s up view 0) v e (round-of (vote_round v) s.epoch view epoch (sym ours))
        (refused (setup_now g s up view 0) (happened view) (stands-here g same s mid up happened view (opens s up happened before) 0 round there))

    -- an own vote
    pub known-cast : (current : ℕ) (r : Result (Option (Activity S D P G C)) BatcherFault)
        → IfOk r (λ report. one.AtEach same g g.batchable round (λ s h. report ≡ (if is_none (recorded h v) then Some (as_report v) else None)))
        → OnOk r (one.AtEach same g g.batchable round (λ s h. VoteAttests g.attests s v → RoundKeeps same g g.batchable s round' (if is_none (recorded h v) then Cast v ∷ h else h)))
        → OnOk r (one.AtEach same g g.batchable round (λ s h. is_none (recorded h v) ≡ false → RoundKeeps same g g.batchable s round' h))
        → IfOk r (λ report. one.AtEach same g g.batchable round (λ s h. contradicts same h v ≡ false))
        → IfOk r (λ report. AtEach g same old (λ s up happened. IsCast g same s up happened (record mid { by_view = m }) current v report))
    known-cast current (Err e) report ok again agrees = tt
    known-cast current (Ok o) report ok again agrees = λ s up happened before.
        let k = opens s up happened before in
        let here = stands-here g same s mid up happened view k current round there in
        let st = setup_now g s up view current in
        subst (λ (w : ℕ). (o ≡ (if is_none (recorded (happened w) v) then Some (as_report v) else None))
        → (VoteAttests g.attests st v → is_none (recorded (happened w) v) ≡ true → Stand g same s (record mid { by_view = m }) (come_up w (is_passed s w current) up) (put w (Cast v) happened))
        → (is_none (recorded (happened w) v) ≡ false → Stand g same s (record mid { by_view = m }) up happened) → (contradicts same (happened w) v ≡ false) → IsCast g same s up happened (record mid { by_view = m }) current v o) (sym ours)
        (λ x y z a. record { report_is = x; cast = y; again = z; agrees = a })
        (report st (happened view) here)
        (λ attests free. moved-put g same s mid up happened view k current round there round' m updates touched (Cast v) refl
        (subst (λ (b : Bool). RoundKeeps same g g.batchable st round' (if b then Cast v ∷ happened view else happened view)) free (ok st (happened view) here attests)))
        (λ no. moved-still g same s mid up happened view k current round there round' m updates touched (again st (happened view) here no))
        (agrees st (happened view) here)

    pub known-why : (current : ℕ) (r : Result (Option (Activity S D P G C)) BatcherFault) → IfErr r (λ e. one.AtEach same g g.batchable round (λ s h. IsCastFault same s h v e))
        → IfErr r (λ e. AtEach g same old (λ s up happened. IsCastFault same (setup_now g s up (vote_round v).view current) (happened (vote_round v).view) v e))
    known-why current (Ok a) why = tt
    known-why current (Err e) why = λ s up happened before.
        subst (λ (w : ℕ). IsCastFault same (setup_now g s up w current) (happened w) v e) ours
        (why (setup_now g s up view current) (happened view) (stands-here g same s mid up happened view (opens s up happened before) current round there))

    pub known-own : (r : Result (Option (Activity S D P G C)) BatcherFault) → IfErr r (λ e. one.AtEach same g g.batchable round (λ s h. vote_round v ≡ s.round → AgreesWithOwn same h v → e ≡ Memory))
        → IfErr r (λ e. AtEach g same old (λ s up happened. (vote_round v).epoch ≡ s.epoch → AgreesWithOwn same (happened (vote_round v).view) v → e ≡ Memory))
    known-own (Ok a) own = tt
    known-own (Err e) own = λ s up happened before epoch agrees.
        own (setup_now g s up view 0) (happened view) (stands-here g same s mid up happened view (opens s up happened before) 0 round there)
        (round-of (vote_round v) s.epoch view epoch (sym ours)) (subst (λ (w : ℕ). AgreesWithOwn same (happened w) v) (sym ours) agrees)

  -- where the round changed nothing, nothing changed
  pub known-still : {T E : Type 0} (r : Result T E) → OnErr r (one.AtEach same g g.batchable round (λ s h. RoundKeeps same g g.batchable s round' h))
      → OnErr r (AtEach g same old (λ s up happened. Stand g same s (record mid { by_view = m }) up happened))
  known-still (Ok a) err = tt
  known-still (Err e) err = λ s up happened before.
      let k = opens s up happened before in
      moved-still g same s mid up happened view k 0 round there round' m updates touched (err (setup_now g s up view 0) (happened view) (stands-here g same s mid up happened view k 0 round there))

  pub known-same : one.AtEach same g g.batchable round (λ s h. RoundKeeps same g g.batchable s round' h) → AtEach g same old (λ s up happened. Stand g same s (record mid { by_view = m }) up happened)
  known-same keeps = λ s up happened before.
      let k = opens s up happened before in
      moved-still g same s mid up happened view k 0 round there round' m updates touched (keeps (setup_now g s up view 0) (happened view) (stands-here g same s mid up happened view k 0 round there))

  module _ (c : Certificate S D P G C) (ours : view ≡ (certificate_round c).view) where
    -- a certificate
    pub known-certified : (current : ℕ) → one.AtEach same g g.batchable round (λ s h. RoundKeeps same g g.batchable s round' (Certified c ∷ h))
        → AtEach g same old (λ s up happened. Stand g same s (record mid { by_view = m }) (come_up (certificate_round c).view (is_passed s (certificate_round c).view current) up) (put (certificate_round c).view (Certified c) happened))
    known-certified current ok = λ s up happened before.
        let k = opens s up happened before in
        subst (λ (w : ℕ). Stand g same s (record mid { by_view = m }) (come_up w (is_passed s w current) up) (put w (Certified c) happened)) ours
        (moved-put g same s mid up happened view k current round there round' m updates touched (Certified c) refl (ok (setup_now g s up view current) (happened view) (stands-here g same s mid up happened view k current round there)))

    pub known-foreign : (e : BatcherFault) → one.AtEach same g g.batchable round (λ s h. (certificate_round c ≢ s.round) × (e ≡ WrongRound)) → AtEach g same old (λ s up happened. (certificate_round c).epoch ≡ s.epoch → e ≡ Memory)
    known-foreign e refused = λ s up happened before epoch.
        absurd ((refused (setup_now g s up view 0) (happened view) (stands-here g same s mid up happened view (opens s up happened before) 0 round there)).0 (round-of (certificate_round c) s.epoch view epoch (sym ours)))
