-- What comes of the first that happens to the votes of a view.
use Rattle.std.proofs.Common.{◌≡◌, ◌≢◌, ℕ, ◌==◌, Bool, true, false, [], ◌∷◌, ⊎_elim, refl, sym, ◌∙◌, subst, arith}
use Rattle.std.specs.Prelude.{◌↔◌, Option, Some, None, IsTrue, if◌then◌else◌, is_none}
use Rattle.std.specs.BTreeSet.{contains}
use Rattle.std.specs.Ordering.{nat_cmp}
use Rattle.std.proofs.lemmas.Bool.{cases_eq, eq-eqb}
use Rattle.std.proofs.lemmas.Bool.Decides.{nat_tests}
use Rattle.types_core.specs.LatestFirst.{stored}
use Rattle.types_core.specs.declared.scheme.Scheme.{Ghosts}
use Rattle.messages_certificates.specs.declared.certificate.Certificate.{Certificate}
use Rattle.simplex_messages.specs.declared.vote.Vote.{Vote}
use Rattle.simplex_messages.specs.declared.activity.Activity.{Activity}
use Rattle.simplex_messages.specs.VoteParts.{vote_round}
use Rattle.messages_certificates.specs.Certificate.{certificate_round}
use Rattle.batcher_admission.specs.declared.admission.Admission.{Admission}
use Rattle.batcher_admission.specs.Evidence.{as_report}
use Rattle.batcher_verifier.specs.declared.batcher_fault.BatcherFault.{BatcherFault}
use Rattle.batcher_verifier.specs.declared.batcher_fault.BatcherFault.TheVariants.{WrongRound, Memory}
use Rattle.batcher_verifier.specs.History.{Event, History, Taken, Cast, Certified, leader_of, recorded, takes}
use Rattle.batcher_verifier.specs.Lawful.{VoteAttests}
use Rattle.simplex_batcher.specs.declared.round.Round.{Round}
use Rattle.simplex_batcher.specs.Admission.{AgreesWithOwn, IsAdmissionFault, IsBlocked, IsCastFault, contradicts, report_of}
use Rattle.simplex_batcher.specs.Rounds.{RoundKeeps}
use Rattle.simplex_batcher.specs.Rounds as one
use Rattle.node_votes.specs.declared.rounds.Rounds.{Rounds}
use Rattle.node_votes.specs.Standing.{AtEach, Common, IsAdmitted, IsCast, Stand, come_up, common_of, is_passed, put, set_at, setup_at, setup_now}
use Rattle.node_votes.proofs.Changing.{alike, unknown}
use Rattle.node_votes.proofs.Known.{admission-memory, round-of}
use Rattle.simplex_member.specs.Layers.{Stage, skips}

module _ {S D P G C : Type 0} where
  -- the first that happens is all that happened
  pub put-set : (at : ℕ) (e : Event (Vote S D P G C) (Certificate S D P G C)) (happened : ℕ → History S D P G C) → happened at ≡ [] → (u : ℕ) → put at e happened u ≡ set_at at (e ∷ []) happened u
  put-set at e happened none u = ⊎_elim
      (λ is. let here : (at == u) ≡ true = eq-eqb at u is in let bare : happened u ≡ [] = subst (λ (w : ℕ). happened w ≡ []) is none in rw (here, bare) refl)
      (λ ne. let other : (at == u) ≡ false = grind (arith, nat_tests) in rw other refl)
      (cases_eq at u)

module _ {S D P G C : Type 0} (g : Ghosts S D P G C) (same : D → D → Bool) (s : Common S) (old new : Rounds S D P G C) (up : ℕ → Stage) (happened : ℕ → History S D P G C) (current : ℕ) (k : Stand g same s old up happened) where
  -- something happened to the votes of a view that had no round
  pub first : (at : ℕ) (e : Event (Vote S D P G C) (Certificate S D P G C)) (passed : Bool) → stored old.by_view at ≡ None
      → Stand g same s new (come_up at passed up) (set_at at (e ∷ []) happened) → Stand g same s new (come_up at passed up) (put at e happened)
  first at e passed none seated =
      let bare = unknown g same s at (stored old.by_view at) (up at) (happened at) none (k.kept at) in
      alike g same s new (come_up at passed up) (come_up at passed up) (set_at at (e ∷ []) happened) (put at e happened) (λ u. refl) (put-set at e happened bare.1) seated

module _ {S D P G C : Type 0} (g : Ghosts S D P G C) (same : D → D → Bool) (old : Rounds S D P G C) (current view : ℕ) (round : Round S D P G C)
    (fresh : (s : Common S) → common_of old ≡ s → RoundKeeps same g g.batchable (setup_at g s view (is_passed s view current)) round []) where
  module _ (v : Vote S D P G C) (ours : view ≡ (vote_round v).view) where
    -- a vote from the network is not taken
    pub first-passed : (sender : ℕ) (a : Admission S D P G C) → a.added ≡ false → one.AtEach same g g.batchable round (λ s h. a.added ≡ takes s h sender v)
        → one.AtEach same g g.batchable round (λ s h. IsTrue a.block ↔ IsBlocked s h sender v) → one.AtEach same g g.batchable round (λ s h. a.report ≡ report_of same s h sender v)
        → AtEach g same old (λ s up happened. stored old.by_view (vote_round v).view ≡ None → contains nat_cmp old.touched (vote_round v).view ≡ true → IsAdmitted g same s up happened old current sender v a)
    first-passed sender a isnt added block report = λ s up happened k.
        let st = setup_at g s view (is_passed s view current) in
        let here = fresh s k.shared in
        subst (λ (w : ℕ). stored old.by_view w ≡ None → contains nat_cmp old.touched w ≡ true → IsAdmitted g same s up happened old current sender v a) ours
        (λ none touched.
        let bare = unknown g same s view (stored old.by_view view) (up view) (happened view) none (k.kept view) in
        subst (λ (w : ℕ). (a.added ≡ takes (setup_now g s up w current) (happened w) sender v) → (IsTrue a.block ↔ IsBlocked (setup_now g s up w current) (happened w) sender v) → (a.report ≡ report_of same (setup_now g s up w current) (happened w) sender v)
        → IsAdmitted g same s up happened old current sender v a) (sym ours)
        (λ x y z. record { added = x; block = y; report = z; taken = λ is. absurd (cc (is, isnt)); passed = λ doesnt. k })
        (rw bare.1 (added st [] here)) (rw (bare.0, bare.1) (block st [] here)) (rw (bare.0, bare.1) (report st [] here)))

    pub first-refused : (e : BatcherFault) → one.AtEach same g g.batchable round (λ s h. IsAdmissionFault s v e) → AtEach g same old (λ s up happened. (vote_round v).epoch ≡ s.epoch → e ≡ Memory)
    first-refused e refused = λ s up happened k epoch. admission-memory (setup_at g s view (is_passed s view current)) v e (round-of (vote_round v) s.epoch view epoch (sym ours)) (refused (setup_at g s view (is_passed s view current)) [] (fresh s k.shared))

    pub first-own : (e : BatcherFault) → one.AtEach same g g.batchable round (λ s h. vote_round v ≡ s.round → AgreesWithOwn same h v → e ≡ Memory)
        → AtEach g same old (λ s up happened. stored old.by_view (vote_round v).view ≡ None → (vote_round v).epoch ≡ s.epoch → AgreesWithOwn same (happened (vote_round v).view) v → e ≡ Memory)
    first-own e own = λ s up happened k. subst (λ (w : ℕ). stored old.by_view w ≡ None → (vote_round v).epoch ≡ s.epoch → AgreesWithOwn same (happened w) v → e ≡ Memory) ours
        (λ none epoch agrees.
        let bare = unknown g same s view (stored old.by_view view) (up view) (happened view) none (k.kept view) in
        own (setup_at g s view (is_passed s view current)) [] (fresh s k.shared) (round-of (vote_round v) s.epoch view epoch (sym ours)) (rw bare.1 at agrees))

    pub first-why : (e : BatcherFault) → one.AtEach same g g.batchable round (λ s h. IsCastFault same s h v e)
        → AtEach g same old (λ s up happened. stored old.by_view (vote_round v).view ≡ None → IsCastFault same (setup_now g s up (vote_round v).view current) (happened (vote_round v).view) v e)
    first-why e why = λ s up happened k. subst (λ (w : ℕ). stored old.by_view w ≡ None → IsCastFault same (setup_now g s up w current) (happened w) v e) ours
        (λ none.
        let bare = unknown g same s view (stored old.by_view view) (up view) (happened view) none (k.kept view) in
        subst (λ (o : Stage). IsCastFault same (setup_at g s view (skips o (is_passed s view current))) (happened view) v e) (sym bare.0)
        (subst (λ (h : History S D P G C). IsCastFault same (setup_at g s view (is_passed s view current)) h v e) (sym bare.1)
        (why (setup_at g s view (is_passed s view current)) [] (fresh s k.shared))))

  module _ (c : Certificate S D P G C) (ours : view ≡ (certificate_round c).view) where
    pub first-foreign : (e : BatcherFault) → one.AtEach same g g.batchable round (λ s h. (certificate_round c ≢ s.round) × (e ≡ WrongRound)) → AtEach g same old (λ s up happened. (certificate_round c).epoch ≡ s.epoch → e ≡ Memory)
    first-foreign e refused = λ s up happened k epoch. absurd ((refused (setup_at g s view (is_passed s view current)) [] (fresh s k.shared)).0 (round-of (certificate_round c) s.epoch view epoch (sym ours)))

module _ {S D P G C : Type 0} (g : Ghosts S D P G C) (same : D → D → Bool) (old new : Rounds S D P G C) (current view : ℕ) (round round' : Round S D P G C)
    (fresh : (s : Common S) → common_of old ≡ s → RoundKeeps same g g.batchable (setup_at g s view (is_passed s view current)) round [])
    (seats : AtEach g same old (λ s up happened. stored old.by_view view ≡ None → contains nat_cmp old.touched view ≡ true → (passed : Bool) (h : History S D P G C) → leader_of h ≡ None → RoundKeeps same g g.batchable (setup_at g s view passed) round' h
    → Stand g same s new (come_up view passed up) (set_at view h happened))) where
  -- something happened to the votes of a view that had no round
  pub first-put : (e : Event (Vote S D P G C) (Certificate S D P G C)) (s : Common S) (up : ℕ → Stage) (happened : ℕ → History S D P G C) → Stand g same s old up happened → stored old.by_view view ≡ None → contains nat_cmp old.touched view ≡ true → leader_of (e ∷ []) ≡ None
      → RoundKeeps same g g.batchable (setup_at g s view (is_passed s view current)) round' (e ∷ []) → Stand g same s new (come_up view (is_passed s view current) up) (put view e happened)
  first-put e s up happened k none touched nobody kept = first g same s old new up happened current k view e (is_passed s view current) none (seats s up happened k none touched (is_passed s view current) (e ∷ []) nobody kept)

  module _ (v : Vote S D P G C) (ours : view ≡ (vote_round v).view) where
    -- a vote from the network is taken
    pub first-admitted : (sender : ℕ) (a : Admission S D P G C) → a.added ≡ true → one.AtEach same g g.batchable round (λ s h. a.added ≡ takes s h sender v)
        → one.AtEach same g g.batchable round (λ s h. IsTrue a.block ↔ IsBlocked s h sender v) → one.AtEach same g g.batchable round (λ s h. a.report ≡ report_of same s h sender v)
        → one.AtEach same g g.batchable round (λ s h. RoundKeeps same g g.batchable s round' (if takes s h sender v then Taken v ∷ h else h))
        → AtEach g same old (λ s up happened. stored old.by_view (vote_round v).view ≡ None → contains nat_cmp old.touched (vote_round v).view ≡ true → IsAdmitted g same s up happened new current sender v a)
    first-admitted sender a was added block report ok = λ s up happened k.
        let st = setup_at g s view (is_passed s view current) in
        let here = fresh s k.shared in
        subst (λ (w : ℕ). stored old.by_view w ≡ None → contains nat_cmp old.touched w ≡ true → IsAdmitted g same s up happened new current sender v a) ours
        (λ none touched.
        let bare = unknown g same s view (stored old.by_view view) (up view) (happened view) none (k.kept view) in
        let does : takes st [] sender v ≡ true = sym (added st [] here) ∙ was in
        let stands = first-put (Taken v) s up happened k none touched refl (subst (λ (b : Bool). RoundKeeps same g g.batchable st round' (if b then Taken v ∷ [] else [])) does (ok st [] here)) in
        subst (λ (w : ℕ). (a.added ≡ takes (setup_now g s up w current) (happened w) sender v) → (IsTrue a.block ↔ IsBlocked (setup_now g s up w current) (happened w) sender v) → (a.report ≡ report_of same (setup_now g s up w current) (happened w) sender v)
        → (a.added ≡ true → Stand g same s new (come_up w (is_passed s w current) up) (put w (Taken v) happened)) → IsAdmitted g same s up happened new current sender v a) (sym ours)
        (λ x y z t. record { added = x; block = y; report = z; taken = t; passed = λ isnt. absurd (cc (was, isnt)) })
        (rw bare.1 (added st [] here)) (rw (bare.0, bare.1) (block st [] here)) (rw (bare.0, bare.1) (report st [] here)) (λ does_so. stands))

    -- an own vote is cast
    pub first-cast : (o : Option (Activity S D P G C)) → one.AtEach same g g.batchable round (λ s h. o ≡ (if is_none (recorded h v) then Some (as_report v) else None))
        → one.AtEach same g g.batchable round (λ s h. VoteAttests g.attests s v → RoundKeeps same g g.batchable s round' (if is_none (recorded h v) then Cast v ∷ h else h))
        → one.AtEach same g g.batchable round (λ s h. contradicts same h v ≡ false)
        → AtEach g same old (λ s up happened. stored old.by_view (vote_round v).view ≡ None → contains nat_cmp old.touched (vote_round v).view ≡ true → IsCast g same s up happened new current v o)
    first-cast o report ok agrees = λ s up happened k.
        let st = setup_at g s view (is_passed s view current) in
        let here = fresh s k.shared in
        subst (λ (w : ℕ). stored old.by_view w ≡ None → contains nat_cmp old.touched w ≡ true → IsCast g same s up happened new current v o) ours
        (λ none touched.
        let bare = unknown g same s view (stored old.by_view view) (up view) (happened view) none (k.kept view) in
        subst (λ (w : ℕ). (o ≡ (if is_none (recorded (happened w) v) then Some (as_report v) else None)) → (VoteAttests g.attests st v → Stand g same s new (come_up w (is_passed s w current) up) (put w (Cast v) happened))
        → (is_none (recorded (happened w) v) ≡ false → ⊥) → (contradicts same (happened w) v ≡ false) → IsCast g same s up happened new current v o) (sym ours)
        (λ x y z a. record { report_is = x; cast = λ attests free. y attests; again = λ no. absurd (z no); agrees = a })
        (rw bare.1 (report st [] here)) (λ attests. first-put (Cast v) s up happened k none touched refl (ok st [] here attests)) (rw bare.1 (λ no. absurd (cc no))) (rw bare.1 (agrees st [] here)))

  module _ (c : Certificate S D P G C) (ours : view ≡ (certificate_round c).view) where
    -- a certificate is recorded
    pub first-certified : one.AtEach same g g.batchable round (λ s h. RoundKeeps same g g.batchable s round' (Certified c ∷ h))
        → AtEach g same old (λ s up happened. stored old.by_view (certificate_round c).view ≡ None → contains nat_cmp old.touched (certificate_round c).view ≡ true
        → Stand g same s new (come_up (certificate_round c).view (is_passed s (certificate_round c).view current) up) (put (certificate_round c).view (Certified c) happened))
    first-certified ok = λ s up happened k. subst (λ (w : ℕ). stored old.by_view w ≡ None → contains nat_cmp old.touched w ≡ true → Stand g same s new (come_up w (is_passed s w current) up) (put w (Certified c) happened)) ours
        (λ none touched. first-put (Certified c) s up happened k none touched refl (ok (setup_at g s view (is_passed s view current)) [] (fresh s k.shared)))
