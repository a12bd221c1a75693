-- No reason to give a view up came later than the present moment, and a view whose verdict is true lies behind.
use Rattle.std.proofs.Common.{◌≡◌, ◌∷◌, ◌++◌, [], ℕ, ◌+◌, ◌<◌, ◌≤◌, Bool, true, false, List, Option, Some, None, refl, ap, arith}
use Rattle.std.specs.Prelude.{⊤, nat_lt, nat_le, unwrap_or, option_map, if◌then◌else◌}
use Rattle.std.specs.Option.{option_or}
use Rattle.types_core.specs.declared.scheme.Scheme.{Ghosts}
use Rattle.types_core.specs.Positions.{next_term_start}
use Rattle.messages_certificates.specs.declared.artifact.Artifact.TheVariants as artifact
use Rattle.messages_certificates.specs.declared.certificate.Certificate.{Certificate}
use Rattle.messages_certificates.specs.declared.certificate.Certificate.TheVariants as certificate
use Rattle.simplex_messages.specs.declared.vote.Vote.TheVariants as vote
use Rattle.types_terms.specs.declared.kind.Kind.{Kind}
use Rattle.types_terms.specs.declared.kind.Kind.TheVariants as kind
use Rattle.voter_history.specs.declared.timeout_reason.TimeoutReason.{TimeoutReason}
use Rattle.voter_history.specs.declared.timeout_reason.TimeoutReason.TheVariants as reason
use Rattle.voter_history.specs.Held as offer
use Rattle.voter_history.specs.Past as past
use Rattle.voter_history.specs.Past.{Item}
use Rattle.voter_history.specs.Pasts.{put}
use Rattle.voter_history.specs.History as voted
use Rattle.voter_history.specs.History.{started, based, notarized, nullified, finalized, judged, forwarded, built, confirmed, unbound, latched, build_asked, build_released, verify_asked, ancestry_asked, certify_asked, certify_waited, voted_notarize, voted_nullify, voted_finalize, recalled_notarize, recalled_nullify, recalled_finalize, recalled_verdict, sent, polled, pruned, enter, sent_item, undecided_payload, current, last_finalized, min_active, seen}
use Rattle.voter_laws.specs.Steps.{bind_holds, choose_holds, enter_holds, put_holds}
use Rattle.simplex_member.specs.Allowed.{Allowed, AreAllowed}
use Rattle.simplex_member.specs.Layers.{current_of, latest, takes_certificate, voter_of, voter_points}
use Rattle.simplex_member.specs.Packet.{Formats}
use Rattle.simplex_member.specs.Point.{Counts, Falls, Passes, Point, Opened, Found, Told, Heard, Came, Wanted, Built, Checked, Judged, Leads, Latches, Constructs, LeavesBehind, Asks, Votes, History}
use Rattle.simplex_member.specs.Setup.{Setup}

-- in what happened to a view no reason is later than this moment, and a true verdict leads the current view beyond it
abbrev pub IsSettled : {S D P G C : Type 0} → ℕ → ℕ → ℕ → List (Item S D P G C) → Type 0
IsSettled m cur view l = ((x : ℕ × TimeoutReason) → past.latch l ≡ Some x → x.0 ≤ m) × (past.verdict l ≡ Some true → view < cur)

latest_reason : (m n : ℕ) (why : TimeoutReason) → n ≤ m → (b : Bool) (o : Option (ℕ × TimeoutReason)) → ((x : ℕ × TimeoutReason) → o ≡ Some x → x.0 ≤ m)
    → (x : ℕ × TimeoutReason) → (if b then option_or o (Some (n, why)) else o) ≡ Some x → x.0 ≤ m
latest_reason m n why low true None before x is = let same : n ≡ x.0 = ap (λ (o : Option (ℕ × TimeoutReason)). (unwrap_or o x).0) is in omega (arith, low, same)
latest_reason m n why low true (Some y) before x is = before x is
latest_reason m n why low false o before x is = before x is

first_verdict : (cur view : ℕ) (ok : Bool) → (ok ≡ true → view < cur) → (o : Option Bool) → (o ≡ Some true → view < cur) → option_or o (Some ok) ≡ Some true → view < cur
first_verdict cur view ok given None before is = given (ap (λ (o : Option Bool). unwrap_or o false) is)
first_verdict cur view ok given (Some b) before is = before is

module _ {S D P G C : Type 0} (m cur view : ℕ) where
  latch_settled : (n : ℕ) (why : TimeoutReason) (l : List (Item S D P G C)) → n ≤ m → IsSettled m cur view l → IsSettled m cur view (past.latched n why ∷ l)
  latch_settled n why l low is = (λ x there. latest_reason m n why low (past.is_undecided l) (past.latch l) is.0 x there, is.1)

  verdict_settled : (ok : Bool) (l : List (Item S D P G C)) → (ok ≡ true → view < cur) → IsSettled m cur view l → IsSettled m cur view (past.judged ok ∷ l)
  verdict_settled ok l given is = (is.0, λ yes. first_verdict cur view ok given (past.verdict l) is.1 yes)

nothing_settled : {S D P G C : Type 0} (m cur view : ℕ) (l : List (Item S D P G C)) → l ≡ [] → IsSettled m cur view l
nothing_settled m cur view [] none = (λ x there. absurd (cc there), λ yes. absurd (cc yes))
nothing_settled m cur view (x ∷ l) none = absurd (cc none)

module _ {S D P G C : Type 0} where
  settled_later : (m n cur next view : ℕ) (l : List (Item S D P G C)) → m ≤ n → cur ≤ next → IsSettled m cur view l → IsSettled n next view l
  settled_later m n cur next view l later ahead is = (λ x there. let low = is.0 x there in omega (arith, low, later), λ yes. let below = is.1 yes in omega (arith, below, ahead))

  -- a point brings no reason later than this moment, and no true verdict from this view on
  abbrev IsTimely : ℕ → ℕ → voted.Point S D P G C → Type 0
  IsTimely m cur (latched now view why) = now ≤ m
  IsTimely m cur (judged now view ok) = (now ≤ m) × (ok ≡ true → view < cur)
  IsTimely m cur (recalled_verdict view ok) = ok ≡ true → view < cur
  IsTimely m cur x = ⊤

  abbrev AreTimely : ℕ → ℕ → List (voted.Point S D P G C) → Type 0
  AreTimely m cur [] = ⊤
  AreTimely m cur (x ∷ points) = IsTimely m cur x × AreTimely m cur points

  module _ (s : voted.Setup S C) (m cur view : ℕ) where
    put_settled : (at : ℕ) (x : Item S D P G C) (t : ℕ → List (Item S D P G C)) → (at ≡ view → IsSettled m cur view (t view) → IsSettled m cur view (x ∷ t view)) → IsSettled m cur view (t view) → IsSettled m cur view (put at x t view)
    put_settled at x t step is = put_holds (λ (l : List (Item S D P G C)). IsSettled m cur view l) view at x t step is

    enter_settled : (now at : ℕ) (v : List (voted.Point S D P G C)) (t : ℕ → List (Item S D P G C)) → IsSettled m cur view (t view) → IsSettled m cur view (enter s (current s v) now at t view)
    enter_settled now at v t is = enter_holds (λ (l : List (Item S D P G C)). IsSettled m cur view l) view s (current s v) now at t (λ moment leader certification stall l before. before) is

    choose_settled : (b : Bool) (t u : ℕ → List (Item S D P G C)) → IsSettled m cur view (t view) → IsSettled m cur view (u view) → IsSettled m cur view ((if b then t else u) view)
    choose_settled b t u one other = choose_holds (λ (l : List (Item S D P G C)). IsSettled m cur view l) view b t u one other

    judged_put : (at : ℕ) (ok : Bool) (v : List (voted.Point S D P G C)) → (ok ≡ true → at < cur) → IsSettled m cur view (seen s v view) → IsSettled m cur view (put at (past.judged ok) (seen s v) view)
    judged_put at ok v given is = put_settled at (past.judged ok) (seen s v) (λ here before. verdict_settled m cur view ok (seen s v view) (λ yes. let low = given yes in omega (arith, low, here)) before) is

    forgotten : (b : Bool) (l : List (Item S D P G C)) → IsSettled m cur view l → IsSettled m cur view (if b then [] else l)
    forgotten true l is = nothing_settled {S = S} {D = D} {P = P} {G = G} {C = C} m cur view [] refl
    forgotten false l is = is

    -- such a point leaves each view settled
    still_settled : (x : voted.Point S D P G C) (v : List (voted.Point S D P G C)) → IsTimely m cur x → IsSettled m cur view (seen s v view) → IsSettled m cur view (seen s (x ∷ v) view)
    still_settled (started now payload) v timely is = enter_settled now 1 v (seen s v) is
    still_settled (based floor) v timely is = is
    still_settled (notarized c) v timely is = put_settled c.proposal.round.view (past.notarized c) (seen s v) (λ here before. before) is
    still_settled (nullified now c) v timely is =
        put_settled c.round.view (past.nullified c) (enter s (current s v) now (next_term_start s.length c.round.view) (seen s v)) (λ here before. before)
        (enter_settled now (next_term_start s.length c.round.view) v (seen s v) is)
    still_settled (finalized now c) v timely is =
        put_settled c.proposal.round.view (past.finalized c) (enter s (current s v) now (c.proposal.round.view + 1) (seen s v)) (λ here before. before)
        (enter_settled now (c.proposal.round.view + 1) v (seen s v) is)
    still_settled (judged now at true) v timely is = enter_settled now (at + 1) v (put at (past.judged true) (seen s v)) (judged_put at true v timely.1 is)
    still_settled (judged now at false) v timely is =
        let once = judged_put at false v timely.1 is in
        choose_settled (nat_le (current s v) at) (put at (past.latched now reason.FailedCertification) (put at (past.judged false) (seen s v))) (put at (past.judged false) (seen s v))
        (put_settled at (past.latched now reason.FailedCertification) (put at (past.judged false) (seen s v))
        (λ here before. latch_settled m cur view now reason.FailedCertification (put at (past.judged false) (seen s v) view) timely.0 before) once)
        once
    still_settled (forwarded at p) v timely is =
        choose_settled (past.has_nullified (seen s v at)) (seen s v) (put at (past.offered (offer.forwarded p)) (seen s v)) is
        (put_settled at (past.offered (offer.forwarded p)) (seen s v) (λ here before. before) is)
    still_settled (built now p payload) v timely is =
        put_settled p.round.view (past.bound p payload) (put p.round.view (past.built now p) (seen s v)) (λ here before. before)
        (put_settled p.round.view (past.built now p) (seen s v) (λ here before. before) is)
    still_settled (confirmed at) v timely is =
        choose_settled (past.has_nullified (seen s v at)) (seen s v) (put at (past.offered offer.confirmed) (seen s v)) is
        (put_settled at (past.offered offer.confirmed) (seen s v) (λ here before. before) is)
    still_settled (unbound at) v timely is = put_settled at past.unbound (seen s v) (λ here before. before) is
    still_settled (latched now at why) v timely is = put_settled at (past.latched now why) (seen s v) (λ here before. latch_settled m cur view now why (seen s v view) timely before) is
    still_settled (build_asked at) v timely is = put_settled at (past.offered offer.building) (seen s v) (λ here before. before) is
    still_settled (build_released at) v timely is = put_settled at (past.offered offer.released) (seen s v) (λ here before. before) is
    still_settled (verify_asked at p payload) v timely is =
        put_settled at (past.bound p payload) (put at (past.offered offer.verifying) (seen s v)) (λ here before. before)
        (put_settled at (past.offered offer.verifying) (seen s v) (λ here before. before) is)
    still_settled (ancestry_asked at missing) v timely is = put_settled at (past.asked missing) (seen s v) (λ here before. before) is
    still_settled (certify_asked at handle) v timely is = put_settled at (past.certifying handle) (seen s v) (λ here before. before) is
    still_settled (certify_waited at) v timely is = is
    still_settled (voted_notarize at p) v timely is = put_settled at past.voted_notarize (seen s v) (λ here before. before) is
    still_settled (voted_nullify at) v timely is = put_settled at past.voted_nullify (seen s v) (λ here before. before) is
    still_settled (voted_finalize at p) v timely is = put_settled at past.voted_finalize (seen s v) (λ here before. before) is
    still_settled (recalled_notarize p taken) v timely is =
        let offered : ℕ → List (Item S D P G C) = if taken then put p.round.view (past.offered (offer.recorded p)) (seen s v) else seen s v in
        bind_holds (λ (l : List (Item S D P G C)). IsSettled m cur view l) view (undecided_payload (seen s v p.parent)) p (put p.round.view past.voted_notarize offered) (λ payload before. before)
        (put_settled p.round.view past.voted_notarize offered (λ here before. before)
        (choose_settled taken (put p.round.view (past.offered (offer.recorded p)) (seen s v)) (seen s v) (put_settled p.round.view (past.offered (offer.recorded p)) (seen s v) (λ here before. before) is) is))
    still_settled (recalled_nullify at) v timely is = put_settled at past.voted_nullify (seen s v) (λ here before. before) is
    still_settled (recalled_finalize p) v timely is = put_settled p.round.view past.voted_finalize (seen s v) (λ here before. before) is
    still_settled (recalled_verdict at ok) v timely is = judged_put at ok v timely is
    still_settled (sent k at) v timely is = put_settled at (sent_item k) (seen s v) (λ here. sent_still k (seen s v view)) is
      where
        sent_still : (k : Kind) (l : List (Item S D P G C)) → IsSettled m cur view l → IsSettled m cur view (sent_item k ∷ l)
        sent_still kind.Notarization l before = before
        sent_still kind.Nullification l before = before
        sent_still kind.Finalization l before = before
    still_settled (polled now) v timely is =
        choose_settled (nat_lt 0 (current s v)) (put (current s v) (past.polled (past.deadline now s.timeout_retry)) (seen s v)) (seen s v)
        (put_settled (current s v) (past.polled (past.deadline now s.timeout_retry)) (seen s v) (λ here before. before) is) is
    still_settled pruned v timely is = forgotten (nat_lt view (min_active s v)) (seen s v view) is

    all_settled : (points v : List (voted.Point S D P G C)) → AreTimely m cur points → IsSettled m cur view (seen s v view) → IsSettled m cur view (seen s (points ++ v) view)
    all_settled [] v timely is = is
    all_settled (x ∷ points) v timely is = still_settled x (points ++ v) timely.0 (all_settled points v timely.1 is)

  module _ (s : voted.Setup S C) where
    -- the current view never falls
    rises : (x : voted.Point S D P G C) (v : List (voted.Point S D P G C)) → current s v ≤ current s (x ∷ v)
    rises (started now payload) v = omega arith
    rises (nullified now c) v = omega arith
    rises (finalized now c) v = omega arith
    rises (judged now view true) v = omega arith
    rises (judged now view false) v = omega arith
    rises x v = omega arith

    all_rise : (points v : List (voted.Point S D P G C)) → current s v ≤ current s (points ++ v)
    all_rise [] v = omega arith
    all_rise (x ∷ points) v = let more = rises x (points ++ v) in let before = all_rise points v in omega (arith, more, before)

  -- certificates are timely
  certificate_timely : (m cur now low : ℕ) (c : Certificate S D P G C) → AreTimely m cur (takes_certificate now low c)
  certificate_timely m cur now low (certificate.Notarization c) = (tt, (tt, tt))
  certificate_timely m cur now low (certificate.Nullification c) = (tt, (tt, tt))
  certificate_timely m cur now low (certificate.Finalization c) = by (nat_lt low c.proposal.round.view)
    where
      by : (b : Bool) → AreTimely m cur ((if b then pruned ∷ [] else []) ++ sent kind.Finalization c.proposal.round.view ∷ finalized now c ∷ [])
      by true = (tt, (tt, (tt, tt)))
      by false = (tt, (tt, tt))

  made_timely : (m cur now low : ℕ) (o : Option (Certificate S D P G C)) → AreTimely m cur (unwrap_or (option_map (takes_certificate now low) o) [])
  made_timely m cur now low None = tt
  made_timely m cur now low (Some c) = certificate_timely m cur now low c

module _ {S D P G C : Type 0} (g : Ghosts S D P G C) (f : Formats S D P G C) (s : Setup S D C) where
  -- what a point says of the voter is timely
  points_timely : (p : Point S D P G C) (h : History S D P G C) → AreTimely (latest (p ∷ h)) (current_of s (p ∷ h)) (voter_points s (latest (p ∷ h)) (last_finalized (voter_of s h)) p)
  points_timely (Opened now) h = (tt, tt)
  points_timely (Found (artifact.Notarize v) taken) h = (tt, tt)
  points_timely (Found (artifact.Notarization c) taken) h = (tt, (tt, tt))
  points_timely (Found (artifact.Certification r true) taken) h = ((omega arith, λ yes. omega arith), ((λ yes. omega arith), tt))
  points_timely (Found (artifact.Certification r false) taken) h = ((omega arith, λ yes. absurd (cc yes)), ((λ yes. absurd (cc yes)), tt))
  points_timely (Found (artifact.Nullify v) taken) h = (tt, tt)
  points_timely (Found (artifact.Nullification c) taken) h = (tt, (tt, tt))
  points_timely (Found (artifact.Finalize v) taken) h = (tt, tt)
  points_timely (Found (artifact.Finalization c) taken) h = (tt, (tt, tt))
  points_timely (Came c) h = certificate_timely (latest h) (current_of s (Came c ∷ h)) (latest h) (last_finalized (voter_of s h)) c
  points_timely (Built number handoff context (Some payload) true) h = (tt, tt)
  points_timely (Built number handoff context None true) h = (omega arith, tt)
  points_timely (Built number handoff context payload false) h = tt
  points_timely (Checked number view (Some true) Counts) h = (tt, tt)
  points_timely (Checked number view (Some false) Counts) h = (omega arith, tt)
  points_timely (Checked number view None Counts) h = (omega arith, tt)
  points_timely (Checked number view answer Falls) h = (tt, tt)
  points_timely (Checked number view answer Passes) h = tt
  points_timely (Judged r true) h = ((omega arith, λ yes. omega arith), tt)
  points_timely (Judged r false) h = ((omega arith, λ yes. absurd (cc yes)), tt)
  points_timely (Constructs view kind batch) h = made_timely (latest h) (current_of s (Constructs view kind batch ∷ h)) (latest h) (last_finalized (voter_of s h)) batch.certificate
  points_timely (Latches view why) h = (omega arith, tt)
  points_timely (Votes (vote.Notarize v)) h = (tt, tt)
  points_timely (Votes (vote.Nullify v)) h = (tt, tt)
  points_timely (Votes (vote.Finalize v)) h = (tt, tt)
  points_timely (Told now) h = tt
  points_timely (Heard v) h = tt
  points_timely (Wanted member view) h = tt
  points_timely (Leads view index) h = tt
  points_timely (LeavesBehind number) h = tt
  points_timely (Asks view ask to) h = tt
  points_timely p h = (tt, tt)

  -- the time never runs back
  time_goes_on : (p : Point S D P G C) (h : History S D P G C) → Allowed g f s h p → latest h ≤ latest (p ∷ h)
  time_goes_on (Opened now) h allowed = let none : latest h ≡ 0 = ap (λ (x : History S D P G C). latest x) allowed.order in omega (arith, none)
  time_goes_on (Told now) h allowed = allowed.due.0
  time_goes_on p h allowed = omega arith

  -- each view is settled at the present moment and current view
  pub settled : (h : History S D P G C) (view : ℕ) → AreAllowed g f s h → IsSettled (latest h) (current_of s h) view (seen s.voter (voter_of s h) view)
  settled [] view all = nothing_settled {S = S} {D = D} {P = P} {G = G} {C = C} 0 0 view [] refl
  settled (p ∷ h) view all =
      let points = voter_points s (latest (p ∷ h)) (last_finalized (voter_of s h)) p in
      all_settled s.voter (latest (p ∷ h)) (current_of s (p ∷ h)) view points (voter_of s h) (points_timely p h)
      (settled_later (latest h) (latest (p ∷ h)) (current_of s h) (current_of s (p ∷ h)) view (seen s.voter (voter_of s h) view) (time_goes_on p h all.0) (all_rise s.voter points (voter_of s h)) (settled h view all.1))
