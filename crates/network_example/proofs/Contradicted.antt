-- The example of contradictory certificates: the member's lives, and what it reported.
use Rattle.std.proofs.Common.{◌≡◌, ◌⊎◌, inl, inr, ⊎_elim, ℕ, ◌<◌, ◌≤◌, ◌+◌, ◌^◌, ◌==◌, Bool, true, false, List, [], ◌∷◌, ◌++◌, Option, Some, None, refl, sym, ◌∙◌, ap, subst, arith}
use Rattle.std.specs.Prelude.{All, Contains, if◌then◌else◌, nat_lt, option_map, unwrap_or, ⊤}
use Rattle.std.specs.declared.cmp.Ordering.{Ordering}
use Rattle.std.proofs.lemmas.Bool.{both_ways, cases_lt, eqb-true}
use Rattle.std.proofs.lemmas.List.Elements.{All-cons, All-contains, All-nil}
use Rattle.types_quorum.specs.Committee.{quorum}
use Rattle.types_quorum.specs.Counting.{Contains-cases, Contains-nil}
use Rattle.types_core.specs.declared.scheme.Scheme.{Ghosts}
use Rattle.types_core.specs.Subject.{Statement, notarize, nullify, finalize}
use Rattle.messages_certificates.specs.declared.artifact.Artifact.TheVariants as artifact
use Rattle.messages_certificates.specs.Artifact.{certificate_artifact}
use Rattle.messages_certificates.specs.declared.certificate.Certificate.{Certificate}
use Rattle.messages_certificates.specs.declared.certificate.Certificate.TheVariants as certificate
use Rattle.simplex_messages.specs.declared.activity.Activity.{Activity}
use Rattle.simplex_messages.specs.declared.activity.Activity.TheVariants as activity
use Rattle.simplex_record.specs.Lawful.{Fits}
use Rattle.simplex_record.specs.Record as recorded
use Rattle.simplex_record.specs.Record.{Entry}
use Rattle.simplex_record.specs.Rules.{AreAlike}
use Rattle.simplex_record.specs.World.{World, IsCorrect, IsHonest}
use Rattle.simplex_rules.specs.Accountability.{IsContradicted}
use Rattle.voter_history.specs.declared.timeout_reason.TimeoutReason.{TimeoutReason}
use Rattle.voter_history.specs.Held.{Offer, held}
use Rattle.voter_history.specs.History.{last_finalized}
use Rattle.voter_history.specs.Leaders.{leader}
use Rattle.voter_rules.specs.GivingUp.{NullifyIsDue}
use Rattle.batcher_verifier.specs.History as votes
use Rattle.batcher_verifier.specs.History.{Certified, Led, forwardable, leader_of, next_kind}
use Rattle.simplex_batcher.specs.Queries.{has_nullify}
use Rattle.simplex_resolver.specs.Outstanding.{IsOutstanding}
use Rattle.simplex_resolver.specs.RepairHistory.{Item, Replayed}
use Rattle.simplex_member.specs.declared.event.Channel.{Channel}
use Rattle.simplex_member.specs.declared.event.Channel.TheVariants as channel
use Rattle.simplex_member.specs.declared.event.Event.{Event}
use Rattle.simplex_member.specs.declared.event.Event.TheVariants as event
use Rattle.simplex_member.specs.Asked.{build_at}
use Rattle.simplex_member.specs.Deeds.{Reports}
use Rattle.simplex_member.specs.First.{IsFirst}
use Rattle.simplex_member.specs.Layers.{current_of, floor_of, latest, repair_of, voter_of, votes_of, votes_setup}
use Rattle.simplex_member.specs.Lives.{Holds, IsHonestPacket, Life, Lived, LiveByNodes, Lives, Members, events_of}
use Rattle.simplex_member.specs.Allowed.{RetryIsKnown}
use Rattle.simplex_member.specs.Member.{Goes, IsPacketPoint, IsPointOf, NoneDue}
use Rattle.simplex_member.specs.Packet.{Formats, IsRecordable, Packet, of_certificate}
use Rattle.simplex_member.specs.Point.{AreActs, Point, Opened, Began, Came, Told, Leads, History, is_act}
use Rattle.simplex_member.specs.Refusals.{packet_tests, sender_tests, tests}
use Rattle.simplex_member.specs.Setup.{IsInTime, IsOfOneMember, Setup, owner_of}
use Rattle.simplex_network.specs.Accountability.{AreReported, ReportedNameEnough}
use Rattle.network_example.specs.Contradicted.{AreForged, Forged, IsHandedBy, IsNamedFor, agreed_on, both_reports, cut_course, finalization, nullification, one_member, one_of_four, second, taking_course, timed}
use Rattle.network_example.proofs.Still.{IsStill, none-due as still}
use Rattle.network_example.proofs.Stir.{IsStir, NamesOnes, stir-leads, stir-mild, stir-vacant}

none-some : {X : Type 0} (x : X) → None ≡ Some x → ⊥
none-some x e = cc e

pub some-is : {X : Type 0} (x y : X) → Some x ≡ Some y → x ≡ y
some-is x y e = cc e

-- when something is to happen, if anything
abbrev pub moment_of : Option (ℕ × TimeoutReason) → ℕ
moment_of None = 0
moment_of (Some x) = x.0

pub above-third : (view : ℕ) → 3 ≤ view → 2 < view
above-third view from = omega (arith, from)

pub apart : (a b view : ℕ) → a < b → (b == view) ≡ true → (a == view) ≡ true → ⊥
apart a b view less is also = let p = eqb-true b view is in let q = eqb-true a view also in omega (arith, p, q, less)

pub two-three : 2 < 3
two-three = omega arith

pub one-three : 1 < 3
one-three = omega arith

pub one-two : 1 < 2
one-two = omega arith

-- of four all but the first are excused
pub first-alone : (i : ℕ) → i < 4 → (Contains (1 ∷ 2 ∷ 3 ∷ []) i → ⊥) → i ≡ 0
first-alone i lt out = ⊎_elim (λ low. omega (arith, low)) (λ high. absurd (out (among i high lt))) (cases_lt i 1)
  where
    among : (i : ℕ) → 1 ≤ i → i < 4 → Contains (1 ∷ 2 ∷ 3 ∷ []) i
    among i high lt = ⊎_elim
        (λ two. (0, omega arith, omega (arith, high, two)))
        (λ more. ⊎_elim
        (λ three. (1, omega arith, omega (arith, more, three)))
        (λ most. (2, omega arith, omega (arith, most, lt)))
        (cases_lt i 3))
        (cases_lt i 2)

pub not-excused : Contains {X = ℕ} (1 ∷ 2 ∷ 3 ∷ []) 0 → ⊥
not-excused here = ⊎_elim (λ is. omega (arith, is)) (λ later. ⊎_elim (λ is. omega (arith, is)) (λ last. ⊎_elim (λ is. omega (arith, is)) (λ none. Contains-nil {X = ℕ} 0 none) (Contains-cases {X = ℕ} 3 [] 0 last)) (Contains-cases {X = ℕ} 2 (3 ∷ []) 0 later))
    (Contains-cases {X = ℕ} 1 (2 ∷ 3 ∷ []) 0 here)

abbrev is_there : {X : Type 0} → List X → Bool
is_there [] = false
is_there (x ∷ xs) = true

pub some-points : {X : Type 0} (x : X) (xs : List X) → (x ∷ xs ≡ [] → ⊥)
some-points x xs e = both_ways true (ap is_there e) refl

le-up-to : (n : ℕ) → 0 ≤ n
le-up-to n = omega arith

at-last : (n : ℕ) → n ≤ n
at-last n = omega arith

from-one : 1 ≤ 2
from-one = omega arith

has-room : 6 < 2 ^ 64
has-room = omega arith

below-two : 0 < 2
below-two = omega arith

last-of-two : 1 < 2
last-of-two = omega arith

first-of-five : 0 < 5
first-of-five = omega arith

fourth-of-five : 3 < 5
fourth-of-five = omega arith

-- the views whose leader is known: the first; that and the third
abbrev First : ℕ → Type 0
First view = 1 ≡ view

abbrev pub FirstOrThird : ℕ → Type 0
FirstOrThird view = (1 ≡ view) ⊎ (3 ≡ view)

module _ {S D P G C : Type 0} (c d : Certificate S D P G C) where
  -- the votes of a view: none, or its leader; or certificates
  votes-one : (Q : votes.History S D P G C → Type 0) → Q [] → Q (Led 3 ∷ []) → (behind one : Bool) → Q (if behind then [] else (if one then Led 3 ∷ [] else []))
  votes-one Q none led true one = none
  votes-one Q none led false true = led
  votes-one Q none led false false = none

  votes-two : (Q : votes.History S D P G C → Type 0) → Q [] → Q (Led 3 ∷ []) → Q (Certified c ∷ []) → (behind three two one : Bool) → (three ≡ true → two ≡ true → ⊥) → (three ≡ true → one ≡ true → ⊥) → (two ≡ true → one ≡ true → ⊥)
      → Q (if behind then [] else (if three then Led 3 ∷ (if two then Certified c ∷ (if one then Led 3 ∷ [] else []) else (if one then Led 3 ∷ [] else [])) else (if two then Certified c ∷ (if one then Led 3 ∷ [] else []) else (if one then Led 3 ∷ [] else []))))
  votes-two Q none led taken true three two one a b e = none
  votes-two Q none led taken false true true one a b e = absurd (a refl refl)
  votes-two Q none led taken false true false true a b e = absurd (b refl refl)
  votes-two Q none led taken false true false false a b e = led
  votes-two Q none led taken false false true true a b e = absurd (e refl refl)
  votes-two Q none led taken false false true false a b e = taken
  votes-two Q none led taken false false false true a b e = led
  votes-two Q none led taken false false false false a b e = none

  votes-three : (Q : votes.History S D P G C → Type 0) → Q [] → Q (Led 3 ∷ []) → Q (Certified d ∷ Certified c ∷ []) → (behind three two one : Bool) → (three ≡ true → two ≡ true → ⊥) → (three ≡ true → one ≡ true → ⊥) → (two ≡ true → one ≡ true → ⊥)
      → Q (if behind then [] else (if two then Certified d ∷ (if three then Led 3 ∷ (if two then Certified c ∷ (if one then Led 3 ∷ [] else []) else (if one then Led 3 ∷ [] else [])) else (if two then Certified c ∷ (if one then Led 3 ∷ [] else []) else (if one then Led 3 ∷ [] else [])))
      else (if three then Led 3 ∷ (if two then Certified c ∷ (if one then Led 3 ∷ [] else []) else (if one then Led 3 ∷ [] else [])) else (if two then Certified c ∷ (if one then Led 3 ∷ [] else []) else (if one then Led 3 ∷ [] else [])))))
  votes-three Q none led taken true three two one a b e = none
  votes-three Q none led taken false true true one a b e = absurd (a refl refl)
  votes-three Q none led taken false true false true a b e = absurd (b refl refl)
  votes-three Q none led taken false true false false a b e = led
  votes-three Q none led taken false false true true a b e = absurd (e refl refl)
  votes-three Q none led taken false false true false a b e = taken
  votes-three Q none led taken false false false true a b e = led
  votes-three Q none led taken false false false false a b e = none

module _ {S D P G C : Type 0} (g : Ghosts S D P G C) (f : Formats S D P G C) (x : Forged S D C) (size : g.size x.own ≡ 4)
    (finalized : g.certifies x.own (finalize (agreed_on x)) x.agreed) (nullified : g.certifies x.own (nullify second) x.given_up) where
  abbrev s : Setup S D C
  s = timed x.own x.genesis 0 1500

  abbrev before : Setup S D C
  before = timed x.own x.genesis 0 1000

  abbrev z : Certificate S D P G C
  z = certificate.Finalization (finalization x)

  abbrev n : Certificate S D P G C
  n = certificate.Nullification (nullification x)

  abbrev h1 : History S D P G C
  h1 = Leads 1 3 ∷ Began ∷ Opened 0 ∷ []

  abbrev h2 : History S D P G C
  h2 = Told 1200 ∷ h1

  abbrev h3 : History S D P G C
  h3 = Leads 3 3 ∷ Came z ∷ h2

  abbrev h4 : History S D P G C
  h4 = Came n ∷ h3

  -- ---- nothing is due

  -- of a committee of four three votes are needed
  needed-three : (h : History S D P G C) (view : ℕ) (r : votes.History S D P G C)
      → ((skipped : Bool) → next_kind {S = S} {D = D} {P = P} {G = G} {C = C} f.same (record { round = record { epoch = 0; view = view }; scheme = x.own; members = g.size x.own; needed = 3; batchable = g.batchable x.own; tracks = false; is_skipped = skipped }) r ≡ None)
      → next_kind {S = S} {D = D} {P = P} {G = G} {C = C} f.same (votes_setup s g h view) r ≡ None
  needed-three h view r none =
      subst (λ (k : ℕ). next_kind {S = S} {D = D} {P = P} {G = G} {C = C} f.same (record { round = record { epoch = 0; view = view }; scheme = x.own; members = g.size x.own; needed = quorum k; batchable = g.batchable x.own; tracks = false; is_skipped = (votes_setup s g h view).is_skipped }) r ≡ None)
      (sym size) (none (votes_setup s g h view).is_skipped)

  abbrev Ready : ℕ → votes.History S D P G C → Bool → Type 0
  Ready view r skipped = next_kind {S = S} {D = D} {P = P} {G = G} {C = C} f.same (record { round = record { epoch = 0; view = view }; scheme = x.own; members = g.size x.own; needed = 3; batchable = g.batchable x.own; tracks = false; is_skipped = skipped }) r ≡ None

  ready-none : (view : ℕ) (skipped : Bool) → Ready view [] skipped
  ready-none view true = refl
  ready-none view false = refl

  ready-led : (view : ℕ) (skipped : Bool) → Ready view (Led 3 ∷ []) skipped
  ready-led view true = refl
  ready-led view false = refl

  ready-one : (view : ℕ) (skipped : Bool) → Ready view (Certified z ∷ []) skipped
  ready-one view true = refl
  ready-one view false = refl

  ready-two : (view : ℕ) (skipped : Bool) → Ready view (Certified n ∷ Certified z ∷ []) skipped
  ready-two view true = refl
  ready-two view false = refl

  -- where the voter learnt of certificates alone, and the votes of a view are one of these
  module _ (IsOne : ℕ → Type 0) (h : History S D P G C) (stir : IsStir (voter_of s h)) (above : (view : ℕ) → current_of s h ≤ view → last_finalized (voter_of s h) < view) (ones : NamesOnes s.voter IsOne (voter_of s h))
      (named : (view : ℕ) → IsOne view → leader_of (votes_of s h view) ≡ Some 3)
      (cases : (Q : votes.History S D P G C → Type 0) → Q [] → Q (Led 3 ∷ []) → Q (Certified z ∷ []) → Q (Certified n ∷ Certified z ∷ []) → (view : ℕ) → Q (votes_of s h view))
      (waits : ¬ NullifyIsDue s.voter (voter_of s h) (latest h)) (retry_known : RetryIsKnown g f s h) (unasked : (number : ℕ) → build_at h number ≡ None) (settled : (view : ℕ) → IsOutstanding 1 (repair_of f h) view → ⊥) where
    leads : (view : ℕ) → (leader s.voter (voter_of s h) view ≡ None) ⊎ ((leader s.voter (voter_of s h) view ≡ Some 3) × IsOne view)
    leads view = stir-leads s.voter IsOne (λ earlier w. refl) (λ w c. refl) (voter_of s h) stir ones view

    is-still : IsStill g f s h
    is-still = record {
      unconfirmed = λ view. (stir-mild s.voter (voter_of s h) stir view).unconfirmed;
      unheld = λ view from. ap (λ (o : List (Offer D)). held o) (stir-vacant s.voter (voter_of s h) stir view (above view from));
      unnotarized = λ view. (stir-mild s.voter (voter_of s h) stir view).unnotarized;
      others = λ view index is same. ⊎_elim
          (λ none. none-some index (sym none ∙ is))
          (λ three. omega (arith, ap (λ (o : Option ℕ). unwrap_or o 0) (sym three.0 ∙ is), same))
          (leads view);
      led = λ view index is none. ⊎_elim
          (λ nobody. none-some index (sym nobody ∙ is))
          (λ three. none-some 3 (sym none ∙ named view three.1))
          (leads view);
      unforwarded = λ view. cases (λ (r : votes.History S D P G C). forwardable r 0 ≡ None) refl refl refl refl view;
      unready = λ view. cases (λ (r : votes.History S D P G C). next_kind f.same (votes_setup s g h view) r ≡ None)
          (needed-three h view [] (ready-none view)) (needed-three h view (Led 3 ∷ []) (ready-led view))
          (needed-three h view (Certified z ∷ []) (ready-one view)) (needed-three h view (Certified n ∷ Certified z ∷ []) (ready-two view)) view;
      mine = λ view index. cases (λ (r : votes.History S D P G C). has_nullify r index ≡ true → index ≡ 0)
          (λ e. absurd (both_ways false refl e)) (λ e. absurd (both_ways false refl e)) (λ e. absurd (both_ways false refl e)) (λ e. absurd (both_ways false refl e)) view;
      waits = waits;
      retry_known = retry_known;
      unasked = unasked;
      settled = settled;
    }

    pub nothing-due : NoneDue g f s h
    nothing-due = still g f s refl refl refl h is-still

  settles-early : (h : History S D P G C) → repair_of f h ≡ Replayed ∷ [] → (view : ℕ) → IsOutstanding 1 (repair_of f h) view → ⊥
  settles-early h is view out = go (subst (λ (r : List Item). IsOutstanding 1 r view) is out)
    where
      go : IsOutstanding 1 (Replayed ∷ []) view → ⊥
      go y = ⊎_elim (λ below. let l : view < 0 = below.0 in omega (arith, l)) (λ failed. both_ways false refl failed) y.due

  settles-three : (view : ℕ) → IsOutstanding 1 (repair_of f h3) view → ⊥
  settles-three view out = ⊎_elim
      (λ below. let l : view < 2 = below.0 in let low : 2 < view = out.above in omega (arith, l, low))
      (λ failed. both_ways false refl failed)
      out.due

  settles-four : (view : ℕ) → IsOutstanding 1 (repair_of f h4) view → ⊥
  settles-four view out = ⊎_elim
      (λ below. let l : view < 2 = below.0 in let low : 2 < view = out.above in omega (arith, l, low))
      (λ failed. both_ways false refl failed)
      out.due

  above-first : (view : ℕ) → 1 ≤ view → 0 < view
  above-first view from = omega (arith, from)

  none-first : NoneDue g f s h1
  none-first = nothing-due First h1 tt above-first (refl, tt)
      (λ view one. subst (λ (w : ℕ). leader_of (votes_of s h1 w) ≡ Some 3) one refl)
      (λ Q none led one two view. votes-one z n Q none led (nat_lt view (floor_of s h1)) (1 == view))
      (λ due. let e : 1500 ≡ due.moment = ap moment_of due.next in let r : due.moment ≤ 0 = due.reached in omega (arith, e, r))
      (λ e. absurd (both_ways false refl e)) (λ number. refl) (settles-early h1 refl)

  none-second : NoneDue g f s h2
  none-second = nothing-due First h2 tt above-first (refl, tt)
      (λ view one. subst (λ (w : ℕ). leader_of (votes_of s h2 w) ≡ Some 3) one refl)
      (λ Q none led one two view. votes-one z n Q none led (nat_lt view (floor_of s h2)) (1 == view))
      (λ due. let e : 1500 ≡ due.moment = ap moment_of due.next in let r : due.moment ≤ 1200 = due.reached in omega (arith, e, r))
      (λ e. absurd (both_ways false refl e)) (λ number. refl) (settles-early h2 refl)

  none-third : NoneDue g f s h3
  none-third = nothing-due FirstOrThird h3 tt above-third (inr refl, (inl refl, tt))
      (λ view one. ⊎_elim
      (λ e. subst (λ (w : ℕ). leader_of (votes_of s h3 w) ≡ Some 3) e refl)
      (λ e. subst (λ (w : ℕ). leader_of (votes_of s h3 w) ≡ Some 3) e refl)
      one)
      (λ Q none led one two view. votes-two z n Q none led one (nat_lt view (floor_of s h3)) (3 == view) (2 == view) (1 == view) (apart 2 3 view two-three) (apart 1 3 view one-three) (apart 1 2 view one-two))
      (λ due. let e : 2700 ≡ due.moment = ap moment_of due.next in let r : due.moment ≤ 1200 = due.reached in omega (arith, e, r))
      (λ e. absurd (both_ways false refl e)) (λ number. refl) settles-three

  none-fourth : NoneDue g f s h4
  none-fourth = nothing-due FirstOrThird h4 tt above-third (inr refl, (inr refl, (inl refl, tt)))
      (λ view one. ⊎_elim
      (λ e. subst (λ (w : ℕ). leader_of (votes_of s h4 w) ≡ Some 3) e refl)
      (λ e. subst (λ (w : ℕ). leader_of (votes_of s h4 w) ≡ Some 3) e refl)
      one)
      (λ Q none led one two view. votes-three z n Q none led two (nat_lt view (floor_of s h4)) (3 == view) (2 == view) (1 == view) (apart 2 3 view two-three) (apart 1 3 view one-three) (apart 1 2 view one-two))
      (λ due. let e : 2700 ≡ due.moment = ap moment_of due.next in let r : due.moment ≤ 1200 = due.reached in omega (arith, e, r))
      (λ e. absurd (both_ways false refl e)) (λ number. refl) settles-four

  -- ---- from point to point

  pub in-time : (now : ℕ) → now + 2000 < 2 ^ 64 → IsInTime s now
  in-time now early = early

  no-acts : AreActs {S = S} {D = D} {P = P} {G = G} {C = C} []
  no-acts = All-nil (λ (p : Point S D P G C). is_act p ≡ true)

  one-act : (p : Point S D P G C) → is_act p ≡ true → AreActs (p ∷ [])
  one-act p is = All-cons (λ (q : Point S D P G C). is_act q ≡ true) p [] is no-acts

  pub may-finalize : Fits {S = S} {D = D} {P = P} {G = G} {C = C} (g.attests x.own) (g.certifies x.own) (owner_of s) [] (artifact.Finalization (finalization x))
  may-finalize = record {
    verifies = record { epoch = refl; verifies = finalized };
    follows = record { from_one = from-one; room = has-room; parent_below = below-two; first = λ t alike taken. Contains-nil (recorded.taken t) taken };
  }

  -- no other nullification is there
  none-alike : (t : Statement D) → AreAlike (nullify second) t → Contains {X = Entry D} (recorded.taken (finalize (agreed_on x)) ∷ []) (recorded.taken t) → ⊥
  none-alike (nullify r) alike here = ⊎_elim (λ is. cc is) (λ later. Contains-nil (recorded.taken (nullify r)) later) (Contains-cases (recorded.taken (finalize (agreed_on x))) [] (recorded.taken (nullify r)) here)
  none-alike (notarize p) alike here = absurd alike
  none-alike (finalize p) alike here = absurd alike

  may-nullify : Fits {S = S} {D = D} {P = P} {G = G} {C = C} (g.attests x.own) (g.certifies x.own) (owner_of s) (artifact.Finalization (finalization x) ∷ []) (artifact.Nullification (nullification x))
  may-nullify = record {
    verifies = record { epoch = refl; verifies = nullified };
    follows = record { from_one = from-one; room = has-room; parent_below = tt; first = none-alike };
  }

  goes-cut : Goes g f before [] (Opened 0 ∷ Began ∷ []) (Began ∷ Opened 0 ∷ [])
  goes-cut = (
    record { order = refl; due = in-time 0 (omega arith); fits = tt; readable = tt },
    (record { order = (some-points (Opened 0) [], refl); due = tt; fits = tt; readable = tt }, refl),
  )

  goes-first : Goes g f s [] (Opened 0 ∷ Began ∷ Leads 1 3 ∷ []) h1
  goes-first = (
    record { order = refl; due = in-time 0 (omega arith); fits = tt; readable = tt },
    (
      record { order = (some-points (Opened 0) [], refl); due = tt; fits = tt; readable = tt },
      (record { order = refl; due = (refl, refl, refl); fits = tt; readable = tt }, refl),
    ),
  )

  goes-second : Goes g f s h1 (Told 1200 ∷ []) h2
  goes-second = (record { order = refl; due = (le-up-to 1200, in-time 1200 (omega arith)); fits = tt; readable = tt }, refl)

  goes-third : IsRecordable f (certificate_artifact z) → Goes g f s h2 (Came z ∷ Leads 3 3 ∷ []) h3
  goes-third kept = (
    record { order = refl; due = (from-one, le-up-to 2); fits = may-finalize; readable = kept },
    (record { order = refl; due = (refl, refl, refl); fits = tt; readable = tt }, refl),
  )

  goes-fourth : IsRecordable f (certificate_artifact n) → Goes g f s h3 (Came n ∷ []) h4
  goes-fourth kept = (record { order = refl; due = (from-one, le-up-to 2); fits = may-nullify; readable = kept }, refl)

  -- ---- what is taken

  passes-second : IsFirst (tests g f s h1 (event.Moment 1200)) None
  passes-second = inr (λ fell. let l : 1200 < 0 = fell in omega (arith, l), inr (λ late. late (in-time 1200 (omega arith)), refl))

  -- no test of the sender applies to the last member
  module _ (h : History S D P G C) (c : Certificate S D P G C) (rest : IsFirst (packet_tests g f s h 3 (Some (of_certificate c))) None) where
    first-taken : IsFirst (sender_tests g f s 3 ++ packet_tests g f s h 3 (Some (of_certificate c))) None
    first-taken = inr (λ big. let b : g.size x.own ≤ 3 = big in omega (arith, b, size), inr (λ mine. let e : 3 ≡ 0 = mine in omega (arith, e), rest))

    passes-packet : (e : Event D) → IsHandedBy g f e c → IsFirst (tests g f s h e) None × IsPointOf g f s e (Came c)
    passes-packet (event.Packet from by bytes) is =
        let reads : f.packet_in by bytes.items ≡ Some (of_certificate c) = read-so by bytes.items is.bytes.1 is.bytes.2 in (
          subst (λ (k : ℕ). IsFirst (sender_tests g f s k ++ packet_tests g f s h k (f.packet_in by bytes.items)) None) (sym is.bytes.0)
              (subst (λ (o : Option (Packet S D P G C)). IsFirst (sender_tests g f s 3 ++ packet_tests g f s h 3 o) None) (sym reads) first-taken),
          subst (λ (o : Option (Packet S D P G C)). IsPacketPoint from o (Came c)) (sym reads) refl,
        )
      where
        read-so : (by : Channel) (bytes : List ℕ) → by ≡ channel.Certificates → bytes ≡ f.packet (of_certificate c) → f.packet_in by bytes ≡ Some (of_certificate c)
        read-so by bytes at are = subst (λ (k : Channel). f.packet_in k bytes ≡ Some (of_certificate c)) (sym at)
            (subst (λ (l : List ℕ). f.packet_in channel.Certificates l ≡ Some (of_certificate c)) (sym are) is.read)
    passes-packet e is = absurd is.bytes

  rest-third : IsFirst (packet_tests g f s h2 3 (Some (of_certificate z))) None
  rest-third =
      inr (
        λ epoch. epoch refl,
        inr (
          λ none. let e : 2 ≡ 0 = none in omega (arith, e),
          inr (
            λ outside. outside (from-one, le-up-to 2),
            inr (
              λ narrow. narrow has-room,
              inr (
                λ parent. parent below-two,
                inr (
                  λ repeated. repeated (λ t alike taken. Contains-nil (recorded.taken t) taken),
                  inr (λ false_one. false_one finalized, refl),
                ),
              ),
            ),
          ),
        ),
      )

  rest-fourth : IsFirst (packet_tests g f s h3 3 (Some (of_certificate n))) None
  rest-fourth =
      inr (
        λ epoch. epoch refl,
        inr (
          λ none. let e : 2 ≡ 0 = none in omega (arith, e),
          inr (
            λ outside. outside (from-one, le-up-to 2),
            inr (
              λ narrow. narrow has-room,
              inr (
                λ parent. parent tt,
                inr (
                  λ repeated. repeated none-alike,
                  inr (λ false_one. false_one nullified, refl),
                ),
              ),
            ),
          ),
        ),
      )

  -- ---- its lives

  same : IsOfOneMember before s
  same = record { scheme = refl; me = refl; voter_me = refl; epoch = refl; length = refl; genesis = λ payload more first second. some-is more payload (sym second ∙ first); mode = refl; elect = λ view c. refl }

  same-before : IsOfOneMember before before
  same-before = record { scheme = refl; me = refl; voter_me = refl; epoch = refl; length = refl; genesis = λ payload more first second. some-is more payload (sym second ∙ first); mode = refl; elect = λ view c. refl }

  module _ (final : IsHandedBy g f x.final_packet z) (null : IsHandedBy g f x.null_packet n) where
    lived-first : Lived g f before [] (cut_course x) (Began ∷ Opened 0 ∷ [])
    lived-first = (record { read = []; acts = []; split = refl; are = tt; own = no-acts }, goes-cut)

    lived-second : Lived g f s [] (taking_course x) h4
    lived-second = (
      h1,
      h4,
      record { read = []; acts = Leads 1 3 ∷ []; split = refl; are = tt; own = one-act (Leads 1 3) refl },
      record { goes = goes-first; none_due = none-first },
      (
        h2,
        record { passes = passes-second; first = Told 1200; acts = []; split = refl; of_it = refl; own = no-acts },
        record { goes = goes-second; none_due = none-second },
        (
          h3,
          record { passes = (passes-packet h2 z rest-third x.final_packet final).0; first = Came z; acts = Leads 3 3 ∷ []; split = refl; of_it = (passes-packet h2 z rest-third x.final_packet final).1; own = one-act (Leads 3 3) refl },
          record { goes = goes-third final.kept; none_due = none-third },
          (
            h4,
            record { passes = (passes-packet h3 n rest-fourth x.null_packet null).0; first = Came n; acts = []; split = refl; of_it = (passes-packet h3 n rest-fourth x.null_packet null).1; own = no-acts },
            record { goes = goes-fourth null.kept; none_due = none-fourth },
            refl,
          ),
        ),
      ),
      refl,
    )

    pub both-lived : Lives g f before [] [] ((one_member x).lives 0) (artifact.Finalization (finalization x) ∷ artifact.Nullification (nullification x) ∷ []) (artifact.Finalization (finalization x) ∷ artifact.Nullification (nullification x) ∷ [])
    both-lived = (
      Began ∷ Opened 0 ∷ [],
      record { appends = inl refl; readable = λ y here. absurd (Contains-nil y here) },
      lived-first,
      (h4, record { appends = refl; readable = λ y here. absurd (Contains-nil y here) }, lived-second, (refl, refl), same),
      same-before,
    )

-- ---- the world of it

module _ {S D P G C : Type 0} (g : Ghosts S D P G C) (f : Formats S D P G C) (cmp : D → D → Ordering) (scheme : S) (x : Forged S D C) (keys : AreForged g f scheme x)
    (final : IsHandedBy g f x.final_packet (certificate.Finalization (finalization x))) (null : IsHandedBy g f x.null_packet (certificate.Nullification (nullification x))) where
  abbrev m : Members S D P G C
  m = one_member x

  abbrev w : World S D P G C
  w = one_of_four x

  abbrev last_life : Life S D P G C
  last_life = record { setup = timed x.own x.genesis 0 1500; brought = None; founded = []; course = taking_course x }

  abbrev first_life : Life S D P G C
  first_life = record { setup = timed x.own x.genesis 0 1000; brought = None; founded = []; course = cut_course x }

  -- only the first member is correct
  is-first : (i : ℕ) → IsCorrect w i → i ≡ 0
  is-first i correct = first-alone i correct.0 correct.1

  correct : IsCorrect w 0
  correct = (omega arith, not-excused)

  -- ---- what came in is honest

  abbrev HoldsHonest : Event D → Type 0
  HoldsHonest e = (sender : ℕ) (y : Packet S D P G C) → Holds g f scheme m w e sender y → IsHonestPacket g f scheme m w y

  by-others : (c : Certificate S D P G C) → IsHonest (g.attests scheme) g.lists w c → (e : Event D) → IsHandedBy g f e c → HoldsHonest e
  by-others c honest (event.Packet from by bytes) is sender y holds =
      subst (λ (p : Packet S D P G C). IsHonestPacket g f scheme m w p) (some-is (of_certificate c) y (sym read ∙ holds.1)) honest
    where
      read : f.packet_in by bytes.items ≡ Some (of_certificate c)
      read = subst (λ (k : Channel). f.packet_in k bytes.items ≡ Some (of_certificate c)) (sym is.bytes.1)
          (subst (λ (l : List ℕ). f.packet_in channel.Certificates l ≡ Some (of_certificate c)) (sym is.bytes.2) is.read)
  by-others c honest e is sender y holds = absurd is.bytes

  all-honest : All (λ (life : Life S D P G C). All HoldsHonest (events_of life.course)) (m.lives 0)
  all-honest = All-cons (λ (life : Life S D P G C). All HoldsHonest (events_of life.course)) first_life (last_life ∷ []) (All-nil HoldsHonest)
      (All-cons (λ (life : Life S D P G C). All HoldsHonest (events_of life.course)) last_life []
      (All-cons HoldsHonest (event.Moment 1200) (x.final_packet ∷ x.null_packet ∷ []) (λ sender y holds. absurd holds)
      (All-cons HoldsHonest x.final_packet (x.null_packet ∷ [])
      (by-others (certificate.Finalization (finalization x)) (λ a here signs attests. absurd (keys.by_others_too a here (is-first a.signer signs))) x.final_packet final)
      (All-cons HoldsHonest x.null_packet []
      (by-others (certificate.Nullification (nullification x)) (λ a here signs attests. absurd (keys.by_others a here (is-first a.signer signs))) x.null_packet null) (All-nil HoldsHonest))))
      (All-nil (λ (life : Life S D P G C). All HoldsHonest (events_of life.course))))

  each-honest : (i : ℕ) → IsCorrect w i → (life : Life S D P G C) → Contains (m.lives i) life → (e : Event D) → Contains (events_of life.course) e → HoldsHonest e
  each-honest i signs life among e here =
      let there : Contains (m.lives 0) life = subst (λ (k : ℕ). Contains (m.lives k) life) (is-first i signs) among in
      All-contains HoldsHonest (events_of life.course) e (All-contains (λ (l : Life S D P G C). All HoldsHonest (events_of l.course)) (m.lives 0) life all-honest there) here

  lives-by-nodes : LiveByNodes g f scheme m w
  lives-by-nodes = record {
    alike = λ i signs. keys.alike;
    owner = λ i signs. refl;
    me = λ i signs. refl;
    lived = λ i signs. (
      w.recorded 0,
      subst (λ (k : ℕ). Lives g f (m.setup k) [] [] (m.lives k) (w.recorded k) (w.recorded 0)) (sym (is-first i signs)) (both-lived g f x keys.alike.size_is keys.finalized keys.nullified final null),
    );
    honest = λ i sender signs y came. each-honest i signs came.1.0 came.1.1 came.0 came.1.2 sender y came.2;
    floors = λ i signs c brought. absurd (⊎_elim
        (λ is. none-some c (ap (λ (l : Life S D P G C). option_map certificate.Finalization l.brought) is ∙ brought.2))
        (λ later. ⊎_elim
        (λ is. none-some c (ap (λ (l : Life S D P G C). option_map certificate.Finalization l.brought) is ∙ brought.2))
        (λ none. Contains-nil brought.0 none)
        (Contains-cases last_life [] brought.0 later))
        (Contains-cases first_life (last_life ∷ []) brought.0 (subst (λ (k : ℕ). Contains (m.lives k) brought.0) (is-first i signs) brought.1)));
  }

  told : AreReported g f scheme m w (both_reports x)
  told a here = (
    0,
    correct,
    ⊎_elim
        (λ is. (last_life, (1, last-of-two, refl), (0, first-of-five, ap (λ (b : Activity S D P G C). Reports b) is)))
        (λ later. ⊎_elim
        (λ is. (last_life, (1, last-of-two, refl), (3, fourth-of-five, ap (λ (b : Activity S D P G C). Reports b) is)))
        (λ none. absurd (Contains-nil a none))
        (Contains-cases (activity.Nullification (nullification x)) [] a later))
        (Contains-cases (activity.Finalization (finalization x)) (activity.Nullification (nullification x) ∷ []) a here),
  )

  pub is-named : ReportedNameEnough g f cmp → IsNamedFor g f cmp scheme x
  is-named law =
      let both : IsContradicted {S = S} {D = D} {P = P} {G = G} {C = C} (λ y c. ⊤) (both_reports x) second = inr (inr (record {
        first = nullification x;
        second = finalization x;
        first_is_held = (1, last-of-two, refl);
        second_is_held = (0, below-two, refl);
        first_certifies = tt;
        second_certifies = tt;
        first_round = refl;
        second_round = refl;
      })) in
      record {
        live = lives-by-nodes;
        correct = correct;
        reported = told;
        contradicted = both;
        named = λ evidence verdict.
            let by = law scheme m w lives-by-nodes keys.size (both_reports x) evidence told verdict second both in
            (by.0, λ here. by.1 0 here correct);
      }
