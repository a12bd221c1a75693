-- The example of a committee of one: its histories, at whose ends nothing is due, and how it goes from point to point.
use Rattle.std.proofs.Common.{◌≡◌, ◌≢◌, ◌⊎◌, inl, inr, ⊎_elim, ℕ, ◌+◌, ◌^◌, ◌<◌, ◌≤◌, ◌==◌, Bool, true, false, List, [], ◌∷◌, Option, Some, None, refl, sym, ◌∙◌, ap, subst, arith}
use Rattle.std.specs.Prelude.{MatchBool, ◌-◌, ◌&&◌, ◌||◌, Contains, find, if◌then◌else◌, is_some, length, nat_le}
use Rattle.std.proofs.lemmas.Bool.{both_ways, cases_lt}
use Rattle.std.proofs.lemmas.List.Elements.{All-cons, All-nil}
use Rattle.types_quorum.specs.Committee.{quorum}
use Rattle.types_quorum.specs.Counting.{Contains-nil}
use Rattle.types_core.specs.declared.attestation.Attestation.{Attestation}
use Rattle.types_core.specs.declared.context.Context.{Context}
use Rattle.types_core.specs.declared.proposal.Proposal.{Proposal}
use Rattle.types_core.specs.declared.scheme.Scheme.{Ghosts}
use Rattle.types_core.specs.Subject.{finalize, notarize, nullify}
use Rattle.types_terms.specs.declared.kind.Kind.{Kind}
use Rattle.types_terms.specs.declared.kind.Kind.TheVariants as kind
use Rattle.types_core.specs.Positions.{HasRoom, term_end, term_start}
use Rattle.types_terms.specs.Windows.{AdmitsOutbound}
use Rattle.messages_certificates.specs.declared.artifact.Artifact.TheVariants as artifact
use Rattle.messages_certificates.specs.declared.certificate.Certificate.{Certificate}
use Rattle.messages_certificates.specs.declared.certificate.Certificate.TheVariants as certificate
use Rattle.simplex_messages.specs.declared.vote.Vote.{Vote}
use Rattle.simplex_messages.specs.declared.vote.Vote.TheVariants as vote
use Rattle.voter_history.specs.declared.timeout_reason.TimeoutReason.{TimeoutReason}
use Rattle.voter_history.specs.Held.{Agrees, BuildIsOpen, IsBuildAsked, IsConfirmed, IsUnequivocated, IsVerified, Offer, held}
use Rattle.voter_history.specs.Known.{Known}
use Rattle.voter_history.specs.History.{seen}
use Rattle.voter_history.specs.Past as past
use Rattle.voter_history.specs.Past.{Item}
use Rattle.voter_rules.specs.Ancestry.{IsPreferred, IsRequired, Member, Stands, explicit, held_at}
use Rattle.voter_rules.specs.Building.{proposal_on}
use Rattle.voter_rules.specs.VotesDue.{FinalizeIsDue, NotarizeIsDue}
use Rattle.voter_rules.specs.GivingUp.{NullifyIsDue}
use Rattle.voter_rules.specs.Requests.{BuildIsDue, CertifyIsDue}
use Rattle.batcher_verifier.specs.History as votes
use Rattle.batcher_verifier.specs.History.{Cast, Certified, Led, forwardable, is_due, is_ready, is_worth_judging, leader_of, next_kind, verified}
use Rattle.batcher_verifier.specs.ConstructionResult.{IsBatch, IsCertificateOf, IsOfVerified, IsOfWaiting}
use Rattle.batcher_assembly.specs.Judging.{IsWhole}
use Rattle.batcher_verifier.specs.Votes.{certificate_kind, is_proposal, vote_attestation, vote_statement}
use Rattle.messages_certificates.specs.Certificate.{certificate_round, certificate_statement, certified_by}
use Rattle.simplex_record.specs.Record as recorded
use Rattle.simplex_record.specs.Record.{entries}
use Rattle.simplex_resolver.specs.Outstanding.{IsOutstanding}
use Rattle.simplex_member.specs.Allowed.{AsksFor, IsGivenBack, MayBeBuilt}
use Rattle.simplex_member.specs.Asked.{IsAwaited, IsJudged, build_at, next_number}
use Rattle.simplex_member.specs.Layers.{Collected, IsUp, Unopened, is_up, current_of, known_of, latest, repair_of, stage, voter_of, votes_of, votes_setup}
use Rattle.simplex_member.specs.Member.{Goes, IsRewritten, NoneDue}
use Rattle.simplex_member.specs.Packet.{Formats}
use Rattle.simplex_member.specs.Point.{Opened, Found, Began, Built, Judged, Leads, AsksBuild, AsksCertify, Constructs, Votes, Rewrote, History}
use Rattle.simplex_member.specs.Recorded.{kept_of, record_of}
use Rattle.simplex_member.specs.Setup.{IsInTime, Setup, member_of}
use Rattle.network_example.specs.Finalized.{CanBeKept, agreeing, finalizing, IsLone, Lone, alone, context_behind, finalization_behind, finalize_behind, made, notarization_behind, notarize_behind, proposal_behind, round_of, signed_by}
use Rattle.network_example.proofs.Far.{AreNear, AreOfNear, leads-alone, seen-far, stage-far}
use Rattle.network_example.proofs.Resolved.{none-due}
use Rattle.network_example.proofs.Rules.{for-one, no-verdict, no-vote, not-taken}

pub none-some : {X : Type 0} (x : X) → None ≡ Some x → ⊥
none-some x e = cc e

some-is : {X : Type 0} (x y : X) → Some x ≡ Some y → x ≡ y
some-is x y e = cc e

-- when something is to happen, if anything
abbrev moment_of : Option (ℕ × TimeoutReason) → ℕ
moment_of None = 0
moment_of (Some x) = x.0

-- the first four views, one by one, and all others
by-views : (Q : ℕ → Type 0) → Q 0 → Q 1 → Q 2 → Q 3 → ((view : ℕ) → 4 ≤ view → Q view) → (view : ℕ) → Q view
by-views Q none one two three far view = ⊎_elim
    (λ low. ⊎_elim
    (λ first. ⊎_elim
    (λ zero. let e : 0 ≡ view = omega (arith, zero) in subst Q e none)
    (λ some. let e : 1 ≡ view = omega (arith, some, first) in subst Q e one)
    (cases_lt view 1))
    (λ more. ⊎_elim
    (λ second. let e : 2 ≡ view = omega (arith, second, more) in subst Q e two)
    (λ third. let e : 3 ≡ view = omega (arith, third, low) in subst Q e three)
    (cases_lt view 3))
    (cases_lt view 2))
    (λ high. far view high)
    (cases_lt view 4)

-- the current view and the next one, where it may be spoken of no further
by-two : (Q : ℕ → Type 0) (now : ℕ) → Q now → Q (now + 1) → (view : ℕ) → now ≤ view → view ≤ now + 1 → Q view
by-two Q now this next view from to = ⊎_elim
    (λ low. let e : now ≡ view = omega (arith, low, from) in subst Q e this)
    (λ high. let e : now + 1 ≡ view = omega (arith, high, to) in subst Q e next)
    (cases_lt view (now + 1))

-- what stands under a number where it was given last, or where that was answered
stood : {X : Type 0} (b : Bool) (x y : X) (before : Option X) → before ≡ None → (if b then Some x else before) ≡ Some y → x ≡ y
stood true x y before none is = some-is x y is
stood false x y before none is = absurd (none-some y (sym none ∙ is))

apart : Unopened ≡ Collected → ⊥
apart e = cc e

answered : {X : Type 0} (b : Bool) (x : X) (before : Option X) → before ≡ None → (if b then None else (if b then Some x else before)) ≡ None
answered true x before none = refl
answered false x before none = none

module _ {S D P G C : Type 0} where
  -- nothing is due of a view of which so much is known
  pub record IsFinished (l : List (Item S D P G C)) : Type 0 where
    pub voted : past.has_notarized l ≡ false → IsConfirmed (past.offers l) → ⊥
    pub ended : past.verdict l ≡ Some true → past.has_finalized l ≡ false → ⊥
    pub asked : past.is_certify_asked l ≡ false → past.notarization l ≡ None

  -- nothing was proposed; it waits for a verdict; it is finalized
  unproposed : (l : List (Item S D P G C)) → (IsConfirmed (past.offers l) → ⊥) → past.verdict l ≡ None → past.notarization l ≡ None → IsFinished l
  unproposed l bare without none = record { voted = λ e is. bare is; ended = λ e first. none-some true (sym without ∙ e); asked = λ e. none }

  waiting : (l : List (Item S D P G C)) → past.has_notarized l ≡ true → past.verdict l ≡ None → past.is_certify_asked l ≡ true → IsFinished l
  waiting l voted without asked = record {
    voted = λ e is. both_ways (past.has_notarized l) e voted;
    ended = λ e first. none-some true (sym without ∙ e);
    asked = λ e. absurd (both_ways (past.is_certify_asked l) e asked);
  }

  finished : (l : List (Item S D P G C)) → past.has_notarized l ≡ true → past.has_finalized l ≡ true → past.is_certify_asked l ≡ true → IsFinished l
  finished l voted ended asked = record {
    voted = λ e is. both_ways (past.has_notarized l) e voted;
    ended = λ e first. both_ways (past.has_finalized l) first ended;
    asked = λ e. absurd (both_ways (past.is_certify_asked l) e asked);
  }

module _ {S D P G C : Type 0} (g : Ghosts S D P G C) (f : Formats S D P G C) (x : Lone S D G C) (scheme : S) (lone : IsLone g x scheme) (can : CanBeKept g x f) where
  abbrev s : Setup S D C
  s = alone x.own (x.payload 0)

  abbrev context_of : ℕ → Context D P
  context_of = context_behind g x

  abbrev proposal_of : ℕ → Proposal D
  proposal_of = proposal_behind g x

  abbrev agreement : ℕ → Certificate S D P G C
  agreement n = certificate.Notarization (notarization_behind g x n)

  abbrev finality : ℕ → Certificate S D P G C
  finality n = certificate.Finalization (finalization_behind g x n)

  abbrev agree : ℕ → Vote S D P G C
  agree n = vote.Notarize (notarize_behind g x n)

  abbrev end : ℕ → Vote S D P G C
  end n = vote.Finalize (finalize_behind g x n)

  -- ---- its histories

  abbrev pub opened_alone : History S D P G C
  opened_alone = AsksBuild 0 false (context_of 0) ∷ Leads 1 0 ∷ Began ∷ Opened 0 ∷ []

  abbrev pub agreed_behind : ℕ → History S D P G C → History S D P G C
  agreed_behind n h = AsksCertify (proposal_of n) ∷ Constructs (n + 1) kind.Notarization (made g x (agreement n)) ∷ Votes (agree n)
      ∷ Built n false (context_of n) (Some (x.payload (n + 1))) true ∷ h

  abbrev pub finalized_behind : ℕ → History S D P G C → History S D P G C
  finalized_behind n h = AsksBuild (n + 1) false (context_of (n + 1)) ∷ Leads (n + 2) 0 ∷ Constructs (n + 1) kind.Finalization (made g x (finality n))
      ∷ Votes (end n) ∷ Judged (round_of (n + 1)) true ∷ h

  abbrev pub h1 : History S D P G C
  h1 = opened_alone

  abbrev pub h2 : History S D P G C
  h2 = agreed_behind 0 h1

  abbrev pub h3 : History S D P G C
  h3 = finalized_behind 0 h2

  abbrev pub h4 : History S D P G C
  h4 = agreed_behind 1 h3

  abbrev pub h5 : History S D P G C
  h5 = finalized_behind 1 h4

  abbrev pub h6 : History S D P G C
  h6 = Rewrote (finalization_behind g x 1) ∷ h5

  abbrev pub opened_over : History S D P G C
  opened_over = Began ∷ Found (artifact.Finalization (finalization_behind g x 1)) false ∷ Opened 0 ∷ []

  le-up-to : (n : ℕ) → 0 ≤ n
  le-up-to n = omega arith

  at-last : (n : ℕ) → n ≤ n
  at-last n = omega arith

  -- ---- the votes of a view

  abbrev of_one : List (votes.Event (Vote S D P G C) (Certificate S D P G C))
  of_one = Led 0 ∷ []

  abbrev of_agreed : ℕ → List (votes.Event (Vote S D P G C) (Certificate S D P G C))
  of_agreed n = Certified (agreement n) ∷ Cast (agree n) ∷ Led 0 ∷ []

  abbrev of_finalized : ℕ → List (votes.Event (Vote S D P G C) (Certificate S D P G C))
  of_finalized n = Certified (finality n) ∷ Cast (end n) ∷ of_agreed n

  -- a committee of one needs one vote
  abbrev votes_alone : ℕ → votes.Setup S
  votes_alone view = record {
    round = round_of view;
    scheme = x.own;
    members = g.size x.own;
    needed = 1;
    batchable = g.batchable x.own;
    tracks = false;
    is_skipped = false;
  }

  abbrev votes_by : ℕ → ℕ → votes.Setup S
  votes_by view size = record {
    round = round_of view;
    scheme = x.own;
    members = g.size x.own;
    needed = quorum size;
    batchable = g.batchable x.own;
    tracks = false;
    is_skipped = false;
  }

  needed-one : (Q : votes.Setup S → Type 0) (view : ℕ) → Q (votes_alone view) → Q (votes_by view (g.size x.own))
  needed-one Q view is = subst (λ (size : ℕ). Q (votes_by view size)) (sym lone.alike.size_is) is

  abbrev Ready : ℕ → List (votes.Event (Vote S D P G C) (Certificate S D P G C)) → votes.Setup S → Type 0
  Ready view r setup = next_kind {S = S} {D = D} {P = P} {G = G} {C = C} f.same setup r ≡ None

  -- what is used of the votes of a view, where they came up
  pub record IsCounted (h : History S D P G C) (view : ℕ) : Type 0 where
    pub unready : stage s h view ≡ Collected → next_kind f.same (votes_setup s g h view) (votes_of s h view) ≡ None
    pub known : IsUp (stage s h view) → leader_of (votes_of s h view) ≢ None
    pub unforwarded : IsUp (stage s h view) → forwardable (votes_of s h view) s.me ≡ None

  not-up : (h : History S D P G C) (view : ℕ) → (IsUp (stage s h view) → ⊥) → (stage s h view ≡ Collected → ⊥) → IsCounted h view
  not-up h view down uncollected = record { unready = λ is. absurd (uncollected is); known = λ up none. down up; unforwarded = λ up. absurd (down up) }

  -- ---- from what is known of the views to what is due

  module _ (h : History S D P G C) (near : AreNear 4 (voter_of s h)) (of_near : AreOfNear s 4 h)
      (none : IsFinished (seen s.voter (voter_of s h) 0)) (one : IsFinished (seen s.voter (voter_of s h) 1))
      (two : IsFinished (seen s.voter (voter_of s h) 2)) (three : IsFinished (seen s.voter (voter_of s h) 3))
      (counted_none : IsCounted h 0) (counted_one : IsCounted h 1) (counted_two : IsCounted h 2) (counted_three : IsCounted h 3)
      (waits : ¬ NullifyIsDue s.voter (voter_of s h) (latest h)) (not_given_up : past.has_nullified (seen s.voter (voter_of s h) (current_of s h)) ≡ false)
      (building : (view parent : ℕ) (payload : D) → BuildIsDue (member_of s) (known_of s h) view parent payload → ⊥)
      (stands : (number : ℕ) (handoff : Bool) (context : Context D P) → build_at h number ≡ Some (handoff, context) → (¬ IsGivenBack g f s h handoff context) × (¬ (context.round.view < current_of s h)))
      (settled : (view : ℕ) → IsOutstanding 1 (repair_of f h) view → ⊥) where
    all-finished : (view : ℕ) → IsFinished (seen s.voter (voter_of s h) view)
    all-finished = by-views (λ view. IsFinished (seen s.voter (voter_of s h) view)) none one two three
        (λ view far. subst (λ (l : List (Item S D P G C)). IsFinished l) (sym (seen-far 4 view far s.voter (voter_of s h) near)) (unproposed [] (λ c. c) refl refl))

    all-counted : (view : ℕ) → IsCounted h view
    all-counted = by-views (λ view. IsCounted h view) counted_none counted_one counted_two counted_three
        (λ view far. let down = stage-far s 4 view far h of_near in not-up h view (λ up. both_ways (is_up (stage s h view)) (ap is_up down) up) (λ is. apart (sym down ∙ is)))

    nothing-due : NoneDue g f s h
    nothing-due = none-due g f s refl refl refl refl h (record {
      led = leads-alone s.voter refl (λ view c. refl) 4 (voter_of s h) near;
      voted = λ view. (all-finished view).voted;
      ended = λ view. (all-finished view).ended;
      asked = λ view. (all-finished view).asked;
      waits = waits;
      not_given_up = not_given_up;
      building = building;
      stands = stands;
      settled = settled;
      unready = λ view. (all-counted view).unready;
      known = λ view. (all-counted view).known;
      unforwarded = λ view. (all-counted view).unforwarded;
    })

  -- ---- what it votes is certified

  module _ (n : ℕ) (same_is : is_proposal f.same (proposal_of n) (proposal_of n) ≡ true) where
    abbrev agreeing_votes : List (votes.Event (Vote S D P G C) (Certificate S D P G C))
    agreeing_votes = Cast (agree n) ∷ Led 0 ∷ []

    abbrev ending_votes : List (votes.Event (Vote S D P G C) (Certificate S D P G C))
    ending_votes = Cast (end n) ∷ of_agreed n

    abbrev own : votes.Setup S
    own = votes_alone (n + 1)

    agree-counts : verified f.same own kind.Notarization agreeing_votes ≡ agree n ∷ []
    agree-counts = subst (λ (b : Bool). (if b then agree n ∷ [] else []) ≡ agree n ∷ []) (sym same_is) refl

    end-counts : verified f.same own kind.Finalization ending_votes ≡ end n ∷ []
    end-counts = subst (λ (b : Bool). (if b then end n ∷ [] else []) ≡ end n ∷ []) (sym same_is) refl

    agree-ready : is_ready f.same own kind.Notarization agreeing_votes ≡ true
    agree-ready = ap (λ (l : List (Vote S D P G C)). nat_le 1 (length l) && true) agree-counts

    end-ready : is_ready f.same own kind.Finalization ending_votes ≡ true
    end-ready = ap (λ (l : List (Vote S D P G C)). nat_le 1 (length l) && true) end-counts

    agree-due : next_kind f.same own agreeing_votes ≡ Some kind.Notarization
    agree-due = subst
        (λ (b : Bool). (if b || is_worth_judging f.same own kind.Notarization agreeing_votes then Some kind.Notarization else find (λ k. is_due f.same own k agreeing_votes) (kind.Nullification ∷ kind.Finalization ∷ [])) ≡ Some kind.Notarization)
        (sym agree-ready) refl

    end-due : next_kind f.same own ending_votes ≡ Some kind.Finalization
    end-due = subst
        (λ (b : Bool). (if b || is_worth_judging f.same own kind.Finalization ending_votes then Some kind.Finalization else None) ≡ Some kind.Finalization)
        (sym end-ready) refl

    -- a certificate that lists the one vote there is
    module _ (v : Vote S D P G C) (c : Certificate S D P G C) (packed : C) (signature : G) (at : Kind) (r : votes.History S D P G C)
        (counts : verified f.same own at r ≡ v ∷ []) (ready : is_ready f.same own at r ≡ true) (kind_is : certificate_kind c ≡ at) (round_is : certificate_round c ≡ round_of (n + 1))
        (packed_is : certified_by c ≡ packed) (states : vote_statement v ≡ certificate_statement c) (signed : vote_attestation v ≡ signed_by g x signature)
        (certifies : g.certifies x.own (certificate_statement c) packed) (lists : g.lists packed ≡ signed_by g x signature ∷ []) where
      is-batch : IsBatch g f.same own at r (made g x c)
      is-batch = subst (λ (b : Bool). MatchBool b (IsOfVerified g f.same own at r (made g x c)) (IsOfWaiting g f.same own at r (made g x c))) (sym ready) (record {
        none_processed = refl;
        none_invalid = lone.nobody;
        no_fallback = refl;
        certificate = c;
        made = refl;
        certificate_is = subst (λ (l : List (Vote S D P G C)). IsCertificateOf g own at l c) (sym counts) (record {
          kind_is = kind_is;
          round_is = round_is;
          states = All-cons (λ (w : Vote S D P G C). vote_statement w ≡ certificate_statement c) v [] states (All-nil (λ (w : Vote S D P G C). vote_statement w ≡ certificate_statement c));
          whole = subst (λ (y : C). IsWhole (g.certifies x.own (certificate_statement c)) g.lists g.enumerates (vote_attestation v ∷ []) y) (sym packed_is)
              (subst (λ (a : Attestation G). IsWhole (g.certifies x.own (certificate_statement c)) g.lists g.enumerates (a ∷ []) packed) (sym signed) (record {
                sound = record { does_certify = certifies; only_given = λ a here. subst (λ (l : List (Attestation G)). Contains l a) lists here };
                all_given = λ all a here. subst (λ (l : List (Attestation G)). Contains l a) (sym lists) here;
              }));
        });
      })

    agree-made : IsBatch g f.same own kind.Notarization agreeing_votes (made g x (agreement n))
    agree-made = is-batch (agree n) (agreement n) (x.agreed n) (x.agrees n) kind.Notarization agreeing_votes agree-counts agree-ready refl refl refl refl refl (lone.agreed n) (lone.lists_agreed n)

    end-made : IsBatch g f.same own kind.Finalization ending_votes (made g x (finality n))
    end-made = is-batch (end n) (finality n) (x.ended n) (x.ends n) kind.Finalization ending_votes end-counts end-ready refl refl refl refl refl (lone.ended n) (lone.lists_ended n)

  -- ---- what is due behind a history of which this is known

  module _ (h : History S D P G C) (n : ℕ) (starts : n + 1 ≡ term_start 1 (n + 1)) (room : HasRoom 1 (n + 1)) where
    abbrev m : Member
    m = member_of s

    abbrev k : Known D
    k = known_of s h

    -- it builds on the last view, which is explicit
    last-certified : explicit m k n ≡ Some (x.payload n) → IsPreferred m k (n + 1) n (x.payload n)
    last-certified there = inr (inl (record {
      starts = starts;
      below = omega arith;
      there = there;
      highest = λ u above low. absurd (omega (arith, above, low));
      covered = λ u above low. absurd (omega (arith, above, low));
    }))

    -- no other view is required first
    none-required : (parent required : ℕ) → IsRequired m k (n + 1) parent required → ⊥
    none-required parent required needs = none-some 0 ((needs.early starts).1.named)

    build-due : explicit m k n ≡ Some (x.payload n) → k.current ≡ n + 1 → k.has_nullified (n + 1) ≡ false → k.leader (n + 1) ≡ Some 0 → k.offers (n + 1) ≡ []
        → BuildIsDue m k (n + 1) n (x.payload n)
    build-due there now kept leads vacant = record {
      opens = record { from = omega (arith, now); room = room; outbound = inl (omega (arith, now)); not_given_up = kept };
      leads = record { some = refl; known = leads };
      vacant = subst (λ (o : List (Offer D)). BuildIsOpen o) (sym vacant) (λ asked. asked, refl);
      preferred = last-certified there;
      patient = λ handoff. subst (λ (view : ℕ). k.has_nullified view ≡ false) (sym now) kept;
    }

    asks-build : (number : ℕ) → next_number h ≡ number → number < 2 ^ 64 - 1 → explicit m k n ≡ Some (x.payload n) → k.current ≡ n + 1 → k.has_nullified (n + 1) ≡ false → k.leader (n + 1) ≡ Some 0
        → k.offers (n + 1) ≡ [] → AsksFor g f s h number false (context_of n)
    asks-build number next few there now kept leads vacant = record {
      left = omega (arith, next, few);
      next = sym next;
      due = build-due there now kept leads vacant;
      names = record { epoch = refl; index = 0; me = refl; key = refl };
      handoff_is = (λ is. absurd (both_ways false refl is), λ handoff. absurd (handoff.early there));
    }

    may-be-built : explicit m k n ≡ Some (x.payload n) → k.has_nullified (n + 1) ≡ false → k.leader (n + 1) ≡ Some 0 → held (k.offers (n + 1)) ≡ None
        → MayBeBuilt g f s h (context_of n) (x.payload (n + 1))
    may-be-built there kept leads vacant = record {
      tracked = inr (ap (λ (o : Option ℕ). is_some o) leads);
      captured = inl (last-certified there);
      not_given_up = kept;
      agrees = subst (λ (o : Option (Proposal D)). Agrees o (proposal_on (context_of n) (x.payload (n + 1)))) (sym vacant) tt;
    }

    notarize-due : explicit m k n ≡ Some (x.payload n) → k.current ≡ n + 1 → k.last_finalized ≤ n → k.floor ≤ n → k.has_notarized (n + 1) ≡ false → k.has_nullified (n + 1) ≡ false → k.leader (n + 1) ≡ Some 0
        → IsVerified (k.offers (n + 1)) → held_at m k (n + 1) ≡ Some (proposal_of n) → k.binding (n + 1) ≡ Some (proposal_of n, x.payload n) → NotarizeIsDue m k (n + 1)
    notarize-due there now final floored first kept leads sure held_is bound = record {
      kept = (omega arith, omega (arith, final));
      behind = omega (arith, floored);
      room = room;
      outbound = inl (omega (arith, now));
      first = first;
      not_given_up = kept;
      verified = sure;
      supported = λ window. absurd (window.optimism refl);
      steady = λ b is. subst (λ (y : Proposal D × D). Stands m k (n + 1) y) (some-is {X = Proposal D × D} (proposal_of n, x.payload n) b (sym bound ∙ is))
          (record { held = held_is; parent = inr (record { some = refl; known = leads }, last-certified there) });
    }

    certify-due : k.last_finalized ≤ n → k.notarized (n + 1) ≡ Some (proposal_of n) → k.verdict (n + 1) ≡ None → k.certify_asked (n + 1) ≡ false → CertifyIsDue m k (n + 1) (proposal_of n)
    certify-due final notarized without first = record {
      opens = record {
        room = room;
        above = omega (arith, final);
        notarized = notarized;
        without = without;
        first = first;
        below = omega arith;
        span = λ required needs. absurd (none-required n required needs);
      };
      explicit = λ required needs. absurd (none-required n required needs);
    }

    finalize-due : k.last_finalized ≤ n → n + 1 ≤ k.current → k.has_nullified (n + 1) ≡ false → k.has_finalized (n + 1) ≡ false → IsUnequivocated (k.offers (n + 1)) → is_some (k.notarized (n + 1)) ≡ true
        → k.verdict (n + 1) ≡ Some true → FinalizeIsDue m k (n + 1)
    finalize-due final now kept first one notarized good = record {
      above = omega (arith, final);
      room = room;
      outbound = inl now;
      not_given_up = kept;
      first = first;
      unequivocated = one;
      notarized = notarized;
      certified = good;
      healed = λ u from low above. absurd (omega (arith, from, low, starts));
      supported = λ p required held_is needs. absurd (none-required p.parent required needs);
    }

  -- ---- nothing is due

  same-first : is_proposal f.same (proposal_of 0) (proposal_of 0) ≡ true
  same-first = can.same 1

  same-second : is_proposal f.same (proposal_of 1) (proposal_of 1) ≡ true
  same-second = can.same 2

  nothing-seen : IsFinished {S = S} {D = D} {P = P} {G = G} {C = C} []
  nothing-seen = unproposed [] (λ c. c) refl refl

  module _ (h : History S D P G C) (view : ℕ) where
    none-counted : is_up (stage s h view) ≡ false → IsCounted h view
    none-counted down = not-up h view (λ up. both_ways (is_up (stage s h view)) down up) (λ is. both_ways (is_up (stage s h view)) down (ap is_up is))

    counted : leader_of (votes_of s h view) ≡ Some 0 → forwardable (votes_of s h view) 0 ≡ None → next_kind f.same (votes_setup s g h view) (votes_of s h view) ≡ None → IsCounted h view
    counted led none unready = record { unready = λ is. unready; known = λ up nobody. none-some 0 (sym nobody ∙ led); unforwarded = λ up. none }

  unready-led : (view : ℕ) → Ready view of_one (votes_by view (g.size x.own))
  unready-led view = needed-one (Ready view of_one) view refl

  unready-agreed : (n view : ℕ) → Ready view (of_agreed n) (votes_by view (g.size x.own))
  unready-agreed n view = needed-one (Ready view (of_agreed n)) view refl

  unready-finalized : (n view : ℕ) → Ready view (of_finalized n) (votes_by view (g.size x.own))
  unready-finalized n view = needed-one (Ready view (of_finalized n)) view refl

  -- how far the view of a build may lie ahead
  ahead : (now view : ℕ) → term_end 1 now ≤ now → AdmitsOutbound 1 0 now view → view ≤ now + 1
  ahead now view ends admits = ⊎_elim
      (λ behind. omega (arith, behind))
      (λ later. ⊎_elim (λ near. omega (arith, near)) (λ next. let is : view ≡ term_end 1 now + 1 = next.0 in omega (arith, is, ends)) later)
      admits

  -- where nothing is nullified, and the view is not explicit, nothing is to be built on
  none-preferred : (h : History S D P G C) (now : ℕ) → now + 1 ≡ term_start 1 (now + 1) → explicit (member_of s) (known_of s h) now ≡ None → ((u : ℕ) → (known_of s h).nullified u ≡ false) → (parent : ℕ) (payload : D)
      → IsPreferred (member_of s) (known_of s h) (now + 1) parent payload → ⊥
  none-preferred h now starts missing bare parent payload preferred = ⊎_elim
      (λ before. before.inside starts)
      (λ other. ⊎_elim
      (λ certified. ⊎_elim
      (λ low. let covered = certified.covered now low (omega arith) in both_ways ((known_of s h).nullified covered.0) (bare covered.0) covered.2)
      (λ high. let is : now ≡ parent = omega (arith, high, certified.below) in
      let there : explicit (member_of s) (known_of s h) now ≡ Some payload = subst (λ (u : ℕ). explicit (member_of s) (known_of s h) u ≡ Some payload) (sym is) certified.there in
      none-some payload (sym missing ∙ there))
      (cases_lt parent now))
      (λ handed. none-some 0 handed.handoff.leads.named)
      other)
      preferred

  module _ (h : History S D P G C) (now : ℕ) (ends : term_end 1 now ≤ now) (now_is : current_of s h ≡ now) where
    -- a build stands in the current view, and nobody is known to lead the next
    building-on : IsBuildAsked ((known_of s h).offers now) → (known_of s h).leader (now + 1) ≡ None → (view parent : ℕ) (payload : D) → BuildIsDue (member_of s) (known_of s h) view parent payload → ⊥
    building-on asked nobody view parent payload due = by-two
        (λ v. BuildIsDue (member_of s) (known_of s h) v parent payload → ⊥) now
        (λ this. this.vacant.0 asked)
        (λ next. none-some 0 (sym nobody ∙ next.leads.known))
        view (omega (arith, now_is, due.opens.from))
        (ahead now view ends (subst (λ (v : ℕ). AdmitsOutbound 1 0 v view) now_is due.opens.outbound)) due

    -- something is proposed in the current view, and the next may not be built on it yet
    building-waits : (p : Proposal D) → held ((known_of s h).offers now) ≡ Some p → now + 1 ≡ term_start 1 (now + 1) → explicit (member_of s) (known_of s h) now ≡ None → ((u : ℕ) → (known_of s h).nullified u ≡ false)
        → (view parent : ℕ) (payload : D) → BuildIsDue (member_of s) (known_of s h) view parent payload → ⊥
    building-waits p held_is starts missing bare view parent payload due = by-two
        (λ v. BuildIsDue (member_of s) (known_of s h) v parent payload → ⊥) now
        (λ this. none-some p (sym this.vacant.1 ∙ held_is))
        (λ next. none-preferred h now starts missing bare parent payload next.preferred)
        view (omega (arith, now_is, due.opens.from))
        (ahead now view ends (subst (λ (v : ℕ). AdmitsOutbound 1 0 v view) now_is due.opens.outbound)) due

    -- the build that stands is to be kept
    standing-build : (n : ℕ) → n + 1 ≡ now → IsPreferred (member_of s) (known_of s h) (n + 1) n (x.payload n) → (handoff : Bool) (context : Context D P) → ◌≡◌ {A = Bool × Context D P} (false, context_of n) (handoff, context)
        → (¬ IsGivenBack g f s h handoff context) × (¬ (context.round.view < current_of s h))
    standing-build n is preferred handoff context e = subst
        (λ (y : Bool × Context D P). (¬ IsGivenBack g f s h y.0 y.1) × (¬ (y.1.round.view < current_of s h))) e (
          λ given. ⊎_elim (λ superseded. superseded.fallen (inl preferred)) (λ stopped. both_ways false refl stopped.0) given,
          λ less. let l : n + 1 < current_of s h = less in omega (arith, l, is, now_is),
        )

  none-built-first : (number : ℕ) → build_at h2 number ≡ None
  none-built-first number = answered (0 == number) (false, context_of 0) None refl

  none-built-second : (number : ℕ) → build_at h4 number ≡ None
  none-built-second number = answered (1 == number) (false, context_of 1) (build_at h2 number) (none-built-first number)

  starts-first : 1 ≡ term_start 1 1
  starts-first = refl

  starts-second : 2 ≡ term_start 1 2
  starts-second = refl

  room-first : HasRoom 1 1
  room-first = omega arith

  room-second : HasRoom 1 2
  room-second = omega arith

  room-third : HasRoom 1 3
  room-third = omega arith

  one-four : 1 < 4
  one-four = omega arith

  two-four : 2 < 4
  two-four = omega arith

  three-four : 3 < 4
  three-four = omega arith

  near-first : AreNear 4 (voter_of s h1)
  near-first = (one-four, (one-four, tt))

  near-second : AreNear 4 (voter_of s h2)
  near-second = (one-four, (one-four, (one-four, (one-four, (one-four, near-first)))))

  near-third : AreNear 4 (voter_of s h3)
  near-third = (two-four, (one-four, (two-four, (one-four, (two-four, near-second)))))

  near-fourth : AreNear 4 (voter_of s h4)
  near-fourth = (two-four, (two-four, (two-four, (two-four, (two-four, near-third)))))

  near-fifth : AreNear 4 (voter_of s h5)
  near-fifth = (three-four, (two-four, (three-four, (two-four, (three-four, near-fourth)))))

  of-first : AreOfNear s 4 h1
  of-first = (one-four, (one-four, tt))

  of-second : AreOfNear s 4 h2
  of-second = (one-four, one-four, (one-four, of-first))

  of-third : AreOfNear s 4 h3
  of-third = (two-four, (one-four, two-four, (one-four, (two-four, of-second))))

  of-fourth : AreOfNear s 4 h4
  of-fourth = (two-four, two-four, (two-four, of-third))

  of-fifth : AreOfNear s 4 h5
  of-fifth = (three-four, (two-four, three-four, (two-four, (three-four, of-fourth))))

  pub none-first : NoneDue g f s h1
  none-first = nothing-due h1 near-first of-first
      nothing-seen (unproposed (seen s.voter (voter_of s h1) 1) (λ c. c) refl refl) nothing-seen nothing-seen
      (none-counted h1 0 refl) (counted h1 1 refl refl (unready-led 1)) (none-counted h1 2 refl) (none-counted h1 3 refl)
      (λ due. let e : 1000 ≡ due.moment = ap moment_of due.next in let r : due.moment ≤ 0 = due.reached in omega (arith, e, r))
      refl (building-on h1 1 (at-last 1) refl tt refl)
      (λ number handoff context is. standing-build h1 1 (at-last 1) refl 0 refl (last-certified h1 0 starts-first room-first refl) handoff context
      (stood (0 == number) (false, context_of 0) (handoff, context) None refl is))
      (λ view out. ⊎_elim (λ below. let l : view < 0 = below.0 in omega (arith, l)) (λ failed. both_ways false refl failed) out.due)

  pub none-second : NoneDue g f s h2
  none-second = nothing-due h2 near-second of-second
      nothing-seen (waiting (seen s.voter (voter_of s h2) 1) refl refl refl) nothing-seen nothing-seen
      (none-counted h2 0 refl) (counted h2 1 refl refl (unready-agreed 0 1)) (none-counted h2 2 refl) (none-counted h2 3 refl)
      (λ due. let e : 2000 ≡ due.moment = ap moment_of due.next in let r : due.moment ≤ 0 = due.reached in omega (arith, e, r))
      refl (building-waits h2 1 (at-last 1) refl (proposal_of 0) refl starts-second refl (λ u. refl))
      (λ number handoff context is. absurd (none-some (handoff, context) (sym (none-built-first number) ∙ is)))
      (λ view out. ⊎_elim (λ below. let l : view < 1 = below.0 in let low : 0 < view = out.above in omega (arith, l, low)) (λ failed. both_ways false refl failed) out.due)

  starts-third : 3 ≡ term_start 1 3
  starts-third = refl

  pub none-third : NoneDue g f s h3
  none-third = nothing-due h3 near-third of-third
      nothing-seen (finished (seen s.voter (voter_of s h3) 1) refl refl refl) (unproposed (seen s.voter (voter_of s h3) 2) (λ c. c) refl refl) nothing-seen
      (none-counted h3 0 refl) (counted h3 1 refl refl (unready-finalized 0 1)) (counted h3 2 refl refl (unready-led 2)) (none-counted h3 3 refl)
      (λ due. let e : 1000 ≡ due.moment = ap moment_of due.next in let r : due.moment ≤ 0 = due.reached in omega (arith, e, r))
      refl (building-on h3 2 (at-last 2) refl tt refl)
      (λ number handoff context is. standing-build h3 2 (at-last 2) refl 1 refl (last-certified h3 1 starts-second room-second refl) handoff context
      (stood (1 == number) (false, context_of 1) (handoff, context) (build_at h2 number) (none-built-first number) is))
      (λ view out. ⊎_elim (λ below. let l : view < 1 = below.0 in let low : 1 < view = out.above in omega (arith, l, low)) (λ failed. both_ways false refl failed) out.due)

  pub none-fourth : NoneDue g f s h4
  none-fourth = nothing-due h4 near-fourth of-fourth
      nothing-seen (finished (seen s.voter (voter_of s h4) 1) refl refl refl) (waiting (seen s.voter (voter_of s h4) 2) refl refl refl) nothing-seen
      (none-counted h4 0 refl) (counted h4 1 refl refl (unready-finalized 0 1)) (counted h4 2 refl refl (unready-agreed 1 2)) (none-counted h4 3 refl)
      (λ due. let e : 2000 ≡ due.moment = ap moment_of due.next in let r : due.moment ≤ 0 = due.reached in omega (arith, e, r))
      refl (building-waits h4 2 (at-last 2) refl (proposal_of 1) refl starts-third refl (λ u. refl))
      (λ number handoff context is. absurd (none-some (handoff, context) (sym (none-built-second number) ∙ is)))
      (λ view out. ⊎_elim (λ below. let l : view < 2 = below.0 in let low : 1 < view = out.above in omega (arith, l, low)) (λ failed. both_ways false refl failed) out.due)

  pub none-fifth : NoneDue g f s h5
  none-fifth = nothing-due h5 near-fifth of-fifth
      nothing-seen (finished (seen s.voter (voter_of s h5) 1) refl refl refl) (finished (seen s.voter (voter_of s h5) 2) refl refl refl) (unproposed (seen s.voter (voter_of s h5) 3) (λ c. c) refl refl)
      (none-counted h5 0 refl) (counted h5 1 refl refl (unready-finalized 0 1)) (counted h5 2 refl refl (unready-finalized 1 2)) (counted h5 3 refl refl (unready-led 3))
      (λ due. let e : 1000 ≡ due.moment = ap moment_of due.next in let r : due.moment ≤ 0 = due.reached in omega (arith, e, r))
      refl (building-on h5 3 (at-last 3) refl tt refl)
      (λ number handoff context is. standing-build h5 3 (at-last 3) refl 2 refl (last-certified h5 2 starts-third room-third refl) handoff context
      (stood (2 == number) (false, context_of 2) (handoff, context) (build_at h4 number) (none-built-second number) is))
      (λ view out. ⊎_elim (λ below. let l : view < 2 = below.0 in let low : 2 < view = out.above in omega (arith, l, low)) (λ failed. both_ways false refl failed) out.due)

  none-sixth : NoneDue g f s h6
  none-sixth = nothing-due h6 near-fifth of-fifth
      nothing-seen (finished (seen s.voter (voter_of s h6) 1) refl refl refl) (finished (seen s.voter (voter_of s h6) 2) refl refl refl) (unproposed (seen s.voter (voter_of s h6) 3) (λ c. c) refl refl)
      (none-counted h6 0 refl) (counted h6 1 refl refl (unready-finalized 0 1)) (counted h6 2 refl refl (unready-finalized 1 2)) (counted h6 3 refl refl (unready-led 3))
      (λ due. let e : 1000 ≡ due.moment = ap moment_of due.next in let r : due.moment ≤ 0 = due.reached in omega (arith, e, r))
      refl (building-on h6 3 (at-last 3) refl tt refl)
      (λ number handoff context is. standing-build h6 3 (at-last 3) refl 2 refl (last-certified h6 2 starts-third room-third refl) handoff context
      (stood (2 == number) (false, context_of 2) (handoff, context) (build_at h4 number) (none-built-second number) is))
      (λ view out. ⊎_elim (λ below. let l : view < 2 = below.0 in let low : 2 < view = out.above in omega (arith, l, low)) (λ failed. both_ways false refl failed) out.due)

  -- the rewrite behind its second finalization
  pub rewritten-so : IsRewritten g f s h5 (finalization_behind g x 1)
  rewritten-so = record { allowed = record { order = refl; due = record { terms = omega arith; next = refl }; fits = tt; readable = tt }; none_due = none-sixth }

  -- ---- from point to point

  some-points : {X : Type 0} (y : X) (ys : List X) → (y ∷ ys ≡ [] → ⊥)
  some-points y ys e = cc e

  early : IsInTime s 0
  early = omega arith

  few : (number : ℕ) → number < 3 → number < 2 ^ 64 - 1
  few number low = omega (arith, low)

  pub goes-open : Goes g f s [] (Opened 0 ∷ Began ∷ Leads 1 0 ∷ AsksBuild 0 false (context_of 0) ∷ []) h1
  goes-open = (
    record { order = refl; due = early; fits = tt; readable = tt },
    (
      record { order = (some-points (Opened 0) [], refl); due = tt; fits = tt; readable = tt },
      (
        record { order = refl; due = (refl, refl, refl); fits = tt; readable = tt },
        (
          record {
            order = refl;
            due = asks-build (Leads 1 0 ∷ Began ∷ Opened 0 ∷ []) 0 starts-first room-first 0 refl (few 0 (omega arith)) refl refl refl refl refl;
            fits = tt;
            readable = tt;
          },
          refl,
        ),
      ),
    ),
  )

  -- over what the rewrite left
  pub goes-over : Goes g f s [] (Opened 0 ∷ Found (artifact.Finalization (finalization_behind g x 1)) false ∷ Began ∷ []) opened_over
  goes-over = (
    record { order = refl; due = early; fits = tt; readable = tt },
    (
      record {
        order = (some-points (Opened 0) [], refl);
        due = tt;
        fits = record {
          verifies = record { epoch = refl; verifies = lone.ended 1 };
          follows = record { from_one = omega arith; room = room-second; parent_below = omega arith; first = λ t alike taken. Contains-nil (recorded.taken t) taken };
        };
        readable = tt;
      },
      (record { order = (some-points (Found (artifact.Finalization (finalization_behind g x 1)) false) (Opened 0 ∷ []), refl); due = tt; fits = tt; readable = tt }, refl),
    ),
  )

  -- behind a history: what comes of the payload, point by point
  abbrev built : ℕ → History S D P G C → History S D P G C
  built n h = Built n false (context_of n) (Some (x.payload (n + 1))) true ∷ h

  abbrev agreed : ℕ → History S D P G C → History S D P G C
  agreed n h = Votes (agree n) ∷ built n h

  abbrev notarized : ℕ → History S D P G C → History S D P G C
  notarized n h = Constructs (n + 1) kind.Notarization (made g x (agreement n)) ∷ agreed n h

  abbrev judged_good : ℕ → History S D P G C → History S D P G C
  judged_good n h = Judged (round_of (n + 1)) true ∷ h

  abbrev pub ended : ℕ → History S D P G C → History S D P G C
  ended n h = Votes (end n) ∷ judged_good n h

  abbrev completed : ℕ → History S D P G C → History S D P G C
  completed n h = Constructs (n + 1) kind.Finalization (made g x (finality n)) ∷ ended n h

  -- a later view isn't an earlier one
  later : (view other : ℕ) → view < other → other ≡ view → ⊥
  later view other less same = omega (arith, less, same)

  one-two : 1 < 2
  one-two = omega arith

  none-two : 0 < 2
  none-two = omega arith

  untainted : (p : Proposal D) (rest : Type 0) → (rest → ⊥) → (rest ⊎ (p ≢ p)) → ⊥
  untainted p rest none tainted = ⊎_elim (λ before. none before) (λ differs. differs refl) tainted

  pub goes-agreed-first : Goes g f s h1 (agreeing g x 0) h2
  goes-agreed-first = (
    record { order = refl; due = (refl, (λ is. may-be-built h1 0 starts-first room-first refl refl refl refl, λ counts. refl)); fits = tt; readable = tt },
    (
      record {
        order = refl;
        due = (notarize-due (built 0 h1) 0 starts-first room-first refl refl (at-last 0) (at-last 0) refl refl refl (refl, tt, λ tainted. tainted) refl refl, refl);
        fits = record {
          verifies = record { own = refl; epoch = refl; verifies = lone.agrees 0 };
          follows = record {
            room = room-first;
            behind = at-last 1;
            first = no-vote [] (notarize (proposal_of 0)) tt;
            not_given_up = no-vote [] (nullify (round_of 1)) tt;
            parent_below = omega arith;
            covered = λ view above low floor. absurd (omega (arith, above, low));
          };
        };
        readable = can.kept 0 (omega arith) (artifact.Notarize (notarize_behind g x 0)) (0, omega arith, refl);
      },
      (
        record {
          order = refl;
          due = (
            refl,
            needed-one (λ k. next_kind f.same k (agreeing_votes 0 same-first) ≡ Some kind.Notarization) 1 (agree-due 0 same-first),
            needed-one (λ k. IsBatch g f.same k kind.Notarization (agreeing_votes 0 same-first) (made g x (agreement 0))) 1 (agree-made 0 same-first),
          );
          fits = record {
            verifies = record { epoch = refl; verifies = lone.agreed 0 };
            follows = record {
              from_one = at-last 1;
              room = room-first;
              parent_below = omega arith;
              first = not-taken (entries (record_of (agreed 0 h1))) (notarize (proposal_of 0)) (tt, tt);
            };
          };
          readable = can.kept 0 (omega arith) (artifact.Notarization (notarization_behind g x 0)) (1, omega arith, refl);
        },
        (record { order = refl; due = certify-due (notarized 0 h1) 0 starts-first room-first (at-last 0) refl refl refl; fits = tt; readable = tt }, refl),
      ),
    ),
  )

  pub goes-agreed-second : Goes g f s h3 (agreeing g x 1) h4
  goes-agreed-second = (
    record { order = refl; due = (refl, (λ is. may-be-built h3 1 starts-second room-second refl refl refl refl, λ counts. refl)); fits = tt; readable = tt },
    (
      record {
        order = refl;
        due = (notarize-due (built 1 h3) 1 starts-second room-second refl refl (at-last 1) (le-up-to 1) refl refl refl (refl, tt, λ tainted. tainted) refl refl, refl);
        fits = record {
          verifies = record { own = refl; epoch = refl; verifies = lone.agrees 1 };
          follows = record {
            room = room-second;
            behind = none-two;
            first = no-vote (entries (record_of h3)) (notarize (proposal_of 1)) (later 1 2 one-two, (tt, (tt, (λ alike. alike, (tt, tt)))));
            not_given_up = no-vote (entries (record_of h3)) (nullify (round_of 2)) (λ alike. alike, (tt, (tt, (λ alike. alike, (tt, tt)))));
            parent_below = omega arith;
            covered = λ view above low floor. absurd (omega (arith, above, low));
          };
        };
        readable = can.kept 1 (omega arith) (artifact.Notarize (notarize_behind g x 1)) (0, omega arith, refl);
      },
      (
        record {
          order = refl;
          due = (
            refl,
            needed-one (λ k. next_kind f.same k (agreeing_votes 1 same-second) ≡ Some kind.Notarization) 2 (agree-due 1 same-second),
            needed-one (λ k. IsBatch g f.same k kind.Notarization (agreeing_votes 1 same-second) (made g x (agreement 1))) 2 (agree-made 1 same-second),
          );
          fits = record {
            verifies = record { epoch = refl; verifies = lone.agreed 1 };
            follows = record {
              from_one = omega arith;
              room = room-second;
              parent_below = omega arith;
              first = not-taken (entries (record_of (agreed 1 h3))) (notarize (proposal_of 1)) (tt, (later 1 2 one-two, (tt, (tt, (λ alike. alike, (tt, tt))))));
            };
          };
          readable = can.kept 1 (omega arith) (artifact.Notarization (notarization_behind g x 1)) (1, omega arith, refl);
        },
        (record { order = refl; due = certify-due (notarized 1 h3) 1 starts-second room-second (at-last 1) refl refl refl; fits = tt; readable = tt }, refl),
      ),
    ),
  )

  -- the verdict is awaited, and none is there
  pub unjudged-first : IsJudged s h2 1 → ⊥
  unjudged-first j = no-verdict (entries (kept_of 1 h2)) 1 (tt, (tt, tt)) j.0 j.1 j.2 j.3

  pub awaited-first : IsAwaited s h2 1
  awaited-first = record { proposal = proposal_of 0; asked = (0, omega arith, refl); at = refl; above = omega arith; first = unjudged-first }

  pub unjudged-second : IsJudged s h4 2 → ⊥
  unjudged-second j = no-verdict (entries (kept_of 1 h4)) 2 (tt, (tt, (λ is. later 1 2 one-two (sym is), (tt, (tt, (tt, (tt, tt))))))) j.0 j.1 j.2 j.3

  pub awaited-second : IsAwaited s h4 2
  awaited-second = record { proposal = proposal_of 1; asked = (0, omega arith, refl); at = refl; above = omega arith; first = unjudged-second }

  pub goes-finalized-first : Goes g f s h2 (finalizing g x 0) h3
  goes-finalized-first = (
    record {
      order = refl;
      due = awaited-first;
      fits = record {
        verifies = tt;
        follows = record {
          notarized = (proposal_of 0, refl, (1, omega arith, refl));
          first = λ t verdict same here. no-verdict (entries (kept_of 1 h2)) 1 (tt, (tt, tt)) t verdict same here;
        };
      };
      readable = can.kept 0 (omega arith) (artifact.Certification (round_of 1) true) (2, omega arith, refl);
    },
    (
      record {
        order = refl;
        due = (finalize-due (judged_good 0 h2) 0 starts-first room-first (at-last 0) (omega arith) refl refl (refl, λ tainted. untainted (proposal_of 0) ⊥ (λ none. none) tainted) refl refl, refl);
        fits = record {
          verifies = record { own = refl; epoch = refl; verifies = lone.ends 0 };
          follows = record {
            above = omega arith;
            not_given_up = no-vote (entries (record_of (judged_good 0 h2))) (nullify (round_of 1)) (λ alike. alike, (tt, (tt, tt)));
            first = no-vote (entries (record_of (judged_good 0 h2))) (finalize (proposal_of 0)) (λ alike. alike, (tt, (tt, tt)));
            notarized = (1, omega arith, refl);
            certified = (round_of 1, refl, (2, omega arith, refl));
            no_other = for-one (entries (record_of (judged_good 0 h2))) (proposal_of 0) (tt, (λ is. refl, (tt, tt)));
            healed = λ r from low here. absurd (let start : 1 ≤ r.view = from in omega (arith, start, low));
          };
        };
        readable = can.kept 0 (omega arith) (artifact.Finalize (finalize_behind g x 0)) (3, omega arith, refl);
      },
      (
        record {
          order = refl;
          due = (
            refl,
            needed-one (λ k. next_kind f.same k (ending_votes 0 same-first) ≡ Some kind.Finalization) 1 (end-due 0 same-first),
            needed-one (λ k. IsBatch g f.same k kind.Finalization (ending_votes 0 same-first) (made g x (finality 0))) 1 (end-made 0 same-first),
          );
          fits = record {
            verifies = record { epoch = refl; verifies = lone.ended 0 };
            follows = record {
              from_one = at-last 1;
              room = room-first;
              parent_below = omega arith;
              first = not-taken (entries (record_of (ended 0 h2))) (finalize (proposal_of 0)) (tt, (λ alike. alike, (tt, (tt, tt))));
            };
          };
          readable = can.kept 0 (omega arith) (artifact.Finalization (finalization_behind g x 0)) (4, omega arith, refl);
        },
        (
          record { order = refl; due = (refl, refl, refl); fits = tt; readable = tt },
          (
            record {
              order = refl;
              due = asks-build (Leads 2 0 ∷ completed 0 h2) 1 starts-second room-second 1 refl (few 1 (omega arith)) refl refl refl refl refl;
              fits = tt;
              readable = tt;
            },
            refl,
          ),
        ),
      ),
    ),
  )

  pub goes-finalized-second : Goes g f s h4 (finalizing g x 1) h5
  goes-finalized-second = (
    record {
      order = refl;
      due = awaited-second;
      fits = record {
        verifies = tt;
        follows = record {
          notarized = (proposal_of 1, refl, (6, omega arith, refl));
          first = λ t verdict same here. no-verdict (entries (kept_of 1 h4)) 2 (tt, (tt, (λ is. later 1 2 one-two (sym is), (tt, (tt, (tt, (tt, tt))))))) t verdict same here;
        };
      };
      readable = can.kept 1 (omega arith) (artifact.Certification (round_of 2) true) (2, omega arith, refl);
    },
    (
      record {
        order = refl;
        due = (finalize-due (judged_good 1 h4) 1 starts-second room-second (at-last 1) (omega arith) refl refl (refl, λ tainted. untainted (proposal_of 1) ⊥ (λ none. none) tainted) refl refl, refl);
        fits = record {
          verifies = record { own = refl; epoch = refl; verifies = lone.ends 1 };
          follows = record {
            above = omega arith;
            not_given_up = no-vote (entries (record_of (judged_good 1 h4))) (nullify (round_of 2)) (λ alike. alike, (tt, (tt, (λ alike. alike, (tt, (λ alike. alike, (tt, (tt, tt))))))));
            first = no-vote (entries (record_of (judged_good 1 h4))) (finalize (proposal_of 1)) (λ alike. alike, (tt, (tt, (later 1 2 one-two, (tt, (λ alike. alike, (tt, (tt, tt))))))));
            notarized = (6, omega arith, refl);
            certified = (round_of 2, refl, (7, omega arith, refl));
            no_other = for-one (entries (record_of (judged_good 1 h4))) (proposal_of 1)
                (tt, (λ is. absurd (later 1 2 one-two (sym is)), (tt, (tt, (λ is. absurd (later 1 2 one-two (sym is)), (tt, (λ is. refl, (tt, tt))))))));
            healed = λ r from low here. absurd (let start : 2 ≤ r.view = from in omega (arith, start, low));
          };
        };
        readable = can.kept 1 (omega arith) (artifact.Finalize (finalize_behind g x 1)) (3, omega arith, refl);
      },
      (
        record {
          order = refl;
          due = (
            refl,
            needed-one (λ k. next_kind f.same k (ending_votes 1 same-second) ≡ Some kind.Finalization) 2 (end-due 1 same-second),
            needed-one (λ k. IsBatch g f.same k kind.Finalization (ending_votes 1 same-second) (made g x (finality 1))) 2 (end-made 1 same-second),
          );
          fits = record {
            verifies = record { epoch = refl; verifies = lone.ended 1 };
            follows = record {
              from_one = omega arith;
              room = room-second;
              parent_below = omega arith;
              first = not-taken (entries (record_of (ended 1 h4))) (finalize (proposal_of 1)) (tt, (λ alike. alike, (tt, (tt, (later 1 2 one-two, (tt, (λ alike. alike, (tt, (tt, tt)))))))));
            };
          };
          readable = can.kept 1 (omega arith) (artifact.Finalization (finalization_behind g x 1)) (4, omega arith, refl);
        },
        (
          record { order = refl; due = (refl, refl, refl); fits = tt; readable = tt },
          (
            record {
              order = refl;
              due = asks-build (Leads 3 0 ∷ completed 1 h4) 2 starts-third room-third 2 refl (few 2 (omega arith)) refl refl refl refl refl;
              fits = tt;
              readable = tt;
            },
            refl,
          ),
        ),
      ),
    ),
  )
