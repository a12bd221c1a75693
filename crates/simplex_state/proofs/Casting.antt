-- What a member signs, where it has a key.
use mathlib.Core.Bool.{true≢false}
use Rattle.std.proofs.Common.{◌≡◌, ℕ, List, Bool, true, false, refl, sym, ap, ◌∙◌, ◌<◌, ◌==◌, ⊎_elim, arith, if◌then◌else◌}
use Rattle.std.specs.Prelude.{◌↔◌, not, Option, Some, None, is_some, option_map, IsNone, IsSome, IfSome, IsTrue, MatchOption}
use Rattle.std.proofs.lemmas.Bool.{both_ways, cases_Bool, eq-eqb}
use Rattle.std.proofs.lemmas.Bool.Decides.{Decides-eqb}
use Rattle.std.proofs.lemmas.Option.{none-some, same_Some}
use Rattle.types_core.specs.declared.position.Round.{Round}
use Rattle.types_core.specs.declared.proposal.Proposal.{Proposal}
use Rattle.types_core.specs.declared.scheme.Scheme.{Ghosts}
use Rattle.types_core.specs.Positions.{HasRoom}
use Rattle.types_core.specs.Subject.{Statement}
use Rattle.messages_certificates.specs.declared.nullify.Nullify.{Nullify}
use Rattle.messages_certificates.specs.declared.proposal_vote.ProposalVote.{ProposalVote}
use Rattle.messages_certificates.specs.Nullify.{NullifyIsAttested}
use Rattle.messages_certificates.specs.ProposalVote.{IsAttested}
use Rattle.messages_certificates.specs.ProposalCertificate.{Notarization}
use Rattle.voter_history.specs.Past as past
use Rattle.voter_history.specs.History.{Setup, Point, current, seen}
use Rattle.voter_history.specs.Known.{known}
use Rattle.voter_rules.specs.Ancestry.{member}
use Rattle.voter_rules.specs.VotesDue.{FinalizeIsDue}
use Rattle.voter_rules.specs.GivingUp.{MayGiveUp}
use Rattle.simplex_state.proofs.Entering.{positive}
use Rattle.simplex_state.specs.Votes.{IsOwn, IsOwnNullify}

-- a member whose scheme holds no key for it has none
pub keyless : (r me : Option ℕ) (b : Bool) → is_some r ≡ not b → b ≡ true → r ≡ me → ¬ IsSome me
keyless r me b is none same some = true≢false (sym some ∙ sym (ap is_some same) ∙ is ∙ ap not none)

-- one that holds one signs
pub signs : {V : Type 0} (r : Option V) (own key : Option ℕ) (b : Bool) (A : Type 0) (B : V → Type 0) → IsNone r ↔ (own ≡ None) → own ≡ key → is_some key ≡ not b → b ≡ false → IfSome r B → MatchOption r A B
signs None own key b A B without same is some signed = absurd (true≢false (sym (is ∙ ap not some) ∙ sym (ap is_some same) ∙ ap is_some (without.0 refl)))
signs (Some v) own key b A B without same is some signed = signed

some_of : {X Y : Type 0} (f : X → Y) (o : Option X) → IsSome (option_map f o) → IsSome o
some_of f None some = some
some_of f (Some x) some = refl

-- a finalize that is due may be voted
pub may_finalize : {S D P G C : Type 0} (s : Setup S C) (h : List (Point S D P G C)) (view : ℕ) → FinalizeIsDue (member s) (known s h) view → past.MayFinalize (seen s h view)
may_finalize {S = S} {D = D} {P = P} {G = G} {C = C} s h view due = record {
  undecided = rw (due.not_given_up, due.first) refl;
  unequivocated = due.unequivocated;
  notarized = some_of (λ (c : Notarization S D P G C). c.proposal) (past.notarization (seen s h view)) due.notarized;
  certified = due.certified;
}

-- what the views answer to a nullify: whether it is a repetition, where no finalize was voted
repeats : (o : Option Bool) (finalized nullified again : Bool) → o ≡ (if finalized then None else Some nullified) → o ≡ Some again → (finalized ≡ false) × (again ≡ nullified)
repeats o true nullified again answer is = absurd (none-some again (sym answer ∙ is))
repeats o false nullified again answer is = (refl, sym (same_Some nullified again (sym answer ∙ is)))

declines : (o : Option Bool) (finalized nullified : Bool) → o ≡ (if finalized then None else Some nullified) → o ≡ None → finalized ≡ true
declines o true nullified answer is = refl
declines o false nullified answer is = absurd (none-some nullified (sym is ∙ answer))

-- whether a view is the current one, behind the start and with room
pub not_at_start : (view at : ℕ) (b : Bool) (Room : Type 0) → IsTrue b ↔ (view ≡ 0) → b ≡ true → IsTrue false ↔ ((view ≡ at) × (0 < view) × Room)
not_at_start view at b Room zero on = (λ never. absurd (cc never), λ is. let none = zero.0 on in absurd (omega (arith, none, is.1)))

pub not_elsewhere : (view now at : ℕ) (b : Bool) (Room : Type 0) → b ≡ not (view == now) → b ≡ true → now ≡ at → IsTrue false ↔ ((view ≡ at) × (0 < view) × Room)
not_elsewhere view now at b Room is on here = (λ never. absurd (cc never), λ there. absurd (true≢false (sym on ∙ is ∙ ap not (eq-eqb view now (there.0 ∙ sym here)))))

pub is_there : (view now at length own : ℕ) (a b r : Bool) → IsTrue a ↔ (view ≡ 0) → a ≡ false → b ≡ not (view == now) → b ≡ false → now ≡ at → IsTrue r ↔ HasRoom length view → length ≡ own
    → IsTrue r ↔ ((view ≡ at) × (0 < view) × HasRoom own view)
is_there view now at length own a b r zero some is off here room same = (λ yes. (same_view ∙ here, positive view a zero some, rw same at (room.0 yes)), λ may. room.1 (rw same may.2))
  where
    same_view : view ≡ now
    same_view = ⊎_elim (λ there. (Decides-eqb view now).0 there) (λ apart. absurd (true≢false (sym (is ∙ ap not apart) ∙ off))) (cases_Bool (view == now))

module _ {S D P G C : Type 0} (s : Setup S C) (h : List (Point S D P G C)) (view : ℕ) where
  -- a view is given up where the test says that it is the current one, and the views don't decline
  pub stays_up : (b : Bool) → IsTrue b ↔ ((view ≡ current s h) × (0 < view) × HasRoom s.length view) → b ≡ false → ¬ MayGiveUp s h view
  stays_up b test off may = both_ways b off (test.1 (may.current, may.some, may.room))

  pub is_decided : (o : Option Bool) → o ≡ (if past.has_finalized (seen s h view) then None else Some (past.has_nullified (seen s h view))) → o ≡ None → ¬ MayGiveUp s h view
  is_decided o answer is may = true≢false (sym (declines o (past.has_finalized (seen s h view)) (past.has_nullified (seen s h view)) answer is) ∙ may.not_finalized)

  pub gives_up : (b again : Bool) (o : Option Bool) → IsTrue b ↔ ((view ≡ current s h) × (0 < view) × HasRoom s.length view) → b ≡ true
      → o ≡ (if past.has_finalized (seen s h view) then None else Some (past.has_nullified (seen s h view))) → o ≡ Some again → MayGiveUp s h view × (again ≡ past.has_nullified (seen s h view))
  gives_up b again o test on answer is =
      let (open_, same) = repeats o (past.has_finalized (seen s h view)) (past.has_nullified (seen s h view)) again answer is in
      let (at, some, room) = test.0 on in
      (record { current = at; some = some; room = room; not_finalized = open_ }, same)

module _ {S D P G C : Type 0} (g : Ghosts S D P G C) (s : Setup S C) (x : S) (same : x ≡ s.scheme) (me : g.own s.scheme ≡ s.me) where
  own_me : g.own x ≡ s.me
  own_me = ap g.own same ∙ me

  -- what it signs of this proposal is its own
  pub casts : {K : Type 0} (states : Proposal D → Statement D) (r : Option (ProposalVote K S D P G C)) (p : Proposal D) (Due : Type 0) (Q : Proposal D → Type 0) → IfSome r (λ v. g.own x ≡ Some v.attestation.signer)
      → IfSome r (λ v. v.proposal ≡ p) → IfSome r (λ v. IsAttested states (g.attests x) v) → Due → Q p → IfSome r (λ v. Due × Q v.proposal × IsOwn g s states v)
  casts states None p Due Q own of_it attests due q = tt
  casts states (Some v) p Due Q own of_it attests due q = (due, rw of_it q, record { signer = sym own_me ∙ own; attests = rw same at attests })

  -- so is a vote to give a view up
  pub casts_nullify : (v : Nullify S D P G C) (r : Round) (epoch view : ℕ) → g.own x ≡ Some v.attestation.signer → v.round ≡ r → r.epoch ≡ epoch → epoch ≡ s.epoch → r.view ≡ view → NullifyIsAttested (g.attests x) v → IsOwnNullify g s view v
  casts_nullify v r epoch view own of_it at here of_view attests = record { round = of_it ∙ (λ i. record { epoch = (at ∙ here) i; view = of_view i }); signer = sym own_me ∙ own; attests = rw same at attests }

  -- without a key it signs nothing
  pub unsigned : g.own x ≡ None → ¬ IsSome s.me
  unsigned none some = true≢false (sym some ∙ ap is_some (sym own_me ∙ none))
