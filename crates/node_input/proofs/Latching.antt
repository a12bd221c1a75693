-- Whether an answer of the application counts.
use Rattle.std.proofs.Common.{◌≡◌, ◌≢◌, ◌⊎◌, ◌↔◌, ◌∷◌, ◌++◌, [], inl, inr, ⊎_elim, ℕ, Bool, true, false, List, Option, Some, None, refl, subst, sym, arith}
use Rattle.std.specs.Prelude.{IsSome, IsTrue, if◌then◌else◌}
use Rattle.std.proofs.lemmas.Bool.{cases_lt, false_from_ne_true, false≢true}
use Rattle.types_core.specs.declared.context.Context.{Context}
use Rattle.types_core.specs.declared.position.Round.{Round}
use Rattle.types_core.specs.declared.scheme.Scheme.{Ghosts}
use Rattle.types_terms.specs.declared.elector.Elector as elector
use Rattle.voter_history.specs.declared.timeout_reason.TimeoutReason.{TimeoutReason}
use Rattle.voter_history.specs.declared.timeout_reason.TimeoutReason.TheVariants as reason
use Rattle.voter_history.specs.Held.{Agrees, held}
use Rattle.voter_history.specs.Past as past
use Rattle.voter_history.specs.History as views
use Rattle.voter_history.specs.History.{built, current, latched, seen, unbound}
use Rattle.voter_history.specs.Leaders.{leader}
use Rattle.voter_rules.specs.Ancestry.{IsSteady}
use Rattle.voter_rules.specs.Building.{proposal_on}
use Rattle.voter_rules.specs.GivingUp.{IsFirstLatch, IsTracked, MayLatch}
use Rattle.voter_rules.specs.Requests.{IsCaptured}
use Rattle.simplex_state.specs.declared.state.State.{State}
use Rattle.simplex_state.specs.State as voting
use Rattle.simplex_member.specs.declared.action.Action.{Action}
use Rattle.simplex_member.specs.Allowed.{AnswerCounts, BuildCounts}
use Rattle.simplex_member.specs.Deeds.{Relays, built_deeds, own_way}
use Rattle.simplex_member.specs.Layers.{known_of, latest, takes_outcome, voter_of}
use Rattle.simplex_member.specs.Packet.{Formats}
use Rattle.simplex_member.specs.Point.{Counts, Falls, Passes, Built, History}
use Rattle.simplex_member.specs.Setup.{Setup, member_of}
use Rattle.node_input.specs.Answering.{TakesAnswer}
use Rattle.node_outbox.specs.Handing.{AddsDeeds, nothing_more}

-- something happened or someone is known, or neither
something_or_nothing : {X Y : Type 0} (xs : List X) (o : Option Y) → ((xs ≢ []) ⊎ IsSome o) ⊎ (((xs ≢ []) ⊎ IsSome o) → ⊥)
something_or_nothing (x ∷ xs) o = inl (inl (λ is. cc is))
something_or_nothing [] (Some y) = inl (inr refl)
something_or_nothing [] None = inr (λ either. ⊎_elim (λ some. some refl) (λ known. false≢true known) either)

module _ {S D P G C : Type 0} (v : views.Setup S C) (h : List (views.Point S D P G C)) (view : ℕ) where
  -- a reason that isn't silence counts or not
  counts_or_not : (why : TimeoutReason) → why ≢ reason.Inactivity → MayLatch v h view why ⊎ (¬ MayLatch v h view why)
  counts_or_not why other = ⊎_elim
      (λ behind. inr (λ may. absurd (omega (arith, behind, may.from))))
      (λ from. ⊎_elim
      (λ tracked. inl (record { from = from; tracked = tracked; heard = λ silent. absurd (other silent) }))
      (λ unknown. inr (λ may. unknown may.tracked))
      (something_or_nothing (seen v h view) (leader v h view)))
      (cases_lt view (current v h))

  module _ {L : Type 0} (g : Ghosts S D P G C) (e : elector.Ghosts L S D P G C) (voter : State S L D P G C) (now : ℕ) where
    -- it was latched where it counts, and else nothing happened
    pub latched_or_not : (why : TimeoutReason) (first : Bool) → why ≢ reason.Inactivity → (MayLatch v h view why → voting.Keeps g e v voter (latched now view why ∷ h)) → (first ≡ false → voting.Keeps g e v voter h)
        → (IsTrue first → IsFirstLatch v h view why)
        → (MayLatch v h view why × voting.Keeps g e v voter (latched now view why ∷ h)) ⊎ ((¬ MayLatch v h view why) × voting.Keeps g e v voter h)
    latched_or_not why first other latches stays is_first = ⊎_elim
        (λ may. inl (may, latches may))
        (λ never. inr (never, stays (false_from_ne_true first (λ is. never (is_first is).counts))))
        (counts_or_not why other)

module _ {S L D P G C : Type 0} (g : Ghosts S D P G C) (e : elector.Ghosts L S D P G C) (f : Formats S D P G C) (s : Setup S D C) (voter : State S L D P G C) (h : History S D P G C) where
  -- what becomes of a proposal's answer: where what it was bound to stands it counts or not, and else that is dropped
  pub answered : (now view : ℕ) (answer : Option Bool)
      → (IsSteady (member_of s) (known_of s h) view × ((AnswerCounts g f s h view answer × voting.Keeps g e s.voter voter (takes_outcome now view answer Counts ++ voter_of s h)) ⊎ ((¬ AnswerCounts g f s h view answer) × voting.Keeps g e s.voter voter (voter_of s h))))
      ⊎ ((¬ IsSteady (member_of s) (known_of s h) view) × voting.Keeps g e s.voter voter (unbound view ∷ voter_of s h)) → TakesAnswer g e f s voter h now view answer
  answered now view answer came = ⊎_elim
      (λ steady. ⊎_elim
      (λ counts. record { outcome = Counts; comes = (steady.0, counts.0); keeps = counts.1 })
      (λ passes. record { outcome = Passes; comes = (steady.0, passes.0); keeps = passes.1 })
      steady.1)
      (λ falls. record { outcome = Falls; comes = falls.0; keeps = falls.1 })
      came

  -- of an answer that is one
  pub answered_so : (now view : ℕ) (a b : Option Bool) → a ≡ b → TakesAnswer g e f s voter h now view b → TakesAnswer g e f s voter h now view a
  answered_so now view a b is taken = subst (λ (x : Option Bool). TakesAnswer g e f s voter h now view x) (sym is) taken

  -- where it wasn't found good
  pub failed : (now view : ℕ) (why : TimeoutReason) (first : Bool) → why ≢ reason.Inactivity
      → (IsSteady (member_of s) (known_of s h) view × (MayLatch s.voter (voter_of s h) view why → voting.Keeps g e s.voter voter (latched now view why ∷ voter_of s h)))
      ⊎ ((¬ IsSteady (member_of s) (known_of s h) view) × voting.Keeps g e s.voter voter (unbound view ∷ voter_of s h))
      → (first ≡ false → IsSteady (member_of s) (known_of s h) view → voting.Keeps g e s.voter voter (voter_of s h))
      → IsTrue first ↔ (IsSteady (member_of s) (known_of s h) view × IsFirstLatch s.voter (voter_of s h) view why)
      → (IsSteady (member_of s) (known_of s h) view × ((MayLatch s.voter (voter_of s h) view why × voting.Keeps g e s.voter voter (latched now view why ∷ voter_of s h)) ⊎ ((¬ MayLatch s.voter (voter_of s h) view why) × voting.Keeps g e s.voter voter (voter_of s h))))
      ⊎ ((¬ IsSteady (member_of s) (known_of s h) view) × voting.Keeps g e s.voter voter (unbound view ∷ voter_of s h))
  failed now view why first other keeps stays is_first = ⊎_elim
      (λ steady. inl (steady.0, latched_or_not s.voter (voter_of s h) view g e voter now why first other steady.1 (λ none. stays none steady.0) (λ is. (is_first.0 is).1)))
      (λ falls. inr falls)
      keeps

  -- a payload that was built is proposed or not
  pub proposed_or_not : (now number : ℕ) (handoff : Bool) (context : Context D P) (payload : D) (took : Bool) → now ≡ latest h
      → voting.Keeps g e s.voter voter (if took then built now (proposal_on context payload) context.parent.1 ∷ voter_of s h else voter_of s h)
      → voting.Keeps g e s.voter voter (voter_of s (Built number handoff context (Some payload) took ∷ h))
  proposed_or_not now number handoff context payload true at keeps = subst (λ (t : ℕ). voting.Keeps g e s.voter voter (built t (proposal_on context payload) context.parent.1 ∷ voter_of s h)) at keeps
  proposed_or_not now number handoff context payload false at keeps = keeps

  pub may_be_built : (context : Context D P) (payload : D) (took : Bool)
      → IsTrue took ↔ (IsTracked s.voter (voter_of s h) context.round.view × IsCaptured (member_of s) (known_of s h) context.round.view context.parent.0 context.parent.1
      × (past.has_nullified (seen s.voter (voter_of s h) context.round.view) ≡ false) × Agrees (held (past.offers (seen s.voter (voter_of s h) context.round.view))) (proposal_on context payload))
      → IsTrue took ↔ BuildCounts g f s h context (Some payload)
  may_be_built context payload took is = (
    λ yes. let may = is.0 yes in record { tracked = may.0; captured = may.1; not_given_up = may.2; agrees = may.3 },
    λ may. is.1 (may.tracked, may.captured, may.not_given_up, may.agrees),
  )

module _ {S D P G C : Type 0} (f : Formats S D P G C) where
  -- where an own payload is not proposed nothing is handed out
  pub declined_deeds : (actions : List (Action S D P G C)) (round : Round) (handoff : Bool) (payload : D) (took : Bool) → took ≡ false → AddsDeeds f actions actions (built_deeds round handoff (Some payload) took)
  declined_deeds actions round handoff payload true no_one = absurd (false≢true (sym no_one))
  declined_deeds actions round handoff payload false none = nothing_more f actions

  -- and else the payload is
  pub proposed_deeds : (before after : List (Action S D P G C)) (round : Round) (handoff : Bool) (payload : D) (took : Bool) → took ≡ true
      → AddsDeeds f before after (Relays payload (own_way handoff round) ∷ []) → AddsDeeds f before after (built_deeds round handoff (Some payload) took)
  proposed_deeds before after round handoff payload true some handed = handed
  proposed_deeds before after round handoff payload false none handed = absurd (false≢true none)
