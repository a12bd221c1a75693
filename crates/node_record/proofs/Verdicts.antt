-- On which views a verdict was asked for.
use Rattle.std.proofs.Common.{◌≡◌, ◌↔◌, ◌<◌, ◌∙◌, inl, inr, ℕ, Bool, [], ◌∷◌, ◌++◌, Option, Some, None, refl, sym, subst}
use Rattle.std.specs.Prelude.{Contains, IsTrue, option_to_list}
use Rattle.std.proofs.lemmas.List.Elements.{Contains-append_right}
use Rattle.types_quorum.specs.Counting.{Contains-cases, Contains-head, Contains-nil, Contains-rest}
use Rattle.types_core.specs.declared.proposal.Proposal.{Proposal}
use Rattle.simplex_member.specs.Asked.{IsAwaited, IsJudged}
use Rattle.simplex_member.specs.Layers.{finalized_of}
use Rattle.simplex_member.specs.Point.{Point, Opened, Found, Began, Told, Heard, Came, Wanted, Built, Checked, Judged, Leads, Forwards, Constructs, Latches, Polls, AsksBuild, AsksVerify, AsksCertify, GivesBack, LeavesBehind, PutsOff, Asks, Resolves, Votes, Repeats, Rewrote, History}
use Rattle.simplex_member.specs.Setup.{Setup}
use Rattle.node_record.specs.Tables.{verdict_asked, verdicts_of}

module _ {S D P G C : Type 0} where
  -- what asks for a verdict on a view asks for it of a proposal
  asks_of_proposal : (p : Point S D P G C) (view : ℕ) → verdict_asked p ≡ Some view → (q : Proposal D) × (p ≡ AsksCertify q) × (q.round.view ≡ view)
  asks_of_proposal (Opened now) view e = absurd (cc e)
  asks_of_proposal (Found x taken) view e = absurd (cc e)
  asks_of_proposal Began view e = absurd (cc e)
  asks_of_proposal (Told now) view e = absurd (cc e)
  asks_of_proposal (Heard v) view e = absurd (cc e)
  asks_of_proposal (Came c) view e = absurd (cc e)
  asks_of_proposal (Wanted member asked) view e = absurd (cc e)
  asks_of_proposal (Built number handoff context payload took) view e = absurd (cc e)
  asks_of_proposal (Checked number at answer outcome) view e = absurd (cc e)
  asks_of_proposal (Judged r ok) view e = absurd (cc e)
  asks_of_proposal (Leads at index) view e = absurd (cc e)
  asks_of_proposal (Forwards at q) view e = absurd (cc e)
  asks_of_proposal (Constructs at kind batch) view e = absurd (cc e)
  asks_of_proposal (Latches at why) view e = absurd (cc e)
  asks_of_proposal Polls view e = absurd (cc e)
  asks_of_proposal (AsksBuild number handoff context) view e = absurd (cc e)
  asks_of_proposal (AsksVerify number context q) view e = absurd (cc e)
  asks_of_proposal (AsksCertify q) view e = (q, refl, (cc e))
  asks_of_proposal (GivesBack number at) view e = absurd (cc e)
  asks_of_proposal (LeavesBehind number) view e = absurd (cc e)
  asks_of_proposal (PutsOff at) view e = absurd (cc e)
  asks_of_proposal (Asks at ask to) view e = absurd (cc e)
  asks_of_proposal (Resolves at kind u) view e = absurd (cc e)
  asks_of_proposal (Votes v) view e = absurd (cc e)
  asks_of_proposal (Repeats v best) view e = absurd (cc e)
  asks_of_proposal (Rewrote c) view e = absurd (cc e)

  -- a verdict on the view was asked for, of a proposal
  abbrev WasAsked : History S D P G C → ℕ → Type 0
  WasAsked h view = (q : Proposal D) × Contains h (AsksCertify q) × (q.round.view ≡ view)

  asked_behind : (p : Point S D P G C) (h : History S D P G C) (view : ℕ) (o : Option ℕ) → verdict_asked p ≡ o → (Contains (verdicts_of h) view → WasAsked h view)
      → Contains (option_to_list o ++ verdicts_of h) view → WasAsked (p ∷ h) view
  asked_behind p h view None is before there = let b = before there in (b.0, Contains-rest p h (AsksCertify b.0) b.1, b.2)
  asked_behind p h view (Some v) is before there = elim (Contains-cases v (verdicts_of h) view there) [
    | inl here ↦
        let q = asks_of_proposal p v is in
        (q.0, subst (λ (x : Point S D P G C). Contains (x ∷ h) (AsksCertify q.0)) (sym q.1) (Contains-head (AsksCertify q.0) h), q.2 ∙ here)
    | inr later ↦ let b = before later in (b.0, Contains-rest p h (AsksCertify b.0) b.1, b.2)
  ]

  was_asked : (h : History S D P G C) (view : ℕ) → Contains (verdicts_of h) view → WasAsked h view
  was_asked [] view there = absurd (Contains-nil view there)
  was_asked (p ∷ h) view there = asked_behind p h view (verdict_asked p) refl (was_asked h view) there

  is_there : (h : History S D P G C) (q : Proposal D) → Contains h (AsksCertify q) → Contains (verdicts_of h) q.round.view
  is_there [] q there = absurd (Contains-nil (AsksCertify q) there)
  is_there (p ∷ h) q there = elim (Contains-cases p h (AsksCertify q) there) [
    | inl is ↦ subst (λ (x : Point S D P G C). Contains (option_to_list (verdict_asked x) ++ verdicts_of h) q.round.view) (sym is) (Contains-head q.round.view (verdicts_of h))
    | inr later ↦ Contains-append_right (option_to_list (verdict_asked p)) (verdicts_of h) q.round.view (is_there h q later)
  ]

  -- a request stands that was asked for, of a view above the last finalized one, where no verdict is recorded
  pub request_stands : (s : Setup S D C) (h : History S D P G C) (view : ℕ) (told : Bool) → IsTrue told ↔ ((finalized_of s h < view) × Contains (verdicts_of h) view) → ¬ IsJudged s h view
      → IsTrue told ↔ IsAwaited s h view
  request_stands s h view told is none = (
    λ so. let a = is.0 so in let q = was_asked h view a.1 in record { proposal = q.0; asked = q.1; at = q.2; above = a.0; first = none },
    λ stands. is.1 (stands.above, subst (λ (v : ℕ). Contains (verdicts_of h) v) stands.at (is_there h stands.proposal stands.asked)),
  )
