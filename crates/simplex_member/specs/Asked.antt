-- What a node asked for, and what of it stands.
use Rattle.std.specs.Prelude.{◌≡◌, ◌⊎◌, ◌↔◌, ◌==◌, ◌&&◌, ◌+◌, ◌<◌, ◌-◌, ◌^◌, ℕ, Bool, true, false, List, [], ◌∷◌, length, AllPairs, Contains, Option, Some, None, IfSome, if◌then◌else◌}
use Rattle.types_core.specs.declared.context.Context.{Context}
use Rattle.types_core.specs.declared.position.Round.{Round}
use Rattle.types_core.specs.declared.proposal.Proposal.{Proposal}
use Rattle.simplex_messages.specs.VoteParts.{vote_signer}
use Rattle.simplex_resolver.specs.declared.ask.Ask.{Ask}
use Rattle.simplex_resolver.specs.declared.ask.Kind as repair
use Rattle.simplex_resolver.specs.declared.ask.Kind.TheVariants as repair_kind
use Rattle.simplex_resolver.specs.declared.ask.Until.TheVariants as until
use Rattle.simplex_resolver.specs.Answers.{is_settled}
use Rattle.simplex_resolver.specs.Outstanding.{IsOutstanding}
use Rattle.simplex_resolver.specs.RepairHistory.{Item}
use Rattle.simplex_record.specs.Record.{entries, HasJudged}
use Rattle.simplex_member.specs.declared.asked.Asked.{Asked}
use Rattle.voter_rules.specs.declared.config.Again.{Again}
use Rattle.voter_rules.specs.declared.config.Again.TheVariants as again
use Rattle.simplex_member.specs.Layers.{finalized_of, latest, repair_of}
use Rattle.simplex_member.specs.Packet.{Formats}
use Rattle.simplex_member.specs.Point.{Opened, Told, Heard, Built, Checked, AsksBuild, AsksVerify, AsksCertify, GivesBack, LeavesBehind, Asks, Repeats, History}
use Rattle.simplex_member.specs.Recorded.{kept_of}
use Rattle.simplex_member.specs.Setup.{Setup}

-- the ask for what lets a member leave a view behind, and that for what a proposal rests on
abbrev pub backfill : Ask
backfill = record { kind = repair_kind.Nullification; until = until.Floor }

abbrev pub ancestry : repair.Kind → Ask
ancestry kind = record { kind = kind; until = until.Finalization }

-- asks go again with a repeated nullify
abbrev pub goes_again : Again → Bool
goes_again again.Once = false
goes_again again.WithNullify = true

-- the views below this one that are to be repaired, ascending
pub record AreLower (views : ℕ) (r : List Item) (view : ℕ) (lower : List ℕ) : Type 0 where
  pub exact : (u : ℕ) → Contains lower u ↔ (IsOutstanding views r u × (u < view))
  pub ascend : AllPairs (λ (u w : ℕ). u < w) lower

module _ {S D P G C : Type 0} where
  -- how many numbers were used since the opening: the next one
  abbrev pub next_number : History S D P G C → ℕ
  next_number [] = 0
  next_number (AsksBuild number handoff context ∷ h) = next_number h + 1
  next_number (AsksVerify number context p ∷ h) = next_number h + 1
  next_number (p ∷ h) = next_number h

  -- a number is left
  abbrev pub HasNumber : History S D P G C → Type 0
  HasNumber h = next_number h < 2 ^ 64 - 1

  -- the build that stands under a number: neither answered, nor given back, nor left behind; for a handoff or not, in this context
  abbrev pub build_at : History S D P G C → ℕ → Option (Bool × Context D P)
  build_at [] number = None
  build_at (AsksBuild n handoff context ∷ h) number = if n == number then Some (handoff, context) else build_at h number
  build_at (Built n handoff context payload took ∷ h) number = if n == number then None else build_at h number
  build_at (GivesBack n view ∷ h) number = if n == number then None else build_at h number
  build_at (LeavesBehind n ∷ h) number = if n == number then None else build_at h number
  build_at (p ∷ h) number = build_at h number

  -- the view of the verification that stands under a number: not yet answered
  abbrev pub check_at : History S D P G C → ℕ → Option ℕ
  check_at [] number = None
  check_at (AsksVerify n context p ∷ h) number = if n == number then Some context.round.view else check_at h number
  check_at (Checked n view answer outcome ∷ h) number = if n == number then None else check_at h number
  check_at (p ∷ h) number = check_at h number

  -- when a member was heard last: at its last accepted vote, or at the opening
  abbrev pub last_heard : History S D P G C → ℕ → ℕ
  last_heard [] member = 0
  last_heard (Opened now ∷ h) member = now
  last_heard (Heard v ∷ h) member = if vote_signer v == member then latest h else last_heard h member
  last_heard (p ∷ h) member = last_heard h member

  -- a verdict on the view is recorded, and kept since the last rewrite
  abbrev pub IsJudged : Setup S D C → History S D P G C → ℕ → Type 0
  IsJudged s h view = (r : Round) × (ok : Bool) × (r.view ≡ view) × HasJudged (entries (kept_of s.voter.length h)) r ok

  -- the request for a verdict on the view stands: it was asked for, and the view lies above the last finalized one
  pub record IsAwaited (s : Setup S D C) (h : History S D P G C) (view : ℕ) : Type 0 where
    pub proposal : Proposal D
    pub asked : Contains h (AsksCertify proposal)
    pub at : proposal.round.view ≡ view
    pub above : finalized_of s h < view
    pub first : ¬ IsJudged s h view

  -- what other members were asked since the opening
  abbrev pub asks_of : History S D P G C → List Asked
  asks_of [] = []
  asks_of (Asks view ask to ∷ h) = record { view = view; ask = ask; to = to } ∷ asks_of h
  asks_of (p ∷ h) = asks_of h

  -- this was asked for already, of this member or of all; or nothing is left to be asked
  abbrev pub IsAnswered : Formats S D P G C → Setup S D C → History S D P G C → ℕ → Ask → Option ℕ → Type 0
  IsAnswered f s h view ask to = (is_settled s.voter.length (repair_of f h) view ask.kind ≡ true)
      ⊎ Contains (asks_of h) (record { view = view; ask = ask; to = to })

  -- ---- what goes again

  -- what other members were asked since the time was told last
  abbrev pub asks_now : History S D P G C → List Asked
  asks_now [] = []
  asks_now (Opened now ∷ h) = []
  asks_now (Told now ∷ h) = []
  asks_now (Asks view ask to ∷ h) = record { view = view; ask = ask; to = to } ∷ asks_now h
  asks_now (p ∷ h) = asks_now h

  -- a nullify was repeated since then
  abbrev pub was_repeated : History S D P G C → Bool
  was_repeated [] = false
  was_repeated (Opened now ∷ h) = false
  was_repeated (Told now ∷ h) = false
  was_repeated (Repeats v best ∷ h) = true
  was_repeated (p ∷ h) = was_repeated h

  -- the asks that went out for now: all since the opening; or those since the time was told last, where asks go again with a repeated
  -- nullify and one was repeated since then
  abbrev pub sent_of : Setup S D C → History S D P G C → List Asked
  sent_of s h = if goes_again s.repair.again && was_repeated h then asks_now h else asks_of h

  -- this went out for now, to this member or to all; or nothing is left to be asked
  abbrev pub IsSent : Formats S D P G C → Setup S D C → History S D P G C → ℕ → Ask → Option ℕ → Type 0
  IsSent f s h view ask to = (is_settled s.voter.length (repair_of f h) view ask.kind ≡ true)
      ⊎ Contains (sent_of s h) (record { view = view; ask = ask; to = to })

  -- this was asked since the opening, until a finalization: it stands until that or a certificate settles it
  abbrev pub IsPending : History S D P G C → ℕ → Ask → Option ℕ → Type 0
  IsPending h view ask to = (ask.until ≡ until.Finalization) × Contains (asks_of h) (record { view = view; ask = ask; to = to })

  -- ---- how much is asked for at once

  -- the view is among the first that are to be repaired, as many as are asked for at once
  abbrev pub IsInWindow : Formats S D P G C → Setup S D C → History S D P G C → ℕ → Type 0
  IsInWindow f s h view = IfSome s.repair.window (λ most. (lower : List ℕ) × AreLower s.voter.length (repair_of f h) view lower × (length lower < most))
