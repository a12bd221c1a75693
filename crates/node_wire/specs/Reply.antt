-- Replies as bytes.
use Rattle.std.specs.Prelude.{ℕ, ◌≤◌, Bool, List, [], ◌∷◌, ◌++◌, map, length, All, Option, Some, None, Result, ⊤}
use Rattle.types_codec.specs.declared.codec.CodecError.{CodecError}
use Rattle.types_codec.specs.Codec.{as_at, both_at, nothing_at, or_at, tagged_at}
use Rattle.types_codec.specs.Truth.{truth_spelling, truth_at}
use Rattle.types_codec.specs.Varint.{varint, varint_at, max_u32, max_u64}
use Rattle.types_core.specs.declared.context.Context.{Context}
use Rattle.types_core.specs.declared.proposal.Proposal.{Proposal}
use Rattle.types_core.specs.Context.{context_spelling, context_fits, context_at}
use Rattle.types_core.specs.Proposal.{proposal_spelling, proposal_fits, proposal_at}
use Rattle.simplex_messages.specs.declared.activity.Activity.{Activity}
use Rattle.simplex_messages.specs.Activity.{activity_spelling, activity_fits, activity_within, activity_at}
use Rattle.simplex_member.specs.declared.action.Action.{Action}
use Rattle.simplex_member.specs.declared.action.Action.TheVariants as action
use Rattle.simplex_member.specs.declared.action.Reply.{Reply}
use Rattle.simplex_member.specs.declared.event.Channel.{Channel}
use Rattle.simplex_member.specs.declared.refusal.Refusal.{Refusal}
use Rattle.simplex_member.specs.declared.refusal.Refusal.TheVariants as refusal
use Rattle.simplex_member.specs.Refusals.{refusal_number}
use Rattle.node_wire.specs.Parts.{alone_at, channel_byte, channel_at, counted_spelling, counted_at, optional_spelling, optional_fits, optional_at, listed_spelling, listed_at}
use Rattle.node_wire.specs.Plan.{PlanValue, plan_value, plan_spelling, plan_fits, plan_at}

-- the byte of a refusal: its number, or 0 for none
abbrev pub refusal_byte : Option Refusal → ℕ
refusal_byte None = 0
refusal_byte (Some r) = refusal_number r

-- what stands behind such a byte: nothing
unfoldable pub refusal_behind : ℕ → List ℕ → Result (Option Refusal × List ℕ) CodecError
refusal_behind =
    or_at 0 (λ _. None) alone_at (
    or_at 1 (λ _. Some refusal.UnknownSender) alone_at (
    or_at 2 (λ _. Some refusal.OwnName) alone_at (
    or_at 3 (λ _. Some refusal.NotDecoded) alone_at (
    or_at 4 (λ _. Some refusal.WrongEpoch) alone_at (
    or_at 5 (λ _. Some refusal.ViewZero) alone_at (
    or_at 6 (λ _. Some refusal.OutsideWindow) alone_at (
    or_at 7 (λ _. Some refusal.NoRoom) alone_at (
    or_at 8 (λ _. Some refusal.ParentNotBelow) alone_at (
    or_at 9 (λ _. Some refusal.NotItsSigner) alone_at (
    or_at 10 (λ _. Some refusal.Contradiction) alone_at (
    or_at 11 (λ _. Some refusal.Repeated) alone_at (
    or_at 12 (λ _. Some refusal.NotVerifying) alone_at (
    or_at 13 (λ _. Some refusal.UnknownAnswer) alone_at (
    or_at 14 (λ _. Some refusal.SecondVerdict) alone_at (
    or_at 15 (λ _. Some refusal.MomentFell) alone_at (
    or_at 16 (λ _. Some refusal.MomentTooLate) alone_at (λ _. nothing_at)))))))))))))))))

-- the refusal or none at the front
unfoldable pub refusal_at : List ℕ → Result (Option Refusal × List ℕ) CodecError
refusal_at = tagged_at refusal_behind

-- an action as a value, which says of bytes and members which they are, and not where they are kept
pub data ActionValue (S D P G C : Type 0) : Type 0 where
  Send : Option ℕ → Channel → List ℕ → ActionValue S D P G C
  Block : ℕ → ActionValue S D P G C
  Build : ℕ → Bool → Context D P → ActionValue S D P G C
  Verify : ℕ → Context D P → Proposal D → ActionValue S D P G C
  Certify : Proposal D → ActionValue S D P G C
  Forward : D → PlanValue → ActionValue S D P G C
  Finalized : Proposal D → ActionValue S D P G C
  Report : Activity S D P G C → ActionValue S D P G C
  Wake : ℕ → ActionValue S D P G C

-- a reply as a value: why the event was refused, if it was, and the actions
pub record ReplyValue (S D P G C : Type 0) : Type 0 where
  pub refused : Option Refusal
  pub actions : List (ActionValue S D P G C)

-- actions of the scheme S on payloads D, with keys P, signatures G and certificates C
module _ {S D P G C : Type 0} where
  -- the value that an action is
  abbrev pub action_value : Action S D P G C → ActionValue S D P G C
  action_value (action.Send to by bytes) = Send to by bytes.items
  action_value (action.Block member) = Block member
  action_value (action.Build number handoff context) = Build number handoff context
  action_value (action.Verify number context proposal) = Verify number context proposal
  action_value (action.Certify proposal) = Certify proposal
  action_value (action.Forward payload plan) = Forward payload (plan_value plan)
  action_value (action.Finalized proposal) = Finalized proposal
  action_value (action.Report activity) = Report activity
  action_value (action.Wake now) = Wake now

  -- the value that a reply is
  abbrev pub reply_value : Reply S D P G C → ReplyValue S D P G C
  reply_value reply = record { refused = reply.refused; actions = map action_value reply.actions.items }

  -- the byte that an action begins with
  unfoldable pub action_tag : ActionValue S D P G C → ℕ
  action_tag (Send to by bytes) = 0
  action_tag (Block member) = 1
  action_tag (Build number handoff context) = 2
  action_tag (Verify number context proposal) = 3
  action_tag (Certify proposal) = 4
  action_tag (Forward payload plan) = 5
  action_tag (Finalized proposal) = 6
  action_tag (Report activity) = 7
  action_tag (Wake now) = 8

  -- the bytes behind the tag, by the spellings of keys, payloads, signatures and certificates
  unfoldable pub action_body : (P → List ℕ) → (D → List ℕ) → (G → List ℕ) → (C → List ℕ) → ActionValue S D P G C → List ℕ
  action_body k p f g (Send to by bytes) = (optional_spelling varint to ++ (channel_byte by ∷ [])) ++ counted_spelling bytes
  action_body k p f g (Block member) = varint member
  action_body k p f g (Build number handoff context) = (varint number ++ truth_spelling handoff) ++ context_spelling k p context
  action_body k p f g (Verify number context proposal) = (varint number ++ context_spelling k p context) ++ proposal_spelling p proposal
  action_body k p f g (Certify proposal) = proposal_spelling p proposal
  action_body k p f g (Forward payload plan) = p payload ++ plan_spelling plan
  action_body k p f g (Finalized proposal) = proposal_spelling p proposal
  action_body k p f g (Report activity) = activity_spelling p f g activity
  action_body k p f g (Wake now) = varint now

  -- an action as bytes: the tag, then what it holds
  unfoldable pub action_spelling : (P → List ℕ) → (D → List ℕ) → (G → List ℕ) → (C → List ℕ) → ActionValue S D P G C → List ℕ
  action_spelling k p f g a = action_tag a ∷ action_body k p f g a

  -- the numbers fit their types, and what the action holds is what can be spelled
  unfoldable pub action_fits : (D → D → Bool) → (P → Type 0) → (D → Type 0) → (G → Type 0) → (C → Type 0) → ActionValue S D P G C → Type 0
  action_fits same K Q F H (Send to by bytes) = optional_fits (λ m. m ≤ max_u32) to × (length bytes ≤ max_u64)
  action_fits same K Q F H (Block member) = member ≤ max_u32
  action_fits same K Q F H (Build number handoff context) = (number ≤ max_u64) × context_fits K Q context
  action_fits same K Q F H (Verify number context proposal) = (number ≤ max_u64) × context_fits K Q context × proposal_fits Q proposal
  action_fits same K Q F H (Certify proposal) = proposal_fits Q proposal
  action_fits same K Q F H (Forward payload plan) = Q payload × plan_fits plan
  action_fits same K Q F H (Finalized proposal) = proposal_fits Q proposal
  action_fits same K Q F H (Report activity) = activity_fits same Q F H activity
  action_fits same K Q F H (Wake now) = now ≤ max_u64

  -- what a bound asks of an action: what it asks of the report
  unfoldable pub action_within : (C → Type 0) → ActionValue S D P G C → Type 0
  action_within W (Send to by bytes) = ⊤
  action_within W (Block member) = ⊤
  action_within W (Build number handoff context) = ⊤
  action_within W (Verify number context proposal) = ⊤
  action_within W (Certify proposal) = ⊤
  action_within W (Forward payload plan) = ⊤
  action_within W (Finalized proposal) = ⊤
  action_within W (Report activity) = activity_within W activity
  action_within W (Wake now) = ⊤

  -- the bytes of an action that is kept somewhere
  unfoldable pub spelled_action : (P → List ℕ) → (D → List ℕ) → (G → List ℕ) → (C → List ℕ) → Action S D P G C → List ℕ
  spelled_action k p f g a = action_spelling k p f g (action_value a)

  -- such an action can be spelled
  unfoldable pub fitting_action : (D → D → Bool) → (P → Type 0) → (D → Type 0) → (G → Type 0) → (C → Type 0) → Action S D P G C → Type 0
  fitting_action same K Q F H a = action_fits same K Q F H (action_value a)

  -- a reply as bytes: why the event was refused, how many actions, each of them
  unfoldable pub reply_spelling : (P → List ℕ) → (D → List ℕ) → (G → List ℕ) → (C → List ℕ) → ReplyValue S D P G C → List ℕ
  reply_spelling k p f g reply = (refusal_byte reply.refused ∷ []) ++ listed_spelling (action_spelling k p f g) reply.actions

  -- each action can be spelled
  unfoldable pub reply_fits : (D → D → Bool) → (P → Type 0) → (D → Type 0) → (G → Type 0) → (C → Type 0) → ReplyValue S D P G C → Type 0
  reply_fits same K Q F H reply = All (action_fits same K Q F H) reply.actions × (length reply.actions ≤ max_u64)

  -- an action of each kind, of what stands behind its tag
  abbrev pub send_of : (Option ℕ × Channel) × List ℕ → ActionValue S D P G C
  send_of x = Send x.0.0 x.0.1 x.1

  abbrev pub block_of : ℕ → ActionValue S D P G C
  block_of member = Block member

  abbrev pub build_of : (ℕ × Bool) × Context D P → ActionValue S D P G C
  build_of x = Build x.0.0 x.0.1 x.1

  abbrev pub verify_of : (ℕ × Context D P) × Proposal D → ActionValue S D P G C
  verify_of x = Verify x.0.0 x.0.1 x.1

  abbrev pub certify_of : Proposal D → ActionValue S D P G C
  certify_of proposal = Certify proposal

  abbrev pub hand_on_of : D × PlanValue → ActionValue S D P G C
  hand_on_of x = Forward x.0 x.1

  abbrev pub finalized_of : Proposal D → ActionValue S D P G C
  finalized_of proposal = Finalized proposal

  abbrev pub report_of : Activity S D P G C → ActionValue S D P G C
  report_of activity = Report activity

  abbrev pub wake_of : ℕ → ActionValue S D P G C
  wake_of now = Wake now

  module _ (same : D → D → Bool) (k : List ℕ → Result (P × List ℕ) CodecError) (q : List ℕ → Result (D × List ℕ) CodecError) (r : List ℕ → Result (G × List ℕ) CodecError) (s : List ℕ → Result (C × List ℕ) CodecError) where
    -- what stands behind a tag
    unfoldable pub action_behind : ℕ → List ℕ → Result (ActionValue S D P G C × List ℕ) CodecError
    action_behind =
        or_at 0 send_of (both_at (both_at (optional_at (varint_at max_u32)) channel_at) (counted_at max_u64)) (
        or_at 1 block_of (varint_at max_u32) (
        or_at 2 build_of (both_at (both_at (varint_at max_u64) truth_at) (context_at k q)) (
        or_at 3 verify_of (both_at (both_at (varint_at max_u64) (context_at k q)) (proposal_at q)) (
        or_at 4 certify_of (proposal_at q) (
        or_at 5 hand_on_of (both_at q plan_at) (
        or_at 6 finalized_of (proposal_at q) (
        or_at 7 report_of (activity_at same q r s) (
        or_at 8 wake_of (varint_at max_u64) (λ _. nothing_at)))))))))

    -- the action at the front: a tag, then what stands behind it
    unfoldable pub action_at : List ℕ → Result (ActionValue S D P G C × List ℕ) CodecError
    action_at = tagged_at action_behind

    -- the reply at the front
    unfoldable pub reply_at : List ℕ → Result (ReplyValue S D P G C × List ℕ) CodecError
    reply_at = as_at (λ x. record { refused = x.0; actions = x.1 }) (both_at refusal_at (listed_at action_at))
