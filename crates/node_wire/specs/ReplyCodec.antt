-- One spelling for each plan, action and reply.
use Rattle.std.specs.Prelude.{◌≡◌, ℕ, ◌≤◌, List, [], ◌∷◌, ◌++◌, length, All, Bool, Option, Some, None, Result, Ok, refl, ⊤}
use Rattle.std.proofs.Common.{arith}
use Rattle.types_codec.specs.declared.codec.CodecError.{CodecError}
use Rattle.types_codec.specs.Codec.{IsCodec, Readable, TakesBehind, both_at, as-IsCodec, both-IsCodec, nothing-taken, or-taken, said-IsCodec, tagged-IsCodec}
use Rattle.types_codec.specs.Truth.{truth_spelling, truth_at, truth-IsCodec}
use Rattle.types_codec.specs.Varint.{varint, varint_at, varint-IsCodec, max_u32, max_u64}
use Rattle.types_core.specs.Context.{context_spelling, context_fits, context_at, context-IsCodec}
use Rattle.types_core.specs.Proposal.{proposal_spelling, proposal_fits, proposal_at, proposal-IsCodec}
use Rattle.types_core.specs.Round.{round_spelling, round_fits, round_at, round-IsCodec}
use Rattle.simplex_messages.specs.Activity.{activity-IsCodec}
use Rattle.simplex_member.specs.declared.refusal.Refusal.{Refusal}
use Rattle.simplex_member.specs.declared.refusal.Refusal.TheVariants as refusal
use Rattle.node_wire.specs.Parts.{channel_byte, channel_at, counted_spelling, counted_at, optional_spelling, optional_fits, optional_at, listed_spelling, listed_at}
use Rattle.node_wire.specs.PartsCodec.{alone-IsCodec, channel-IsCodec, counted-IsCodec, optional-IsCodec, listed-IsCodec}
use Rattle.node_wire.specs.Plan.{PlanValue, plan_tag, plan_body, plan_spelling, plan_fits, plan_behind, plan_at, prepare_of, propose_of, forward_of}
use Rattle.node_wire.specs.Plan as planned
use Rattle.node_wire.specs.Reply.{ActionValue, Send, Block, Build, Verify, Certify, Forward, Finalized, Report, Wake, refusal_byte, refusal_behind, refusal_at, action_tag, action_body, action_spelling, action_fits, action_within, reply_spelling, reply_fits, send_of, block_of, build_of, verify_of, certify_of, hand_on_of, finalized_of, report_of, wake_of, action_behind, action_at, reply_at}

-- each refusal has one spelling
pub refusal-IsCodec : IsCodec (λ _. ⊤) (λ r. refusal_byte r ∷ []) refusal_at
unfolding refusal_behind refusal_at
refusal-IsCodec = tagged-IsCodec (record { takes = forms.taken; again = again })
  where
    forms : TakesBehind (λ _. ⊤) refusal_byte (λ _. []) refusal_behind
    forms =
        or-taken 0 (λ _. None) alone-IsCodec (λ x h. (refl, refl, tt)) (
        or-taken 1 (λ _. Some refusal.UnknownSender) alone-IsCodec (λ x h. (refl, refl, tt)) (
        or-taken 2 (λ _. Some refusal.OwnName) alone-IsCodec (λ x h. (refl, refl, tt)) (
        or-taken 3 (λ _. Some refusal.NotDecoded) alone-IsCodec (λ x h. (refl, refl, tt)) (
        or-taken 4 (λ _. Some refusal.WrongEpoch) alone-IsCodec (λ x h. (refl, refl, tt)) (
        or-taken 5 (λ _. Some refusal.ViewZero) alone-IsCodec (λ x h. (refl, refl, tt)) (
        or-taken 6 (λ _. Some refusal.OutsideWindow) alone-IsCodec (λ x h. (refl, refl, tt)) (
        or-taken 7 (λ _. Some refusal.NoRoom) alone-IsCodec (λ x h. (refl, refl, tt)) (
        or-taken 8 (λ _. Some refusal.ParentNotBelow) alone-IsCodec (λ x h. (refl, refl, tt)) (
        or-taken 9 (λ _. Some refusal.NotItsSigner) alone-IsCodec (λ x h. (refl, refl, tt)) (
        or-taken 10 (λ _. Some refusal.Contradiction) alone-IsCodec (λ x h. (refl, refl, tt)) (
        or-taken 11 (λ _. Some refusal.Repeated) alone-IsCodec (λ x h. (refl, refl, tt)) (
        or-taken 12 (λ _. Some refusal.NotVerifying) alone-IsCodec (λ x h. (refl, refl, tt)) (
        or-taken 13 (λ _. Some refusal.UnknownAnswer) alone-IsCodec (λ x h. (refl, refl, tt)) (
        or-taken 14 (λ _. Some refusal.SecondVerdict) alone-IsCodec (λ x h. (refl, refl, tt)) (
        or-taken 15 (λ _. Some refusal.MomentFell) alone-IsCodec (λ x h. (refl, refl, tt)) (
        or-taken 16 (λ _. Some refusal.MomentTooLate) alone-IsCodec (λ x h. (refl, refl, tt)) nothing-taken))))))))))))))))

    again : (x : Option Refusal) (rest : List ℕ) → ⊤ → refusal_behind (refusal_byte x) ([] ++ rest) ≡ Ok (x, rest)
    again None rest h = refl
    again (Some refusal.UnknownSender) rest h = refl
    again (Some refusal.OwnName) rest h = refl
    again (Some refusal.NotDecoded) rest h = refl
    again (Some refusal.WrongEpoch) rest h = refl
    again (Some refusal.ViewZero) rest h = refl
    again (Some refusal.OutsideWindow) rest h = refl
    again (Some refusal.NoRoom) rest h = refl
    again (Some refusal.ParentNotBelow) rest h = refl
    again (Some refusal.NotItsSigner) rest h = refl
    again (Some refusal.Contradiction) rest h = refl
    again (Some refusal.Repeated) rest h = refl
    again (Some refusal.NotVerifying) rest h = refl
    again (Some refusal.UnknownAnswer) rest h = refl
    again (Some refusal.SecondVerdict) rest h = refl
    again (Some refusal.MomentFell) rest h = refl
    again (Some refusal.MomentTooLate) rest h = refl

-- each plan has one spelling
pub plan-IsCodec : IsCodec plan_fits plan_spelling plan_at
unfolding plan_fits plan_spelling plan_behind plan_at
plan-IsCodec = tagged-IsCodec (record { takes = forms.taken; again = again })
  where
    named : IsCodec (λ x. round_fits x.0 × (All (λ m. m ≤ max_u32) x.1 × (length x.1 ≤ max_u64))) (λ x. round_spelling x.0 ++ listed_spelling varint x.1) (both_at round_at (listed_at (varint_at max_u32)))
    named = both-IsCodec round-IsCodec (listed-IsCodec (varint-IsCodec max_u32))

    forms : TakesBehind plan_fits plan_tag plan_body plan_behind
    forms = or-taken 0 prepare_of round-IsCodec (λ x h. (refl, refl, h)) (or-taken 1 propose_of round-IsCodec (λ x h. (refl, refl, h)) (or-taken 2 forward_of named (λ x h. (refl, refl, h)) nothing-taken))

    again : (x : PlanValue) (rest : List ℕ) → plan_fits x → plan_behind (plan_tag x) (plan_body x ++ rest) ≡ Ok (x, rest)
    again (planned.Prepare round) rest fits = rw (round-IsCodec.again round rest fits) refl
    again (planned.Propose round) rest fits = rw (round-IsCodec.again round rest fits) refl
    again (planned.Forward round recipients) rest fits = rw (named.again (round, recipients) rest fits) refl

module _ {S D P G C : Type 0} {K : P → Type 0} {kp : P → List ℕ} {k : List ℕ → Result (P × List ℕ) CodecError} {Q : D → Type 0} {p : D → List ℕ} {q : List ℕ → Result (D × List ℕ) CodecError}
    {F : G → Type 0} {f : G → List ℕ} {r : List ℕ → Result (G × List ℕ) CodecError} {H W : C → Type 0} {g : C → List ℕ} {s : List ℕ → Result (C × List ℕ) CodecError} where
  -- an action is read exactly where its bytes stand
  pub action-IsCodec : (same : D → D → Bool) → IsCodec K kp k → IsCodec Q p q → IsCodec F f r → IsCodec (Readable H W) g s
      → IsCodec (Readable (action_fits {S = S} same K Q F H) (action_within W)) (action_spelling kp p f g) (action_at same k q r s)
  unfolding action_tag action_body action_spelling action_fits action_within action_behind action_at
  action-IsCodec same ck cp cf cg = tagged-IsCodec (record { takes = forms.taken; again = again })
    where
      Fits : ActionValue S D P G C → Type 0
      Fits = Readable (action_fits same K Q F H) (action_within W)

      context : IsCodec (context_fits K Q) (context_spelling kp p) (context_at k q)
      context = context-IsCodec ck cp

      proposal : IsCodec (proposal_fits Q) (proposal_spelling p) (proposal_at q)
      proposal = proposal-IsCodec cp

      send : IsCodec (λ x. (optional_fits (λ m. m ≤ max_u32) x.0.0 × ⊤) × (length x.1 ≤ max_u64)) (λ x. (optional_spelling varint x.0.0 ++ (channel_byte x.0.1 ∷ [])) ++ counted_spelling x.1) (both_at (both_at (optional_at (varint_at max_u32)) channel_at) (counted_at max_u64))
      send = both-IsCodec (both-IsCodec (optional-IsCodec (varint-IsCodec max_u32)) channel-IsCodec) (counted-IsCodec max_u64 (omega arith))

      build : IsCodec (λ x. ((x.0.0 ≤ max_u64) × ⊤) × context_fits K Q x.1) (λ x. (varint x.0.0 ++ truth_spelling x.0.1) ++ context_spelling kp p x.1) (both_at (both_at (varint_at max_u64) truth_at) (context_at k q))
      build = both-IsCodec (both-IsCodec (varint-IsCodec max_u64) truth-IsCodec) context

      verify : IsCodec (λ x. ((x.0.0 ≤ max_u64) × context_fits K Q x.0.1) × proposal_fits Q x.1) (λ x. (varint x.0.0 ++ context_spelling kp p x.0.1) ++ proposal_spelling p x.1) (both_at (both_at (varint_at max_u64) (context_at k q)) (proposal_at q))
      verify = both-IsCodec (both-IsCodec (varint-IsCodec max_u64) context) proposal

      handed : IsCodec (λ x. Q x.0 × plan_fits x.1) (λ x. p x.0 ++ plan_spelling x.1) (both_at q plan_at)
      handed = both-IsCodec cp plan-IsCodec

      forms : TakesBehind Fits action_tag (action_body kp p f g) (action_behind same k q r s)
      forms =
          or-taken 0 send_of send (λ x h. (refl, refl, ((h.0.0, h.1), tt))) (
          or-taken 1 block_of (varint-IsCodec max_u32) (λ x h. (refl, refl, (h, tt))) (
          or-taken 2 build_of build (λ x h. (refl, refl, ((h.0.0, h.1), tt))) (
          or-taken 3 verify_of verify (λ x h. (refl, refl, ((h.0.0, h.0.1, h.1), tt))) (
          or-taken 4 certify_of proposal (λ x h. (refl, refl, (h, tt))) (
          or-taken 5 hand_on_of handed (λ x h. (refl, refl, (h, tt))) (
          or-taken 6 finalized_of proposal (λ x h. (refl, refl, (h, tt))) (
          or-taken 7 report_of (activity-IsCodec same cp cf cg) (λ x h. (refl, refl, h)) (
          or-taken 8 wake_of (varint-IsCodec max_u64) (λ x h. (refl, refl, (h, tt))) nothing-taken))))))))

      again : (x : ActionValue S D P G C) (rest : List ℕ) → Fits x → action_behind same k q r s (action_tag x) (action_body kp p f g x ++ rest) ≡ Ok (x, rest)
      again (Send to by bytes) rest fits = rw (send.again ((to, by), bytes) rest ((fits.0.0, tt), fits.0.1)) refl
      again (Block member) rest fits = rw ((varint-IsCodec max_u32).again member rest fits.0) refl
      again (Build number handoff around) rest fits = rw (build.again ((number, handoff), around) rest ((fits.0.0, tt), fits.0.1)) refl
      again (Verify number around x) rest fits = rw (verify.again ((number, around), x) rest ((fits.0.0, fits.0.1), fits.0.2)) refl
      again (Certify x) rest fits = rw (proposal.again x rest fits.0) refl
      again (Forward payload plan) rest fits = rw (handed.again (payload, plan) rest fits.0) refl
      again (Finalized x) rest fits = rw (proposal.again x rest fits.0) refl
      again (Report activity) rest fits = rw ((activity-IsCodec same cp cf cg).again activity rest fits) refl
      again (Wake now) rest fits = rw ((varint-IsCodec max_u64).again now rest fits.0) refl

  -- a reply is read exactly where its bytes stand
  pub reply-IsCodec : (same : D → D → Bool) → IsCodec K kp k → IsCodec Q p q → IsCodec F f r → IsCodec (Readable H W) g s
      → IsCodec (Readable (reply_fits {S = S} same K Q F H) (λ reply. All (action_within W) reply.actions)) (reply_spelling kp p f g) (reply_at same k q r s)
  unfolding reply_spelling reply_fits reply_at
  reply-IsCodec same ck cp cf cg =
      said-IsCodec (as-IsCodec (λ x. record { refused = x.0; actions = x.1 }) (λ reply. (reply.refused, reply.actions)) (λ x. refl) (λ y. refl) (both-IsCodec refusal-IsCodec (listed-IsCodec (action-IsCodec same ck cp cf cg))))
      (λ x h. (((λ i d lt. (h.1.0 i d lt).0), h.1.1), (λ i d lt. (h.1.0 i d lt).1)))
      (λ x h. (tt, ((λ i d lt. (h.0.0 i d lt, h.1 i d lt)), h.0.1)))
