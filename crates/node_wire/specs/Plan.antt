-- Plans as bytes: to whom a payload is handed on.
use Rattle.std.specs.Prelude.{ℕ, ◌≤◌, List, ◌∷◌, ◌++◌, length, All, Result}
use Rattle.types_codec.specs.declared.codec.CodecError.{CodecError}
use Rattle.types_codec.specs.Codec.{both_at, nothing_at, or_at, tagged_at}
use Rattle.types_codec.specs.Varint.{varint, varint_at, max_u32, max_u64}
use Rattle.types_core.specs.declared.position.Round.{Round}
use Rattle.types_core.specs.Round.{round_spelling, round_fits, round_at}
use Rattle.types_terms.specs.declared.plan.Plan.{Plan}
use Rattle.types_terms.specs.declared.plan.Plan.TheVariants as plan
use Rattle.node_wire.specs.Parts.{listed_spelling, listed_at}

-- a plan as a value, which says of recipients who they are, and not where they are kept
pub data PlanValue : Type 0 where
  Prepare : Round → PlanValue
  Propose : Round → PlanValue
  Forward : Round → List ℕ → PlanValue

-- the value that a plan is
abbrev pub plan_value : Plan ℕ → PlanValue
plan_value (plan.Prepare round) = Prepare round
plan_value (plan.Propose round) = Propose round
plan_value (plan.Forward round recipients) = Forward round recipients.items

-- the byte that a plan begins with
abbrev pub plan_tag : PlanValue → ℕ
plan_tag (Prepare round) = 0
plan_tag (Propose round) = 1
plan_tag (Forward round recipients) = 2

-- the bytes behind the tag
abbrev pub plan_body : PlanValue → List ℕ
plan_body (Prepare round) = round_spelling round
plan_body (Propose round) = round_spelling round
plan_body (Forward round recipients) = round_spelling round ++ listed_spelling varint recipients

-- a plan as bytes: the tag, then what it holds
unfoldable pub plan_spelling : PlanValue → List ℕ
plan_spelling x = plan_tag x ∷ plan_body x

-- the numbers fit their types
unfoldable pub plan_fits : PlanValue → Type 0
plan_fits (Prepare round) = round_fits round
plan_fits (Propose round) = round_fits round
plan_fits (Forward round recipients) = round_fits round × (All (λ m. m ≤ max_u32) recipients × (length recipients ≤ max_u64))

-- a plan of each kind, of what stands behind its tag
abbrev pub prepare_of : Round → PlanValue
prepare_of round = Prepare round

abbrev pub propose_of : Round → PlanValue
propose_of round = Propose round

abbrev pub forward_of : Round × List ℕ → PlanValue
forward_of x = Forward x.0 x.1

-- what stands behind a tag
unfoldable pub plan_behind : ℕ → List ℕ → Result (PlanValue × List ℕ) CodecError
plan_behind = or_at 0 prepare_of round_at (or_at 1 propose_of round_at (or_at 2 forward_of (both_at round_at (listed_at (varint_at max_u32))) (λ _. nothing_at)))

-- the plan at the front: a tag, then what stands behind it
unfoldable pub plan_at : List ℕ → Result (PlanValue × List ℕ) CodecError
plan_at = tagged_at plan_behind
