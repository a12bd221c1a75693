-- Leaders that are silent.
use Rattle.std.specs.Prelude.{◌≡◌, ◌↔◌, ◌≤◌, ◌<◌, ◌^◌, ℕ, true, Option, MatchOption}
use Rattle.types_core.specs.declared.scheme.Scheme.{Ghosts}
use Rattle.voter_history.specs.declared.timeout_reason.TimeoutReason.TheVariants as reason
use Rattle.voter_rules.specs.GivingUp.{MayLatch, has_budget}
use Rattle.simplex_member.specs.Allowed.{IsSilent}
use Rattle.simplex_member.specs.Layers.{current_of, voter_of}
use Rattle.simplex_member.specs.Packet.{Formats}
use Rattle.simplex_member.specs.Point.{History}
use Rattle.simplex_member.specs.Setup.{Setup}
use Rattle.node_requests.specs.declared.silence.Silence.{Silence}

-- how long another leader may be silent, by a setup
pub record IsSilenceOf {S D C : Type 0} (s : Setup S D C) (silence : Silence) : Type 0 where
  pub me_is : silence.me ≡ s.me
  pub time_is : silence.time ≡ s.silence

-- from this moment on, of 64 bits, the leader of the current view counts as silent; or it never does
abbrev pub IsSilentFrom : {S D P G C : Type 0} → Ghosts S D P G C → Formats S D P G C → Setup S D C → History S D P G C → Option ℕ → Type 0
IsSilentFrom g f s h from = (now : ℕ) → now < 2 ^ 64 → IsSilent g f s h now ↔ MatchOption from ⊥ (λ moment. moment ≤ now)

-- at this moment it would count that the leader of the current view is silent
abbrev pub SilenceCounts : {S D P G C : Type 0} → Ghosts S D P G C → Formats S D P G C → Setup S D C → History S D P G C → ℕ → Type 0
SilenceCounts g f s h now = IsSilent g f s h now × (has_budget s.voter (voter_of s h) ≡ true) × MayLatch s.voter (voter_of s h) (current_of s h) reason.Inactivity
