-- What becomes of a build that stands.
use Rattle.std.specs.Prelude.{◌⊎◌, ◌<◌, ◌∷◌, Bool, true, false}
use Rattle.types_core.specs.declared.context.Context.{Context}
use Rattle.types_core.specs.declared.scheme.Scheme.{Ghosts}
use Rattle.types_terms.specs.declared.elector.Elector as elector
use Rattle.voter_history.specs.History.{build_released}
use Rattle.simplex_state.specs.declared.state.State.{State}
use Rattle.simplex_state.specs.State as voting
use Rattle.simplex_member.specs.Allowed.{IsGivenBack}
use Rattle.simplex_member.specs.Layers.{current_of, voter_of}
use Rattle.simplex_member.specs.Packet.{Formats}
use Rattle.simplex_member.specs.Point.{History}
use Rattle.simplex_member.specs.Setup.{Setup}

module _ {S L D P G C : Type 0} (g : Ghosts S D P G C) (e : elector.Ghosts L S D P G C) (f : Formats S D P G C) (s : Setup S D C) where
  -- a build that stands is left behind or given back, which the voter was told; or it is kept, since neither is so
  abbrev pub IsKeptOrFalls : State S L D P G C → History S D P G C → Bool → Context D P → Bool → Type 0
  IsKeptOrFalls new h handoff context true =
      ((context.round.view < current_of s h) × voting.Keeps g e s.voter new (voter_of s h))
      ⊎ (IsGivenBack g f s h handoff context × voting.Keeps g e s.voter new (build_released context.round.view ∷ voter_of s h))
  IsKeptOrFalls new h handoff context false = (¬ (context.round.view < current_of s h)) × (¬ IsGivenBack g f s h handoff context) × voting.Keeps g e s.voter new (voter_of s h)
