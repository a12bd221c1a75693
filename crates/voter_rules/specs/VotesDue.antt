-- Which votes are due.
use Rattle.std.specs.Prelude.{◌≡◌, ◌-◌, ◌<◌, ◌≤◌, ℕ, true, false, Some, IsSome}
use Rattle.types_core.specs.declared.proposal.Proposal.{Proposal}
use Rattle.types_core.specs.Positions.{HasRoom, term_start}
use Rattle.types_terms.specs.Windows.{AdmitsOutbound, Retains}
use Rattle.voter_history.specs.Held.{IsUnequivocated, IsVerified}
use Rattle.voter_history.specs.Known.{Known}
use Rattle.voter_rules.specs.Ancestry.{Member, held_at, explicit, InWindow, Optimistic, IsSteady, IsRequired}

module _ {D : Type 0} (m : Member) (k : Known D) where
  -- a notarize is due: the view is kept, lies behind the floor of the record, has room and may be spoken of; neither it nor a
  -- nullify was voted; the held proposal is verified; inside the issuance window the view before has an optimistic payload; what
  -- the proposal is bound to hasn't fallen
  pub record NotarizeIsDue (view : ℕ) : Type 0 where
    pub kept : Retains k.last_finalized m.retention view
    pub behind : k.floor < view
    pub room : HasRoom m.length view
    pub outbound : AdmitsOutbound m.length m.optimistic_views k.current view
    pub first : k.has_notarized view ≡ false
    pub not_given_up : k.has_nullified view ≡ false
    pub verified : IsVerified (k.offers view)
    pub supported : InWindow m k view → (payload : D) × Optimistic m k (view - 1) payload
    pub steady : IsSteady m k view

  -- a finalize is due: the view lies above the last finalized one, has room and may be spoken of; neither it nor a nullify was
  -- voted; the held proposal, which nothing contradicts, is notarized and judged good; no earlier view of the term above the last
  -- finalized one was given up here; the required parent is explicit
  pub record FinalizeIsDue (view : ℕ) : Type 0 where
    pub above : k.last_finalized < view
    pub room : HasRoom m.length view
    pub outbound : AdmitsOutbound m.length m.optimistic_views k.current view
    pub not_given_up : k.has_nullified view ≡ false
    pub first : k.has_finalized view ≡ false
    pub unequivocated : IsUnequivocated (k.offers view)
    pub notarized : IsSome (k.notarized view)
    pub certified : k.verdict view ≡ Some true
    pub healed : (u : ℕ) → term_start m.length view ≤ u → u < view → k.last_finalized < u → k.has_nullified u ≡ false
    pub supported : (p : Proposal D) (required : ℕ) → held_at m k view ≡ Some p → IsRequired m k view p.parent required
        → IsSome (explicit m k required)
