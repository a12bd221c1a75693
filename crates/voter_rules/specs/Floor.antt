-- Which view a member starts from, and what can be wrong with what it starts from.
use Rattle.std.specs.Prelude.{◌≢◌, ◌≡◌, ◌<◌, ◌≤◌, ℕ}
use Rattle.types_core.specs.Positions.{HasRoom}
use Rattle.types_core.specs.Subject.{Statement, finalize}
use Rattle.messages_certificates.specs.ProposalCertificate.{Finalization}
use Rattle.voter_rules.specs.declared.floor.Floor.{Floor}
use Rattle.voter_rules.specs.declared.floor.Floor.TheVariants as floor
use Rattle.voter_rules.specs.declared.floor.FloorFault.{FloorFault}
use Rattle.voter_rules.specs.declared.floor.FloorFault.TheVariants as fault

module _ {S D P G C : Type 0} where
  -- the view that a member starts from: 0, or the one that is finalized
  abbrev pub floor_view : Floor S D P G C → ℕ
  floor_view (floor.Genesis payload) = 0
  floor_view (floor.Finalized c) = c.proposal.round.view

-- the number of a fault, above those of a configuration
abbrev pub floor_fault_number : FloorFault → ℕ
floor_fault_number fault.WrongEpoch = 9
floor_fault_number fault.ViewZero = 10
floor_fault_number fault.NoRoom = 11
floor_fault_number fault.ParentNotBelow = 12
floor_fault_number fault.NotVerifying = 13

-- of the faults that apply it is the first: none with a lower number does
pub record IsFirstOf (Q : FloorFault → Type 0) (f : FloorFault) : Type 0 where
  pub applies : Q f
  pub none_before : (earlier : FloorFault) → floor_fault_number earlier < floor_fault_number f → Q earlier → ⊥

module _ {S D P G C : Type 0} (certifies : Statement D → C → Type 0) (length epoch : ℕ) where
  -- the fault applies to a finalization that a member of this epoch starts from, where terms have so many views
  abbrev pub AppliesToFinal : Finalization S D P G C → FloorFault → Type 0
  AppliesToFinal c fault.WrongEpoch = c.proposal.round.epoch ≢ epoch
  AppliesToFinal c fault.ViewZero = c.proposal.round.view ≡ 0
  AppliesToFinal c fault.NoRoom = ¬ HasRoom length c.proposal.round.view
  AppliesToFinal c fault.ParentNotBelow = c.proposal.round.view ≤ c.proposal.parent
  AppliesToFinal c fault.NotVerifying = ¬ certifies (finalize c.proposal) c.certificate

  -- it applies to what the member starts from: to the payload of view 0 none does
  abbrev pub AppliesToFloor : Floor S D P G C → FloorFault → Type 0
  AppliesToFloor (floor.Genesis payload) f = ⊥
  AppliesToFloor (floor.Finalized c) f = AppliesToFinal c f
