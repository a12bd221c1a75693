-- Which proposal a view holds, by the list of what was taken of what was offered to it, the newest first. A proposal that is
-- verified already is taken where none or the same is held, every other one always.
use Rattle.std.specs.Prelude.{◌≡◌, ◌≢◌, ◌⊎◌, List, [], ◌∷◌, Option, Some, None, IsSome, ⊤}
use Rattle.std.specs.Option.{option_or}
use Rattle.types_core.specs.declared.proposal.Proposal.{Proposal}

-- what can happen to the proposal of a view
pub data Offer (D : Type 0) : Type 0 where
  -- one came by the leader's vote, by a certificate, or verified already: built here, or voted for by the record
  forwarded : Proposal D → Offer D
  certified : Proposal D → Offer D
  recorded : Proposal D → Offer D
  -- the held one was found good
  confirmed : Offer D
  -- a build was asked for, and given back; a verification was asked for
  building : Offer D
  released : Offer D
  verifying : Offer D

module _ {D : Type 0} where
  -- a proposal is there, and it is another one
  abbrev pub Differs : Option (Proposal D) → Proposal D → Type 0
  Differs None p = ⊥
  Differs (Some q) p = q ≢ p

  -- nothing is there, or just this proposal
  abbrev pub Agrees : Option (Proposal D) → Proposal D → Type 0
  Agrees None p = ⊤
  Agrees (Some q) p = q ≡ p

  -- the held proposal: that of the last certificate, or else the first that was taken
  abbrev pub held : List (Offer D) → Option (Proposal D)
  held [] = None
  held (forwarded p ∷ h) = option_or (held h) (Some p)
  held (certified p ∷ h) = Some p
  held (recorded p ∷ h) = Some p
  held (x ∷ h) = held h

  -- it is tainted: a vote or a certificate brought another proposal than the one that was held
  abbrev pub IsTainted : List (Offer D) → Type 0
  IsTainted [] = ⊥
  IsTainted (forwarded p ∷ h) = IsTainted h ⊎ Differs (held h) p
  IsTainted (certified p ∷ h) = IsTainted h ⊎ Differs (held h) p
  IsTainted (x ∷ h) = IsTainted h

  -- the proposal that was held then was built here, voted for by the record, or found good
  abbrev pub IsConfirmed : List (Offer D) → Type 0
  IsConfirmed [] = ⊥
  IsConfirmed (recorded p ∷ h) = ⊤
  IsConfirmed (confirmed ∷ h) = IsConfirmed h ⊎ IsSome (held h)
  IsConfirmed (x ∷ h) = IsConfirmed h

  -- a proposal is held, and none other was seen
  abbrev pub IsUnequivocated : List (Offer D) → Type 0
  IsUnequivocated h = IsSome (held h) × ¬ IsTainted h

  -- the held proposal is verified: confirmed, and none other was seen
  abbrev pub IsVerified : List (Offer D) → Type 0
  IsVerified h = IsSome (held h) × IsConfirmed h × ¬ IsTainted h

  -- the held proposal waits to be verified: none other was seen, and it is not confirmed
  abbrev pub IsUnverified : List (Offer D) → Type 0
  IsUnverified h = IsSome (held h) × (¬ IsTainted h) × (¬ IsConfirmed h)

  -- no build is to be asked for: one was, and was not given back, or a verified proposal or a replacing certificate came
  abbrev pub IsBuildAsked : List (Offer D) → Type 0
  IsBuildAsked [] = ⊥
  IsBuildAsked (building ∷ h) = ⊤
  IsBuildAsked (released ∷ h) = ⊥
  IsBuildAsked (recorded p ∷ h) = ⊤
  IsBuildAsked (certified p ∷ h) = IsBuildAsked h ⊎ Differs (held h) p
  IsBuildAsked (x ∷ h) = IsBuildAsked h

  -- a build is to be asked for: none was, and nothing is held
  abbrev pub BuildIsOpen : List (Offer D) → Type 0
  BuildIsOpen h = (¬ IsBuildAsked h) × (held h ≡ None)

  -- no verification is to be asked for: one was, or a verified proposal or a replacing certificate came
  abbrev pub IsVerifyAsked : List (Offer D) → Type 0
  IsVerifyAsked [] = ⊥
  IsVerifyAsked (verifying ∷ h) = ⊤
  IsVerifyAsked (recorded p ∷ h) = ⊤
  IsVerifyAsked (certified p ∷ h) = IsVerifyAsked h ⊎ Differs (held h) p
  IsVerifyAsked (x ∷ h) = IsVerifyAsked h
