-- What came to a member of certificates and verdicts, and what follows from all of it. Lists have the newest first.
use Rattle.std.specs.Prelude.{ℕ, ◌==◌, ◌&&◌, ◌||◌, Bool, true, false, nat_lt, nat_le, max, List, [], ◌∷◌, Option, None, Some, if◌then◌else◌}
use Rattle.std.specs.Option.{option_or}
use Rattle.types_core.specs.Positions.{term_start}
use Rattle.messages_certificates.specs.declared.certificate.Certificate.{Certificate}
use Rattle.messages_certificates.specs.declared.certificate.Certificate.TheVariants as certificate

-- What can come: a certificate of a view, a verdict on a notarization of a view, each with the bytes of the certificate
-- where it can be served, and the end of the replay.
pub data Item : Type 0 where
  Nullified : ℕ → List ℕ → Item
  Notarized : ℕ → Item
  Finalized : ℕ → List ℕ → Item
  Judged : ℕ → List ℕ → Bool → Item
  Replayed : Item

-- what comes with a certificate, under a spelling of certificates
abbrev pub item_of : {S D P G C : Type 0} → (Certificate S D P G C → List ℕ) → Certificate S D P G C → Item
item_of spelling (certificate.Notarization c) = Notarized c.proposal.round.view
item_of spelling (certificate.Nullification c) = Nullified c.round.view (spelling (certificate.Nullification c))
item_of spelling (certificate.Finalization c) = Finalized c.proposal.round.view (spelling (certificate.Finalization c))

-- the view that an item finalizes, or 0
abbrev pub finalizes : Item → ℕ
finalizes (Nullified u bytes) = 0
finalizes (Notarized v) = 0
finalizes (Finalized v bytes) = v
finalizes (Judged v bytes verdict) = 0
finalizes Replayed = 0

-- the highest finalized view, or 0
abbrev pub finalized : List Item → ℕ
finalized [] = 0
finalized (x ∷ h) = max (finalizes x) (finalized h)

-- the view that an item finalizes or certifies, or 0
abbrev pub raises : Item → ℕ
raises (Nullified u bytes) = 0
raises (Notarized v) = 0
raises (Finalized v bytes) = v
raises (Judged v bytes true) = v
raises (Judged v bytes false) = 0
raises Replayed = 0

-- the highest view that was finalized or certified, or 0
abbrev pub floor : List Item → ℕ
floor [] = 0
floor (x ∷ h) = max (raises x) (floor h)

-- the view of which an item is a certificate, or 0
abbrev pub certificate_view : Item → ℕ
certificate_view (Nullified u bytes) = u
certificate_view (Notarized v) = v
certificate_view (Finalized v bytes) = v
certificate_view (Judged v bytes verdict) = 0
certificate_view Replayed = 0

-- the highest view of which a certificate came, or 0
abbrev pub current : List Item → ℕ
current [] = 0
current (x ∷ h) = max (certificate_view x) (current h)

-- the replay has ended
abbrev pub live : List Item → Bool
live [] = false
live (Nullified u bytes ∷ h) = live h
live (Notarized v ∷ h) = live h
live (Finalized v bytes ∷ h) = live h
live (Judged v bytes verdict ∷ h) = live h
live (Replayed ∷ h) = true

-- the nullification of a view that came first
abbrev pub nullification : List Item → ℕ → Option (List ℕ)
nullification [] v = None
nullification (Nullified u bytes ∷ h) v = option_or (nullification h v) (if u == v then Some bytes else None)
nullification (Notarized w ∷ h) v = nullification h v
nullification (Finalized w bytes ∷ h) v = nullification h v
nullification (Judged w bytes verdict ∷ h) v = nullification h v
nullification (Replayed ∷ h) v = nullification h v

-- the notarization of a view on which the last true verdict came
abbrev pub certified : List Item → ℕ → Option (List ℕ)
certified [] v = None
certified (Nullified w bytes ∷ h) v = certified h v
certified (Notarized w ∷ h) v = certified h v
certified (Finalized w bytes ∷ h) v = certified h v
certified (Judged w bytes true ∷ h) v = if w == v then Some bytes else certified h v
certified (Judged w bytes false ∷ h) v = certified h v
certified (Replayed ∷ h) v = certified h v

-- of the finalizations of the highest view the first; view 0 has none
abbrev pub finalization : List Item → Option (List ℕ)
finalization [] = None
finalization (Nullified w bytes ∷ h) = finalization h
finalization (Notarized w ∷ h) = finalization h
finalization (Finalized w bytes ∷ h) = if nat_lt (finalized h) w then Some bytes else finalization h
finalization (Judged w bytes verdict ∷ h) = finalization h
finalization (Replayed ∷ h) = finalization h

-- an item is a nullification that covers the view: of a view of its term that is not above it
abbrev pub covers : ℕ → ℕ → Item → Bool
covers views v (Nullified u bytes) = nat_le (term_start views v) u && nat_le u v
covers views v (Notarized w) = false
covers views v (Finalized w bytes) = false
covers views v (Judged w bytes verdict) = false
covers views v Replayed = false

-- a nullification that covers the view came, in terms of so many views
abbrev pub covered : ℕ → List Item → ℕ → Bool
covered views [] v = false
covered views (x ∷ h) v = covers views v x || covered views h v

-- a false verdict on the view came
abbrev pub has_failed : List Item → ℕ → Bool
has_failed [] v = false
has_failed (Nullified w bytes ∷ h) v = has_failed h v
has_failed (Notarized w ∷ h) v = has_failed h v
has_failed (Finalized w bytes ∷ h) v = has_failed h v
has_failed (Judged w bytes false ∷ h) v = (w == v) || has_failed h v
has_failed (Judged w bytes true ∷ h) v = has_failed h v
has_failed (Replayed ∷ h) v = has_failed h v

-- a notarization of the view or a verdict on it came
abbrev pub is_known : List Item → ℕ → Bool
is_known [] v = false
is_known (Nullified w bytes ∷ h) v = is_known h v
is_known (Notarized w ∷ h) v = (w == v) || is_known h v
is_known (Finalized w bytes ∷ h) v = is_known h v
is_known (Judged w bytes verdict ∷ h) v = (w == v) || is_known h v
is_known (Replayed ∷ h) v = is_known h v
