-- Which views a member has to repair, and what each item asks for and settles.
use Rattle.std.specs.Prelude.{◌≡◌, ◌⊎◌, ◌↔◌, ◌==◌, ◌&&◌, ◌||◌, ◌+◌, ◌≤◌, ◌<◌, ℕ, Bool, true, false, not, nat_lt, nat_le, List, [], ◌∷◌, ◌++◌, map, MatchBool, if◌then◌else◌}
use Rattle.types_core.specs.Positions.{term_start, term_end, next_term_start, IsTermStart}
use Rattle.simplex_resolver.specs.declared.effect.Effect.{Effect}
use Rattle.simplex_resolver.specs.declared.effect.Effect.TheVariants as effect
use Rattle.simplex_resolver.specs.declared.ask.Kind.TheVariants as kind
use Rattle.simplex_resolver.specs.declared.effect.FetchReason.TheVariants as reason
use Rattle.simplex_resolver.specs.RepairHistory.{Item, Nullified, Notarized, Finalized, Judged, Replayed, finalized, floor, current, live, covered, has_failed}

-- The views that a member has to repair: not covered, above the floor, and either below the highest certificate's view
-- and the first above the floor or a term's start, or with a false verdict. None before the replay has ended.
pub record IsOutstanding (views : ℕ) (h : List Item) (v : ℕ) : Type 0 where
  pub live_is : live h ≡ true
  pub above : floor h < v
  pub bare : covered views h v ≡ false
  pub due : ((v < current h) × ((v ≡ floor h + 1) ⊎ IsTermStart views v)) ⊎ (has_failed h v ≡ true)

-- a span, from its first view to its last, of views from one on and below another that nothing covers: before it all are covered, and
-- so is the one behind it
pub record IsBare (views : ℕ) (h : List Item) (from now : ℕ) (span : ℕ × ℕ) : Type 0 where
  pub start : from ≤ span.0
  pub some : span.0 ≤ span.1
  pub below : span.1 < now
  pub before : (v : ℕ) → from ≤ v → v < span.0 → covered views h v ≡ true
  pub within : (v : ℕ) → span.0 ≤ v → v ≤ span.1 → covered views h v ≡ false
  pub behind : span.1 + 1 < now → covered views h (span.1 + 1) ≡ true

-- all such spans, one behind the other
abbrev pub AreBare : ℕ → List Item → ℕ → ℕ → List (ℕ × ℕ) → Type 0
AreBare views h from now [] = (v : ℕ) → from ≤ v → v < now → covered views h v ≡ true
AreBare views h from now (span ∷ spans) = IsBare views h from now span × AreBare views h (span.1 + 1) now spans

-- views are fetched since a later one has a certificate: of a span its first, and each later one that starts a term
abbrev pub fetch : ℕ → ℕ × ℕ → Effect
fetch cause span = effect.Fetch span.0 span.1 cause reason.MissingNullification

-- the view is one of those that are fetched of a span
abbrev pub IsFetched : ℕ → ℕ → ℕ → ℕ → Type 0
IsFetched views first last v = (first ≤ v) × (v ≤ last) × ((v ≡ first) ⊎ IsTermStart views v)

-- a scan from a view asks for this
pub record Scans (views : ℕ) (h : List Item) (cause start : ℕ) (asked : List Effect) : Type 0 where
  pub spans : List (ℕ × ℕ)
  pub are : AreBare views h start (current h) spans
  pub asked_is : asked ≡ map (fetch cause) spans

-- the first term start from a view on
abbrev pub term_start_from : ℕ → ℕ → ℕ
term_start_from views v = if v == term_start views v then v else next_term_start views v

-- how far scans went: to the highest certificate's view, and nowhere before the replay has ended
abbrev pub scanned : List Item → ℕ
scanned h = if live h then current h else 0

-- Where a scan begins: right above the floor, where nothing was asked for there, since scans went no further, or since
-- the floor was raised into a term.
abbrev pub scan_start : ℕ → ℕ → ℕ → Bool → ℕ
scan_start views went level raised =
    if nat_le went (level + 1) || (raised && not (level + 1 == term_start views (level + 1)))
    then level + 1
    else term_start_from views went

-- where the scan behind an item begins
abbrev pub start_behind : ℕ → List Item → Item → ℕ
start_behind views h x = scan_start views (scanned h) (floor (x ∷ h)) (nat_lt (floor h) (floor (x ∷ h)))

-- what the scan behind an item asks for
abbrev pub ScansBehind : ℕ → List Item → Item → ℕ → List Effect → Type 0
ScansBehind views h x cause asked = MatchBool (live (x ∷ h)) (Scans views (x ∷ h) cause (start_behind views h x) asked) (asked ≡ [])

-- a view with a false verdict that no nullification covers
abbrev pub is_missing : ℕ → List Item → ℕ → Bool
is_missing views h v = has_failed h v && not (covered views h v)

-- all such views above this one, ascending: each is the first behind the one before
abbrev pub AreMissing : ℕ → List Item → ℕ → List ℕ → Type 0
AreMissing views h a [] = (v : ℕ) → a < v → is_missing views h v ≡ false
AreMissing views h a (x ∷ xs) = (a < x) × (is_missing views h x ≡ true) × ((v : ℕ) → a < v → v < x → is_missing views h v ≡ false) × AreMissing views h x xs

-- a view is fetched since its verdict was false
abbrev pub fetch_failed : ℕ → Effect
fetch_failed v = effect.Fetch v v v reason.CertificationFailed

-- asks for the notarization of a view are settled
abbrev pub settled_notarization : ℕ → Effect
settled_notarization v = effect.Settled kind.Notarization v v

-- asks for nullifications of these views are settled
abbrev pub settled_nullifications : ℕ → ℕ → Effect
settled_nullifications start end = effect.Settled kind.Nullification start end

-- an effect, where there is one
abbrev pub when : Bool → Effect → List Effect
when there e = if there then e ∷ [] else []

-- what an item asks for and settles, in order
abbrev pub Gives : ℕ → List Item → Item → List Effect → Type 0
Gives views h (Nullified u bytes) given = (asked : List Effect) × ScansBehind views h (Nullified u bytes) u asked
    × (given ≡ when (nat_lt (finalized h) (term_end views u)) (settled_nullifications u (term_end views u)) ++ asked)
Gives views h (Notarized v) given = (asked : List Effect) × ScansBehind views h (Notarized v) v asked
    × (given ≡ when (nat_lt (finalized h) v && not (has_failed h v)) (settled_notarization v) ++ asked)
Gives views h (Finalized v bytes) given = (asked : List Effect) × ScansBehind views h (Finalized v bytes) v asked
    × (given ≡ (effect.Finalized (finalized (Finalized v bytes ∷ h)) ∷ when (nat_lt (floor h) v) (effect.Raised v)) ++ asked)
Gives views h (Judged v bytes true) given = (asked : List Effect) × ScansBehind views h (Judged v bytes true) v asked
    × (given ≡ (settled_notarization v ∷ when (nat_lt (floor h) v) (effect.Raised v)) ++ asked)
Gives views h (Judged v bytes false) given = given ≡ settled_notarization v ∷ when (live h && (nat_lt (floor h) v && not (covered views h v))) (fetch_failed v)
Gives views h Replayed given = (asked : List Effect) × (missing : List ℕ) × ScansBehind views h Replayed (current h) asked × AreMissing views (Replayed ∷ h) (floor (Replayed ∷ h)) missing
    × (given ≡ asked ++ map fetch_failed missing)

-- an effect, applied to the outstanding views
abbrev pub Apply : ℕ → Effect → (ℕ → Type 0) → ℕ → Type 0
Apply views (effect.Fetch first last cause reason) P v = P v ⊎ IsFetched views first last v
Apply views (effect.Settled kind.Nullification start end) P v = P v × ((v < start) ⊎ (end < v))
Apply views (effect.Settled kind.Notarization start end) P v = P v
Apply views (effect.Finalized view) P v = P v × (view < v)
Apply views (effect.Raised view) P v = P v × (view < v)

-- effects, applied in order
abbrev pub ApplyAll : ℕ → List Effect → (ℕ → Type 0) → ℕ → Type 0
ApplyAll views [] P v = P v
ApplyAll views (e ∷ es) P v = ApplyAll views es (Apply views e P) v

-- the effects of each item, applied in order to the outstanding views, leave exactly those that are outstanding then
abbrev pub EffectsLeaveTheOutstanding : Type 0
EffectsLeaveTheOutstanding = (views : ℕ) (h : List Item) (x : Item) (given : List Effect) → 0 < views → Gives views h x given
    → (v : ℕ) → ApplyAll views given (IsOutstanding views h) v ↔ IsOutstanding views (x ∷ h) v
