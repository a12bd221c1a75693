-- What holds of each point of a member's life: of what it found, of what came in, and of all that takes nothing in.
use Rattle.std.proofs.Common.{◌≡◌, ⊎_elim, ℕ, suc, Bool, true, false, List, [], ◌∷◌, ◌++◌, Option, Some, None, refl, sym, subst, arith}
use Rattle.std.specs.Prelude.{Contains, ⊤}
use Rattle.types_quorum.specs.Counting.{Contains-cases, Contains-head, Contains-rest}
use Rattle.types_core.specs.declared.scheme.Scheme.{Ghosts}
use Rattle.messages_certificates.specs.declared.artifact.Artifact.{Artifact}
use Rattle.simplex_record.specs.World.{World}
use Rattle.simplex_member.specs.declared.event.Event.{Event}
use Rattle.simplex_member.specs.declared.event.Event.TheVariants as event
use Rattle.simplex_member.specs.Lives.{CameIn, Members, WasHanded}
use Rattle.simplex_member.specs.Member.{AreFound, AreOpening, AreStep, Goes, IsPacketPoint, IsPointOf}
use Rattle.simplex_member.specs.Packet.{Formats, Packet}
use Rattle.simplex_member.specs.Point.{AreActs, Point, Opened, Found, Began, Told, Heard, Came, Built, Checked, Judged, History, is_act}
use Rattle.simplex_member.specs.Setup.{Setup}
use Rattle.simplex_member.proofs.Telling.{apart}

module _ {S D P G C : Type 0} where
  -- a point takes something in: what was found, a vote, a certificate
  abbrev pub takes_in : Point S D P G C → Bool
  takes_in (Found x taken) = true
  takes_in (Heard v) = true
  takes_in (Came c) = true
  takes_in p = false

  act-takes-none : (p : Point S D P G C) → is_act p ≡ true → takes_in p ≡ false
  act-takes-none (Found x taken) act = absurd (apart act)
  act-takes-none (Heard v) act = absurd (apart act)
  act-takes-none (Came c) act = absurd (apart act)
  act-takes-none p act = refl

  module _ (Q : Point S D P G C → Type 0) where
    -- it holds of each
    abbrev pub Each : List (Point S D P G C) → Type 0
    Each [] = ⊤
    Each (p ∷ points) = Q p × Each points

    pub each-append : (xs ys : List (Point S D P G C)) → Each xs → Each ys → Each (xs ++ ys)
    each-append [] ys a b = b
    each-append (p ∷ xs) ys a b = (a.0, each-append xs ys a.1 b)

    pub each-there : (h : List (Point S D P G C)) → Each h → (p : Point S D P G C) → Contains h p → Q p
    each-there [] all p here = absurd (omega (arith, here.1))
    each-there (q ∷ h) all p here = ⊎_elim
        (λ is. subst Q is all.0)
        (λ later. each-there h all.1 p later)
        (Contains-cases q h p here)

    pub goes-each : (g : Ghosts S D P G C) (f : Formats S D P G C) (s : Setup S D C) (h : History S D P G C) (points : List (Point S D P G C)) (end : History S D P G C) → Goes g f s h points end → Each points → Each h → Each end
    goes-each g f s h [] end goes fed before = subst (λ (e : History S D P G C). Each e) (sym goes) before
    goes-each g f s h (p ∷ points) end goes fed before = goes-each g f s (p ∷ h) points end goes.1 fed.1 (fed.0, before)

module _ {S D P G C : Type 0} (g : Ghosts S D P G C) (f : Formats S D P G C) (s : Setup S D C) (Q : Point S D P G C → Type 0) (quiet : (p : Point S D P G C) → takes_in p ≡ false → Q p) where
  pub acts-each : (points : List (Point S D P G C)) → AreActs points → Each Q points
  acts-each [] acts = tt
  acts-each (p ∷ points) acts = (quiet p (act-takes-none p (acts 0 p (omega arith))), acts-each points (λ k d l. acts (suc k) d (omega (arith, l))))

  -- an opening, where it holds of all that was found
  found-each : (xs : List (Artifact S D P G C)) (points : List (Point S D P G C)) → AreFound xs points → ((x : Artifact S D P G C) (taken : Bool) → Contains xs x → Q (Found x taken)) → Each Q points
  found-each [] [] are all = tt
  found-each (x ∷ xs) (Found y taken ∷ points) are all =
      (subst (λ (z : Artifact S D P G C). Q (Found z taken)) (sym are.0) (all x taken (Contains-head x xs)), found-each xs points are.1 (λ z t there. all z t (Contains-rest x xs z there)))
  found-each [] (p ∷ points) never all = absurd never
  found-each (x ∷ xs) [] never all = absurd never
  found-each (x ∷ xs) (p ∷ points) never all = absurd never

  pub opening-each : (now : ℕ) (found : List (Artifact S D P G C)) (points : List (Point S D P G C)) → AreOpening g f s now found points → ((x : Artifact S D P G C) (taken : Bool) → Contains found x → Q (Found x taken)) → Each Q points
  opening-each now found points o all = subst (λ (l : List (Point S D P G C)). Each Q l) (sym o.split)
      (quiet (Opened now) refl, each-append Q o.read (Began ∷ o.acts) (found-each found o.read o.are all) (quiet Began refl, acts-each o.acts o.own))

module _ {S D P G C : Type 0} (g : Ghosts S D P G C) (f : Formats S D P G C) (scheme : S) (m : Members S D P G C) (world : World S D P G C) (i : ℕ) (s : Setup S D C)
    (Q : Point S D P G C → Type 0) (quiet : (p : Point S D P G C) → takes_in p ≡ false → Q p) where
  module _ (came : (sender : ℕ) (x : Packet S D P G C) → CameIn g f scheme m world i sender x → (p : Point S D P G C) → IsPacketPoint sender (Some x) p → Q p) where
    -- a step over an event that was handed in
    packet-each : (sender : ℕ) (o : Option (Packet S D P G C)) → ((x : Packet S D P G C) → o ≡ Some x → CameIn g f scheme m world i sender x) → (p : Point S D P G C) → IsPacketPoint sender o p → Q p
    packet-each sender None held p is = absurd is
    packet-each sender (Some x) held p is = came sender x (held x refl) p is

    first-each : (e : Event D) → WasHanded g f scheme m world i e → (p : Point S D P G C) → IsPointOf g f s e p → Q p
    first-each (event.Packet sender by bytes) handed p is = packet-each sender (f.packet_in by bytes.items) (λ x held. (event.Packet sender by bytes, handed, (refl, held))) p is
    first-each (event.Built number payload) handed (Built n handoff context d took) is = quiet (Built n handoff context d took) refl
    first-each (event.Built number payload) handed p is = absurd is
    first-each (event.Checked number answer) handed (Checked n view a outcome) is = quiet (Checked n view a outcome) refl
    first-each (event.Checked number answer) handed p is = absurd is
    first-each (event.Verdict view ok) handed (Judged r verdict) is = quiet (Judged r verdict) refl
    first-each (event.Verdict view ok) handed p is = absurd is
    first-each (event.Moment now) handed (Told t) is = quiet (Told t) refl
    first-each (event.Moment now) handed p is = absurd is

    pub step-each : (h : History S D P G C) (e : Event D) (points : List (Point S D P G C)) → WasHanded g f scheme m world i e → AreStep g f s h e points → Each Q points
    step-each h e points handed step = subst (λ (l : List (Point S D P G C)). Each Q l) (sym step.split) (first-each e handed step.first step.of_it, acts-each g f s Q quiet step.acts step.own)
