-- A view whose votes came up has room, and lies from 1 on.
use Rattle.std.proofs.Common.{◌≡◌, ℕ, ◌+◌, ◌*◌, ◌≤◌, ◌^◌, ◌==◌, ◌&&◌, ◌||◌, Bool, true, false, List, [], ◌∷◌, refl, subst, arith}
use Rattle.std.specs.Prelude.{if◌then◌else◌, nat_lt}
use Rattle.std.proofs.lemmas.Bool.{and_parts, eqb-true, ltb-true}
use Rattle.types_core.specs.declared.scheme.Scheme.{Ghosts}
use Rattle.types_core.specs.Positions.{HasRoom, next_term_start}
use Rattle.messages_certificates.specs.declared.artifact.Artifact.{Artifact}
use Rattle.messages_certificates.specs.declared.artifact.Artifact.TheVariants as artifact
use Rattle.messages_certificates.specs.Certificate.{certificate_round}
use Rattle.simplex_messages.specs.declared.vote.Vote.{Vote}
use Rattle.simplex_messages.specs.declared.vote.Vote.TheVariants as vote
use Rattle.simplex_messages.specs.VoteParts.{vote_artifact, vote_round}
use Rattle.simplex_record.specs.Record.{current_view, enters, entries, greatest}
use Rattle.simplex_member.specs.Allowed.{Allowed, AreAllowed, MayRecord}
use Rattle.simplex_member.specs.Layers.{concerns, current_of, floor_of, has_room, may_enter, opened, opens, passes_over, stage, Stage, Unopened, IsUp, first_up}
use Rattle.simplex_member.specs.Packet.{Formats}
use Rattle.simplex_member.specs.Point.{Point, Found, Heard, Came, Votes, History}
use Rattle.simplex_member.specs.Recorded.{record_of}
use Rattle.simplex_member.specs.Setup.{Setup}
use Rattle.simplex_member.proofs.Recordable.{orderly}
use Rattle.simplex_member.proofs.Telling.{apart}

least-greatest : {X : Type 0} (least : ℕ) (k : X → ℕ) (xs : List X) → least ≤ greatest least k xs
least-greatest least k [] = omega arith
least-greatest least k (x ∷ xs) = let rest = least-greatest least k xs in omega (arith, rest)

pub either-true : (b c : Bool) (Q : Type 0) → (b || c) ≡ true → (b ≡ true → Q) → (c ≡ true → Q) → Q
either-true true c Q is first second = first refl
either-true false c Q is first second = second is

staged : (b : Bool) (o : Stage) → IsUp (if b then Unopened else o) → IsUp o
staged true o some = absurd (apart some)
staged false o some = some

module _ {S D P G C : Type 0} (s : Setup S D C) where
  opened-room : (h : History S D P G C) (view : ℕ) → IsUp (opened s h view) → has_room s.voter.length view ≡ true
  opened-room [] view some = absurd (apart some)
  opened-room (p ∷ h) view some = new (concerns view p || (may_enter p && (current_of s (p ∷ h) == view))) (has_room s.voter.length view) some (λ before. opened-room h view before)
    where
      new : (b c : Bool) → IsUp (if b && c then first_up (opened s h view) (passes_over s h view) else opened s h view) → (IsUp (opened s h view) → c ≡ true) → c ≡ true
      new true true there before = refl
      new true false there before = before there
      new false c there before = before there

  pub staged-room : (h : History S D P G C) (view : ℕ) → IsUp (stage s h view) → has_room s.voter.length view ≡ true
  staged-room h view some = opened-room h view (staged (nat_lt view (floor_of s h)) (opened s h view) some)

  pub stage-room : (h : History S D P G C) (view : ℕ) → IsUp (stage s h view) → HasRoom s.voter.length view
  stage-room h view some = ltb-true (next_term_start s.voter.length view + 2 * s.voter.length + 1) (2 ^ 64) (staged-room h view some)

module _ {S D P G C : Type 0} (g : Ghosts S D P G C) (f : Formats S D P G C) (s : Setup S D C) where
  -- an own vote that may be recorded is of a view from 1 on
  vote-beyond : (h : History S D P G C) (v : Vote S D P G C) → MayRecord g f s h (vote_artifact v) → 1 ≤ (vote_round v).view
  vote-beyond h (vote.Notarize v) may = let below = may.follows.parent_below in omega (arith, below)
  vote-beyond h (vote.Nullify v) may =
      let first = least-greatest 1 (enters s.voter.length) (entries (record_of h)) in
      let is : v.round.view ≡ current_view s.voter.length (entries (record_of h)) = may.follows.current in
      omega (arith, first, is)
  vote-beyond h (vote.Finalize v) may = let above = may.follows.above in omega (arith, above)

  found-beyond : (h : History S D P G C) (x : Artifact S D P G C) (taken : Bool) (view : ℕ) → MayRecord g f s h x → concerns {S = S} {D = D} {P = P} {G = G} {C = C} view (Found x taken) ≡ true → 1 ≤ view
  found-beyond h (artifact.Notarize v) taken view may is = subst (λ (n : ℕ). 1 ≤ n) (eqb-true v.proposal.round.view view is) (vote-beyond h (vote.Notarize v) may)
  found-beyond h (artifact.Notarization c) taken view may is = subst (λ (n : ℕ). 1 ≤ n) (eqb-true c.proposal.round.view view is) may.follows.from_one
  found-beyond h (artifact.Certification r ok) taken view may is = absurd (apart is)
  found-beyond h (artifact.Nullify v) taken view may is = subst (λ (n : ℕ). 1 ≤ n) (eqb-true v.round.view view is) (vote-beyond h (vote.Nullify v) may)
  found-beyond h (artifact.Nullification c) taken view may is = subst (λ (n : ℕ). 1 ≤ n) (eqb-true c.round.view view is) may.follows.from_one
  found-beyond h (artifact.Finalize v) taken view may is = subst (λ (n : ℕ). 1 ≤ n) (eqb-true v.proposal.round.view view is) (vote-beyond h (vote.Finalize v) may)
  found-beyond h (artifact.Finalization c) taken view may is = subst (λ (n : ℕ). 1 ≤ n) (eqb-true c.proposal.round.view view is) may.follows.from_one

  -- so is what a point brings of votes and certificates
  concerns-beyond : (p : Point S D P G C) (h : History S D P G C) (view : ℕ) → Allowed g f s h p → concerns view p ≡ true → 1 ≤ view
  concerns-beyond (Found x taken) h view a is = found-beyond h x taken view a.fits is
  concerns-beyond (Heard v) h view a is = subst (λ (n : ℕ). 1 ≤ n) (eqb-true (vote_round v).view view is) a.due.window.0.0
  concerns-beyond (Came c) h view a is = subst (λ (n : ℕ). 1 ≤ n) (eqb-true (certificate_round c).view view is) a.due.0
  concerns-beyond (Votes v) h view a is = subst (λ (n : ℕ). 1 ≤ n) (eqb-true (vote_round v).view view is) (vote-beyond h v a.fits)
  concerns-beyond p h view a is = absurd (apart is)

  opened-beyond : (h : History S D P G C) → AreAllowed g f s h → (view : ℕ) → IsUp (opened s h view) → 1 ≤ view
  opened-beyond [] all view some = absurd (apart some)
  opened-beyond (p ∷ h) all view some = go (opens s h p view) refl some (λ there. opened-beyond h all.1 view there)
    where
      brought : opens s h p view ≡ true → 1 ≤ view
      brought is = either-true (concerns view p) (may_enter p && (current_of s (p ∷ h) == view)) (1 ≤ view)
          (and_parts (concerns view p || (may_enter p && (current_of s (p ∷ h) == view))) (has_room s.voter.length view) is).0
          (λ of. concerns-beyond p h view all.0 of)
          (λ entered. subst (λ (n : ℕ). 1 ≤ n) (eqb-true (current_of s (p ∷ h)) view (and_parts (may_enter p) (current_of s (p ∷ h) == view) entered).1) (orderly g f s p h all).began)

      go : (b : Bool) → opens s h p view ≡ b → IsUp (if b then first_up (opened s h view) (passes_over s h view) else opened s h view) → (IsUp (opened s h view) → 1 ≤ view) → 1 ≤ view
      go true is there before = brought is
      go false is there before = before there

  pub stage-beyond : (h : History S D P G C) → AreAllowed g f s h → (view : ℕ) → IsUp (stage s h view) → 1 ≤ view
  stage-beyond h all view some = opened-beyond h all view (staged (nat_lt view (floor_of s h)) (opened s h view) some)
