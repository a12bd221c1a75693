-- An own nullify that the voter knows of a view is recorded.
use Rattle.std.proofs.Common.{◌≡◌, ℕ, Bool, true, false, List, [], ◌∷◌, refl, sym, ◌∙◌, subst}
use Rattle.std.specs.Prelude.{Contains, if◌then◌else◌}
use Rattle.std.proofs.lemmas.List.Sorted.{Contains-permutation, IsPermutation-reverse}
use Rattle.types_quorum.specs.Counting.{Contains-head, Contains-rest}
use Rattle.types_core.specs.declared.position.Round.{Round}
use Rattle.types_core.specs.declared.scheme.Scheme.{Ghosts}
use Rattle.types_core.specs.Subject.{notarize, nullify, finalize}
use Rattle.messages_certificates.specs.declared.artifact.Artifact.{Artifact}
use Rattle.messages_certificates.specs.declared.artifact.Artifact.TheVariants as artifact
use Rattle.messages_certificates.specs.declared.nullify.Nullify.{Nullify}
use Rattle.types_terms.specs.declared.kind.Kind.TheVariants as kind
use Rattle.simplex_record.specs.Record as recorded
use Rattle.simplex_record.specs.Record.{Entry, entry, entries}
use Rattle.voter_history.specs.declared.timeout_reason.TimeoutReason.TheVariants as reason
use Rattle.voter_history.specs.Held as offer
use Rattle.voter_history.specs.History as views
use Rattle.voter_history.specs.History.{later, seen}
use Rattle.voter_history.specs.Past as past
use Rattle.voter_laws.specs.Matching as matching
use Rattle.voter_laws.specs.Matching.{round_of, told}
use Rattle.simplex_member.specs.Allowed.{AreAllowed}
use Rattle.simplex_member.specs.Laws.{HasNullified}
use Rattle.simplex_member.specs.Layers.{voter_of}
use Rattle.simplex_member.specs.Packet.{Formats}
use Rattle.simplex_member.specs.Point.{History}
use Rattle.simplex_member.specs.Recorded.{record_of}
use Rattle.simplex_member.specs.Setup.{Setup}
use Rattle.simplex_member.proofs.Lists.{Contains-mapped}
use Rattle.simplex_member.proofs.Seeing.{AreGood, Enters, Puts, good-weaker, seen-good}
use Rattle.simplex_member.proofs.Telling.{apart, tells-record}

-- an item says that nullify was voted
abbrev is_nullify : {S D P G C : Type 0} → past.Item S D P G C → Bool
is_nullify past.voted_nullify = true
is_nullify x = false

module _ {S D P G C : Type 0} (v : views.Setup S C) (view : ℕ) where
  -- a nullify of the view is told
  abbrev IsTold : List (views.Point S D P G C) → Type 0
  IsTold h = Contains (told v h) (recorded.voted (nullify (round_of v view)))

  -- it is where an item says that nullify was voted
  abbrev IsFrom : List (views.Point S D P G C) → past.Item S D P G C → Type 0
  IsFrom h x = is_nullify x ≡ true → IsTold h

  none-new : (h : List (views.Point S D P G C)) (x : past.Item S D P G C) → is_nullify x ≡ false → IsFrom h x
  none-new h x none is = absurd (apart (sym none ∙ is))

  -- what is told stays told
  told-on : (q : views.Point S D P G C) (h : List (views.Point S D P G C)) → IsTold h → IsTold (q ∷ h)
  told-on (views.notarized c) h here = Contains-rest (recorded.taken (notarize c.proposal)) (told v h) (recorded.voted (nullify (round_of v view))) here
  told-on (views.nullified now c) h here = Contains-rest (recorded.taken (nullify c.round)) (told v h) (recorded.voted (nullify (round_of v view))) here
  told-on (views.finalized now c) h here = Contains-rest (recorded.taken (finalize c.proposal)) (told v h) (recorded.voted (nullify (round_of v view))) here
  told-on (views.judged now at ok) h here = Contains-rest (recorded.judged (round_of v at) ok) (told v h) (recorded.voted (nullify (round_of v view))) here
  told-on (views.voted_notarize at p) h here = Contains-rest (recorded.voted (notarize p)) (told v h) (recorded.voted (nullify (round_of v view))) here
  told-on (views.voted_nullify at) h here = go (past.has_nullified (seen v h at))
    where
      go : (b : Bool) → Contains (if b then told v h else recorded.voted (nullify (round_of v at)) ∷ told v h) (recorded.voted (nullify (round_of v view)))
      go true = here
      go false = Contains-rest (recorded.voted (nullify (round_of v at))) (told v h) (recorded.voted (nullify (round_of v view))) here
  told-on (views.voted_finalize at p) h here = Contains-rest (recorded.voted (finalize p)) (told v h) (recorded.voted (nullify (round_of v view))) here
  told-on (views.recalled_notarize p taken) h here = Contains-rest (recorded.voted (notarize p)) (told v h) (recorded.voted (nullify (round_of v view))) here
  told-on (views.recalled_nullify at) h here = Contains-rest (recorded.voted (nullify (round_of v at))) (told v h) (recorded.voted (nullify (round_of v view))) here
  told-on (views.recalled_finalize p) h here = Contains-rest (recorded.voted (finalize p)) (told v h) (recorded.voted (nullify (round_of v view))) here
  told-on q h here = here

  module _ (h : List (views.Point S D P G C)) (before : past.has_nullified (seen v h view) ≡ true → IsTold h) where
    -- a nullify is told once, when it is voted first
    voted-told : IsTold (views.voted_nullify view ∷ h)
    voted-told = go (past.has_nullified (seen v h view)) refl
      where
        go : (b : Bool) → past.has_nullified (seen v h view) ≡ b → Contains (if b then told v h else recorded.voted (nullify (round_of v view)) ∷ told v h) (recorded.voted (nullify (round_of v view)))
        go true known = before known
        go false first = Contains-head (recorded.voted (nullify (round_of v view))) (told v h)

    enters-from : (q : views.Point S D P G C) (now : ℕ) → Enters (IsFrom (q ∷ h)) v now
    enters-from q now = (
      none-new (q ∷ h) (past.entered now) refl,
      none-new (q ∷ h) (past.armed (past.deadline now v.leader_timeout) (past.deadline now v.certification_timeout) (later now v.stall_timeout)) refl,
    )

    puts-from : (q : views.Point S D P G C) → Puts (IsFrom (q ∷ h)) v q view
    puts-from (views.started now payload) = enters-from (views.started now payload) now
    puts-from (views.based floor) = tt
    puts-from (views.notarized c) = none-new (views.notarized c ∷ h) (past.notarized c) refl
    puts-from (views.nullified now c) = (none-new (views.nullified now c ∷ h) (past.nullified c) refl, enters-from (views.nullified now c) now)
    puts-from (views.finalized now c) = (none-new (views.finalized now c ∷ h) (past.finalized c) refl, enters-from (views.finalized now c) now)
    puts-from (views.judged now at true) = (none-new (views.judged now at true ∷ h) (past.judged true) refl, enters-from (views.judged now at true) now)
    puts-from (views.judged now at false) = (none-new (views.judged now at false ∷ h) (past.judged false) refl, λ e. none-new (views.judged now at false ∷ h) (past.latched now reason.FailedCertification) refl)
    puts-from (views.forwarded at p) = none-new (views.forwarded at p ∷ h) (past.offered (offer.forwarded p)) refl
    puts-from (views.built now p payload) = (none-new (views.built now p payload ∷ h) (past.built now p) refl, none-new (views.built now p payload ∷ h) (past.bound p payload) refl)
    puts-from (views.confirmed at) = none-new (views.confirmed at ∷ h) (past.offered offer.confirmed) refl
    puts-from (views.unbound at) = none-new (views.unbound at ∷ h) past.unbound refl
    puts-from (views.latched now at why) = λ e. none-new (views.latched now at why ∷ h) (past.latched now why) refl
    puts-from (views.build_asked at) = none-new (views.build_asked at ∷ h) (past.offered offer.building) refl
    puts-from (views.build_released at) = none-new (views.build_released at ∷ h) (past.offered offer.released) refl
    puts-from (views.verify_asked at p payload) = (none-new (views.verify_asked at p payload ∷ h) (past.offered offer.verifying) refl, none-new (views.verify_asked at p payload ∷ h) (past.bound p payload) refl)
    puts-from (views.ancestry_asked at missing) = none-new (views.ancestry_asked at missing ∷ h) (past.asked missing) refl
    puts-from (views.certify_asked at handle) = none-new (views.certify_asked at handle ∷ h) (past.certifying handle) refl
    puts-from (views.certify_waited at) = tt
    puts-from (views.voted_notarize at p) = none-new (views.voted_notarize at p ∷ h) past.voted_notarize refl
    puts-from (views.voted_nullify at) = λ e is. subst (λ (n : ℕ). IsTold (views.voted_nullify n ∷ h)) (sym e) voted-told
    puts-from (views.voted_finalize at p) = none-new (views.voted_finalize at p ∷ h) past.voted_finalize refl
    puts-from (views.recalled_notarize p taken) = (
      none-new (views.recalled_notarize p taken ∷ h) past.voted_notarize refl,
      none-new (views.recalled_notarize p taken ∷ h) (past.offered (offer.recorded p)) refl,
      λ payload. none-new (views.recalled_notarize p taken ∷ h) (past.bound p payload) refl,
    )
    puts-from (views.recalled_nullify at) = λ e is. subst (λ (n : ℕ). IsTold (views.recalled_nullify n ∷ h)) (sym e) (Contains-head (recorded.voted (nullify (round_of v view))) (told v h))
    puts-from (views.recalled_finalize p) = none-new (views.recalled_finalize p ∷ h) past.voted_finalize refl
    puts-from (views.recalled_verdict at ok) = none-new (views.recalled_verdict at ok ∷ h) (past.judged ok) refl
    puts-from (views.sent kind.Notarization at) = none-new (views.sent kind.Notarization at ∷ h) past.sent_notarization refl
    puts-from (views.sent kind.Nullification at) = none-new (views.sent kind.Nullification at ∷ h) past.sent_nullification refl
    puts-from (views.sent kind.Finalization at) = none-new (views.sent kind.Finalization at ∷ h) past.sent_finalization refl
    puts-from (views.polled now) = none-new (views.polled now ∷ h) (past.polled (past.deadline now v.timeout_retry)) refl
    puts-from views.pruned = tt

  good-told : (h : List (views.Point S D P G C)) (items : List (past.Item S D P G C)) → AreGood (IsFrom h) items → past.has_nullified items ≡ true → IsTold h
  good-told h [] good is = absurd (apart is)
  good-told h (past.voted_nullify ∷ items) good is = good.0 refl
  good-told h (x ∷ items) good is = good-told h items good.1 is

  seen-from : (h : List (views.Point S D P G C)) → AreGood (IsFrom h) (seen v h view)
  seen-from [] = tt
  seen-from (q ∷ h) = seen-good (IsFrom (q ∷ h)) v q h view (puts-from h (λ is. good-told h (seen v h view) (seen-from h) is) q)
      (good-weaker (IsFrom h) (IsFrom (q ∷ h)) (λ x from is. told-on q h (from is)) (seen v h view) (seen-from h))

  -- so a nullify that is known was told
  known-told : (h : List (views.Point S D P G C)) → past.has_nullified (seen v h view) ≡ true → IsTold h
  known-told h is = good-told h (seen v h view) (seen-from h) is

module _ {S D P G C : Type 0} where
  -- the artifact that says so is a nullify
  nullify-of : (x : Artifact S D P G C) (r : Round) → entry x ≡ recorded.voted (nullify r) → (w : Nullify S D P G C) × (x ≡ artifact.Nullify w) × (w.round ≡ r)
  nullify-of (artifact.Nullify w) r is = (w, refl, cc is)
  nullify-of (artifact.Notarize w) r is = absurd (cc is)
  nullify-of (artifact.Notarization c) r is = absurd (cc is)
  nullify-of (artifact.Certification at ok) r is = absurd (cc is)
  nullify-of (artifact.Nullification c) r is = absurd (cc is)
  nullify-of (artifact.Finalize w) r is = absurd (cc is)
  nullify-of (artifact.Finalization c) r is = absurd (cc is)

module _ {S D P G C : Type 0} (g : Ghosts S D P G C) (f : Formats S D P G C) (s : Setup S D C) where
  pub known-nullified : (h : History S D P G C) → AreAllowed g f s h → (view : ℕ) → past.has_nullified (seen s.voter (voter_of s h) view) ≡ true → HasNullified g f s h view
  known-nullified h all view is =
      let says = Contains-permutation (told s.voter (voter_of s h)) (matching.record_of s.voter (voter_of s h)) (recorded.voted (nullify (round_of s.voter view)))
      (IsPermutation-reverse (told s.voter (voter_of s h))) (known-told s.voter view (voter_of s h) is) in
      let here = subst (λ (r : List (Entry D)). Contains r (recorded.voted (nullify (round_of s.voter view)))) (tells-record g f s h all) says in
      let of = Contains-mapped entry (record_of h) (recorded.voted (nullify (round_of s.voter view))) here in
      let found = nullify-of of.0 (round_of s.voter view) of.2 in
      record { nullify = found.0; round_is = found.2; recorded = subst (λ (x : Artifact S D P G C). Contains (record_of h) x) found.1 of.1 }
