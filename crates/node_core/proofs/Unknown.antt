-- Of what isn't recorded the voter knows nothing, and what it doesn't know of a view that it keeps isn't recorded.
use Rattle.std.proofs.Common.{◌≡◌, ◌≢◌, ℕ, ◌≤◌, Bool, true, false, List, [], ◌∷◌, refl, sym, ◌∙◌, ap, subst, arith}
use Rattle.std.specs.Prelude.{◌==◌, ◌||◌, ◌&&◌, Option, Some, None, IsSome, nat_lt, nat_le, option_map, if◌then◌else◌}
use Rattle.std.specs.Option.{option_or}
use Rattle.std.proofs.lemmas.Bool.{le-ltb}
use Rattle.types_core.specs.declared.scheme.Scheme.{Ghosts}
use Rattle.types_core.specs.Positions.{term_end}
use Rattle.types_core.specs.Subject.{Statement, notarize, nullify, finalize}
use Rattle.messages_certificates.specs.declared.certificate.Certificate.{Certificate}
use Rattle.messages_certificates.specs.declared.certificate.Certificate.TheVariants as certificate
use Rattle.messages_certificates.specs.declared.nullification.Nullification.{Nullification}
use Rattle.messages_certificates.specs.ProposalCertificate.{Finalization, Notarization}
use Rattle.messages_certificates.specs.Certificate.{certificate_round, certificate_statement}
use Rattle.simplex_record.specs.Record as recorded
use Rattle.simplex_record.specs.Record.{Entry, HasTaken, entries}
use Rattle.simplex_record.specs.Rules.{AreAlike}
use Rattle.types_terms.specs.Windows.{Retains}
use Rattle.voter_history.specs.Past as past
use Rattle.voter_history.specs.History as views
use Rattle.voter_history.specs.History.{started, based, notarized, nullified, finalized, judged, forwarded, built, confirmed, unbound, latched, build_asked, build_released, verify_asked, ancestry_asked, certify_asked, certify_waited, voted_notarize, voted_nullify, voted_finalize, recalled_notarize, recalled_nullify, recalled_finalize, recalled_verdict, sent, polled, pruned, last_finalized, min_active, nullification, was_nullified, seen}
use Rattle.voter_laws.specs.Matching.{EachHistoryMatches, Matches}
use Rattle.voter_laws.specs.Recording.{EachRecordIsKnown, IsKnown}
use Rattle.simplex_member.specs.Allowed.{AreAllowed}
use Rattle.simplex_member.specs.Laws.{VotersAreOrderly, VotersTellTheRecord}
use Rattle.simplex_member.specs.Layers.{finalized_of, known_of, voter_of}
use Rattle.simplex_member.specs.Packet.{Formats}
use Rattle.simplex_member.specs.Point.{History}
use Rattle.simplex_member.specs.Recorded.{record_of}
use Rattle.simplex_member.specs.Refusals.{HasNoneLike}
use Rattle.simplex_member.specs.Setup.{Setup, member_of}
use Rattle.node_core.specs.Learning.{IsUnknown}
use Rattle.node_core.proofs.Going.{gone_to}
use Rattle.node_core.proofs.Knowing.{none-some, some-of-mapped, some-or}

module _ {X : Type 0} where
  -- where it holds nothing, it is none
  pub none_there : (o : Option X) → ((x : X) → o ≡ Some x → ⊥) → o ≡ None
  none_there None never = refl
  none_there (Some x) never = absurd (never x refl)

  one_of : (b : Bool) (o : Option X) → o ≡ None → (if b then None else o) ≡ None
  one_of true o is = refl
  one_of false o is = is

not_true : (b : Bool) → (b ≡ true → ⊥) → b ≡ false
not_true true never = absurd (never refl)
not_true false never = refl

module _ {S D P G C : Type 0} where
  given_once : (b c : Bool) (o p : Option (Nullification S D P G C)) → (b || c) ≡ false → (c ≡ false → o ≡ None) → (if b then p else o) ≡ None
  given_once false c o p is none = none is
  given_once true c o p is none = absurd (cc is)

  -- of a view of which none was ever learnt no nullification is kept
  pub none_kept : (s : views.Setup S C) (h : List (views.Point S D P G C)) (view : ℕ) → was_nullified h view ≡ false → nullification s h view ≡ None
  none_kept s [] view is = refl
  none_kept s (started now payload ∷ h) view is = none_kept s h view is
  none_kept s (based floor ∷ h) view is = none_kept s h view is
  none_kept s (notarized c ∷ h) view is = none_kept s h view is
  none_kept s (nullified now c ∷ h) view is = given_once (c.round.view == view) (was_nullified h view) (nullification s h view) _ is (λ before. none_kept s h view before)
  none_kept s (finalized now c ∷ h) view is = none_kept s h view is
  none_kept s (judged now at ok ∷ h) view is = none_kept s h view is
  none_kept s (forwarded at p ∷ h) view is = none_kept s h view is
  none_kept s (built now p payload ∷ h) view is = none_kept s h view is
  none_kept s (confirmed at ∷ h) view is = none_kept s h view is
  none_kept s (unbound at ∷ h) view is = none_kept s h view is
  none_kept s (latched now at why ∷ h) view is = none_kept s h view is
  none_kept s (build_asked at ∷ h) view is = none_kept s h view is
  none_kept s (build_released at ∷ h) view is = none_kept s h view is
  none_kept s (verify_asked at p payload ∷ h) view is = none_kept s h view is
  none_kept s (ancestry_asked at missing ∷ h) view is = none_kept s h view is
  none_kept s (certify_asked at handle ∷ h) view is = none_kept s h view is
  none_kept s (certify_waited at ∷ h) view is = none_kept s h view is
  none_kept s (voted_notarize at p ∷ h) view is = none_kept s h view is
  none_kept s (voted_nullify at ∷ h) view is = none_kept s h view is
  none_kept s (voted_finalize at p ∷ h) view is = none_kept s h view is
  none_kept s (recalled_notarize p taken ∷ h) view is = none_kept s h view is
  none_kept s (recalled_nullify at ∷ h) view is = none_kept s h view is
  none_kept s (recalled_finalize p ∷ h) view is = none_kept s h view is
  none_kept s (recalled_verdict at ok ∷ h) view is = none_kept s h view is
  none_kept s (sent kind at ∷ h) view is = none_kept s h view is
  none_kept s (polled now ∷ h) view is = none_kept s h view is
  none_kept s (pruned ∷ h) view is = one_of _ (nullification s h view) (none_kept s h view is)

  taken_once : (b c : Bool) (o : Option (Nullification S D P G C)) (x : Nullification S D P G C) → (b || c) ≡ true → (c ≡ true → IsSome o) → IsSome (if b then option_or o (Some x) else o)
  taken_once true c o x is some = some-or o x
  taken_once false c o x is some = some is

  not_dropped : (a b : Bool) (o : Option (Nullification S D P G C)) → a ≡ false → IsSome o → IsSome (if a && b then None else o)
  not_dropped false b o never some = some
  not_dropped true b o never some = absurd (cc never)

  -- of a view that is kept a nullification is, where one was ever learnt
  pub some_kept : (s : views.Setup S C) (h : List (views.Point S D P G C)) (view : ℕ) → min_active s h ≤ view → was_nullified h view ≡ true → IsSome (nullification s h view)
  some_kept s [] view kept is = absurd (cc is)
  some_kept s (nullified now c ∷ h) view kept is = taken_once (c.round.view == view) (was_nullified h view) (nullification s h view) c is (λ before. some_kept s h view kept before)
  some_kept s (finalized now c ∷ h) view kept is = some_kept s h view (omega (arith, kept)) is
  some_kept s (pruned ∷ h) view kept is =
      not_dropped (nat_lt view (min_active s h)) (nat_le (term_end s.length view) (last_finalized h)) (nullification s h view) (le-ltb view (min_active s h) kept) (some_kept s h view kept is)
  some_kept s (x ∷ h) view kept is = some_kept s h view kept is

  module _ (g : Ghosts S D P G C) (f : Formats S D P G C) (s : Setup S D C) where
    -- what the laws tell of a history that began
    pub record AreTold (h : History S D P G C) : Type 0 where
      pub matches : Matches (member_of s) (known_of s h) (entries (record_of h))
      pub is_known : IsKnown (member_of s) (known_of s h) (entries (record_of h))

    pub told_of : VotersAreOrderly g f s → VotersTellTheRecord g f s → EachHistoryMatches S D P G C → EachRecordIsKnown S D P G C
        → (h : History S D P G C) → AreAllowed g f s h → h ≢ [] → AreTold h
    told_of orderly tells matches is_known h all some =
        let gone = gone_to g f s h all in
        let ordered = orderly h gone.0 gone.1 some in
        let told = tells h gone.0 gone.1 in
        record {
          matches = subst (λ (r : List (Entry D)). Matches (member_of s) (known_of s h) r) told (matches s.voter (voter_of s h) ordered);
          is_known = subst (λ (r : List (Entry D)). IsKnown (member_of s) (known_of s h) r) told (is_known s.voter (voter_of s h) ordered);
        }

    pub unknown : (h : History S D P G C) → AreTold h → (c : Certificate S D P G C) → HasNoneLike g f s h (certificate_statement c) → IsUnknown s.voter (voter_of s h) c
    unknown h told (certificate.Notarization c) none = none_there (past.notarization (seen s.voter (voter_of s h) c.proposal.round.view)) (λ d is.
        let known_is = told.matches.notarized c.proposal.round.view d.proposal (ap (option_map (λ (x : Notarization S D P G C). x.proposal)) is) in
        none (notarize d.proposal) (sym known_is.0) known_is.1)
    unknown h told (certificate.Nullification c) none = none_kept s.voter (voter_of s h) c.round.view (not_true (was_nullified (voter_of s h) c.round.view) (λ is.
        let taken = (told.is_known.nullified c.round.view).0 is in
        none (nullify taken.0) (sym taken.1) taken.2))
    unknown h told (certificate.Finalization c) none = none_there (past.finalization (seen s.voter (voter_of s h) c.proposal.round.view)) (λ d is.
        let known_is = told.matches.finalized c.proposal.round.view d.proposal (ap (option_map (λ (x : Finalization S D P G C). x.proposal)) is) in
        none (finalize d.proposal) (sym known_is.0) known_is.1)

    -- a view that is kept is kept by the record
    still_kept : (h : History S D P G C) → AreTold h → (view u : ℕ) → Retains (finalized_of s h) s.voter.retention view → view ≡ u → recorded.IsKept s.voter.retention (entries (record_of h)) u
    still_kept h told view u retained same =
        let last = told.matches.last_finalized in
        let low = retained.1 in
        omega (arith, last, low, same)

    none_notarized : (h : History S D P G C) → AreTold h → (c : Notarization S D P G C) → Retains (finalized_of s h) s.voter.retention c.proposal.round.view → past.notarization (seen s.voter (voter_of s h) c.proposal.round.view) ≡ None
        → (y : Statement D) → AreAlike (notarize c.proposal) y → HasTaken (entries (record_of h)) y → ⊥
    none_notarized h told c retained none (notarize q) like taken =
        let some = told.is_known.notarized q taken (still_kept h told c.proposal.round.view q.round.view retained like) in
        let at : IsSome (past.notarization (seen s.voter (voter_of s h) q.round.view)) = some-of-mapped (past.notarization (seen s.voter (voter_of s h) q.round.view)) (λ (x : Notarization S D P G C). x.proposal) some in
        none-some (past.notarization (seen s.voter (voter_of s h) q.round.view)) (sym none ∙ ap (λ (u : ℕ). past.notarization (seen s.voter (voter_of s h) u)) like) at
    none_notarized h told c retained none (nullify r) like taken = like
    none_notarized h told c retained none (finalize q) like taken = like

    none_nullified : (h : History S D P G C) → AreTold h → (c : Nullification S D P G C) → Retains (finalized_of s h) s.voter.retention c.round.view → nullification s.voter (voter_of s h) c.round.view ≡ None
        → (y : Statement D) → AreAlike (nullify c.round) y → HasTaken (entries (record_of h)) y → ⊥
    none_nullified h told c retained none (nullify r) like taken =
        none-some (nullification s.voter (voter_of s h) c.round.view) (sym none) (some_kept s.voter (voter_of s h) c.round.view retained.1 ((told.is_known.nullified c.round.view).1 (r, sym like, taken)))
    none_nullified h told c retained none (notarize q) like taken = like
    none_nullified h told c retained none (finalize q) like taken = like

    none_finalized : (h : History S D P G C) → AreTold h → (c : Finalization S D P G C) → Retains (finalized_of s h) s.voter.retention c.proposal.round.view → past.finalization (seen s.voter (voter_of s h) c.proposal.round.view) ≡ None
        → (y : Statement D) → AreAlike (finalize c.proposal) y → HasTaken (entries (record_of h)) y → ⊥
    none_finalized h told c retained none (finalize q) like taken =
        let some = told.is_known.finalized q taken (still_kept h told c.proposal.round.view q.round.view retained like) in
        let at : IsSome (past.finalization (seen s.voter (voter_of s h) q.round.view)) = some-of-mapped (past.finalization (seen s.voter (voter_of s h) q.round.view)) (λ (x : Finalization S D P G C). x.proposal) some in
        none-some (past.finalization (seen s.voter (voter_of s h) q.round.view)) (sym none ∙ ap (λ (u : ℕ). past.finalization (seen s.voter (voter_of s h) u)) like) at
    none_finalized h told c retained none (notarize q) like taken = like
    none_finalized h told c retained none (nullify r) like taken = like

    pub unrecorded : (h : History S D P G C) → AreTold h → (c : Certificate S D P G C) → Retains (finalized_of s h) s.voter.retention (certificate_round c).view → IsUnknown s.voter (voter_of s h) c
        → HasNoneLike g f s h (certificate_statement c)
    unrecorded h told (certificate.Notarization c) retained none = none_notarized h told c retained none
    unrecorded h told (certificate.Nullification c) retained none = none_nullified h told c retained none
    unrecorded h told (certificate.Finalization c) retained none = none_finalized h told c retained none
