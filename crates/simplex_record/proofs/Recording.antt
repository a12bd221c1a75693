-- What was recorded one after the other, whatever rewrites left of it.
use Rattle.std.specs.List.{Contains, filter}
use Rattle.std.proofs.Common.{◌≡◌, inl, inr, ⊎_elim, ℕ, Bool, List, [], ◌∷◌, ◌++◌, length, refl, sym, ap, subst, arith}
use Rattle.std.proofs.lemmas.Bool.{cases_Bool}
use Rattle.std.proofs.lemmas.List.Elements.{Contains-append_left, Contains-push_cases}
use Rattle.types_quorum.specs.Counting.{Contains-cases, Contains-head, Contains-rest}
use Rattle.types_core.specs.declared.position.Round.{Round}
use Rattle.types_core.specs.declared.proposal.Proposal.{Proposal}
use Rattle.types_core.specs.Subject.{Statement, notarize, nullify, finalize}
use Rattle.messages_certificates.specs.declared.artifact.Artifact.{Artifact}
use Rattle.messages_certificates.specs.declared.artifact.Artifact.TheVariants as artifact
use Rattle.simplex_record.specs.declared.owner.Owner.{Owner}
use Rattle.simplex_record.specs.Record.{Entry, voted, taken, judged, entry, entries, HasVoted, HasTaken}
use Rattle.simplex_record.specs.Rules.{MayFollow, MayJudge, MayEverFollow, StandsByVotes, StandsInTheWay}
use Rattle.simplex_record.specs.Lawful.{EverFits, IsLawful, IsEverLawful, IsRecorded, VotesLawfully, nothing, further, rewrote}
use Rattle.simplex_record.proofs.Checks.{last_or_earlier}
use Rattle.simplex_record.proofs.Places.{stands, Contains-mapped, Contains-place}

module _ {D : Type 0} where
  -- what may follow stands in its place
  stands_so : (views : ℕ) (ever kept : List (Entry D)) (e : Entry D) → MayEverFollow views ever kept e → StandsByVotes views ever e
  stands_so views ever kept (voted (notarize p)) may = may.may
  stands_so views ever kept (voted (nullify r)) may = may
  stands_so views ever kept (voted (finalize p)) may = may
  stands_so views ever kept (taken s) may = may.parent_below
  stands_so views ever kept (judged r verdict) may = tt

  -- and so does what may follow where nothing was dropped
  stands_whole : (views : ℕ) (before : List (Entry D)) (e : Entry D) → MayFollow views before e → StandsByVotes views before e
  stands_whole views before (voted (notarize p)) may = may
  stands_whole views before (voted (nullify r)) may = may
  stands_whole views before (voted (finalize p)) may = may
  stands_whole views before (taken s) may = may.parent_below
  stands_whole views before (judged r verdict) may = tt

  -- no vote of a record stands in the way of one that may follow
  pub none_in_the_way : (views : ℕ) (before : List (Entry D)) (s t : Statement D) → MayFollow views before (voted s) → HasVoted before t → StandsInTheWay s t → ⊥
  none_in_the_way views before (notarize p) (notarize q) may here way = may.first (notarize q) way here
  none_in_the_way views before (notarize p) (nullify r) may here way = way
  none_in_the_way views before (notarize p) (finalize q) may here way = way
  none_in_the_way views before (nullify r) (notarize q) may here way = way
  none_in_the_way views before (nullify r) (nullify t) may here way = may.first (nullify t) way here
  none_in_the_way views before (nullify r) (finalize q) may here way = may.not_finalized q (sym way) here
  none_in_the_way views before (finalize p) (notarize q) may here way = way
  none_in_the_way views before (finalize p) (nullify r) may here way = may.not_given_up (nullify r) way here
  none_in_the_way views before (finalize p) (finalize q) may here way = may.first (finalize q) way here

-- what a filter leaves was there
Contains-filtered : {X : Type 0} (test : X → Bool) (xs : List X) (x : X) → Contains (filter test xs) x → Contains xs x
Contains-filtered test [] x here = here
Contains-filtered {X} test (z ∷ xs) x here = elim (cases_Bool (test z)) [
  | inl is_so ↦ ⊎_elim
      (λ first. subst (Contains (z ∷ xs)) first (Contains-head z xs))
      (λ later. Contains-rest z xs x (Contains-filtered test xs x later))
      (Contains-cases z (filter test xs) x (rw is_so at here))
  | inr is_not ↦ Contains-rest z xs x (Contains-filtered test xs x (rw is_not at here))
]

module _ {S D P G C : Type 0} (attests : ℕ → Statement D → G → Type 0) (certifies : Statement D → C → Type 0) (owner : Owner) where
  -- an artifact may stand behind what had been recorded before it, by what was kept of that then
  record WasRecorded (before : List (Artifact S D P G C)) (x : Artifact S D P G C) : Type 0 where
    pub kept : List (Artifact S D P G C)
    pub recorded : IsRecorded attests certifies owner before kept
    pub fits : EverFits attests certifies owner before kept x

module _ {S D P G C : Type 0} {attests : ℕ → Statement D → G → Type 0} {certifies : Statement D → C → Type 0} {owner : Owner} where
  -- so may each that was recorded
  was_recorded : {ever kept : List (Artifact S D P G C)} → IsRecorded attests certifies owner ever kept → (before after : List (Artifact S D P G C)) (y : Artifact S D P G C) → ever ≡ before ++ y ∷ after → WasRecorded attests certifies owner before y
  was_recorded nothing [] after y is = absurd (omega (arith, ap length is))
  was_recorded nothing (b ∷ before) after y is = absurd (omega (arith, ap length is))
  was_recorded (further {ever} {kept} x recorded fits) before after y is = ⊎_elim
      (λ last. subst (λ (l : List (Artifact S D P G C)). WasRecorded attests certifies owner l y) (sym last.before_is)
      (subst (λ (z : Artifact S D P G C). WasRecorded attests certifies owner ever z) (sym last.is) (record { kept = kept; recorded = recorded; fits = fits })))
      (λ earlier. was_recorded recorded before earlier.0 y earlier.1)
      (last_or_earlier ever x before after y is)
  was_recorded (rewrote floor recorded there last) before after y is = was_recorded recorded before after y is

  -- what is kept was recorded
  kept_was : {ever kept : List (Artifact S D P G C)} → IsRecorded attests certifies owner ever kept → (y : Artifact S D P G C) → Contains kept y → Contains ever y
  kept_was nothing y here = here
  kept_was (further {ever} {kept} x recorded fits) y here = ⊎_elim
      (λ earlier. Contains-append_left ever (x ∷ []) y (kept_was recorded y earlier))
      (λ new. subst (Contains (ever ++ x ∷ [])) new (Contains-place ever [] x))
      (Contains-push_cases kept x y here)
  kept_was (rewrote {ever} {kept} floor recorded there last) y here = ⊎_elim
      (λ first. kept_was recorded y (subst (Contains kept) first there))
      (λ later. kept_was recorded y (Contains-filtered _ kept y later))
      (Contains-cases _ _ y here)

  -- whom all that was ever recorded is lawful votes lawfully
  pub votes_lawfully : (artifacts : List (Artifact S D P G C)) → IsEverLawful attests certifies owner artifacts → VotesLawfully attests certifies owner artifacts
  votes_lawfully artifacts lawful before after x is =
      let was = was_recorded lawful.1 before after x is in
      record { verifies = was.fits.verifies; stands = stands_so owner.term_length (entries before) (entries was.kept) (entry x) was.fits.follows }

  -- so does one of whose lawful record nothing was dropped
  pub whole_votes_lawfully : (artifacts : List (Artifact S D P G C)) → IsLawful attests certifies owner artifacts → VotesLawfully attests certifies owner artifacts
  whole_votes_lawfully artifacts lawful before after x is =
      let fits = lawful before after x is in
      record { verifies = fits.verifies; stands = stands_whole owner.term_length (entries before) (entry x) fits.follows }

  -- a verdict stands behind a notarization of its round
  pub notarized_before : (before after : List (Artifact S D P G C)) (round : Round) (verdict : Bool) → IsEverLawful attests certifies owner (before ++ artifact.Certification round verdict ∷ after) → (p : Proposal D) × (p.round ≡ round) × HasTaken (entries before) (notarize p)
  notarized_before before after round verdict lawful =
      let was = was_recorded lawful.1 before after (artifact.Certification round verdict) refl in
      let may : MayJudge (entries was.kept) round = was.fits.follows in
      let s = stands entry was.kept (taken (notarize may.notarized.0)) may.notarized.2 in
      let in_kept : Contains was.kept s.x = subst (λ (l : List (Artifact S D P G C)). Contains l s.x) (sym s.is) (Contains-place s.before s.after s.x) in
      (may.notarized.0, may.notarized.1, subst (Contains (entries before)) s.gives (Contains-mapped entry before s.x (kept_was was.recorded s.x in_kept)))
