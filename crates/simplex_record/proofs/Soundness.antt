-- A rewritten record is lawful; so is what is kept of all that was ever recorded.
use Rattle.std.proofs.Common.{◌≡◌, inl, inr, ℕ, ◌<◌, ◌≤◌, Bool, true, List, [], ◌∷◌, ◌++◌, length, get_or, drop, map, refl, sym, ◌∙◌, ap, subst, arith, length-append}
use Rattle.std.specs.Prelude.{nat_lt}
use Rattle.std.specs.List.{Contains, filter}
use Rattle.std.proofs.lemmas.Bool.{cases_Bool}
use Rattle.std.proofs.lemmas.List.{map-append}
use Rattle.types_core.specs.Subject.{Statement, finalize}
use Rattle.messages_certificates.specs.declared.artifact.Artifact.{Artifact}
use Rattle.messages_certificates.specs.declared.artifact.Artifact.TheVariants as artifact
use Rattle.messages_certificates.specs.ProposalCertificate.{Finalization}
use Rattle.simplex_record.specs.declared.owner.Owner.{Owner}
use Rattle.simplex_record.specs.Record.{Entry, taken, entry, entries, last_finalized, floor}
use Rattle.simplex_record.specs.Rules.{MayFollow, reach}
use Rattle.simplex_record.specs.Lawful.{Fits, IsLawful, EverFits, IsRecorded, nothing, further, rewrote, rewritten}
use Rattle.simplex_record.specs.Kept.{StandsForAll, IsFrom}
use Rattle.simplex_record.proofs.Checks.{lawful-nil, lawful-push}
use Rattle.simplex_record.proofs.Places.{stands, Contains-mapped}
use Rattle.simplex_record.proofs.Floors.{filter-map}
use Rattle.simplex_record.proofs.Keeping.{below-told, left_by, nothing-stands-for, stands-further-for, stands-rewritten, may-follow, may-ever-follow, may-still}

module _ {X : Type 0} where
  -- what stands at a place of what a filter leaves
  record IsLeftOf (test : X → Bool) (xs before : List X) (x : X) : Type 0 where
    pub front : List X
    pub rest : List X
    pub is : xs ≡ front ++ x ∷ rest
    pub left : before ≡ filter test front
    pub passes : test x ≡ true

  place-left : (test : X → Bool) (xs before after : List X) (x : X) → filter test xs ≡ before ++ x ∷ after → IsLeftOf test xs before x
  place-left test [] before after x same = absurd (omega (arith, ap length same, length-append before (x ∷ after)))
  place-left test (z ∷ xs) before after x same = elim (cases_Bool (test z)) [
    | inl told ↦ at_first before (rw told at same) told (λ shorter here. place-left test xs shorter after x here)
    | inr untold ↦
        let p = place-left test xs before after x (rw untold at same) in
        record { front = z ∷ p.front; rest = p.rest; is = ap (λ (l : List X). z ∷ l) p.is; left = rw untold p.left; passes = p.passes }
  ]
    where
      at_first : (before : List X) → z ∷ filter test xs ≡ before ++ x ∷ after → test z ≡ true → ((shorter : List X) → filter test xs ≡ shorter ++ x ∷ after → IsLeftOf test xs shorter x) → IsLeftOf test (z ∷ xs) before x
      at_first [] same told placed =
          let first : z ≡ x = ap (λ (l : List X). get_or l 0 x) same in
          record { front = []; rest = xs; is = ap (λ (w : X). w ∷ xs) first; left = refl; passes = ap test (sym first) ∙ told }
      at_first (b ∷ before) same told placed =
          let first : z ≡ b = ap (λ (l : List X). get_or l 0 z) same in
          let p = placed before (ap (λ (l : List X). drop 1 l) same) in
          record { front = z ∷ p.front; rest = p.rest; is = ap (λ (l : List X). z ∷ l) p.is; left = rw told (λ i. sym first i ∷ p.left i); passes = p.passes }

module _ {S D P G C : Type 0} where
  -- what a rewrite leaves, by what it says
  pub entries-left : (views : ℕ) (c : Finalization S D P G C) (xs : List (Artifact S D P G C)) → entries (rewritten views c xs) ≡ left_by views c.proposal (entries xs)
  entries-left views c xs = ap (λ (l : List (Entry D)). taken (finalize c.proposal) ∷ l) (filter-map entry (λ e. nat_lt c.proposal.round.view (reach views e)) xs)

  -- what stands before finalizes no more
  front-final : (before rest : List (Artifact S D P G C)) → last_finalized (entries before) ≤ last_finalized (entries (before ++ rest))
  front-final [] rest = omega arith
  front-final (x ∷ before) rest = omega (arith, front-final before rest)

-- what is kept is lawful, and stands for all that was ever recorded
pub record IsSound {S D P G C : Type 0} (attests : ℕ → Statement D → G → Type 0) (certifies : Statement D → C → Type 0) (owner : Owner) (ever kept : List (Artifact S D P G C)) : Type 0 where
  pub lawful : IsLawful attests certifies owner kept
  pub stands : StandsForAll owner.term_length (entries ever) (entries kept)

module _ {S D P G C : Type 0} {attests : ℕ → Statement D → G → Type 0} {certifies : Statement D → C → Type 0} {owner : Owner} (some : 0 < owner.term_length) where
  -- a rewritten record is lawful
  pub rewritten-lawful : (record_ : List (Artifact S D P G C)) (c : Finalization S D P G C) → IsLawful attests certifies owner record_ → Contains record_ (artifact.Finalization c) → c.proposal.round.view ≡ last_finalized (entries record_)
      → IsLawful attests certifies owner (rewritten owner.term_length c record_)
  rewritten-lawful record_ c lawful there last before after x is = at_place before is
    where
      at_floor : Fits attests certifies owner [] (artifact.Finalization c)
      at_floor =
          let s = stands (λ (y : Artifact S D P G C). y) record_ (artifact.Finalization c) (subst (λ (l : List (Artifact S D P G C)). Contains l (artifact.Finalization c)) (sym (map_same record_)) there) in
          let fits : Fits attests certifies owner s.before (artifact.Finalization c) = subst (Fits attests certifies owner s.before) s.gives (lawful s.before s.after s.x s.is) in
          record {
            verifies = fits.verifies;
            follows = record { from_one = fits.follows.from_one; room = fits.follows.room; parent_below = fits.follows.parent_below; first = λ t like here. absurd (omega (arith, here.1)) };
          }
        where
          map_same : (xs : List (Artifact S D P G C)) → map (λ (y : Artifact S D P G C). y) xs ≡ xs
          map_same [] = refl
          map_same (y ∷ xs) = ap (λ (l : List (Artifact S D P G C)). y ∷ l) (map_same xs)

      at_place : (before : List (Artifact S D P G C)) → rewritten owner.term_length c record_ ≡ before ++ x ∷ after → Fits attests certifies owner before x
      at_place [] same = subst (Fits attests certifies owner []) (ap (λ (l : List (Artifact S D P G C)). get_or l 0 x) same) at_floor
      at_place (b ∷ before) same =
          let first : artifact.Finalization c ≡ b = ap (λ (l : List (Artifact S D P G C)). get_or l 0 (artifact.Finalization c)) same in
          let test = λ (y : Artifact S D P G C). nat_lt c.proposal.round.view (reach owner.term_length (entry y)) in
          let p = place-left test record_ before after x (ap (λ (l : List (Artifact S D P G C)). drop 1 l) same) in
          let fits = lawful p.front p.rest x p.is in
          let low : last_finalized (entries p.front) ≤ c.proposal.round.view = omega (arith, front-final p.front (x ∷ p.rest), ap (λ (l : List (Artifact S D P G C)). last_finalized (entries l)) p.is, last) in
          let follows : MayFollow owner.term_length (left_by owner.term_length c.proposal (entries p.front)) (entry x) =
          may-still owner.term_length some c.proposal (entries p.front) low (entry x) (below-told c.proposal.round.view (reach owner.term_length (entry x)) p.passes) fits.follows in
          let at_front : Fits attests certifies owner (rewritten owner.term_length c p.front) x = record {
            verifies = fits.verifies;
            follows = subst (λ (l : List (Entry D)). MayFollow owner.term_length l (entry x)) (sym (entries-left owner.term_length c p.front)) follows;
          } in
          subst (λ (l : List (Artifact S D P G C)). Fits attests certifies owner l x) (λ i. first i ∷ sym p.left i) at_front

  -- what is kept of all that was ever recorded is lawful, and stands for it
  pub kept-sound : {ever kept : List (Artifact S D P G C)} → IsRecorded attests certifies owner ever kept → IsSound attests certifies owner ever kept
  kept-sound nothing = record { lawful = lawful-nil; stands = nothing-stands-for owner.term_length }
  kept-sound (further {ever} {kept} x recorded fits) =
      let s = kept-sound recorded in
      record {
        lawful = lawful-push kept x s.lawful (record { verifies = fits.verifies; follows = may-follow owner.term_length some (entries ever) (entries kept) s.stands (entry x) fits.follows });
        stands = subst (λ (l : List (Entry D)). StandsForAll owner.term_length l (entries (kept ++ x ∷ []))) (sym (map-append entry ever (x ∷ [])))
            (subst (λ (l : List (Entry D)). StandsForAll owner.term_length (entries ever ++ entry x ∷ []) l) (sym (map-append entry kept (x ∷ [])))
            (stands-further-for owner.term_length (entries ever) (entries kept) (entry x) s.stands));
      }
  kept-sound (rewrote {ever} {kept} c recorded there last) =
      let s = kept-sound recorded in
      record {
        lawful = rewritten-lawful kept c s.lawful there last;
        stands = subst (λ (l : List (Entry D)). StandsForAll owner.term_length (entries ever) l) (sym (entries-left owner.term_length c kept))
            (stands-rewritten owner.term_length (entries ever) (entries kept) c.proposal (Contains-mapped entry kept (artifact.Finalization c) there) last s.stands);
      }

  -- what fits behind what is kept fits behind all, where a vote to notarize names a parent at or above the floor of what
  -- is kept
  pub ever-fits : {ever kept : List (Artifact S D P G C)} (x : Artifact S D P G C) → IsRecorded attests certifies owner ever kept → IsFrom (floor (entries kept)) (entry x) → Fits attests certifies owner kept x → EverFits attests certifies owner ever kept x
  ever-fits {ever} {kept} x recorded high fits =
      let s = kept-sound recorded in
      record { verifies = fits.verifies; follows = may-ever-follow owner.term_length some (entries ever) (entries kept) s.stands (entry x) high fits.follows }
